-- Splitting a list piece by piece, and a line word by word.
use Rattle.std.proofs.Common.{min, ◌≡◌, ℕ, suc, ◌+◌, ◌-◌, ◌<◌, ◌≤◌, true, false, eqb, List, [], ◌∷◌, length, get_or, take, drop, sym, refl, ap, ◌∙◌, ⊎_elim, add_assoc, one-add, arith, length-drop, drop-drop}
use lib.Seq.{drop-length}
use Rattle.std.proofs.lemmas.List.{drop_min, drop_all, drop_more, take_rest}
use Rattle.std.proofs.lemmas.List.Sums.{prefix_len-le-length}
use Rattle.text.specs.Cuts.{LineCut}
use Rattle.text.specs.Views.{part}
use Rattle.text.proofs.Parts.{length_part, part_drop, part_part}
use Rattle.std.specs.List.{prefix_len}
use Rattle.std.proofs.lemmas.Bool.{cases_Bool}
use Rattle.text.specs.Text.{split, onto, nonempty, lines, words, other, space}

pub split_none : (s : ℕ) → split s [] ≡ []
unfolding split
split_none s = refl

pub split_at : (s b : ℕ) (bs : List ℕ) → eqb b s ≡ true → split s (b ∷ bs) ≡ [] ∷ split s bs
unfolding split
split_at s b bs e = rw e

pub split_on : (s b : ℕ) (bs : List ℕ) → eqb b s ≡ false → split s (b ∷ bs) ≡ onto b (split s bs)
unfolding split
split_on s b bs e = rw e

pub onto_none : (b : ℕ) → onto b [] ≡ (b ∷ []) ∷ []
unfolding onto
onto_none b = refl

pub onto_piece : (b : ℕ) (p : List ℕ) (ps : List (List ℕ)) → onto b (p ∷ ps) ≡ (b ∷ p) ∷ ps
unfolding onto
onto_piece b p ps = refl

leading_stop : (s b : ℕ) (bs : List ℕ) → eqb b s ≡ true → prefix_len (other s) (b ∷ bs) ≡ 0
leading_stop s b bs e = rw e

leading_go : (s b : ℕ) (bs : List ℕ) → eqb b s ≡ false → prefix_len (other s) (b ∷ bs) ≡ suc (prefix_len (other s) bs)
leading_go s b bs e = rw e (one-add (prefix_len (other s) bs))

-- a list that is not empty begins with the piece up to the first separator
abbrev Piece : ℕ → List ℕ → Type 0
Piece s xs = split s xs ≡ take (prefix_len (other s) xs) xs ∷ split s (drop (suc (prefix_len (other s) xs)) xs)

piece_at : (s b : ℕ) (bs : List ℕ) → eqb b s ≡ true → Piece s (b ∷ bs)
piece_at s b bs e = rw (leading_stop s b bs e) (split_at s b bs e)

pub split_piece : (s b : ℕ) (bs : List ℕ) → Piece s (b ∷ bs)
split_piece s b [] =
    ⊎_elim (piece_at s b [])
    (λ e. rw (leading_go s b [] e) (split_on s b [] e ∙ ap (onto b) (split_none s) ∙ onto_none b ∙ ap (λ r. (b ∷ []) ∷ r) (sym (split_none s))))
    (cases_Bool (eqb b s))
split_piece s b (c ∷ cs) =
    let ih = split_piece s c cs in
    ⊎_elim (piece_at s b (c ∷ cs))
    (λ e. rw (leading_go s b (c ∷ cs) e) (split_on s b (c ∷ cs) e ∙ ap (onto b) ih ∙ onto_piece b _ _))
    (cases_Bool (eqb b s))

-- a space in front does not count
words_space : (b : ℕ) (bs : List ℕ) → eqb b 32 ≡ true → words (b ∷ bs) ≡ words bs
unfolding nonempty
words_space b bs e = rw (split_at 32 b bs e)

pub words_skip : (xs : List ℕ) → words xs ≡ words (drop (prefix_len space xs) xs)
words_skip [] = refl
words_skip (b ∷ bs) =
    let ih = words_skip bs in
    ⊎_elim
    (λ e. let k : prefix_len space (b ∷ bs) ≡ suc (prefix_len space bs) = rw e (one-add (prefix_len space bs)) in
    rw k (words_space b bs e ∙ ih))
    (λ e. let k : prefix_len space (b ∷ bs) ≡ 0 = rw e in rw k)
    (cases_Bool (eqb b 32))

-- at most one space behind a word
words_behind : (xs : List ℕ) → words (drop (prefix_len (other 32) xs) xs) ≡ words (drop (suc (prefix_len (other 32) xs)) xs)
words_behind [] = refl
words_behind (b ∷ bs) =
    let ih = words_behind bs in
    ⊎_elim
    (λ e. rw (leading_stop 32 b bs e) (words_space b bs e))
    (λ e. rw (leading_go 32 b bs e) ih)
    (cases_Bool (eqb b 32))

pub nonempty_piece : (b : ℕ) (p : List ℕ) (ps : List (List ℕ)) → nonempty ((b ∷ p) ∷ ps) ≡ (b ∷ p) ∷ nonempty ps
unfolding nonempty
nonempty_piece b p ps = refl

-- a line that begins with no space begins with a word
pub words_word : (b : ℕ) (bs : List ℕ) → eqb b 32 ≡ false
    → words (b ∷ bs) ≡ take (prefix_len (other 32) (b ∷ bs)) (b ∷ bs) ∷ words (drop (prefix_len (other 32) (b ∷ bs)) (b ∷ bs))
words_word b bs e =
    let n = prefix_len (other 32) bs in
    let k = leading_go 32 b bs e in
    let piece = rw k at (split_piece 32 b bs) in
    let behind = rw k at (words_behind (b ∷ bs)) in
    rw k (ap nonempty piece ∙ nonempty_piece b (take n bs) (split 32 (drop (suc n) bs)) ∙ ap (λ r. (b ∷ take n bs) ∷ r) (sym behind))

pub lines_none : (text : List ℕ) (at : ℕ) → length text ≤ at → lines (drop at text) ≡ []
lines_none text at h = ap (split 10) (drop_all at text h) ∙ split_none 10

-- how far the line goes that begins at a place
pub line_bound : (text : List ℕ) (at n : ℕ) → at < length text → n ≡ prefix_len (other 10) (part text at (length text))
    → at + n ≤ length text
line_bound text at n h e =
    omega (arith, prefix_len-le-length (other 10) (part text at (length text)), length_part text at (length text))

-- the line that begins at a place, and where the next begins
pub line_cut : (text : List ℕ) (at n next : ℕ) → at < length text → n ≡ prefix_len (other 10) (part text at (length text))
    → next ≡ min (length text) (at + n + 1) → LineCut text at (at + n) next
line_cut text at n next h e m =
    let bound = line_bound text at n h e in
    let n_is : n ≡ prefix_len (other 10) (drop at text) = e ∙ ap (prefix_len (other 10)) (take_rest text at) in
    let size : at + n - at ≡ n = omega arith in
    let least : next ≡ min (at + suc n) (length text) = omega arith in
    let behind : drop next text ≡ drop (suc n) (drop at text) =
    ap (λ j. drop j text) least ∙ drop_min (at + suc n) text ∙ sym (drop-drop (suc n) at text) in
    let cons : drop at text ≡ get_or text at 0 ∷ drop (at + 1) text = drop_more text at 0 h in
    let piece : Piece 10 (drop at text) = rw cons (split_piece 10 (get_or text at 0) (drop (at + 1) text)) in
    record {
      line = rw (size, behind, n_is) piece;
      onward = omega arith;
      within = omega arith;
    }

-- a line without words
pub words_none : (xs : List ℕ) → prefix_len space xs ≡ length xs → words xs ≡ []
unfolding nonempty split
words_none xs e = words_skip xs ∙ ap words (ap (λ k. drop k xs) e ∙ drop-length xs)

-- the first word of a line, behind the spaces in front
pub words_next : (xs : List ℕ) → prefix_len space xs < length xs
    → words xs ≡ take (prefix_len (other 32) (drop (prefix_len space xs) xs)) (drop (prefix_len space xs) xs)
    ∷ words (drop (prefix_len (other 32) (drop (prefix_len space xs) xs)) (drop (prefix_len space xs) xs))
words_next [] h = absurd (omega arith)
words_next (b ∷ bs) h =
    ⊎_elim
    (λ e. let k : prefix_len space (b ∷ bs) ≡ suc (prefix_len space bs) = rw e (one-add (prefix_len space bs)) in
    let ih = words_next bs (omega arith) in
    rw k (words_space b bs e ∙ ih))
    (λ e. let k : prefix_len space (b ∷ bs) ≡ 0 = rw e in rw k (words_word b bs e))
    (cases_Bool (eqb b 32))

-- the same by places: the next word is `size` bytes behind `skipped` spaces of what is left
pub record Next (text : List ℕ) (at end skipped size : ℕ) : Type 0 where
  pub word : words (part text at end) ≡ part text (at + skipped) (at + skipped + size) ∷ words (part text (at + skipped + size) end)
  pub bound : at + skipped + size ≤ length text
  pub long : length (part text (at + skipped) (at + skipped + size)) ≡ size

pub word_next : (text left : List ℕ) (at end skipped size : ℕ) → left ≡ part text at end
    → skipped ≡ prefix_len space left → skipped < length left → size ≡ prefix_len (other 32) (part left skipped (length left))
    → Next text at end skipped size
word_next text left at end skipped size is e h s =
    let whole : part left skipped (length left) ≡ drop skipped left = take_rest left skipped in
    let s' : size ≡ prefix_len (other 32) (drop skipped left) = s ∙ ap (prefix_len (other 32)) whole in
    let fits : skipped + size ≤ length left = omega (arith, prefix_len-le-length (other 32) (drop skipped left), length-drop skipped left) in
    let len : length left ≡ length (part text at end) = ap length is in
    let next : words left ≡ take size (drop skipped left) ∷ words (drop size (drop skipped left)) = rw (s', e) (words_next left (omega arith)) in
    let one : take size (drop skipped left) ≡ part text (at + skipped) (at + skipped + size) =
    ap (λ l. take size (drop skipped l)) is ∙ part_part text at end skipped size (omega arith) in
    let two : drop size (drop skipped left) ≡ part text (at + skipped + size) end =
    ap (λ l. drop size (drop skipped l)) is ∙ drop-drop size skipped (part text at end)
    ∙ part_drop text at end (skipped + size) (omega arith) ∙ ap (λ j. part text j end) (sym (add_assoc at skipped size)) in
    let bound : at + skipped + size ≤ length text = omega (arith, length_part text at end) in
    record {
      word = rw (← is, ← one, ← two) next;
      bound = bound;
      long = omega (arith, length_part text (at + skipped) (at + skipped + size));
    }
