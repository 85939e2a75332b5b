-- What is written is read back: lines, words and numbers.
use Rattle.std.proofs.Common.{◌≡◌, ℕ, zero, suc, ◌+◌, ◌<◌, ◌≤◌, Bool, true, ◌&&◌, eqb, leb, List, [], ◌∷◌, ◌++◌, length, Ok, refl, ap, ◌∙◌, arith, length-append}
use Rattle.std.proofs.lemmas.Bool.{and_parts, and_from, not-true, leb-true, eqb-true}
use Rattle.std.proofs.lemmas.Bool.Decides.{Decides-below_and, nat_tests}
use Rattle.std.specs.List.{list_all}
use Rattle.std.proofs.lemmas.List.Elements.{All-weaker}
use Rattle.std.proofs.lemmas.List.Folds.{list_all-append}
use Rattle.std.proofs.lemmas.List.Sums.{AllPass-from_list_all, list_all-from_AllPass}
use Rattle.text.specs.Text.{digit, lines, nonempty, numeral, onto, other, plain, printable, split, value, words}
use Rattle.text.specs.Writing.{digits, ended_lines, spaced}
use Rattle.text.proofs.Splits.{split_none, split_at, split_on, onto_none, onto_piece, nonempty_piece}

pub all_weaker : (p q : ℕ → Bool) → ((b : ℕ) → p b ≡ true → q b ≡ true) → (xs : List ℕ) → list_all p xs ≡ true → list_all q xs ≡ true
all_weaker p q f xs h =
    list_all-from_AllPass q xs (All-weaker (λ b. p b ≡ true) (λ b. q b ≡ true) f xs (AllPass-from_list_all p xs h))

-- a piece without the separator, then the separator
pub split_front : (s : ℕ) (w r : List ℕ) → list_all (other s) w ≡ true → split s (w ++ s ∷ r) ≡ w ∷ split s r
split_front s [] r h = split_at s s r (grind (arith, nat_tests))
split_front s (b ∷ bs) r h =
    let parts = and_parts (other s b) (list_all (other s) bs) h in
    split_on s b (bs ++ s ∷ r) (not-true (eqb b s) parts.0) ∙ ap (onto b) (split_front s bs r parts.1) ∙ onto_piece b bs (split s r)

-- a last piece without its separator
pub split_last : (s b : ℕ) (bs : List ℕ) → list_all (other s) (b ∷ bs) ≡ true → split s (b ∷ bs) ≡ (b ∷ bs) ∷ []
split_last s b [] h =
    let parts = and_parts (other s b) true h in
    split_on s b [] (not-true (eqb b s) parts.0) ∙ ap (onto b) (split_none s) ∙ onto_none b
split_last s b (c ∷ cs) h =
    let parts = and_parts (other s b) (list_all (other s) (c ∷ cs)) h in
    split_on s b (c ∷ cs) (not-true (eqb b s) parts.0) ∙ ap (onto b) (split_last s c cs parts.1) ∙ onto_piece b (c ∷ cs) []

-- neither a space nor the end of a line, and printable
abbrev pub visible : ℕ → Bool
visible b = leb 33 b && leb b 126

visible_space : (b : ℕ) → visible b ≡ true → other 32 b ≡ true
visible_space b h = grind (arith, nat_tests)

visible_end : (b : ℕ) → visible b ≡ true → other 10 b ≡ true
visible_end b h = grind (arith, nat_tests)

visible_printable : (b : ℕ) → visible b ≡ true → printable b ≡ true
visible_printable b h = grind (arith, nat_tests)

-- a word: at least one byte, all visible
pub record Solid (w : List ℕ) : Type 0 where
  pub some : 0 < length w
  pub visibly : list_all visible w ≡ true

abbrev pub AllSolid : List (List ℕ) → Type 0
AllSolid [] = Unit {0}
AllSolid (w ∷ ws) = Solid w × AllSolid ws

words_front : (w r : List ℕ) → Solid w → words (w ++ 32 ∷ r) ≡ w ∷ words r
words_front [] r s = absurd (let h = s.some in omega arith)
words_front (b ∷ bs) r s =
    ap nonempty (split_front 32 (b ∷ bs) r (all_weaker visible (other 32) visible_space (b ∷ bs) s.visibly))
    ∙ nonempty_piece b bs (split 32 r)

words_last : (w : List ℕ) → Solid w → words w ≡ w ∷ []
unfolding nonempty
words_last [] s = absurd (let h = s.some in omega arith)
words_last (b ∷ bs) s =
    ap nonempty (split_last 32 b bs (all_weaker visible (other 32) visible_space (b ∷ bs) s.visibly))

pub words_spaced : (ws : List (List ℕ)) → AllSolid ws → words (spaced ws) ≡ ws
unfolding spaced split nonempty
words_spaced [] s = refl
words_spaced (w ∷ []) s = words_last w s.0
words_spaced (w ∷ v ∷ vs) s = words_front w (spaced (v ∷ vs)) s.0 ∙ ap (λ r. w ∷ r) (words_spaced (v ∷ vs) s.1)

-- what holds of a space and of every visible byte holds of all bytes of a line
spaced_all : (p : ℕ → Bool) → p 32 ≡ true → ((b : ℕ) → visible b ≡ true → p b ≡ true)
    → (ws : List (List ℕ)) → AllSolid ws → list_all p (spaced ws) ≡ true
unfolding spaced
spaced_all p q f [] s = refl
spaced_all p q f (w ∷ []) s = all_weaker visible p f w s.0.visibly
spaced_all p q f (w ∷ v ∷ vs) s =
    list_all-append p w (32 ∷ spaced (v ∷ vs))
    ∙ and_from (list_all p w) (p 32 && list_all p (spaced (v ∷ vs))) (all_weaker visible p f w s.0.visibly)
    (and_from (p 32) (list_all p (spaced (v ∷ vs))) q (spaced_all p q f (v ∷ vs) s.1))

pub spaced_printable : (ws : List (List ℕ)) → AllSolid ws → list_all printable (spaced ws) ≡ true
spaced_printable ws s = spaced_all printable refl visible_printable ws s

pub spaced_one_line : (ws : List (List ℕ)) → AllSolid ws → list_all (other 10) (spaced ws) ≡ true
spaced_one_line ws s = spaced_all (other 10) refl visible_end ws s

-- lines that hold no end of line
abbrev pub AllLines : List (List ℕ) → Type 0
AllLines [] = Unit {0}
AllLines (l ∷ ls) = (list_all (other 10) l ≡ true) × AllLines ls

pub lines_ended : (ls : List (List ℕ)) → AllLines ls → lines (ended_lines ls) ≡ ls
unfolding ended_lines
lines_ended [] s = split_none 10
lines_ended (l ∷ ls) s = split_front 10 l (ended_lines ls) s.0 ∙ ap (λ r. l ∷ r) (lines_ended ls s.1)

-- every number up to 128, by computation
abbrev good_digits : ℕ → Bool
good_digits k =
    let w = digits k in
    (list_all digit w && plain w) && (eqb (value w) k && (leb 1 (length w) && (leb (length w) 3 && list_all visible w)))

abbrev all_good : ℕ → Bool
all_good zero = true
all_good (suc n) = good_digits n && all_good n

all_good_129 : all_good 129 ≡ true
all_good_129 = refl

-- the digits of a number up to 128
pub record Spelled (k : ℕ) : Type 0 where
  pub reads : (n : ℕ) → numeral n (digits k) ≡ Ok k
  pub solid : Solid (digits k)
  pub short : length (digits k) ≤ 3

pub spelled : (k : ℕ) → k < 129 → Spelled k
spelled k h =
    let test : good_digits k ≡ true = (Decides-below_and good_digits (λ j. good_digits j ≡ true) all_good (λ j. ((λ e. e), (λ e. e))) refl (λ _. refl) 129).0 all_good_129 k h in
    let w = digits k in
    let top = and_parts (list_all digit w && plain w) (eqb (value w) k && (leb 1 (length w) && (leb (length w) 3 && list_all visible w))) test in
    let two = and_parts (eqb (value w) k) (leb 1 (length w) && (leb (length w) 3 && list_all visible w)) top.1 in
    let three = and_parts (leb 1 (length w)) (leb (length w) 3 && list_all visible w) two.1 in
    let four = and_parts (leb (length w) 3) (list_all visible w) three.1 in
    record {
      reads = λ n. rw top.0 (ap Ok (eqb-true (value w) k two.0));
      solid = record { some = leb-true 1 (length w) three.0; visibly = four.1 };
      short = leb-true (length w) 3 four.0;
    }

pub length_spaced : (w v : List ℕ) (vs : List (List ℕ))
    → length (spaced (w ∷ v ∷ vs)) ≡ length w + 1 + length (spaced (v ∷ vs))
unfolding spaced
length_spaced w v vs = omega (arith, length-append w (32 ∷ spaced (v ∷ vs)))

pub length_spaced_one : (w : List ℕ) → length (spaced (w ∷ [])) ≡ length w
unfolding spaced
length_spaced_one w = refl

pub length_ended : (l : List ℕ) (ls : List (List ℕ)) → length (ended_lines (l ∷ ls)) ≡ length l + 1 + length (ended_lines ls)
unfolding ended_lines
length_ended l ls = omega (arith, length-append l (10 ∷ ended_lines ls))

pub length_ended_none : length (ended_lines []) ≡ 0
unfolding ended_lines
length_ended_none = refl
