-- The run spelling of a list: reading and writing it.
use Rattle.std.specs.Prelude.{◌≡◌, ℕ, zero, suc, ◌+◌, ◌-◌, ◌*◌, ◌/◌, ◌%◌, ◌<◌, ◌≤◌, true, false, ◌&&◌, ltb, leb, List, [], ◌∷◌, ◌++◌, length, take, drop, replicate, Some, None, Ok, Option, ◌==◌, nat_eq, nat_le, nat_lt, slice_index, slice_set, refl}
use Rattle.std.proofs.Common.{cond, get_or, one-add, arith, inl, inr, sym, ◌∙◌, ap, subst}
use Rattle.std.proofs.lemmas.List.{append_assoc, append-nil, drop_all, drop-drop, drop_more, drop-set-lt, length-append, length-replicate, length-set, length-take-le, replicate_more, take-append-drop, take_more_set}
use Rattle.std.proofs.lemmas.List.Sums.{prefix_len-drop_yes}
use Rattle.std.proofs.lemmas.Bool.{and_cases, and_from, and_right, both_ways, cases_Bool, eq-eqb, eqb-false, eqb-true, cond-false, cond-true, le-leb, leb-false, lt-leb, lt-ltb, ltb-false}
use Rattle.std.specs.List.{IsChunkByPrefix, prefix_len}
use Rattle.std.specs.Simd.{first_chunks}
use Rattle.book.specs.Memory.{headed}
use Rattle.book.proofs.Pushed.{pushed_yes}
use Rattle.lists.specs.Lists.{pushed, takes}
use Rattle.run_book.specs.Spelling.{behind, expanded, fitting, in_front, run_list, runs, with_run}

-- what is left of reading, after one run
abbrev onward : Option (List ℕ) → List ℕ → Option (List ℕ)
onward (Some list) pairs = fitting (behind list (expanded pairs))
onward None pairs = None

behind_behind : (a b : List ℕ) (o : Option (List ℕ)) → behind a (behind b o) ≡ behind (a ++ b) o
behind_behind a b (Some list) = ap Some (sym (append_assoc a b list))
behind_behind a b None = refl

too_long : (a b : List ℕ) (o : Option (List ℕ)) → 127 < length a + length b → fitting (behind a (behind b o)) ≡ None
too_long a b (Some list) h =
    let e : leb (length (a ++ (b ++ list))) 127 ≡ false = lt-leb _ 127 (omega (arith, length-append a (b ++ list), length-append b list)) in rw e
too_long a b None h = refl

pub run_step : (list : List ℕ) (port count : ℕ) (pairs : List ℕ)
    → fitting (behind list (expanded (port ∷ count ∷ pairs))) ≡ onward (with_run list port count) pairs
unfolding expanded
run_step list port count pairs =
    elim (cases_Bool (nat_lt port 8 && nat_lt 0 count)) [
      | inl run ↦ elim (cases_Bool (nat_le (length list + count) 127)) [
        | inl room ↦ rw (run, room) (ap fitting (behind_behind list (replicate count port) (expanded pairs)))
        | inr full ↦ rw (run, full) (too_long list (replicate count port) (expanded pairs)
            (omega (arith, leb-false (length list + count) 127 full, length-replicate count port)))
      ]
      | inr none ↦ rw none
    ]

-- one port more of a run
pub run_more : (start list after : List ℕ) (port i : ℕ) → list ≡ start ++ replicate i port → (Ok tt, after) ≡ pushed port list
    → after ≡ start ++ replicate (i + 1) port
run_more start list after port i e p =
    pushed_yes port list after p
    ∙ ap (λ l. l ++ port ∷ []) e
    ∙ append_assoc start (replicate i port) (port ∷ [])
    ∙ ap (λ l. start ++ l) (replicate_more i port)

-- a run for which there is no room
pub run_refused : (start list : List ℕ) (port count i : ℕ) → i < count → port < 8 → list ≡ start ++ replicate i port
    → takes list port ≡ false → None ≡ with_run start port count
run_refused start list port count i more fits e cannot =
    let n : length list ≡ length start + i = ap length e ∙ length-append start (replicate i port) ∙ ap (λ k. length start + k) (length-replicate i port) in
    let a : ltb port 8 ≡ true = lt-ltb port 8 fits in
    let full : leb (length start + count) 127 ≡ false =
    elim (and_cases (nat_lt (length list) 127) (nat_lt port 8) cannot) [
      | inl long ↦ lt-leb (length start + count) 127 (omega (arith, ltb-false (length list) 127 long))
      | inr big ↦ absurd (both_ways (nat_lt port 8) big a)
    ] in
    sym (cond-false _ _ _ (and_right (nat_lt port 8 && nat_lt 0 count) (nat_le (length start + count) 127) full))

-- a run all of whose ports were added
pub run_added : (start list : List ℕ) (port count i : ℕ) → i ≡ count → 0 < count → port < 8 → list ≡ start ++ replicate i port
    → length list ≤ 127 → Some list ≡ with_run start port count
run_added start list port count i all some fits e short =
    let n : length list ≡ length start + i = ap length e ∙ length-append start (replicate i port) ∙ ap (λ k. length start + k) (length-replicate i port) in
    let run = and_from (nat_lt port 8) (nat_lt 0 count) (lt-ltb port 8 fits) (lt-ltb 0 count some) in
    let room = le-leb (length start + count) 127 (omega arith) in
    ap Some (e ∙ ap (λ k. start ++ replicate k port) all) ∙ sym (cond-true _ _ _ (and_from _ _ run room))

-- reading from the start
pub runs_begin : (list bytes : List ℕ) → list ≡ [] → fitting (behind list (expanded bytes)) ≡ run_list bytes
unfolding run_list
runs_begin list bytes e = rw e (ap fitting (nothing_in_front (expanded bytes)))
  where
    nothing_in_front : (o : Option (List ℕ)) → behind [] o ≡ o
    nothing_in_front (Some l) = refl
    nothing_in_front None = refl

-- the two bytes at a place, and the bytes behind them
pub next_pair : (bytes : List ℕ) (i : ℕ) → 2 * i + 1 < length bytes
    → drop (2 * i) bytes ≡ slice_index bytes (2 * i) ∷ slice_index bytes (2 * i + 1) ∷ drop (2 * (i + 1)) bytes
next_pair bytes i h =
    let a = drop_more bytes (2 * i) 0 (omega arith) in
    let b = drop_more bytes (2 * i + 1) 0 h in
    let e : 2 * i + 1 + 1 ≡ 2 * (i + 1) = omega arith in
    a ∙ ap (λ l. slice_index bytes (2 * i) ∷ l) (b ∙ ap (λ n. slice_index bytes (2 * i + 1) ∷ drop n bytes) e)

-- the bytes as pairs: the next pair, and the bytes behind it
pair_at : (bytes : List ℕ) (n i : ℕ) → i < n → 2 * n ≤ length bytes
    → drop (2 * i) bytes ≡ get_or (get_or (first_chunks 2 n bytes) i []) 0 0 ∷ get_or (get_or (first_chunks 2 n bytes) i []) 1 0 ∷ drop (2 * (i + 1)) bytes
pair_at bytes zero i within fits = absurd (omega arith)
pair_at [] (suc n) i within fits = absurd (omega arith)
pair_at (a ∷ []) (suc n) i within fits = absurd (omega arith)
pair_at (a ∷ b ∷ bytes) (suc n) zero within fits = refl
pair_at (a ∷ b ∷ bytes) (suc n) (suc i) within fits =
    let here : 2 * suc i ≡ suc (suc (2 * i)) = omega arith in
    let next : 2 * (suc i + 1) ≡ suc (suc (2 * (i + 1))) = omega arith in
    rw (here, next) (pair_at bytes n i (omega arith) (omega arith))

pub next_chunk : (bytes : List ℕ) (pairs : List (List ℕ)) (i : ℕ) → pairs ≡ first_chunks 2 (length bytes / 2) bytes → i < length bytes / 2
    → drop (2 * i) bytes ≡ get_or (get_or pairs i []) 0 0 ∷ get_or (get_or pairs i []) 1 0 ∷ drop (2 * (i + 1)) bytes
next_chunk bytes pairs i e within = rw e (pair_at bytes (length bytes / 2) i within (omega arith))

-- one pair read, and one that is no run or too long
pub runs_more : (list after bytes : List ℕ) (port count i : ℕ) → drop (2 * i) bytes ≡ port ∷ count ∷ drop (2 * (i + 1)) bytes
    → Some after ≡ with_run list port count
    → fitting (behind after (expanded (drop (2 * (i + 1)) bytes))) ≡ fitting (behind list (expanded (drop (2 * i) bytes)))
runs_more list after bytes port count i next e =
    sym (ap (λ l. fitting (behind list (expanded l))) next
    ∙ run_step list port count (drop (2 * (i + 1)) bytes)
    ∙ ap (λ o. onward o (drop (2 * (i + 1)) bytes)) (sym e))

pub runs_stop : (list bytes : List ℕ) (port count i : ℕ) → drop (2 * i) bytes ≡ port ∷ count ∷ drop (2 * (i + 1)) bytes
    → None ≡ with_run list port count
    → None ≡ fitting (behind list (expanded (drop (2 * i) bytes)))
runs_stop list bytes port count i next e =
    sym (ap (λ l. fitting (behind list (expanded l))) next
    ∙ run_step list port count (drop (2 * (i + 1)) bytes)
    ∙ ap (λ o. onward o (drop (2 * (i + 1)) bytes)) (sym e))

-- all pairs read: a byte left over, or none
pub runs_left : (list bytes : List ℕ) (n : ℕ) → length bytes ≡ n + 1 → None ≡ fitting (behind list (expanded (drop n bytes)))
unfolding expanded
runs_left list bytes n h =
    let e : drop n bytes ≡ slice_index bytes n ∷ [] = drop_more bytes n 0 (omega arith) ∙ ap (λ l. slice_index bytes n ∷ l) (drop_all (n + 1) bytes (omega arith)) in
    rw e

pub runs_end : (list bytes : List ℕ) (n : ℕ) → length bytes ≤ n → length list ≤ 127
    → Some list ≡ fitting (behind list (expanded (drop n bytes)))
unfolding expanded
runs_end list bytes n h short =
    let room = le-leb (length list) 127 short in
    rw (drop_all n bytes h, append-nil list, room)

pub runs_all : (list bytes : List ℕ) (left : ℕ) → left ≡ length bytes % 2 → length list ≤ 127
    → cond (left == 0) (Some list) None ≡ fitting (behind list (expanded (drop (2 * (length bytes / 2)) bytes)))
runs_all list bytes left e short =
    elim (cases_Bool (left == 0)) [
      | inl none ↦ rw none (runs_end list bytes (2 * (length bytes / 2)) (omega (arith, eqb-true left 0 none)) short)
      | inr some ↦ rw some (runs_left list bytes (2 * (length bytes / 2)) (omega (arith, eqb-false left 0 some)))
    ]

-- one port in front of pairs
pub runs_cons : (port : ℕ) (ports : List ℕ) → runs (port ∷ ports) ≡ in_front port (runs ports)
unfolding runs
runs_cons port ports = refl

pub in_front_same : (port count : ℕ) (pairs : List ℕ) → in_front port (port ∷ count ∷ pairs) ≡ port ∷ suc count ∷ pairs
unfolding in_front
in_front_same port count pairs = rw (eq-eqb port port refl)

pub in_front_other : (port first count : ℕ) (pairs : List ℕ) → (port == first) ≡ false
    → in_front port (first ∷ count ∷ pairs) ≡ port ∷ 1 ∷ first ∷ count ∷ pairs
unfolding in_front
in_front_other port first count pairs other = rw other

-- the first run of a list, and the runs behind it
abbrev pub first_run : ℕ → List ℕ → List ℕ
first_run port ports = port ∷ (1 + prefix_len (nat_eq port) ports) ∷ runs (drop (prefix_len (nat_eq port) ports) ports)

first_same : (port : ℕ) (ports : List ℕ) → runs (port ∷ ports) ≡ first_run port ports
    → runs (port ∷ port ∷ ports) ≡ first_run port (port ∷ ports)
first_same port ports below =
    let k = prefix_len (nat_eq port) ports in
    let a : prefix_len (nat_eq port) (port ∷ ports) ≡ suc k = rw (eq-eqb port port refl) (one-add k) in
    let e : suc (1 + k) ≡ 1 + suc k = omega arith in
    runs_cons port (port ∷ ports)
    ∙ ap (in_front port) below
    ∙ in_front_same port (1 + k) (runs (drop k ports))
    ∙ ap (λ n. port ∷ n ∷ runs (drop k ports)) e
    ∙ sym (ap (λ n. port ∷ (1 + n) ∷ runs (drop n (port ∷ ports))) a)

first_other : (port next : ℕ) (ports : List ℕ) → (port == next) ≡ false → runs (next ∷ ports) ≡ first_run next ports
    → runs (port ∷ next ∷ ports) ≡ first_run port (next ∷ ports)
first_other port next ports other below =
    let k = prefix_len (nat_eq next) ports in
    let a : prefix_len (nat_eq port) (next ∷ ports) ≡ 0 = rw other in
    runs_cons port (next ∷ ports)
    ∙ ap (in_front port) below
    ∙ in_front_other port next (1 + k) (runs (drop k ports)) other
    ∙ ap (λ l. port ∷ 1 ∷ l) (sym below)
    ∙ sym (ap (λ n. port ∷ (1 + n) ∷ runs (drop n (next ∷ ports))) a)

runs_one : (port : ℕ) → runs (port ∷ []) ≡ port ∷ 1 ∷ runs []
unfolding runs in_front
runs_one port = refl

pub runs_first : (port : ℕ) (ports : List ℕ) → runs (port ∷ ports) ≡ first_run port ports
runs_first port [] = runs_one port
runs_first port (next ∷ ports) =
    let below = runs_first next ports in
    elim (cases_Bool (port == next)) [
      | inl same ↦ subst (λ p. runs (p ∷ next ∷ ports) ≡ first_run p (next ∷ ports)) (sym (eqb-true port next same)) (first_same next ports below)
      | inr other ↦ first_other port next ports other below
    ]

-- the run at a place of a list
module _ (ports : List ℕ) (at : ℕ) (within : at < length ports) where
  abbrev here : ℕ
  here = slice_index ports at

  pub run_some : 1 ≤ prefix_len (nat_eq here) (drop at ports)
  run_some = omega (arith, prefix_len-drop_yes (nat_eq here) ports at 0 within (eq-eqb here here refl))

  pub runs_at : runs (drop at ports) ≡ here ∷ prefix_len (nat_eq here) (drop at ports) ∷ runs (drop (at + prefix_len (nat_eq here) (drop at ports)) ports)
  runs_at =
      let k = prefix_len (nat_eq here) (drop (at + 1) ports) in
      let e = prefix_len-drop_yes (nat_eq here) ports at 0 within (eq-eqb here here refl) in
      let n : at + 1 + k ≡ at + prefix_len (nat_eq here) (drop at ports) = omega arith in
      ap runs (drop_more ports at 0 within)
      ∙ runs_first here (drop (at + 1) ports)
      ∙ ap (λ l. here ∷ (1 + k) ∷ runs l) (drop-drop k (at + 1) ports ∙ ap (λ m. drop m ports) n)
      ∙ ap (λ m. here ∷ m ∷ runs (drop (at + prefix_len (nat_eq here) (drop at ports)) ports)) (sym e)

-- one port in front of a run of the same port
in_front_equal : (port first count : ℕ) (pairs : List ℕ) → (port == first) ≡ true → in_front port (first ∷ count ∷ pairs) ≡ port ∷ suc count ∷ pairs
unfolding in_front
in_front_equal port first count pairs same = rw same

-- a run of equal ports that ends where the next port is another, or the list ends
run_ahead : (run rest : List ℕ) → 0 < length run
    → ((k : ℕ) → suc k < length run → (get_or (run ++ rest) k 0 == get_or (run ++ rest) (suc k) 0) ≡ true)
    → ((k : ℕ) → suc k ≡ length run → suc k < length (run ++ rest) → (get_or (run ++ rest) k 0 == get_or (run ++ rest) (suc k) 0) ≡ false)
    → runs (run ++ rest) ≡ get_or run 0 0 ∷ length run ∷ runs rest
run_ahead [] rest some equal ends = absurd (omega arith)
run_ahead (port ∷ []) [] some equal ends = runs_one port
run_ahead (port ∷ []) (next ∷ rest) some equal ends =
    let below = runs_first next rest in
    runs_cons port (next ∷ rest)
    ∙ ap (in_front port) below
    ∙ in_front_other port next _ _ (ends 0 refl (omega arith))
    ∙ ap (λ l. port ∷ 1 ∷ l) (sym below)
run_ahead (port ∷ next ∷ run) rest some equal ends =
    runs_cons port (next ∷ run ++ rest)
    ∙ ap (in_front port) (run_ahead (next ∷ run) rest (omega arith) (λ k h. equal (suc k) (omega arith)) (λ k e h. ends (suc k) (ap suc e) (omega arith)))
    ∙ in_front_equal port next (length (next ∷ run)) (runs rest) (equal 0 (omega arith))

pub runs_ahead : (all run rest : List ℕ) → all ≡ run ++ rest → 0 < length run → IsChunkByPrefix nat_eq all (length run)
    → runs all ≡ get_or run 0 0 ∷ length run ∷ runs rest
runs_ahead all run rest e some parts =
    let P : List ℕ → Type 0 = λ l. IsChunkByPrefix nat_eq l (length run) in
    let h : P (run ++ rest) = subst P e parts in
    ap runs e
    ∙ run_ahead run rest some
    (λ k within. let s : k + 1 ≡ suc k = omega arith in rw s at (h.0 k 0 (omega arith)))
    (λ k ends more. let s : suc k - 1 ≡ k = omega arith in let t = h.1 (omega arith) 0 in rw (← ends, s) at t)

-- one pair written into memory
module _ (memory : List ℕ) (n a b : ℕ) (room : n + 1 < length memory) where
  abbrev written : List ℕ
  written = slice_set (slice_set memory n a) (n + 1) b

  pub take_pair : take (n + 2) written ≡ take n memory ++ a ∷ b ∷ []
  take_pair =
      let e : n + 2 ≡ n + 1 + 1 = omega arith in
      ap (λ m. take m written) e
      ∙ take_more_set (slice_set memory n a) (n + 1) b (omega (arith, length-set memory n a))
      ∙ ap (λ l. l ++ b ∷ []) (take_more_set memory n a (omega arith))
      ∙ append_assoc (take n memory) (a ∷ []) (b ∷ [])

  pub drop_pair : drop (n + 2) written ≡ drop (n + 2) memory
  drop_pair = drop-set-lt (n + 2) (slice_set memory n a) (n + 1) b (omega arith) ∙ drop-set-lt (n + 2) memory n a (omega arith)

-- one run written
pub write_more : (ports memory before after : List ℕ) (n port count : ℕ) → n + 1 < length memory
    → runs before ≡ port ∷ count ∷ runs after → take n memory ++ runs before ≡ runs ports
    → take (n + 2) (slice_set (slice_set memory n port) (n + 1) count) ++ runs after ≡ runs ports
write_more ports memory before after n port count room run front =
    ap (λ l. l ++ runs after) (take_pair memory n port count room)
    ∙ append_assoc (take n memory) (port ∷ count ∷ []) (runs after)
    ∙ ap (λ l. take n memory ++ l) (sym run)
    ∙ front

pub write_behind : (ports memory start : List ℕ) (n a b : ℕ) → n + 1 < length memory → drop n memory ≡ drop n start
    → drop (n + 2) (slice_set (slice_set memory n a) (n + 1) b) ≡ drop (n + 2) start
write_behind ports memory start n a b room before =
    drop_pair memory n a b room ∙ sym (drop-drop 2 n memory) ∙ ap (drop 2) before ∙ drop-drop 2 n start

-- all runs written
pub write_end : (ports memory start rest : List ℕ) (n : ℕ) → length rest ≡ 0 → n ≤ length memory
    → take n memory ++ runs rest ≡ runs ports → drop n memory ≡ drop n start
    → (n ≡ length (runs ports)) × (memory ≡ headed (runs ports) start)
unfolding runs
write_end ports memory start [] n done fits front back =
    let e : take n memory ≡ runs ports = sym (append-nil (take n memory)) ∙ front in
    let size : n ≡ length (runs ports) = sym (length-take-le n memory fits) ∙ ap length e in (
      size,
      sym (take-append-drop n memory) ∙ ap (λ l. l ++ drop n memory) e ∙ ap (λ l. runs ports ++ l) (back ∙ ap (λ k. drop k start) size),
    )
write_end ports memory start (port ∷ rest) n done fits front back = absurd (omega arith)
