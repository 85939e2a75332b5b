-- The path spelling of a list.
use Rattle.std.specs.Prelude.{◌≡◌, ℕ, ◌+◌, ◌<◌, ◌≤◌, true, false, ◌&&◌, leb, List, [], ◌∷◌, ◌++◌, length, drop, replicate, is_some, Some, None, Ok, Err, Result, nat_le, nat_lt, slice_index, slice_index_or, refl}
use Rattle.std.proofs.Common.{arith, inl, inr, ⊎_elim, subst, sym, ap}
use Rattle.std.proofs.lemmas.List.{append_assoc, drop_more, length-append}
use Rattle.std.proofs.lemmas.Bool.{and_cases, and_left, and_parts, and_right, cases_Bool, le-leb, le-ltb, leb-true, lt-leb, ltb-false}
use Rattle.std.specs.Result.{result_ok}
use Rattle.lists.specs.Lists.{all_ports, pushed, takes}
use Rattle.rows.specs.Rows.{listed}
use Rattle.lists.specs.Views.{ports_of}
use Rattle.lists.specs.declared.fault.ListFault.{ListFault}
use Rattle.lists.specs.declared.PortList.{PortList}
use Rattle.lists.proofs.PortLists.{all_ports_at, fit_ports, pushed_no, short_ports}
use Rattle.rows.proofs.Tables.{listed_both}
use Rattle.book.proofs.Pushed.{pushed_yes}
use Rattle.path_book.specs.Spelling.{path_list}

-- a list of ports spells itself
pub path_read_back : (list : List ℕ) → length list ≤ 127 → all_ports list ≡ true → path_list list ≡ Some list
unfolding path_list
path_read_back list short fit = rw (le-leb (length list) 127 short, fit)

pub path_reads : (l : PortList) → Some (ports_of l) ≡ path_list (ports_of l)
path_reads l = sym (path_read_back (ports_of l) (short_ports l) (fit_ports l))

-- one byte that is no port
not_all_ports : (xs ys : List ℕ) (b : ℕ) → 8 ≤ b → all_ports (xs ++ b ∷ ys) ≡ false
unfolding all_ports
not_all_ports [] ys b big = and_left (nat_lt b 8) (all_ports ys) (le-ltb b 8 big)
not_all_ports (x ∷ xs) ys b big = and_right (nat_lt x 8) (all_ports (xs ++ b ∷ ys)) (not_all_ports xs ys b big)

-- where the list so far cannot take the next byte, the bytes spell nothing
pub path_refused : (xs ys : List ℕ) (b : ℕ) → takes xs b ≡ false → path_list (xs ++ b ∷ ys) ≡ None
unfolding path_list
path_refused xs ys b cannot =
    ⊎_elim
    (λ long. let a : leb (length (xs ++ b ∷ ys)) 127 ≡ false = lt-leb _ 127 (omega (arith, ltb-false (length xs) 127 long, length-append xs (b ∷ ys))) in rw a)
    (λ big. let a = and_right (nat_le (length (xs ++ b ∷ ys)) 127) (all_ports (xs ++ b ∷ ys)) (not_all_ports xs ys b (ltb-false b 8 big)) in rw a)
    (and_cases (nat_lt (length xs) 127) (nat_lt b 8) cannot)

-- one byte more taken
pub path_more : (list after bytes : List ℕ) (i : ℕ) → i < length bytes → (Ok tt, after) ≡ pushed (slice_index bytes i) list
    → after ++ drop (i + 1) bytes ≡ list ++ drop i bytes
path_more list after bytes i h e =
    let b = slice_index_or bytes i 0 in
    rw (pushed_yes b list after e, drop_more bytes i 0 h) (append_assoc list (b ∷ []) (drop (i + 1) bytes))

-- a byte that the list so far cannot take
pub path_stop : (list after bytes : List ℕ) (i : ℕ) (r : Result (Unit {0}) ListFault) → i < length bytes → result_ok r ≡ None
    → (r, after) ≡ pushed (slice_index bytes i) list → path_list (list ++ drop i bytes) ≡ None
path_stop list after bytes i (Ok u) h none e = cc
path_stop list after bytes i (Err fault) h none e =
    let b = slice_index_or bytes i 0 in
    rw (drop_more bytes i 0 h) (path_refused list (drop (i + 1) bytes) b (pushed_no b list after fault e))

-- what is true of the path spelling
pub record Spells (bytes list : List ℕ) : Type 0 where
  pub same : bytes ≡ list
  pub short : length bytes ≤ 127
  pub fit : all_ports bytes ≡ true

pub path_view : (bytes list : List ℕ) → path_list bytes ≡ Some list → Spells bytes list
unfolding path_list
path_view bytes list e =
    elim (cases_Bool (nat_le (length bytes) 127 && all_ports bytes)) [
      | inl y ↦
          let b = and_parts (nat_le (length bytes) 127) (all_ports bytes) y in
          let s : Some bytes ≡ Some list = rw y at e in
          record { same = cc; short = leb-true (length bytes) 127 b.0; fit = b.1 }
      | inr n ↦ absurd (let s : None ≡ Some list = rw n at e in let z : ◌≡◌ {A = ℕ} 0 1 = cc in omega arith)
    ]

-- nothing shorter spells the list
pub path_shortest : (bytes list : List ℕ) → path_list bytes ≡ Some list → length list ≤ length bytes
path_shortest bytes list e = omega (arith, ap length (path_view bytes list e).same)

pub path_widest : (bytes list : List ℕ) → path_list bytes ≡ Some list → length bytes ≤ 127
path_widest bytes list e = (path_view bytes list e).short

-- the widest spelling: 127 ports 0
pub path_reached : (bytes : List ℕ) × (is_some (path_list bytes) ≡ true) × (length bytes ≡ 127)
unfolding path_list all_ports
path_reached = (replicate 127 0, refl, refl)

pub path_fit : (bytes : List ℕ) (k : ℕ) → slice_index (listed (path_list bytes)) k < 8
path_fit bytes k =
    listed_both (path_list bytes) (λ l. slice_index l k < 8) (omega arith)
    (λ list e. let v = path_view bytes list e in subst (λ l. slice_index l k < 8) v.same (all_ports_at bytes v.fit k))

pub path_short : (bytes : List ℕ) → length (listed (path_list bytes)) ≤ 127
path_short bytes =
    listed_both (path_list bytes) (λ l. length l ≤ 127) (omega arith)
    (λ list e. let v = path_view bytes list e in subst (λ l. length l ≤ 127) v.same v.short)
