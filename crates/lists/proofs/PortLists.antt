-- The array behind a list of ports.
use Rattle.std.proofs.Common.{◌≡◌, ℕ, zero, suc, ◌<◌, ◌≤◌, true, false, ltb, List, [], ◌∷◌, ◌++◌, length, get_or, take, replicate, Ok, Err, Result, sym, refl, ap, subst, inl, inr, ⊎_elim, arith, nat_lt}
use Rattle.std.proofs.lemmas.List.{get_or_past, get_or-take, length-take-le, length-take}
use Rattle.std.proofs.lemmas.Bool.{and_from, and_left, and_parts, and_right, cases_Bool, cases_lt, lt-ltb, ltb-true}
use Rattle.lists.specs.Lists.{all_ports, pushed, takes}
use Rattle.lists.specs.Views.{ports_of}
use Rattle.lists.specs.declared.fault.ListFault.{ListFault}
use Rattle.lists.specs.declared.PortList.{PortList}

-- a list of one value has it at every place, and past its end where that is the default
pub get_or-replicate_same : {A : Type 0} (n k : ℕ) (d : A) → get_or (replicate n d) k d ≡ d
get_or-replicate_same zero k d = refl
get_or-replicate_same (suc n) zero d = refl
get_or-replicate_same (suc n) (suc k) d = get_or-replicate_same n k d

pub fit_none : (n k : ℕ) → get_or (replicate n 0) k 0 < 8
fit_none n k = subst (λ (x : ℕ). x < 8) (sym (get_or-replicate_same n k 0)) (omega arith)

-- the ports of a list are ports
pub fit_take : (n : ℕ) (xs : List ℕ) → ((k : ℕ) → get_or xs k 0 < 8) → (k : ℕ) → get_or (take n xs) k 0 < 8
fit_take n xs fit k =
    ⊎_elim
    (λ lt. rw (get_or-take n xs k 0 lt) (fit k))
    (λ past. rw (get_or_past (take n xs) k 0 (omega (arith, length-take n xs))) (omega arith))
    (cases_lt k n)

pub length_ports : (l : PortList) → length (ports_of l) ≡ l.len
length_ports l = length-take-le l.len l.ports (omega (arith, l.wide, l.short))

abbrev Pushed : Type 0
Pushed = Result (Unit {0}) ListFault × List ℕ

-- why a push was refused
pub pushed_no : (port : ℕ) (list after : List ℕ) (fault : ListFault) → (Err fault, after) ≡ pushed port list → takes list port ≡ false
pushed_no port list after fault e =
    elim (cases_Bool (nat_lt (length list) 127)) [
      | inl short ↦ elim (cases_Bool (nat_lt port 8)) [
        | inl fits ↦ let e' : ◌≡◌ {A = Pushed} (Err fault, after) (Ok tt, list ++ port ∷ []) = rw (short, fits) at e in let no = ap (λ (p : Pushed). p.0) e' in cc
        | inr big ↦ and_right (nat_lt (length list) 127) (nat_lt port 8) big
      ]
      | inr full ↦ and_left (nat_lt (length list) 127) (nat_lt port 8) full
    ]

-- a list all of whose places hold ports, and the test of it
pub all_ports_from : (xs : List ℕ) → ((k : ℕ) → get_or xs k 0 < 8) → all_ports xs ≡ true
unfolding all_ports
all_ports_from [] fit = refl
all_ports_from (x ∷ xs) fit = and_from (ltb x 8) (all_ports xs) (lt-ltb x 8 (fit 0)) (all_ports_from xs (λ k. fit (suc k)))

pub all_ports_at : (ports : List ℕ) → all_ports ports ≡ true → (k : ℕ) → get_or ports k 0 < 8
unfolding all_ports
all_ports_at [] fit k = omega arith
all_ports_at (port ∷ ports) fit zero = ltb-true port 8 (and_parts (ltb port 8) (all_ports ports) fit).0
all_ports_at (port ∷ ports) fit (suc k) = all_ports_at ports (and_parts (ltb port 8) (all_ports ports) fit).1 k

-- every list that a value holds: at most 127 ports, each a port
pub short_ports : (l : PortList) → length (ports_of l) ≤ 127
short_ports l = omega (arith, length_ports l, l.short)

pub fit_ports : (l : PortList) → all_ports (ports_of l) ≡ true
fit_ports l = all_ports_from (ports_of l) (fit_take l.len l.ports l.fit)
