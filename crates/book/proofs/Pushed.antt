-- A push that was taken put its port at the end of the list.
use Rattle.std.proofs.Common.{◌≡◌, ℕ, List, [], ◌∷◌, ◌++◌, length, Ok, Err, Result, ap, inl, inr, nat_lt}
use Rattle.std.proofs.lemmas.Bool.{cases_Bool}
use Rattle.lists.specs.Lists.{pushed}
use Rattle.lists.specs.declared.fault.ListFault.{ListFault}
use Rattle.lists.specs.declared.fault.ListFault.TheVariants.{Full, NoPort}

abbrev Pushed : Type 0
Pushed = Result (Unit {0}) ListFault × List ℕ

pub pushed_yes : (port : ℕ) (list after : List ℕ) → (Ok tt, after) ≡ pushed port list → after ≡ list ++ port ∷ []
pushed_yes port list after e =
    elim (cases_Bool (nat_lt (length list) 127)) [
      | inl short ↦ elim (cases_Bool (nat_lt port 8)) [
        | inl fits ↦ let e' : ◌≡◌ {A = Pushed} (Ok tt, after) (Ok tt, list ++ port ∷ []) = rw (short, fits) at e in ap (λ (p : Pushed). p.1) e'
        | inr big ↦ let e' : ◌≡◌ {A = Pushed} (Ok tt, after) (Err NoPort, list) = rw (short, big) at e in let no = ap (λ (p : Pushed). p.0) e' in cc
      ]
      | inr full ↦ let e' : ◌≡◌ {A = Pushed} (Ok tt, after) (Err Full, list) = rw full at e in let no = ap (λ (p : Pushed). p.0) e' in cc
    ]
