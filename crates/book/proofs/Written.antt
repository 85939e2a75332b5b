-- A spelling written first in memory is what stands there then.
use Rattle.std.proofs.Common.{◌≡◌, ℕ, ◌≤◌, List, length, take, drop, Some, None, Option, MatchOption, sym, refl, ap, ◌∙◌, subst, inl, inr, nat_le}
use Rattle.std.proofs.lemmas.Bool.{cases_Bool}
use Rattle.std.proofs.lemmas.List.{drop_at, take_at}
use Rattle.book.specs.Memory.{Written, headed, put_first}

pub written_from : (widest : ℕ) (spelled : List ℕ → Option (List ℕ)) (list bytes before after : List ℕ) (n : ℕ)
    → n ≡ length bytes → after ≡ headed bytes before → spelled bytes ≡ Some list → length bytes ≤ widest
    → Written widest spelled (Some list) before after n
written_from widest spelled list bytes before after n size exact spells fits = record {
  spelling = ap spelled (ap (take n) exact ∙ take_at bytes (drop (length bytes) before) n (sym size)) ∙ spells;
  behind = ap (drop n) exact ∙ drop_at bytes (drop (length bytes) before) n (sym size) ∙ ap (λ k. drop k before) (sym size);
  bound = subst (λ k. k ≤ widest) (sym size) fits;
}

abbrev Put : Type 0
Put = Option ℕ × List ℕ

-- the same where memory may be too small
pub written_first : (widest : ℕ) (spelled : List ℕ → Option (List ℕ)) (list bytes before after : List ℕ) (result : Option ℕ)
    → (result, after) ≡ put_first widest bytes before → spelled bytes ≡ Some list → length bytes ≤ widest
    → MatchOption result (after ≡ before) (Written widest spelled (Some list) before after)
written_first widest spelled list bytes before after result e spells fits =
    let P : Option ℕ → Type 0 = λ r. MatchOption r (after ≡ before) (Written widest spelled (Some list) before after) in
    elim (cases_Bool (nat_le widest (length before))) [
      | inl room ↦
          let e' : ◌≡◌ {A = Put} (result, after) (Some (length bytes), headed bytes before) = rw room at e in
          subst P (sym (ap (λ (p : Put). p.0) e'))
          (written_from widest spelled list bytes before after (length bytes) refl (ap (λ (p : Put). p.1) e') spells fits)
      | inr small ↦
          let e' : ◌≡◌ {A = Put} (result, after) (None, before) = rw small at e in
          subst P (sym (ap (λ (p : Put). p.0) e')) (ap (λ (p : Put). p.1) e')
    ]
