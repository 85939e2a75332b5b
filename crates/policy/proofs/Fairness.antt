-- Turning is fair: the picks at a board go round its mask, whatever comes at other boards.
use Rattle.std.proofs.Common.{◌≡◌, ℕ, zero, suc, ◌<◌, true, List, [], ◌∷◌, length, sym, refl, ap, ◌∙◌, inl, inr, arith}
use Rattle.std.proofs.lemmas.Bool.{cases_eq, eq-eqb, ne_eqb}
use Rattle.policy.specs.Masks.{has}
use Rattle.policy.specs.Picks.{picks_at}
use Rattle.policy.specs.Rules.{kept, last_of, next, turning_rule}
use Rattle.policy.specs.Turns.{Fair, Unchanged, among, before}
use Rattle.policy.specs.declared.offer.Offer.{Offer}
use Rattle.policy.specs.Bits.{has_none}
use Rattle.policy.proofs.Keeping.{kept_elsewhere, kept_here, length_kept}
use Rattle.policy.specs.Lows.{next_has}
use Rattle.policy.proofs.Rounds.{before_same, comes_again, others_first, turns}

module _ (board mask : ℕ) (small : board < 128) (some : 0 < mask) where
  -- offers at other boards change nothing, and each at this one takes the next port
  picks_turns : (s : List ℕ) → board < length s → (later : List Offer) → Unchanged board mask later
      → (n : ℕ) × (picks_at turning_rule board s later ≡ turns mask (last_of s board) n)
  unfolding picks_at turns
  picks_turns s in_List [] same = (zero, refl)
  picks_turns s in_List (o ∷ os) same =
      let port = next o.permitted (last_of s o.board) in
      let s' = kept s o port in
      let long = length_kept s o port in
      let rest = picks_turns s' (omega arith) os same.1 in
      elim (cases_eq o.board board) [
        | inl e ↦
            let mask_is = same.0 e in
            let port_is : port ≡ next mask (last_of s board) =
            ap (λ b. next o.permitted (last_of s b)) e ∙ ap (λ m. next m (last_of s board)) mask_is in
            let last_is : last_of s' board ≡ port =
            ap (last_of s') (sym e) ∙ kept_here s o port (omega arith) (omega arith) (omega arith) in (
              suc rest.0,
              rw (eq-eqb o.board board e)
                  (ap (λ ps. port ∷ ps) (rest.1 ∙ ap (λ l. turns mask l rest.0) last_is)
                  ∙ ap (λ p. p ∷ turns mask p rest.0) port_is),
            )
        | inr e ↦ (
          rest.0,
          rw (ne_eqb o.board board e)
              (rest.1 ∙ ap (λ l. turns mask l rest.0) (kept_elsewhere s o port board (λ q. e (sym q)))),
        )
      ]

  -- after a pick of the port
  fair : (port : ℕ) (s : List ℕ) → board < length s → mask < 256 → has mask port ≡ true → last_of s board ≡ port
      → Fair turning_rule board mask port s
  fair port s in_List byte h last_is = record {
    others = λ later same again other has_other differs.
        let t = picks_turns s in_List later same in
        let n = t.0 in
        let is : picks_at turning_rule board s later ≡ turns mask port n = t.1 ∙ ap (λ l. turns mask l n) last_is in
        let again' : among port (turns mask port n) ≡ true = rw is at again in
        let whole : before port (turns mask port n) ≡ before port (turns mask port 8) =
        before_same mask port port n 8 again' (comes_again mask port byte some h) in
        rw (is, whole) (others_first mask port byte some h other has_other differs);
  }

-- a mask of no port has no other port
fair_none : (board port : ℕ) (s : List ℕ) → Fair turning_rule board 0 port s
fair_none board port s = record {
  others = λ later same again other has_other differs. absurd (has_none other has_other);
}

-- so it is after every pick
pub fair_after : (s : List ℕ) (o : Offer) (r : ℕ) (t : List ℕ) → length s ≡ 128 → o.permitted < 256
    → (r, t) ≡ turning_rule s o → o.board < 128 → Fair turning_rule o.board o.permitted r t
fair_after s o r t wide byte is small =
    let port = next o.permitted (last_of s o.board) in
    let r_is : r ≡ port = ap (λ p. p.0) is in
    let t_is : t ≡ kept s o port = ap (λ p. p.1) is in
    elim (cases_eq o.permitted 0) [
      | inl e ↦ rw e (fair_none o.board r t)
      | inr e ↦
          let long = length_kept s o port in
          let some : 0 < o.permitted = omega arith in
          let last_is = kept_here s o port small (omega arith) some in
          let h = next_has o.permitted (last_of s o.board) byte some in
          rw (r_is, t_is)
          (fair o.board o.permitted small some port (kept s o port) (omega arith) byte h last_is)
    ]
