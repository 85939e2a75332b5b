-- The last picks that turning keeps.
use Rattle.std.proofs.Common.{◌≡◌, ℕ, ◌<◌, cond, not, ◌&&◌, eqb, ltb, ◌≢◌, List, length, ap, ⊎_elim, arith, length-set, get_or-set_other, get_or-set_same}
use Rattle.std.proofs.lemmas.Bool.{cases_Bool, lt-ltb, ne_eqb}
use Rattle.policy.specs.Rules.{kept, last_of}
use Rattle.policy.specs.declared.offer.Offer.{Offer}

-- after a pick at an offer: as long as before, the pick at its board, and the same at every other
module _ (s : List ℕ) (o : Offer) (port : ℕ) where
  pub length_kept : length (kept s o port) ≡ length s
  length_kept =
      ⊎_elim (λ e. rw e (length-set s o.board port)) (λ e. rw e) (cases_Bool (ltb o.board 128 && not (eqb o.permitted 0)))

  pub kept_here : o.board < 128 → o.board < length s → 0 < o.permitted → last_of (kept s o port) o.board ≡ port
  kept_here small in_List some =
      let l = lt-ltb o.board 128 small in
      let n = ne_eqb o.permitted 0 (λ e. omega arith) in
      rw (l, n) (get_or-set_same s o.board port 7 in_List)

  pub kept_elsewhere : (board : ℕ) → board ≢ o.board → last_of (kept s o port) board ≡ last_of s board
  kept_elsewhere board other =
      ⊎_elim
      (λ e. rw e (ap (λ n. cond (ltb board 128) n 7) (get_or-set_other s o.board board port 7 other)))
      (λ e. rw e)
      (cases_Bool (ltb o.board 128 && not (eqb o.permitted 0)))
