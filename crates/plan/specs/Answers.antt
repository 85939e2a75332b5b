-- Answers that may be refusals: one step after another, and a fault kept whole inside another.
use Rattle.std.specs.Prelude.{Ok, Err, Result}

-- the next step, unless this one refused
module _ {S T E : Type 0} where
  abbrev pub bind : Result S E → (S → Result T E) → Result T E
  bind (Ok x) next = next x
  bind (Err e) next = Err e

-- a refusal, wrapped
module _ {T E F : Type 0} where
  abbrev pub lift : (E → F) → Result T E → Result T F
  lift wrap (Ok x) = Ok x
  lift wrap (Err e) = Err (wrap e)
