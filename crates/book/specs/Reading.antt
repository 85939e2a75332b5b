-- Bytes that spell a list, and how many they are.
use Rattle.std.specs.Prelude.{◌≡◌, ℕ, ◌≤◌, true, List, length, is_some, Some, None, Option, refl}
use Rattle.std.proofs.lemmas.Bool.{false≢true}

some_of : (o : Option (List ℕ)) → is_some o ≡ true → (list : List ℕ) × (o ≡ Some list)
some_of (Some list) h = (list, refl)
some_of None h = absurd (false≢true h)

-- a bound on the bytes of every spelling is one on bytes that spell something
pub narrow_from : (spelled : List ℕ → Option (List ℕ)) (bytes : List ℕ) (widest : ℕ)
    → ((list : List ℕ) → spelled bytes ≡ Some list → length bytes ≤ widest)
    → is_some (spelled bytes) ≡ true → length bytes ≤ widest
narrow_from spelled bytes widest each h = let s = some_of (spelled bytes) h in each s.0 s.1
