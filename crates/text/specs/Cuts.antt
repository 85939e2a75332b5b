-- Where a line or a word is cut out of a text.
use Rattle.std.specs.Prelude.{◌≡◌, ℕ, ◌+◌, ◌<◌, ◌≤◌, List, ◌∷◌, length, drop}
use Rattle.text.specs.Text.{lines, words}
use Rattle.text.specs.Views.{part}

-- the line that begins at `start` ends at `end`, and the lines behind it begin at `next`
pub record LineCut (text : List ℕ) (start end next : ℕ) : Type 0 where
  pub line : lines (drop start text) ≡ part text start end ∷ lines (drop next text)
  pub onward : start < next
  pub within : next ≤ length text

-- the first word from `at` up to `stop` begins at `place` and ends at `end`
pub record WordCut (text : List ℕ) (at stop place end : ℕ) : Type 0 where
  pub word : words (part text at stop) ≡ part text place end ∷ words (part text end stop)
  pub long : place + length (part text place end) ≡ end
