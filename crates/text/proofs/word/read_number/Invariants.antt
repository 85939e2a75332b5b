use Rattle.std.proofs.Common.{◌≡◌, ◌+◌, ◌-◌, ◌*◌, ◌<◌, drop, fold}
use Rattle.std.specs.List.{list_all}
use Rattle.text.specs.Text.{digit, value}
use Rattle.text.proofs.word.read_number.Given as goal

abbrev pub invariant-loop-byte : goal.invariant-loop-byte
invariant-loop-byte l =
    (list_all digit l.bytes ≡ list_all digit (drop l.byte-index l.bytes))
    × (value l.bytes ≡ fold (λ n d. n * 10 + (d - 48)) l.value (drop l.byte-index l.bytes))
    × (l.byte-index ≡ 0 → l.value < 1)
    × (l.byte-index ≡ 1 → l.value < 10)
    × (l.byte-index ≡ 2 → l.value < 100)
    × (l.byte-index ≡ 3 → l.value < 1000)
