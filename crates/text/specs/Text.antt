-- Text as a list of bytes: its lines, the words of a line, and the numbers that words stand for.
use Rattle.std.specs.Prelude.{ℕ, ◌+◌, ◌-◌, ◌*◌, Bool, true, false, cond, not, ◌&&◌, List, [], ◌∷◌, length, Ok, Err, fold, Result, ◌==◌, nat_le, nat_lt}
use Rattle.std.specs.List.{list_all}
use Rattle.text.specs.declared.fault.LineFault.{LineFault}
use Rattle.text.specs.declared.fault.LineFault.TheVariants.{TooLong, BadByte}
use Rattle.text.specs.declared.fault.WordFault.{WordFault}
use Rattle.text.specs.declared.fault.WordFault.TheVariants.{BadNumber}

-- one byte more at the front of the first piece
unfoldable pub onto : ℕ → List (List ℕ) → List (List ℕ)
onto b [] = (b ∷ []) ∷ []
onto b (p ∷ ps) = (b ∷ p) ∷ ps

-- the pieces that a separator ends; the last may lack it, and after a final separator none follows
unfoldable pub split : ℕ → List ℕ → List (List ℕ)
split s [] = []
split s (b ∷ bs) = cond (b == s) ([] ∷ split s bs) (onto b (split s bs))

unfoldable pub nonempty : List (List ℕ) → List (List ℕ)
nonempty [] = []
nonempty ([] ∷ ps) = nonempty ps
nonempty ((b ∷ bs) ∷ ps) = (b ∷ bs) ∷ nonempty ps

-- lines end with byte 10
abbrev pub lines : List ℕ → List (List ℕ)
lines text = split 10 text

-- one or more spaces separate words, and may stand at either end
abbrev pub words : List ℕ → List (List ℕ)
words line = nonempty (split 32 line)

abbrev pub other : ℕ → ℕ → Bool
other s b = not (b == s)

abbrev pub space : ℕ → Bool
space b = b == 32

abbrev pub printable : ℕ → Bool
printable b = nat_le 32 b && nat_le b 126

-- a line has at most 60 bytes, each of them 32 to 126
abbrev pub line_check : ℕ → List ℕ → Result (Unit {0}) LineFault
line_check n line =
    cond (nat_lt 60 (length line)) (Err (TooLong n)) (cond (list_all printable line) (Ok tt) (Err (BadByte n)))

abbrev pub digit : ℕ → Bool
digit b = nat_le 48 b && nat_le b 57

abbrev pub letter : ℕ → Bool
letter b = nat_le 97 b && nat_le b 122

-- one to three bytes, the first of several not the digit 0
abbrev pub plain : List ℕ → Bool
plain [] = false
plain (a ∷ []) = true
plain (a ∷ b ∷ []) = not (a == 48)
plain (a ∷ b ∷ c ∷ []) = not (a == 48)
plain (a ∷ b ∷ c ∷ d ∷ ds) = false

-- what decimal digits stand for
abbrev pub value : List ℕ → ℕ
value ds = fold (λ n d. n * 10 + (d - 48)) 0 ds

-- the number that a word of line n stands for
abbrev pub numeral : ℕ → List ℕ → Result ℕ WordFault
numeral n w = cond (list_all digit w && plain w) (Ok (value w)) (Err (BadNumber n))
