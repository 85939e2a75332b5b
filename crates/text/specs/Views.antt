-- What the parts of a text that the readers hand out mean, as lists of bytes.
use Rattle.std.specs.Prelude.{◌≡◌, ℕ, ◌-◌, cond, List, take, drop, Err, Result}
use Rattle.std.specs.List.{list_all}
use Rattle.text.specs.Text.{digit, letter, lines, numeral, words}
use Rattle.text.specs.declared.fault.WordFault.{WordFault}
use Rattle.text.specs.declared.fault.WordFault.TheVariants.{BadNumber}
use Rattle.text.specs.declared.word.Class.{Class}
use Rattle.text.specs.declared.word.Class.TheVariants.{Letters, Digits, Mixed}
use Rattle.text.specs.declared.word.Word.{Word}
use Rattle.text.specs.declared.word.Word.TheVariants.{Keyword, Number, Text}
use Rattle.text.specs.declared.line.Line.{Line}
use Rattle.text.specs.declared.lines.Lines.{Lines}

-- the bytes from one place up to and without another
abbrev pub part : List ℕ → ℕ → ℕ → List ℕ
part text start end = take (end - start) (drop start text)

-- the bytes of a line, or of what is left of it
abbrev pub line_bytes : Line → List ℕ
line_bytes l = part l.text.now l.start l.end

-- the words of a line, or of what is left of it
abbrev pub words_left : Line → List (List ℕ)
words_left l = words (line_bytes l)

-- whether a word is digits only, small letters only, or anything else
abbrev pub word_class : List ℕ → Class
word_class w = cond (list_all digit w) Digits (cond (list_all letter w) Letters Mixed)

abbrev pub kind_of : Word → Class
kind_of (Keyword bytes place) = Letters
kind_of (Number bytes place) = Digits
kind_of (Text bytes place) = Mixed

abbrev pub bytes_of : Word → List ℕ
bytes_of (Keyword bytes place) = bytes.now
bytes_of (Number bytes place) = bytes.now
bytes_of (Text bytes place) = bytes.now

abbrev pub place_of : Word → ℕ
place_of (Keyword bytes place) = place
place_of (Number bytes place) = place
place_of (Text bytes place) = place

-- a word is of the class of its bytes
abbrev pub IsClassified : Word → Type 0
IsClassified w = kind_of w ≡ word_class (bytes_of w)

-- the number that a word of line n stands for: only a word of digits may
abbrev pub number_of : ℕ → Word → Result ℕ WordFault
number_of n (Keyword bytes place) = Err (BadNumber n)
number_of n (Number bytes place) = numeral n bytes.now
number_of n (Text bytes place) = Err (BadNumber n)

-- the lines of a text that are left to be read
abbrev pub left : Lines → List (List ℕ)
left s = lines (drop s.at s.text.now)
