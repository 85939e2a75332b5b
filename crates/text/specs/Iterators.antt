-- What a call of `next` gives: on the lines of a text, and on the words of a line.
use Rattle.std.specs.Prelude.{◌≡◌, ◌+◌, length, Option, MatchOption}
use Rattle.std.specs.Iterator.{YieldsFirstBy}
use Rattle.text.specs.Views.{IsClassified, bytes_of, left, line_bytes, part, place_of, words_left}
use Rattle.text.specs.declared.line.Line.{Line}
use Rattle.text.specs.declared.lines.Lines.{Lines}
use Rattle.text.specs.declared.word.Word.{Word}

-- the next line of the same text, with the next number; none, and nothing changed, where no line is left
abbrev pub GivesLine : Lines → Option Line → Lines → Type 0
GivesLine old r new =
    YieldsFirstBy line_bytes left old r new
    × MatchOption r (new ≡ old) (λ l. (l.number ≡ old.number + 1) × (new.number ≡ l.number) × (l.text ≡ old.text))
    × (new.text ≡ old.text)

-- the next word, by its class and at its place in the text; none, and nothing changed, where no word is left
abbrev pub GivesWord : Line → Option Word → Line → Type 0
GivesWord old r new =
    YieldsFirstBy bytes_of words_left old r new
    × MatchOption r (new ≡ old) (λ w. IsClassified w × (bytes_of w ≡ part old.text.now (place_of w) (place_of w + length (bytes_of w))))
    × (new.text ≡ old.text) × (new.end ≡ old.end) × (new.number ≡ old.number)
