-- What one line of a sheet says by itself: nothing, a board count or a wire, or how it is at fault.
use Rattle.std.specs.Prelude.{ℕ, cond, List, [], ◌∷◌, length, Some, None, Ok, Err, codes, Option, Result, ◌==◌, slice_index_or}
use Rattle.std.specs.Str.{bytes_eq}
use Rattle.plan.specs.Answers.{bind, lift}
use Rattle.plan.specs.States.{state_word}
use Rattle.plan.specs.declared.wire.WireState.{WireState}
use Rattle.plan.specs.declared.wire.WireState.TheVariants.{Whole, OutOnly, BackOnly, Dead}
use Rattle.grammar.specs.declared.entry.EndNumbers.{EndNumbers}
use Rattle.grammar.specs.declared.entry.Entry.{Entry}
use Rattle.grammar.specs.declared.entry.Entry.TheVariants.{Skip, Boards, Wires}
use Rattle.grammar.specs.declared.entry.Head.{Head}
use Rattle.grammar.specs.declared.entry.Head.TheVariants.{BoardsLine, WireLine, NoteLine}
use Rattle.grammar.specs.declared.fault.SheetFault.{SheetFault}
use Rattle.grammar.specs.declared.fault.SheetFault.TheVariants.{InLine, UnknownLine, WordCount}
use Rattle.text.specs.Text.{line_check, numeral, words}
use Rattle.text.specs.declared.fault.LineFault.TheVariants.{InWord}

-- the first word is `boards`, `wire` or `note`
abbrev pub head_of : List ℕ → Option Head
head_of w =
    cond (bytes_eq w (codes "boards")) (Some BoardsLine)
    (cond (bytes_eq w (codes "wire")) (Some WireLine) (cond (bytes_eq w (codes "note")) (Some NoteLine) None))

-- the state that a word names
abbrev pub state_of : List ℕ → Option WireState
state_of w =
    cond (bytes_eq w (state_word Whole)) (Some Whole)
    (cond (bytes_eq w (state_word OutOnly)) (Some OutOnly)
    (cond (bytes_eq w (state_word BackOnly)) (Some BackOnly) (cond (bytes_eq w (state_word Dead)) (Some Dead) None)))

-- a word where a number is due
abbrev pub number_at : ℕ → List ℕ → Result ℕ SheetFault
number_at n w = lift InLine (lift InWord (numeral n w))

-- `boards N`, by the words behind the first
abbrev pub boards_entry : ℕ → List (List ℕ) → Result Entry SheetFault
boards_entry n ws = cond (length ws == 1) (bind (number_at n (slice_index_or ws 0 [])) (λ k. Ok (Boards k))) (Err (WordCount n))

-- a board and a port
abbrev pub end_numbers : ℕ → List ℕ → List ℕ → Result EndNumbers SheetFault
end_numbers n board port =
    bind (number_at n board) (λ b. bind (number_at n port) (λ p. Ok (record { board = b; port = p })))

-- `wire A P B Q S`, by the words behind the first
abbrev pub wire_entry : ℕ → List (List ℕ) → Result Entry SheetFault
wire_entry n ws =
    cond (length ws == 5)
    (bind (end_numbers n (slice_index_or ws 0 []) (slice_index_or ws 1 [])) (λ first.
    bind (end_numbers n (slice_index_or ws 2 []) (slice_index_or ws 3 [])) (λ second.
    Ok (Wires (record { first = first; second = second; state = state_of (slice_index_or ws 4 []) })))))
    (Err (WordCount n))

abbrev pub headed : ℕ → List (List ℕ) → Option Head → Result Entry SheetFault
headed n ws None = Err (UnknownLine n)
headed n ws (Some NoteLine) = Ok Skip
headed n ws (Some BoardsLine) = boards_entry n ws
headed n ws (Some WireLine) = wire_entry n ws

-- a line without words says nothing
abbrev pub worded : ℕ → List (List ℕ) → Result Entry SheetFault
worded n [] = Ok Skip
worded n (w ∷ ws) = headed n ws (head_of w)

-- what line n says
abbrev pub entry_of : ℕ → List ℕ → Result Entry SheetFault
entry_of n line = bind (lift InLine (line_check n line)) (λ _. worded n (words line))
