-- The reader between two lines: what is left to be read gives the answer to the whole.
use Rattle.std.proofs.Common.{◌≡◌, ℕ, ◌+◌, List, [], ◌∷◌, length, drop, Some, None, Ok, Err, Result, sym, refl, ap, ◌∙◌}
use Rattle.plan.specs.declared.wire.Wire.{Wire}
use Rattle.sheet.specs.Sheet.{Taken, ended, line_taken, lines_read, nothing, sheet_read, size_check}
use Rattle.sheet.specs.Tracks.{Took, Tracks}
use Rattle.sheet.proofs.Taking.{took_ok, took_err}
use Rattle.grammar.specs.declared.fault.SheetFault.{SheetFault}
use Rattle.sheet.specs.declared.reader.Reader.{Reader}
use Rattle.text.specs.Text as text
use Rattle.text.specs.Iterators.{GivesLine}
use Rattle.text.specs.Views.{left, line_bytes}
use Rattle.text.specs.declared.line.Line.{Line}
use Rattle.text.specs.declared.lines.Lines.{Lines}

-- what is left of the sheet gives the answer to the whole
pub record Underway (sheet : List ℕ) (lines : Lines) (reader : Reader) (table start : List Wire) : Type 0 where
  pub taken : Taken
  pub tracks : Tracks reader table start taken
  pub rest : sheet_read (length start) sheet ≡ lines_read (length start) (lines.number + 1) (left lines) taken
  pub whole : lines.text.now ≡ sheet

pub read_none : (room n : ℕ) (t : Taken) → lines_read room n [] t ≡ (t, ended n t t.boards)
unfolding lines_read
read_none room n t = refl

pub read_on : (room n : ℕ) (l : List ℕ) (ls : List (List ℕ)) (t u : Taken) → line_taken room n t l ≡ Ok u
    → lines_read room n (l ∷ ls) t ≡ lines_read room (n + 1) ls u
unfolding lines_read
read_on room n l ls t u e = rw (e, lines_read)

pub read_stop : (room n : ℕ) (l : List ℕ) (ls : List (List ℕ)) (t : Taken) (f : SheetFault) → line_taken room n t l ≡ Err f
    → lines_read room n (l ∷ ls) t ≡ (t, Err f)
unfolding lines_read
read_stop room n l ls t f e = rw (e, lines_read)

pub sheet_long : (room : ℕ) (sheet : List ℕ) (f : SheetFault) → size_check sheet ≡ Err f → sheet_read room sheet ≡ (nothing, Err f)
unfolding sheet_read
sheet_long room sheet f e = rw (e, sheet_read)

pub sheet_short : (room : ℕ) (sheet : List ℕ) → size_check sheet ≡ Ok tt
    → sheet_read room sheet ≡ lines_read room 1 (text.lines sheet) nothing
unfolding sheet_read
sheet_short room sheet e = rw (e, sheet_read)

-- at the first line
pub at_start : (sheet : List ℕ) (lines : Lines) (reader : Reader) (table : List Wire) → size_check sheet ≡ Ok tt
    → lines.text.now ≡ sheet → lines.at ≡ 0 → lines.number ≡ 0 → Tracks reader table table nothing → Underway sheet lines reader table table
at_start sheet lines reader table short whole at number tracks =
    let first : left lines ≡ text.lines sheet = ap (λ k. text.lines (drop k lines.text.now)) at ∙ ap text.lines whole in
    record {
      taken = nothing;
      tracks = tracks;
      rest = sheet_short (length table) sheet short
          ∙ sym (ap (λ ls. lines_read (length table) (lines.number + 1) ls nothing) first ∙ ap (λ n. lines_read (length table) (n + 1) (text.lines sheet) nothing) number);
      whole = whole;
    }

module _ {sheet : List ℕ} {lines : Lines} {reader : Reader} {table start : List Wire} (u : Underway sheet lines reader table start) (new : Lines) where
  -- no line is left
  pub at_end : GivesLine lines None new → sheet_read (length start) sheet ≡ (u.taken, ended (new.number + 1) u.taken u.taken.boards)
  at_end g =
      u.rest ∙ ap (λ ls. lines_read (length start) (lines.number + 1) ls u.taken) g.0.0 ∙ read_none (length start) (lines.number + 1) u.taken
      ∙ ap (λ l. (u.taken, ended (l.number + 1) u.taken u.taken.boards)) (sym g.1)

  module _ (line : Line) (g : GivesLine lines (Some line) new) (r : Result (Unit {0}) SheetFault) (now : Reader) (after : List Wire)
      (took : Took r now after start (line_taken (length start) line.number u.taken (line_bytes line))) where
    rest_here : sheet_read (length start) sheet ≡ lines_read (length start) line.number (line_bytes line ∷ left new) u.taken
    rest_here = let bytes = g.0 in let number = g.1.0 in let rest = u.rest in cc

    -- the next line is at fault
    pub at_fault : (f : SheetFault) → r ≡ Err f → sheet_read (length start) sheet ≡ (u.taken, Err f)
    at_fault f e =
        rest_here ∙ read_stop (length start) line.number (line_bytes line) (left new) u.taken f (took_err now after start f _ (rw e at took))

    -- the next line is taken
    pub at_line : r ≡ Ok tt → Underway sheet new now after start
    at_line e =
        let more = took_ok now after start _ (rw e at took) in
        record {
          taken = more.0;
          tracks = more.2;
          rest = rest_here ∙ read_on (length start) line.number (line_bytes line) (left new) u.taken more.0 more.1
              ∙ ap (λ n. lines_read (length start) (n + 1) (left new) more.0) (sym g.1.1);
          whole = ap (λ x. x.now) g.2 ∙ u.whole;
        }
