-- What the struct stands for: the rows of a book, however it spells them.
use Rattle.rows.specs.Rows.{Rows}
use Rattle.rows.specs.Views.{rows_of}
use Rattle.book.specs.declared.spelled.SpelledBook.{SpelledBook}

module _ {S : Type 0} where
  abbrev pub held : SpelledBook S → Rows
  held b = rows_of b.rows
