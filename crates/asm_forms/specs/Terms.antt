-- What a text is read as, a number or a symbol, apart from the form made of it.
-- Assumes nothing.
use Rattle.std.specs.Prelude.{ℕ, List, Option, Some, None}
use Rattle.language.specs.Text.{Parsed, number_of, parsed, symbol_of, unparsed}
use Rattle.language.specs.Form.{Term, constant, named}
use Rattle.asm_types.specs.Views.{cut_term, term_view}
use Rattle.asm_types.specs.declared.Term as declared

pub data Read : Type 0 where
  read : Term → Read
  unread : Read

-- a symbol first, as `with_term` reads it
abbrev pub read_of : Parsed → Parsed → Read
read_of (parsed k) n = read (named k)
read_of unparsed (parsed n) = read (constant n)
read_of unparsed unparsed = unread

abbrev pub term_in : List ℕ → Read
term_in s = read_of (symbol_of s) (number_of s)

abbrev pub cut_read : Read → Read
cut_read (read v) = read (cut_term v)
cut_read unread = unread

abbrev pub value_view : Option declared.Term → Read
value_view (Some v) = read (term_view v)
value_view None = unread
