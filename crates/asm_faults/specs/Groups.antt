-- The conditions of a card, those of one number together, and what the code says of them.
-- Assumes nothing.
use Rattle.std.specs.Prelude.{ℕ, ◌≡◌, Bool, not, List, [], eqb}
use Rattle.base.specs.Test.{◌and◌, if}
use Rattle.language.specs.Card.{Card}
use Rattle.language.specs.Symbol.{Symbol}
use Rattle.language.specs.Fault.{Deck, bytes_printed, comma_there, conditions, first_broken, in_its_section, is_readable, label_once, label_readable, label_there, label_wanted, line_short, no_surplus, operands_fit, operands_formed, procedure_declared, remark_there, routine_declared, symbols_defined, text_delimited, text_there}

-- r is what f says of a card with line s
abbrev pub OfLine : (Card → Bool) → List ℕ → Bool → Type 0
OfLine f s r = (c : Card) → c.line ≡ s → r ≡ f c

-- conditions look at the deck's symbols alone
abbrev pub symbol_deck : List Symbol → Deck
symbol_deck all = record { cards = []; symbols = all; table = [] }

unfoldable pub line_formed : Card → Bool
line_formed c =
    bytes_printed c and line_short c and label_readable c and is_readable c.operation and operands_formed c and remark_there c
    and text_delimited c

unfoldable pub label_right : Deck → Card → Bool
label_right d c = label_there c and label_wanted c and label_once d c

unfoldable pub operands_right : Deck → Card → ℕ → Bool
operands_right d c fault = no_surplus c and operands_fit d c and comma_there c and text_there c and not (eqb fault 4)

unfoldable pub lists_right : Deck → Card → ℕ → Bool
lists_right d c fault = procedure_declared d c and routine_declared d c and not (eqb fault 6)

unfoldable pub fault_by : Deck → Card → ℕ → ℕ
fault_by d c fault =
    if (line_formed c)
    (if (in_its_section c)
    (if (label_right d c)
    (if (operands_right d c fault) (if (symbols_defined d c) (if (lists_right d c fault) (if (eqb fault 0) 0 7) 6) 5) 4) 3) 2) 1

-- r is the number of a card's first broken condition, in every deck with these symbols
abbrev pub FaultOf : List Symbol → Card → ℕ → ℕ → Type 0
FaultOf all c fault r = (d : Deck) → d.symbols ≡ all → r ≡ first_broken (conditions d c fault)
