-- The first broken condition by groups: conditions of one number are one test.
-- Assumes nothing.
use Prim.Native.Nat.{ℕ}
use mathlib.Core.Path.{◌≡◌, refl, sym, ap, ◌∙◌}
use mathlib.Core.Bool.{Bool, true, false, not}
use mathlib.Core.List.{List}
use lib.Dec.{eqb}
use Rattle.base.specs.Test.{◌and◌, if}
use Rattle.language.specs.Card.{Card}
use Rattle.language.specs.Symbol.{Symbol}
use Rattle.language.specs.Fault.{Deck, bytes_printed, comma_there, conditions, first_broken, in_its_section, is_readable, label_once, label_readable, label_there, label_wanted, line_short, no_surplus, operands_fit, operands_formed, procedure_declared, remark_there, routine_declared, symbols_defined, text_delimited, text_there}
use Rattle.asm_faults.specs.Groups.{fault_by, label_right, line_formed, lists_right, operands_right, symbol_deck}

-- one more test of the same number
next : (a b : Bool) (x y n : ℕ) → y ≡ if b x n → if a y n ≡ if (a and b) x n
unfolding if ◌and◌
next true b x y n e = e
next false b x y n e = refl

-- a test alone, and what follows it
alone : (a : Bool) (x y n : ℕ) → y ≡ x → if a y n ≡ if a x n
alone a x y n e = ap (λ (z : ℕ). if a z n) e

module _ (d : Deck) (c : Card) (fault : ℕ) where
  grouped : first_broken (conditions d c fault) ≡ fault_by d c fault
  unfolding conditions fault_by line_formed label_right operands_right lists_right
  grouped =
      next (bytes_printed c) _ _ _ 1
      (next (line_short c) _ _ _ 1
      (next (label_readable c) _ _ _ 1
      (next (is_readable c.operation) _ _ _ 1
      (next (operands_formed c) _ _ _ 1
      (next (remark_there c) (text_delimited c) _ _ 1
      (alone (text_delimited c) _ _ 1
      (alone (in_its_section c) _ _ 2
      (next (label_there c) _ _ _ 3
      (next (label_wanted c) (label_once d c) _ _ 3
      (alone (label_once d c) _ _ 3
      (next (no_surplus c) _ _ _ 4
      (next (operands_fit d c) _ _ _ 4
      (next (comma_there c) _ _ _ 4
      (next (text_there c) (not (eqb fault 4)) _ _ 4
      (alone (not (eqb fault 4)) _ _ 4
      (alone (symbols_defined d c) _ _ 5
      (next (procedure_declared d c) _ _ _ 6
      (next (routine_declared d c) (not (eqb fault 6)) _ _ 6 refl))))))))))))))))))

  -- only the symbols of the deck count
  by-symbols : fault_by (symbol_deck d.symbols) c fault ≡ fault_by d c fault
  unfolding fault_by label_right operands_right lists_right label_once operands_fit symbols_defined procedure_declared routine_declared
  by-symbols = refl

  pub by-groups : (all : List Symbol) (r : ℕ) → r ≡ fault_by (symbol_deck all) c fault → d.symbols ≡ all → r ≡ first_broken (conditions d c fault)
  by-groups all r h e = h ∙ ap (λ (a : List Symbol). fault_by (symbol_deck a) c fault) (sym e) ∙ by-symbols ∙ sym grouped
