-- `asm_names::label_of` meets its contract: the symbol of the label's field, or 0.
use Rattle.language.specs.Text as Text
use mathlib.Core.Path.{◌≡◌, sym, ap, ◌∙◌}
use lib.ListN.{take}
use Rattle.language.specs.Text.{label_end, label_of, parsed_or, symbol_of}
use Rattle.asm_types.specs.Views.{parsed_view}
use Rattle.asm_names.proofs.Numbers.{label-taken, read-or}
use Rattle.asm_names.proofs.label_of.Goals as goal

pub returns : goal.returns
unfolding label_of
returns c =
    let x : parsed_view c.symbol_of.result ≡ symbol_of (take (label_end c.args.s.now) c.args.s.now) =
    c.symbol_of.ensures ∙ ap symbol_of (label-taken c.args.s.now _ c.find_byte-e.ensures.0) in
    c.unwrap_or.ensures ∙ read-or c.symbol_of.result 0 ∙ ap (λ (o : Text.Parsed). parsed_or o 0) x
