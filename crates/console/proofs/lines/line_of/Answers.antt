-- `console::lines::line_of` meets its contract: the bytes from where the line begins up to its end.
use mathlib.Core.Path.{◌∙◌}
use Rattle.console.proofs.Numbered.{line-bytes}
use Rattle.console.proofs.lines.line_of.Goals as goal

pub returns : goal.returns
returns c =
    let s = c.args.text.now in
    rw c.line_end-end.ensures.0 (line-bytes s c.line_from-at.result) ∙ c.line_from-at.ensures.1
