-- `shapes::cards::prc_ok` meets its contract: each return rewrites with the tests that led there.
use Rattle.shapes.proofs.Rules.{prc-closed}
use Prim.Native.Nat.{◌+◌}
use Rattle.shape_core.proofs.Tests.{and_no, and_yes}
use Rattle.shape_core.proofs.Codes.{executable-code}
use Rattle.table_layout.proofs.Belows.{and-true}
use native.Mathlib.Numerals.{add-one}
use borrow.Author.Tests.{lt-ltb, le-ltb}
use native.Mathlib.Omega.{arith}
use mathlib.Core.Path.{sym, ◌∙◌}
use Rattle.shapes.proofs.cards.prc_ok.Goals as goal

pub returns-then-not-is_outside : goal.returns-then-not-is_outside
returns-then-not-is_outside c = sym (and_no _ _ (sym c.is_outside.ensures ∙ c.if-not-is_outside.true))

pub returns-then-places-p-ge-EXECUTABLE : goal.returns-then-places-p-ge-EXECUTABLE
returns-then-places-p-ge-EXECUTABLE c = sym (and_yes _ _ (sym c.is_outside.ensures ∙ c.if-not-is_outside.false) ∙ and_no _ _ (rw (← add-one c.args.p) (executable-code c.args.places.now.table.now (c.args.p + 1) _ (c.args.places.now.known.classes (c.args.p + 1) (omega arith))) ∙ le-ltb _ _ c.if-places-p-ge-EXECUTABLE.true))

pub returns : goal.returns
returns c = sym (and_yes _ _ (sym c.is_outside.ensures ∙ c.if-not-is_outside.false) ∙ and_yes _ _ (rw (← add-one c.args.p) (executable-code c.args.places.now.table.now (c.args.p + 1) _ (c.args.places.now.known.classes (c.args.p + 1) (omega arith))) ∙ lt-ltb _ _ c.if-places-p-ge-EXECUTABLE.false) ∙ and-true _ ∙ prc-closed c.args.places.now.table.now c.args.p c.args.places.now.n c.index.result c.args.places.now.known.count (c.index.ensures ∙ c.args.places.now.known.bodies c.args.places.now.n (omega arith)))
