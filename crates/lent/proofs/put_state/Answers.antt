-- `lent::put_state` meets its contract: the words before the links, the links, the words behind them.
use mathlib.Core.Path.{◌≡◌}
use native.Mathlib.Omega.{arith}
use lib.ListN.{length}
use Rattle.lent.proofs.Copies.{state-put}
use borrow.Author.Rules.{rules}
use Rattle.lent.proofs.put_state.Goals as goal

pub put_words-requires-2 : goal.put_words-requires-2
put_words-requires-2 c =
    let full : length c.args.s.links ≡ 256 = search rules in
    omega (arith, full)

pub returns : goal.returns
returns c =
    let s = c.args.s in
    let full : length c.args.s.links ≡ 256 = search rules in
    state-put _ s _ _ _ _ _ full c.head_of-head.ensures c.tail_of-tail.ensures c.put_words.ensures c.put_words-2.ensures
    c.put_words-3.ensures
