use native.Mathlib.Omega.{arith}
use Prim.Native.Nat.{◌+◌}
use Rattle.block_chars.proofs.Laws.{char-lt}
use Rattle.block_table.proofs.translate_long.Goals as goal

pub raise-requires : goal.raise-requires
raise-requires c = (omega (arith, c.fill.auto.list), omega arith, λ i h. omega (arith, c.fill.ensures i h, char-lt c.args.m.now (c.args.to + i)))

pub raise-requires-2 : goal.raise-requires-2
raise-requires-2 c = (omega (arith, c.raise.auto.raised), omega arith, λ i h. omega (arith, c.raise.ensures i h, c.fill.ensures i h, char-lt c.args.m.now (c.args.to + i)))

pub raise-requires-3 : goal.raise-requires-3
raise-requires-3 c = (omega (arith, c.raise-2.auto.raised), omega arith, λ i h. omega (arith, c.raise-2.ensures i h, c.raise.ensures i h, c.fill.ensures i h, char-lt c.args.m.now (c.args.to + i)))

pub translate_by-requires : goal.translate_by-requires
translate_by-requires c =
    let p = c.requires in
    let r3 = c.raise-3 in
    let r2 = c.raise-2 in
    let r1 = c.raise in
    let f = c.fill in (
      p.0,
      p.1,
      p.2,
      p.3,
      record {
        room = (omega (arith, f.auto.list), omega (arith, r1.auto.raised), omega (arith, r2.auto.raised), omega (arith, r3.auto.raised));
        chars = λ i h. omega (arith, c.fill.ensures i h, char-lt c.args.m.now (c.args.to + i));
        second = r1.ensures;
        third = r2.ensures;
        fourth = r3.ensures;
      },
      f.ensures,
    )
