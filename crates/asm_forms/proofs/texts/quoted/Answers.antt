-- `asm_forms::texts::quoted` meets its contract: the delimiter, the scan for the next, and what stands behind it.
use native.Mathlib.Omega.{arith}
use Rattle.asm_forms.proofs.Delimited.{before-end, blank-quoted, end-quoted, none-quoted, open-quoted, other-quoted}
use Rattle.asm_forms.proofs.texts.quoted.Goals as goal

pub returns-then-start-s : goal.returns-then-start-s
returns-then-start-s c =
    record {
      from_le = omega arith;
      to_le = omega arith;
      text = none-quoted c.args.s.now _ c.fields_of-f.ensures.operand_start_is (omega (arith, c.if-start-s.true));
    }

pub returns-then-to-s : goal.returns-then-to-s
returns-then-to-s c =
    let v = c.fields_of-f.ensures in
    let s = c.args.s.now in
    record {
      from_le = omega arith;
      to_le = omega arith;
      text = open-quoted s _ _ v.operand_start_is (before-end s _ v c.if-start-s.false) c.find_byte-to.ensures.0 (omega (arith, c.if-to-s.true));
    }

pub returns-then-to-s-2 : goal.returns-then-to-s-2
returns-then-to-s-2 c =
    let v = c.fields_of-f.ensures in
    let s = c.args.s.now in
    record {
      from_le = omega (arith, c.find_byte-to.ensures.0);
      to_le = c.find_byte-to.ensures.1;
      text = end-quoted s _ _ v.operand_start_is (before-end s _ v c.if-start-s.false) c.find_byte-to.ensures.0 c.if-to-s-2.true;
    }

pub returns-then-s-to-eq-BLANK : goal.returns-then-s-to-eq-BLANK
returns-then-s-to-eq-BLANK c =
    let v = c.fields_of-f.ensures in
    let s = c.args.s.now in
    record {
      from_le = omega (arith, c.find_byte-to.ensures.0);
      to_le = c.find_byte-to.ensures.1;
      text =
          blank-quoted s _ _ v.operand_start_is (before-end s _ v c.if-start-s.false) c.find_byte-to.ensures.0
          (omega (arith, c.if-to-s.false, c.if-to-s-2.false, c.find_byte-to.ensures.1)) c.if-s-to-eq-BLANK.true;
    }

pub returns : goal.returns
returns c =
    let v = c.fields_of-f.ensures in
    let s = c.args.s.now in
    record {
      from_le = omega arith;
      to_le = omega arith;
      text =
          other-quoted s _ _ v.operand_start_is (before-end s _ v c.if-start-s.false) c.find_byte-to.ensures.0
          (omega (arith, c.if-to-s.false, c.if-to-s-2.false, c.find_byte-to.ensures.1)) c.if-s-to-eq-BLANK.false;
    }
