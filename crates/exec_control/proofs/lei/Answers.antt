use native.Mathlib.Omega.{arith}
use Rattle.exec_core.specs.Entry.{readable, in_register, going}
use Rattle.exec_control.proofs.Jumps.{entry-bare, register-small}
use Rattle.exec_control.proofs.Entered.{entry-few, lei-missing, lei-unvalued, lei-loads}
use Rattle.exec_control.proofs.Takes.{lei-takes}
use Rattle.exec_control.proofs.lei.Goals as goal

pub offset_bounds-z-x : goal.offset_bounds-z-x
offset_bounds-z-x c = omega (arith, c.index-x.ensures, register-small c.args.t.now c.args.b (entry-bare c.requires in_register readable going lei-takes).one)

pub bounds-z-x : goal.bounds-z-x
bounds-z-x c = omega (arith, c.index-x.ensures, register-small c.args.t.now c.args.b (entry-bare c.requires in_register readable going lei-takes).one)

pub returns-in_default : goal.returns-in_default
returns-in_default c = lei-missing _ _ _ _ c.index-x.ensures _ c.entry_of.ensures c.in_default.is

pub overflow_mul-i : goal.overflow_mul-i
overflow_mul-i c = omega (arith, (entry-few _ c.requires.checked _ _ c.entry_of.ensures c.in-Some.is).few)

pub overflow_add-i : goal.overflow_add-i
overflow_add-i c = omega (arith, (entry-few _ c.requires.checked _ _ c.entry_of.ensures c.in-Some.is).few)

pub overflow_add-i-2 : goal.overflow_add-i-2
overflow_add-i-2 c = omega (arith, (entry-few _ c.requires.checked _ _ c.entry_of.ensures c.in-Some.is).few)

pub offset_bounds-t-i : goal.offset_bounds-t-i
offset_bounds-t-i c = omega (arith, (entry-few _ c.requires.checked _ _ c.entry_of.ensures c.in-Some.is).few)

pub bounds-t-i : goal.bounds-t-i
bounds-t-i c = omega (arith, (entry-few _ c.requires.checked _ _ c.entry_of.ensures c.in-Some.is).inside)

pub returns-then-t-i-ne-VALUE_KIND : goal.returns-then-t-i-ne-VALUE_KIND
returns-then-t-i-ne-VALUE_KIND c = lei-unvalued _ _ _ _ c.index-x.ensures _ c.entry_of.ensures c.in-Some.is c.if-t-i-ne-VALUE_KIND.true

pub overflow_add-z : goal.overflow_add-z
overflow_add-z c = omega (arith, (entry-few _ c.requires.checked _ _ c.entry_of.ensures c.in-Some.is).few)

pub offset_bounds-t-i-2 : goal.offset_bounds-t-i-2
offset_bounds-t-i-2 c = omega (arith, (entry-few _ c.requires.checked _ _ c.entry_of.ensures c.in-Some.is).few)

pub bounds-t-i-2 : goal.bounds-t-i-2
bounds-t-i-2 c = omega (arith, (entry-few _ c.requires.checked _ _ c.entry_of.ensures c.in-Some.is).inside)

pub offset_bounds-z-x-2 : goal.offset_bounds-z-x-2
offset_bounds-z-x-2 c = omega (arith, c.index-x.ensures, register-small c.args.t.now c.args.b (entry-bare c.requires in_register readable going lei-takes).one)

pub bounds-z-x-2 : goal.bounds-z-x-2
bounds-z-x-2 c = omega (arith, c.index-x.ensures, register-small c.args.t.now c.args.b (entry-bare c.requires in_register readable going lei-takes).one)

pub returns : goal.returns
returns c = lei-loads _ _ _ _ c.index-x.ensures _ c.entry_of.ensures c.in-Some.is c.if-t-i-ne-VALUE_KIND.false
