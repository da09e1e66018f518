-- `dispatch::real_steps::real_step` meets its contract: an arm for each real operation.
use Rattle.ops.specs.Ops as Op
use Rattle.exec_reals.proofs.Takes as reals
use mathlib.Core.Path.{refl}
use native.Mathlib.Omega.{arith}
use Rattle.base.specs.Test.{if}
use Rattle.ops.specs.Ops.{rows}
use Rattle.exec_core.specs.Entry.{going, is_place, readable, steady}
use Rattle.exec_core.proofs.Entries.{entry_of, ready-inside}
use Rattle.exec_core.proofs.Steps.{ready, goes_step, forks-step}
use Rattle.dispatch.specs.Reals.{real_numbers}
use Rattle.dispatch.proofs.Listed.{none_of}
use Rattle.dispatch.proofs.real_steps.real_step.Goals as goal

pub offset_bounds-t-b : goal.offset_bounds-t-b
offset_bounds-t-b c = omega (arith, ready-inside (ready c.requires.0))

pub bounds-t-b : goal.bounds-t-b
bounds-t-b c = omega (arith, ready-inside (ready c.requires.0))

pub arithmetic-requires : goal.arithmetic-requires
arithmetic-requires c = entry_of steady readable going 503 reals.adr-takes (ready c.requires.0) c.in-503.is

pub arithmetic-requires-in-504 : goal.arithmetic-requires-in-504
arithmetic-requires-in-504 c = entry_of steady readable going 504 reals.sbr-takes (ready c.requires.0) c.in-504.is

pub arithmetic-requires-in-505 : goal.arithmetic-requires-in-505
arithmetic-requires-in-505 c = entry_of steady readable going 505 reals.mlr-takes (ready c.requires.0) c.in-505.is

pub arithmetic-requires-in-506 : goal.arithmetic-requires-in-506
arithmetic-requires-in-506 c = entry_of steady readable going 506 reals.dvr-takes (ready c.requires.0) c.in-506.is

pub ngr-requires : goal.ngr-requires
ngr-requires c = entry_of readable readable going 509 reals.ngr-takes (ready c.requires.0) c.in-509.is

pub compare-requires : goal.compare-requires
compare-requires c = entry_of is_place readable going 510 reals.req-takes (ready c.requires.0) c.in-510.is

pub compare-requires-in-511 : goal.compare-requires-in-511
compare-requires-in-511 c = entry_of is_place readable going 511 reals.rge-takes (ready c.requires.0) c.in-511.is

pub compare-requires-in-512 : goal.compare-requires-in-512
compare-requires-in-512 c = entry_of is_place readable going 512 reals.rgt-takes (ready c.requires.0) c.in-512.is

pub compare-requires-in-513 : goal.compare-requires-in-513
compare-requires-in-513 c = entry_of is_place readable going 513 reals.rle-takes (ready c.requires.0) c.in-513.is

pub compare-requires-in-514 : goal.compare-requires-in-514
compare-requires-in-514 c = entry_of is_place readable going 514 reals.rlt-takes (ready c.requires.0) c.in-514.is

pub compare-requires-in-515 : goal.compare-requires-in-515
compare-requires-in-515 c = entry_of is_place readable going 515 reals.rne-takes (ready c.requires.0) c.in-515.is

pub itr-requires : goal.itr-requires
itr-requires c = entry_of readable readable going 805 reals.itr-takes (ready c.requires.0) c.in-805.is

pub rti-requires : goal.rti-requires
rti-requires c = entry_of readable readable going 806 reals.rti-takes (ready c.requires.0) c.in-806.is

pub shape_of-m-in-503 : goal.shape_of-m-in-503
shape_of-m-in-503 c = refl

pub returns-in-503 : goal.returns-in-503
unfolding rows if
returns-in-503 c = goes_step c.requires.0 503 Op.ADR c.in-503.is refl refl c.arithmetic.ensures

pub shape_of-m-in-504 : goal.shape_of-m-in-504
shape_of-m-in-504 c = refl

pub returns-in-504 : goal.returns-in-504
unfolding rows if
returns-in-504 c = goes_step c.requires.0 504 Op.SBR c.in-504.is refl refl c.arithmetic-in-504.ensures

pub shape_of-m-in-505 : goal.shape_of-m-in-505
shape_of-m-in-505 c = refl

pub returns-in-505 : goal.returns-in-505
unfolding rows if
returns-in-505 c = goes_step c.requires.0 505 Op.MLR c.in-505.is refl refl c.arithmetic-in-505.ensures

pub shape_of-m-in-506 : goal.shape_of-m-in-506
shape_of-m-in-506 c = refl

pub returns-in-506 : goal.returns-in-506
unfolding rows if
returns-in-506 c = goes_step c.requires.0 506 Op.DVR c.in-506.is refl refl c.arithmetic-in-506.ensures

pub returns-in-509 : goal.returns-in-509
unfolding rows if
returns-in-509 c = goes_step c.requires.0 509 Op.NGR c.in-509.is refl refl (c.ngr.ensures c.args.m.now)

pub returns-in-510 : goal.returns-in-510
unfolding rows if
returns-in-510 c = forks-step c.requires.0 510 Op.REQ c.in-510.is refl refl (c.compare.ensures c.args.m.now)

pub returns-in-511 : goal.returns-in-511
unfolding rows if
returns-in-511 c = forks-step c.requires.0 511 Op.RGE c.in-511.is refl refl (c.compare-in-511.ensures c.args.m.now)

pub returns-in-512 : goal.returns-in-512
unfolding rows if
returns-in-512 c = forks-step c.requires.0 512 Op.RGT c.in-512.is refl refl (c.compare-in-512.ensures c.args.m.now)

pub returns-in-513 : goal.returns-in-513
unfolding rows if
returns-in-513 c = forks-step c.requires.0 513 Op.RLE c.in-513.is refl refl (c.compare-in-513.ensures c.args.m.now)

pub returns-in-514 : goal.returns-in-514
unfolding rows if
returns-in-514 c = forks-step c.requires.0 514 Op.RLT c.in-514.is refl refl (c.compare-in-514.ensures c.args.m.now)

pub returns-in-515 : goal.returns-in-515
unfolding rows if
returns-in-515 c = forks-step c.requires.0 515 Op.RNE c.in-515.is refl refl (c.compare-in-515.ensures c.args.m.now)

pub returns-in-805 : goal.returns-in-805
unfolding rows if
returns-in-805 c = goes_step c.requires.0 805 Op.ITR c.in-805.is refl refl (c.itr.ensures c.args.m.now)

pub returns-in-806 : goal.returns-in-806
unfolding rows if
returns-in-806 c = forks-step c.requires.0 806 Op.RTI c.in-806.is refl refl (c.rti.ensures c.args.m.now)

pub returns-in_default : goal.returns-in_default
returns-in_default c = absurd (none_of _ real_numbers c.in_default.in_default-own.rest c.requires.1)
