use Rattle.ops.specs.Class as Class
use Rattle.ops.specs.Ops as Op
use Rattle.exec_bits.proofs.Takes as bits
use Rattle.exec_blocks.proofs.Takes as blocks
use Rattle.exec_branches.proofs.Takes as branches
use Rattle.exec_chars.proofs.Takes as chars
use Rattle.exec_integers.proofs.Takes as integers
use Rattle.exec_moves.proofs.Takes as moves
use Rattle.exec_reals.proofs.Takes as reals
use mathlib.Core.Path.{refl, sym, ap, ◌∙◌}
use native.Mathlib.Omega.{arith}
use Prim.Native.Nat.{ℕ}
use Rattle.base.specs.Lists.{◌at◌}
use Rattle.base.specs.Test.{◌and◌, ◌or◌, if}
use Rattle.ops.specs.Ops.{rows}
use Rattle.exec_core.specs.Views.{does}
use Rattle.exec_core.specs.Entry.{branching, going, held_here, in_register, is_place, pointing, readable, steady, writable}
use Rattle.exec_core.specs.Seen.{open_links}
use Rattle.exec_core.proofs.Entries.{entry_of, ready-inside}
use Rattle.exec_core.proofs.Steps.{ready, memory-most, goes_step, forks-step, controls-step}
use Rattle.exec_calls.proofs.Linked.{links-count}
use Rattle.exec_control.proofs.Ready.{stands, few-links, open-links, roomy-memory}
use Rattle.dispatch.proofs.Listed.{above-reals, below-reals, between-reals, computes-listed, converts-listed, tests-listed, unlisted}
use Rattle.dispatch.proofs.dispatch.Goals as goal

pub offset_bounds-t-b : goal.offset_bounds-t-b
offset_bounds-t-b c = omega (arith, ready-inside (ready c.requires))

pub bounds-t-b : goal.bounds-t-b
bounds-t-b c = omega (arith, ready-inside (ready c.requires))

pub mov-requires : goal.mov-requires
mov-requires c = entry_of readable writable going 101 moves.mov-takes (ready c.requires) c.in-101.is

pub brn-requires : goal.brn-requires
brn-requires c = stands c.requires c.in-102.is

pub bsw-requires : goal.bsw-requires
bsw-requires c = stands c.requires c.in-103.is

pub ent-requires : goal.ent-requires
ent-requires c = stands c.requires c.in-106.is

pub bri-requires : goal.bri-requires
bri-requires c = (stands c.requires c.in-107.is, c.requires.zero)

pub lei-requires : goal.lei-requires
lei-requires c = stands c.requires c.in-108.is

pub jsr-requires : goal.jsr-requires
jsr-requires c = (stands c.requires c.in-109.is, few-links c.requires c.requires.room)

pub exi-requires : goal.exi-requires
exi-requires c = (stands c.requires c.in-112.is, few-links c.requires c.requires.room, open-links c.requires)

pub erb-requires : goal.erb-requires
erb-requires c = stands c.requires c.in-115.is

pub icv-requires : goal.icv-requires
icv-requires c = entry_of writable readable going 116 moves.icv-takes (ready c.requires) c.in-116.is

pub dcv-requires : goal.dcv-requires
dcv-requires c = entry_of writable readable going 117 moves.dcv-takes (ready c.requires) c.in-117.is

pub zer-requires : goal.zer-requires
zer-requires c = entry_of writable readable going 118 moves.zer-takes (ready c.requires) c.in-118.is

pub mnz-requires : goal.mnz-requires
mnz-requires c = entry_of writable readable going 119 moves.mnz-takes (ready c.requires) c.in-119.is

pub ssl-requires : goal.ssl-requires
ssl-requires c = entry_of writable readable going 120 moves.ssl-takes (ready c.requires) c.in-120.is

pub sss-requires : goal.sss-requires
sss-requires c = (stands c.requires c.in-121.is, c.requires.zero, few-links c.requires c.requires.room)

pub rtn-requires : goal.rtn-requires
rtn-requires c = stands c.requires c.in-122.is

pub jmg-requires : goal.jmg-requires
jmg-requires c = stands c.requires c.in-123.is

pub add-requires : goal.add-requires
add-requires c = entry_of readable writable going 201 moves.add-takes (ready c.requires) c.in-201.is

pub sub-requires : goal.sub-requires
sub-requires c = entry_of readable writable going 202 moves.sub-takes (ready c.requires) c.in-202.is

pub ica-requires : goal.ica-requires
ica-requires c = entry_of writable readable going 203 moves.ica-takes (ready c.requires) c.in-203.is

pub dca-requires : goal.dca-requires
dca-requires c = entry_of writable readable going 204 moves.dca-takes (ready c.requires) c.in-204.is

pub beq-requires : goal.beq-requires
beq-requires c = entry_of readable readable branching 205 branches.beq-takes (ready c.requires) c.in-205.is

pub bne-requires : goal.bne-requires
bne-requires c = entry_of readable readable branching 206 branches.bne-takes (ready c.requires) c.in-206.is

pub bgt-requires : goal.bgt-requires
bgt-requires c = entry_of readable readable branching 207 branches.bgt-takes (ready c.requires) c.in-207.is

pub bge-requires : goal.bge-requires
bge-requires c = entry_of readable readable branching 208 branches.bge-takes (ready c.requires) c.in-208.is

pub blt-requires : goal.blt-requires
blt-requires c = entry_of readable readable branching 209 branches.blt-takes (ready c.requires) c.in-209.is

pub ble-requires : goal.ble-requires
ble-requires c = entry_of readable readable branching 210 branches.ble-takes (ready c.requires) c.in-210.is

pub blo-requires : goal.blo-requires
blo-requires c = entry_of readable readable branching 211 branches.blo-takes (ready c.requires) c.in-211.is

pub bhi-requires : goal.bhi-requires
bhi-requires c = entry_of readable readable branching 212 branches.bhi-takes (ready c.requires) c.in-212.is

pub bnz-requires : goal.bnz-requires
bnz-requires c = entry_of readable is_place going 213 branches.bnz-takes (ready c.requires) c.in-213.is

pub bze-requires : goal.bze-requires
bze-requires c = entry_of readable is_place going 214 branches.bze-takes (ready c.requires) c.in-214.is

pub lct-requires : goal.lct-requires
lct-requires c = entry_of in_register readable going 215 moves.lct-takes (ready c.requires) c.in-215.is

pub bct-requires : goal.bct-requires
bct-requires c = entry_of in_register is_place going 216 branches.bct-takes (ready c.requires) c.in-216.is

pub aov-requires : goal.aov-requires
aov-requires c = entry_of readable writable branching 217 moves.aov-takes (ready c.requires) c.in-217.is

pub ldi-requires : goal.ldi-requires
ldi-requires c = entry_of steady readable going 401 integers.ldi-takes (ready c.requires) c.in-401.is

pub adi-requires : goal.adi-requires
adi-requires c = entry_of steady readable going 402 integers.adi-takes (ready c.requires) c.in-402.is

pub mli-requires : goal.mli-requires
mli-requires c = entry_of steady readable going 403 integers.mli-takes (ready c.requires) c.in-403.is

pub sbi-requires : goal.sbi-requires
sbi-requires c = entry_of steady readable going 404 integers.sbi-takes (ready c.requires) c.in-404.is

pub dvi-requires : goal.dvi-requires
dvi-requires c = entry_of steady readable going 405 integers.dvi-takes (ready c.requires) c.in-405.is

pub rmi-requires : goal.rmi-requires
rmi-requires c = entry_of steady readable going 406 integers.rmi-takes (ready c.requires) c.in-406.is

pub sti-requires : goal.sti-requires
sti-requires c = entry_of writable readable going 407 integers.sti-takes (ready c.requires) c.in-407.is

pub ngi-requires : goal.ngi-requires
ngi-requires c = entry_of readable readable going 408 integers.ngi-takes (ready c.requires) c.in-408.is

pub ino-requires : goal.ino-requires
ino-requires c = entry_of is_place readable going 409 branches.ino-takes (ready c.requires) c.in-409.is

pub iov-requires : goal.iov-requires
iov-requires c = entry_of is_place readable going 410 branches.iov-takes (ready c.requires) c.in-410.is

pub ieq-requires : goal.ieq-requires
ieq-requires c = entry_of is_place readable going 411 branches.ieq-takes (ready c.requires) c.in-411.is

pub ige-requires : goal.ige-requires
ige-requires c = entry_of is_place readable going 412 branches.ige-takes (ready c.requires) c.in-412.is

pub igt-requires : goal.igt-requires
igt-requires c = entry_of is_place readable going 413 branches.igt-takes (ready c.requires) c.in-413.is

pub ile-requires : goal.ile-requires
ile-requires c = entry_of is_place readable going 414 branches.ile-takes (ready c.requires) c.in-414.is

pub ilt-requires : goal.ilt-requires
ilt-requires c = entry_of is_place readable going 415 branches.ilt-takes (ready c.requires) c.in-415.is

pub ine-requires : goal.ine-requires
ine-requires c = entry_of is_place readable going 416 branches.ine-takes (ready c.requires) c.in-416.is

pub ldr-requires : goal.ldr-requires
ldr-requires c = entry_of steady readable going 501 reals.ldr-takes (ready c.requires) c.in-501.is

pub str-requires : goal.str-requires
str-requires c = entry_of steady readable going 502 reals.str-takes (ready c.requires) c.in-502.is

pub rov-requires : goal.rov-requires
rov-requires c = entry_of is_place readable going 507 reals.rov-takes (ready c.requires) c.in-507.is

pub rno-requires : goal.rno-requires
rno-requires c = entry_of is_place readable going 508 reals.rno-takes (ready c.requires) c.in-508.is

pub plc-requires : goal.plc-requires
plc-requires c = entry_of in_register readable going 601 chars.plc-takes (ready c.requires) c.in-601.is

pub psc-requires : goal.psc-requires
psc-requires c = entry_of in_register readable going 602 chars.psc-takes (ready c.requires) c.in-602.is

pub lch-requires : goal.lch-requires
lch-requires c = entry_of in_register pointing going 603 chars.lch-takes (ready c.requires) c.in-603.is

pub sch-requires : goal.sch-requires
sch-requires c = entry_of in_register pointing going 604 chars.sch-takes (ready c.requires) c.in-604.is

pub csc-requires : goal.csc-requires
csc-requires c = (ready-inside (ready c.requires)).1

pub ceq-requires : goal.ceq-requires
ceq-requires c = entry_of readable readable branching 606 branches.ceq-takes (ready c.requires) c.in-606.is

pub cne-requires : goal.cne-requires
cne-requires c = entry_of readable readable branching 607 branches.cne-takes (ready c.requires) c.in-607.is

pub cmc-requires : goal.cmc-requires
cmc-requires c = (entry_of is_place is_place going 608 blocks.cmc-takes (ready c.requires) c.in-608.is, memory-most c.requires)

pub trc-requires : goal.trc-requires
trc-requires c = (entry_of readable readable going 609 blocks.trc-takes (ready c.requires) c.in-609.is, memory-most c.requires)

pub anb-requires : goal.anb-requires
anb-requires c = entry_of readable in_register going 701 bits.anb-takes (ready c.requires) c.in-701.is

pub orb-requires : goal.orb-requires
orb-requires c = entry_of readable in_register going 702 bits.orb-takes (ready c.requires) c.in-702.is

pub xob-requires : goal.xob-requires
xob-requires c = entry_of readable in_register going 703 bits.xob-takes (ready c.requires) c.in-703.is

pub cmb-requires : goal.cmb-requires
cmb-requires c = entry_of in_register readable going 704 bits.cmb-takes (ready c.requires) c.in-704.is

pub rsh-requires : goal.rsh-requires
rsh-requires c = entry_of in_register held_here going 705 bits.rsh-takes (ready c.requires) c.in-705.is

pub lsh-requires : goal.lsh-requires
lsh-requires c = entry_of in_register held_here going 706 bits.lsh-takes (ready c.requires) c.in-706.is

pub rsx-requires : goal.rsx-requires
rsx-requires c = entry_of in_register held_here going 707 bits.rsx-takes (ready c.requires) c.in-707.is

pub lsx-requires : goal.lsx-requires
lsx-requires c = entry_of in_register held_here going 708 bits.lsx-takes (ready c.requires) c.in-708.is

pub nzb-requires : goal.nzb-requires
nzb-requires c = entry_of readable is_place going 709 branches.nzb-takes (ready c.requires) c.in-709.is

pub zrb-requires : goal.zrb-requires
zrb-requires c = entry_of readable is_place going 710 branches.zrb-takes (ready c.requires) c.in-710.is

pub zgb-requires : goal.zgb-requires
zgb-requires c = (ready-inside (ready c.requires)).1

pub wtb-requires : goal.wtb-requires
wtb-requires c = entry_of in_register readable going 801 bits.wtb-takes (ready c.requires) c.in-801.is

pub btw-requires : goal.btw-requires
btw-requires c = entry_of in_register readable going 802 bits.btw-takes (ready c.requires) c.in-802.is

pub mti-requires : goal.mti-requires
mti-requires c = entry_of readable readable going 803 integers.mti-takes (ready c.requires) c.in-803.is

pub mfi-requires : goal.mfi-requires
mfi-requires c = entry_of writable readable going 804 integers.mfi-takes (ready c.requires) c.in-804.is

pub ctw-requires : goal.ctw-requires
ctw-requires c = entry_of in_register held_here going 807 bits.ctw-takes (ready c.requires) c.in-807.is

pub ctb-requires : goal.ctb-requires
ctb-requires c = entry_of in_register held_here going 808 bits.ctb-takes (ready c.requires) c.in-808.is

pub btc-requires : goal.btc-requires
btc-requires c = (ready-inside (ready c.requires)).1

pub wtc-requires : goal.wtc-requires
wtc-requires c = entry_of in_register readable going 810 bits.wtc-takes (ready c.requires) c.in-810.is

pub cvm-requires : goal.cvm-requires
cvm-requires c = entry_of is_place readable going 811 integers.cvm-takes (ready c.requires) c.in-811.is

pub cvd-requires : goal.cvd-requires
cvd-requires c = entry_of readable readable going 812 integers.cvd-takes (ready c.requires) c.in-812.is

pub mvc-requires : goal.mvc-requires
mvc-requires c = (entry_of readable readable going 901 blocks.mvc-takes (ready c.requires) c.in-901.is, memory-most c.requires)

pub mvw-requires : goal.mvw-requires
mvw-requires c = (entry_of readable readable going 903 blocks.mvw-takes (ready c.requires) c.in-903.is, memory-most c.requires)

pub chk-requires : goal.chk-requires
chk-requires c = (stands c.requires c.in-1001.is, roomy-memory c.requires)

pub shape_of-m-in-101 : goal.shape_of-m-in-101
shape_of-m-in-101 c = c.mov.auto.m

pub returns-in-101 : goal.returns-in-101
unfolding rows if
returns-in-101 c = (goes_step c.requires 101 Op.MOV c.in-101.is refl refl c.mov.ensures, refl)

pub returns-in-102 : goal.returns-in-102
unfolding rows if
returns-in-102 c = (c.brn.ensures c.args.c c.args.z.now c.args.m.now (open_links c.args.links.now) ∙ controls-step c.requires 102 Class.BRN Op.idle c.in-102.is refl refl, refl)

pub returns-in-103 : goal.returns-in-103
unfolding rows if
returns-in-103 c = (c.bsw.ensures c.args.c c.args.m.now (open_links c.args.links.now) ∙ controls-step c.requires 103 Class.BSW Op.reads c.in-103.is refl refl, refl)

pub returns-in-106 : goal.returns-in-106
unfolding rows if
returns-in-106 c = (c.ent.ensures c.args.c c.args.z.now c.args.m.now (open_links c.args.links.now) ∙ controls-step c.requires 106 Class.ENT Op.idle c.in-106.is refl refl, refl)

pub shape_of-m-in-107 : goal.shape_of-m-in-107
shape_of-m-in-107 c = refl

pub returns-in-107 : goal.returns-in-107
unfolding rows if
returns-in-107 c = (c.bri.ensures c.args.c (open_links c.args.links.now) ∙ controls-step c.requires 107 Class.BRI Op.reads c.in-107.is refl refl, refl)

pub returns-in-108 : goal.returns-in-108
unfolding rows if
returns-in-108 c = (goes_step c.requires 108 Op.LEI c.in-108.is refl refl (c.lei.ensures c.args.c c.args.m.now), refl)

pub returns-in-109 : goal.returns-in-109
unfolding rows if
returns-in-109 c = (c.jsr.ensures.0 c.args.c c.args.z.now c.args.m.now ∙ controls-step c.requires 109 Class.JSR Op.idle c.in-109.is refl refl, c.jsr.ensures.1)

pub returns-in-112 : goal.returns-in-112
unfolding rows if
returns-in-112 c = (c.exi.ensures.0 c.args.c c.args.m.now ∙ controls-step c.requires 112 Class.EXI Op.idle c.in-112.is refl refl, c.exi.ensures.1)

pub returns-in-115 : goal.returns-in-115
unfolding rows if
returns-in-115 c = (c.erb.ensures c.args.c c.args.m.now (open_links c.args.links.now) ∙ controls-step c.requires 115 Class.ERB Op.idle c.in-115.is refl refl, refl)

pub shape_of-m-in-116 : goal.shape_of-m-in-116
shape_of-m-in-116 c = c.icv.auto.m

pub returns-in-116 : goal.returns-in-116
unfolding rows if
returns-in-116 c = (goes_step c.requires 116 Op.ICV c.in-116.is refl refl c.icv.ensures, refl)

pub shape_of-m-in-117 : goal.shape_of-m-in-117
shape_of-m-in-117 c = c.dcv.auto.m

pub returns-in-117 : goal.returns-in-117
unfolding rows if
returns-in-117 c = (goes_step c.requires 117 Op.DCV c.in-117.is refl refl c.dcv.ensures, refl)

pub shape_of-m-in-118 : goal.shape_of-m-in-118
shape_of-m-in-118 c = c.zer.auto.m

pub returns-in-118 : goal.returns-in-118
unfolding rows if
returns-in-118 c = (goes_step c.requires 118 Op.ZER c.in-118.is refl refl c.zer.ensures, refl)

pub shape_of-m-in-119 : goal.shape_of-m-in-119
shape_of-m-in-119 c = c.mnz.auto.m

pub returns-in-119 : goal.returns-in-119
unfolding rows if
returns-in-119 c = (goes_step c.requires 119 Op.MNZ c.in-119.is refl refl c.mnz.ensures, refl)

pub shape_of-m-in-120 : goal.shape_of-m-in-120
shape_of-m-in-120 c = c.ssl.auto.m

pub returns-in-120 : goal.returns-in-120
unfolding rows if
returns-in-120 c = (goes_step c.requires 120 Op.SSL c.in-120.is refl refl (c.ssl.ensures ∙ ap (λ (k : ℕ). does c.args.t.now c.args.b k c.args.c c.args.z.now c.args.m.now Op.SSL) (sym (links-count c.args.links.now (few-links c.requires c.requires.room)))), refl)

pub shape_of-m-in-121 : goal.shape_of-m-in-121
shape_of-m-in-121 c = refl

pub returns-in-121 : goal.returns-in-121
unfolding rows if
returns-in-121 c = (c.sss.ensures.0 c.args.c ∙ controls-step c.requires 121 Class.SSS Op.reads c.in-121.is refl refl, c.sss.ensures.1)

pub returns-in-122 : goal.returns-in-122
unfolding rows if
returns-in-122 c = (c.rtn.ensures c.args.c c.args.z.now c.args.m.now (open_links c.args.links.now) ∙ controls-step c.requires 122 Class.RTN Op.idle c.in-122.is refl refl, refl)

pub returns-in-123 : goal.returns-in-123
unfolding rows if
returns-in-123 c = (c.jmg.ensures c.args.c c.args.z.now c.args.m.now (open_links c.args.links.now) ∙ controls-step c.requires 123 Class.JMG Op.idle c.in-123.is refl refl, refl)

pub shape_of-m-in-201 : goal.shape_of-m-in-201
shape_of-m-in-201 c = c.add.auto.m

pub returns-in-201 : goal.returns-in-201
unfolding rows if
returns-in-201 c = (goes_step c.requires 201 Op.ADD c.in-201.is refl refl c.add.ensures, refl)

pub shape_of-m-in-202 : goal.shape_of-m-in-202
shape_of-m-in-202 c = c.sub.auto.m

pub returns-in-202 : goal.returns-in-202
unfolding rows if
returns-in-202 c = (goes_step c.requires 202 Op.SUB c.in-202.is refl refl c.sub.ensures, refl)

pub shape_of-m-in-203 : goal.shape_of-m-in-203
shape_of-m-in-203 c = c.ica.auto.m

pub returns-in-203 : goal.returns-in-203
unfolding rows if
returns-in-203 c = (goes_step c.requires 203 Op.ICA c.in-203.is refl refl c.ica.ensures, refl)

pub shape_of-m-in-204 : goal.shape_of-m-in-204
shape_of-m-in-204 c = c.dca.auto.m

pub returns-in-204 : goal.returns-in-204
unfolding rows if
returns-in-204 c = (goes_step c.requires 204 Op.DCA c.in-204.is refl refl c.dca.ensures, refl)

pub shape_of-m-in-205 : goal.shape_of-m-in-205
shape_of-m-in-205 c = refl

pub returns-in-205 : goal.returns-in-205
unfolding rows if
returns-in-205 c = (forks-step c.requires 205 Op.BEQ c.in-205.is refl refl c.beq.ensures, refl)

pub shape_of-m-in-206 : goal.shape_of-m-in-206
shape_of-m-in-206 c = refl

pub returns-in-206 : goal.returns-in-206
unfolding rows if
returns-in-206 c = (forks-step c.requires 206 Op.BNE c.in-206.is refl refl c.bne.ensures, refl)

pub shape_of-m-in-207 : goal.shape_of-m-in-207
shape_of-m-in-207 c = refl

pub returns-in-207 : goal.returns-in-207
unfolding rows if
returns-in-207 c = (forks-step c.requires 207 Op.BGT c.in-207.is refl refl c.bgt.ensures, refl)

pub shape_of-m-in-208 : goal.shape_of-m-in-208
shape_of-m-in-208 c = refl

pub returns-in-208 : goal.returns-in-208
unfolding rows if
returns-in-208 c = (forks-step c.requires 208 Op.BGE c.in-208.is refl refl c.bge.ensures, refl)

pub shape_of-m-in-209 : goal.shape_of-m-in-209
shape_of-m-in-209 c = refl

pub returns-in-209 : goal.returns-in-209
unfolding rows if
returns-in-209 c = (forks-step c.requires 209 Op.BLT c.in-209.is refl refl c.blt.ensures, refl)

pub shape_of-m-in-210 : goal.shape_of-m-in-210
shape_of-m-in-210 c = refl

pub returns-in-210 : goal.returns-in-210
unfolding rows if
returns-in-210 c = (forks-step c.requires 210 Op.BLE c.in-210.is refl refl c.ble.ensures, refl)

pub shape_of-m-in-211 : goal.shape_of-m-in-211
shape_of-m-in-211 c = refl

pub returns-in-211 : goal.returns-in-211
unfolding rows if
returns-in-211 c = (forks-step c.requires 211 Op.BLO c.in-211.is refl refl c.blo.ensures, refl)

pub shape_of-m-in-212 : goal.shape_of-m-in-212
shape_of-m-in-212 c = refl

pub returns-in-212 : goal.returns-in-212
unfolding rows if
returns-in-212 c = (forks-step c.requires 212 Op.BHI c.in-212.is refl refl c.bhi.ensures, refl)

pub shape_of-m-in-213 : goal.shape_of-m-in-213
shape_of-m-in-213 c = refl

pub returns-in-213 : goal.returns-in-213
unfolding rows if
returns-in-213 c = (forks-step c.requires 213 Op.BNZ c.in-213.is refl refl c.bnz.ensures, refl)

pub shape_of-m-in-214 : goal.shape_of-m-in-214
shape_of-m-in-214 c = refl

pub returns-in-214 : goal.returns-in-214
unfolding rows if
returns-in-214 c = (forks-step c.requires 214 Op.BZE c.in-214.is refl refl c.bze.ensures, refl)

pub shape_of-m-in-215 : goal.shape_of-m-in-215
shape_of-m-in-215 c = c.lct.auto.m

pub returns-in-215 : goal.returns-in-215
unfolding rows if
returns-in-215 c = (goes_step c.requires 215 Op.LCT c.in-215.is refl refl c.lct.ensures, refl)

pub returns-in-216 : goal.returns-in-216
unfolding rows if
returns-in-216 c = (forks-step c.requires 216 Op.BCT c.in-216.is refl refl (c.bct.ensures c.args.c c.args.m.now), refl)

pub shape_of-m-in-217 : goal.shape_of-m-in-217
shape_of-m-in-217 c = c.aov.auto.m

pub returns-in-217 : goal.returns-in-217
unfolding rows if
returns-in-217 c = (forks-step c.requires 217 Op.AOV c.in-217.is refl refl c.aov.ensures, refl)

pub shape_of-m-in-401 : goal.shape_of-m-in-401
shape_of-m-in-401 c = refl

pub returns-in-401 : goal.returns-in-401
unfolding rows if
returns-in-401 c = (goes_step c.requires 401 Op.LDI c.in-401.is refl refl c.ldi.ensures, refl)

pub shape_of-m-in-402 : goal.shape_of-m-in-402
shape_of-m-in-402 c = refl

pub returns-in-402 : goal.returns-in-402
unfolding rows if
returns-in-402 c = (goes_step c.requires 402 Op.ADI c.in-402.is refl refl c.adi.ensures, refl)

pub shape_of-m-in-403 : goal.shape_of-m-in-403
shape_of-m-in-403 c = refl

pub returns-in-403 : goal.returns-in-403
unfolding rows if
returns-in-403 c = (goes_step c.requires 403 Op.MLI c.in-403.is refl refl c.mli.ensures, refl)

pub shape_of-m-in-404 : goal.shape_of-m-in-404
shape_of-m-in-404 c = refl

pub returns-in-404 : goal.returns-in-404
unfolding rows if
returns-in-404 c = (goes_step c.requires 404 Op.SBI c.in-404.is refl refl c.sbi.ensures, refl)

pub shape_of-m-in-405 : goal.shape_of-m-in-405
shape_of-m-in-405 c = refl

pub returns-in-405 : goal.returns-in-405
unfolding rows if
returns-in-405 c = (goes_step c.requires 405 Op.DVI c.in-405.is refl refl c.dvi.ensures, refl)

pub shape_of-m-in-406 : goal.shape_of-m-in-406
shape_of-m-in-406 c = refl

pub returns-in-406 : goal.returns-in-406
unfolding rows if
returns-in-406 c = (goes_step c.requires 406 Op.RMI c.in-406.is refl refl c.rmi.ensures, refl)

pub shape_of-m-in-407 : goal.shape_of-m-in-407
shape_of-m-in-407 c = c.sti.auto.m

pub returns-in-407 : goal.returns-in-407
unfolding rows if
returns-in-407 c = (goes_step c.requires 407 Op.STI c.in-407.is refl refl c.sti.ensures, refl)

pub returns-in-408 : goal.returns-in-408
unfolding rows if
returns-in-408 c = (goes_step c.requires 408 Op.NGI c.in-408.is refl refl (c.ngi.ensures c.args.m.now), refl)

pub returns-in-409 : goal.returns-in-409
unfolding rows if
returns-in-409 c = (forks-step c.requires 409 Op.INO c.in-409.is refl refl (c.ino.ensures c.args.c c.args.m.now), refl)

pub returns-in-410 : goal.returns-in-410
unfolding rows if
returns-in-410 c = (forks-step c.requires 410 Op.IOV c.in-410.is refl refl (c.iov.ensures c.args.c c.args.m.now), refl)

pub returns-in-411 : goal.returns-in-411
unfolding rows if
returns-in-411 c = (forks-step c.requires 411 Op.IEQ c.in-411.is refl refl (c.ieq.ensures c.args.c c.args.m.now), refl)

pub returns-in-412 : goal.returns-in-412
unfolding rows if
returns-in-412 c = (forks-step c.requires 412 Op.IGE c.in-412.is refl refl (c.ige.ensures c.args.c c.args.m.now), refl)

pub returns-in-413 : goal.returns-in-413
unfolding rows if
returns-in-413 c = (forks-step c.requires 413 Op.IGT c.in-413.is refl refl (c.igt.ensures c.args.c c.args.m.now), refl)

pub returns-in-414 : goal.returns-in-414
unfolding rows if
returns-in-414 c = (forks-step c.requires 414 Op.ILE c.in-414.is refl refl (c.ile.ensures c.args.c c.args.m.now), refl)

pub returns-in-415 : goal.returns-in-415
unfolding rows if
returns-in-415 c = (forks-step c.requires 415 Op.ILT c.in-415.is refl refl (c.ilt.ensures c.args.c c.args.m.now), refl)

pub returns-in-416 : goal.returns-in-416
unfolding rows if
returns-in-416 c = (forks-step c.requires 416 Op.INE c.in-416.is refl refl (c.ine.ensures c.args.c c.args.m.now), refl)

pub shape_of-m-in-501 : goal.shape_of-m-in-501
shape_of-m-in-501 c = refl

pub returns-in-501 : goal.returns-in-501
unfolding rows if
returns-in-501 c = (goes_step c.requires 501 Op.LDR c.in-501.is refl refl c.ldr.ensures, refl)

pub shape_of-m-in-502 : goal.shape_of-m-in-502
shape_of-m-in-502 c = c.str.auto.m

pub returns-in-502 : goal.returns-in-502
unfolding rows if
returns-in-502 c = (goes_step c.requires 502 Op.STR c.in-502.is refl refl c.str.ensures, refl)

pub returns-in-507 : goal.returns-in-507
unfolding rows if
returns-in-507 c = (forks-step c.requires 507 Op.ROV c.in-507.is refl refl (c.rov.ensures c.args.m.now), refl)

pub returns-in-508 : goal.returns-in-508
unfolding rows if
returns-in-508 c = (forks-step c.requires 508 Op.RNO c.in-508.is refl refl (c.rno.ensures c.args.m.now), refl)

pub shape_of-m-in-601 : goal.shape_of-m-in-601
shape_of-m-in-601 c = refl

pub returns-in-601 : goal.returns-in-601
unfolding rows if
returns-in-601 c = (goes_step c.requires 601 Op.PLC c.in-601.is refl refl (c.plc.ensures c.args.c), refl)

pub shape_of-m-in-602 : goal.shape_of-m-in-602
shape_of-m-in-602 c = refl

pub returns-in-602 : goal.returns-in-602
unfolding rows if
returns-in-602 c = (goes_step c.requires 602 Op.PSC c.in-602.is refl refl (c.psc.ensures c.args.c), refl)

pub shape_of-m-in-603 : goal.shape_of-m-in-603
shape_of-m-in-603 c = refl

pub returns-in-603 : goal.returns-in-603
unfolding rows if
returns-in-603 c = (goes_step c.requires 603 Op.LCH c.in-603.is refl refl (c.lch.ensures c.args.c), refl)

pub shape_of-m-in-604 : goal.shape_of-m-in-604
shape_of-m-in-604 c = c.sch.auto.m

pub returns-in-604 : goal.returns-in-604
unfolding rows if
returns-in-604 c = (goes_step c.requires 604 Op.SCH c.in-604.is refl refl c.sch.ensures, refl)

pub returns-in-605 : goal.returns-in-605
unfolding rows if
returns-in-605 c = (goes_step c.requires 605 Op.idle c.in-605.is refl refl (c.csc.ensures c.args.t.now c.args.z.now c.args.m.now c.args.c), refl)

pub shape_of-m-in-606 : goal.shape_of-m-in-606
shape_of-m-in-606 c = refl

pub returns-in-606 : goal.returns-in-606
unfolding rows if
returns-in-606 c = (forks-step c.requires 606 Op.CEQ c.in-606.is refl refl c.ceq.ensures, refl)

pub shape_of-m-in-607 : goal.shape_of-m-in-607
shape_of-m-in-607 c = refl

pub returns-in-607 : goal.returns-in-607
unfolding rows if
returns-in-607 c = (forks-step c.requires 607 Op.CNE c.in-607.is refl refl c.cne.ensures, refl)

pub shape_of-m-in-608 : goal.shape_of-m-in-608
shape_of-m-in-608 c = refl

pub returns-in-608 : goal.returns-in-608
unfolding rows if
returns-in-608 c = (forks-step c.requires 608 Op.CMC c.in-608.is refl refl c.cmc.ensures, refl)

pub shape_of-m-in-609 : goal.shape_of-m-in-609
shape_of-m-in-609 c = c.trc.auto.m

pub returns-in-609 : goal.returns-in-609
unfolding rows if
returns-in-609 c = (goes_step c.requires 609 Op.TRC c.in-609.is refl refl c.trc.ensures, refl)

pub shape_of-m-in-701 : goal.shape_of-m-in-701
shape_of-m-in-701 c = refl

pub returns-in-701 : goal.returns-in-701
unfolding rows if
returns-in-701 c = (goes_step c.requires 701 Op.ANB c.in-701.is refl refl (c.anb.ensures c.args.c), refl)

pub shape_of-m-in-702 : goal.shape_of-m-in-702
shape_of-m-in-702 c = refl

pub returns-in-702 : goal.returns-in-702
unfolding rows if
returns-in-702 c = (goes_step c.requires 702 Op.ORB c.in-702.is refl refl (c.orb.ensures c.args.c), refl)

pub shape_of-m-in-703 : goal.shape_of-m-in-703
shape_of-m-in-703 c = refl

pub returns-in-703 : goal.returns-in-703
unfolding rows if
returns-in-703 c = (goes_step c.requires 703 Op.XOB c.in-703.is refl refl (c.xob.ensures c.args.c), refl)

pub returns-in-704 : goal.returns-in-704
unfolding rows if
returns-in-704 c = (goes_step c.requires 704 Op.CMB c.in-704.is refl refl (c.cmb.ensures c.args.c c.args.m.now), refl)

pub returns-in-705 : goal.returns-in-705
unfolding rows if
returns-in-705 c = (goes_step c.requires 705 Op.RSH c.in-705.is refl refl (c.rsh.ensures c.args.c c.args.m.now), refl)

pub returns-in-706 : goal.returns-in-706
unfolding rows if
returns-in-706 c = (goes_step c.requires 706 Op.LSH c.in-706.is refl refl (c.lsh.ensures c.args.c c.args.m.now), refl)

pub returns-in-707 : goal.returns-in-707
unfolding rows if
returns-in-707 c = (goes_step c.requires 707 Op.RSX c.in-707.is refl refl (c.rsx.ensures c.args.c c.args.m.now), refl)

pub returns-in-708 : goal.returns-in-708
unfolding rows if
returns-in-708 c = (goes_step c.requires 708 Op.LSX c.in-708.is refl refl (c.lsx.ensures c.args.c c.args.m.now), refl)

pub shape_of-m-in-709 : goal.shape_of-m-in-709
shape_of-m-in-709 c = refl

pub returns-in-709 : goal.returns-in-709
unfolding rows if
returns-in-709 c = (forks-step c.requires 709 Op.NZB c.in-709.is refl refl c.nzb.ensures, refl)

pub shape_of-m-in-710 : goal.shape_of-m-in-710
shape_of-m-in-710 c = refl

pub returns-in-710 : goal.returns-in-710
unfolding rows if
returns-in-710 c = (forks-step c.requires 710 Op.ZRB c.in-710.is refl refl c.zrb.ensures, refl)

pub returns-in-711 : goal.returns-in-711
unfolding rows if
returns-in-711 c = (goes_step c.requires 711 Op.idle c.in-711.is refl refl (c.zgb.ensures c.args.t.now c.args.z.now c.args.m.now c.args.c), refl)

pub returns-in-801 : goal.returns-in-801
unfolding rows if
returns-in-801 c = (goes_step c.requires 801 Op.WTB c.in-801.is refl refl (c.wtb.ensures c.args.c c.args.m.now), refl)

pub returns-in-802 : goal.returns-in-802
unfolding rows if
returns-in-802 c = (goes_step c.requires 802 Op.BTW c.in-802.is refl refl (c.btw.ensures c.args.c c.args.m.now), refl)

pub shape_of-m-in-803 : goal.shape_of-m-in-803
shape_of-m-in-803 c = refl

pub returns-in-803 : goal.returns-in-803
unfolding rows if
returns-in-803 c = (goes_step c.requires 803 Op.MTI c.in-803.is refl refl c.mti.ensures, refl)

pub shape_of-m-in-804 : goal.shape_of-m-in-804
shape_of-m-in-804 c = c.mfi.auto.m

pub returns-in-804 : goal.returns-in-804
unfolding rows if
returns-in-804 c = (forks-step c.requires 804 Op.MFI c.in-804.is refl refl c.mfi.ensures, refl)

pub returns-in-807 : goal.returns-in-807
unfolding rows if
returns-in-807 c = (goes_step c.requires 807 Op.CTW c.in-807.is refl refl (c.ctw.ensures c.args.c c.args.m.now), refl)

pub returns-in-808 : goal.returns-in-808
unfolding rows if
returns-in-808 c = (goes_step c.requires 808 Op.CTB c.in-808.is refl refl (c.ctb.ensures c.args.c c.args.m.now), refl)

pub returns-in-809 : goal.returns-in-809
unfolding rows if
returns-in-809 c = (goes_step c.requires 809 Op.BTC c.in-809.is refl refl (c.btc.ensures c.args.t.now c.args.z.now c.args.m.now c.args.c), refl)

pub returns-in-810 : goal.returns-in-810
unfolding rows if
returns-in-810 c = (goes_step c.requires 810 Op.WTC c.in-810.is refl refl (c.wtc.ensures c.args.c c.args.m.now), refl)

pub returns-in-811 : goal.returns-in-811
unfolding rows if
returns-in-811 c = (forks-step c.requires 811 Op.CVM c.in-811.is refl refl (c.cvm.ensures c.args.m.now), refl)

pub returns-in-812 : goal.returns-in-812
unfolding rows if
returns-in-812 c = (goes_step c.requires 812 Op.CVD c.in-812.is refl refl (c.cvd.ensures c.args.m.now), refl)

pub shape_of-m-in-901 : goal.shape_of-m-in-901
shape_of-m-in-901 c = c.mvc.auto.m

pub returns-in-901 : goal.returns-in-901
unfolding rows if
returns-in-901 c = (goes_step c.requires 901 Op.MVC c.in-901.is refl refl c.mvc.ensures, refl)

pub shape_of-m-in-903 : goal.shape_of-m-in-903
shape_of-m-in-903 c = c.mvw.auto.m

pub returns-in-903 : goal.returns-in-903
unfolding rows if
returns-in-903 c = (goes_step c.requires 903 Op.MVW c.in-903.is refl refl c.mvw.ensures, refl)

pub shape_of-m-in-1001 : goal.shape_of-m-in-1001
shape_of-m-in-1001 c = refl

pub returns-in-1001 : goal.returns-in-1001
unfolding rows if
returns-in-1001 c = (c.chk.ensures c.args.c (open_links c.args.links.now) ∙ controls-step c.requires 1001 Class.CHK Op.checks c.in-1001.is refl refl, refl)

pub real_step-requires : goal.real_step-requires
real_step-requires c = (c.requires, computes-listed _ c.in-503-to-506.if-this-lt501-own.false c.in-503-to-506.in_default-own.rest.0.0.0.0.0.0.0.0.0.0.0.0.0.0.0.0.0.0.0.0.0.0.0.0.0.0.0.0.0.0.0.0.0.0.0.0.1 c.in-503-to-506.in_default-own.rest.0.0.0.0.0.0.0.0.0.0.0.0.0.0.0.0.0.0.0.0.0.0.0.0.0.0.0.0.0.0.0.0.0.0.0.1 c.in-503-to-506.if-this-lt507-own.true)

pub real_step-requires-in-509-to-515 : goal.real_step-requires-in-509-to-515
real_step-requires-in-509-to-515 c = (c.requires, tests-listed _ c.in-509-to-515.if-this-lt507-own.false c.in-509-to-515.in_default-own.rest.0.0.0.0.0.0.0.0.0.0.0.0.0.0.0.0.0.0.0.0.0.0.0.0.0.0.0.0.0.0.0.0.0.0.1 c.in-509-to-515.in_default-own.rest.0.0.0.0.0.0.0.0.0.0.0.0.0.0.0.0.0.0.0.0.0.0.0.0.0.0.0.0.0.0.0.0.0.1 c.in-509-to-515.if-this-lt516-own.true)

pub real_step-requires-in-805-to-806 : goal.real_step-requires-in-805-to-806
real_step-requires-in-805-to-806 c =
    (c.requires, converts-listed _ c.in-805-to-806.if-this-lt801-own.false c.in-805-to-806.in_default-own.rest.0.0.0.0.0.0.0.0.0.0.0.0.1 c.in-805-to-806.in_default-own.rest.0.0.0.0.0.0.0.0.0.0.0.1 c.in-805-to-806.in_default-own.rest.0.0.0.0.0.0.0.0.0.0.1 c.in-805-to-806.in_default-own.rest.0.0.0.0.0.0.0.0.0.1 c.in-805-to-806.if-this-lt807-own.true)

pub returns-in_default : goal.returns-in_default
unfolding rows ◌and◌ ◌or◌
returns-in_default c = absurd (unlisted c.requires c.in_default.in_default-own.rest (below-reals (c.args.t.now at c.args.b) (omega (arith, c.in_default.if-this-lt501-own.true))))

pub returns-in_default-2 : goal.returns-in_default-2
unfolding rows ◌and◌ ◌or◌
returns-in_default-2 c =
    absurd
    (unlisted c.requires c.in_default.in_default-own.rest (between-reals (c.args.t.now at c.args.b) (omega (arith, c.in_default.if-this-lt516-own.false)) (omega (arith, c.in_default.if-this-lt801-own.true))))

pub returns-in_default-3 : goal.returns-in_default-3
unfolding rows ◌and◌ ◌or◌
returns-in_default-3 c = absurd (unlisted c.requires c.in_default.in_default-own.rest (above-reals (c.args.t.now at c.args.b) (omega (arith, c.in_default.if-this-lt807-own.false))))
