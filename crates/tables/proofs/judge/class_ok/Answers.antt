-- `tables::judge::class_ok` meets its contract: each arm is the rule of its class.
use Rattle.tables.proofs.Passes.{rules-by, rules-none}
use Rattle.ops.specs.Class.{executes, marks, goes, forks, BRN, JMG, BRI, BSW, ENT, RTN, JSR, EXI, SSS, ERB, CHK, PPM, ERR, IFF, ESW, PRC, ENP}
use native.Mathlib.Omega.{arith}
use mathlib.Core.Path.{◌∙◌}
use Rattle.tables.proofs.judge.class_ok.Goals as goal

pub returns-in-0 : goal.returns-in-0
returns-in-0 c = c.goes_ok.ensures ∙ rules-by c.args.places.now.table.now c.args.p _ (c.args.places.now.known.classes c.args.p (omega arith)) (executes goes) c.in-0.is

pub returns-in-1 : goal.returns-in-1
returns-in-1 c = c.forks_ok.ensures ∙ rules-by c.args.places.now.table.now c.args.p _ (c.args.places.now.known.classes c.args.p (omega arith)) (executes forks) c.in-1.is

pub returns-in-2 : goal.returns-in-2
returns-in-2 c = c.brn_ok.ensures ∙ rules-by c.args.places.now.table.now c.args.p _ (c.args.places.now.known.classes c.args.p (omega arith)) (executes BRN) c.in-2.is

pub returns-in-3 : goal.returns-in-3
returns-in-3 c = c.jmg_ok.ensures ∙ rules-by c.args.places.now.table.now c.args.p _ (c.args.places.now.known.classes c.args.p (omega arith)) (executes JMG) c.in-3.is

pub returns-in-4 : goal.returns-in-4
returns-in-4 c = rules-by c.args.places.now.table.now c.args.p _ (c.args.places.now.known.classes c.args.p (omega arith)) (executes BRI) c.in-4.is

pub returns-in-5 : goal.returns-in-5
returns-in-5 c = c.bsw_ok.ensures ∙ rules-by c.args.places.now.table.now c.args.p _ (c.args.places.now.known.classes c.args.p (omega arith)) (executes BSW) c.in-5.is

pub returns-in-6 : goal.returns-in-6
returns-in-6 c = c.ent_ok.ensures ∙ rules-by c.args.places.now.table.now c.args.p _ (c.args.places.now.known.classes c.args.p (omega arith)) (executes ENT) c.in-6.is

pub returns-in-7 : goal.returns-in-7
returns-in-7 c = c.ent_ok-in-7.ensures ∙ rules-by c.args.places.now.table.now c.args.p _ (c.args.places.now.known.classes c.args.p (omega arith)) (executes RTN) c.in-7.is

pub returns-in-8 : goal.returns-in-8
returns-in-8 c = c.jsr_ok.ensures ∙ rules-by c.args.places.now.table.now c.args.p _ (c.args.places.now.known.classes c.args.p (omega arith)) (executes JSR) c.in-8.is

pub returns-in-9 : goal.returns-in-9
returns-in-9 c = c.exi_ok.ensures ∙ rules-by c.args.places.now.table.now c.args.p _ (c.args.places.now.known.classes c.args.p (omega arith)) (executes EXI) c.in-9.is

pub returns-in-10 : goal.returns-in-10
returns-in-10 c = c.ent_ok-in-10.ensures ∙ rules-by c.args.places.now.table.now c.args.p _ (c.args.places.now.known.classes c.args.p (omega arith)) (executes SSS) c.in-10.is

pub returns-in-11 : goal.returns-in-11
returns-in-11 c = rules-by c.args.places.now.table.now c.args.p _ (c.args.places.now.known.classes c.args.p (omega arith)) (executes ERB) c.in-11.is

pub returns-in-12 : goal.returns-in-12
returns-in-12 c = c.goes_ok-in-12.ensures ∙ rules-by c.args.places.now.table.now c.args.p _ (c.args.places.now.known.classes c.args.p (omega arith)) (executes CHK) c.in-12.is

pub returns-in-13 : goal.returns-in-13
returns-in-13 c = c.ppm_ok.ensures ∙ rules-by c.args.places.now.table.now c.args.p _ (c.args.places.now.known.classes c.args.p (omega arith)) (marks PPM) c.in-13.is

pub returns-in-14 : goal.returns-in-14
returns-in-14 c = c.err_ok.ensures ∙ rules-by c.args.places.now.table.now c.args.p _ (c.args.places.now.known.classes c.args.p (omega arith)) (marks ERR) c.in-14.is

pub returns-in-15 : goal.returns-in-15
returns-in-15 c = c.iff_ok.ensures ∙ rules-by c.args.places.now.table.now c.args.p _ (c.args.places.now.known.classes c.args.p (omega arith)) (marks IFF) c.in-15.is

pub returns-in-16 : goal.returns-in-16
returns-in-16 c = c.esw_ok.ensures ∙ rules-by c.args.places.now.table.now c.args.p _ (c.args.places.now.known.classes c.args.p (omega arith)) (marks ESW) c.in-16.is

pub returns-in-17 : goal.returns-in-17
returns-in-17 c = c.prc_ok.ensures ∙ rules-by c.args.places.now.table.now c.args.p _ (c.args.places.now.known.classes c.args.p (omega arith)) (marks PRC) c.in-17.is

pub returns-in-18 : goal.returns-in-18
returns-in-18 c = c.enp_ok.ensures ∙ rules-by c.args.places.now.table.now c.args.p _ (c.args.places.now.known.classes c.args.p (omega arith)) (marks ENP) c.in-18.is

pub returns-in_default : goal.returns-in_default
returns-in_default c = rules-none c.args.places.now.table.now c.args.p _ (c.args.places.now.known.classes c.args.p (omega arith)) c.in_default.in_default-own.rest.0.0.0.0.0.0.0.0.0.0.0.0.0.0.0.0.0.0.1 c.in_default.in_default-own.rest.0.0.0.0.0.0.0.0.0.0.0.0.0.0.0.0.0.1 c.in_default.in_default-own.rest.0.0.0.0.0.0.0.0.0.0.0.0.0.0.0.0.1 c.in_default.in_default-own.rest.0.0.0.0.0.0.0.0.0.0.0.0.0.0.0.1 c.in_default.in_default-own.rest.0.0.0.0.0.0.0.0.0.0.0.0.0.0.1 c.in_default.in_default-own.rest.0.0.0.0.0.0.0.0.0.0.0.0.0.1 c.in_default.in_default-own.rest.0.0.0.0.0.0.0.0.0.0.0.0.1 c.in_default.in_default-own.rest.0.0.0.0.0.0.0.0.0.0.0.1 c.in_default.in_default-own.rest.0.0.0.0.0.0.0.0.0.0.1 c.in_default.in_default-own.rest.0.0.0.0.0.0.0.0.0.1 c.in_default.in_default-own.rest.0.0.0.0.0.0.0.0.1 c.in_default.in_default-own.rest.0.0.0.0.0.0.0.1 c.in_default.in_default-own.rest.0.0.0.0.0.0.1 c.in_default.in_default-own.rest.0.0.0.0.0.1 c.in_default.in_default-own.rest.0.0.0.0.1 c.in_default.in_default-own.rest.0.0.0.1 c.in_default.in_default-own.rest.0.0.1 c.in_default.in_default-own.rest.0.1 c.in_default.in_default-own.rest.1
