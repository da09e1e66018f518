-- The code's answer of the checks that every call begins with, as the rules' verdict.
-- Two wrong answers that the equation rules out: a bad state on a bad table named by 31, and every state admitted on a lawful table.
-- Assumes nothing.
use Rattle.std.specs.Prelude.{Result, Ok, Err}
use Rattle.rules.specs.Number as Number
use Rattle.rules.specs.Number.{Verdict, granted, refused_by, bad_table, bad_state}
use Rattle.admission.specs.declared.Refusal.{Refusal}
use Rattle.admission.specs.declared.Refusal.TheVariants.{BadTable, BadState}

abbrev pub refusal_of : Refusal → Number.Refusal
refusal_of BadTable = bad_table
refusal_of BadState = bad_state

abbrev pub verdict_of : Result (Unit {0}) Refusal → Verdict
verdict_of (Ok u) = granted
verdict_of (Err e) = refused_by (refusal_of e)
