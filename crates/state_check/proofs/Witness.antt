-- A lawful table with a procedure that calls itself, and states of it that pass and that do not, computed.
-- Assumes nothing.
use Prim.Native.Nat.{ℕ}
use mathlib.Core.Path.{◌≡◌, refl}
use mathlib.Core.Bool.{Bool, true, false}
use mathlib.Core.List.{List, [], ◌∷◌, ◌++◌}
use lib.ListN.{replicate}
use Rattle.base.specs.Lists.{member}
use Rattle.base.specs.Test.{◌and◌, ◌or◌, if}
use Rattle.ops.specs.Ops.{rows}
use Rattle.rules.specs.Check.{all_exits, among, apart, counts_ok, distinct_iffs, exit_list, exit_number_ok, fields_ok, fresh_ok, iffs, is_outside, layout_ok, limits_ok, operand_ok, outside, reaches, register_ok, rules_hold, sections_ok, starts_section, switch_list, table_ok, third_ok, unlike, value_known, value_ok}
use Rattle.rules.specs.State.{memory_fits, state_ok}
use Rattle.rules.specs.Table.{body_at, callee, calls, class_at, constants, declared, executable, exit_count, externals, field, fresh_at, fresh_count, names_external, names_procedure, section4, section5, section6, size, start_word, table_length, target1, target2, target3, value, workings}
use Rattle.states.specs.Views.{links_of, state_of}
use Rattle.states.specs.declared.State.{State}

-- an entry of an operation whose first operand is of this kind and value
abbrev entry : ℕ → ℕ → ℕ → List ℕ
entry op kind v = op ∷ kind ∷ 0 ∷ v ∷ 0 ∷ 0 ∷ 0 ∷ 0 ∷ []

-- 0 JSR 3; 1 BRN 0; 2 BRN 2 (section 5); 3 PRC without exits; 4 JSR 3; 5 EXI; 6 ENP; 7 BRN 7 (section 6)
abbrev pub calling : List ℕ
calling =
    (8 ∷ 0 ∷ 0 ∷ 0 ∷ 0 ∷ 0 ∷ 2 ∷ 7 ∷ []) ++ entry 109 6 3 ++ entry 102 6 0 ++ entry 102 6 2 ++ entry 111 1 0 ++ entry 109 6 3
    ++ entry 112 0 0 ++ entry 113 0 0 ++ entry 102 6 7

-- the state at place p with k links, of which two are given
abbrev pub at : ℕ → Bool → ℕ → ℕ → ℕ → State
at p w k i j =
    record {
      xl = 0;
      xr = 0;
      xs = 0;
      wa = 0;
      wb = 0;
      wc = 0;
      ia = 0;
      flag = false;
      pc = p;
      waiting = w;
      count = k;
      links = i ∷ j ∷ replicate 254 0;
      ra_low = 0;
      ra_high = 0;
      real_flag = 0;
    }

abbrev judged : State → List ℕ → Bool
judged s mem = state_ok calling (state_of s mem)

abbrev memory : List ℕ
memory = replicate 256 0

pub calling-passes : table_ok calling ≡ true
unfolding member ◌and◌ ◌or◌ if rows all_exits among apart counts_ok distinct_iffs exit_list exit_number_ok fields_ok fresh_ok iffs is_outside layout_ok limits_ok operand_ok outside reaches register_ok rules_hold sections_ok starts_section switch_list table_ok third_ok unlike value_known value_ok body_at callee calls class_at constants declared executable exit_count externals field fresh_at fresh_count names_external names_procedure section4 section5 section6 size start_word table_length target1 target2 target3 value workings
calling-passes = refl

-- outside with no link; in the procedure, called from outside; in the procedure, called from itself
pub states-pass : judged (at 1 false 0 0 0) memory and judged (at 5 false 1 0 0) memory and judged (at 5 false 2 0 4) memory ≡ true
unfolding member ◌and◌ ◌or◌ if rows state_ok memory_fits links_of body_at callee calls class_at constants executable externals field names_external names_procedure size value workings
states-pass = refl

-- the inner JSR with no link beneath it, which a check of links one by one lets pass; in the procedure with no link; a link that is no JSR;
-- a link past the table; a card that is never arrived at; a place past the table; 257 links; waiting at no EXP; memory too short
pub states-fail :
    judged (at 5 false 1 4 0) memory or judged (at 5 false 0 0 0) memory or judged (at 1 false 1 1 0) memory or judged (at 1 false 1 8 0) memory
    or judged (at 3 false 1 0 0) memory or judged (at 8 false 0 0 0) memory or judged (at 1 false 257 0 4) memory or judged (at 0 true 0 0 0) memory
    or judged (at 1 false 0 0 0) (replicate 255 0) ≡ false
unfolding member ◌and◌ ◌or◌ if rows state_ok memory_fits links_of body_at callee calls class_at constants executable externals field names_external names_procedure size value workings
states-fail = refl
