-- Tables whose faults tell a changed definition at once; those of crate `rules_faults` are many more.
-- Assumes nothing.
use mathlib.Core.Path.{◌≡◌}
use mathlib.Core.List.{List, [], ◌∷◌}
use Rattle.base.specs.Test.{◌and◌, ◌or◌, if}
use Rattle.base.specs.Lists.{member, same}
use Rattle.ops.specs.Ops.{rows}
use Rattle.rules.specs.Table.{size, constants, workings, fresh_count, externals, section4, section5, section6, fresh_at, exit_count, start_word, table_length, field, class_at, value, target1, target2, target3, executable, body_at, names_procedure, names_external, callee, declared}
use Rattle.rules.specs.Check.{smaller, among, register_ok, value_ok, operand_ok, third_ok, apart, outside, reaches, is_outside, starts_section, all_exits, exit_list, iffs, value_known, unlike, distinct_iffs, switch_list, exit_number_ok, sections_ok, fresh_ok, counts_ok, limits_ok, layout_ok}
use Rattle.rules.proofs.Faults.{expected_by, rows_from, entry_ok, entry_apart, fault_by, quick-failing, quick_below, quick_expected, quick_failing, quick_fault, card, put, tail, Case, breaks, failing, calling, switching, longer, unfit, plain}

-- of the table with calls: a procedure that declares fewer exits, one that is never closed, RTN in one
abbrev calls : List Case
calls =
    breaks 0 6 (put 7 3 1 ∷ [])
    ∷ breaks 16 7 (card 18 (112 ∷ 0 ∷ 0 ∷ 0 ∷ 0 ∷ 0 ∷ 0 ∷ 0 ∷ []) ∷ [])
    ∷ breaks 10 7 (card 10 (122 ∷ 0 ∷ 0 ∷ 0 ∷ 0 ∷ 0 ∷ 0 ∷ 0 ∷ []) ∷ [])
    ∷ []

call-samples : failing calling calls 0 ≡ []
unfolding expected_by quick_expected quick_failing rows_from entry_ok entry_apart fault_by quick_fault quick_below ◌and◌ ◌or◌ if member same rows size constants workings fresh_count externals section4 section5 section6 fresh_at exit_count start_word table_length field class_at value target1 target2 target3 executable body_at names_procedure names_external callee declared smaller among register_ok value_ok operand_ok third_ok apart outside reaches is_outside starts_section all_exits exit_list iffs value_known unlike distinct_iffs switch_list exit_number_ok sections_ok fresh_ok counts_ok limits_ok layout_ok
call-samples = quick-failing calling calls 0

-- of the table with switches: two equal IFF values
switch-sample : failing switching (breaks 0 6 (put 2 3 0 ∷ []) ∷ []) 0 ≡ []
unfolding expected_by quick_expected quick_failing rows_from entry_ok entry_apart fault_by quick_fault quick_below ◌and◌ ◌or◌ if member same rows size constants workings fresh_count externals section4 section5 section6 fresh_at exit_count start_word table_length field class_at value target1 target2 target3 executable body_at names_procedure names_external callee declared smaller among register_ok value_ok operand_ok third_ok apart outside reaches is_outside starts_section all_exits exit_list iffs value_known unlike distinct_iffs switch_list exit_number_ok sections_ok fresh_ok counts_ok limits_ok layout_ok
switch-sample = quick-failing switching (breaks 0 6 (put 2 3 0 ∷ []) ∷ []) 0

-- of the plain table: a word more, and a fresh starting word that is not 0
abbrev layouts : List Case
layouts = unfit (longer ∷ []) ∷ unfit (tail 4 1 ∷ []) ∷ []

layout-samples : failing plain layouts 0 ≡ []
unfolding expected_by quick_expected quick_failing rows_from entry_ok entry_apart fault_by quick_fault quick_below ◌and◌ ◌or◌ if member same rows size constants workings fresh_count externals section4 section5 section6 fresh_at exit_count start_word table_length field class_at value target1 target2 target3 executable body_at names_procedure names_external callee declared smaller among register_ok value_ok operand_ok third_ok apart outside reaches is_outside starts_section all_exits exit_list iffs value_known unlike distinct_iffs switch_list exit_number_ok sections_ok fresh_ok counts_ok limits_ok layout_ok
layout-samples = quick-failing plain layouts 0
