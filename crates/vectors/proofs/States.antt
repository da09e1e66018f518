-- The frozen states are those of the rules: the one that the reference program's run leaves, and the sample machine. Computed.
-- Assumes nothing.
use Rattle.std.proofs.Common.{◌≡◌, false, [], ◌∷◌, replicate, refl}
use Rattle.base.specs.Test.{◌and◌, ◌or◌, if}
use Rattle.base.specs.Lists.{member, same}
use Rattle.ops.specs.Ops.{rows}
use Rattle.words.specs.Words.{signed, fits, positive, text_words, shift_right, shift_left}
use Rattle.rules.specs.Table.{size, constants, workings, fresh_count, externals, section4, section5, section6, fresh_at, exit_count, start_word, table_length, field, class_at, op_at, value, target1, target2, target3, slot, executable, body_at, names_procedure, names_external, callee, declared, calls, entry_place, is_entry, entry_of}
use Rattle.rules.specs.Check.{smaller, among, register_ok, value_ok, operand_ok, third_ok, fields_ok, apart, outside, reaches, is_outside, starts_section, all_exits, exit_list, iffs, value_known, unlike, distinct_iffs, switch_list, exit_number_ok, fault_at, rules_hold, sections_ok, fresh_ok, counts_ok, limits_ok, layout_ok, table_ok}
use Rattle.rules.specs.State.{memory_fits, state_ok}
use Rattle.rules.specs.Operand.{spot_of, moved_of, word_at, char_at, given, fetch_of, store_of, char_in, with_char, fetch_char_of, store_char_of}
use Rattle.rules.specs.Exec.{changes, copies, combines, tells, compares, loads, accumulated, divided, lei_of, mfi_of, cvm_by, cvm_of, cvd_of, chars_fit, ranged, copied_chars, copied_words, translated, compared, cmc_of, trc_of, mvc_of, mvw_of, lch_of, sch_of, act}
use Rattle.rules.specs.Control.{state_at, exit_of, choose, effect_of, step}
use Rattle.rules.specs.Run.{runs, left, steps, ran, verdict, perform, answer}
use Rattle.rules.specs.Start.{machine_words, filled, supplied, refreshed, loaded, started, start_on}
use Rattle.rules.specs.Reference.{reference, begins}
use Rattle.rules.proofs.Samples.{sample_machine}
use Rattle.states.specs.Views.{links_of}
use Rattle.lent.specs.Lent.{state_from}
use Rattle.vectors.specs.Machines.{called_words, waiting_words}

-- started with memory of 256 zeros and run with budget 1,000
pub waiting-is-left : state_from waiting_words (replicate 256 0) ≡ left (begins reference 0) (answer reference (begins reference 0) (runs 1000))
unfolding ◌and◌ ◌or◌ if member same rows signed fits positive text_words shift_right shift_left size constants workings fresh_count externals section4 section5 section6 fresh_at exit_count start_word table_length field class_at op_at value target1 target2 target3 slot executable body_at names_procedure names_external callee declared calls entry_place is_entry entry_of smaller among register_ok value_ok operand_ok third_ok fields_ok apart outside reaches is_outside starts_section all_exits exit_list iffs value_known unlike distinct_iffs switch_list exit_number_ok fault_at rules_hold sections_ok fresh_ok counts_ok limits_ok layout_ok table_ok memory_fits state_ok spot_of moved_of word_at char_at given fetch_of store_of char_in with_char fetch_char_of store_char_of changes copies combines tells compares loads accumulated divided lei_of mfi_of cvm_by cvm_of cvd_of chars_fit ranged copied_chars copied_words translated compared cmc_of trc_of mvc_of mvw_of lch_of sch_of act exit_of choose effect_of step steps ran verdict perform answer filled supplied refreshed loaded started start_on links_of waiting_words
waiting-is-left = refl

-- in the second call of the sample's procedure, RA 1.5 and a little more, its flag on
pub called-is-sample :
    state_from called_words (replicate 256 11)
    ≡ state_at (record { words = machine_words 1 2 3 4 5 6 7 1 8 1073217536 1; mem = (sample_machine 11 11).core.mem }) 3 false (0 ∷ 3 ∷ [])
unfolding links_of called_words
called-is-sample = refl
