-- The real operations, a step each, the numbers from the papers and from the patterns of 64-bit floats [02 Wish 5].
-- Assumes nothing.
use Prim.Native.Nat.{ℕ}
use mathlib.Core.Path.{◌≡◌}
use mathlib.Core.List.{List, [], ◌∷◌, ◌++◌}
use Rattle.base.specs.Test.{◌and◌, ◌or◌, if}
use Rattle.base.specs.Lists.{member, same}
use Rattle.ops.specs.Ops.{rows}
use Rattle.words.specs.Words.{signed, fits, positive, text_words, shift_right, shift_left}
use Rattle.rules.specs.Table.{size, constants, workings, fresh_count, externals, section4, section5, section6, fresh_at, exit_count, start_word, table_length, field, class_at, op_at, value, target1, target2, target3, slot, executable, body_at, names_procedure, names_external, callee, declared, calls, entry_place, is_entry, entry_of}
use Rattle.rules.specs.Check.{smaller, among, register_ok, value_ok, operand_ok, third_ok, apart, outside, reaches, is_outside, starts_section, all_exits, exit_list, iffs, value_known, unlike, distinct_iffs, switch_list, exit_number_ok, sections_ok, fresh_ok, counts_ok, limits_ok, layout_ok}
use Rattle.rules.specs.State.{memory_fits, state_ok}
use Rattle.rules.specs.Operand.{spot_of, moved_of, word_at, char_at, given, fetch_of, store_of, char_in, with_char, fetch_char_of, store_char_of}
use Rattle.rules.specs.Exec.{changes, copies, combines, tells, compares, loads, accumulated, divided, lei_of, mfi_of, cvm_by, cvm_of, cvd_of, chars_fit, ranged, copied_chars, copied_words, translated, compared, cmc_of, trc_of, mvc_of, mvw_of, lch_of, sch_of, act}
use Rattle.rules.specs.Control.{exit_of, choose, effect_of, step}
use Rattle.rules.specs.Run.{steps, ran, perform}
use lib.Ieee.{add, sub, mul, div, neg, lt, le, eq, ne, of_int, of_bits, to_bits}
use Rattle.real_rules.specs.Real.{real_of, settled}
use Rattle.rules.specs.Pair.{pair_of, loads_real, stores_pair, rti_of}
use Rattle.rules.specs.Start.{machine_words, filled, supplied, refreshed, loaded, started, start_on}
use Rattle.rules.proofs.Faults.{entry_apart, entry_ok, fault_by, quick_below, quick_fault, quick_table, rows_from}
use Rattle.rules.proofs.Edges.{Edge, taken, stops, differing, quick-differing, quick_differing, quick_answer, quick_verdict}

-- the machine's words with RA, its flag and IA as given, the others set too
abbrev with : ℕ → ℕ → ℕ → ℕ → List ℕ
with lo hi real i = machine_words 4 10 1024 7 3 6 i 1 lo hi real

abbrev reals : List Edge
reals =
    -- LDR 8 of 0.1; of an infinity, of a NaN
    taken (501 ∷ 3 ∷ 0 ∷ 8 ∷ 0 ∷ 0 ∷ 0 ∷ 0 ∷ []) (with 0 1073741824 1 5) (1 ∷ 2 ∷ 2576980378 ∷ 1069128089 ∷ []) 1 (with 2576980378 1069128089 0 5) (1 ∷ 2 ∷ 2576980378 ∷ 1069128089 ∷ [])
    ∷ taken (501 ∷ 3 ∷ 0 ∷ 8 ∷ 0 ∷ 0 ∷ 0 ∷ 0 ∷ []) (with 0 1073741824 0 5) (1 ∷ 2 ∷ 0 ∷ 2146435072 ∷ []) 1 (with 0 1073741824 1 5) (1 ∷ 2 ∷ 0 ∷ 2146435072 ∷ [])
    ∷ taken (501 ∷ 3 ∷ 0 ∷ 8 ∷ 0 ∷ 0 ∷ 0 ∷ 0 ∷ []) (with 0 1073741824 0 5) (1 ∷ 2 ∷ 1 ∷ 2146435072 ∷ []) 1 (with 0 1073741824 1 5) (1 ∷ 2 ∷ 1 ∷ 2146435072 ∷ [])
    -- ADR of 0.1 and 0.2; of the largest value and itself; of 1 and an infinity
    ∷ taken (503 ∷ 3 ∷ 0 ∷ 8 ∷ 0 ∷ 0 ∷ 0 ∷ 0 ∷ []) (with 2576980378 1069128089 1 5) (1 ∷ 2 ∷ 2576980378 ∷ 1070176665 ∷ []) 1 (with 858993460 1070805811 0 5) (1 ∷ 2 ∷ 2576980378 ∷ 1070176665 ∷ [])
    ∷ taken (503 ∷ 3 ∷ 0 ∷ 8 ∷ 0 ∷ 0 ∷ 0 ∷ 0 ∷ []) (with 4294967295 2146435071 0 5) (1 ∷ 2 ∷ 4294967295 ∷ 2146435071 ∷ []) 1 (with 4294967295 2146435071 1 5) (1 ∷ 2 ∷ 4294967295 ∷ 2146435071 ∷ [])
    ∷ taken (503 ∷ 3 ∷ 0 ∷ 8 ∷ 0 ∷ 0 ∷ 0 ∷ 0 ∷ []) (with 0 1072693248 0 5) (1 ∷ 2 ∷ 0 ∷ 2146435072 ∷ []) 1 (with 0 1072693248 1 5) (1 ∷ 2 ∷ 0 ∷ 2146435072 ∷ [])
    -- SBR of 1 from 1 is +0; MLR of 1e308 by 10; of the least value by a half, a tie to 0
    ∷ taken (504 ∷ 3 ∷ 0 ∷ 8 ∷ 0 ∷ 0 ∷ 0 ∷ 0 ∷ []) (with 0 1072693248 1 5) (1 ∷ 2 ∷ 0 ∷ 1072693248 ∷ []) 1 (with 0 0 0 5) (1 ∷ 2 ∷ 0 ∷ 1072693248 ∷ [])
    ∷ taken (505 ∷ 3 ∷ 0 ∷ 8 ∷ 0 ∷ 0 ∷ 0 ∷ 0 ∷ []) (with 2246822048 2145504499 0 5) (1 ∷ 2 ∷ 0 ∷ 1076101120 ∷ []) 1 (with 2246822048 2145504499 1 5) (1 ∷ 2 ∷ 0 ∷ 1076101120 ∷ [])
    ∷ taken (505 ∷ 3 ∷ 0 ∷ 8 ∷ 0 ∷ 0 ∷ 0 ∷ 0 ∷ []) (with 1 0 1 5) (1 ∷ 2 ∷ 0 ∷ 1071644672 ∷ []) 1 (with 0 0 0 5) (1 ∷ 2 ∷ 0 ∷ 1071644672 ∷ [])
    -- DVR of 1 by 3; by +0, by -0, by an infinity, of 0 by 0
    ∷ taken (506 ∷ 3 ∷ 0 ∷ 8 ∷ 0 ∷ 0 ∷ 0 ∷ 0 ∷ []) (with 0 1072693248 1 5) (1 ∷ 2 ∷ 0 ∷ 1074266112 ∷ []) 1 (with 1431655765 1070945621 0 5) (1 ∷ 2 ∷ 0 ∷ 1074266112 ∷ [])
    ∷ taken (506 ∷ 3 ∷ 0 ∷ 8 ∷ 0 ∷ 0 ∷ 0 ∷ 0 ∷ []) (with 0 1072693248 0 5) (1 ∷ 2 ∷ 0 ∷ 0 ∷ []) 1 (with 0 1072693248 1 5) (1 ∷ 2 ∷ 0 ∷ 0 ∷ [])
    ∷ taken (506 ∷ 3 ∷ 0 ∷ 8 ∷ 0 ∷ 0 ∷ 0 ∷ 0 ∷ []) (with 0 1072693248 0 5) (1 ∷ 2 ∷ 0 ∷ 2147483648 ∷ []) 1 (with 0 1072693248 1 5) (1 ∷ 2 ∷ 0 ∷ 2147483648 ∷ [])
    ∷ taken (506 ∷ 3 ∷ 0 ∷ 8 ∷ 0 ∷ 0 ∷ 0 ∷ 0 ∷ []) (with 0 1072693248 0 5) (1 ∷ 2 ∷ 0 ∷ 2146435072 ∷ []) 1 (with 0 1072693248 1 5) (1 ∷ 2 ∷ 0 ∷ 2146435072 ∷ [])
    ∷ taken (506 ∷ 3 ∷ 0 ∷ 8 ∷ 0 ∷ 0 ∷ 0 ∷ 0 ∷ []) (with 0 0 0 5) (1 ∷ 2 ∷ 0 ∷ 0 ∷ []) 1 (with 0 0 1 5) (1 ∷ 2 ∷ 0 ∷ 0 ∷ [])
    -- STR 8 leaves RA and its flag; to a constant; to the last word of memory, whose second word is none; to an unaligned address
    ∷ taken (502 ∷ 3 ∷ 0 ∷ 8 ∷ 0 ∷ 0 ∷ 0 ∷ 0 ∷ []) (with 2576980378 1069128089 1 5) (1 ∷ 2 ∷ 0 ∷ 1075707904 ∷ []) 1 (with 2576980378 1069128089 1 5) (1 ∷ 2 ∷ 2576980378 ∷ 1069128089 ∷ [])
    ∷ stops (502 ∷ 3 ∷ 0 ∷ 4 ∷ 0 ∷ 0 ∷ 0 ∷ 0 ∷ []) (with 2576980378 1069128089 1 5) (1 ∷ 2 ∷ 0 ∷ 1075707904 ∷ []) 23
    ∷ stops (502 ∷ 12 ∷ 1 ∷ 1016 ∷ 0 ∷ 0 ∷ 0 ∷ 0 ∷ []) (with 2576980378 1069128089 1 5) (1 ∷ 2 ∷ 0 ∷ 1075707904 ∷ []) 22
    ∷ stops (502 ∷ 9 ∷ 2 ∷ 0 ∷ 0 ∷ 0 ∷ 0 ∷ 0 ∷ []) (with 2576980378 1069128089 1 5) (1 ∷ 2 ∷ 0 ∷ 1075707904 ∷ []) 22
    -- LDR of the same places; the pair of the last constant and the first working word is read, and not written
    ∷ stops (501 ∷ 12 ∷ 1 ∷ 1016 ∷ 0 ∷ 0 ∷ 0 ∷ 0 ∷ []) (with 2576980378 1069128089 0 5) (1 ∷ 2 ∷ 0 ∷ 1075707904 ∷ []) 22
    ∷ stops (501 ∷ 9 ∷ 2 ∷ 0 ∷ 0 ∷ 0 ∷ 0 ∷ 0 ∷ []) (with 2576980378 1069128089 0 5) (1 ∷ 2 ∷ 0 ∷ 1075707904 ∷ []) 22
    ∷ taken (501 ∷ 3 ∷ 0 ∷ 4 ∷ 0 ∷ 0 ∷ 0 ∷ 0 ∷ []) (with 2576980378 1069128089 1 5) (1 ∷ 2 ∷ 1073741824 ∷ []) 1 (with 2 1073741824 0 5) (1 ∷ 2 ∷ 1073741824 ∷ [])
    -- NGR of +0, of -0, of 1.5 with the flag on
    ∷ taken (509 ∷ 0 ∷ 0 ∷ 0 ∷ 0 ∷ 0 ∷ 0 ∷ 0 ∷ []) (with 0 0 0 5) [] 1 (with 0 2147483648 0 5) []
    ∷ taken (509 ∷ 0 ∷ 0 ∷ 0 ∷ 0 ∷ 0 ∷ 0 ∷ 0 ∷ []) (with 0 2147483648 0 5) [] 1 (with 0 0 0 5) []
    ∷ taken (509 ∷ 0 ∷ 0 ∷ 0 ∷ 0 ∷ 0 ∷ 0 ∷ 0 ∷ []) (with 0 1073217536 1 5) [] 1 (with 0 3220701184 0 5) []
    -- ITR of 5, of -2147483648: exact, the flag goes off
    ∷ taken (805 ∷ 0 ∷ 0 ∷ 0 ∷ 0 ∷ 0 ∷ 0 ∷ 0 ∷ []) (with 2576980378 1069128089 1 5) [] 1 (with 0 1075052544 0 5) []
    ∷ taken (805 ∷ 0 ∷ 0 ∷ 0 ∷ 0 ∷ 0 ∷ 0 ∷ 0 ∷ []) (with 2576980378 1069128089 1 2147483648) [] 1 (with 0 3252682752 0 2147483648) []
    -- RTI 2 of -1.5, of 2147483647.999, of -2147483648.9; of 2147483648 and of -2147483649 it branches and IA stays; RTI goes on
    ∷ taken (806 ∷ 6 ∷ 0 ∷ 2 ∷ 0 ∷ 0 ∷ 0 ∷ 0 ∷ []) (with 0 3220701184 1 5) [] 1 (with 0 3220701184 1 4294967295) []
    ∷ taken (806 ∷ 6 ∷ 0 ∷ 2 ∷ 0 ∷ 0 ∷ 0 ∷ 0 ∷ []) (with 4294963102 1105199103 0 5) [] 1 (with 4294963102 1105199103 0 2147483647) []
    ∷ taken (806 ∷ 6 ∷ 0 ∷ 2 ∷ 0 ∷ 0 ∷ 0 ∷ 0 ∷ []) (with 1887437 3252682752 0 5) [] 1 (with 1887437 3252682752 0 2147483648) []
    ∷ taken (806 ∷ 6 ∷ 0 ∷ 2 ∷ 0 ∷ 0 ∷ 0 ∷ 0 ∷ []) (with 0 1105199104 0 5) [] 2 (with 0 1105199104 0 5) []
    ∷ taken (806 ∷ 6 ∷ 0 ∷ 2 ∷ 0 ∷ 0 ∷ 0 ∷ 0 ∷ []) (with 2097152 3252682752 1 5) [] 2 (with 2097152 3252682752 1 5) []
    ∷ taken (806 ∷ 0 ∷ 0 ∷ 0 ∷ 0 ∷ 0 ∷ 0 ∷ 0 ∷ []) (with 0 1105199104 0 5) [] 1 (with 0 1105199104 0 5) []
    ∷ []

pub real-edges : differing reals 0 ≡ []
unfolding quick_differing quick_answer quick_verdict quick_table quick_below quick_fault fault_by entry_ok entry_apart rows_from ◌and◌ ◌or◌ if member same rows signed fits positive text_words shift_right shift_left size constants workings fresh_count externals section4 section5 section6 fresh_at exit_count start_word table_length field class_at op_at value target1 target2 target3 slot executable body_at names_procedure names_external callee declared calls entry_place is_entry entry_of smaller among register_ok value_ok operand_ok third_ok apart outside reaches is_outside starts_section all_exits exit_list iffs value_known unlike distinct_iffs switch_list exit_number_ok sections_ok fresh_ok counts_ok limits_ok layout_ok memory_fits state_ok spot_of moved_of word_at char_at given fetch_of store_of char_in with_char fetch_char_of store_char_of changes copies combines tells compares loads accumulated divided lei_of mfi_of cvm_by cvm_of cvd_of chars_fit ranged copied_chars copied_words translated compared cmc_of trc_of mvc_of mvw_of lch_of sch_of act exit_of choose effect_of step steps ran perform filled supplied refreshed loaded started start_on real_of settled pair_of loads_real stores_pair rti_of add sub mul div neg lt le eq ne of_int of_bits to_bits
real-edges = quick-differing reals 0

-- ROV, RNO, REQ, RGE, RGT, RLE, RLT and RNE with RA and its flag, to place 2
abbrev tests : List ℕ
tests = 507 ∷ 508 ∷ 510 ∷ 511 ∷ 512 ∷ 513 ∷ 514 ∷ 515 ∷ []

abbrev goes_to : ℕ → ℕ → ℕ → ℕ → ℕ → Edge
goes_to q lo hi real o = taken (o ∷ 6 ∷ 0 ∷ 2 ∷ 0 ∷ 0 ∷ 0 ∷ 0 ∷ []) (with lo hi real 5) [] q (with lo hi real 5) []

abbrev tested : ℕ → ℕ → ℕ → List ℕ → List ℕ → List Edge
tested lo hi real (o ∷ os) (q ∷ qs) = goes_to q lo hi real o ∷ tested lo hi real os qs
tested lo hi real [] qs = []
tested lo hi real (o ∷ os) [] = []

-- of +0, of -0, of the least value with the flag on, of -1.5
abbrev signs : List Edge
signs =
    tested 0 0 0 tests (1 ∷ 2 ∷ 2 ∷ 2 ∷ 1 ∷ 2 ∷ 1 ∷ 1 ∷ []) ++ tested 0 2147483648 0 tests (1 ∷ 2 ∷ 2 ∷ 2 ∷ 1 ∷ 2 ∷ 1 ∷ 1 ∷ [])
    ++ tested 1 0 1 tests (2 ∷ 1 ∷ 1 ∷ 2 ∷ 2 ∷ 1 ∷ 1 ∷ 2 ∷ []) ++ tested 0 3220701184 0 tests (1 ∷ 2 ∷ 1 ∷ 1 ∷ 1 ∷ 2 ∷ 2 ∷ 2 ∷ [])

pub real-tests : differing signs 0 ≡ []
unfolding quick_differing quick_answer quick_verdict quick_table quick_below quick_fault fault_by entry_ok entry_apart rows_from ◌and◌ ◌or◌ if member same rows signed fits positive text_words shift_right shift_left size constants workings fresh_count externals section4 section5 section6 fresh_at exit_count start_word table_length field class_at op_at value target1 target2 target3 slot executable body_at names_procedure names_external callee declared calls entry_place is_entry entry_of smaller among register_ok value_ok operand_ok third_ok apart outside reaches is_outside starts_section all_exits exit_list iffs value_known unlike distinct_iffs switch_list exit_number_ok sections_ok fresh_ok counts_ok limits_ok layout_ok memory_fits state_ok spot_of moved_of word_at char_at given fetch_of store_of char_in with_char fetch_char_of store_char_of changes copies combines tells compares loads accumulated divided lei_of mfi_of cvm_by cvm_of cvd_of chars_fit ranged copied_chars copied_words translated compared cmc_of trc_of mvc_of mvw_of lch_of sch_of act exit_of choose effect_of step steps ran perform filled supplied refreshed loaded started start_on real_of settled pair_of loads_real stores_pair rti_of add sub mul div neg lt le eq ne of_int of_bits to_bits
real-tests = quick-differing signs 0
