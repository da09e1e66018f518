-- Refusals of start, restore and the writer where two faults meet, in the order of the paper, and the bytes of a file, word by word
-- [S Numbers the host sees] [S The snapshot].
-- Assumes nothing.
use Prim.Native.Nat.{ℕ}
use mathlib.Core.Path.{◌≡◌, refl}
use mathlib.Core.Bool.{Bool, true, false}
use mathlib.Core.List.{List, [], ◌∷◌, ◌++◌}
use lib.ListN.{drop, replicate}
use Rattle.base.specs.Test.{◌and◌, ◌or◌, if}
use Rattle.base.specs.Lists.{◌at◌, member, same}
use Rattle.ops.specs.Machine.{RA, RAHIGH, RFLAG}
use Rattle.ops.specs.Ops.{rows}
use Rattle.rules.specs.Number.{refusal_number}
use Rattle.rules.specs.Table.{size, constants, workings, fresh_count, externals, section4, section5, section6, fresh_at, exit_count, start_word, table_length, field, class_at, value, target1, target2, target3, executable, body_at, names_procedure, names_external, callee, declared, calls}
use Rattle.rules.specs.Check.{smaller, among, register_ok, value_ok, operand_ok, third_ok, fields_ok, apart, outside, reaches, is_outside, starts_section, all_exits, exit_list, iffs, value_known, unlike, distinct_iffs, switch_list, exit_number_ok, fault_at, rules_hold, sections_ok, fresh_ok, counts_ok, limits_ok, layout_ok, table_ok}
use Rattle.rules.specs.State.{memory_fits, state_ok}
use Rattle.rules.specs.Control.{state_at}
use Rattle.rules.specs.Start.{Mode, Started, begun, unbegun, machine_words, plain, supplied, refreshed, start_of, start_on, warm}
use Rattle.rules.specs.Snapshot.{Restored, Written, bytes_from, file_by, file_of, file_words, filled, form_in, fresh_hidden, frozen_in, frozen_ok, real_word, restore_of, same_program, trailer_ok, trailer_word, unwoken, unwritten, woken, word_in, words_in, write_of}
use Rattle.rules.proofs.Samples.{sample_machine, sample_table}

-- the number of an answer, 0 for what is done
abbrev start_number : Started → ℕ
start_number (begun s) = 0
start_number (unbegun e) = refusal_number e

abbrev woken_number : Restored → ℕ
woken_number (woken s) = 0
woken_number (unwoken e) = refusal_number e

abbrev write_number : Written → ℕ
write_number (filled file) = 0
write_number (unwritten e) = refusal_number e

-- Start: of the empty table, which fails its check, and of one with a fresh word; memory of m words; the fresh words supplied.
abbrev starts : Mode → List ℕ → ℕ → List ℕ → ℕ
starts k t m fs = start_number (start_of k t (replicate m 7) fs 0)

-- 30 before 10 and 43, 10 before 43: all three faults, 30 with each other, 10 with 43, then each alone
abbrev orders : Mode → List ℕ
orders k =
    starts k [] 255 (9 ∷ []) ∷ starts k [] 256 (9 ∷ []) ∷ starts k [] 255 [] ∷ starts k sample_table 255 [] ∷ starts k sample_table 8193 []
    ∷ starts k sample_table 256 [] ∷ starts k sample_table 255 (9 ∷ []) ∷ starts k sample_table 256 (9 ∷ []) ∷ []

pub start-order : (orders plain ≡ 30 ∷ 30 ∷ 30 ∷ 10 ∷ 10 ∷ 43 ∷ 10 ∷ 0 ∷ []) × (orders warm ≡ 30 ∷ 30 ∷ 30 ∷ 10 ∷ 10 ∷ 43 ∷ 10 ∷ 0 ∷ [])
unfolding ◌and◌ ◌or◌ if member same rows size constants workings fresh_count externals section4 section5 section6 fresh_at exit_count start_word table_length field class_at value target1 target2 target3 executable body_at names_procedure names_external callee declared calls smaller among register_ok value_ok operand_ok third_ok fields_ok apart outside reaches is_outside starts_section all_exits exit_list iffs value_known unlike distinct_iffs switch_list exit_number_ok fault_at rules_hold sections_ok fresh_ok counts_ok limits_ok layout_ok table_ok memory_fits state_ok start_on
start-order = (refl, refl)

-- the bytes of a word below 256
abbrev small : ℕ → List ℕ
small b = b ∷ 0 ∷ 0 ∷ 0 ∷ []

-- A file of that table with memory of 256 zeros, of no links, with this build number, place and waiting word.
abbrev file : ℕ → ℕ → ℕ → List ℕ
file build place waiting =
    replicate 1024 0 ++ small 4  -- memory, the fresh address
    ++ small build ++ small 8 ++ (0 ∷ 1 ∷ 0 ∷ 0 ∷ []) ++ small 0 ++ small 1 ++ small place ++ small waiting  -- n 8, m 256, k 0, f 1
    ++ replicate 32 0 ++ 68 ∷ 4 ∷ 0 ∷ 0 ∷ []  -- registers, IA, flag; L is 1092

-- restored by a host of build 7 that supplies fs and lends m words
abbrev restores : List ℕ → List ℕ → List ℕ → ℕ → ℕ
restores t f fs m = woken_number (restore_of t f 7 fs (replicate m 0))

-- 30 before 40 before 41 before 42 before 43 before 44: both faults, then the later alone; place 5 is an ENP, which no state stands at
pub restore-order :
    restores [] [] (9 ∷ []) 256 ∷ restores sample_table [] (9 ∷ []) 256
    ∷ restores sample_table (file 8 0 2) (9 ∷ []) 256 ∷ restores sample_table (file 8 0 0) (9 ∷ []) 256
    ∷ restores sample_table (file 8 5 0) (9 ∷ []) 256 ∷ restores sample_table (file 7 5 0) (9 ∷ []) 256
    ∷ restores sample_table (file 7 5 0) [] 256 ∷ restores sample_table (file 7 0 0) [] 256
    ∷ restores sample_table (file 7 0 0) [] 255 ∷ restores sample_table (file 7 0 0) (9 ∷ []) 255
    ∷ restores sample_table (file 7 0 0) (9 ∷ []) 256 ∷ []
    ≡ 30 ∷ 40 ∷ 40 ∷ 41 ∷ 41 ∷ 42 ∷ 42 ∷ 43 ∷ 43 ∷ 44 ∷ 0 ∷ []
unfolding ◌and◌ ◌or◌ if member same rows size constants workings fresh_count externals section4 section5 section6 fresh_at exit_count start_word table_length field class_at value target1 target2 target3 executable body_at names_procedure names_external callee declared calls smaller among register_ok value_ok operand_ok third_ok fields_ok apart outside reaches is_outside starts_section all_exits exit_list iffs value_known unlike distinct_iffs switch_list exit_number_ok fault_at rules_hold sections_ok fresh_ok counts_ok limits_ok layout_ok table_ok memory_fits state_ok supplied refreshed word_in words_in trailer_word form_in real_word trailer_ok same_program frozen_in fresh_hidden frozen_ok restore_of
restore-order = refl

-- The same file as the writer gives it since there are reals: with RA's two words, of which the high one is given by its upper bytes, and its flag.
abbrev real_file : ℕ → ℕ → ℕ → List ℕ
real_file b c flag =
    replicate 1024 0 ++ small 4 ++ small 1 ++ (0 ∷ 0 ∷ b ∷ c ∷ []) ++ small flag  -- memory, the fresh address, RA, its flag
    ++ small 7 ++ small 8 ++ (0 ∷ 1 ∷ 0 ∷ 0 ∷ []) ++ small 0 ++ small 1 ++ small 0 ++ small 0  -- build, n, m, k, f, place, waiting
    ++ replicate 32 0 ++ 80 ∷ 4 ∷ 0 ∷ 0 ∷ []  -- registers, IA, flag; L is 1104

-- RA and its flag in the machine that a file holds
abbrev reals_of : Restored → List ℕ
reals_of (woken s) = s.core.words at RA ∷ s.core.words at RAHIGH ∷ s.core.words at RFLAG ∷ []
reals_of (unwoken e) = refusal_number e ∷ []

abbrev reals : List ℕ → List ℕ
reals f = reals_of (restore_of sample_table f 7 (9 ∷ []) (replicate 256 0))

-- both kinds are taken by what L says, the old one with +0 and off; 40 for an infinity, a NaN, a flag of 2, an L of 1104 with 1092 bytes [02 Wish 5]
pub restore-reals :
    reals (file 7 0 0) ∷ reals (real_file 240 63 1) ∷ reals (real_file 239 255 0) ∷ reals (real_file 240 127 0) ∷ reals (real_file 248 255 0)
    ∷ reals (real_file 240 63 2) ∷ reals (drop 12 (real_file 240 63 1)) ∷ []
    ≡ (0 ∷ 0 ∷ 0 ∷ []) ∷ (1 ∷ 1072693248 ∷ 1 ∷ []) ∷ (1 ∷ 4293853184 ∷ 0 ∷ []) ∷ (40 ∷ []) ∷ (40 ∷ []) ∷ (40 ∷ []) ∷ (40 ∷ []) ∷ []
unfolding ◌and◌ ◌or◌ if member same rows size constants workings fresh_count externals section4 section5 section6 fresh_at exit_count start_word table_length field class_at value target1 target2 target3 executable body_at names_procedure names_external callee declared calls smaller among register_ok value_ok operand_ok third_ok fields_ok apart outside reaches is_outside starts_section all_exits exit_list iffs value_known unlike distinct_iffs switch_list exit_number_ok fault_at rules_hold sections_ok fresh_ok counts_ok limits_ok layout_ok table_ok memory_fits state_ok supplied refreshed word_in words_in trailer_word form_in real_word trailer_ok same_program frozen_in fresh_hidden frozen_ok restore_of
restore-reals = refl

-- the writer: a state at place 5 fails its check; L is 4(256 + 2 + 1) + 76 = 1112
abbrev writes : List ℕ → ℕ → ℕ → ℕ
writes t place room =
    write_number (write_of t (state_at (sample_machine 5 7).core place false (sample_machine 5 7).links) 7 (replicate room 0))

-- 30 before 31 before 45
pub write-order :
    writes [] 5 1112 ∷ writes [] 3 1111 ∷ writes sample_table 5 1111 ∷ writes sample_table 5 1112 ∷ writes sample_table 3 1111 ∷ writes sample_table 3 1112 ∷ []
    ≡ 30 ∷ 30 ∷ 31 ∷ 31 ∷ 45 ∷ 0 ∷ []
unfolding ◌and◌ ◌or◌ if member same rows size constants workings fresh_count externals section4 section5 section6 fresh_at exit_count start_word table_length field class_at value target1 target2 target3 executable body_at names_procedure names_external callee declared calls smaller among register_ok value_ok operand_ok third_ok fields_ok apart outside reaches is_outside starts_section all_exits exit_list iffs value_known unlike distinct_iffs switch_list exit_number_ok fault_at rules_hold sections_ok fresh_ok counts_ok limits_ok layout_ok table_ok memory_fits state_ok write_of
write-order = refl

-- a machine with five words of memory, of which word 1 is fresh
abbrev frozen : Bool → ℕ → List ℕ
frozen waiting flag =
    file_of sample_table
    (state_at (record { words = machine_words 11 12 13 14 15 16 4294967291 flag 17 18 1; mem = 258 ∷ 99 ∷ 21 ∷ 22 ∷ 23 ∷ [] }) 6 waiting (0 ∷ 3 ∷ []))
    16909060

-- its file with the words 6 and 14 of the trailer
abbrev bytes : ℕ → ℕ → List ℕ
bytes waiting flag =
    (2 ∷ 1 ∷ 0 ∷ 0 ∷ []) ++ small 0 ++ small 21 ++ small 22 ++ small 23  -- memory, the fresh word as 0
    ++ small 0 ++ small 3 ++ small 4  -- links, oldest first; the fresh address
    ++ small 17 ++ small 18 ++ small 1  -- RA, its flag
    ++ (4 ∷ 3 ∷ 2 ∷ 1 ∷ []) ++ small 8 ++ small 5 ++ small 2 ++ small 1  -- build number, n, m, k, f
    ++ small 6 ++ small waiting  -- place, waiting
    ++ small 11 ++ small 12 ++ small 13 ++ small 14 ++ small 15 ++ small 16  -- XL, XR, XS, WA, WB, WC
    ++ (251 ∷ 255 ∷ 255 ∷ 255 ∷ []) ++ small flag ++ small 108  -- IA is -5, flag, L

pub file-bytes : frozen true 0 ∷ frozen false 1 ∷ [] ≡ bytes 1 0 ∷ bytes 0 1 ∷ []
unfolding if size fresh_count fresh_at supplied refreshed bytes_from file_words file_by
file-bytes = refl
