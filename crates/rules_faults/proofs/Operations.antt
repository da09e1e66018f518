-- Single operations that no other computed case settles: what each stores and where it goes, the numbers taken from the papers.
-- Assumes nothing.
use Prim.Native.Nat.{ℕ}
use mathlib.Core.Path.{◌≡◌, ap, fun_ext}
use mathlib.Core.Bool.{Bool, true, false, cond}
use mathlib.Core.List.{List, [], ◌∷◌, ◌++◌}
use lib.ListN.{replicate}
use Rattle.base.specs.Test.{◌and◌, ◌or◌, if}
use Rattle.base.specs.Lists.{◌at◌, member, same}
use Rattle.ops.specs.Machine.{XL, WA}
use Rattle.ops.specs.Ops.{rows}
use Rattle.words.specs.Words.{signed, fits, positive, text_words, shift_right, shift_left}
use Rattle.rules.specs.Number.{outcome_number, refusal_number}
use Rattle.rules.specs.Table.{size, constants, workings, fresh_count, externals, section4, section5, section6, fresh_at, exit_count, start_word, table_length, field, class_at, op_at, value, target1, target2, target3, slot, executable, body_at, names_procedure, names_external, callee, declared, calls, entry_place, is_entry, entry_of}
use Rattle.rules.specs.Check.{smaller, among, register_ok, value_ok, operand_ok, third_ok, apart, outside, reaches, is_outside, starts_section, all_exits, exit_list, iffs, value_known, unlike, distinct_iffs, switch_list, exit_number_ok, sections_ok, fresh_ok, counts_ok, limits_ok, layout_ok}
use Rattle.rules.specs.State.{State, memory_fits, state_ok}
use Rattle.rules.specs.Operand.{spot_of, moved_of, word_at, char_at, given, fetch_of, store_of, char_in, with_char, fetch_char_of, store_char_of}
use Rattle.rules.specs.Exec.{changes, copies, combines, tells, compares, loads, accumulated, divided, lei_of, mfi_of, cvm_by, cvm_of, cvd_of, chars_fit, ranged, copied_chars, copied_words, translated, compared, cmc_of, trc_of, mvc_of, mvw_of, lch_of, sch_of, act}
use Rattle.rules.specs.Control.{state_at, exit_of, choose, effect_of, step}
use Rattle.rules.specs.Run.{Answer, Call, refused, ended, nowhere, runs, resumes, steps, ran, perform, answer}
use Rattle.rules.specs.Start.{own_words, filled, supplied, refreshed, loaded, started, start_on}
use Rattle.rules.proofs.Faults.{entry_apart, entry_ok, fault_by, quick_below, quick_fault, quick_table, rows_from}
use Rattle.rules.proofs.Edges.{Edge, taken, stops, differing, quick-differing, quick_differing, quick-answer, quick_answer, quick_verdict}

-- an entry of the operation o with operands one and two
abbrev entry : ℕ → List ℕ → List ℕ → List ℕ
entry o a b = o ∷ a ++ b ++ 0 ∷ []

-- operands: none, WA, WB, XR, the value v, the word at address a, place p
abbrev none : List ℕ
none = 0 ∷ 0 ∷ 0 ∷ []

abbrev wa : List ℕ
wa = 8 ∷ 4 ∷ 0 ∷ []

abbrev wb : List ℕ
wb = 8 ∷ 5 ∷ 0 ∷ []

abbrev xr : List ℕ
xr = 7 ∷ 2 ∷ 0 ∷ []

abbrev lit : ℕ → List ℕ
lit v = 1 ∷ 0 ∷ v ∷ []

abbrev word : ℕ → List ℕ
word a = 3 ∷ 0 ∷ a ∷ []

abbrev place : ℕ → List ℕ
place p = 6 ∷ 0 ∷ p ∷ []

-- the machine's words with XR, WA, WB and IA as given, the others set too
abbrev with : ℕ → ℕ → ℕ → ℕ → List ℕ
with x a b i = own_words 4 x 1024 a b 6 i 1

-- a step that leaves memory as it was
abbrev moves : List ℕ → List ℕ → ℕ → List ℕ → Edge
moves e z p z' = taken e z [] p z' []

-- sections 1, 2 and 4
abbrev values : List Edge
values =
    -- ZER WA; ZER 8; ZER 4, a constant
    moves (entry 118 wa none) (with 32 7 3 5) 1 (with 32 0 3 5)
    ∷ taken (entry 118 (word 8) none) (with 32 7 3 5) (1 ∷ 2 ∷ 9 ∷ 4 ∷ []) 1 (with 32 7 3 5) (1 ∷ 2 ∷ 0 ∷ 4 ∷ [])
    ∷ stops (entry 118 (word 4) none) (with 32 7 3 5) (1 ∷ 2 ∷ []) 23
    -- MNZ WA
    ∷ moves (entry 119 wa none) (with 32 0 3 5) 1 (with 32 1 3 5)
    -- DCV WA of 5, of 0
    ∷ moves (entry 117 wa none) (with 32 5 3 5) 1 (with 32 4 3 5)
    ∷ moves (entry 117 wa none) (with 32 0 3 5) 1 (with 32 4294967295 3 5)
    -- ICA WA of 5, of 4294967294
    ∷ moves (entry 203 wa none) (with 32 5 3 5) 1 (with 32 9 3 5)
    ∷ moves (entry 203 wa none) (with 32 4294967294 3 5) 1 (with 32 2 3 5)
    -- BNZ WA,2 and BZE WA,2 of 0, of 2147483648
    ∷ moves (entry 213 wa (place 2)) (with 32 0 3 5) 1 (with 32 0 3 5)
    ∷ moves (entry 213 wa (place 2)) (with 32 2147483648 3 5) 2 (with 32 2147483648 3 5)
    ∷ moves (entry 214 wa (place 2)) (with 32 0 3 5) 2 (with 32 0 3 5)
    ∷ moves (entry 214 wa (place 2)) (with 32 2147483648 3 5) 1 (with 32 2147483648 3 5)
    -- LCT WA,WB; LCT WA,=9
    ∷ moves (entry 215 wa wb) (with 32 7 3 5) 1 (with 32 3 3 5)
    ∷ moves (entry 215 wa (lit 9)) (with 32 7 3 5) 1 (with 32 9 3 5)
    -- ERB 5: section 6 is place 4
    ∷ moves (entry 115 (lit 5) none) (with 32 7 3 5) 4 (with 32 5 3 5)
    -- LDI 8 of -5, STI 8 of -5: the flag stays; STI 4, a constant
    ∷ taken (entry 401 (word 8) none) (with 32 7 3 5) (1 ∷ 2 ∷ 4294967291 ∷ []) 1 (with 32 7 3 4294967291) (1 ∷ 2 ∷ 4294967291 ∷ [])
    ∷ taken (entry 407 (word 8) none) (with 32 7 3 4294967291) (1 ∷ 2 ∷ 6 ∷ []) 1 (with 32 7 3 4294967291) (1 ∷ 2 ∷ 4294967291 ∷ [])
    ∷ stops (entry 407 (word 4) none) (with 32 7 3 5) (1 ∷ 2 ∷ []) 23
    ∷ []

-- sections 6, 7 and 8; 4278255360 is FF00FF00, 4042322160 F0F0F0F0 in base 16
abbrev conversions : List Edge
conversions =
    -- PSC XR,WA; PSC XR,=3; PSC XR; past 2^32
    moves (entry 602 xr wa) (with 32 7 3 5) 1 (with 47 7 3 5)
    ∷ moves (entry 602 xr (lit 3)) (with 32 7 3 5) 1 (with 43 7 3 5)
    ∷ moves (entry 602 xr none) (with 32 7 3 5) 1 (with 40 7 3 5)
    ∷ moves (entry 602 xr (lit 3)) (with 4294967290 7 3 5) 1 (with 5 7 3 5)
    -- TRC of the characters 200 and 255 at byte 8 by the table at byte 12, which has 65 and 66 for them
    ∷ taken (entry 609 none none) (own_words 8 12 1024 2 3 6 5 1) (1 ∷ 2 ∷ 65480 ∷ replicate 50 0 ++ 65 ∷ replicate 12 0 ++ 1107296256 ∷ [])
    1 (own_words 0 0 1024 0 3 6 5 1) (1 ∷ 2 ∷ 16961 ∷ replicate 50 0 ++ 65 ∷ replicate 12 0 ++ 1107296256 ∷ [])
    -- ANB WB,WA; ORB WB,WA; XOB WB,WA; CMB WA
    ∷ moves (entry 701 wb wa) (with 32 4042322160 4278255360 5) 1 (with 32 4026593280 4278255360 5)
    ∷ moves (entry 702 wb wa) (with 32 4042322160 4278255360 5) 1 (with 32 4293984240 4278255360 5)
    ∷ moves (entry 703 wb wa) (with 32 4042322160 4278255360 5) 1 (with 32 267390960 4278255360 5)
    ∷ moves (entry 704 wa none) (with 32 4042322160 3 5) 1 (with 32 252645135 3 5)
    -- RSX WA,XR and LSX WA,XR by 4, by 31 and by 32
    ∷ moves (entry 707 wa xr) (with 4 4042322160 3 5) 1 (with 4 252645135 3 5)
    ∷ moves (entry 707 wa xr) (with 31 4042322160 3 5) 1 (with 31 1 3 5)
    ∷ moves (entry 707 wa xr) (with 32 4294967295 3 5) 1 (with 32 0 3 5)
    ∷ moves (entry 708 wa xr) (with 4 4042322160 3 5) 1 (with 4 252645120 3 5)
    ∷ moves (entry 708 wa xr) (with 31 4294967295 3 5) 1 (with 31 2147483648 3 5)
    ∷ moves (entry 708 wa xr) (with 32 4294967295 3 5) 1 (with 32 0 3 5)
    -- NZB WA,2 and ZRB WA,2 of 0, of 2147483648
    ∷ moves (entry 709 wa (place 2)) (with 32 0 3 5) 1 (with 32 0 3 5)
    ∷ moves (entry 709 wa (place 2)) (with 32 2147483648 3 5) 2 (with 32 2147483648 3 5)
    ∷ moves (entry 710 wa (place 2)) (with 32 0 3 5) 2 (with 32 0 3 5)
    ∷ moves (entry 710 wa (place 2)) (with 32 2147483648 3 5) 1 (with 32 2147483648 3 5)
    -- BTW WA of 11, of 4294967295
    ∷ moves (entry 802 wa none) (with 32 11 3 5) 1 (with 32 2 3 5)
    ∷ moves (entry 802 wa none) (with 32 4294967295 3 5) 1 (with 32 1073741823 3 5)
    -- WTC WA of 5, of 1073741825
    ∷ moves (entry 810 wa none) (with 32 5 3 5) 1 (with 32 20 3 5)
    ∷ moves (entry 810 wa none) (with 32 1073741825 3 5) 1 (with 32 4 3 5)
    -- MTI WA of 7, of 4294967295: the flag stays
    ∷ moves (entry 803 wa none) (with 32 7 3 5) 1 (with 32 7 3 7)
    ∷ moves (entry 803 wa none) (with 32 4294967295 3 5) 1 (with 32 4294967295 3 4294967295)
    ∷ []

pub values-taken : differing values 0 ≡ []
unfolding quick_differing quick_answer quick_verdict quick_table quick_below quick_fault fault_by entry_ok entry_apart rows_from ◌and◌ ◌or◌ if member same rows signed fits positive text_words shift_right shift_left size constants workings fresh_count externals section4 section5 section6 fresh_at exit_count start_word table_length field class_at op_at value target1 target2 target3 slot executable body_at names_procedure names_external callee declared calls entry_place is_entry entry_of smaller among register_ok value_ok operand_ok third_ok apart outside reaches is_outside starts_section all_exits exit_list iffs value_known unlike distinct_iffs switch_list exit_number_ok sections_ok fresh_ok counts_ok limits_ok layout_ok memory_fits state_ok spot_of moved_of word_at char_at given fetch_of store_of char_in with_char fetch_char_of store_char_of changes copies combines tells compares loads accumulated divided lei_of mfi_of cvm_by cvm_of cvd_of chars_fit ranged copied_chars copied_words translated compared cmc_of trc_of mvc_of mvw_of lch_of sch_of act exit_of choose effect_of step steps ran perform filled supplied refreshed loaded started start_on
values-taken = quick-differing values 0

pub conversions-taken : differing conversions 0 ≡ []
unfolding quick_differing quick_answer quick_verdict quick_table quick_below quick_fault fault_by entry_ok entry_apart rows_from ◌and◌ ◌or◌ if member same rows signed fits positive text_words shift_right shift_left size constants workings fresh_count externals section4 section5 section6 fresh_at exit_count start_word table_length field class_at op_at value target1 target2 target3 slot executable body_at names_procedure names_external callee declared calls entry_place is_entry entry_of smaller among register_ok value_ok operand_ok third_ok apart outside reaches is_outside starts_section all_exits exit_list iffs value_known unlike distinct_iffs switch_list exit_number_ok sections_ok fresh_ok counts_ok limits_ok layout_ok memory_fits state_ok spot_of moved_of word_at char_at given fetch_of store_of char_in with_char fetch_char_of store_char_of changes copies combines tells compares loads accumulated divided lei_of mfi_of cvm_by cvm_of cvd_of chars_fit ranged copied_chars copied_words translated compared cmc_of trc_of mvc_of mvw_of lch_of sch_of act exit_of choose effect_of step steps ran perform filled supplied refreshed loaded started start_on
conversions-taken = quick-differing conversions 0

-- A table whose place 0 holds e, with two entry points: place 2 has the value 7, place 4 has none.
abbrev entering : List ℕ → List ℕ
entering e =
    (8 ∷ 0 ∷ 0 ∷ 0 ∷ 0 ∷ 0 ∷ 6 ∷ 7 ∷ []) ++ e
    ++ 102 ∷ 6 ∷ 0 ∷ 1 ∷ 0 ∷ 0 ∷ 0 ∷ 0  -- 1 BRN 1
    ∷ 106 ∷ 1 ∷ 0 ∷ 7 ∷ 0 ∷ 0 ∷ 0 ∷ 0  -- 2 ENT 7
    ∷ 102 ∷ 6 ∷ 0 ∷ 3 ∷ 0 ∷ 0 ∷ 0 ∷ 0  -- 3 BRN 3
    ∷ 106 ∷ 0 ∷ 0 ∷ 0 ∷ 0 ∷ 0 ∷ 0 ∷ 0  -- 4 ENT
    ∷ 102 ∷ 6 ∷ 0 ∷ 5 ∷ 0 ∷ 0 ∷ 0 ∷ 0  -- 5 BRN 5
    ∷ 102 ∷ 6 ∷ 0 ∷ 6 ∷ 0 ∷ 0 ∷ 0 ∷ 0  -- 6 BRN 6
    ∷ 102 ∷ 6 ∷ 0 ∷ 7 ∷ 0 ∷ 0 ∷ 0 ∷ 0 ∷ []  -- 7 BRN 7

abbrev bri : List ℕ
bri = entering (entry 107 wa none)

abbrev lei : List ℕ
lei = entering (entry 108 (7 ∷ 1 ∷ 0 ∷ []) none)

-- A switch on XL of at most 3 branches: 2 goes to place 5, 0 to place 6, 1 has none; d is its default's place and 1 more, or 0.
abbrev bsw : ℕ → List ℕ
bsw d =
    9 ∷ 0 ∷ 0 ∷ 0 ∷ 0 ∷ 0 ∷ 7 ∷ 8
    ∷ 103 ∷ 7 ∷ 1 ∷ 0 ∷ 1 ∷ 0 ∷ 3 ∷ d  -- 0 BSW XL,3
    ∷ 104 ∷ 1 ∷ 0 ∷ 2 ∷ 6 ∷ 0 ∷ 5 ∷ 0  -- 1 IFF 2,5
    ∷ 104 ∷ 1 ∷ 0 ∷ 0 ∷ 6 ∷ 0 ∷ 6 ∷ 0  -- 2 IFF 0,6
    ∷ 105 ∷ 0 ∷ 0 ∷ 0 ∷ 0 ∷ 0 ∷ 0 ∷ 0  -- 3 ESW
    ∷ 102 ∷ 6 ∷ 0 ∷ 4 ∷ 0 ∷ 0 ∷ 0 ∷ 0  -- 4 BRN 4
    ∷ 102 ∷ 6 ∷ 0 ∷ 5 ∷ 0 ∷ 0 ∷ 0 ∷ 0  -- 5 BRN 5
    ∷ 102 ∷ 6 ∷ 0 ∷ 6 ∷ 0 ∷ 0 ∷ 0 ∷ 0  -- 6 BRN 6
    ∷ 102 ∷ 6 ∷ 0 ∷ 7 ∷ 0 ∷ 0 ∷ 0 ∷ 0  -- 7 BRN 7
    ∷ 102 ∷ 6 ∷ 0 ∷ 8 ∷ 0 ∷ 0 ∷ 0 ∷ 0 ∷ []  -- 8 BRN 8

-- a call of an EXP with an error exit
abbrev err : List ℕ
err =
    5 ∷ 0 ∷ 0 ∷ 0 ∷ 1 ∷ 0 ∷ 3 ∷ 4
    ∷ 109 ∷ 23 ∷ 0 ∷ 0 ∷ 0 ∷ 0 ∷ 0 ∷ 0  -- 0 JSR
    ∷ 114 ∷ 1 ∷ 0 ∷ 77 ∷ 0 ∷ 0 ∷ 0 ∷ 0  -- 1 ERR 77
    ∷ 102 ∷ 6 ∷ 0 ∷ 2 ∷ 0 ∷ 0 ∷ 0 ∷ 0  -- 2 BRN 2
    ∷ 102 ∷ 6 ∷ 0 ∷ 3 ∷ 0 ∷ 0 ∷ 0 ∷ 0  -- 3 BRN 3
    ∷ 102 ∷ 6 ∷ 0 ∷ 4 ∷ 0 ∷ 0 ∷ 0 ∷ 0  -- 4 BRN 4
    ∷ 1 ∷ []

-- the ending, the place, whether the state waits, XL and WA
abbrev shown : Answer → List ℕ
shown (refused n) = refusal_number n ∷ []
shown nowhere = []
shown (ended e k s) = outcome_number e ∷ s.pc ∷ cond s.waiting 1 0 ∷ s.core.words at XL ∷ s.core.words at WA ∷ []

-- at place 0 with XL x and WA a, waiting or not
abbrev stands : Bool → ℕ → ℕ → State
stands w x a = state_at (record { words = own_words x 0 1024 a 0 0 0 0; mem = replicate 256 0 }) 0 w []

-- as f answers them; an entry point's value is 1073741824 + 4 × its place
abbrev controls_by : (List ℕ → State → Call → Answer) → List (List ℕ)
controls_by f =
    let on : List ℕ → ℕ → List ℕ = λ t v. shown (f t (stands false v v) (runs 1)) in
    -- BRI WA to place 2, to place 4, to a BRN at place 3
    on bri 1073741832 ∷ on bri 1073741840 ∷ on bri 1073741836
    -- LEI XL of an ENT with VAL, of one without, of a BRN
    ∷ on lei 1073741832 ∷ on lei 1073741840 ∷ on lei 1073741836
    -- BSW XL of 2, 0, 1 and 3 with the default place 4, of 1 without
    ∷ on (bsw 5) 2 ∷ on (bsw 5) 0 ∷ on (bsw 5) 1 ∷ on (bsw 5) 3 ∷ on (bsw 0) 1
    -- the JSR of an EXP waits; resumed by the ERR to section 6, and by no exit
    ∷ on err 9 ∷ shown (f err (stands true 9 9) (resumes 1)) ∷ shown (f err (stands true 9 9) (resumes 0)) ∷ []

pub controls-taken :
    controls_by answer
    ≡ (21 ∷ 2 ∷ 0 ∷ 1073741832 ∷ 1073741832 ∷ []) ∷ (21 ∷ 4 ∷ 0 ∷ 1073741840 ∷ 1073741840 ∷ [])
    ∷ (24 ∷ 0 ∷ 0 ∷ 1073741836 ∷ 1073741836 ∷ [])
    ∷ (21 ∷ 1 ∷ 0 ∷ 7 ∷ 1073741832 ∷ []) ∷ (24 ∷ 0 ∷ 0 ∷ 1073741840 ∷ 1073741840 ∷ [])
    ∷ (24 ∷ 0 ∷ 0 ∷ 1073741836 ∷ 1073741836 ∷ [])
    ∷ (21 ∷ 5 ∷ 0 ∷ 2 ∷ 2 ∷ []) ∷ (21 ∷ 6 ∷ 0 ∷ 0 ∷ 0 ∷ []) ∷ (21 ∷ 4 ∷ 0 ∷ 1 ∷ 1 ∷ []) ∷ (21 ∷ 4 ∷ 0 ∷ 3 ∷ 3 ∷ []) ∷ (25 ∷ 0 ∷ 0 ∷ 1 ∷ 1 ∷ [])
    ∷ (20 ∷ 0 ∷ 1 ∷ 9 ∷ 9 ∷ []) ∷ (0 ∷ 4 ∷ 0 ∷ 9 ∷ 77 ∷ []) ∷ (0 ∷ 2 ∷ 0 ∷ 9 ∷ 9 ∷ []) ∷ []
unfolding quick_answer quick_verdict quick_table quick_below quick_fault fault_by entry_ok entry_apart rows_from ◌and◌ ◌or◌ if member same rows signed fits positive text_words shift_right shift_left size constants workings fresh_count externals section4 section5 section6 fresh_at exit_count start_word table_length field class_at op_at value target1 target2 target3 slot executable body_at names_procedure names_external callee declared calls entry_place is_entry entry_of smaller among register_ok value_ok operand_ok third_ok apart outside reaches is_outside starts_section all_exits exit_list iffs value_known unlike distinct_iffs switch_list exit_number_ok sections_ok fresh_ok counts_ok limits_ok layout_ok memory_fits state_ok spot_of moved_of word_at char_at given fetch_of store_of char_in with_char fetch_char_of store_char_of changes copies combines tells compares loads accumulated divided lei_of mfi_of cvm_by cvm_of cvd_of chars_fit ranged copied_chars copied_words translated compared cmc_of trc_of mvc_of mvw_of lch_of sch_of act exit_of choose effect_of step steps ran perform filled supplied refreshed loaded started start_on
controls-taken = ap controls_by (fun_ext (λ t. fun_ext (λ s. fun_ext (quick-answer t s))))
