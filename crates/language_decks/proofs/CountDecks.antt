-- Decks refused by 8, 9 or 10, the order of refusals, and what the answer leaves in the lent words.
-- Assumes nothing.
use Prim.Native.Nat.{ℕ, zero, suc, ◌+◌, ◌/◌, ◌%◌}
use Prim.Native.String.{String}
use mathlib.Core.Path.{◌≡◌, ap, fun_ext, refl}
use mathlib.Core.Bool.{Bool, true, false}
use mathlib.Core.List.{List, [], ◌∷◌, ◌++◌}
use lib.ListN.{replicate}
use Rattle.language.proofs.Deck.{failing_by, quick-failing, Case, around, bytes, case, deck, failing, program, told, typed_lines}
use Rattle.language.proofs.Quick.{answer-by, answer_by, kept_by_lem, kept_by, look_up, named_in, operation_by, walk_by, with_remainder}
use Rattle.base.specs.Test.{◌and◌, ◌or◌, if}
use Rattle.base.specs.Lists.{member, same}
use Rattle.ops.specs.Ops.{rows}
use Rattle.ops.specs.Lookup.{row_of_letters}
use Rattle.supplied.specs.Supplied.{supplies, supplied_of}
use Rattle.words.specs.Words.{text_words}
use Rattle.rules.specs.Table.{size, constants, workings, fresh_count, externals, section4, section5, section6, fresh_at, exit_count, start_word, table_length, field, class_at, value, target1, target2, target3, executable, body_at, names_procedure, names_external, callee, declared}
use Rattle.rules.specs.Check.{smaller, among, register_ok, value_ok, operand_ok, third_ok, fields_ok, apart, outside, reaches, is_outside, starts_section, all_exits, exit_list, iffs, value_known, unlike, distinct_iffs, switch_list, exit_number_ok, fault_at, rules_hold, sections_ok, fresh_ok, counts_ok, limits_ok, layout_ok, table_ok}
use Rattle.language.specs.Text.{between, parts, lines, label_end, operation_start, operation_end, operand_start, tail_of, field_of, is_empty, symbol_of, number_of, register_of, label_of, label_formed}
use Rattle.language.specs.Operation.{operation_named, operation_in, operation_of, is_skipped, is_divider, wants_label, is_labelless, bars_label, formats_of, has_text}
use Rattle.language.specs.Decimal.{decimal_of, pointed}
use Rattle.language.specs.Form.{single_form, indexed_form, combined_form, signed_form, marked_form, form_of, texts_in, written_forms, has_comma, has_remark, delimited_by, quoted}
use Rattle.language.specs.Card.{card_of, holds_place, of_words, is_one_word, word_count, is_external, opened_past, past, walk, cards_of}
use Rattle.language.specs.Symbol.{declared_sort, placed_sort, sort_at, fields_named, first_place, global_meaning, meaning, all_placed, above, pairs}
use Rattle.language.specs.Operand.{register_kind, takes, value_within, displaced, symbol_by, summed, subtracted, signed_within, operand_of, operands_of, outcomes}
use Rattle.language.specs.Image.{symbol_at, symbols_from, symbols_of, first_operand, row_entry, entry_in, is_fresh, words_in, starts_in, fresh_in, counts_in, header, image}
use Rattle.language.specs.Fault.{deck_with, deck_in, deck_of, bytes_printed, line_short, label_readable, forms_of, operands_formed, remark_there, text_delimited, in_its_section, is_labelled, label_there, label_wanted, label_once, no_surplus, operands_fit, comma_there, text_there, symbols_defined, procedure_declared, routine_declared, count_known, is_judged, loose_fault, place_fault, shape_fault, conditions, fault_of}
use Rattle.language.specs.Answer.{Answer, first_fault, is_closed, is_complete, is_within, limits_kept, finished, judged, answer_of, left_of}

-- 8: SEC or END missing, section 4, 5 or 6 empty, INP, INR or GLB without its place
abbrev incompletes : List Case
incompletes =
    case 8 0 []
    ∷ case 8 0 (" END" ∷ [])
    ∷ case 8 0 (" SEC" ∷ " SEC" ∷ " SEC" ∷ " SEC" ∷ " SEC" ∷ "START BRN START" ∷ " SEC" ∷ " ERB 1,A" ∷ " SEC" ∷ " ERB 1,A" ∷ [])
    ∷ case 8 0 (" SEC" ∷ " SEC" ∷ " SEC" ∷ " SEC" ∷ "CONST DAC 1" ∷ " SEC" ∷ "START BRN START" ∷ " SEC" ∷ " ERB 1,A" ∷ " END" ∷ [])
    ∷ case 8 0 (program [])
    ∷ case 8 0 (" SEC" ∷ " SEC" ∷ " SEC" ∷ " SEC" ∷ " SEC" ∷ "START BRN START" ∷ " SEC" ∷ " SEC" ∷ " ERB 1,A" ∷ " END" ∷ [])
    ∷ case 8 0 (" SEC" ∷ " SEC" ∷ " SEC" ∷ " SEC" ∷ " SEC" ∷ "START BRN START" ∷ " SEC" ∷ " ERB 1,A" ∷ " SEC" ∷ " END" ∷ [])
    ∷ case 8 0 (deck ("ADDUP INP R,1" ∷ []) [] [] [] ("START BRN START" ∷ []))
    ∷ case 8 0 (deck ("ROUTE INR" ∷ []) [] [] [] ("START BRN START" ∷ []))
    ∷ case 8 0 (deck ("GLOBE GLB" ∷ []) [] [] [] ("START BRN START" ∷ []))
    -- used: no fault on the line, where the missing place could still fit
    ∷ case 8 0 (deck ("ADDUP INP R,1" ∷ []) [] [] [] (" JSR ADDUP" ∷ " PPM" ∷ "START BRN ADDUP" ∷ []))
    ∷ case 8 0 (deck ("ROUTE INR" ∷ []) [] [] [] (" BCT WA,ROUTE" ∷ "START BRN ROUTE" ∷ []))
    ∷ case 8 0 (deck ("GLOBE GLB" ∷ []) [] ("CONST DAC GLOBE" ∷ []) [] (" MOV =GLOBE,WA" ∷ "START JMG GLOBE" ∷ []))
    ∷ case 8 0 (deck ("GLOBE GLB" ∷ []) [] [] [] (" BSW XL,1,GLOBE" ∷ " IFF 0,GLOBE" ∷ " ESW" ∷ "START JMG GLOBE" ∷ []))
    ∷ case 4 7 (deck ("GLOBE GLB" ∷ []) [] [] [] (" JSR GLOBE" ∷ []))
    ∷ case 4 7 (deck ("ADDUP INP R,1" ∷ []) [] [] [] (" MOV =ADDUP,WA" ∷ []))
    ∷ case 4 7 (deck ("ROUTE INR" ∷ []) [] [] [] (" JMG ROUTE" ∷ []))
    ∷ case 4 8 (deck ("ROUTE INR" ∷ "ROUTE GLB" ∷ []) [] [] [] (" MOV =ROUTE,WA" ∷ []))
    ∷ case 7 7 (deck ("GLOBE GLB" ∷ []) [] [] [] (" MOV =GLOBE,WA" ∷ " ENP" ∷ []))
    -- what follows END is not read
    ∷ case 0 32 (program ("START BRN START" ∷ []) ++ "((( NO CARD" ∷ "START XYZ" ∷ [])
    ∷ []

incomplete-decks : failing 0 incompletes ≡ []
unfolding failing_by answer_by named_in with_remainder look_up operation_by walk_by ◌and◌ ◌or◌ if member same rows supplies supplied_of text_words size constants workings fresh_count externals section4 section5 section6 fresh_at exit_count start_word table_length field class_at value target1 target2 target3 executable body_at names_procedure names_external callee declared smaller among register_ok value_ok operand_ok third_ok fields_ok apart outside reaches is_outside starts_section all_exits exit_list iffs value_known unlike distinct_iffs switch_list exit_number_ok fault_at rules_hold sections_ok fresh_ok counts_ok limits_ok layout_ok table_ok between parts lines label_end operation_start operation_end operand_start tail_of field_of is_empty symbol_of number_of register_of label_of label_formed is_skipped is_divider wants_label is_labelless bars_label formats_of has_text single_form indexed_form combined_form signed_form marked_form form_of texts_in written_forms has_comma has_remark delimited_by quoted holds_place of_words is_one_word word_count is_external opened_past past declared_sort placed_sort sort_at fields_named first_place global_meaning meaning all_placed above pairs register_kind takes value_within displaced symbol_by summed subtracted signed_within operand_of operands_of outcomes symbol_at symbols_from symbols_of first_operand row_entry entry_in is_fresh words_in starts_in fresh_in counts_in header image deck_with deck_in bytes_printed line_short label_readable forms_of operands_formed remark_there text_delimited in_its_section is_labelled label_there label_wanted label_once no_surplus operands_fit comma_there text_there symbols_defined procedure_declared routine_declared count_known is_judged loose_fault place_fault shape_fault conditions fault_of first_fault is_closed is_complete is_within limits_kept finished judged left_of
incomplete-decks = quick-failing 0 incompletes

-- two faults on a line: the smallest number; on two lines: the earlier line
abbrev orders : List Case
orders =
    case 1 6 (program ("NOTE XYZ" ∷ "START BRN START" ∷ []))
    ∷ case 2 6 (program ("ERROR XYZ" ∷ "START BRN START" ∷ []))
    ∷ case 3 7 (program ("START BRN START" ∷ "START BRN 5" ∷ []))
    ∷ case 3 6 (program (" RTN" ∷ "START BRN START" ∷ []))
    ∷ case 4 6 (program (" BEQ NONE$,5,NONE$" ∷ "START BRN START" ∷ []))
    ∷ case 5 8 (program (" JSR ADDUP" ∷ "START BRN START" ∷ "ADDUP PRC R,NONE$" ∷ " ENP" ∷ []))
    ∷ case 6 15 (around (" JSR SYSXX" ∷ " XYZ" ∷ []))
    ∷ case 6 7 (program ("START BRN START" ∷ "ROUTE RTN" ∷ " ENP" ∷ []))
    ∷ case 7 6 (program (" EXI" ∷ "NOTE XYZ" ∷ []))
    ∷ case 5 6 (program (" BRN NONE$" ∷ " BRN ((" ∷ []))
    ∷ case 4 6 (program (" EXI 0" ∷ []))
    -- a fault comes before 8
    ∷ case 7 6 (" SEC" ∷ " SEC" ∷ " SEC" ∷ " SEC" ∷ " SEC" ∷ " EXI" ∷ [])
    ∷ []

order-of-faults : failing 0 orders ≡ []
unfolding failing_by answer_by named_in with_remainder look_up operation_by walk_by ◌and◌ ◌or◌ if member same rows supplies supplied_of text_words size constants workings fresh_count externals section4 section5 section6 fresh_at exit_count start_word table_length field class_at value target1 target2 target3 executable body_at names_procedure names_external callee declared smaller among register_ok value_ok operand_ok third_ok fields_ok apart outside reaches is_outside starts_section all_exits exit_list iffs value_known unlike distinct_iffs switch_list exit_number_ok fault_at rules_hold sections_ok fresh_ok counts_ok limits_ok layout_ok table_ok between parts lines label_end operation_start operation_end operand_start tail_of field_of is_empty symbol_of number_of register_of label_of label_formed is_skipped is_divider wants_label is_labelless bars_label formats_of has_text single_form indexed_form combined_form signed_form marked_form form_of texts_in written_forms has_comma has_remark delimited_by quoted holds_place of_words is_one_word word_count is_external opened_past past declared_sort placed_sort sort_at fields_named first_place global_meaning meaning all_placed above pairs register_kind takes value_within displaced symbol_by summed subtracted signed_within operand_of operands_of outcomes symbol_at symbols_from symbols_of first_operand row_entry entry_in is_fresh words_in starts_in fresh_in counts_in header image deck_with deck_in bytes_printed line_short label_readable forms_of operands_formed remark_there text_delimited in_its_section is_labelled label_there label_wanted label_once no_surplus operands_fit comma_there text_there symbols_defined procedure_declared routine_declared count_known is_judged loose_fault place_fault shape_fault conditions fault_of first_fault is_closed is_complete is_within limits_kept finished judged left_of
order-of-faults = quick-failing 0 orders

-- Limits.

-- the lines of the n labels below a label's number, four digits each
abbrev digit : ℕ → ℕ
digit n = 48 + n % 10

abbrev numbered : List ℕ → ℕ → List ℕ → List ℕ
numbered front zero back = []
numbered front (suc n) back = front ++ digit (n / 100) ∷ digit (n / 10) ∷ digit n ∷ back ++ numbered front n back

-- a deck with n fresh words and as many labels again as EQU symbols, and its last lines
abbrev sized : ℕ → ℕ → List String → List ℕ
sized n k ss =
    typed_lines (" SEC" ∷ " SEC" ∷ []) ++ numbered (bytes "EQ") k (bytes " EQU 0\n") ++ typed_lines (" SEC" ∷ " SEC" ∷ [])
    ++ numbered (bytes "F$") n (bytes " DAC 0\n") ++ typed_lines ss

abbrev ending : List String
ending = " SEC" ∷ "START BRN START" ∷ " SEC" ∷ " ERB 1,A" ∷ " SEC" ∷ " ERB 1,A" ∷ " END" ∷ []

-- 32 and 33 fresh words; 9 before 10; 8 before 9 and 10; a fault before all three; room for one word less, and no room
pub limits-in-order :
    told (answer_of (sized 32 0 ending) 96) ∷ told (answer_of (sized 33 0 ending) 98) ∷ told (answer_of (sized 33 0 ending) 0)
    ∷ told (answer_of (sized 33 0 (" SEC" ∷ "START BRN START" ∷ [])) 0)
    ∷ told (answer_of (sized 33 0 (" SEC" ∷ "START BRN NONE$" ∷ [])) 0)
    ∷ told (answer_of (sized 32 0 ending) 95) ∷ told (answer_of (sized 0 0 ending) 0) ∷ []
    ≡ (0 ∷ 96 ∷ []) ∷ (9 ∷ 0 ∷ []) ∷ (9 ∷ 0 ∷ []) ∷ (8 ∷ 0 ∷ []) ∷ (5 ∷ 39 ∷ []) ∷ (10 ∷ 0 ∷ []) ∷ (10 ∷ 0 ∷ []) ∷ []
unfolding answer_by named_in with_remainder look_up operation_by walk_by ◌and◌ ◌or◌ if member same rows supplies supplied_of text_words size constants workings fresh_count externals section4 section5 section6 fresh_at exit_count start_word table_length field class_at value target1 target2 target3 executable body_at names_procedure names_external callee declared smaller among register_ok value_ok operand_ok third_ok fields_ok apart outside reaches is_outside starts_section all_exits exit_list iffs value_known unlike distinct_iffs switch_list exit_number_ok fault_at rules_hold sections_ok fresh_ok counts_ok limits_ok layout_ok table_ok between parts lines label_end operation_start operation_end operand_start tail_of field_of is_empty symbol_of number_of register_of label_of label_formed is_skipped is_divider wants_label is_labelless bars_label formats_of has_text single_form indexed_form combined_form signed_form marked_form form_of texts_in written_forms has_comma has_remark delimited_by quoted holds_place of_words is_one_word word_count is_external opened_past past declared_sort placed_sort sort_at fields_named first_place global_meaning meaning all_placed above pairs register_kind takes value_within displaced symbol_by summed subtracted signed_within operand_of operands_of outcomes symbol_at symbols_from symbols_of first_operand row_entry entry_in is_fresh words_in starts_in fresh_in counts_in header image deck_with deck_in bytes_printed line_short label_readable forms_of operands_formed remark_there text_delimited in_its_section is_labelled label_there label_wanted label_once no_surplus operands_fit comma_there text_there symbols_defined procedure_declared routine_declared count_known is_judged loose_fault place_fault shape_fault conditions fault_of first_fault is_closed is_complete is_within limits_kept finished judged left_of
limits-in-order =
    ap
    (λ (f : List ℕ → ℕ → Answer).
    told (f (sized 32 0 ending) 96) ∷ told (f (sized 33 0 ending) 98) ∷ told (f (sized 33 0 ending) 0)
    ∷ told (f (sized 33 0 (" SEC" ∷ "START BRN START" ∷ [])) 0)
    ∷ told (f (sized 33 0 (" SEC" ∷ "START BRN NONE$" ∷ [])) 0)
    ∷ told (f (sized 32 0 ending) 95) ∷ told (f (sized 0 0 ending) 0) ∷ [])
    (fun_ext (λ text. fun_ext (answer-by text)))

-- 512 labels and 513
pub label-limit : limits_kept (deck_of (sized 0 511 ending)) ∷ limits_kept (deck_of (sized 0 512 ending)) ∷ [] ≡ true ∷ false ∷ []
unfolding kept_by named_in with_remainder look_up operation_by walk_by ◌and◌ ◌or◌ if member same rows supplies supplied_of text_words size constants workings fresh_count externals section4 section5 section6 fresh_at exit_count start_word table_length field class_at value target1 target2 target3 executable body_at names_procedure names_external callee declared smaller among register_ok value_ok operand_ok third_ok fields_ok apart outside reaches is_outside starts_section all_exits exit_list iffs value_known unlike distinct_iffs switch_list exit_number_ok fault_at rules_hold sections_ok fresh_ok counts_ok limits_ok layout_ok table_ok between parts lines label_end operation_start operation_end operand_start tail_of field_of is_empty symbol_of number_of register_of label_of label_formed is_skipped is_divider wants_label is_labelless bars_label formats_of has_text single_form indexed_form combined_form signed_form marked_form form_of texts_in written_forms has_comma has_remark delimited_by quoted holds_place of_words is_one_word word_count is_external opened_past past declared_sort placed_sort sort_at fields_named first_place global_meaning meaning all_placed above pairs register_kind takes value_within displaced symbol_by summed subtracted signed_within operand_of operands_of outcomes symbol_at symbols_from symbols_of first_operand row_entry entry_in is_fresh words_in starts_in fresh_in counts_in header image deck_with deck_in bytes_printed line_short label_readable forms_of operands_formed remark_there text_delimited in_its_section is_labelled label_there label_wanted label_once no_surplus operands_fit comma_there text_there symbols_defined procedure_declared routine_declared count_known is_judged loose_fault place_fault shape_fault conditions fault_of first_fault is_closed is_complete is_within limits_kept finished judged left_of
label-limit = ap (λ (f : List ℕ → Bool). f (sized 0 511 ending) ∷ f (sized 0 512 ending) ∷ []) (fun_ext kept_by_lem)

-- 1,024 operations and 1,025
abbrev repeated : ℕ → List ℕ → List ℕ
repeated zero l = []
repeated (suc n) l = l ++ repeated n l

abbrev long : ℕ → List ℕ
long n =
    typed_lines (" SEC" ∷ " SEC" ∷ " SEC" ∷ " SEC" ∷ " SEC" ∷ []) ++ repeated n (bytes " NGI\n")
    ++ typed_lines ("START BRN START" ∷ " SEC" ∷ " ERB 1,A" ∷ " SEC" ∷ " ERB 1,A" ∷ " END" ∷ [])

pub operation-limit : limits_kept (deck_of (long 1021)) ∷ limits_kept (deck_of (long 1022)) ∷ [] ≡ true ∷ false ∷ []
unfolding kept_by named_in with_remainder look_up operation_by walk_by ◌and◌ ◌or◌ if member same rows supplies supplied_of text_words size constants workings fresh_count externals section4 section5 section6 fresh_at exit_count start_word table_length field class_at value target1 target2 target3 executable body_at names_procedure names_external callee declared smaller among register_ok value_ok operand_ok third_ok fields_ok apart outside reaches is_outside starts_section all_exits exit_list iffs value_known unlike distinct_iffs switch_list exit_number_ok fault_at rules_hold sections_ok fresh_ok counts_ok limits_ok layout_ok table_ok between parts lines label_end operation_start operation_end operand_start tail_of field_of is_empty symbol_of number_of register_of label_of label_formed is_skipped is_divider wants_label is_labelless bars_label formats_of has_text single_form indexed_form combined_form signed_form marked_form form_of texts_in written_forms has_comma has_remark delimited_by quoted holds_place of_words is_one_word word_count is_external opened_past past declared_sort placed_sort sort_at fields_named first_place global_meaning meaning all_placed above pairs register_kind takes value_within displaced symbol_by summed subtracted signed_within operand_of operands_of outcomes symbol_at symbols_from symbols_of first_operand row_entry entry_in is_fresh words_in starts_in fresh_in counts_in header image deck_with deck_in bytes_printed line_short label_readable forms_of operands_formed remark_there text_delimited in_its_section is_labelled label_there label_wanted label_once no_surplus operands_fit comma_there text_there symbols_defined procedure_declared routine_declared count_known is_judged loose_fault place_fault shape_fault conditions fault_of first_fault is_closed is_complete is_within limits_kept finished judged left_of
operation-limit = ap (λ (f : List ℕ → Bool). f (long 1021) ∷ f (long 1022) ∷ []) (fun_ext kept_by_lem)

-- 8,128 words and 8,130, within the bytes of a text
abbrev wordy : ℕ → List ℕ
wordy n =
    typed_lines (" SEC" ∷ " SEC" ∷ " SEC" ∷ []) ++ repeated n (bytes " DRC 0.\n")
    ++ typed_lines (" SEC" ∷ " SEC" ∷ "START BRN START" ∷ " SEC" ∷ " ERB 1,A" ∷ " SEC" ∷ " ERB 1,A" ∷ " END" ∷ [])

pub word-limit : limits_kept (deck_of (wordy 4064)) ∷ limits_kept (deck_of (wordy 4065)) ∷ [] ≡ true ∷ false ∷ []
unfolding kept_by named_in with_remainder look_up operation_by walk_by ◌and◌ ◌or◌ if member same rows supplies supplied_of text_words size constants workings fresh_count externals section4 section5 section6 fresh_at exit_count start_word table_length field class_at value target1 target2 target3 executable body_at names_procedure names_external callee declared smaller among register_ok value_ok operand_ok third_ok fields_ok apart outside reaches is_outside starts_section all_exits exit_list iffs value_known unlike distinct_iffs switch_list exit_number_ok fault_at rules_hold sections_ok fresh_ok counts_ok limits_ok layout_ok table_ok between parts lines label_end operation_start operation_end operand_start tail_of field_of is_empty symbol_of number_of register_of label_of label_formed is_skipped is_divider wants_label is_labelless bars_label formats_of has_text single_form indexed_form combined_form signed_form marked_form form_of texts_in written_forms has_comma has_remark delimited_by quoted holds_place of_words is_one_word word_count is_external opened_past past declared_sort placed_sort sort_at fields_named first_place global_meaning meaning all_placed above pairs register_kind takes value_within displaced symbol_by summed subtracted signed_within operand_of operands_of outcomes symbol_at symbols_from symbols_of first_operand row_entry entry_in is_fresh words_in starts_in fresh_in counts_in header image deck_with deck_in bytes_printed line_short label_readable forms_of operands_formed remark_there text_delimited in_its_section is_labelled label_there label_wanted label_once no_surplus operands_fit comma_there text_there symbols_defined procedure_declared routine_declared count_known is_judged loose_fault place_fault shape_fault conditions fault_of first_fault is_closed is_complete is_within limits_kept finished judged left_of
word-limit = ap (λ (f : List ℕ → Bool). f (wordy 4064) ∷ f (wordy 4065) ∷ []) (fun_ext kept_by_lem)

-- the answer to the longer one is 9, though there is no room either
pub words-refused : told (answer_of (wordy 4065) 0) ≡ 9 ∷ 0 ∷ []
unfolding answer_by named_in with_remainder look_up operation_by walk_by ◌and◌ ◌or◌ if member same rows supplies supplied_of text_words size constants workings fresh_count externals section4 section5 section6 fresh_at exit_count start_word table_length field class_at value target1 target2 target3 executable body_at names_procedure names_external callee declared smaller among register_ok value_ok operand_ok third_ok fields_ok apart outside reaches is_outside starts_section all_exits exit_list iffs value_known unlike distinct_iffs switch_list exit_number_ok fault_at rules_hold sections_ok fresh_ok counts_ok limits_ok layout_ok table_ok between parts lines label_end operation_start operation_end operand_start tail_of field_of is_empty symbol_of number_of register_of label_of label_formed is_skipped is_divider wants_label is_labelless bars_label formats_of has_text single_form indexed_form combined_form signed_form marked_form form_of texts_in written_forms has_comma has_remark delimited_by quoted holds_place of_words is_one_word word_count is_external opened_past past declared_sort placed_sort sort_at fields_named first_place global_meaning meaning all_placed above pairs register_kind takes value_within displaced symbol_by summed subtracted signed_within operand_of operands_of outcomes symbol_at symbols_from symbols_of first_operand row_entry entry_in is_fresh words_in starts_in fresh_in counts_in header image deck_with deck_in bytes_printed line_short label_readable forms_of operands_formed remark_there text_delimited in_its_section is_labelled label_there label_wanted label_once no_surplus operands_fit comma_there text_there symbols_defined procedure_declared routine_declared count_known is_judged loose_fault place_fault shape_fault conditions fault_of first_fault is_closed is_complete is_within limits_kept finished judged left_of decimal_of pointed
words-refused = ap told (answer-by (wordy 4065) 0)

-- 32,769 bytes come before a fault in the first line, and count what follows END
pub bytes-first :
    told (answer_of (replicate 32769 0) 0) ∷ told (answer_of (typed_lines (program ("START BRN START" ∷ [])) ++ replicate 32768 0) 100) ∷ []
    ≡ (9 ∷ 0 ∷ []) ∷ (9 ∷ 0 ∷ []) ∷ []
unfolding ◌and◌ ◌or◌ if member same rows row_of_letters supplies supplied_of text_words size constants workings fresh_count externals section4 section5 section6 fresh_at exit_count start_word table_length field class_at value target1 target2 target3 executable body_at names_procedure names_external callee declared smaller among register_ok value_ok operand_ok third_ok fields_ok apart outside reaches is_outside starts_section all_exits exit_list iffs value_known unlike distinct_iffs switch_list exit_number_ok fault_at rules_hold sections_ok fresh_ok counts_ok limits_ok layout_ok table_ok between parts lines label_end operation_start operation_end operand_start tail_of field_of is_empty symbol_of number_of register_of label_of label_formed operation_named operation_in operation_of is_skipped is_divider wants_label is_labelless bars_label formats_of has_text single_form indexed_form combined_form signed_form marked_form form_of texts_in written_forms has_comma has_remark delimited_by quoted card_of holds_place of_words is_one_word word_count is_external opened_past past walk cards_of declared_sort placed_sort sort_at fields_named first_place global_meaning meaning all_placed above pairs register_kind takes value_within displaced symbol_by summed subtracted signed_within operand_of operands_of outcomes symbol_at symbols_from symbols_of first_operand row_entry entry_in is_fresh words_in starts_in fresh_in counts_in header image deck_with deck_in deck_of bytes_printed line_short label_readable forms_of operands_formed remark_there text_delimited in_its_section is_labelled label_there label_wanted label_once no_surplus operands_fit comma_there text_there symbols_defined procedure_declared routine_declared count_known is_judged loose_fault place_fault shape_fault conditions fault_of first_fault is_closed is_complete is_within limits_kept finished judged answer_of left_of
bytes-first = refl

-- a refused text leaves the lent words as they were
pub left-as-lent : left_of (typed_lines (program [])) (replicate 40 7) ≡ replicate 40 7
unfolding ◌and◌ ◌or◌ if member same rows row_of_letters supplies supplied_of text_words size constants workings fresh_count externals section4 section5 section6 fresh_at exit_count start_word table_length field class_at value target1 target2 target3 executable body_at names_procedure names_external callee declared smaller among register_ok value_ok operand_ok third_ok fields_ok apart outside reaches is_outside starts_section all_exits exit_list iffs value_known unlike distinct_iffs switch_list exit_number_ok fault_at rules_hold sections_ok fresh_ok counts_ok limits_ok layout_ok table_ok between parts lines label_end operation_start operation_end operand_start tail_of field_of is_empty symbol_of number_of register_of label_of label_formed operation_named operation_in operation_of is_skipped is_divider wants_label is_labelless bars_label formats_of has_text single_form indexed_form combined_form signed_form marked_form form_of texts_in written_forms has_comma has_remark delimited_by quoted card_of holds_place of_words is_one_word word_count is_external opened_past past walk cards_of declared_sort placed_sort sort_at fields_named first_place global_meaning meaning all_placed above pairs register_kind takes value_within displaced symbol_by summed subtracted signed_within operand_of operands_of outcomes symbol_at symbols_from symbols_of first_operand row_entry entry_in is_fresh words_in starts_in fresh_in counts_in header image deck_with deck_in deck_of bytes_printed line_short label_readable forms_of operands_formed remark_there text_delimited in_its_section is_labelled label_there label_wanted label_once no_surplus operands_fit comma_there text_there symbols_defined procedure_declared routine_declared count_known is_judged loose_fault place_fault shape_fault conditions fault_of first_fault is_closed is_complete is_within limits_kept finished judged answer_of left_of
left-as-lent = refl
