-- Decks with one fault of 6 or 7, and lawful neighbours: exit and switch lists, declarations; bodies, branches, sections, index registers.
-- Assumes nothing.
use Prim.Native.String.{String}
use mathlib.Core.Path.{◌≡◌}
use mathlib.Core.List.{List, [], ◌∷◌, ◌++◌}
use Rattle.language.proofs.Deck.{failing_by, quick-failing, Case, around, card, case, deck, failing, lawful, program}
use Rattle.language.proofs.Quick.{answer_by, look_up, named_in, operation_by, walk_by, with_remainder}
use Rattle.base.specs.Test.{◌and◌, ◌or◌, if}
use Rattle.base.specs.Lists.{member, same}
use Rattle.ops.specs.Ops.{rows}
use Rattle.supplied.specs.Supplied.{supplies, supplied_of}
use Rattle.words.specs.Words.{text_words}
use Rattle.rules.specs.Table.{size, constants, workings, fresh_count, externals, section4, section5, section6, fresh_at, exit_count, start_word, table_length, field, class_at, value, target1, target2, target3, executable, body_at, names_procedure, names_external, callee, declared}
use Rattle.rules.specs.Check.{smaller, among, register_ok, value_ok, operand_ok, third_ok, fields_ok, apart, outside, reaches, is_outside, starts_section, all_exits, exit_list, iffs, value_known, unlike, distinct_iffs, switch_list, exit_number_ok, fault_at, rules_hold, sections_ok, fresh_ok, counts_ok, limits_ok, layout_ok, table_ok}
use Rattle.language.specs.Text.{between, parts, lines, label_end, operation_start, operation_end, operand_start, tail_of, field_of, is_empty, symbol_of, number_of, register_of, label_of, label_formed}
use Rattle.language.specs.Operation.{is_skipped, is_divider, wants_label, is_labelless, bars_label, formats_of, has_text}
use Rattle.language.specs.Form.{single_form, indexed_form, combined_form, signed_form, marked_form, form_of, texts_in, written_forms, has_comma, has_remark, delimited_by, quoted}
use Rattle.language.specs.Card.{holds_place, of_words, is_one_word, word_count, is_external, opened_past, past}
use Rattle.language.specs.Symbol.{declared_sort, placed_sort, sort_at, fields_named, first_place, global_meaning, meaning, all_placed, above, pairs}
use Rattle.language.specs.Operand.{register_kind, takes, value_within, displaced, symbol_by, summed, subtracted, signed_within, operand_of, operands_of, outcomes}
use Rattle.language.specs.Image.{symbol_at, symbols_from, symbols_of, first_operand, row_entry, entry_in, is_fresh, words_in, starts_in, fresh_in, counts_in, header, image}
use Rattle.language.specs.Fault.{deck_with, deck_in, bytes_printed, line_short, label_readable, forms_of, operands_formed, remark_there, text_delimited, in_its_section, is_labelled, label_there, label_wanted, label_once, no_surplus, operands_fit, comma_there, text_there, symbols_defined, procedure_declared, routine_declared, count_known, is_judged, loose_fault, place_fault, shape_fault, conditions, fault_of}
use Rattle.language.specs.Answer.{first_fault, is_closed, is_complete, is_within, limits_kept, finished, judged, left_of}

-- a deck whose procedure ADDUP, declared R,0, has these cards; the first of section 4 is line 7
abbrev calling : List String → List String → List String
calling ss is = deck ("ADDUP INP R,0" ∷ []) [] [] [] (ss ++ ("ADDUP PRC R,0" ∷ is) ++ " ENP" ∷ [])

-- 6: exit or switch list, PRC unlike or without its INP, RTN without INR
abbrev lists : List Case
lists =
    card 6 " JSR SYSXX"
    ∷ card 6 " JSR ADDUP"
    ∷ case 6 15 (around (" JSR SYSXX" ∷ " PPM" ∷ " ERR 5,TEXT" ∷ []))
    ∷ case 6 15 (around (" JSR ADDUP" ∷ " PPX" ∷ []))
    ∷ case 0 110 (around (" JSR ADDUP" ∷ " ERR 5,TEXT" ∷ []))
    ∷ case 0 110 (around (" JSR SYSXX" ∷ " PPM ." ∷ []))
    ∷ case 6 15 (around (" BSW XL,2" ∷ " IFF 0,START" ∷ " IFF 0,START" ∷ " ESW" ∷ []))
    ∷ case 6 15 (around (" BSW XL,2" ∷ " IFF 2,START" ∷ " ESW" ∷ []))
    ∷ case 6 15 (around (" BSW XL,2" ∷ " IFF 0,START" ∷ []))
    ∷ card 6 " BSW XL,2,START"
    ∷ case 0 110 (around (" BSW XL,0" ∷ " ESW" ∷ []))
    ∷ case 0 126 (around (" BSW XL,3,START" ∷ " IFF 2,START" ∷ " IFF 0,ENTRY" ∷ " ESW" ∷ []))
    -- an IFF's value counts if it is good, whatever its other operand
    ∷ case 6 15 (around (" BSW XL,2" ∷ " IFF 3,NONE$" ∷ " ESW" ∷ []))
    ∷ case 5 16 (around (" BSW XL,2" ∷ " IFF NONE$,START" ∷ " IFF NONE$,START" ∷ " ESW" ∷ []))
    -- a callee without its place has the count of its INP
    ∷ case 6 7 (deck ("ADDUP INP R,1" ∷ []) [] [] [] (" JSR ADDUP" ∷ "START BRN START" ∷ []))
    -- a PRC without its INP has its own count, if it is known
    ∷ case 6 6 (program (" JSR ADDUP" ∷ "START BRN START" ∷ "ADDUP PRC R,1" ∷ " EXI" ∷ " ENP" ∷ []))
    ∷ case 5 8 (program (" JSR ADDUP" ∷ "START BRN START" ∷ "ADDUP PRC R,NONE$" ∷ " EXI" ∷ " ENP" ∷ []))
    ∷ case 6 8 (program (" JSR ADDUP" ∷ "START BRN START" ∷ "ADDUP PRC R,0" ∷ " EXI" ∷ " ENP" ∷ []))
    -- PRC and RTN
    ∷ case 6 8 (deck ("ADDUP INP R,0" ∷ []) [] [] [] ("START BRN START" ∷ "ADDUP PRC E,0" ∷ " EXI" ∷ " ENP" ∷ []))
    ∷ case 6 8 (deck ("ADDUP INP R,0" ∷ []) [] [] [] ("START BRN START" ∷ "ADDUP PRC R,1" ∷ " EXI" ∷ " ENP" ∷ []))
    ∷ case 6 8 (deck ("ADDUP GLB" ∷ []) [] [] [] ("START BRN START" ∷ "ADDUP PRC R,1" ∷ " EXI" ∷ " ENP" ∷ []))
    ∷ case 6 9 (deck ("ADDUP GLB" ∷ []) [] [] [] (" JSR ADDUP" ∷ "START BRN START" ∷ "ADDUP PRC R,0" ∷ " EXI" ∷ " ENP" ∷ []))
    ∷ case 6 6 (program ("ROUTE RTN" ∷ " BRN ROUTE" ∷ []))
    ∷ case 6 7 (deck ("ROUTE GLB" ∷ []) [] [] [] ("ROUTE RTN" ∷ " BRN ROUTE" ∷ []))
    ∷ case 0 56 (deck ("ADDUP INP N,0" ∷ []) ("ZEROE EQU 0" ∷ []) [] [] ("START BRN START" ∷ "ADDUP PRC N,ZEROE" ∷ " EXI ." ∷ " ENP" ∷ []))
    ∷ []

list-faults : failing 0 lists ≡ []
unfolding failing_by answer_by named_in with_remainder look_up operation_by walk_by ◌and◌ ◌or◌ if member same rows supplies supplied_of text_words size constants workings fresh_count externals section4 section5 section6 fresh_at exit_count start_word table_length field class_at value target1 target2 target3 executable body_at names_procedure names_external callee declared smaller among register_ok value_ok operand_ok third_ok fields_ok apart outside reaches is_outside starts_section all_exits exit_list iffs value_known unlike distinct_iffs switch_list exit_number_ok fault_at rules_hold sections_ok fresh_ok counts_ok limits_ok layout_ok table_ok between parts lines label_end operation_start operation_end operand_start tail_of field_of is_empty symbol_of number_of register_of label_of label_formed is_skipped is_divider wants_label is_labelless bars_label formats_of has_text single_form indexed_form combined_form signed_form marked_form form_of texts_in written_forms has_comma has_remark delimited_by quoted holds_place of_words is_one_word word_count is_external opened_past past declared_sort placed_sort sort_at fields_named first_place global_meaning meaning all_placed above pairs register_kind takes value_within displaced symbol_by summed subtracted signed_within operand_of operands_of outcomes symbol_at symbols_from symbols_of first_operand row_entry entry_in is_fresh words_in starts_in fresh_in counts_in header image deck_with deck_in bytes_printed line_short label_readable forms_of operands_formed remark_there text_delimited in_its_section is_labelled label_there label_wanted label_once no_surplus operands_fit comma_there text_there symbols_defined procedure_declared routine_declared count_known is_judged loose_fault place_fault shape_fault conditions fault_of first_fault is_closed is_complete is_within limits_kept finished judged left_of
list-faults = quick-failing 0 lists

-- 7: branches and bodies
abbrev bodies : List Case
bodies =
    case 0 72 (calling ("START JSR ADDUP" ∷ " BRN START" ∷ []) ("INNER BCT WA,INNER" ∷ " EXI" ∷ []))
    ∷ case 7 7 (calling ("START BRN INNER" ∷ []) ("INNER BCT WA,INNER" ∷ " EXI" ∷ []))
    ∷ case 7 9 (calling ("START BRN START" ∷ []) (" BCT WA,START" ∷ " EXI" ∷ []))
    ∷ case 7 7 (calling ("START BRN ADDUP" ∷ []) (" EXI" ∷ []))
    ∷ case 7 6 (program ("START BRN NOTED" ∷ "NOTED ENP" ∷ []))
    ∷ case 7 16 (around (" JSR SYSXX" ∷ " PPM ADDUP" ∷ []))
    ∷ case 7 16 (around (" BSW XL,2" ∷ " IFF 0,ADDUP" ∷ " ESW" ∷ []))
    ∷ case 7 15 (around (" BSW XL,2,ADDUP" ∷ " ESW" ∷ []))
    ∷ case 7 8 (deck ("GLOBE GLB" ∷ "ADDUP INP R,0" ∷ []) [] [] [] ("START JMG GLOBE" ∷ "ADDUP PRC R,0" ∷ "GLOBE EXI" ∷ " ENP" ∷ []))
    ∷ case 7 9 (calling ("START BRN START" ∷ []) ("ENTRY ENT" ∷ " EXI" ∷ []))
    ∷ case 7 10 (deck ("ADDUP INP R,0" ∷ "ROUTE INR" ∷ []) [] [] [] ("START BRN START" ∷ "ADDUP PRC R,0" ∷ "ROUTE RTN" ∷ " EXI" ∷ " ENP" ∷ []))
    ∷ case 7 9 (calling ("START BRN START" ∷ []) (" SSS WA" ∷ " EXI" ∷ []))
    ∷ card 7 " EXI"
    ∷ card 7 " EXI 1"
    ∷ case 4 9 (calling ("START BRN START" ∷ []) (" EXI 1" ∷ []))
    -- PRC and ENP
    ∷ card 7 " ENP"
    ∷ case 7 11 (deck ("ADDUP INP R,0" ∷ []) [] [] [] ("START BRN START" ∷ "ADDUP PRC R,0" ∷ " EXI" ∷ " ENP" ∷ " ENP" ∷ []))
    ∷ case 7 8 (deck ("ADDUP INP R,0" ∷ []) [] [] [] ("START BRN START" ∷ "ADDUP PRC R,0" ∷ " EXI" ∷ []))
    ∷ case 7 11
    (deck ("ADDUP INP R,0" ∷ "ADDED INP R,0" ∷ []) [] [] []
    ("START BRN START" ∷ "ADDUP PRC R,0" ∷ " EXI" ∷ "ADDED PRC R,0" ∷ " EXI" ∷ " ENP" ∷ []))
    ∷ case 7 8 (calling ("START BRN START" ∷ []) [])
    -- going on
    ∷ case 7 7 (calling (" MOV WA,WB" ∷ []) (" EXI" ∷ []))
    ∷ case 7 9 (calling ("START BRN START" ∷ []) (" MOV WA,WB" ∷ []))
    ∷ case 7 15 (around (" MOV WA,WB" ∷ " PPM" ∷ []))
    ∷ case 7 16 (around (" BRN START" ∷ " PPM" ∷ []))
    ∷ case 7 16 (around (" BRN START" ∷ " ERR 1,A" ∷ []))
    ∷ case 7 16 (around (" BRN START" ∷ " IFF 1,START" ∷ []))
    ∷ case 7 16 (around (" BRN START" ∷ " ESW" ∷ []))
    ∷ case 7 7 (deck ("SYSXX EXP R,1" ∷ []) [] [] [] (" JSR SYSXX" ∷ " PPM" ∷ " ESW" ∷ []))
    ∷ []

body-faults : failing 0 bodies ≡ []
unfolding failing_by answer_by named_in with_remainder look_up operation_by walk_by ◌and◌ ◌or◌ if member same rows supplies supplied_of text_words size constants workings fresh_count externals section4 section5 section6 fresh_at exit_count start_word table_length field class_at value target1 target2 target3 executable body_at names_procedure names_external callee declared smaller among register_ok value_ok operand_ok third_ok fields_ok apart outside reaches is_outside starts_section all_exits exit_list iffs value_known unlike distinct_iffs switch_list exit_number_ok fault_at rules_hold sections_ok fresh_ok counts_ok limits_ok layout_ok table_ok between parts lines label_end operation_start operation_end operand_start tail_of field_of is_empty symbol_of number_of register_of label_of label_formed is_skipped is_divider wants_label is_labelless bars_label formats_of has_text single_form indexed_form combined_form signed_form marked_form form_of texts_in written_forms has_comma has_remark delimited_by quoted holds_place of_words is_one_word word_count is_external opened_past past declared_sort placed_sort sort_at fields_named first_place global_meaning meaning all_placed above pairs register_kind takes value_within displaced symbol_by summed subtracted signed_within operand_of operands_of outcomes symbol_at symbols_from symbols_of first_operand row_entry entry_in is_fresh words_in starts_in fresh_in counts_in header image deck_with deck_in bytes_printed line_short label_readable forms_of operands_formed remark_there text_delimited in_its_section is_labelled label_there label_wanted label_once no_surplus operands_fit comma_there text_there symbols_defined procedure_declared routine_declared count_known is_judged loose_fault place_fault shape_fault conditions fault_of first_fault is_closed is_complete is_within limits_kept finished judged left_of
body-faults = quick-failing 0 bodies

-- 7: sections and index registers; the answer 8 leaves out what a missing place would decide
abbrev others : List Case
others =
    -- a section starts in a procedure, at a card never arrived at; the last card of section 6 goes on
    case 7 10
    (" SEC" ∷ "ADDUP INP R,0" ∷ " SEC" ∷ " SEC" ∷ " SEC" ∷ " SEC" ∷ "START BRN START" ∷ "ADDUP PRC R,0" ∷ " SEC" ∷ " EXI" ∷ " ENP" ∷ " SEC"
    ∷ " ERB 1,A" ∷ " END" ∷ [])
    ∷ case 7 9
    (" SEC" ∷ "SYSXX EXP R,1" ∷ " SEC" ∷ " SEC" ∷ " SEC" ∷ " SEC" ∷ " JSR SYSXX" ∷ " SEC" ∷ " PPM" ∷ " ERB 1,A" ∷ " SEC" ∷ " ERB 1,A"
    ∷ " END" ∷ [])
    ∷ case 7 10
    (" SEC" ∷ " SEC" ∷ " SEC" ∷ " SEC" ∷ " SEC" ∷ "START BRN START" ∷ " SEC" ∷ " ERB 1,A" ∷ " SEC" ∷ " MOV WA,WB" ∷ " END" ∷ [])
    -- (X)+ and -(X)
    ∷ card 7 " MOV XL,(XL)+"
    ∷ card 7 " MOV (XL)+,(XL)"
    ∷ card 7 " MOV (XL)+,-(XL)"
    ∷ card 7 " MOV (XT)+,3(XL)"
    ∷ card 7 " BEQ -(XS),XS,START"
    ∷ card 7 " LCH XR,(XR)+"
    ∷ lawful " MOV (XL)+,(XR)+"
    ∷ lawful " MOV XL,(XL)"
    ∷ []

other-faults : failing 0 others ≡ []
unfolding failing_by answer_by named_in with_remainder look_up operation_by walk_by ◌and◌ ◌or◌ if member same rows supplies supplied_of text_words size constants workings fresh_count externals section4 section5 section6 fresh_at exit_count start_word table_length field class_at value target1 target2 target3 executable body_at names_procedure names_external callee declared smaller among register_ok value_ok operand_ok third_ok fields_ok apart outside reaches is_outside starts_section all_exits exit_list iffs value_known unlike distinct_iffs switch_list exit_number_ok fault_at rules_hold sections_ok fresh_ok counts_ok limits_ok layout_ok table_ok between parts lines label_end operation_start operation_end operand_start tail_of field_of is_empty symbol_of number_of register_of label_of label_formed is_skipped is_divider wants_label is_labelless bars_label formats_of has_text single_form indexed_form combined_form signed_form marked_form form_of texts_in written_forms has_comma has_remark delimited_by quoted holds_place of_words is_one_word word_count is_external opened_past past declared_sort placed_sort sort_at fields_named first_place global_meaning meaning all_placed above pairs register_kind takes value_within displaced symbol_by summed subtracted signed_within operand_of operands_of outcomes symbol_at symbols_from symbols_of first_operand row_entry entry_in is_fresh words_in starts_in fresh_in counts_in header image deck_with deck_in bytes_printed line_short label_readable forms_of operands_formed remark_there text_delimited in_its_section is_labelled label_there label_wanted label_once no_surplus operands_fit comma_there text_there symbols_defined procedure_declared routine_declared count_known is_judged loose_fault place_fault shape_fault conditions fault_of first_fault is_closed is_complete is_within limits_kept finished judged left_of
other-faults = quick-failing 0 others
