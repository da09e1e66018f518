-- Decks with one fault of 4 or 5 in operands, and lawful neighbours: counts, the forms that each format takes, sorts of symbols, ranges.
-- Assumes nothing.
use mathlib.Core.Path.{◌≡◌}
use mathlib.Core.List.{List, [], ◌∷◌, ◌++◌}
use Rattle.language.proofs.Deck.{failing_by, quick-failing, Case, card, case, deck, failing, lawful, program}
use Rattle.language.proofs.Quick.{answer_by, look_up, named_in, operation_by, walk_by, with_remainder}
use Rattle.base.specs.Test.{◌and◌, ◌or◌, if}
use Rattle.base.specs.Lists.{member, same}
use Rattle.ops.specs.Ops.{rows}
use Rattle.supplied.specs.Supplied.{supplies, supplied_of}
use Rattle.words.specs.Words.{text_words}
use Rattle.rules.specs.Table.{size, constants, workings, fresh_count, externals, section4, section5, section6, fresh_at, exit_count, start_word, table_length, field, class_at, value, target1, target2, target3, executable, body_at, names_procedure, names_external, callee, declared}
use Rattle.rules.specs.Check.{smaller, among, register_ok, value_ok, operand_ok, third_ok, fields_ok, apart, outside, reaches, is_outside, starts_section, all_exits, exit_list, iffs, value_known, unlike, distinct_iffs, switch_list, exit_number_ok, fault_at, rules_hold, sections_ok, fresh_ok, counts_ok, limits_ok, layout_ok, table_ok}
use Rattle.language.specs.Text.{between, parts, lines, label_end, operation_start, operation_end, operand_start, tail_of, field_of, is_empty, symbol_of, number_of, register_of, label_of, label_formed}
use Rattle.language.specs.Operation.{is_skipped, is_divider, wants_label, is_labelless, bars_label, formats_of, has_text}
use Rattle.language.specs.Form.{single_form, indexed_form, combined_form, signed_form, marked_form, form_of, texts_in, written_forms, has_comma, has_remark, delimited_by, quoted}
use Rattle.language.specs.Card.{holds_place, of_words, is_one_word, word_count, is_external, opened_past, past}
use Rattle.language.specs.Symbol.{declared_sort, placed_sort, sort_at, fields_named, first_place, global_meaning, meaning, all_placed, above, pairs}
use Rattle.language.specs.Operand.{register_kind, takes, value_within, displaced, symbol_by, summed, subtracted, signed_within, operand_of, operands_of, outcomes}
use Rattle.language.specs.Image.{symbol_at, symbols_from, symbols_of, first_operand, row_entry, entry_in, is_fresh, words_in, starts_in, fresh_in, counts_in, header, image}
use Rattle.language.specs.Fault.{deck_with, deck_in, bytes_printed, line_short, label_readable, forms_of, operands_formed, remark_there, text_delimited, in_its_section, is_labelled, label_there, label_wanted, label_once, no_surplus, operands_fit, comma_there, text_there, symbols_defined, procedure_declared, routine_declared, count_known, is_judged, loose_fault, place_fault, shape_fault, conditions, fault_of}
use Rattle.language.specs.Answer.{first_fault, is_closed, is_complete, is_within, limits_kept, finished, judged, left_of}

-- 4: operand count and kind
abbrev unfit_forms : List Case
unfit_forms =
    -- too many, `.` for one that is not optional
    card 4 " MOV WA,WB,WC"
    ∷ card 4 " MOV"
    ∷ card 4 " ICV ."
    ∷ card 4 " ICV WA,."
    ∷ card 4 " BSW XL"
    ∷ card 4 " ERB 5"
    ∷ card 4 " ERB"
    ∷ card 4 " ERB 5 ,TEXT"
    -- forms that a format does not take, whatever their symbol means
    ∷ card 4 " MOV 5,WA"
    ∷ card 4 " MOV WA,5"
    ∷ card 4 " MOV WA,=THREE"
    ∷ card 4 " MOV WA,=NONE$"
    ∷ card 4 " MOV R,WA"
    ∷ card 4 " MOV *,WA"
    ∷ card 4 " MOV +5,WA"
    ∷ card 4 " MOV THREE+1,WA"
    ∷ card 4 " SSS XL"
    ∷ card 4 " LDI WA"
    ∷ card 4 " LDI (XL)+"
    ∷ card 4 " LCH WA,WORKA"
    ∷ card 4 " LCH WA,(XS)"
    ∷ card 4 " LCH =THREE,(XL)"
    ∷ card 4 " LEI WA"
    ∷ card 4 " CMB XL"
    ∷ card 4 " BRN WA"
    ∷ card 4 " BRN 5"
    ∷ card 4 " BEQ WA,WB,WC"
    ∷ card 4 " BEQ (XL)+,WA,START"
    ∷ card 4 " BNZ (XL)+,START"
    ∷ card 4 " CEQ WA,(XL)+,START"
    ∷ card 4 " EXI THREE"
    ∷ card 4 " ERB THREE,TEXT"
    ∷ card 4 " JSR 5"
    ∷ card 4 "ADDUP PRC 5,1"
    ∷ card 4 "ADDUP PRC R"
    ∷ []

unfit-forms : failing 0 unfit_forms ≡ []
unfolding failing_by answer_by named_in with_remainder look_up operation_by walk_by ◌and◌ ◌or◌ if member same rows supplies supplied_of text_words size constants workings fresh_count externals section4 section5 section6 fresh_at exit_count start_word table_length field class_at value target1 target2 target3 executable body_at names_procedure names_external callee declared smaller among register_ok value_ok operand_ok third_ok fields_ok apart outside reaches is_outside starts_section all_exits exit_list iffs value_known unlike distinct_iffs switch_list exit_number_ok fault_at rules_hold sections_ok fresh_ok counts_ok limits_ok layout_ok table_ok between parts lines label_end operation_start operation_end operand_start tail_of field_of is_empty symbol_of number_of register_of label_of label_formed is_skipped is_divider wants_label is_labelless bars_label formats_of has_text single_form indexed_form combined_form signed_form marked_form form_of texts_in written_forms has_comma has_remark delimited_by quoted holds_place of_words is_one_word word_count is_external opened_past past declared_sort placed_sort sort_at fields_named first_place global_meaning meaning all_placed above pairs register_kind takes value_within displaced symbol_by summed subtracted signed_within operand_of operands_of outcomes symbol_at symbols_from symbols_of first_operand row_entry entry_in is_fresh words_in starts_in fresh_in counts_in header image deck_with deck_in bytes_printed line_short label_readable forms_of operands_formed remark_there text_delimited in_its_section is_labelled label_there label_wanted label_once no_surplus operands_fit comma_there text_there symbols_defined procedure_declared routine_declared count_known is_judged loose_fault place_fault shape_fault conditions fault_of first_fault is_closed is_complete is_within limits_kept finished judged left_of
unfit-forms = quick-failing 0 unfit_forms

-- 4: sorts and ranges
abbrev unfit_values : List Case
unfit_values =
    card 4 " MOV THREE,WA"
    ∷ card 4 " MOV START,WA"
    ∷ card 4 " MOV =START,WA"
    ∷ card 4 " MOV =ADDUP,WA"
    ∷ card 4 " MOV =ROUTE,WA"
    ∷ card 4 " MOV =SYSXX,WA"
    ∷ card 4 " MOV *CONST,WA"
    ∷ card 4 " MOV *LARGE,WA"
    ∷ card 4 " MOV START(XL),WA"
    ∷ card 4 " MOV LARGE(XL),WA"
    ∷ card 4 " MOV 536870912(XL),WA"
    ∷ card 4 " BRN THREE"
    ∷ card 4 " BRN WORKA"
    ∷ card 4 " BRN SYSXX"
    ∷ card 4 " JSR START"
    ∷ card 4 " JSR GLOBE"
    ∷ card 4 " JSR ROUTE"
    ∷ card 4 " JSR THREE"
    ∷ card 4 " JMG START"
    ∷ card 4 " JMG ROUTE"
    ∷ card 4 " CTW WA,CONST"
    ∷ card 4 " CTW WA,2147483648"
    ∷ card 4 " RSH WA,33"
    ∷ card 4 " LSH WA,LARGE"
    ∷ card 4 " ERB 2147483648,TEXT"
    ∷ card 4 " EXI 0"
    -- sections 0 to 3
    ∷ case 4 2 (deck ("SYSXX EXP E" ∷ []) [] [] [] ("START BRN START" ∷ []))
    ∷ case 4 2 (deck ("SYSXX EXP 1,E" ∷ []) [] [] [] ("START BRN START" ∷ []))
    ∷ case 4 2 (deck ("SYSXX EXP E,2147483648" ∷ []) [] [] [] ("START BRN START" ∷ []))
    ∷ case 4 3 (deck [] ("THREE EQU" ∷ []) [] [] ("START BRN START" ∷ []))
    ∷ case 4 3 (deck [] ("THREE EQU WA" ∷ []) [] [] ("START BRN START" ∷ []))
    ∷ case 4 3 (deck [] ("THREE EQU 2147483648" ∷ []) [] [] ("START BRN START" ∷ []))
    ∷ case 4 3 (deck [] ("THREE EQU 2147483647+1" ∷ []) [] [] ("START BRN START" ∷ []))
    ∷ case 4 3 (deck [] ("THREE EQU 3-4" ∷ []) [] [] ("START BRN START" ∷ []))
    ∷ case 4 3 (deck [] ("THREE EQU START" ∷ []) [] [] ("START BRN START" ∷ []))
    ∷ case 4 3 (deck [] ("THREE EQU NONE$+START" ∷ []) [] [] ("START BRN START" ∷ []))
    ∷ case 4 4 (deck [] [] ("CONST DAC START" ∷ []) [] ("START BRN START" ∷ []))
    ∷ case 4 4 (deck [] [] ("CONST DIC 5" ∷ []) [] ("START BRN START" ∷ []))
    ∷ case 4 4 (deck [] [] ("CONST DIC +2147483648" ∷ []) [] ("START BRN START" ∷ []))
    ∷ case 4 4 (deck [] [] ("CONST DIC -2147483649" ∷ []) [] ("START BRN START" ∷ []))
    ∷ []

unfit-values : failing 0 unfit_values ≡ []
unfolding failing_by answer_by named_in with_remainder look_up operation_by walk_by ◌and◌ ◌or◌ if member same rows supplies supplied_of text_words size constants workings fresh_count externals section4 section5 section6 fresh_at exit_count start_word table_length field class_at value target1 target2 target3 executable body_at names_procedure names_external callee declared smaller among register_ok value_ok operand_ok third_ok fields_ok apart outside reaches is_outside starts_section all_exits exit_list iffs value_known unlike distinct_iffs switch_list exit_number_ok fault_at rules_hold sections_ok fresh_ok counts_ok limits_ok layout_ok table_ok between parts lines label_end operation_start operation_end operand_start tail_of field_of is_empty symbol_of number_of register_of label_of label_formed is_skipped is_divider wants_label is_labelless bars_label formats_of has_text single_form indexed_form combined_form signed_form marked_form form_of texts_in written_forms has_comma has_remark delimited_by quoted holds_place of_words is_one_word word_count is_external opened_past past declared_sort placed_sort sort_at fields_named first_place global_meaning meaning all_placed above pairs register_kind takes value_within displaced symbol_by summed subtracted signed_within operand_of operands_of outcomes symbol_at symbols_from symbols_of first_operand row_entry entry_in is_fresh words_in starts_in fresh_in counts_in header image deck_with deck_in bytes_printed line_short label_readable forms_of operands_formed remark_there text_delimited in_its_section is_labelled label_there label_wanted label_once no_surplus operands_fit comma_there text_there symbols_defined procedure_declared routine_declared count_known is_judged loose_fault place_fault shape_fault conditions fault_of first_fault is_closed is_complete is_within limits_kept finished judged left_of
unfit-values = quick-failing 0 unfit_values

abbrev unfit_words : List Case
unfit_words =
    case 4 4 (deck [] [] ("CONST DBC +5" ∷ []) [] ("START BRN START" ∷ []))
    ∷ case 4 5 (deck [] [] ("CONST DAC 5" ∷ "OTHER DBC CONST" ∷ []) [] ("START BRN START" ∷ []))
    ∷ case 4 4 (deck [] [] ("CONST DTC" ∷ []) [] ("START BRN START" ∷ []))
    -- a name that stands first on SEC is of no sort
    ∷ case 4 6 (program ("START BRN NOTED" ∷ "NOTED SEC" ∷ []))
    -- the label of an unreadable card of sections 4 to 6 is a plain one
    ∷ case 4 6 (program (" JSR NOTED" ∷ "NOTED XYZ" ∷ []))
    ∷ case 4 6 (program (" MOV =NOTED,WA" ∷ "NOTED XYZ" ∷ []))
    ∷ case 2 7 (program ("START BRN NOTED" ∷ "NOTED XYZ" ∷ []))
    ∷ case 2 8 (deck ("NOTED GLB" ∷ []) [] [] [] ("START JMG NOTED" ∷ "NOTED XYZ" ∷ []))
    -- that of an unreadable card of section 3 is a word
    ∷ case 2 6 (deck [] [] ("CONST DAC NOTED" ∷ []) ("NOTED XYZ" ∷ []) ("START BRN START" ∷ []))
    ∷ case 4 4 (deck [] [] ("CONST DBC NOTED" ∷ []) ("NOTED XYZ" ∷ []) ("START BRN START" ∷ []))
    -- a supplied name may be given another value
    ∷ case 0 32 (deck [] ("CFP$A EQU 5" ∷ []) [] [] ("START BRN START" ∷ []))
    ∷ []

-- 5: symbol undefined, or `*` not supplied
abbrev undefined_names : List Case
undefined_names =
    card 5 " BRN NONE$"
    ∷ card 5 " JSR NONE$"
    ∷ card 5 " JMG NONE$"
    ∷ card 5 " MOV =NONE$,WA"
    ∷ card 5 " MOV *NONE$,WA"
    ∷ card 5 " MOV NONE$,WA"
    ∷ card 5 " MOV NONE$(XL),WA"
    ∷ card 5 " CTW WA,NONE$"
    ∷ card 5 " BEQ WA,WB,NONE$"
    ∷ card 5 " MFI WA,NONE$"
    ∷ card 5 "ADDUP PRC R,NONE$"
    ∷ card 5 " MOV =CFP$A,WA"
    ∷ case 5 3 (deck [] ("THREE EQU NONE$" ∷ []) [] [] ("START BRN START" ∷ []))
    ∷ case 5 3 (deck [] ("THREE EQU LATER+1" ∷ "LATER EQU 2" ∷ []) [] [] ("START BRN START" ∷ []))
    ∷ case 5 3 (deck [] ("THREE EQU LATER" ∷ "LATER XYZ" ∷ []) [] [] ("START BRN START" ∷ []))
    ∷ case 5 3 (deck [] ("THREE EQU *" ∷ []) [] [] ("START BRN START" ∷ []))
    ∷ case 5 3 (deck [] ("CFP$S EQU *" ∷ []) [] [] ("START BRN START" ∷ []))
    ∷ case 5 3 (deck [] ("CH$L$ EQU *" ∷ []) [] [] ("START BRN START" ∷ []))
    ∷ case 5 4 (deck [] [] ("CONST DAC NONE$" ∷ []) [] ("START BRN START" ∷ []))
    ∷ case 5 4 (deck [] [] ("CONST DBC NONE$" ∷ []) [] ("START BRN START" ∷ []))
    ∷ []

unfit-words : failing 0 (unfit_words ++ undefined_names) ≡ []
unfolding failing_by answer_by named_in with_remainder look_up operation_by walk_by ◌and◌ ◌or◌ if member same rows supplies supplied_of text_words size constants workings fresh_count externals section4 section5 section6 fresh_at exit_count start_word table_length field class_at value target1 target2 target3 executable body_at names_procedure names_external callee declared smaller among register_ok value_ok operand_ok third_ok fields_ok apart outside reaches is_outside starts_section all_exits exit_list iffs value_known unlike distinct_iffs switch_list exit_number_ok fault_at rules_hold sections_ok fresh_ok counts_ok limits_ok layout_ok table_ok between parts lines label_end operation_start operation_end operand_start tail_of field_of is_empty symbol_of number_of register_of label_of label_formed is_skipped is_divider wants_label is_labelless bars_label formats_of has_text single_form indexed_form combined_form signed_form marked_form form_of texts_in written_forms has_comma has_remark delimited_by quoted holds_place of_words is_one_word word_count is_external opened_past past declared_sort placed_sort sort_at fields_named first_place global_meaning meaning all_placed above pairs register_kind takes value_within displaced symbol_by summed subtracted signed_within operand_of operands_of outcomes symbol_at symbols_from symbols_of first_operand row_entry entry_in is_fresh words_in starts_in fresh_in counts_in header image deck_with deck_in bytes_printed line_short label_readable forms_of operands_formed remark_there text_delimited in_its_section is_labelled label_there label_wanted label_once no_surplus operands_fit comma_there text_there symbols_defined procedure_declared routine_declared count_known is_judged loose_fault place_fault shape_fault conditions fault_of first_fault is_closed is_complete is_within limits_kept finished judged left_of
unfit-words = quick-failing 0 (unfit_words ++ undefined_names)

-- lawful forms
abbrev fit_forms : List Case
fit_forms =
    lawful " MOV =THREE,XT  COMMENT"
    ∷ lawful " MOV *THREE,-(XS)"
    ∷ lawful " MOV =WORKA,(XR)+"
    ∷ lawful " MOV =ENTRY,THREE(XL)"
    ∷ lawful " MOV 536870911(XL),WORKA"
    ∷ lawful " MOV CONST(XR),WORKA(XR)"
    ∷ lawful " MOV -(XS),WA"
    ∷ lawful " MFI WA"
    ∷ lawful " MFI WA,."
    ∷ lawful " MFI WA,START"
    ∷ lawful " PLC XS"
    ∷ lawful " PSC XR,=THREE"
    ∷ lawful " LCH XL,(XR)+"
    ∷ lawful " RSH WA,32"
    ∷ lawful " LSH WA,THREE"
    ∷ lawful " CTB WC,2147483647"
    ∷ lawful " BEQ -(XS),=THREE,ENTRY"
    ∷ lawful " BNZ XL,ROUTE"
    ∷ lawful " JMG GLOBE"
    ∷ lawful " BRN GLOBE"
    ∷ lawful " SSS WORKA"
    ∷ lawful " ERB 0001, A TEXT, WITH BLANKS"
    ∷ lawful " CMC START,ENTRY"
    ∷ lawful " CHK ANY COMMENT"
    ∷ lawful " IOV START"
    ∷ lawful "NOTED ZGB CONST"
    ∷ []

fit-forms : failing 0 fit_forms ≡ []
unfolding failing_by answer_by named_in with_remainder look_up operation_by walk_by ◌and◌ ◌or◌ if member same rows supplies supplied_of text_words size constants workings fresh_count externals section4 section5 section6 fresh_at exit_count start_word table_length field class_at value target1 target2 target3 executable body_at names_procedure names_external callee declared smaller among register_ok value_ok operand_ok third_ok fields_ok apart outside reaches is_outside starts_section all_exits exit_list iffs value_known unlike distinct_iffs switch_list exit_number_ok fault_at rules_hold sections_ok fresh_ok counts_ok limits_ok layout_ok table_ok between parts lines label_end operation_start operation_end operand_start tail_of field_of is_empty symbol_of number_of register_of label_of label_formed is_skipped is_divider wants_label is_labelless bars_label formats_of has_text single_form indexed_form combined_form signed_form marked_form form_of texts_in written_forms has_comma has_remark delimited_by quoted holds_place of_words is_one_word word_count is_external opened_past past declared_sort placed_sort sort_at fields_named first_place global_meaning meaning all_placed above pairs register_kind takes value_within displaced symbol_by summed subtracted signed_within operand_of operands_of outcomes symbol_at symbols_from symbols_of first_operand row_entry entry_in is_fresh words_in starts_in fresh_in counts_in header image deck_with deck_in bytes_printed line_short label_readable forms_of operands_formed remark_there text_delimited in_its_section is_labelled label_there label_wanted label_once no_surplus operands_fit comma_there text_there symbols_defined procedure_declared routine_declared count_known is_judged loose_fault place_fault shape_fault conditions fault_of first_fault is_closed is_complete is_within limits_kept finished judged left_of
fit-forms = quick-failing 0 fit_forms
