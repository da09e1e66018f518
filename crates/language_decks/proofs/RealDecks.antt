-- Decks with DRC: its forms and its words, and what other cards make of a text like it [M 11.3] [02 Wish 5].
-- The words are those of the decimal numbers by the format's own tables, worked out apart from these definitions.
-- Assumes nothing.
use Prim.Native.Nat.{ℕ}
use Prim.Native.String.{String}
use mathlib.Core.Path.{◌≡◌, ap}
use mathlib.Core.List.{List, [], ◌∷◌}
use lib.Ieee.{div, neg, of_int, to_bits}
use Rattle.language.proofs.Deck.{failing_by, quick-failing, Case, card, case, deck, failing, tells, told, typed_lines}
use Rattle.language.proofs.Quick.{answer-by, answer_by, cards-by, look_up, named_in, operation_by, walk_by, with_remainder}
use Rattle.base.specs.Test.{◌and◌, ◌or◌, if}
use Rattle.base.specs.Lists.{member, same}
use Rattle.ops.specs.Ops.{rows}
use Rattle.supplied.specs.Supplied.{supplies, supplied_of}
use Rattle.words.specs.Words.{text_words}
use Rattle.rules.specs.Table.{size, constants, workings, fresh_count, externals, section4, section5, section6, fresh_at, exit_count, start_word, table_length, field, class_at, value, target1, target2, target3, executable, body_at, names_procedure, names_external, callee, declared}
use Rattle.rules.specs.Check.{smaller, among, register_ok, value_ok, operand_ok, third_ok, fields_ok, apart, outside, reaches, is_outside, starts_section, all_exits, exit_list, iffs, value_known, unlike, distinct_iffs, switch_list, exit_number_ok, fault_at, rules_hold, sections_ok, fresh_ok, counts_ok, limits_ok, layout_ok, table_ok}
use Rattle.language.specs.Text.{between, parts, lines, label_end, operation_start, operation_end, operand_start, tail_of, field_of, is_empty, symbol_of, number_of, register_of, label_of, label_formed}
use Rattle.language.specs.Operation.{is_skipped, is_divider, wants_label, is_labelless, bars_label, formats_of, has_text}
use Rattle.real_rules.specs.Real.{constant, quotient}
use Rattle.language.specs.Decimal.{decimal_of, pointed}
use Rattle.language.specs.Form.{single_form, indexed_form, combined_form, signed_form, marked_form, form_of, texts_in, written_forms, has_comma, has_remark, delimited_by, quoted}
use Rattle.language.specs.Card.{Card, holds_place, of_words, is_one_word, word_count, is_external, opened_past, past}
use Rattle.language.specs.Symbol.{declared_sort, placed_sort, sort_at, fields_named, first_place, global_meaning, meaning, all_placed, above, pairs}
use Rattle.language.specs.Operand.{register_kind, takes, value_within, displaced, symbol_by, summed, subtracted, signed_within, operand_of, operands_of, outcomes}
use Rattle.language.specs.Image.{symbol_at, symbols_from, symbols_of, first_operand, row_entry, entry_in, is_fresh, words_in, starts_in, fresh_in, counts_in, header, image}
use Rattle.language.specs.Fault.{deck_with, deck_in, deck_of, bytes_printed, line_short, label_readable, forms_of, operands_formed, remark_there, text_delimited, in_its_section, is_labelled, label_there, label_wanted, label_once, no_surplus, operands_fit, comma_there, text_there, symbols_defined, procedure_declared, routine_declared, count_known, is_judged, loose_fault, place_fault, shape_fault, conditions, fault_of}
use Rattle.language.specs.Answer.{first_fault, is_closed, is_complete, is_within, limits_kept, finished, judged, left_of}

-- a DRC in section 2, at line 4 of its deck
abbrev constant_card : String → List String
constant_card s = deck [] [] (s ∷ []) [] ("START BRN START" ∷ [])

-- 1: an operand of another form, a surplus one too; 4: too many, and none
abbrev malformed_reals : List Case
malformed_reals =
    -- no point; no digit before it; a tenth digit before it, a seventh after it; an exponent; two signs; two points
    case 1 4 (constant_card "CONST DRC 5")
    ∷ case 1 4 (constant_card "CONST DRC .5")
    ∷ case 1 4 (constant_card "CONST DRC -.")
    ∷ case 1 4 (constant_card "CONST DRC 1234567890.5")
    ∷ case 1 4 (constant_card "CONST DRC 0000000000.")
    ∷ case 1 4 (constant_card "CONST DRC 0.1234567")
    ∷ case 1 4 (constant_card "CONST DRC 1.5E3")
    ∷ case 1 4 (constant_card "CONST DRC +-5.")
    ∷ case 1 4 (constant_card "CONST DRC 1.5.")
    -- forms of other cards
    ∷ case 1 4 (constant_card "CONST DRC WA")
    ∷ case 1 4 (constant_card "CONST DRC +5")
    ∷ case 1 4 (constant_card "CONST DRC .")
    ∷ case 1 4 (constant_card "CONST DRC CONST")
    -- surplus operands
    ∷ case 1 4 (constant_card "CONST DRC 1.,5")
    ∷ case 1 4 (constant_card "CONST DRC 1.,")
    ∷ case 4 4 (constant_card "CONST DRC 1.,2.")
    ∷ case 4 4 (constant_card "CONST DRC")
    -- lawful: no digit after the point, the most digits, leading zeros, a comment
    ∷ case 0 34 (constant_card "CONST DRC 5.")
    ∷ case 0 34 (constant_card " DRC +123456789.123456")
    ∷ case 0 34 (constant_card " DRC -000000000.000000  COMMENT")
    ∷ []

malformed-reals : failing 0 malformed_reals ≡ []
unfolding failing_by answer_by named_in with_remainder look_up operation_by walk_by ◌and◌ ◌or◌ if member same rows supplies supplied_of text_words size constants workings fresh_count externals section4 section5 section6 fresh_at exit_count start_word table_length field class_at value target1 target2 target3 executable body_at names_procedure names_external callee declared smaller among register_ok value_ok operand_ok third_ok fields_ok apart outside reaches is_outside starts_section all_exits exit_list iffs value_known unlike distinct_iffs switch_list exit_number_ok fault_at rules_hold sections_ok fresh_ok counts_ok limits_ok layout_ok table_ok between parts lines label_end operation_start operation_end operand_start tail_of field_of is_empty symbol_of number_of register_of label_of label_formed is_skipped is_divider wants_label is_labelless bars_label formats_of has_text single_form indexed_form combined_form signed_form marked_form form_of texts_in written_forms has_comma has_remark delimited_by quoted holds_place of_words is_one_word word_count is_external opened_past past declared_sort placed_sort sort_at fields_named first_place global_meaning meaning all_placed above pairs register_kind takes value_within displaced symbol_by summed subtracted signed_within operand_of operands_of outcomes symbol_at symbols_from symbols_of first_operand row_entry entry_in is_fresh words_in starts_in fresh_in counts_in header image deck_with deck_in bytes_printed line_short label_readable forms_of operands_formed remark_there text_delimited in_its_section is_labelled label_there label_wanted label_once no_surplus operands_fit comma_there text_there symbols_defined procedure_declared routine_declared count_known is_judged loose_fault place_fault shape_fault conditions fault_of first_fault is_closed is_complete is_within limits_kept finished judged left_of decimal_of pointed constant quotient div neg of_int to_bits
malformed-reals = quick-failing 0 malformed_reals

-- DRC stands where DIC does; a text like it has no form on other cards; CFP$R is supplied, its neighbours are not
abbrev other_cards : List Case
other_cards =
    case 2 3 (deck [] ("CONST DRC 0.1" ∷ []) [] [] ("START BRN START" ∷ []))
    ∷ case 1 3 (deck [] ("CONST DRC 5" ∷ []) [] [] ("START BRN START" ∷ []))
    ∷ card 2 " DRC 0.1"
    ∷ card 2 " DIC +1"
    ∷ card 1 " MOV 1.5,WA"
    ∷ card 1 " LDR 1.5"
    ∷ card 4 " LDR +5"
    ∷ case 1 4 (constant_card "CONST DIC 1.5")
    ∷ case 1 4 (constant_card "CONST DAC 1.")
    ∷ case 1 4 (constant_card "CONST DBC +1.")
    ∷ case 0 32 (deck [] ("CFP$R EQU *" ∷ []) [] [] ("START BRN START" ∷ []))
    ∷ case 5 3 (deck [] ("CFP$S EQU *" ∷ []) [] [] ("START BRN START" ∷ []))
    ∷ case 5 3 (deck [] ("CFP$U EQU *" ∷ []) [] [] ("START BRN START" ∷ []))
    ∷ case 5 3 (deck [] ("CFP$X EQU *" ∷ []) [] [] ("START BRN START" ∷ []))
    ∷ []

other-cards : failing 0 other_cards ≡ []
unfolding failing_by answer_by named_in with_remainder look_up operation_by walk_by ◌and◌ ◌or◌ if member same rows supplies supplied_of text_words size constants workings fresh_count externals section4 section5 section6 fresh_at exit_count start_word table_length field class_at value target1 target2 target3 executable body_at names_procedure names_external callee declared smaller among register_ok value_ok operand_ok third_ok fields_ok apart outside reaches is_outside starts_section all_exits exit_list iffs value_known unlike distinct_iffs switch_list exit_number_ok fault_at rules_hold sections_ok fresh_ok counts_ok limits_ok layout_ok table_ok between parts lines label_end operation_start operation_end operand_start tail_of field_of is_empty symbol_of number_of register_of label_of label_formed is_skipped is_divider wants_label is_labelless bars_label formats_of has_text single_form indexed_form combined_form signed_form marked_form form_of texts_in written_forms has_comma has_remark delimited_by quoted holds_place of_words is_one_word word_count is_external opened_past past declared_sort placed_sort sort_at fields_named first_place global_meaning meaning all_placed above pairs register_kind takes value_within displaced symbol_by summed subtracted signed_within operand_of operands_of outcomes symbol_at symbols_from symbols_of first_operand row_entry entry_in is_fresh words_in starts_in fresh_in counts_in header image deck_with deck_in bytes_printed line_short label_readable forms_of operands_formed remark_there text_delimited in_its_section is_labelled label_there label_wanted label_once no_surplus operands_fit comma_there text_there symbols_defined procedure_declared routine_declared count_known is_judged loose_fault place_fault shape_fault conditions fault_of first_fault is_closed is_complete is_within limits_kept finished judged left_of decimal_of pointed constant quotient div neg of_int to_bits
other-cards = quick-failing 0 other_cards

-- words: 0.1 is 3fb99999 9999999a, the low word first; zero is +0; a fresh first word is 0, the second stays
abbrev reals : List String
reals =
    deck [] ("CFP$R EQU *" ∷ [])
    ("TENTH DRC 0.1" ∷ " DRC 5." ∷ " DRC -0." ∷ "LARGE DRC +999999999.999999" ∷ " DRC -1.5" ∷ " DAC LARGE" ∷ " DAC CFP$R" ∷ [])
    ("F$NEW DRC 0.1" ∷ "WORKA DRC -123456789.123456" ∷ " DAC WORKA" ∷ [])
    ("START LDR TENTH" ∷ " STR WORKA" ∷ " RTI" ∷ " BRN START" ∷ [])

abbrev reals_table : List ℕ
reals_table =
    6 ∷ 12 ∷ 5 ∷ 1 ∷ 0 ∷ 0 ∷ 4 ∷ 5  -- n, c, w, fresh words, EXPs, starts of sections 4, 5, 6
    ∷ 501 ∷ 3 ∷ 0 ∷ 0 ∷ 0 ∷ 0 ∷ 0 ∷ 0  -- 0 START LDR TENTH
    ∷ 502 ∷ 3 ∷ 0 ∷ 56 ∷ 0 ∷ 0 ∷ 0 ∷ 0  -- 1 STR WORKA
    ∷ 806 ∷ 0 ∷ 0 ∷ 0 ∷ 0 ∷ 0 ∷ 0 ∷ 0  -- 2 RTI
    ∷ 102 ∷ 6 ∷ 0 ∷ 0 ∷ 0 ∷ 0 ∷ 0 ∷ 0  -- 3 BRN START
    ∷ 115 ∷ 1 ∷ 0 ∷ 1 ∷ 0 ∷ 0 ∷ 0 ∷ 0  -- 4 ERB 1,FULL
    ∷ 102 ∷ 6 ∷ 0 ∷ 5 ∷ 0 ∷ 0 ∷ 0 ∷ 0  -- 5 ERROR BRN ERROR
    ∷ 48  -- fresh addresses
    ∷ 0x9999999a ∷ 0x3fb99999 ∷ 0 ∷ 0x40140000 ∷ 0 ∷ 0 ∷ 0xfffffff8 ∷ 0x41cdcd64 ∷ 0 ∷ 0xbff80000 ∷ 24 ∷ 2  -- constant words
    ∷ 0 ∷ 0x3fb99999 ∷ 0x547e6b40 ∷ 0xc19d6f34 ∷ 56 ∷ []  -- working words

pub reals-table : (deck_of (typed_lines reals)).table ≡ reals_table
unfolding named_in with_remainder look_up operation_by walk_by ◌and◌ ◌or◌ if member same rows supplies supplied_of text_words size constants workings fresh_count externals section4 section5 section6 fresh_at exit_count start_word table_length field class_at value target1 target2 target3 executable body_at names_procedure names_external callee declared smaller among register_ok value_ok operand_ok third_ok fields_ok apart outside reaches is_outside starts_section all_exits exit_list iffs value_known unlike distinct_iffs switch_list exit_number_ok fault_at rules_hold sections_ok fresh_ok counts_ok limits_ok layout_ok table_ok between parts lines label_end operation_start operation_end operand_start tail_of field_of is_empty symbol_of number_of register_of label_of label_formed is_skipped is_divider wants_label is_labelless bars_label formats_of has_text single_form indexed_form combined_form signed_form marked_form form_of texts_in written_forms has_comma has_remark delimited_by quoted holds_place of_words is_one_word word_count is_external opened_past past declared_sort placed_sort sort_at fields_named first_place global_meaning meaning all_placed above pairs register_kind takes value_within displaced symbol_by summed subtracted signed_within operand_of operands_of outcomes symbol_at symbols_from symbols_of first_operand row_entry entry_in is_fresh words_in starts_in fresh_in counts_in header image deck_with deck_in deck_of bytes_printed line_short label_readable forms_of operands_formed remark_there text_delimited in_its_section is_labelled label_there label_wanted label_once no_surplus operands_fit comma_there text_there symbols_defined procedure_declared routine_declared count_known is_judged loose_fault place_fault shape_fault conditions fault_of first_fault is_closed is_complete is_within limits_kept finished judged left_of decimal_of pointed constant quotient div neg of_int to_bits
reals-table = ap (λ (cs : List Card). (deck_in cs).table) (cards-by (typed_lines reals))

pub reals-answer : tells reals ≡ 0 ∷ 74 ∷ []
unfolding answer_by named_in with_remainder look_up operation_by walk_by ◌and◌ ◌or◌ if member same rows supplies supplied_of text_words size constants workings fresh_count externals section4 section5 section6 fresh_at exit_count start_word table_length field class_at value target1 target2 target3 executable body_at names_procedure names_external callee declared smaller among register_ok value_ok operand_ok third_ok fields_ok apart outside reaches is_outside starts_section all_exits exit_list iffs value_known unlike distinct_iffs switch_list exit_number_ok fault_at rules_hold sections_ok fresh_ok counts_ok limits_ok layout_ok table_ok between parts lines label_end operation_start operation_end operand_start tail_of field_of is_empty symbol_of number_of register_of label_of label_formed is_skipped is_divider wants_label is_labelless bars_label formats_of has_text single_form indexed_form combined_form signed_form marked_form form_of texts_in written_forms has_comma has_remark delimited_by quoted holds_place of_words is_one_word word_count is_external opened_past past declared_sort placed_sort sort_at fields_named first_place global_meaning meaning all_placed above pairs register_kind takes value_within displaced symbol_by summed subtracted signed_within operand_of operands_of outcomes symbol_at symbols_from symbols_of first_operand row_entry entry_in is_fresh words_in starts_in fresh_in counts_in header image deck_with deck_in deck_of bytes_printed line_short label_readable forms_of operands_formed remark_there text_delimited in_its_section is_labelled label_there label_wanted label_once no_surplus operands_fit comma_there text_there symbols_defined procedure_declared routine_declared count_known is_judged loose_fault place_fault shape_fault conditions fault_of first_fault is_closed is_complete is_within limits_kept finished judged left_of decimal_of pointed constant quotient div neg of_int to_bits
reals-answer = ap told (answer-by (typed_lines reals) 1000)
