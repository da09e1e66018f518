-- The reference program of the scope paper and its table, and the eight reference runs as one list, computed [S Reference runs].
-- Assumes nothing.
use Prim.Native.Nat.{ℕ}
use Prim.Native.String.{String}
use mathlib.Core.Path.{◌≡◌, ap, refl, ◌∙◌}
use mathlib.Core.List.{List, [], ◌∷◌, ◌++◌}
use lib.ListN.{replicate}
use Rattle.language.proofs.Deck.{tells, told, typed_lines}
use Rattle.language.proofs.Quick.{answer-by, answer_by, cards-by, look_up, named_in, operation_by, walk_by, with_remainder}
use Rattle.base.specs.Test.{◌and◌, ◌or◌, if}
use Rattle.base.specs.Lists.{member, same}
use Rattle.ops.specs.Ops.{rows}
use Rattle.ops.specs.Lookup.{row_of_letters}
use Rattle.supplied.specs.Supplied.{supplies, supplied_of}
use Rattle.words.specs.Words.{text_words}
use Rattle.rules.specs.Table.{size, constants, workings, fresh_count, externals, section4, section5, section6, fresh_at, exit_count, start_word, table_length, field, class_at, value, target1, target2, target3, executable, body_at, names_procedure, names_external, callee, declared}
use Rattle.rules.specs.Check.{smaller, among, register_ok, value_ok, operand_ok, third_ok, fields_ok, apart, outside, reaches, is_outside, starts_section, all_exits, exit_list, iffs, value_known, unlike, distinct_iffs, switch_list, exit_number_ok, fault_at, rules_hold, sections_ok, fresh_ok, counts_ok, limits_ok, layout_ok, table_ok}
use Rattle.rules.specs.Run.{answer}
use Rattle.rules.specs.Reference.{reference, runs_by, runs_give}
use Rattle.rules.proofs.Vectors.{runs-by-rules}
use Rattle.language.specs.Text.{between, parts, lines, label_end, operation_start, operation_end, operand_start, tail_of, field_of, is_empty, symbol_of, number_of, register_of, label_of, label_formed}
use Rattle.language.specs.Operation.{operation_named, operation_in, operation_of, is_skipped, is_divider, wants_label, is_labelless, bars_label, formats_of, has_text}
use Rattle.language.specs.Form.{single_form, indexed_form, combined_form, signed_form, marked_form, form_of, texts_in, written_forms, has_comma, has_remark, delimited_by, quoted}
use Rattle.language.specs.Card.{Card, card_of, holds_place, of_words, is_one_word, word_count, is_external, opened_past, past, walk, cards_of}
use Rattle.language.specs.Symbol.{declared_sort, placed_sort, sort_at, fields_named, first_place, global_meaning, meaning, all_placed, above, pairs}
use Rattle.language.specs.Operand.{register_kind, takes, value_within, displaced, symbol_by, summed, subtracted, signed_within, operand_of, operands_of, outcomes}
use Rattle.language.specs.Image.{symbol_at, symbols_from, symbols_of, first_operand, row_entry, entry_in, is_fresh, words_in, starts_in, fresh_in, counts_in, header, image}
use Rattle.language.specs.Fault.{deck_with, deck_in, deck_of, bytes_printed, line_short, label_readable, forms_of, operands_formed, remark_there, text_delimited, in_its_section, is_labelled, label_there, label_wanted, label_once, no_surplus, operands_fit, comma_there, text_there, symbols_defined, procedure_declared, routine_declared, count_known, is_judged, loose_fault, place_fault, shape_fault, conditions, fault_of}
use Rattle.language.specs.Answer.{first_fault, is_closed, is_complete, is_within, limits_kept, finished, judged, answer_of, left_of}

abbrev pub reference_cards : List String
reference_cards =
    " SEC"
    ∷ "SYSXX EXP E,1"
    ∷ "ADDUP INP R,1"
    ∷ " SEC"
    ∷ "THREE EQU 3"
    ∷ " SEC"
    ∷ " SEC"
    ∷ " SEC"
    ∷ "START MOV =THREE,WA"
    ∷ " JSR ADDUP"
    ∷ " PPM DONE$"
    ∷ "DONE$ JSR SYSXX"
    ∷ " PPM ."
    ∷ " BRN START"
    ∷ "ADDUP PRC R,1"
    ∷ "LOOPA ICV WB"
    ∷ " BCT WA,LOOPA"
    ∷ " EXI 1"
    ∷ " ENP"
    ∷ " SEC"
    ∷ " ERB 1,STACK FULL"
    ∷ " SEC"
    ∷ " BRN START"
    ∷ " END"
    ∷ []

-- the table, word for word
pub reference-table : (deck_of (typed_lines reference_cards)).table ≡ reference
unfolding named_in with_remainder look_up operation_by walk_by ◌and◌ ◌or◌ if member same rows supplies supplied_of text_words size constants workings fresh_count externals section4 section5 section6 fresh_at exit_count start_word table_length field class_at value target1 target2 target3 executable body_at names_procedure names_external callee declared smaller among register_ok value_ok operand_ok third_ok fields_ok apart outside reaches is_outside starts_section all_exits exit_list iffs value_known unlike distinct_iffs switch_list exit_number_ok fault_at rules_hold sections_ok fresh_ok counts_ok limits_ok layout_ok table_ok between parts lines label_end operation_start operation_end operand_start tail_of field_of is_empty symbol_of number_of register_of label_of label_formed is_skipped is_divider wants_label is_labelless bars_label formats_of has_text single_form indexed_form combined_form signed_form marked_form form_of texts_in written_forms has_comma has_remark delimited_by quoted holds_place of_words is_one_word word_count is_external opened_past past declared_sort placed_sort sort_at fields_named first_place global_meaning meaning all_placed above pairs register_kind takes value_within displaced symbol_by summed subtracted signed_within operand_of operands_of outcomes symbol_at symbols_from symbols_of first_operand row_entry entry_in is_fresh words_in starts_in fresh_in counts_in header image deck_with deck_in deck_of bytes_printed line_short label_readable forms_of operands_formed remark_there text_delimited in_its_section is_labelled label_there label_wanted label_once no_surplus operands_fit comma_there text_there symbols_defined procedure_declared routine_declared count_known is_judged loose_fault place_fault shape_fault conditions fault_of first_fault is_closed is_complete is_within limits_kept finished judged left_of
reference-table = ap (λ (cs : List Card). (deck_in cs).table) (cards-by (typed_lines reference_cards))

-- it is assembled, and the lent words hold it and the rest as lent
pub reference-answer : tells reference_cards ≡ 0 ∷ 113 ∷ []
unfolding answer_by named_in with_remainder look_up operation_by walk_by ◌and◌ ◌or◌ if member same rows supplies supplied_of text_words size constants workings fresh_count externals section4 section5 section6 fresh_at exit_count start_word table_length field class_at value target1 target2 target3 executable body_at names_procedure names_external callee declared smaller among register_ok value_ok operand_ok third_ok fields_ok apart outside reaches is_outside starts_section all_exits exit_list iffs value_known unlike distinct_iffs switch_list exit_number_ok fault_at rules_hold sections_ok fresh_ok counts_ok limits_ok layout_ok table_ok between parts lines label_end operation_start operation_end operand_start tail_of field_of is_empty symbol_of number_of register_of label_of label_formed is_skipped is_divider wants_label is_labelless bars_label formats_of has_text single_form indexed_form combined_form signed_form marked_form form_of texts_in written_forms has_comma has_remark delimited_by quoted holds_place of_words is_one_word word_count is_external opened_past past declared_sort placed_sort sort_at fields_named first_place global_meaning meaning all_placed above pairs register_kind takes value_within displaced symbol_by summed subtracted signed_within operand_of operands_of outcomes symbol_at symbols_from symbols_of first_operand row_entry entry_in is_fresh words_in starts_in fresh_in counts_in header image deck_with deck_in bytes_printed line_short label_readable forms_of operands_formed remark_there text_delimited in_its_section is_labelled label_there label_wanted label_once no_surplus operands_fit comma_there text_there symbols_defined procedure_declared routine_declared count_known is_judged loose_fault place_fault shape_fault conditions fault_of first_fault is_closed is_complete is_within limits_kept finished judged left_of
reference-answer = ap told (answer-by (typed_lines reference_cards) 1000)

pub reference-left : left_of (typed_lines reference_cards) (replicate 115 7) ≡ reference ++ 7 ∷ 7 ∷ []
unfolding ◌and◌ ◌or◌ if member same rows row_of_letters supplies supplied_of text_words size constants workings fresh_count externals section4 section5 section6 fresh_at exit_count start_word table_length field class_at value target1 target2 target3 executable body_at names_procedure names_external callee declared smaller among register_ok value_ok operand_ok third_ok fields_ok apart outside reaches is_outside starts_section all_exits exit_list iffs value_known unlike distinct_iffs switch_list exit_number_ok fault_at rules_hold sections_ok fresh_ok counts_ok limits_ok layout_ok table_ok between parts lines label_end operation_start operation_end operand_start tail_of field_of is_empty symbol_of number_of register_of label_of label_formed operation_named operation_in operation_of is_skipped is_divider wants_label is_labelless bars_label formats_of has_text single_form indexed_form combined_form signed_form marked_form form_of texts_in written_forms has_comma has_remark delimited_by quoted card_of holds_place of_words is_one_word word_count is_external opened_past past walk cards_of declared_sort placed_sort sort_at fields_named first_place global_meaning meaning all_placed above pairs register_kind takes value_within displaced symbol_by summed subtracted signed_within operand_of operands_of outcomes symbol_at symbols_from symbols_of first_operand row_entry entry_in is_fresh words_in starts_in fresh_in counts_in header image deck_with deck_in deck_of bytes_printed line_short label_readable forms_of operands_formed remark_there text_delimited in_its_section is_labelled label_there label_wanted label_once no_surplus operands_fit comma_there text_there symbols_defined procedure_declared routine_declared count_known is_judged loose_fault place_fault shape_fault conditions fault_of first_fault is_closed is_complete is_within limits_kept finished judged answer_of left_of
reference-left = refl

-- run 8's card as the one constant of a program of three branches; 34 words hold its table
abbrev text_cards : List String
text_cards =
    " SEC" ∷ " SEC" ∷ " SEC" ∷ " DTC /ABCDE/" ∷ " SEC" ∷ " SEC" ∷ "START BRN START" ∷ " SEC" ∷ " BRN START" ∷ " SEC" ∷ " BRN START" ∷ " END" ∷ []

abbrev text_table : List ℕ
text_table = left_of (typed_lines text_cards) (replicate 34 0)

-- its starting words
text-words : start_word text_table 0 ∷ start_word text_table 1 ∷ [] ≡ 1145258561 ∷ 69 ∷ []
unfolding ◌and◌ ◌or◌ if member same rows row_of_letters supplies supplied_of text_words size constants workings fresh_count externals section4 section5 section6 fresh_at exit_count start_word table_length field class_at value target1 target2 target3 executable body_at names_procedure names_external callee declared smaller among register_ok value_ok operand_ok third_ok fields_ok apart outside reaches is_outside starts_section all_exits exit_list iffs value_known unlike distinct_iffs switch_list exit_number_ok fault_at rules_hold sections_ok fresh_ok counts_ok limits_ok layout_ok table_ok between parts lines label_end operation_start operation_end operand_start tail_of field_of is_empty symbol_of number_of register_of label_of label_formed operation_named operation_in operation_of is_skipped is_divider wants_label is_labelless bars_label formats_of has_text single_form indexed_form combined_form signed_form marked_form form_of texts_in written_forms has_comma has_remark delimited_by quoted card_of holds_place of_words is_one_word word_count is_external opened_past past walk cards_of declared_sort placed_sort sort_at fields_named first_place global_meaning meaning all_placed above pairs register_kind takes value_within displaced symbol_by summed subtracted signed_within operand_of operands_of outcomes symbol_at symbols_from symbols_of first_operand row_entry entry_in is_fresh words_in starts_in fresh_in counts_in header image deck_with deck_in deck_of bytes_printed line_short label_readable forms_of operands_formed remark_there text_delimited in_its_section is_labelled label_there label_wanted label_once no_surplus operands_fit comma_there text_there symbols_defined procedure_declared routine_declared count_known is_judged loose_fault place_fault shape_fault conditions fault_of first_fault is_closed is_complete is_within limits_kept finished judged answer_of left_of
text-words = refl

-- the eight runs: seven steps by the rules, the eighth by its card
pub reference-runs :
    runs_by answer (start_word text_table 0 ∷ start_word text_table 1 ∷ []) ≡ runs_give (1145258561 ∷ 69 ∷ [])
reference-runs = runs-by-rules _ ∙ ap runs_give text-words
