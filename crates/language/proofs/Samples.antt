-- Decks and counts that tell a changed definition at once; those of crate `language_decks` are many more.
-- Assumes nothing.
use mathlib.Core.Path.{◌≡◌, refl}
use mathlib.Core.Bool.{true, false}
use mathlib.Core.List.{List, [], ◌∷◌}
use Rattle.language.proofs.Deck.{failing_by, quick-failing, Case, card, case, deck, failing}
use Rattle.language.proofs.Quick.{answer_by, look_up, named_in, operation_by, walk_by, with_remainder}
use Rattle.base.specs.Test.{◌and◌, ◌or◌, if}
use Rattle.base.specs.Lists.{member, same}
use Rattle.ops.specs.Ops.{NGI, op_in, rows}
use Rattle.supplied.specs.Supplied.{supplies, supplied_of}
use Rattle.words.specs.Words.{text_words}
use Rattle.rules.specs.Table.{size, constants, workings, fresh_count, externals, section4, section5, section6, fresh_at, exit_count, start_word, table_length, field, class_at, value, target1, target2, target3, executable, body_at, names_procedure, names_external, callee, declared}
use Rattle.rules.specs.Check.{smaller, among, register_ok, value_ok, operand_ok, third_ok, fields_ok, apart, outside, reaches, is_outside, starts_section, all_exits, exit_list, iffs, value_known, unlike, distinct_iffs, switch_list, exit_number_ok, fault_at, rules_hold, sections_ok, fresh_ok, counts_ok, limits_ok, layout_ok, table_ok}
use Rattle.language.specs.Text.{between, parts, lines, label_end, operation_start, operation_end, operand_start, tail_of, field_of, is_empty, symbol_of, number_of, register_of, label_of, label_formed}
use Rattle.language.specs.Operation.{is_skipped, is_divider, wants_label, is_labelless, bars_label, formats_of, has_text}
use Rattle.language.specs.Form.{single_form, indexed_form, combined_form, signed_form, marked_form, form_of, texts_in, written_forms, has_comma, has_remark, delimited_by, quoted}
use Rattle.language.specs.Card.{holds_place, of_words, is_one_word, word_count, is_external, opened_past, past}
use Rattle.language.specs.Symbol.{declared_sort, placed_sort, sort_at, fields_named, first_place, global_meaning, meaning, all_placed, above, pairs}
use Rattle.language.specs.Operand.{register_kind, takes, value_within, displaced, symbol_by, summed, subtracted, signed_within, operand_of, operands_of, outcomes}
use Rattle.language.specs.Image.{symbol_at, symbols_from, symbols_of, first_operand, row_entry, entry_in, is_fresh, words_in, starts_in, fresh_in, counts_in, header, image, stand_in}
use Rattle.language.specs.Fault.{deck_with, deck_in, bytes_printed, line_short, label_readable, forms_of, operands_formed, remark_there, text_delimited, in_its_section, is_labelled, label_there, label_wanted, label_once, no_surplus, operands_fit, comma_there, text_there, symbols_defined, procedure_declared, routine_declared, count_known, is_judged, loose_fault, place_fault, shape_fault, conditions, fault_of}
use Rattle.language.specs.Answer.{assembled, refused, incomplete, over_limit, short_room, first_fault, is_closed, is_complete, is_within, limits_kept, finished, judged, left_of}

-- too few operands; an EQU symbol of its own line, and of two lines with a fault the first
abbrev samples : List Case
samples =
    card 4 " MOV WA"
    ∷ case 5 3 (deck [] ("THREE EQU THREE" ∷ "FOURS EQU FOURS,1" ∷ []) [] [] ("START BRN START" ∷ []))
    ∷ []

sample-decks : failing 0 samples ≡ []
unfolding failing_by answer_by named_in with_remainder look_up operation_by walk_by ◌and◌ ◌or◌ if member same rows supplies supplied_of text_words size constants workings fresh_count externals section4 section5 section6 fresh_at exit_count start_word table_length field class_at value target1 target2 target3 executable body_at names_procedure names_external callee declared smaller among register_ok value_ok operand_ok third_ok fields_ok apart outside reaches is_outside starts_section all_exits exit_list iffs value_known unlike distinct_iffs switch_list exit_number_ok fault_at rules_hold sections_ok fresh_ok counts_ok limits_ok layout_ok table_ok between parts lines label_end operation_start operation_end operand_start tail_of field_of is_empty symbol_of number_of register_of label_of label_formed is_skipped is_divider wants_label is_labelless bars_label formats_of has_text single_form indexed_form combined_form signed_form marked_form form_of texts_in written_forms has_comma has_remark delimited_by quoted holds_place of_words is_one_word word_count is_external opened_past past declared_sort placed_sort sort_at fields_named first_place global_meaning meaning all_placed above pairs register_kind takes value_within displaced symbol_by summed subtracted signed_within operand_of operands_of outcomes symbol_at symbols_from symbols_of first_operand row_entry entry_in is_fresh words_in starts_in fresh_in counts_in header image deck_with deck_in bytes_printed line_short label_readable forms_of operands_formed remark_there text_delimited in_its_section is_labelled label_there label_wanted label_once no_surplus operands_fit comma_there text_there symbols_defined procedure_declared routine_declared count_known is_judged loose_fault place_fault shape_fault conditions fault_of first_fault is_closed is_complete is_within limits_kept finished judged left_of
sample-decks = quick-failing 0 samples

-- 1,024 operations, 512 labels, 32 fresh words, 8,128 words, and one more of each
pub limits-by-count :
    is_within 1024 512 32 8128 ∷ is_within 1025 0 0 0 ∷ is_within 0 513 0 0 ∷ is_within 0 0 33 0 ∷ is_within 0 0 0 8129 ∷ []
    ≡ true ∷ false ∷ false ∷ false ∷ false ∷ []
unfolding ◌and◌ is_within
limits-by-count = refl

-- what is missing before a limit that is passed, that before room for a word less than the table has
pub refusals-in-order :
    finished false false 9 8 ∷ finished true false 9 8 ∷ finished true true 9 8 ∷ finished true true 9 9 ∷ []
    ≡ refused incomplete ∷ refused over_limit ∷ refused short_room ∷ assembled 9 ∷ []
unfolding finished if
refusals-in-order = refl

-- what stands for an unknown operation is the number of NGI
pub stands-for-unknown : op_in stand_in rows ≡ NGI
unfolding rows if
stands-for-unknown = refl
