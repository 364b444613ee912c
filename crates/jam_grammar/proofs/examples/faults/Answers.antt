use Rattle.jam_grammar.proofs.ExamplesHold.{sixty_four_begin, unended_faults, semicolon_faults, one_more_faults, if_too_deep, else_if_too_deep, on_too_deep, ten_lists_fault, marked_is_last, star_is_last, mark_is_no_name, name_is_last, modifiers_stand_once}
use Rattle.jam_grammar.proofs.examples.faults.Goals as goal

pub returns-clause-sixty_four_begin : goal.returns-clause-sixty_four_begin
returns-clause-sixty_four_begin c = sixty_four_begin

pub returns-clause-unended_faults : goal.returns-clause-unended_faults
returns-clause-unended_faults c = unended_faults

pub returns-clause-semicolon_faults : goal.returns-clause-semicolon_faults
returns-clause-semicolon_faults c = semicolon_faults

pub returns-clause-one_more_faults : goal.returns-clause-one_more_faults
returns-clause-one_more_faults c = one_more_faults

pub returns-clause-if_too_deep : goal.returns-clause-if_too_deep
returns-clause-if_too_deep c = if_too_deep

pub returns-clause-else_if_too_deep : goal.returns-clause-else_if_too_deep
returns-clause-else_if_too_deep c = else_if_too_deep

pub returns-clause-on_too_deep : goal.returns-clause-on_too_deep
returns-clause-on_too_deep c = on_too_deep

pub returns-clause-ten_lists_fault : goal.returns-clause-ten_lists_fault
returns-clause-ten_lists_fault c = ten_lists_fault

pub returns-clause-marked_is_last : goal.returns-clause-marked_is_last
returns-clause-marked_is_last c = marked_is_last

pub returns-clause-star_is_last : goal.returns-clause-star_is_last
returns-clause-star_is_last c = star_is_last

pub returns-clause-mark_is_no_name : goal.returns-clause-mark_is_no_name
returns-clause-mark_is_no_name c = mark_is_no_name

pub returns-clause-name_is_last : goal.returns-clause-name_is_last
returns-clause-name_is_last c = name_is_last

pub returns-clause-modifiers_stand_once : goal.returns-clause-modifiers_stand_once
returns-clause-modifiers_stand_once c = modifiers_stand_once
