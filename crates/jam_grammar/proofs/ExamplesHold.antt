-- The examples hold.
use Rattle.std.proofs.Common.{◌≡◌, List, [], ◌∷◌, refl, sym, ◌∙◌, subst}
use Rattle.std.proofs.lemmas.List.{append-nil}
use Rattle.b2_base.specs.declared.token.Token.{Token}
use Rattle.jam_grammar.specs.Marks.{mark_of_token, mark_of_word, mark_of_key}
use Rattle.jam_grammar.specs.Grammar.{Stmts, Begins}
use Rattle.jam_grammar.specs.Machine.{Bad, run}
use Rattle.jam_grammar.specs.Spelling.{none, together, existing, quietly}
use Rattle.jam_grammar.specs.Readings.{marks, IsFirstFault, line_at, text_at}
use Rattle.jam_grammar.specs.Examples.{AssignmentReads, OneEmptyList, NoParams, TwoParams, ConditionReads, ActionsRead, HeadingsRead, UnendedFaults, SemicolonFaults, OneMoreFaults, IfTooDeep, ElseIfTooDeep, OnTooDeep, TenListsFault, MarkedIsLast, StarIsLast, MarkIsNoName, NameIsLast, ModifiersStandOnce, SixtyFourBegin, braces, assignment, empty_list, no_lists, two_lists, condition, two_statements, headings}
use Rattle.jam_grammar.proofs.MachineStopsAtFirstFault.{whole_is_file, first_fault, told_fault}

fault : (tokens at : List Token) → run tokens (Stmts ∷ []) ≡ Bad at → IsFirstFault tokens (line_at tokens at) (text_at at)
fault tokens at h = told_fault tokens at (first_fault tokens at h)

pub assignment_reads : AssignmentReads
unfolding mark_of_token mark_of_word mark_of_key
assignment_reads = record { file = whole_is_file assignment refl; spelled = (refl, ((refl, refl), (refl, ((refl, refl), (refl, refl))))) }

pub one_empty_list : OneEmptyList
unfolding mark_of_token mark_of_word mark_of_key
one_empty_list = record { file = whole_is_file empty_list refl; spelled = (refl, (refl, ((refl, refl), (refl, (refl, (refl, (refl, refl))))))) }

pub no_params : NoParams
unfolding mark_of_token mark_of_word mark_of_key
no_params = record { file = whole_is_file no_lists refl; spelled = (refl, (refl, ((refl, refl), (refl, (refl, refl))))) }

pub two_params : TwoParams
unfolding mark_of_token mark_of_word mark_of_key
two_params = record { file = whole_is_file two_lists refl; spelled = (refl, (refl, ((refl, refl), (refl, ((refl, refl), (refl, (refl, (refl, (refl, (refl, (refl, refl))))))))))) }

pub condition_reads : ConditionReads
unfolding mark_of_token mark_of_word mark_of_key
condition_reads = record { file = whole_is_file condition refl; spelled = (refl, (refl, ((refl, refl), (refl, (refl, ((refl, refl), (refl, ((refl, refl), (refl, (refl, refl)))))))))) }

pub actions_read : ActionsRead
unfolding mark_of_token mark_of_word mark_of_key
actions_read = record { file = whole_is_file two_statements refl; spelled = (refl, (refl, (_, none, ((refl, refl), (refl, ((refl, refl), (refl, (refl, (refl, ((refl, refl), (refl, (refl, ((refl, refl), (refl, (refl, refl))))))))))))))) }

pub headings_read : HeadingsRead
unfolding mark_of_token mark_of_word mark_of_key
headings_read =
    record {
      file = whole_is_file headings refl;
      spelled = (
        refl,
        (refl, (_, quietly refl (together refl none), ((refl, refl), (refl, ((refl, refl), (refl, (refl, (refl, (_, existing refl (together refl none), ((refl, refl), (refl, ((refl, refl), (refl, refl))))))))))))),
      );
    }

pub unended_faults : UnendedFaults
unfolding mark_of_token mark_of_word mark_of_key
unended_faults = fault _ _ refl

pub semicolon_faults : SemicolonFaults
unfolding mark_of_token mark_of_word mark_of_key
semicolon_faults = fault _ _ refl

pub one_more_faults : OneMoreFaults
unfolding mark_of_token mark_of_word mark_of_key
one_more_faults = fault _ _ refl

pub if_too_deep : IfTooDeep
unfolding mark_of_token mark_of_word mark_of_key
if_too_deep = fault _ _ refl

pub else_if_too_deep : ElseIfTooDeep
unfolding mark_of_token mark_of_word mark_of_key
else_if_too_deep = fault _ _ refl

pub on_too_deep : OnTooDeep
unfolding mark_of_token mark_of_word mark_of_key
on_too_deep = fault _ _ refl

pub ten_lists_fault : TenListsFault
unfolding mark_of_token mark_of_word mark_of_key
ten_lists_fault = fault _ _ refl

pub marked_is_last : MarkedIsLast
unfolding mark_of_token mark_of_word mark_of_key
marked_is_last = fault _ _ refl

pub star_is_last : StarIsLast
unfolding mark_of_token mark_of_word mark_of_key
star_is_last = fault _ _ refl

pub mark_is_no_name : MarkIsNoName
unfolding mark_of_token mark_of_word mark_of_key
mark_is_no_name = fault _ _ refl

pub name_is_last : NameIsLast
unfolding mark_of_token mark_of_word mark_of_key
name_is_last = fault _ _ refl

pub modifiers_stand_once : ModifiersStandOnce
unfolding mark_of_token mark_of_word mark_of_key
modifiers_stand_once = fault _ _ refl

pub sixty_four_begin : SixtyFourBegin
unfolding mark_of_token mark_of_word mark_of_key
sixty_four_begin =
    let f = first_fault (braces 64) [] refl in
    subst (λ x. Begins (marks x)) (sym (f.split ∙ append-nil f.prefix)) f.begins
