use Rattle.std.proofs.Common.{◌≡◌, ◌∙◌, Some, None, not, sym, ap}
use Rattle.std.specs.List.{find}
use Rattle.std.specs.Option.{option_copied, option_map_or}
use Rattle.b2_alternatives.specs.declared.need.Next.TheVariants.{Complete, Due}
use Rattle.b2_alternatives.specs.Needs.{first_due, next_by}
use Rattle.b2_alternatives.specs.DependencyWork.{is_known}
use Rattle.b2_alternatives.proofs.FirstUnmetNeedComesNext.{due_by}
use Rattle.b2_alternatives.proofs.need_list.next_by.Goals as goal

pub returns-in_ok-copy-in-Some : goal.returns-in_ok-copy-in-Some
returns-in_ok-copy-in-Some c = λ known are.
    let found : Some c.in-Some.name.now ≡ first_due known c.in-Targets.names =
    ap option_copied (sym c.in-Some.is) ∙ c.first_due.ensures ∙ ap (find (λ name. not (is_known c.args.done.now name))) c.as_slice.ensures
    ∙ due_by known c.args.done.now are c.in-Targets.names
    in
    ap Due c.in_ok-copy-in-Some.ensures
    ∙ sym (ap (λ m. next_by known c.args.need.now.text m Complete) c.in-Targets.is ∙ ap (λ o. option_map_or Due o Complete) (sym found))

pub returns-in-None : goal.returns-in-None
returns-in-None c = λ known are.
    let found : None ≡ first_due known c.in-Targets.names =
    ap option_copied (sym c.in-None.is) ∙ c.first_due.ensures ∙ ap (find (λ name. not (is_known c.args.done.now name))) c.as_slice.ensures
    ∙ due_by known c.args.done.now are c.in-Targets.names
    in
    sym (ap (λ m. next_by known c.args.need.now.text m Complete) c.in-Targets.is ∙ ap (λ o. option_map_or Due o Complete) (sym found))
