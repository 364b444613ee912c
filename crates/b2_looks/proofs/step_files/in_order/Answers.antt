use Rattle.std.proofs.Common.{◌≡◌, ℕ, List, map, sym, ap, subst, ◌∙◌}
use Rattle.std.specs.Prelude.{◌↔◌}
use Rattle.std.specs.List.{Contains}
use Rattle.b2_verdicts.specs.Made.{AreRising}
use Rattle.b2_looks.specs.Numbers.{number_in}
use Rattle.b2_looks.proofs.FilesAreNumbered.{if_ok_then, same_moved, sorted_rise}
use Rattle.b2_looks.proofs.step_files.in_order.Goals as goal

pub returns-clause-same : goal.returns-clause-same
returns-clause-same c =
    let members = c.args.members.now in
    let named = c.in_ok-named.named.items in
    if_ok_then c.numbers_in.result (λ order. order.items ≡ map number_in c.as_slice.result.now) (λ order. (n : ℕ) → Contains order.items n ↔ Contains members n)
    (λ order is n. subst (λ (l : List ℕ). Contains l n ↔ Contains members n) (sym (is ∙ ap (map number_in) c.as_slice.ensures.value)) (same_moved members (map number_in named) c.in_ok-named.ensures.numbers n)) c.numbers_in.ensures

pub returns-clause-rising : goal.returns-clause-rising
returns-clause-rising c =
    let f = c.args.facts.now in
    let named = c.in_ok-named.named.items in
    if_ok_then c.numbers_in.result (λ order. order.items ≡ map number_in c.as_slice.result.now) (λ order. AreRising f order.items)
    (λ order is. subst (AreRising f) (sym (is ∙ ap (map number_in) c.as_slice.ensures.value)) (sorted_rise f c.args.members.now named c.requires.paths c.requires.distinct c.in_ok-named.ensures.numbers c.in_ok-named.ensures.paths c.in_ok-named.ensures.sorted)) c.numbers_in.ensures
