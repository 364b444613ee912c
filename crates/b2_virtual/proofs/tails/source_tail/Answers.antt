use Rattle.std.proofs.Common.{◌≡◌, IfOk, List, ℕ, ◌∙◌, ap, sym, subst}
use Rattle.std.specs.List.{list_all}
use Rattle.b2_base.specs.Segments.{is_rooted, segments}
use Rattle.b2_virtual.specs.Paths.{is_down}
use Rattle.b2_virtual.proofs.PlainPathsStayAsTheyAre.{own_tail}
use Rattle.b2_virtual.proofs.tails.source_tail.Goals as goal

pub returns-then-are_down : goal.returns-then-are_down
returns-then-are_down c =
    let path : List ℕ = c.args.path.now in
    let relative = ap is_rooted (sym c.as_str.ensures.value) ∙ sym c.is_rooted.ensures ∙ c.if-is_rooted.false in
    let down = ap (λ t. list_all is_down (segments t)) (sym c.as_str-2.ensures.value) ∙ sym c.are_down.ensures ∙ c.if-are_down.true in
    subst (λ (t : List ℕ). IfOk c.copy.result (λ made. made ≡ t)) (sym (own_tail path c.as_str.ensures.normal relative down)) c.copy.ensures
