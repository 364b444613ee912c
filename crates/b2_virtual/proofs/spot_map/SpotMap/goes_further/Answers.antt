use Rattle.std.proofs.Common.{List, ℕ, sym}
use Rattle.std.proofs.lemmas.Bool.{true≢false}
use Rattle.b2_virtual.proofs.NearestKeysTellNesting.{none_after, next_after, next_is}
use Rattle.b2_virtual.proofs.spot_map.SpotMap.goes_further.Goals as goal

pub returns-in-None : goal.returns-in-None
returns-in-None c = (λ t. absurd (true≢false (sym t)), λ g. absurd (none_after c.self.inside.numbers c.args.self.now c.args.text.now c.range.result c.self.view_is (c.range.ensures.in_range tt) c.in-None.ensures.steps.0 g))

pub returns-in-Some : goal.returns-in-Some
returns-in-Some c =
    let entry : List ℕ × ℕ = (c.in-Some.key.now, c.in-Some._number.now) in (
      λ t. next_is c.self.inside.numbers c.args.self.now c.args.text.now c.range.result _ entry c.self.view_is (c.range.ensures.in_range tt) c.in-Some.ensures.steps (c.begins.ensures.0 t),
      λ g. c.begins.ensures.1 (next_after c.self.inside.numbers c.args.self.now c.args.text.now c.range.result _ entry c.self.view_is (c.range.ensures.in_range tt) c.in-Some.ensures.steps g),
    )
