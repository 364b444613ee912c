use Rattle.std.proofs.Common.{◌∙◌, ap}
use Rattle.std.specs.Option.{option_and_then}
use Rattle.b2_declared.specs.Gathering.{dir_of as dir_of_id}
use Rattle.b2_references.specs.References.{place_at, place_with}
use Rattle.b2_references.proofs.index.Index.place_with.Goals as goal

pub returns-in-None : goal.returns-in-None
unfolding place_with
returns-in-None c = ap (option_and_then (place_at c.args.self.now)) (c.in-None.ensures ∙ ap (λ d. dir_of_id d.ids c.args.id.now) c.self.view_is)

pub returns-in-Some : goal.returns-in-Some
unfolding place_with
returns-in-Some c = c.place_at.ensures ∙ ap (option_and_then (place_at c.args.self.now)) (c.in-Some.ensures ∙ ap (λ d. dir_of_id d.ids c.args.id.now) c.self.view_is)
