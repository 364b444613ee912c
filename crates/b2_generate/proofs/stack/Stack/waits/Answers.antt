use Rattle.std.proofs.Common.{false, ap, sym, ◌∙◌}
use Rattle.std.specs.List.{slice_get}
use Rattle.std.specs.Option.{option_map_or}
use Rattle.b2_references.specs.Names.{is_same}
use Rattle.b2_generate.specs.declared.frame.Frame.{Frame}
use Rattle.b2_generate.proofs.OpenTargetsAreFound.{none_found, place_tells}
use Rattle.b2_generate.proofs.stack.Stack.waits.Goals as goal

pub returns-in-None : goal.returns-in-None
returns-in-None c =
    none_found c.args.self.now.places c.args.name.now c.args.self.now.below.items c.args.self.now.found (sym c.get.ensures ∙ sym c.copied.ensures ∙ c.in-None.is)

pub returns-in-Some : goal.returns-in-Some
returns-in-Some c =
    c.is_at.ensures
    ∙ ap (λ xs. option_map_or (λ (f : Frame). is_same c.args.name.now f.name) (slice_get xs c.in-Some.place) false) c.as_slice.ensures.value
    ∙ place_tells c.args.self.now.places c.args.name.now c.args.self.now.below.items c.in-Some.place c.args.self.now.found (sym c.get.ensures ∙ sym c.copied.ensures ∙ c.in-Some.is)
