use Rattle.std.proofs.Common.{ap, refl, ◌∙◌}
use Rattle.b2_files.specs.Stores.{place_of, is_known}
use Rattle.b2_files.proofs.OtherPathsKeepTheirPlaces.{place_set, set_known, set_places}
use Rattle.b2_files.proofs.places.Places.set.Goals as goal

pub returns-clause-known : goal.returns-clause-known
returns-clause-known c = λ other.
    let is = place_set c.self.inside.values c.args.self.now c.set.new.self c.args.path.now c.args.path.now c.args.place c.self.view_is refl c.set.ensures in
    ap (λ m. is_known m other) is ∙ set_known c.args.self.now c.args.path.now c.args.place other

pub returns-clause-places : goal.returns-clause-places
returns-clause-places c = λ other.
    let is = place_set c.self.inside.values c.args.self.now c.set.new.self c.args.path.now c.args.path.now c.args.place c.self.view_is refl c.set.ensures in
    ap (λ m. place_of m other) is ∙ set_places c.args.self.now c.args.path.now c.args.place other
