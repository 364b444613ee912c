use Rattle.std.proofs.Common.{not, ap, refl, sym, ◌∙◌}
use Rattle.b2_files.proofs.OtherPathsKeepTheirPlaces.{made_known, absent_at, put_known, put_stays, put_places, none_copied}
use Rattle.b2_files.proofs.places.Places.know.Goals as goal

pub returns-in_ok-insert-clause-known : goal.returns-in_ok-insert-clause-known
returns-in_ok-insert-clause-known c =
    put_known c.args.self.now c.insert.new.self c.args.path.now
    (made_known c.self.inside.values c.args.self.now c.insert.new.self c.in_ok-copy.field-0 c.args.path.now c.args.path.now c.self.view_is c.in_ok-copy.ensures refl c.in_ok-insert.ensures.ok)

pub returns-in_ok-insert-clause-stays : goal.returns-in_ok-insert-clause-stays
returns-in_ok-insert-clause-stays c =
    put_stays c.args.self.now c.insert.new.self c.args.path.now
    (made_known c.self.inside.values c.args.self.now c.insert.new.self c.in_ok-copy.field-0 c.args.path.now c.args.path.now c.self.view_is c.in_ok-copy.ensures refl c.in_ok-insert.ensures.ok)

pub returns-in_ok-insert-clause-places : goal.returns-in_ok-insert-clause-places
returns-in_ok-insert-clause-places c =
    put_places c.args.self.now c.insert.new.self c.args.path.now
    (absent_at c.self.inside.values c.args.self.now c.args.path.now c.args.path.now c.self.view_is refl (sym c.get.ensures ∙ none_copied c.get.result (c.is_none.ensures ∙ ap not c.if-is_none.true)))
    (made_known c.self.inside.values c.args.self.now c.insert.new.self c.in_ok-copy.field-0 c.args.path.now c.args.path.now c.self.view_is c.in_ok-copy.ensures refl c.in_ok-insert.ensures.ok)
