use Rattle.std.proofs.Common.{◌≡◌, get_or, ◌∙◌}
use Rattle.std.proofs.lemmas.List.{get_or_default}
use Rattle.b2_paths.proofs.StampsTellTheMarks.{marked_too, was_marked}
use Rattle.b2_paths.proofs.marks.Marks.mark.Goals as goal

pub returns-clause-was : goal.returns-clause-was
returns-clause-was c =
    let stamps = c.make_room.new.stamps.items in
    let read : c.index.result.now ≡ get_or c.self.inside.stamps.items c.args.number 0 = c.index.ensures ∙ get_or_default stamps c.args.number c.index.result.now 0 c.in_ok-make_room.ensures.room ∙ c.make_room.ensures.stamps c.args.number in
    was_marked c.self.inside.stamps.items c.args.self.now c.self.inside.stamp c.args.number c.index.result.now read c.self.invariant c.self.view_is

pub returns-clause-ok : goal.returns-clause-ok
returns-clause-ok c = marked_too c.self.inside.stamps.items c.make_room.new.stamps.items c.args.self.now c.self.inside.stamp c.args.number c.in_ok-make_room.ensures.room c.make_room.ensures.stamps c.self.invariant c.self.view_is
