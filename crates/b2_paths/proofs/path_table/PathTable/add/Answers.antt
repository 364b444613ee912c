use Rattle.std.proofs.Common.{◌≡◌, [], ◌∷◌, ◌++◌, ◌∙◌, ap, subst}
use Rattle.std.specs.List.{Contains}
use Rattle.b2_paths.proofs.PathsKeepTheirPlaces.{put_last, last_place}
use Rattle.b2_paths.proofs.path_table.PathTable.add.Goals as goal

-- the path is put at the end of the table's paths
put : (c : goal.In_ok-_added) → c.insert.new.self.keys ≡ c.self.inside.paths.keys ++ c.args.path.now ∷ []
put c =
    put_last c.self.inside.paths.keys c.insert.new.self.keys c.args.path.now c.in_ok-copy_of.field-0 c.in_ok-_added.ensures.keys c.in_ok-copy_of.ensures
    (λ among. c.requires (subst (λ ps. Contains ps c.args.path.now) c.self.view_is among))

pub returns-clause-place : goal.returns-clause-place
returns-clause-place c = last_place c.self.inside.paths.keys c.insert.new.self.keys c.args.path.now c.len-place.result (put c) c.len-place.ensures.len

pub returns-clause-ok : goal.returns-clause-ok
returns-clause-ok c = put c ∙ ap (λ ps. ps ++ c.args.path.now ∷ []) c.self.view_is
