use Rattle.std.proofs.Common.{sym, ◌∙◌, ap, subst}
use Rattle.std.specs.Str.{bytes_eq}
use Rattle.std.specs.List.{Contains, list_any, position}
use Rattle.std.specs.Option.{MatchOption}
use Rattle.b2_paths.specs.PathTables.{IsPlaceOf}
use Rattle.b2_paths.proofs.PathsKeepTheirPlaces.{found_place, none_listed}
use Rattle.b2_paths.proofs.path_table.PathTable.find.Goals as goal

pub returns-in_err-place : goal.returns-in_err-place
returns-in_err-place c =
    let none = ap (λ path. list_any (bytes_eq path) c.self.inside.paths.keys) (sym c.as_str.ensures.value) ∙ sym c.in_err-place.ensures.found in
    subst (λ r. MatchOption r (Contains c.args.self.now c.args.path.now → ⊥) (IsPlaceOf c.args.self.now c.args.path.now)) (sym c.from_residual.ensures)
    (subst (λ ps. Contains ps c.args.path.now → ⊥) c.self.view_is (none_listed c.self.inside.paths.keys c.args.path.now none))

pub returns : goal.returns
returns c =
    let found = ap (λ path. position (bytes_eq path) c.self.inside.paths.keys) (sym c.as_str.ensures.value) ∙ sym c.in_ok-place.ensures.index in
    subst (λ ps. IsPlaceOf ps c.args.path.now c.in_ok-place.place) c.self.view_is (found_place c.self.inside.paths.keys c.args.path.now c.in_ok-place.place found)
