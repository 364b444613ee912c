use Rattle.std.proofs.Common.{◌≡◌, ◌++◌, ◌∷◌, [], List, ℕ, ap, ◌∙◌, OnOk}
use Rattle.b2_base.specs.Segments.{normal_of, path_from, file_name}
use Rattle.jam_path.specs.Names.{dir_of}
use Rattle.jam_natives.proofs.SearchesFindNameByName.{same_found}
use Rattle.jam_natives.proofs.glob.add_globbed.Goals as goal

pub returns-clause-found : goal.returns-clause-found
returns-clause-found g c =
    same_found (g.F.Files.outside c.args.files.now).disk c.args.roots.now c.args.excluded.now c.from_ref.result.now (file_name c.args.pattern.now ∷ []) c.in_ok-placed.placed.listed
    (path_from c.args.place.now (dir_of c.args.pattern.now)) c.in_ok-placed.placed.shown (normal_of (dir_of c.args.pattern.now)) (λ (l : List (List ℕ)). OnOk c.add_found.result (c.add_found.new.found ≡ c.args.found.now ++ l))
    (c.from_ref.ensures.value ∙ ap (λ name. name ∷ []) c.in_ok-placed.ensures.names) c.in_ok-placed.ensures.listed c.in_ok-placed.ensures.shown c.add_found.ensures.found
