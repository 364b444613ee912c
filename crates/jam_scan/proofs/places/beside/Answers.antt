use Rattle.std.proofs.Common.{◌≡◌, Some, None, lit<, sym, ap, ◌∙◌}
use Rattle.std.proofs.lemmas.Result.{IfOk-weaker}
use Rattle.b2_base.specs.Segments.{normal_of}
use Rattle.b2_base.proofs.NamesAreCutAtLastSigns.{rsplit_parts}
use Rattle.jam_scan.specs.Places.{in_dir, beside}
use Rattle.jam_scan.proofs.PlacesAreNormal.{beside_whole, beside_in}
use Rattle.jam_scan.proofs.places.beside.Goals as goal

pub returns-in-None : goal.returns-in-None
returns-in-None c =
    let lacks = rsplit_parts 47 c.as_str.result.now None c.in-None.ensures.cases (lit< tt) in
    IfOk-weaker c.path_of.result (λ path. path ≡ normal_of c.args.name.now) (λ path. path ≡ beside c.args.file.now c.args.name.now)
    (λ path is. is ∙ sym (beside_whole c.as_str.result.now c.args.name.now lacks) ∙ ap (λ f. beside f c.args.name.now) c.as_str.ensures.value) c.path_of.ensures

pub returns-in-Some : goal.returns-in-Some
returns-in-Some c =
    let p = rsplit_parts 47 c.as_str.result.now (Some (c.in-Some.dir, c.in-Some._file)) c.in-Some.ensures.cases (lit< tt) in
    IfOk-weaker c.joined_path.result (λ path. path ≡ in_dir c.args.name.now c.in-Some.dir.now) (λ path. path ≡ beside c.args.file.now c.args.name.now)
    (λ path is. is ∙ sym (beside_in c.as_str.result.now c.in-Some.dir.now c.in-Some._file.now c.args.name.now p.0 p.1) ∙ ap (λ f. beside f c.args.name.now) c.as_str.ensures.value) c.joined_path.ensures
