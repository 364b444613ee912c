use Rattle.std.proofs.Common.{◌≡◌, IfOk, List, ℕ, ◌∙◌, ap, sym, subst}
use Rattle.b2_base.specs.Segments.{normal_of, path_from}
use Rattle.b2_references.proofs.FilesOfTheFolderStayAsTheyAre.{from_folder}
use Rattle.b2_references.proofs.references.file_in.Goals as goal

pub returns-in-text : goal.returns-in-text
returns-in-text c =
    let text : List ℕ = c.args.text.now in
    let dir = sym c.as_str.ensures.value ∙ c.in-text.is in
    let whole = ap (λ (d : List ℕ). path_from d text) dir ∙ from_folder text ∙ ap normal_of (sym c.as_str-in-text.ensures.value) in
    subst (λ (t : List ℕ). IfOk c.path_of.result (λ made. made ≡ t)) (sym whole) c.path_of.ensures
