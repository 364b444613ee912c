use Rattle.std.proofs.Common.{◌≡◌, ◌∙◌, List, ℕ, Some, None, IfOk, lit<, ap, sym, subst}
use Rattle.b2_base.specs.Segments.{normal_of}
use Rattle.b2_virtual.specs.Paths.{folder_of}
use Rattle.b2_base.proofs.NamesAreCutAtLastSigns.{rsplit_parts}
use Rattle.b2_virtual.proofs.FolderEndsAtLastSlash.{folder_at, folder_none}
use Rattle.b2_virtual.proofs.directory.directory_of.Goals as goal

pub returns-in-None : goal.returns-in-None
returns-in-None c =
    let text : List ℕ = c.as_str-text.result.now in
    subst (λ (t : List ℕ). IfOk c.path_of.result (λ dir. dir ≡ normal_of t)) (sym (folder_none text (rsplit_parts 47 text None c.in-None.ensures.cases (lit< tt))) ∙ ap folder_of c.as_str-text.ensures.value) c.path_of.ensures

pub returns-in_ok-folder-in-Some : goal.returns-in_ok-folder-in-Some
returns-in_ok-folder-in-Some c =
    let text : List ℕ = c.as_str-text.result.now in
    let p = rsplit_parts 47 text (Some (c.in-Some.folder, c.in-Some._name)) c.in-Some.ensures.cases (lit< tt) in
    let whole : c.as_str.result.now ≡ folder_of c.args.path.now =
    c.as_str.ensures.value ∙ c.in_ok-folder-in-Some.ensures.ok ∙ sym (folder_at text c.in-Some.folder.now c.in-Some._name.now p.0 p.1) ∙ ap folder_of c.as_str-text.ensures.value in
    subst (λ (t : List ℕ). IfOk c.path_of-in-Some.result (λ dir. dir ≡ normal_of t)) whole c.path_of-in-Some.ensures
