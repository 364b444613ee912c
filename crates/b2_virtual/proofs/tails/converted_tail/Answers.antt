use Rattle.std.proofs.Common.{◌≡◌, ◌∙◌, ◌++◌, ◌∷◌, List, ℕ, Some, None, IfOk, ap, ap₂, sym, subst, append_assoc, lit<}
use Rattle.std.specs.Prelude.{codes}
use Rattle.std.specs.Option.{option_copied}
use Rattle.b2_base.specs.Bytes.{HasNoZero}
use Rattle.b2_base.specs.Segments.{normal_of, file_name, without_suffix}
use Rattle.b2_virtual.specs.Paths.{folder_of, dotted}
use Rattle.b2_virtual.proofs.PiecesBringNoZero.{clean_both, clean_slash, clean_parts, clean_stem, clean_dotted}
use Rattle.b2_base.proofs.NamesAreCutAtLastSigns.{rsplit_parts, file_name_at, file_name_whole}
use Rattle.b2_virtual.proofs.FolderEndsAtLastSlash.{folder_at, folder_none}
use Rattle.b2_virtual.proofs.tails.converted_tail.Goals as goal

pub returns-in_ok-name-in-None : goal.returns-in_ok-name-in-None
returns-in_ok-name-in-None c =
    let text : List ℕ = c.as_str-text.result.now in
    let suffix : List ℕ = dotted (option_copied c.args.suffix) in
    let lacks = rsplit_parts 47 text None c.in-None.ensures.cases (lit< tt) in
    let whole : c.as_str.result.now ≡ (folder_of c.args.tail.now ++ without_suffix (file_name c.args.tail.now)) ++ suffix =
    c.as_str.ensures.value ∙ c.in_ok-name-in-None.ensures
    ∙ sym (ap₂ (λ (a b : List ℕ). (a ++ without_suffix b) ++ suffix) (folder_none text lacks) (file_name_whole text lacks))
    ∙ ap (λ (t : List ℕ). (folder_of t ++ without_suffix (file_name t)) ++ suffix) c.as_str-text.ensures.value in
    subst (λ (t : List ℕ). IfOk c.path_of.result (λ made. made ≡ normal_of t)) whole c.path_of.ensures

pub returns-in_ok-text-in-Some : goal.returns-in_ok-text-in-Some
returns-in_ok-text-in-Some c =
    let text : List ℕ = c.as_str-text.result.now in
    let folder : List ℕ = c.in-Some.folder.now in
    let name : List ℕ = c.in-Some.name.now in
    let suffix : List ℕ = dotted (option_copied c.args.suffix) in
    let p = rsplit_parts 47 text (Some (c.in-Some.folder, c.in-Some.name)) c.in-Some.ensures.cases (lit< tt) in
    let whole : c.as_str-in-Some.result.now ≡ (folder_of c.args.tail.now ++ without_suffix (file_name c.args.tail.now)) ++ suffix =
    c.as_str-in-Some.ensures.value ∙ c.in_ok-text-in-Some.ensures.ok
    ∙ ap (λ (n : List ℕ). folder ++ (codes "/" ++ n)) c.in_ok-name-in-Some.ensures
    ∙ sym (append_assoc folder (codes "/") (without_suffix name ++ suffix))
    ∙ sym (append_assoc (folder ++ codes "/") (without_suffix name) suffix)
    ∙ sym (ap₂ (λ (a b : List ℕ). (a ++ without_suffix b) ++ suffix) (folder_at text folder name p.0 p.1) (file_name_at text folder name p.0 p.1))
    ∙ ap (λ (t : List ℕ). (folder_of t ++ without_suffix (file_name t)) ++ suffix) c.as_str-text.ensures.value in
    subst (λ (t : List ℕ). IfOk c.path_of-in-Some.result (λ made. made ≡ normal_of t)) whole c.path_of-in-Some.ensures

pub path_of-requires-in-Some : goal.path_of-requires-in-Some
path_of-requires-in-Some c =
    let text : List ℕ = c.as_str-text.result.now in
    let folder : List ℕ = c.in-Some.folder.now in
    let name : List ℕ = c.in-Some.name.now in
    let suffix : List ℕ = dotted (option_copied c.args.suffix) in
    let p = rsplit_parts 47 text (Some (c.in-Some.folder, c.in-Some.name)) c.in-Some.ensures.cases (lit< tt) in
    let parts : HasNoZero folder × HasNoZero (47 ∷ name) = clean_parts folder (47 ∷ name) (subst HasNoZero (sym c.as_str-text.ensures.value ∙ p.0) c.as_str-text.ensures.no_zero) in
    let tail : HasNoZero (without_suffix name ++ suffix) =
    clean_both (without_suffix name) suffix (clean_stem name (clean_parts (codes "/") name parts.1).1) (clean_dotted (option_copied c.args.suffix) c.requires) in
    subst HasNoZero (sym (c.as_str-in-Some.ensures.value ∙ c.in_ok-text-in-Some.ensures.ok ∙ ap (λ (n : List ℕ). folder ++ (codes "/" ++ n)) c.in_ok-name-in-Some.ensures))
    (clean_both folder (codes "/" ++ (without_suffix name ++ suffix)) parts.0 (clean_both (codes "/") (without_suffix name ++ suffix) clean_slash tail))
