-- A walk comes to one end.
use Rattle.std.proofs.Common.{◌≡◌, List, Some, None, refl, sym, ◌∙◌, subst}
use Rattle.std.proofs.lemmas.Option.{same_Some}
use Rattle.jam_journal.specs.Tables.{Text}
use Rattle.jam_meaning.specs.Settings.{Setting}
use Rattle.jam_natives.specs.Keeping.{Kept}
use Rattle.b2_project_walk.specs.Walks.{Course, load_dir, ComesTo, is_refused, is_whole, leads_on}

pub one_course : (setting : Setting Kept) (words : List Text) (from last other : Course) → ComesTo setting words from last → ComesTo setting words from other → last ≡ other
one_course setting words _ _ _ (is_refused why s) (is_refused _ _) = refl
one_course setting words _ _ _ (is_whole w none) (is_whole _ again) = refl
one_course setting words _ _ other (is_whole w none) (leads_on _ dir _ is h) = let e : None ≡ Some dir = sym none ∙ is in cc
one_course setting words _ last _ (leads_on w dir _ is h) (is_whole _ none) = let e : None ≡ Some dir = sym none ∙ is in cc
one_course setting words _ last other (leads_on w dir _ is h) (leads_on _ next _ also g) =
    one_course setting words (load_dir setting dir w) last other h (subst (λ d. ComesTo setting words (load_dir setting d w) other) (same_Some next dir (sym also ∙ is)) g)
