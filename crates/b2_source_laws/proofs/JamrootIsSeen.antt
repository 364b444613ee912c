-- Jamroot lies below no output root.
use Rattle.std.proofs.Common.{◌≡◌, false, List, [], ◌∷◌, ◌++◌, codes, refl, sym, ◌∙◌}
use Rattle.std.proofs.lemmas.Bool.{false≢true, or_from}
use Rattle.std.proofs.lemmas.Slice.Eq.{bytes_eq-Decides}
use Rattle.b2_base.specs.Segments.{is_rooted}
use Rattle.b2_base.specs.Normal.{parts, IsUnder}
use Rattle.b2_base.specs.Below.{is_below}
use Rattle.b2_base.proofs.BeginningTellsWhatIsUnder.{one_text}
use Rattle.b2_base.proofs.NormalMakesNormalForms.{is_normal_normal}
use Rattle.b2_base.proofs.TestTellsWhatIsBelow.{below_is}
use Rattle.jam_journal.specs.Tables.{Text}
use Rattle.jam_source_laws.specs.Sources.{is_hidden, IsRoot, AreRoots}

-- what begins a list of one element and is not all of it is nothing
nothing : (xs : List Text) (next only : Text) (more : List Text) → only ∷ [] ≡ xs ++ next ∷ more → xs ≡ []
nothing [] next only more e = refl
nothing (x ∷ []) next only more e = cc
nothing (x ∷ y ∷ xs) next only more e = cc

module _ (path : Text) (relative : is_rooted path ≡ false) (alone : parts path ≡ path ∷ []) where
  not_under : (root : Text) → IsRoot root → IsUnder path root → ⊥
  not_under root is under =
      let none : parts root ≡ [] = nothing (parts root) under.next path under.more (sym alone ∙ under.goes_on) in
      let folder : root ≡ codes "." = one_text root (codes ".") is.normal (is_normal_normal (codes ".")) (sym under.rooted ∙ relative) none in
      false≢true (sym is.not_here ∙ (bytes_eq-Decides root (codes ".")).1 folder)

  not_below : (root : Text) → IsRoot root → is_below path root ≡ false
  not_below root is = sym (below_is false path root ((λ yes. absurd (false≢true yes)), (λ under. absurd (not_under root is under))))

  not_hidden : (roots : List Text) → AreRoots roots → is_hidden roots path ≡ false
  not_hidden [] are = refl
  not_hidden (root ∷ roots) are = or_from (is_below path root) (is_hidden roots path) (not_below root are.0) (not_hidden roots are.1)

pub root_seen : (roots : List Text) → AreRoots roots → (is_hidden roots (codes "Jamroot") ≡ false) × (is_hidden roots (codes "Jamroot.jam") ≡ false)
root_seen roots are = (not_hidden (codes "Jamroot") refl refl roots are, not_hidden (codes "Jamroot.jam") refl refl roots are)
