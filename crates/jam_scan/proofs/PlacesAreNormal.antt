-- The places of an include: beside the file, in the directories, or at a path from the root.
use Rattle.std.proofs.Common.{◌≡◌, ℕ, eqb, cond, Bool, true, false, List, [], ◌∷◌, ◌++◌, map, get_or, All, ap, ◌∙◌, codes}
use Rattle.std.specs.List.{list_any, before_last}
use Rattle.std.proofs.lemmas.List.Elements.{All-cons, All-nil, All-map}
use Rattle.b2_base.specs.Bytes.{Lacks}
use Rattle.b2_base.specs.Normal.{IsNormal}
use Rattle.b2_base.specs.Segments.{normal_of, is_rooted}
use Rattle.b2_base.proofs.NamesAreCutAtLastSigns.{has_not, has_at, before_last_at}
use Rattle.b2_base.proofs.NormalMakesNormalForms.{is_normal_normal}
use Rattle.jam_scan.specs.Places.{in_dir, beside, places}
use Rattle.jam_scan.specs.Laws.{PlacesAreNormal}

-- ---- beside a file

pub beside_whole : (file name : List ℕ) → Lacks 47 file → beside file name ≡ normal_of name
unfolding beside
beside_whole file name lacks = ap (λ b. cond b (in_dir name (before_last (λ byte. eqb byte 47) file)) (normal_of name)) (has_not 47 file lacks)

pub beside_in : (file dir last name : List ℕ) → file ≡ dir ++ 47 ∷ last → Lacks 47 last → beside file name ≡ in_dir name dir
unfolding beside
beside_in file dir last name is lacks =
    ap (λ f. cond (list_any (λ byte. eqb byte 47) f) (in_dir name (before_last (λ byte. eqb byte 47) f)) (normal_of name)) is
    ∙ ap (λ b. cond b (in_dir name (before_last (λ byte. eqb byte 47) (dir ++ 47 ∷ last))) (normal_of name)) (has_at 47 dir last)
    ∙ ap (in_dir name) (before_last_at 47 dir last lacks)

-- ---- in normal form

in_dir_normal : (name dir : List ℕ) → IsNormal (in_dir name dir)
in_dir_normal name dir = is_normal_normal (dir ++ codes "/" ++ name)

all_in_dirs : (name : List ℕ) (dirs : List (List ℕ)) → All IsNormal (map (in_dir name) dirs)
all_in_dirs name dirs = All-map IsNormal (in_dir name) dirs (λ k d l. in_dir_normal name (get_or dirs k d))

beside_normal : (file name : List ℕ) → IsNormal (beside file name)
unfolding beside
beside_normal file name = go (list_any (λ byte. eqb byte 47) file)
  where
    go : (b : Bool) → IsNormal (cond b (in_dir name (before_last (λ byte. eqb byte 47) file)) (normal_of name))
    go true = in_dir_normal name (before_last (λ byte. eqb byte 47) file)
    go false = is_normal_normal name

pub places_are_normal : PlacesAreNormal
unfolding places
places_are_normal dirs file (name, quoted) = go (is_rooted name) quoted
  where
    go : (rooted quoted : Bool) → All IsNormal (cond rooted (normal_of name ∷ []) (cond quoted (beside file name ∷ map (in_dir name) dirs) (map (in_dir name) dirs)))
    go true quoted = All-cons IsNormal (normal_of name) [] (is_normal_normal name) (All-nil IsNormal)
    go false true = All-cons IsNormal (beside file name) (map (in_dir name) dirs) (beside_normal file name) (all_in_dirs name dirs)
    go false false = all_in_dirs name dirs
