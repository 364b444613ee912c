-- A further beginning of a list of segments, for the loop over the way to a directory; names of modules have no zero.
use Rattle.std.proofs.Common.{◌≡◌, ℕ, zero, suc, ◌+◌, ◌<◌, List, [], ◌∷◌, ◌++◌, length, take, codes, lit<, refl, sym, ap, ◌∙◌, subst, arith}
use Rattle.std.specs.Prelude.{map as each}
use Rattle.std.proofs.lemmas.List.{map-append}
use Rattle.std.proofs.lemmas.List.Elements.{All-append, All-from_recursion}
use Rattle.b2_base.specs.Bytes.{HasNoZero}
use Rattle.jam_journal.specs.Tables.{Text}
use Rattle.b2_project_walk.specs.Directories.{beginnings, path_of}

more_by : (xs : List Text) (k : ℕ) → k < length xs → beginnings (take (suc k) xs) ≡ beginnings (take k xs) ++ take (suc k) xs ∷ []
more_by [] k h = absurd (omega (arith, h))
more_by (x ∷ xs) zero h = refl
more_by (x ∷ xs) (suc k) h =
    ap (λ bs. (x ∷ []) ∷ each (λ rest. x ∷ rest) bs) (more_by xs k (omega (arith, h)))
    ∙ ap (λ bs. (x ∷ []) ∷ bs) (map-append (λ rest. x ∷ rest) (beginnings (take k xs)) (take (suc k) xs ∷ []))

-- one segment more, and one path more
pub paths_more : (xs : List Text) (k : ℕ) (paths : List Text) → k < length xs → paths ≡ each path_of (beginnings (take k xs))
    → paths ++ path_of (take (k + 1) xs) ∷ [] ≡ each path_of (beginnings (take (k + 1) xs))
paths_more xs k paths h is =
    subst (λ n. paths ++ path_of (take n xs) ∷ [] ≡ each path_of (beginnings (take n xs))) (let e : suc k ≡ k + 1 = omega arith in e)
    (ap (λ ps. ps ++ path_of (take (suc k) xs) ∷ []) is ∙ sym (ap (each path_of) (more_by xs k h) ∙ map-append path_of (beginnings (take k xs)) (take (suc k) xs ∷ [])))

-- the name of a module has no zero byte
pub clean_name : (dir : List ℕ) → HasNoZero dir → HasNoZero (codes "Jamfile<" ++ (dir ++ codes ">"))
clean_name dir clean =
    All-append (λ byte. 0 < byte) (codes "Jamfile<") (dir ++ codes ">")
    (All-from_recursion (λ byte. 0 < byte) (codes "Jamfile<") (lit< tt, (lit< tt, (lit< tt, (lit< tt, (lit< tt, (lit< tt, (lit< tt, (lit< tt, tt)))))))))
    (All-append (λ byte. 0 < byte) dir (codes ">") clean (All-from_recursion (λ byte. 0 < byte) (codes ">") (lit< tt, tt)))
