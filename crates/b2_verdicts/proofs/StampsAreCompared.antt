-- What a record has of some files.
use Rattle.std.proofs.Common.{◌≡◌, inl, inr, ℕ, ◌<◌, true, false, List, [], ◌∷◌, Option, Some, None, is_some, MatchOption, length, get_or, slice_get, refl, sym, ap, subst, ◌∙◌, arith}
use Rattle.std.specs.List.{AllZip}
use Rattle.std.proofs.lemmas.Bool.{true≢false}
use Rattle.std.proofs.lemmas.Option.{slice_get_within}
use Rattle.b2_facts.specs.Facts.{Knowledge, path_at}
use Rattle.b2_facts.proofs.ListsAtPlaces.{some_is, get_some}
use Rattle.b2_verdicts.specs.Stamps.{AreLogged, IsFirstOther}
use Rattle.b2_verdicts.specs.Points.{HavePaths}
use Rattle.b2_verdicts.proofs.ListsAtPlaces.{zip_made}

-- where a record has another path at a place, it has not the paths of the files
pub not_named : (g : Knowledge) (logged : List (List ℕ × ℕ)) (ns : List ℕ) (place : ℕ) → place < length ns → ((one : List ℕ × ℕ) → slice_get logged place ≡ Some one → path_at g (get_or ns place 0) ≡ Some one.0 → ⊥) → HavePaths g logged ns → ⊥
not_named g logged ns place within other have =
    let count = have.count in
    let (one, e) = get_some logged place (omega (arith, count, within)) in
    other one e (have.each place one within e)

-- where a record first has another file, it has not the files
pub not_logged : (g : Knowledge) (logged : List (List ℕ × ℕ)) (ns : List ℕ) (place : ℕ) → IsFirstOther g logged ns place → AreLogged g logged ns → ⊥
not_logged g logged ns place first have =
    let count = have.count in
    let within : place < length ns = elim first.within [ inl less ↦ omega (arith, less, count) | inr less ↦ less ] in
    let (one, e) = get_some logged place (omega (arith, count, within)) in
    first.other one e within (have.each place one within e)

-- ---- what a comparison answers

pub logged_along : (g : Knowledge) (logged xs : List (List ℕ × ℕ)) (ns ms : List ℕ) → logged ≡ xs → ns ≡ ms → AreLogged g logged ns → AreLogged g xs ms
logged_along g logged xs ns ms e l have = subst (λ v. AreLogged g v ms) e (subst (AreLogged g logged) l have)

pub other_found : (g : Knowledge) (logged : List (List ℕ × ℕ)) (ns : List ℕ) (found : Option ℕ) → is_some found ≡ true → MatchOption found (AreLogged g logged ns) (IsFirstOther g logged ns) → AreLogged g logged ns → ⊥
other_found g logged ns None e told have = true≢false (sym e)
other_found g logged ns (Some place) e told have = not_logged g logged ns place told have

pub none_found : (g : Knowledge) (logged : List (List ℕ × ℕ)) (ns : List ℕ) (found : Option ℕ) → is_some found ≡ false → MatchOption found (AreLogged g logged ns) (IsFirstOther g logged ns) → AreLogged g logged ns
none_found g logged ns None e told = told
none_found g logged ns (Some place) e told = absurd (true≢false e)

-- two records that have the same files are alike
pub same_files : (g : Knowledge) (ns : List ℕ) (xs ys : List (List ℕ × ℕ)) → AreLogged g xs ns → AreLogged g ys ns → xs ≡ ys
same_files g ns xs ys a b = alike xs ys (zip_made (λ x y. x ≡ y) xs ys (a.count ∙ sym b.count) each)
  where
    each : (k : ℕ) (x y : List ℕ × ℕ) → slice_get xs k ≡ Some x → slice_get ys k ≡ Some y → x ≡ y
    each k x y e f =
        let low = slice_get_within xs k x e in
        let count = a.count in
        let within : k < length ns = omega (arith, low, count) in
        let (x_path, x_stamp) = a.each k x within e in
        let (y_path, y_stamp) = b.each k y within f in
        ap (λ (p : List ℕ). (p, x.1)) (some_is x.0 y.0 (sym x_path ∙ y_path)) ∙ ap (λ (s : ℕ). (y.0, s)) (some_is x.1 y.1 (sym x_stamp ∙ y_stamp))

    alike : (xs ys : List (List ℕ × ℕ)) → AllZip (λ x y. x ≡ y) xs ys → xs ≡ ys
    alike [] [] zip = refl
    alike [] (y ∷ ys) zip = absurd zip
    alike (x ∷ xs) [] zip = absurd zip
    alike (x ∷ xs) (y ∷ ys) zip = ap (λ v. v ∷ xs) zip.0 ∙ ap (λ v. y ∷ v) (alike xs ys zip.1)
