-- What stands at the places of two lists.
use Rattle.std.proofs.Common.{◌≡◌, ℕ, zero, suc, ◌<◌, List, [], ◌∷◌, length, Some, get_or, slice_get, refl, subst, ap, arith}
use Rattle.std.specs.List.{Contains, AllZip}
use Rattle.std.proofs.lemmas.Option.{slice_get-get_or}
use Rattle.b2_facts.proofs.ListsAtPlaces.{some_is, none_some, among_at}

pub index_at : (ns : List ℕ) (k : ℕ) → k < length ns → slice_get ns k ≡ Some (get_or ns k 0)
index_at ns k within = slice_get-get_or ns k 0 within

pub index_among : (ns : List ℕ) (k : ℕ) → k < length ns → Contains ns (get_or ns k 0)
index_among ns k within = among_at ns k (get_or ns k 0) (index_at ns k within)

-- ---- two lists, place by place

pub zip_forth : {X Y : Type 0} (R : X → Y → Type 0) (xs : List X) (ys : List Y) (k : ℕ) (x : X) → AllZip R xs ys → slice_get xs k ≡ Some x → (y : Y) × (slice_get ys k ≡ Some y) × R x y
zip_forth R [] ys k x zip e = absurd (none_some x e)
zip_forth R (z ∷ xs) [] k x zip e = absurd zip
zip_forth R (z ∷ xs) (y ∷ ys) zero x zip e = (y, refl, subst (λ v. R v y) (some_is z x e) zip.0)
zip_forth R (z ∷ xs) (y ∷ ys) (suc k) x zip e = zip_forth R xs ys k x zip.1 e

pub zip_back : {X Y : Type 0} (R : X → Y → Type 0) (xs : List X) (ys : List Y) (k : ℕ) (y : Y) → AllZip R xs ys → slice_get ys k ≡ Some y → (x : X) × (slice_get xs k ≡ Some x) × R x y
zip_back R xs [] k y zip e = absurd (none_some y e)
zip_back R [] (z ∷ ys) k y zip e = absurd zip
zip_back R (x ∷ xs) (z ∷ ys) zero y zip e = (x, refl, subst (R x) (some_is z y e) zip.0)
zip_back R (x ∷ xs) (z ∷ ys) (suc k) y zip e = zip_back R xs ys k y zip.1 e

pub zip_count : {X Y : Type 0} (R : X → Y → Type 0) (xs : List X) (ys : List Y) → AllZip R xs ys → length xs ≡ length ys
zip_count R [] [] zip = refl
zip_count R [] (y ∷ ys) zip = absurd zip
zip_count R (x ∷ xs) [] zip = absurd zip
zip_count R (x ∷ xs) (y ∷ ys) zip = ap suc (zip_count R xs ys zip.1)

pub zip_made : {X Y : Type 0} (R : X → Y → Type 0) (xs : List X) (ys : List Y) → length xs ≡ length ys → ((k : ℕ) (x : X) (y : Y) → slice_get xs k ≡ Some x → slice_get ys k ≡ Some y → R x y) → AllZip R xs ys
zip_made R [] [] count each = tt
zip_made R [] (y ∷ ys) count each = absurd (omega (arith, count))
zip_made R (x ∷ xs) [] count each = absurd (omega (arith, count))
zip_made R (x ∷ xs) (y ∷ ys) count each = (each 0 x y refl refl, zip_made R xs ys (omega (arith, count)) (λ k one other e f. each (suc k) one other e f))
