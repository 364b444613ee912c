-- Entries of which all paths are known stay so in a map that knows more, and are made known one by one.
use Rattle.std.proofs.Common.{◌≡◌, ℕ, ◌+◌, ◌<◌, Bool, true, false, ◌&&◌, List, ◌∷◌, [], length, take, get_or, refl, ap, ◌∙◌}
use Rattle.std.proofs.lemmas.List.{take_more}
use Rattle.std.proofs.lemmas.List.Folds.{list_all-append}
use Rattle.b2_files.specs.declared.file_bytes.FileBytes.{FileBytes}
use Rattle.b2_files.specs.Stores.{PlaceMap, is_known, all_known}

pub both : (a b : Bool) → (a && b) ≡ true → (a ≡ true) × (b ≡ true)
both true b h = (refl, h)
both false b h = cc

pub and_true : (a b : Bool) → a ≡ true → b ≡ true → (a && b) ≡ true
and_true true b h k = k
and_true false b h k = cc

-- what is known stays known
abbrev pub Stays : PlaceMap → PlaceMap → Type 0
Stays m n = (q : List ℕ) → is_known m q ≡ true → is_known n q ≡ true

pub known_stays : (m n : PlaceMap) (xs : List FileBytes) → Stays m n → all_known m xs ≡ true → all_known n xs ≡ true
known_stays m n [] h k = refl
known_stays m n (x ∷ xs) h k =
    let parts : (is_known m x.path ≡ true) × (all_known m xs ≡ true) = both (is_known m x.path) (all_known m xs) k in
    and_true (is_known n x.path) (all_known n xs) (h x.path parts.0) (known_stays m n xs h parts.1)

-- one more that is known
pub known_more : (m n : PlaceMap) (xs : List FileBytes) (i : ℕ) (d : FileBytes) → i < length xs → Stays m n → all_known m (take i xs) ≡ true → is_known n (get_or xs i d).path ≡ true → all_known n (take (i + 1) xs) ≡ true
known_more m n xs i d low h k e =
    ap (all_known n) (take_more xs i d low)
    ∙ list_all-append (λ x. is_known n x.path) (take i xs) (get_or xs i d ∷ [])
    ∙ and_true (all_known n (take i xs)) (all_known n (get_or xs i d ∷ [])) (known_stays m n (take i xs) h k) (and_true (is_known n (get_or xs i d).path) true e refl)
