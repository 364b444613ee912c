-- A list of texts is read one by one: each that reads adds its value, and the first that does not settles the outcome.
use Rattle.std.proofs.Common.{◌≡◌, ℕ, suc, ◌+◌, ◌<◌, List, [], ◌∷◌, ◌++◌, Option, Some, None, Ok, Err, map, take, drop, get_or, length, refl, sym, ◌∙◌, ap, take-append-drop, drop-cons}
use Rattle.std.specs.Prelude.{Result}
use Rattle.std.specs.Option.{option_map, option_and_then}
use Rattle.std.proofs.lemmas.List.{map-append}
use Rattle.b2_features.specs.declared.fault.FeatureFault.{FeatureFault}
use Rattle.b2_features.specs.declared.fault.FeatureFault.TheVariants.{Twice, Unknown, BadValue, ComposeConflict, OutOfMemory}
use Rattle.b2_features.specs.Table.{DeclaredFeature}
use Rattle.b2_props.specs.Sets.{Pair}
use Rattle.b2_props.proofs.DraftHoldsEachGainedPair.{next_take}
use Rattle.b2_props.proofs.FirstFaultIsTheCause.{map_next}
use Rattle.b2_property_texts.specs.Readings.{property_of, all_of, read_before, all_read, IsFaultOf}

-- a list around one of its elements
pub around : {X : Type 0} (xs : List X) (i : ℕ) (x : X) → i < length xs → x ≡ get_or xs i x → xs ≡ take i xs ++ x ∷ drop (suc i) xs
around xs i x within is = sym (take-append-drop i xs) ∙ ap (λ ys. take i xs ++ ys) (drop-cons xs i x within ∙ ap (λ y. y ∷ drop (suc i) xs) (sym is))

-- ---- lists of readings

-- one more that was read
read_push : {X : Type 0} (rs : List (Result X FeatureFault)) (xs : List X) (x : X) → all_read rs ≡ Ok xs → all_read (rs ++ Ok x ∷ []) ≡ Ok (xs ++ x ∷ [])
read_push {X = X} [] xs x e = let same : [] ≡ xs = cc in ap (λ ys. Ok (ys ++ x ∷ [])) same
read_push {X = X} (Ok y ∷ rs) xs x e = go (all_read rs) refl e (λ ys. read_push rs ys x)
  where
    go : (r : Result (List X) FeatureFault) → all_read rs ≡ r → read_before y r ≡ Ok xs → ((ys : List X) → all_read rs ≡ Ok ys → all_read (rs ++ Ok x ∷ []) ≡ Ok (ys ++ x ∷ [])) → read_before y (all_read (rs ++ Ok x ∷ [])) ≡ Ok (xs ++ x ∷ [])
    go (Ok ys) is e more = let same : y ∷ ys ≡ xs = cc in ap (read_before y) (more ys is) ∙ ap (λ zs. Ok (zs ++ x ∷ [])) same
    go (Err f) is e more = cc
read_push {X = X} (Err f ∷ rs) xs x e = cc

-- one that was not read, after all that were
read_stop : {X : Type 0} (rs : List (Result X FeatureFault)) (xs : List X) (f : FeatureFault) (more : List (Result X FeatureFault)) → all_read rs ≡ Ok xs → all_read (rs ++ Err f ∷ more) ≡ Err f
read_stop {X = X} [] xs f more e = refl
read_stop {X = X} (Ok y ∷ rs) xs f more e = go (all_read rs) refl e (λ ys. read_stop rs ys f more)
  where
    go : (r : Result (List X) FeatureFault) → all_read rs ≡ r → read_before y r ≡ Ok xs → ((ys : List X) → all_read rs ≡ Ok ys → all_read (rs ++ Err f ∷ more) ≡ Err f) → read_before y (all_read (rs ++ Err f ∷ more)) ≡ Err f
    go (Ok ys) is e stop = ap (read_before y) (stop ys is)
    go (Err g) is e stop = cc
read_stop {X = X} (Err g ∷ rs) xs f more e = cc

-- one more text that is read
pub reads_next : {X : Type 0} (reading : List ℕ → Result X FeatureFault) (texts : List (List ℕ)) (i : ℕ) (text : List ℕ) (xs : List X) (x : X) → i < length texts → text ≡ get_or texts i text → all_read (map reading (take i texts)) ≡ Ok xs → reading text ≡ Ok x → all_read (map reading (take (i + 1) texts)) ≡ Ok (xs ++ x ∷ [])
reads_next reading texts i text xs x within is so_far read =
    ap all_read (map_next reading texts i text within is ∙ ap (λ r. map reading (take i texts) ++ r ∷ []) read) ∙ read_push (map reading (take i texts)) xs x so_far

-- the first text that is not read
pub reads_stop : {X : Type 0} (reading : List ℕ → Result X FeatureFault) (texts : List (List ℕ)) (i : ℕ) (text : List ℕ) (xs : List X) (f : FeatureFault) → i < length texts → text ≡ get_or texts i text → all_read (map reading (take i texts)) ≡ Ok xs → IsFaultOf (reading text) f → IsFaultOf (all_read (map reading texts)) f
reads_stop reading texts i text xs f within is so_far fault = by f fault
  where
    whole : map reading texts ≡ map reading (take i texts) ++ reading text ∷ map reading (drop (suc i) texts)
    whole = ap (map reading) (around texts i text within is) ∙ map-append reading (take i texts) (text ∷ drop (suc i) texts)

    stops : (g : FeatureFault) → reading text ≡ Err g → all_read (map reading texts) ≡ Err g
    stops g e = ap all_read (whole ∙ ap (λ r. map reading (take i texts) ++ r ∷ map reading (drop (suc i) texts)) e) ∙ read_stop (map reading (take i texts)) xs g (map reading (drop (suc i) texts)) so_far

    by : (g : FeatureFault) → IsFaultOf (reading text) g → IsFaultOf (all_read (map reading texts)) g
    by (Twice word) e = stops (Twice word) e
    by (Unknown word) e = stops (Unknown word) e
    by (BadValue word) e = stops (BadValue word) e
    by (ComposeConflict word) e = stops (ComposeConflict word) e
    by OutOfMemory e = tt

-- ---- lists of properties

module _ (table : List DeclaredFeature) (dir : List ℕ) where
  all_push : (ts : List (List ℕ)) (t : List ℕ) (ps : List Pair) (p : Pair) → all_of table dir ts ≡ Some ps → property_of table dir t ≡ Some p → all_of table dir (ts ++ t ∷ []) ≡ Some (ps ++ p ∷ [])
  all_push [] t ps p e read = let same : [] ≡ ps = cc in ap (option_and_then (λ q. option_map (λ qs. q ∷ qs) (Some []))) read ∙ ap (λ qs. Some (qs ++ p ∷ [])) same
  all_push (s ∷ ts) t ps p e read = go (property_of table dir s) (all_of table dir ts) refl e (λ qs have. all_push ts t qs p have read)
    where
      go : (o : Option Pair) (r : Option (List Pair)) → all_of table dir ts ≡ r → option_and_then (λ q. option_map (λ qs. q ∷ qs) r) o ≡ Some ps → ((qs : List Pair) → all_of table dir ts ≡ Some qs → all_of table dir (ts ++ t ∷ []) ≡ Some (qs ++ p ∷ [])) → option_and_then (λ q. option_map (λ qs. q ∷ qs) (all_of table dir (ts ++ t ∷ []))) o ≡ Some (ps ++ p ∷ [])
      go None r is e more = cc
      go (Some q) None is e more = cc
      go (Some q) (Some qs) is e more = let same : q ∷ qs ≡ ps = cc in ap (option_map (λ xs. q ∷ xs)) (more qs is) ∙ ap (λ xs. Some (xs ++ p ∷ [])) same

  all_stop : (ts : List (List ℕ)) (t : List ℕ) (more : List (List ℕ)) → property_of table dir t ≡ None → all_of table dir (ts ++ t ∷ more) ≡ None
  all_stop [] t more none = ap (option_and_then (λ q. option_map (λ qs. q ∷ qs) (all_of table dir more))) none
  all_stop (s ∷ ts) t more none = ap (λ r. option_and_then (λ q. option_map (λ qs. q ∷ qs) r) (property_of table dir s)) (all_stop ts t more none) ∙ nothing (property_of table dir s)
    where
      nothing : (o : Option Pair) → option_and_then (λ q. option_map (λ qs. q ∷ qs) None) o ≡ None
      nothing None = refl
      nothing (Some q) = refl

  pub all_next : (texts : List (List ℕ)) (i : ℕ) (text : List ℕ) (ps : List Pair) (p : Pair) → i < length texts → text ≡ get_or texts i text → all_of table dir (take i texts) ≡ Some ps → property_of table dir text ≡ Some p → all_of table dir (take (i + 1) texts) ≡ Some (ps ++ p ∷ [])
  all_next texts i text ps p within is so_far read = ap (all_of table dir) (next_take texts i text within is) ∙ all_push (take i texts) text ps p so_far read

  pub all_none : (texts : List (List ℕ)) (i : ℕ) (text : List ℕ) → i < length texts → text ≡ get_or texts i text → property_of table dir text ≡ None → all_of table dir texts ≡ None
  all_none texts i text within is none = ap (all_of table dir) (around texts i text within is) ∙ all_stop (take i texts) text (drop (suc i) texts) none
