-- Names that are gathered path by path, from all known paths in order, are those that a directory lists.
use Rattle.std.proofs.Common.{◌≡◌, ℕ, zero, suc, ◌+◌, ◌<◌, ◌≤◌, Bool, true, false, ◌||◌, is_some, List, [], ◌∷◌, ◌++◌, length, take, drop, get_or, Option, None, Some, unwrap_or, option_and_then, Result, Ok, Err, IfOk, inl, inr, add-one, refl, ap, sym, ◌∙◌, subst, arith}
use Rattle.std.specs.Borrow.{Bor}
use Rattle.std.specs.List.{Contains, AllByRecursion, list_any}
use Rattle.std.specs.List.Sorted.{IsStrictlySortedBy}
use Rattle.std.specs.Ordering.{nat_cmp, ordering_then}
use Rattle.std.specs.declared.cmp.Ordering.TheVariants as orders
use Rattle.std.specs.Cmp.{tied_itself}
use Rattle.std.specs.Cmp.Lexicographic.{slice_cmp}
use Rattle.std.specs.FinMap.{get}
use Rattle.std.specs.Str.{bytes_eq}
use Rattle.std.proofs.lemmas.Cmp.{nat_cmp_total}
use Rattle.std.proofs.Math.Seq.{drop-cons}
use Rattle.std.proofs.lemmas.List.{append_cancel_left, take_more, get_or-map, length-map}
use Rattle.b2_base.specs.Segments.{texts}
use Rattle.std.proofs.lemmas.List.Elements.{Contains-append_left, Contains-append_cases}
use Rattle.std.proofs.lemmas.Map.Keys.{Less-from_sorted, sorted_tail}
use Rattle.std.proofs.lemmas.Slice.Eq.{bytes_eq-Decides}
use Rattle.b2_host.specs.Disks.{File, Folder}
use Rattle.b2_host.specs.Listings.{IsDirectlyIn, IsListed}
use Rattle.b2_base.specs.Keys.{AreKeys}
use Rattle.b2_files.specs.Names.{IsNameIn, lead_in, AddsName, Gathered}
use Rattle.b2_files.specs.Stores.{Write, PlaceMap, is_known, file_at, standing}

-- ---- orders and lists

cmp_on : (lead a b : List ℕ) → slice_cmp nat_cmp (lead ++ a) (lead ++ b) ≡ slice_cmp nat_cmp a b
cmp_on [] a b = refl
cmp_on (x ∷ lead) a b = ap (λ o. ordering_then o (slice_cmp nat_cmp (lead ++ a) (lead ++ b))) (tied_itself nat_cmp_total x) ∙ cmp_on lead a b

all_push : {X : Type 0} (P : X → Type 0) (xs : List X) (x : X) → AllByRecursion P xs → P x → AllByRecursion P (xs ++ x ∷ [])
all_push P [] x a p = (p, tt)
all_push P (y ∷ xs) x a p = (a.0, all_push P xs x a.1 p)

first_in : {X : Type 0} (x : X) (xs : List X) → Contains (x ∷ xs) x
first_in x xs = (0, (let h : 0 < suc (length xs) = omega arith in h), refl)

later_in : {X : Type 0} (x : X) (xs : List X) (y : X) → Contains xs y → Contains (x ∷ xs) y
later_in x xs y a = (suc a.0, (let low : a.0 < length xs = a.1 in let h : suc a.0 < suc (length xs) = omega (arith, low) in h), a.2)

sorted_push : (names : List (List ℕ)) (name : List ℕ) → IsStrictlySortedBy (slice_cmp nat_cmp) names → ((n : List ℕ) → Contains names n → slice_cmp nat_cmp n name ≡ orders.Less) → IsStrictlySortedBy (slice_cmp nat_cmp) (names ++ name ∷ [])
unfolding IsStrictlySortedBy
sorted_push [] name s h = (tt, tt)
sorted_push (x ∷ names) name s h = (all_push (λ y. slice_cmp nat_cmp x y ≡ orders.Less) names name s.0 (h x (first_in x names)), sorted_push names name s.1 (λ n a. h n (later_in x names n a)))

above_first : (x : List ℕ) (xs : List (List ℕ)) → IsStrictlySortedBy (slice_cmp nat_cmp) (x ∷ xs) → (y : List ℕ) → Contains xs y → slice_cmp nat_cmp x y ≡ orders.Less
above_first x xs s y a =
    let within : a.0 < length xs = a.1 in
    let low : suc a.0 < suc (length xs) = omega (arith, within) in
    let first : 0 < suc a.0 = omega arith in
    ap (slice_cmp nat_cmp x) (sym a.2) ∙ Less-from_sorted (slice_cmp nat_cmp) (x ∷ xs) 0 (suc a.0) y s first low

only_one : {X : Type 0} (x y : X) → Contains (x ∷ []) y → x ≡ y
only_one x y a = go a.0 a.1 a.2
  where
    go : (k : ℕ) → k < 1 → get_or (x ∷ []) k y ≡ y → x ≡ y
    go zero low e = e
    go (suc k) low e = absurd (omega (arith, low))

-- ---- one path more

none_rise : IsStrictlySortedBy (slice_cmp nat_cmp) []
unfolding IsStrictlySortedBy
none_rise = tt

pub gathered_none : (folder : Folder) (dir : List ℕ) (rest : List (List ℕ)) → Gathered folder dir [] rest []
gathered_none folder dir rest = record {
  sound = λ name a. absurd (nothing name a);
  complete = λ path name file a. absurd (nothing path a);
  rising = none_rise;
  below = λ name path a. absurd (nothing name a);
}
  where
    nothing : (x : List ℕ) → Contains [] x → ⊥
    nothing x a = let low : a.0 < 0 = a.1 in omega (arith, low)

same_name : (path dir name other : List ℕ) → IsNameIn path dir name → IsNameIn path dir other → name ≡ other
same_name path dir name other n m =
    let e : name ∷ [] ≡ other ∷ [] = append_cancel_left _ _ _ (sym n.goes_on ∙ m.goes_on) in
    ap (λ xs. get_or xs 0 name) e

pub gathered_more : (folder : Folder) (dir : List ℕ) (done : List (List ℕ)) (path : List ℕ) (rest names new : List (List ℕ)) → IsStrictlySortedBy (slice_cmp nat_cmp) (path ∷ rest) → Gathered folder dir done (path ∷ rest) names → AddsName folder dir path names new
    → Gathered folder dir (done ++ path ∷ []) rest new
gathered_more folder dir done path rest names new sorted g (inr none) =
    subst (Gathered folder dir (done ++ path ∷ []) rest) (sym none.0) (record {
      sound = g.sound;
      complete = λ p name file a stands is. elim (Contains-append_cases done (path ∷ []) p a) [
        | inl b ↦ g.complete p name file b stands is
        | inr b ↦
            let same : path ≡ p = only_one path p b in
            absurd (none.1 name file (ap folder same ∙ stands) (subst (λ q. IsNameIn q dir name) (sym same) is))
      ];
      rising = g.rising;
      below = λ name p a b. g.below name p a (later_in path rest p b);
    })
gathered_more folder dir done path rest names new sorted g (inl (name, file, stands, is, text, e)) =
    subst (Gathered folder dir (done ++ path ∷ []) rest) (sym e) (record {
      sound = λ n a. elim (Contains-append_cases names (name ∷ []) n a) [
        | inl b ↦ g.sound n b
        | inr b ↦ subst (λ m. (f : File) × (folder (lead_in dir ++ m) ≡ Some f) × IsNameIn (lead_in dir ++ m) dir m) (only_one name n b)
            (file, ap folder (sym text) ∙ stands, subst (λ q. IsNameIn q dir name) text is)
      ];
      complete = λ p n f a s i. elim (Contains-append_cases done (path ∷ []) p a) [
        | inl b ↦ Contains-append_left names (name ∷ []) n (g.complete p n f b s i)
        | inr b ↦
            let same : path ≡ p = only_one path p b in
            subst (λ m. Contains (names ++ name ∷ []) m) (same_name path dir name n is (subst (λ q. IsNameIn q dir n) (sym same) i)) (at_the_end names name)
      ];
      rising = sorted_push names name g.rising (λ n a. sym (cmp_on (lead_in dir) n name) ∙ ap (slice_cmp nat_cmp (lead_in dir ++ n)) (sym text) ∙ g.below n path a (first_in path rest));
      below = λ n p a b. elim (Contains-append_cases names (name ∷ []) n a) [
        | inl c ↦ g.below n p c (later_in path rest p b)
        | inr c ↦
            let here : slice_cmp nat_cmp (lead_in dir ++ name) p ≡ orders.Less = ap (λ q. slice_cmp nat_cmp q p) (sym text) ∙ above_first path rest sorted p b in
            subst (λ m. slice_cmp nat_cmp (lead_in dir ++ m) p ≡ orders.Less) (only_one name n c) here
      ];
    })
  where
    at_the_end : (xs : List (List ℕ)) (x : List ℕ) → Contains (xs ++ x ∷ []) x
    at_the_end [] x = first_in x []
    at_the_end (y ∷ xs) x = later_in y (xs ++ x ∷ []) x (at_the_end xs x)

sorted_drop : (i : ℕ) (ks : List (List ℕ)) → IsStrictlySortedBy (slice_cmp nat_cmp) ks → IsStrictlySortedBy (slice_cmp nat_cmp) (drop i ks)
sorted_drop zero ks s = s
sorted_drop (suc i) [] s = s
sorted_drop (suc i) (k ∷ ks) s = sorted_drop i ks (sorted_tail (slice_cmp nat_cmp) k ks s)

-- the same in a loop over references
pub gathered_step : (folder : Folder) (dir : List ℕ) (keys : List (Bor (List ℕ))) (i : ℕ) (x : Bor (List ℕ)) (names new : List (List ℕ)) → i < length keys → x ≡ get_or keys i x → IsStrictlySortedBy (slice_cmp nat_cmp) (texts keys)
    → Gathered folder dir (take i (texts keys)) (drop i (texts keys)) names → AddsName folder dir x.now names new → Gathered folder dir (take (i + 1) (texts keys)) (drop (i + 1) (texts keys)) new
gathered_step folder dir keys i x names new low is sorted g adds =
    let low_here : i < length (texts keys) = subst (λ n. i < n) (sym (length-map keys (λ (t : Bor (List ℕ)). t.now))) low in
    let at : get_or (texts keys) i x.now ≡ x.now = get_or-map (λ (t : Bor (List ℕ)). t.now) keys i x x.now low ∙ ap (λ (t : Bor (List ℕ)). t.now) (sym is) in
    let rest : drop i (texts keys) ≡ x.now ∷ drop (i + 1) (texts keys) = drop-cons (texts keys) i x.now low_here ∙ ap (λ k. k ∷ drop (suc i) (texts keys)) at ∙ ap (λ n. x.now ∷ drop n (texts keys)) (sym (add-one i)) in
    let so_far : take (i + 1) (texts keys) ≡ take i (texts keys) ++ x.now ∷ [] = take_more (texts keys) i x.now low_here ∙ ap (λ k. take i (texts keys) ++ k ∷ []) at in
    subst (λ done. Gathered folder dir done (drop (i + 1) (texts keys)) new) (sym so_far)
    (gathered_more folder dir (take i (texts keys)) x.now (drop (i + 1) (texts keys)) names new
    (subst (IsStrictlySortedBy (slice_cmp nat_cmp)) rest (sorted_drop i (texts keys) sorted))
    (subst (λ r. Gathered folder dir (take i (texts keys)) r names) rest g) adds)

pub gathered_all : (folder : Folder) (dir : List ℕ) (keys : List (Bor (List ℕ))) (i : ℕ) (names : List (List ℕ)) → length keys ≤ i → Gathered folder dir (take i (texts keys)) (drop i (texts keys)) names → Gathered folder dir (texts keys) [] names
gathered_all folder dir keys i names low g =
    let low_here : length (texts keys) ≤ i = subst (λ n. n ≤ i) (sym (length-map keys (λ (t : Bor (List ℕ)). t.now))) low in
    subst (λ done. Gathered folder dir done [] names) (take_all (texts keys) i low_here) (subst (λ rest. Gathered folder dir (take i (texts keys)) rest names) (drop_all (texts keys) i low_here) g)
  where
    take_all : (xs : List (List ℕ)) (n : ℕ) → length xs ≤ n → take n xs ≡ xs
    take_all [] zero h = refl
    take_all [] (suc n) h = refl
    take_all (x ∷ xs) zero h = absurd (omega (arith, h))
    take_all (x ∷ xs) (suc n) h = ap (λ ys. x ∷ ys) (take_all xs n (omega (arith, h)))

    drop_all : (xs : List (List ℕ)) (n : ℕ) → length xs ≤ n → drop n xs ≡ []
    drop_all [] zero h = refl
    drop_all [] (suc n) h = refl
    drop_all (x ∷ xs) zero h = absurd (omega (arith, h))
    drop_all (x ∷ xs) (suc n) h = drop_all xs n (omega (arith, h))

-- ---- all paths

-- a path at which a file stands is known
stands_known : (past : List Write) (m : PlaceMap) (path : List ℕ) (file : File) → standing past m path ≡ Some file → is_known m path ≡ true
stands_known past m path file h = go (get m path) h
  where
    go : (o : Option (Option ℕ)) → option_and_then (file_at past) (unwrap_or o None) ≡ Some file → is_some o ≡ true
    go None e = cc
    go (Some place) e = refl

any_in : (path : List ℕ) (paths : List (List ℕ)) → list_any (bytes_eq path) paths ≡ true → Contains paths path
any_in path [] h = cc
any_in path (p ∷ paths) h = go (bytes_eq path p) refl h (any_in path paths)
  where
    go : (b : Bool) → bytes_eq path p ≡ b → (b || list_any (bytes_eq path) paths) ≡ true → (list_any (bytes_eq path) paths ≡ true → Contains paths path) → Contains (p ∷ paths) path
    go true e k more = subst (λ q. Contains (q ∷ paths) path) ((bytes_eq-Decides path p).0 e) (first_in path paths)
    go false e k more = later_in p paths path (more k)

pub listed : (past : List Write) (m : PlaceMap) (dir : List ℕ) (paths names : List (List ℕ)) → AreKeys (is_known m) paths → Gathered (standing past m) dir paths [] names → IsListed (standing past m) dir names
listed past m dir paths names keys g = record {
  each = λ name. (
    (λ a. let s = g.sound name a in record { path = lead_in dir ++ name; file = s.0; visible = s.1; rooted = s.2.rooted; goes_on = s.2.goes_on; not_above = s.2.not_above }),
    (λ (d : IsDirectlyIn (standing past m) dir name). g.complete d.path name d.file (any_in d.path paths (keys.each d.path ∙ stands_known past m d.path d.file d.visible)) d.visible (record { rooted = d.rooted; goes_on = d.goes_on; not_above = d.not_above })),
  );
  rising = λ i j d low high. Less-from_sorted (slice_cmp nat_cmp) names i j d g.rising low high;
}

-- the same of a result
pub all_listed : {E : Type 0} (past : List Write) (m : PlaceMap) (dir : List ℕ) (paths : List (List ℕ)) (r : Result (List (List ℕ)) E) → AreKeys (is_known m) paths → IfOk r (Gathered (standing past m) dir paths []) → IfOk r (λ names. IsListed (standing past m) dir names)
all_listed past m dir paths (Ok names) keys g = listed past m dir paths names keys g
all_listed past m dir paths (Err e) keys g = tt
