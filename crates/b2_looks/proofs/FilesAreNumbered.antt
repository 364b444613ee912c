-- Numbers of files that are gathered, searched and sorted.
use Rattle.std.proofs.Common.{◌≡◌, ◌≢◌, ◌↔◌, inl, inr, ℕ, zero, suc, ◌<◌, ◌≤◌, ◌+◌, ◌-◌, Bool, true, false, not, eqb, IsTrue, List, [], ◌∷◌, ◌++◌, length, get_or, cond, filter, Some, None, Result, Ok, Err, map, refl, sym, ap, subst, ◌∙◌, arith, append-nil, take}
use Rattle.std.specs.Prelude.{All, IfOk}
use Rattle.std.specs.Ordering.{is_lt, is_eq, nat_cmp, ordering_reverse}
use Rattle.std.specs.declared.cmp.Ordering.{Ordering}
use Rattle.std.specs.declared.cmp.Ordering.TheVariants.{Less, Equal, Greater}
use Rattle.std.specs.Cmp.{IsStrictWeakOrder}
use Rattle.std.specs.Cmp.Lexicographic.{slice_cmp, nat_list_cmp_total}
use Rattle.std.specs.List.{Contains, AllZip, AllPairs}
use Rattle.std.specs.List.Sorted.{IsPermutation, IsSortedBy}
use Rattle.std.proofs.lemmas.Bool.{false≢true}
use Rattle.std.proofs.lemmas.Bool.Decides.{Decides-eqb}
use Rattle.std.proofs.lemmas.List.{take_more, get_or-map, length-map}
use Rattle.std.proofs.lemmas.List.Elements.{filter-append, All-get_or, All-push, Contains-get_or}
use Rattle.std.proofs.lemmas.List.Kept.{AllPairs-filter}
use Rattle.std.proofs.lemmas.Option.{slice_get_within, slice_get-get_or}
use Rattle.std.proofs.lemmas.List.Sorted.{ranks_by, sorted_far, Contains-permutation, IsPermutation-sym}
use Rattle.std.proofs.lemmas.Slice.Zip.{all_zipped_more}
use Rattle.std.proofs.lemmas.Map.Keys.{IsDistinct-IsPermutation}
use Rattle.std.proofs.lemmas.Map.Made.{AllPairs-from_IsDistinct, IsDistinct-from_AllPairs}
use Rattle.std.proofs.lemmas.Map.Text.{is_eq-slice_cmp}
use Rattle.b2_base.specs.Bytes.{Before}
use Rattle.b2_paths.specs.PathTables.{AreDistinct}
use Rattle.b2_plan.specs.declared.step.Step.{Step}
use Rattle.b2_plan.specs.Plans.{step_at}
use Rattle.b2_runs.proofs.FirstElementOrLater.{Contains_here, Contains_there, Contains_cases}
use Rattle.b2_runs.proofs.NumberHasOneStep.{place_of}
use Rattle.b2_facts.specs.declared.file_facts.FileFacts.{FileFacts}
use Rattle.b2_facts.specs.Facts.{Knowledge, IsNumber, IsAbout, path_at, file_at}
use Rattle.b2_facts.proofs.ListsAtPlaces.{some_is, none_some, at_place}
use Rattle.b2_facts.specs.Growth.{Grows}
use Rattle.b2_reach.proofs.FoundMakerMakesPath.{same_bytes}
use Rattle.b2_reach.proofs.MakersAreSteps.{maker_step}
use Rattle.b2_reach.proofs.MembersAreAdded.{taken_more, take_whole}
use Rattle.b2_verdicts.specs.declared.step_numbers.StepNumbers.{StepNumbers}
use Rattle.b2_verdicts.specs.Made.{AreRising}
use Rattle.b2_verdicts.specs.Sights.{AreNumbers}
use Rattle.b2_looks.specs.declared.step_files.NumberedPath.{NumberedPath}
use Rattle.b2_looks.specs.Numbers.{number_in, HasPath, is_before, IsOneOf, owes, has_bytes, has_bytes_of, has_bytes_by, IsOfDone, AreFilesOf}

-- what holds of a value under one premise holds under another one that it implies
pub if_ok_then : {T E : Type 0} (r : Result T E) (P Q : T → Type 0) → ((x : T) → P x → Q x) → IfOk r P → IfOk r Q
if_ok_then (Ok x) P Q f h = f x h
if_ok_then (Err e) P Q f h = tt

-- ---- gathered

-- the paths of numbers stay so as facts grow
pub named_grow : (f g : Knowledge) → Grows f g → (numbers : List ℕ) (paths : List (List ℕ)) → AllZip (λ n path. path_at f n ≡ Some path) numbers paths → AllZip (λ n path. path_at g n ≡ Some path) numbers paths
named_grow f g grows [] [] z = tt
named_grow f g grows [] (path ∷ paths) z = absurd z
named_grow f g grows (n ∷ numbers) [] z = absurd z
named_grow f g grows (n ∷ numbers) (path ∷ paths) z = (grows.paths n path z.0, named_grow f g grows numbers paths z.1)

-- one more path with its number
pub zip_more : (f g : Knowledge) (numbers later : List ℕ) (paths : List (List ℕ)) (i n : ℕ) (path : List ℕ) → Grows f g → i < length paths → path ≡ get_or paths i path → path_at g n ≡ Some path → later ≡ numbers ++ n ∷ []
    → AllZip (λ n path. path_at f n ≡ Some path) numbers (take i paths) → AllZip (λ n path. path_at g n ≡ Some path) later (take (i + 1) paths)
zip_more f g numbers later paths i n path grows low at named pushed so =
    let R : ℕ → List ℕ → Type 0 = λ n path. path_at g n ≡ Some path in
    let more : take (i + 1) paths ≡ take i paths ++ path ∷ [] = take_more paths i path low ∙ ap (λ y. take i paths ++ y ∷ []) (sym at) in
    subst (λ ns. AllZip R ns (take (i + 1) paths)) (sym pushed) (subst (AllZip R (numbers ++ n ∷ [])) (sym more) (all_zipped_more R numbers (take i paths) n path (named_grow f g grows numbers (take i paths) so) named))

pub zip_all : (f : Knowledge) (numbers : List ℕ) (paths : List (List ℕ)) (i : ℕ) → length paths ≤ i → AllZip (λ n path. path_at f n ≡ Some path) numbers (take i paths) → AllZip (λ n path. path_at f n ≡ Some path) numbers paths
zip_all f numbers paths i past so = subst (AllZip (λ n path. path_at f n ≡ Some path) numbers) (take_whole paths i past) so

-- a list mapped as far as it was walked
pub mapped_more : {X : Type 0} (h : X → ℕ) (xs : List X) (i : ℕ) (d : X) (numbers : List ℕ) → i < length xs → numbers ≡ map h (take i xs) → numbers ++ h (get_or xs i d) ∷ [] ≡ map h (take (i + 1) xs)
mapped_more h xs i d numbers low is = rw is (sym (ap (map h) (take_more xs i d low) ∙ joined (take i xs)))
  where
    joined : (ys : List _) → map h (ys ++ get_or xs i d ∷ []) ≡ map h ys ++ h (get_or xs i d) ∷ []
    joined [] = refl
    joined (y ∷ ys) = ap (λ l. h y ∷ l) (joined ys)

-- one more file with its path
pub path_more : (f : Knowledge) (members : List ℕ) (i : ℕ) (named later : List NumberedPath) (one : NumberedPath) → i < length members → one.number ≡ get_or members i 0 → HasPath f one → later ≡ named ++ one ∷ [] → map number_in named ≡ take i members → All (HasPath f) named → (map number_in later ≡ take (i + 1) members) × All (HasPath f) later
path_more f members i named later one low at has pushed numbers paths = (
  ap (map number_in) pushed ∙ mapped_end named ∙ ap (λ l. l ++ one.number ∷ []) numbers ∙ ap (λ n. take i members ++ n ∷ []) at ∙ sym (take_more members i 0 low),
  subst (All (HasPath f)) (sym pushed) (All-push (HasPath f) named one paths has),
)
  where
    mapped_end : (ys : List NumberedPath) → map number_in (ys ++ one ∷ []) ≡ map number_in ys ++ one.number ∷ []
    mapped_end [] = refl
    mapped_end (y ∷ ys) = ap (λ l. y.number ∷ l) (mapped_end ys)

-- ---- the makers of files

-- the place of a numbered step
pub step_place : (steps : List Step) (k : ℕ) (step : Step) → step_at steps k ≡ Some step → (1 ≤ k) × (k - 1 < length steps) × ((d : Step) → get_or steps (k - 1) d ≡ step)
step_place steps k step at =
    let (place, is, there) = place_of steps k step at in
    let e : k - 1 ≡ place = omega (arith, is) in
    let low = slice_get_within steps place step there in
    (omega (arith, is), omega (arith, e, low), λ d. ap (λ i. get_or steps i d) e ∙ some_is (get_or steps place d) step (sym (slice_get-get_or steps place d low) ∙ there))

pub maker_place : (steps : List Step) (roots : List (List ℕ)) (f : Knowledge) (n : ℕ) (file : FileFacts) (k : ℕ) → IsAbout steps roots f → file_at f n ≡ Some file → file.maker ≡ Some k → (step : Step) × (step_at steps k ≡ Some step) × (1 ≤ k) × (k - 1 < length steps) × ((d : Step) → get_or steps (k - 1) d ≡ step)
maker_place steps roots f n file k about known made = let (step, at) = maker_step steps roots f n file k about known made in let (some, low, is) = step_place steps k step at in (step, at, some, low, is)

pub has_bytes_is : (steps given : List Step) (roots : List (List ℕ)) (f : Knowledge) (n : ℕ) (file : FileFacts) (k : ℕ) (d : Step) → given ≡ steps → IsAbout steps roots f → file_at f n ≡ Some file → file.maker ≡ Some k → not (get_or given (k - 1) d).notfile ≡ has_bytes steps f n
has_bytes_is steps given roots f n file k d same about known made =
    let (step, at, some, low, is) = maker_place steps roots f n file k about known made in
    let here : get_or given (k - 1) d ≡ step = ap (λ (xs : List Step). get_or xs (k - 1) d) same ∙ is d in
    ap (λ (x : Step). not x.notfile) here ∙ sym (ap (has_bytes_of steps) known ∙ ap (has_bytes_by steps) made ∙ ap owes at)

pub not_of_done : (f : Knowledge) (ran : List Bool) (n : ℕ) (file : FileFacts) → file_at f n ≡ Some file → file.maker ≡ None → IsOfDone f ran n → ⊥
not_of_done f ran n file known unmade is = none_some is.maker (sym unmade ∙ ap (λ (x : FileFacts). x.maker) (some_is file is.file (sym known ∙ is.file_is)) ∙ is.made)

pub of_done : (f : Knowledge) (ran : List Bool) (n : ℕ) (file : FileFacts) (k : ℕ) → file_at f n ≡ Some file → file.maker ≡ Some k → IsTrue (get_or ran k false) ↔ IsOfDone f ran n
of_done f ran n file k known made = (
  λ has. record { file = file; file_is = known; maker = k; made = made; done = has },
  λ is. (
      let same : k ≡ is.maker = some_is k is.maker (sym made ∙ ap (λ (x : FileFacts). x.maker) (some_is file is.file (sym known ∙ is.file_is)) ∙ is.made) in
      ap (λ m. get_or ran m false) same ∙ is.done),
)

-- ---- filtered

-- one more element, which is kept where it passes the test
pub kept_more : {X : Type 0} (p : X → Bool) (xs : List X) (i : ℕ) (d x : X) (kept later : List X) → i < length xs → x ≡ get_or xs i d → later ≡ cond (p x) (kept ++ x ∷ []) kept → kept ≡ filter p (take i xs) → later ≡ filter p (take (i + 1) xs)
kept_more p xs i d x kept later low at pushed is =
    let more : filter p (take (i + 1) xs) ≡ filter p (take i xs) ++ filter p (x ∷ []) = ap (filter p) (take_more xs i d low ∙ ap (λ y. take i xs ++ y ∷ []) (sym at)) ∙ filter-append p (take i xs) (x ∷ []) in
    pushed ∙ go (p x) (filter p (take i xs)) is ∙ sym more
  where
    go : (b : Bool) (before : List _) → kept ≡ before → cond b (kept ++ x ∷ []) kept ≡ before ++ cond b (x ∷ []) []
    go true before e = ap (λ l. l ++ x ∷ []) e
    go false before e = e ∙ sym (append-nil before)

pub kept_all : {X : Type 0} (p : X → Bool) (xs : List X) (i : ℕ) (kept : List X) → length xs ≤ i → kept ≡ filter p (take i xs) → kept ≡ filter p xs
kept_all p xs i kept past is = is ∙ ap (filter p) (take_whole xs i past)

-- ---- searched

-- none so far has the property, and the next one has not
pub none_more : (P : ℕ → Type 0) (members : List ℕ) (i : ℕ) → i < length members → (P (get_or members i 0) → ⊥) → ((m : ℕ) → Contains (take i members) m → P m → ⊥) → (m : ℕ) → Contains (take (i + 1) members) m → P m → ⊥
none_more P members i low not so m among has = elim (taken_more members i 0 m low among) [
  | inl old ↦ so m old has
  | inr e ↦ not (subst P (sym e) has)
]

pub none_is : (P : ℕ → Type 0) (members : List ℕ) (i : ℕ) → length members ≤ i → ((m : ℕ) → Contains (take i members) m → P m → ⊥) → IsOneOf P members None
none_is P members i past so m among has = so m (subst (λ l. Contains l m) (sym (take_whole members i past)) among) has

-- ---- sorted

eqb_flips : (x y : ℕ) → eqb x y ≡ eqb y x
eqb_flips x y = go (eqb x y) (eqb y x) refl refl
  where
    go : (a b : Bool) → eqb x y ≡ a → eqb y x ≡ b → a ≡ b
    go true true e f = refl
    go false false e f = refl
    go true false e f = absurd (false≢true (sym f ∙ (Decides-eqb y x).1 (sym ((Decides-eqb x y).0 e))))
    go false true e f = absurd (false≢true (sym e ∙ (Decides-eqb x y).1 (sym ((Decides-eqb y x).0 f))))

-- numbers that differ stay so when they change places
distinct_moved : (xs ys : List ℕ) → IsPermutation xs ys → AllPairs (λ n m. n ≢ m) xs → AllPairs (λ n m. n ≢ m) ys
distinct_moved xs ys moved distinct = AllPairs-from_IsDistinct Decides-eqb ys (IsDistinct-IsPermutation eqb eqb_flips xs ys moved (IsDistinct-from_AllPairs Decides-eqb xs distinct))

-- the same numbers are there when they have changed places
pub same_moved : (xs ys : List ℕ) → IsPermutation xs ys → (n : ℕ) → Contains ys n ↔ Contains xs n
same_moved xs ys moved n = (λ a. Contains-permutation ys xs n (IsPermutation-sym xs ys moved) a, λ a. Contains-permutation xs ys n moved a)

same_path : (p q : List ℕ) → slice_cmp nat_cmp p q ≡ Equal → p ≡ q
same_path p q e = same_bytes p q (sym (is_eq-slice_cmp p q) ∙ ap is_eq e)

-- of two paths that differ the one stands before the other where that does not stand before it
first_before : (p q : List ℕ) → (p ≡ q → ⊥) → is_lt (slice_cmp nat_cmp q p) ≡ false → Before p q
first_before p q differ e = go (slice_cmp nat_cmp q p) refl e
  where
    go : (r : Ordering) → slice_cmp nat_cmp q p ≡ r → is_lt r ≡ false → Before p q
    go Less is e = absurd (let h : true ≡ false = e in cc)
    go Equal is e = absurd (differ (sym (same_path q p is)))
    go Greater is e = nat_list_cmp_total.antisymm p q ∙ ap ordering_reverse is

pub ranks : IsStrictWeakOrder is_before
ranks = ranks_by nat_list_cmp_total (λ (x : NumberedPath). x.path.now)

-- numbers that are sorted by their paths rise
pub sorted_rise : (f : Knowledge) (members : List ℕ) (xs : List NumberedPath) → AreDistinct f.paths → AllPairs (λ n m. n ≢ m) members → IsPermutation members (map number_in xs) → All (HasPath f) xs → IsSortedBy is_before xs → AreRising f (map number_in xs)
sorted_rise f members xs paths distinct moved has up i j d low high one other at_i at_j =
    rises xs refl
  where
    rises : (ys : List NumberedPath) → ys ≡ xs → Before one other
    rises [] e = absurd (let h : j < length (map number_in xs) = high in let g : length (map number_in xs) ≡ 0 = ap (λ (l : List NumberedPath). length (map number_in l)) (sym e) in omega arith)
    rises (y ∷ ys) e =
        let wide : j < length xs = omega (arith, high, length-map xs number_in) in
        let near : i < length xs = omega arith in
        let a = get_or xs i y in
        let b = get_or xs j y in
        let n : get_or (map number_in xs) i d ≡ a.number = get_or-map number_in xs i y d near in
        let m : get_or (map number_in xs) j d ≡ b.number = get_or-map number_in xs j y d wide in
        let p : a.path.now ≡ one = (let h : Some a.path.now ≡ Some one = sym (All-get_or (HasPath f) xs i y near has) ∙ ap (path_at f) (sym n) ∙ at_i in cc) in
        let q : b.path.now ≡ other = (let h : Some b.path.now ≡ Some other = sym (All-get_or (HasPath f) xs j y wide has) ∙ ap (path_at f) (sym m) ∙ at_j in cc) in
        let differ : one ≡ other → ⊥ = λ same. distinct_moved members (map number_in xs) moved distinct i j d low high (paths one (get_or (map number_in xs) i d) (get_or (map number_in xs) j d) at_i (at_j ∙ ap Some (sym same))) in
        first_before one other differ (ap (λ (w : List ℕ). is_lt (slice_cmp nat_cmp w one)) (sym q) ∙ ap (λ (w : List ℕ). is_lt (slice_cmp nat_cmp b.path.now w)) (sym p) ∙ sorted_far is_before ranks xs up i j y (omega arith) wide)

-- ---- what the numbers of a step's files are

filter_in : (p : ℕ → Bool) (xs : List ℕ) (n : ℕ) → Contains (filter p xs) n → Contains xs n
filter_in p [] n among = among
filter_in p (x ∷ xs) n among = go (p x) among (filter_in p xs n)
  where
    go : (b : Bool) → Contains (cond b (x ∷ filter p xs) (filter p xs)) n → (Contains (filter p xs) n → Contains xs n) → Contains (x ∷ xs) n
    go true c later = elim (Contains_cases x n (filter p xs) c) [ inl e ↦ subst (λ m. Contains (x ∷ xs) m) e (Contains_here x xs) | inr rest ↦ Contains_there x n xs (later rest) ]
    go false c later = Contains_there x n xs (later c)

module _ (steps : List Step) (f : Knowledge) (step : Step) (members : List ℕ) (numbers : StepNumbers) (files : AreFilesOf steps f step members numbers) where
  pub ins_inside : (n : ℕ) → Contains numbers.ins n → Contains members n
  ins_inside n among = (files.same n).0 (filter_in (has_bytes steps f) files.order n (subst (λ l. Contains l n) files.ins among))

  pub ins_numbers : ((n : ℕ) → Contains members n → IsNumber f n) → AreNumbers f numbers.ins
  ins_numbers numbered k low = numbered (get_or numbers.ins k 0) (ins_inside (get_or numbers.ins k 0) (Contains-get_or numbers.ins k 0 low))

  pub ins_rise : AreRising f numbers.ins
  ins_rise = subst (AreRising f) (sym files.ins) (AllPairs-filter (λ n m. (one other : List ℕ) → path_at f n ≡ Some one → path_at f m ≡ Some other → Before one other) (has_bytes steps f) files.order files.rising)

  pub outs_numbers : length f.files ≡ length f.paths → AreNumbers f numbers.outs
  outs_numbers sizes = go numbers.outs step.outs files.outs
    where
      go : (ns : List ℕ) (ps : List (List ℕ)) → AllZip (λ n path. path_at f n ≡ Some path) ns ps → AreNumbers f ns
      go [] ps z k low = absurd (omega (arith, low))
      go (n ∷ ns) [] z k low = absurd z
      go (n ∷ ns) (p ∷ ps) z zero low = (let within = slice_get_within f.paths n p z.0 in (within, omega (arith, within, sizes)))
      go (n ∷ ns) (p ∷ ps) z (suc k) low = go ns ps z.1 k (omega (arith, low))

  pub outs_some : (step.outs ≡ [] → ⊥) → 0 < length numbers.outs
  outs_some some = go numbers.outs step.outs files.outs some
    where
      go : (ns : List ℕ) (ps : List (List ℕ)) → AllZip (λ n path. path_at f n ≡ Some path) ns ps → (ps ≡ [] → ⊥) → 0 < length ns
      go [] [] z not = absurd (not refl)
      go [] (p ∷ ps) z not = absurd z
      go (n ∷ ns) ps z not = omega arith

-- ---- by place

pub number_among : (f : Knowledge) (ns : List ℕ) → AreNumbers f ns → (n : ℕ) → Contains ns n → IsNumber f n
number_among f ns numbers n among =
    let (k, there) = at_place ns n among in
    let low = slice_get_within ns k n there in
    subst (IsNumber f) (some_is (get_or ns k 0) n (sym (slice_get-get_or ns k 0 low) ∙ there)) (numbers k low)
