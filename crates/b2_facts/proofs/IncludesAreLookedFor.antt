-- Includes are looked for one after the other, as facts grow.
use Rattle.std.proofs.Common.{◌≡◌, ◌⊎◌, inl, inr, ℕ, zero, suc, ◌+◌, ◌<◌, ◌≤◌, true, false, List, [], ◌∷◌, ◌++◌, take, length, is_some, Option, Some, None, Result, Ok, Err, IfOk, slice_get, refl, sym, ap, subst, ◌∙◌}
use Rattle.std.specs.Prelude.{option_to_list}
use Rattle.std.specs.List.{Contains, AllByRecursion}
use Rattle.std.proofs.lemmas.List.Elements.{Contains-append_left, Contains-append_right, Contains-append_cases}
use Rattle.std.proofs.lemmas.List.{take_all}
use Rattle.std.proofs.lemmas.Option.{slice_get_within}
use Rattle.b2_plan.specs.Sources.{Include}
use Rattle.jam_scan.specs.Places.{places}
use Rattle.b2_facts.specs.declared.file_facts.FileFacts.{FileFacts}
use Rattle.b2_facts.specs.Facts.{Knowledge, IsNumber, IsRead, IsLookedFor, path_at, file_at, dirs_at}
use Rattle.b2_facts.specs.Growth.{Grows}
use Rattle.b2_facts.specs.Asks.{IsToldGiven, IsMissingAt, IsFirstGiven, IsTried, IsTriedAt, IsLooking, HasInclude, AreFirsts}
use Rattle.b2_facts.proofs.ListsAtPlaces.{some_is, none_some, at_place, among_at, all_map, all_push, get_some, take_more, cut_at}
use Rattle.b2_facts.proofs.FactsGrow.{stays_known, number_grows, list_grows, given_stays, not_given_stays}

-- ---- what was tried stays so as facts grow

pub missing_stays : (f g : Knowledge) → Grows f g → (path : List ℕ) → IsMissingAt f path → IsMissingAt g path
missing_stays f g grows path m = let x = grows.files m.number m.file m.is_file.file_is in record {
  number = m.number;
  file = x.0;
  is_file = record { path_is = grows.paths m.number path m.is_file.path_is; file_is = x.1 };
  not_given = not_given_stays m.file x.0 x.2 m.not_given;
}

pub none_stay : (f g : Knowledge) → Grows f g → (tried : List (List ℕ)) → AllByRecursion (IsMissingAt f) tried → AllByRecursion (IsMissingAt g) tried
none_stay f g grows tried none = all_map (IsMissingAt f) (IsMissingAt g) (missing_stays f g grows) tried none

first_stays : (f g : Knowledge) → Grows f g → (tried : List (List ℕ)) (n : ℕ) → IsFirstGiven f tried n → IsFirstGiven g tried n
first_stays f g grows tried n first = let x = grows.files n first.file first.is_file.file_is in record {
  before = first.before;
  path = first.path;
  after = first.after;
  places_are = first.places_are;
  file = x.0;
  is_file = record { path_is = grows.paths n first.path first.is_file.path_is; file_is = x.1 };
  given = given_stays first.file x.0 x.2 first.given;
  none_before = none_stay f g grows first.before first.none_before;
}

pub looking_stays : (f g : Knowledge) (list n : ℕ) (path : List ℕ) (dirs : List (List ℕ)) (includes : List Include) → Grows f g → IsLooking f list n path dirs includes → IsLooking g list n path dirs includes
looking_stays f g list n path dirs includes grows l = let x = grows.files n l.file l.file_is in record {
  path_is = grows.paths n path l.path_is;
  dirs_are = grows.dirs list dirs l.dirs_are;
  file = x.0;
  file_is = x.1;
  includes_are = stays_known l.file.includes x.0.includes includes l.includes_are x.2.includes;
}

-- ---- one path

pub tried_given : (g : Knowledge) (path : List ℕ) (n : ℕ) → path_at g n ≡ Some path → IsNumber g n → ((file : FileFacts) → file_at g n ≡ Some file → IsToldGiven file true) → IsTriedAt g path (Some n)
tried_given g path n is number told = let file = get_some g.files n number.1 in (file.0, record { path_is = is; file_is = file.1 }, told file.0 file.1)

pub tried_missing : (g : Knowledge) (path : List ℕ) (n : ℕ) → path_at g n ≡ Some path → IsNumber g n → ((file : FileFacts) → file_at g n ≡ Some file → IsToldGiven file false) → IsTriedAt g path None
tried_missing g path n is number told = let file = get_some g.files n number.1 in record { number = n; file = file.0; is_file = record { path_is = is; file_is = file.1 }; not_given = told file.0 file.1 }

-- ---- one after the other

pub first_found : (f g : Knowledge) (tried : List (List ℕ)) (k : ℕ) (path : List ℕ) (n : ℕ) → Grows f g → AllByRecursion (IsMissingAt f) (take k tried) → slice_get tried k ≡ Some path → IsTriedAt g path (Some n) → IsFirstGiven g tried n
first_found f g tried k path n grows none at there = let cut = cut_at tried k path at in record {
  before = take k tried;
  path = path;
  after = cut.0;
  places_are = cut.1;
  file = there.0;
  is_file = there.1;
  given = there.2;
  none_before = none_stay f g grows (take k tried) none;
}

pub none_more : (f g : Knowledge) (tried : List (List ℕ)) (k : ℕ) (path : List ℕ) → Grows f g → AllByRecursion (IsMissingAt f) (take k tried) → slice_get tried k ≡ Some path → IsTriedAt g path None → AllByRecursion (IsMissingAt g) (take (k + 1) tried)
none_more f g tried k path grows none at there = subst (AllByRecursion (IsMissingAt g)) (sym (take_more tried k path at)) (all_push (IsMissingAt g) (take k tried) path (none_stay f g grows (take k tried) none) there)

pub first_some : (f g : Knowledge) (tried : List (List ℕ)) (k : ℕ) (path : List ℕ) (given : Option ℕ) → Grows f g → AllByRecursion (IsMissingAt f) (take k tried) → slice_get tried k ≡ Some path → is_some given ≡ true → IsTriedAt g path given → IsTried g tried given
first_some f g tried k path None grows none at is there = absurd (let x : false ≡ true = is in cc)
first_some f g tried k path (Some n) grows none at is there = first_found f g tried k path n grows none at there

pub none_some_more : (f g : Knowledge) (tried : List (List ℕ)) (k : ℕ) (path : List ℕ) (given : Option ℕ) → Grows f g → AllByRecursion (IsMissingAt f) (take k tried) → slice_get tried k ≡ Some path → is_some given ≡ false → IsTriedAt g path given → AllByRecursion (IsMissingAt g) (take (k + 1) tried)
none_some_more f g tried k path None grows none at is there = none_more f g tried k path grows none at there
none_some_more f g tried k path (Some n) grows none at is there = absurd (let x : true ≡ false = is in cc)

one_is : {X : Type 0} (x y : X) → Contains (x ∷ []) y → x ≡ y
one_is x y among = let r = at_place (x ∷ []) y among in go r.0 r.1
  where
    go : (k : ℕ) → slice_get (x ∷ []) k ≡ Some y → x ≡ y
    go zero e = some_is x y e
    go (suc k) e = absurd (none_some y e)

one_among : {X : Type 0} (x : X) → Contains (x ∷ []) x
one_among x = among_at (x ∷ []) 0 x refl

pub no_firsts : (f : Knowledge) (dirs : List (List ℕ)) (path : List ℕ) → AreFirsts f dirs path [] []
no_firsts f dirs path = record { each = λ target among. absurd (none_some target (at_place [] target among).1); whole = λ include among. absurd (none_some include (at_place [] include among).1) }

pub firsts_more : (f g : Knowledge) (dirs : List (List ℕ)) (path : List ℕ) (includes : List Include) (k : ℕ) (include : Include) (targets : List ℕ) (target : Option ℕ) → Grows f g → AreFirsts f dirs path (take k includes) targets → slice_get includes k ≡ Some include → IsTried g (places dirs path include) target
    → AreFirsts g dirs path (take (k + 1) includes) (targets ++ option_to_list target)
firsts_more f g dirs path includes k include targets target grows firsts at tried = subst (λ (is : List Include). AreFirsts g dirs path is (targets ++ option_to_list target)) (sym (take_more includes k include at)) (record {
  each = λ t among. elim (Contains-append_cases targets (option_to_list target) t among) [
    | inl before ↦ (let e = firsts.each t before in (e.0, Contains-append_left (take k includes) (include ∷ []) e.0 e.1, first_stays f g grows (places dirs path e.0) t e.2))
    | inr last ↦ (include, Contains-append_right (take k includes) (include ∷ []) include (one_among include), last_first target tried t last)
  ];
  whole = λ x among. elim (Contains-append_cases (take k includes) (include ∷ []) x among) [
    | inl before ↦ elim (firsts.whole x before) [
      | inl (t, there, first) ↦ inl (t, Contains-append_left targets (option_to_list target) t there, first_stays f g grows (places dirs path x) t first)
      | inr none ↦ inr (none_stay f g grows (places dirs path x) none)
    ]
    | inr last ↦ subst (λ (i : Include). Answered i) (one_is include x last) (answered target tried)
  ];
})
  where
    Answered : Include → Type 0
    Answered i = ((t : ℕ) × Contains (targets ++ option_to_list target) t × IsFirstGiven g (places dirs path i) t) ⊎ AllByRecursion (IsMissingAt g) (places dirs path i)

    last_first : (o : Option ℕ) → IsTried g (places dirs path include) o → (t : ℕ) → Contains (option_to_list o) t → IsFirstGiven g (places dirs path include) t
    last_first None none t among = absurd (none_some t (at_place [] t among).1)
    last_first (Some m) first t among = subst (λ (j : ℕ). IsFirstGiven g (places dirs path include) j) (one_is m t among) first

    answered : (o : Option ℕ) → IsTried g (places dirs path include) o → ((t : ℕ) × Contains (targets ++ option_to_list o) t × IsFirstGiven g (places dirs path include) t) ⊎ AllByRecursion (IsMissingAt g) (places dirs path include)
    answered None none = inr none
    answered (Some m) first = inl (m, Contains-append_right targets (m ∷ []) m (one_among m), first)

-- a file with its includes, and the directories of a list, are at hand
pub at_hand : (f : Knowledge) (list n : ℕ) → list < length f.lists → IsNumber f n → ((file : FileFacts) → file_at f n ≡ Some file → IsRead file) → (path : List ℕ) × (dirs : List (List ℕ)) × (includes : List Include) × IsLooking f list n path dirs includes
at_hand f list n is_list number read =
    let path = get_some f.paths n number.0 in
    let file = get_some f.files n number.1 in
    let dirs = get_some f.lists list is_list in
    let includes = read file.0 file.1 in
    (path.0, dirs.0, includes.0, record { path_is = path.1; dirs_are = dirs.1; file = file.0; file_is = file.1; includes_are = includes.1 })

-- what is found may be kept
pub looked_for : (f g : Knowledge) (list n : ℕ) (targets : List ℕ) (path : List ℕ) (dirs : List (List ℕ)) (includes : List Include) → Grows f g → list < length f.lists → IsNumber f n → IsLooking f list n path dirs includes → AreFirsts g dirs path includes targets → IsLookedFor g list n targets
looked_for f g list n targets path dirs includes grows is_list number looking firsts = record {
  listed = list_grows f g grows list is_list;
  numbered = number_grows f g grows n number;
  each = λ target among. (let e = firsts.each target among in (slice_get_within g.paths target e.2.path e.2.is_file.path_is, slice_get_within g.files target e.2.file e.2.is_file.file_is));
  read = λ file e. (let later = looking_stays f g list n path dirs includes grows looking in subst IsRead (some_is later.file file (sym later.file_is ∙ e)) (includes, later.includes_are));
}

-- the includes that are at hand
same_includes : (f : Knowledge) (list n : ℕ) (path : List ℕ) (dirs : List (List ℕ)) (includes given : List Include) → IsLooking f list n path dirs includes → ((file : FileFacts) → file_at f n ≡ Some file → file.includes ≡ Some given) → given ≡ includes
same_includes f list n path dirs includes given looking are = some_is given includes (sym (are looking.file looking.file_is) ∙ looking.includes_are)

pub include_at : (f : Knowledge) (list n : ℕ) (path : List ℕ) (dirs : List (List ℕ)) (includes given : List Include) (at : ℕ) → IsLooking f list n path dirs includes → ((file : FileFacts) → file_at f n ≡ Some file → file.includes ≡ Some given) → at < length given → (include : Include) × (slice_get includes at ≡ Some include)
include_at f list n path dirs includes given at looking are within = get_some includes at (subst (λ (is : List Include). at < length is) (same_includes f list n path dirs includes given looking are) within)

pub has_include : (f g : Knowledge) (list n : ℕ) (given : List Include) (at : ℕ) → Grows f g → list < length f.lists → IsNumber f n → ((file : FileFacts) → file_at f n ≡ Some file → IsRead file) → ((file : FileFacts) → file_at f n ≡ Some file → file.includes ≡ Some given) → at < length given → (file : FileFacts) → file_at g n ≡ Some file → HasInclude file at
has_include f g list n given at grows is_list number read are within file e =
    let hand = at_hand f list n is_list number read in
    let later = looking_stays f g list n hand.0 hand.1 hand.2 grows hand.3 in
    let same = same_includes f list n hand.0 hand.1 hand.2 given hand.3 are in
    (hand.2, ap (λ (x : FileFacts). x.includes) (some_is file later.file (sym e ∙ later.file_is)) ∙ later.includes_are, subst (λ (is : List Include). at < length is) same within)

-- one include of a file is at hand
pub include_within : (f : Knowledge) (n at : ℕ) (given : List Include) → IsNumber f n → ((file : FileFacts) → file_at f n ≡ Some file → HasInclude file at) → ((file : FileFacts) → file_at f n ≡ Some file → file.includes ≡ Some given) → at < length given
include_within f n at given number has are =
    let file = get_some f.files n number.1 in
    let one = has file.0 file.1 in
    subst (λ (is : List Include). at < length is) (some_is one.0 given (sym one.1 ∙ are file.0 file.1)) one.2

-- the places of an include are those where it is looked for
pub places_are : {E : Type 0} (f : Knowledge) (list n at : ℕ) (p : List ℕ) (ds : List (List ℕ)) (given : List Include) (i : Include) → path_at f n ≡ Some p → dirs_at f list ≡ Some ds → ((file : FileFacts) → file_at f n ≡ Some file → file.includes ≡ Some given) → slice_get given at ≡ Some i → (r : Result (List (List ℕ)) E) → IfOk r (λ (tried : List (List ℕ)). tried ≡ places ds p i)
    → IfOk r (λ (tried : List (List ℕ)). (path : List ℕ) (dirs : List (List ℕ)) (includes : List Include) (include : Include) → IsLooking f list n path dirs includes → slice_get includes at ≡ Some include → tried ≡ places dirs path include)
places_are f list n at p ds given i here there are one (Err e) told = tt
places_are f list n at p ds given i here there are one (Ok tried) told = λ path dirs includes include looking is. (
    let same : given ≡ includes = same_includes f list n path dirs includes given looking are in
    let dirs_same : ds ≡ dirs = some_is ds dirs (sym there ∙ looking.dirs_are) in
    let path_same : p ≡ path = some_is p path (sym here ∙ looking.path_is) in
    let include_same : i ≡ include = some_is i include (sym one ∙ ap (λ (x : List Include). slice_get x at) same ∙ is) in
    told ∙ ap (λ (x : List (List ℕ)). places x p i) dirs_same ∙ ap (λ (x : List ℕ). places dirs x i) path_same ∙ ap (λ (x : Include). places dirs path x) include_same)

-- what was tried are the places of an include
pub tried_there : {E : Type 0} (f g : Knowledge) (list n at : ℕ) (tried given : List (List ℕ)) → given ≡ tried → ((path : List ℕ) (dirs : List (List ℕ)) (includes : List Include) (include : Include) → IsLooking f list n path dirs includes → slice_get includes at ≡ Some include → tried ≡ places dirs path include) → (r : Result (Option ℕ) E) → IfOk r (IsTried g given)
    → IfOk r (λ (target : Option ℕ). (path : List ℕ) (dirs : List (List ℕ)) (includes : List Include) (include : Include) → IsLooking f list n path dirs includes → slice_get includes at ≡ Some include → IsTried g (places dirs path include) target)
tried_there f g list n at tried given same are (Err e) told = tt
tried_there f g list n at tried given same are (Ok target) told = λ path dirs includes include looking is. subst (λ (ps : List (List ℕ)). IsTried g ps target) (same ∙ are path dirs includes include looking is) told

-- all includes were looked for
pub firsts_all : (f g : Knowledge) (list n : ℕ) (path : List ℕ) (dirs : List (List ℕ)) (includes given : List Include) (at : ℕ) (targets : List ℕ) → IsLooking f list n path dirs includes → ((file : FileFacts) → file_at f n ≡ Some file → file.includes ≡ Some given) → length given ≤ at → AreFirsts g dirs path (take at includes) targets → AreFirsts g dirs path includes targets
firsts_all f g list n path dirs includes given at targets looking are past firsts = subst (λ (is : List Include). AreFirsts g dirs path is targets) (take_all at includes (subst (λ (is : List Include). length is ≤ at) (same_includes f list n path dirs includes given looking are) past)) firsts
