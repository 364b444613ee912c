-- Entries without repeats, one after another.
use Rattle.std.proofs.Common.{◌≡◌, ℕ, ◌+◌, ◌<◌, ◌≤◌, Bool, true, false, not, ◌&&◌, ◌||◌, cond, List, [], ◌∷◌, ◌++◌, Option, Some, None, is_some, take, take_all, get_or, length, refl, sym, ◌∙◌, ap, append_assoc}
use Rattle.std.specs.List.{filter, flat_map, fold}
use Rattle.std.specs.Borrow.{Bor}
use Rattle.std.specs.Option.{option_copied}
use Rattle.std.proofs.lemmas.Cmp.{nat_list_cmp_total}
use Rattle.std.proofs.lemmas.List.Sums.{fold-append}
use Rattle.std.proofs.lemmas.List.Concat.{flat_map-append}
use Rattle.std.proofs.lemmas.List.Elements.{filter-append}
use Rattle.b2_props.proofs.DraftHoldsEachGainedPair.{next_take}
use Rattle.b2_virtual.specs.declared.entry.Supply.{Supply}
use Rattle.std.specs.Str.{bytes_eq}
use Rattle.std.specs.Ordering.{nat_cmp}
use Rattle.std.specs.Cmp.Lexicographic.{slice_cmp}
use Rattle.std.specs.FinMap.{FinMap, get, insert, from_entries, get-from_entries}
use Rattle.std.proofs.lemmas.List.{append-nil}
use Rattle.std.proofs.lemmas.List.Folds.{list_any-append}
use Rattle.b2_plan.proofs.MakersGrowByOne.{get_put}
use Rattle.b2_props.proofs.RepeatedPairsAddNothing.{text_is, text_sym}
use Rattle.b2_virtual.specs.declared.entry.Entry.{Entry}
use Rattle.b2_virtual.specs.Supplies.{is_library, without_repeats}
use Rattle.b2_virtual.specs.Repeats.{has_path, with_entry, HasPaths}

-- ---- two tests, one after the other

pub filter_twice : {X : Type 0} (p q r : X → Bool) → ((x : X) → r x ≡ (q x && p x)) → (xs : List X) → filter r xs ≡ filter p (filter q xs)
filter_twice p q r same [] = refl
filter_twice {X} p q r same (x ∷ xs) = ap (λ b. cond b (x ∷ filter r xs) (filter r xs)) (same x) ∙ go (q x) (p x) refl (filter_twice p q r same xs)
  where
    go : (a b : Bool) → p x ≡ b → filter r xs ≡ filter p (filter q xs) → cond (a && b) (x ∷ filter r xs) (filter r xs) ≡ filter p (cond a (x ∷ filter q xs) (filter q xs))
    go true true e rest = ap (λ (ys : List X). x ∷ ys) rest ∙ sym (ap (λ c. cond c (x ∷ filter p (filter q xs)) (filter p (filter q xs))) e)
    go true false e rest = rest ∙ sym (ap (λ c. cond c (x ∷ filter p (filter q xs)) (filter p (filter q xs))) e)
    go false b e rest = rest

pub filter_same : {X : Type 0} (p q : X → Bool) → ((x : X) → p x ≡ q x) → (xs : List X) → filter p xs ≡ filter q xs
filter_same p q same [] = refl
filter_same {X} p q same (x ∷ xs) = ap (λ b. cond b (x ∷ filter p xs) (filter p xs)) (same x) ∙ ap (λ (ys : List X). cond (q x) (x ∷ ys) ys) (filter_same p q same xs)

filter_all : {X : Type 0} (xs : List X) → filter (λ x. true) xs ≡ xs
filter_all [] = refl
filter_all {X} (x ∷ xs) = ap (λ (ys : List X). x ∷ ys) (filter_all xs)

-- ---- paths that are there

has_path-push : (entries : List Entry) (e : Entry) (path : List ℕ) → has_path (entries ++ e ∷ []) path ≡ (has_path entries path || bytes_eq path e.path)
has_path-push entries e path = list_any-append (λ x. bytes_eq path x.path) entries (e ∷ []) ∙ ap (λ b. has_path entries path || b) (go (bytes_eq path e.path))
  where
    go : (b : Bool) → (b || false) ≡ b
    go true = refl
    go false = refl

-- what is left of entries where some paths were there before
abbrev pub left : List Entry → List Entry → List Entry
left before entries = filter (λ e. not (has_path before e.path)) entries

-- where the path of an entry is there already, the other ones of this path are left out too
left_known : (before : List Entry) (e : Entry) (xs : List Entry) → has_path before e.path ≡ true → left before xs ≡ left before (filter (λ o. not (bytes_eq e.path o.path)) xs)
left_known before e xs here = filter_twice (λ o. not (has_path before o.path)) (λ o. not (bytes_eq e.path o.path)) (λ o. not (has_path before o.path)) (λ o. go o (bytes_eq e.path o.path) refl) xs
  where
    go : (o : Entry) (b : Bool) → bytes_eq e.path o.path ≡ b → not (has_path before o.path) ≡ (not b && not (has_path before o.path))
    go o true same = ap not (ap (has_path before) (sym (text_is e.path o.path same)) ∙ here)
    go o false same = refl

left_new : (before : List Entry) (e : Entry) (xs : List Entry) → left (before ++ e ∷ []) xs ≡ left before (filter (λ o. not (bytes_eq e.path o.path)) xs)
left_new before e xs =
    filter_twice (λ o. not (has_path before o.path)) (λ o. not (bytes_eq e.path o.path)) (λ o. not (has_path (before ++ e ∷ []) o.path))
    (λ o. ap not (has_path-push before e o.path ∙ ap (λ b. has_path before o.path || b) (text_sym o.path e.path)) ∙ go (has_path before o.path) (bytes_eq e.path o.path)) xs
  where
    go : (a b : Bool) → not (a || b) ≡ (not b && not a)
    go true true = refl
    go true false = refl
    go false true = refl
    go false false = refl

-- entries after others, one after another
pub fold_is : (before xs : List Entry) → fold with_entry before xs ≡ before ++ left before (without_repeats xs)
fold_is before [] = sym (append-nil before)
fold_is before (e ∷ xs) = go (has_path before e.path) refl (fold_is before xs) (fold_is (before ++ e ∷ []) xs)
  where
    others : List Entry
    others = filter (λ o. not (bytes_eq e.path o.path)) (without_repeats xs)

    go : (b : Bool) → has_path before e.path ≡ b → fold with_entry before xs ≡ before ++ left before (without_repeats xs)
        → fold with_entry (before ++ e ∷ []) xs ≡ (before ++ e ∷ []) ++ left (before ++ e ∷ []) (without_repeats xs)
        → fold with_entry (with_entry before e) xs ≡ before ++ left before (e ∷ others)
    go true here same more =
        ap (λ b. fold with_entry (cond b before (before ++ e ∷ [])) xs) here ∙ same
        ∙ ap (λ (ys : List Entry). before ++ ys) (left_known before e (without_repeats xs) here ∙ sym (ap (λ b. cond (not b) (e ∷ left before others) (left before others)) here))
    go false here same more =
        ap (λ b. fold with_entry (cond b before (before ++ e ∷ [])) xs) here ∙ more ∙ append_assoc before (e ∷ []) (left (before ++ e ∷ []) (without_repeats xs))
        ∙ ap (λ (ys : List Entry). before ++ ys) (ap (λ (ys : List Entry). e ∷ ys) (left_new before e (without_repeats xs)) ∙ sym (ap (λ b. cond (not b) (e ∷ left before others) (left before others)) here))

pub all_distinct : (xs : List Entry) → fold with_entry [] xs ≡ without_repeats xs
all_distinct xs = fold_is [] xs ∙ filter_all (without_repeats xs)

-- ---- the set of the paths

pub has_paths_push : (entries : List Entry) (e : Entry) (old new : FinMap (slice_cmp nat_cmp) (Unit {0})) → HasPaths entries old → new ≡ insert old e.path tt → HasPaths (entries ++ e ∷ []) new
has_paths_push entries e old new before is = record {
  paths_are = λ path.
      ap (λ m. is_some (get m path)) is ∙ ap is_some (get_put old e.path tt path) ∙ go (bytes_eq path e.path) path
      ∙ ap (λ b. b || bytes_eq path e.path) (before.paths_are path) ∙ sym (has_path-push entries e path);
}
  where
    go : (b : Bool) (path : List ℕ) → is_some (cond b (Some tt) (get old path)) ≡ (is_some (get old path) || b)
    go true path = sym (or_true (is_some (get old path)))
      where
        or_true : (a : Bool) → (a || true) ≡ true
        or_true true = refl
        or_true false = refl
    go false path = sym (or_false (is_some (get old path)))
      where
        or_false : (a : Bool) → (a || false) ≡ a
        or_false true = refl
        or_false false = refl

pub has_paths_none : (entries : List Entry) (paths : FinMap (slice_cmp nat_cmp) (Unit {0})) → entries ≡ [] → paths ≡ from_entries [] → HasPaths entries paths
has_paths_none entries paths none empty = record {
  paths_are = λ path. ap (λ m. is_some (get m path)) empty ∙ ap is_some (get-from_entries nat_list_cmp_total [] path) ∙ sym (ap (λ es. has_path es path) none);
}

pub copied_some : {X : Type 0} (r : Option (Bor X)) → is_some r ≡ is_some (option_copied r)
copied_some None = refl
copied_some (Some b) = refl

pub entry_there : (entries : List Entry) (e : Entry) (paths : FinMap (slice_cmp nat_cmp) (Unit {0})) → HasPaths entries paths → is_some (get paths e.path) ≡ true → entries ≡ with_entry entries e
entry_there entries e paths has found = sym (ap (λ b. cond b entries (entries ++ e ∷ [])) (sym (has.paths_are e.path) ∙ found))

pub entry_new : (entries : List Entry) (e : Entry) (paths : FinMap (slice_cmp nat_cmp) (Unit {0})) → HasPaths entries paths → is_some (get paths e.path) ≡ false → entries ++ e ∷ [] ≡ with_entry entries e
entry_new entries e paths has found = sym (ap (λ b. cond b entries (entries ++ e ∷ [])) (sym (has.paths_are e.path) ∙ found))

-- ---- one entry more

pub fold_next : (start xs : List Entry) (i : ℕ) (x : Entry) → i < length xs → x ≡ get_or xs i x → fold with_entry start (take (i + 1) xs) ≡ with_entry (fold with_entry start (take i xs)) x
fold_next start xs i x within is = ap (fold with_entry start) (next_take xs i x within is) ∙ fold-append with_entry start (take i xs) (x ∷ [])

pub library_next : (start xs : List Entry) (i : ℕ) (x : Entry) → i < length xs → x ≡ get_or xs i x
    → fold with_entry start (filter is_library (take (i + 1) xs)) ≡ fold with_entry (fold with_entry start (filter is_library (take i xs))) (filter is_library (x ∷ []))
library_next start xs i x within is =
    ap (λ (ys : List Entry). fold with_entry start (filter is_library ys)) (next_take xs i x within is)
    ∙ ap (fold with_entry start) (filter-append is_library (take i xs) (x ∷ [])) ∙ fold-append with_entry start (filter is_library (take i xs)) (filter is_library (x ∷ []))

pub library_yes : (entries : List Entry) (e : Entry) → is_library e ≡ true → with_entry entries e ≡ fold with_entry entries (filter is_library (e ∷ []))
library_yes entries e is = sym (ap (λ b. fold with_entry entries (cond b (e ∷ []) [])) is)

pub library_no : (entries : List Entry) (e : Entry) → is_library e ≡ false → entries ≡ fold with_entry entries (filter is_library (e ∷ []))
library_no entries e is = sym (ap (λ b. fold with_entry entries (cond b (e ∷ []) [])) is)

-- ---- one supply more

pub gathered_next : (f : Supply → List Entry) (xs : List Supply) (i : ℕ) (x : Supply) → i < length xs → x ≡ get_or xs i x
    → fold with_entry [] (flat_map f (take (i + 1) xs)) ≡ fold with_entry (fold with_entry [] (flat_map f (take i xs))) (f x)
gathered_next f xs i x within is =
    ap (λ (ys : List Supply). fold with_entry [] (flat_map f ys)) (next_take xs i x within is)
    ∙ ap (fold with_entry []) (flat_map-append f (take i xs) (x ∷ []) ∙ ap (λ (ys : List Entry). flat_map f (take i xs) ++ ys) (append-nil (f x)))
    ∙ fold-append with_entry [] (flat_map f (take i xs)) (f x)

-- all of them
pub gathered_all : (f : Supply → List Entry) (xs : List Supply) (i : ℕ) → length xs ≤ i → fold with_entry [] (flat_map f (take i xs)) ≡ without_repeats (flat_map f xs)
gathered_all f xs i over = ap (λ (ys : List Supply). fold with_entry [] (flat_map f ys)) (take_all i xs over) ∙ all_distinct (flat_map f xs)
