-- A gathering to which paths are added keeps what it has, and one that is marked keeps the rest.
use Rattle.std.proofs.Common.{◌≡◌, ◌≢◌, ℕ, zero, suc, ◌+◌, Bool, true, false, cond, ◌||◌, is_some, List, [], ◌∷◌, ◌++◌, take, drop, get_or, set, Option, Some, None, ◌⊎◌, inl, inr, refl, sym, ap, subst, ◌∙◌, arith, length-append}
use Rattle.std.specs.Borrow.{Bor}
use Rattle.std.specs.Option.{option_copied}
use Rattle.std.specs.FinMap.{FinMap, get, insert}
use Rattle.std.specs.Ordering.{nat_cmp}
use Rattle.std.specs.Cmp.Lexicographic.{slice_cmp}
use Rattle.std.specs.List.{Contains, slice_get}
use Rattle.std.specs.Str.{bytes_eq}
use Rattle.std.proofs.lemmas.Bool.{both_ways}
use Rattle.std.proofs.lemmas.List.{length-set, take-append-drop}
use Rattle.std.proofs.lemmas.List.Elements.{Contains-append_left, Contains-push, Contains-push_cases}
use Rattle.std.proofs.lemmas.List.Folds.{list_any-append, list_any_at}
use Rattle.std.proofs.lemmas.List.Quantifiers.{all_pairs_push}
use Rattle.std.proofs.lemmas.Slice.Eq.{bytes_eq-Decides}
use Rattle.b2_plan.proofs.MakersGrowByOne.{get_put}
use Rattle.jam_scan.specs.Gatherings.{Gathering, IsInOrder, gathering, is_among, with_path, with_paths, with_mark, HasSomeOf}
use Rattle.jam_scan.proofs.FilesIncludeWhatLinesDo.{contains_here, contains_there, contains_cases}

-- ---- elements by their places

front_stays : {X : Type 0} (xs ys : List X) (i : ℕ) (x : X) → slice_get xs i ≡ Some x → slice_get (xs ++ ys) i ≡ Some x
front_stays [] ys i x e = cc
front_stays (y ∷ xs) ys zero x e = e
front_stays (y ∷ xs) ys (suc i) x e = front_stays xs ys i x e

front_or_last : {X : Type 0} (xs : List X) (y : X) (i : ℕ) (x : X) → slice_get (xs ++ y ∷ []) i ≡ Some x → (slice_get xs i ≡ Some x) ⊎ (y ≡ x)
front_or_last [] y zero x e = inr (let f : Some y ≡ Some x = e in cc)
front_or_last [] y (suc i) x e = cc
front_or_last (z ∷ xs) y zero x e = inl e
front_or_last (z ∷ xs) y (suc i) x e = front_or_last xs y i x e

pub set_there : {X : Type 0} (xs : List X) (i : ℕ) (x y : X) → slice_get xs i ≡ Some y → slice_get (set xs i x) i ≡ Some x
set_there [] i x y e = cc
set_there (z ∷ xs) zero x y e = refl
set_there (z ∷ xs) (suc i) x y e = set_there xs i x y e

-- an element after a write is the one that was written, or the one that was there
pub set_or_stays : {X : Type 0} (xs : List X) (i : ℕ) (x : X) (j : ℕ) (y : X) → slice_get (set xs i x) j ≡ Some y → (j ≡ i) ⊎ (slice_get xs j ≡ Some y)
set_or_stays [] i x j y e = inr e
set_or_stays (z ∷ xs) zero x zero y e = inl refl
set_or_stays (z ∷ xs) zero x (suc j) y e = inr e
set_or_stays (z ∷ xs) (suc i) x zero y e = inr e
set_or_stays (z ∷ xs) (suc i) x (suc j) y e = elim (set_or_stays xs i x j y e) [ inl same ↦ inl (ap suc same) | inr stays ↦ inr stays ]

-- the mark of a place stays or becomes true
pub true_stays : (xs : List Bool) (i j : ℕ) → slice_get xs j ≡ Some true → slice_get (set xs i true) j ≡ Some true
true_stays [] i j e = e
true_stays (z ∷ xs) zero zero e = refl
true_stays (z ∷ xs) zero (suc j) e = e
true_stays (z ∷ xs) (suc i) zero e = e
true_stays (z ∷ xs) (suc i) (suc j) e = true_stays xs i j e

pub at_contains : {X : Type 0} (xs : List X) (i : ℕ) (x : X) → slice_get xs i ≡ Some x → Contains xs x
at_contains [] i x e = cc
at_contains (y ∷ xs) zero x e = let f : Some y ≡ Some x = e in let g : y ≡ x = cc in subst (Contains (y ∷ xs)) g (contains_here y xs)
at_contains (y ∷ xs) (suc i) x e = contains_there y x xs (at_contains xs i x e)

-- ---- one more path

pub path_there : (g : Gathering) (path : List ℕ) → is_among g.members path ≡ true → with_path g path ≡ g
unfolding with_path
path_there g path there = ap (λ b. cond b g (gathering (g.members ++ path ∷ []) (g.scanned ++ false ∷ []))) there

pub path_new : (g : Gathering) (path : List ℕ) → is_among g.members path ≡ false → with_path g path ≡ gathering (g.members ++ path ∷ []) (g.scanned ++ false ∷ [])
unfolding with_path
path_new g path absent = ap (λ b. cond b g (gathering (g.members ++ path ∷ []) (g.scanned ++ false ∷ []))) absent

-- a member is among the members, and nothing else is
pub among_is : (members : List (List ℕ)) (path : List ℕ) → is_among members path ≡ true → Contains members path
among_is [] path e = cc
among_is (first ∷ members) path e = go (bytes_eq path first) refl (among_is members path) e
  where
    go : (b : Bool) → bytes_eq path first ≡ b → (is_among members path ≡ true → Contains members path) → (b || is_among members path) ≡ true → Contains (first ∷ members) path
    go true here more e = subst (Contains (first ∷ members)) (sym ((bytes_eq-Decides path first).0 here)) (contains_here first members)
    go false here more e = contains_there first path members (more e)

pub in_order_more : (members : List (List ℕ)) (scanned : List Bool) (path : List ℕ) → IsInOrder (gathering members scanned) → is_among members path ≡ false → IsInOrder (gathering (members ++ path ∷ []) (scanned ++ false ∷ []))
in_order_more members scanned path order absent = record {
  distinct = all_pairs_push (λ p q. p ≢ q) members path order.distinct
      (λ k d l e. both_ways (is_among members path) absent (list_any_at (bytes_eq path) members k d l ((bytes_eq-Decides path (get_or members k d)).1 (sym e))));
  as_many = length-append scanned (false ∷ []) ∙ ap (λ n. n + 1) order.as_many ∙ sym (length-append members (path ∷ []));
}

or_more : {V : Type 0} (a b : Bool) (v : V) (o : Option V) → is_some o ≡ a → is_some (cond b (Some v) o) ≡ (a || (b || false))
or_more a true v o e = sym (or_true a)
  where
    or_true : (a : Bool) → (a || true) ≡ true
    or_true true = refl
    or_true false = refl
or_more a false v o e = e ∙ sym (or_false a)
  where
    or_false : (a : Bool) → (a || false) ≡ a
    or_false true = refl
    or_false false = refl

pub map_more : {V : Type 0} (m : FinMap (slice_cmp nat_cmp) V) (value : V) (members : List (List ℕ)) (path : List ℕ) → ((p : List ℕ) → is_some (get m p) ≡ is_among members p) → (p : List ℕ) → is_some (get (insert m path value) p) ≡ is_among (members ++ path ∷ []) p
map_more m value members path agrees p =
    ap is_some (get_put m path value p) ∙ or_more (is_among members p) (bytes_eq p path) value (get m p) (agrees p) ∙ sym (list_any-append (bytes_eq p) members (path ∷ []))

-- ---- some more paths

pub some_so_far : (before after : Gathering) (paths : List (List ℕ)) (i : ℕ) → after ≡ with_paths before (take i paths) → HasSomeOf before paths after
some_so_far before after paths i e = record { came = take i paths; left = drop i paths; paths_are = sym (take-append-drop i paths); after_is = e }

one_mark_stays : (g : Gathering) (path : List ℕ) (at : ℕ) (mark : Bool) → slice_get g.scanned at ≡ Some mark → slice_get (with_path g path).scanned at ≡ Some mark
one_mark_stays g path at mark e = go (is_among g.members path) refl
  where
    go : (b : Bool) → is_among g.members path ≡ b → slice_get (with_path g path).scanned at ≡ Some mark
    go true there = ap (λ h. slice_get h.scanned at) (path_there g path there) ∙ e
    go false absent = ap (λ h. slice_get h.scanned at) (path_new g path absent) ∙ front_stays g.scanned (false ∷ []) at mark e

-- what is told of a place stays
pub marks_stay : (g : Gathering) (paths : List (List ℕ)) (at : ℕ) (mark : Bool) → slice_get g.scanned at ≡ Some mark → slice_get (with_paths g paths).scanned at ≡ Some mark
marks_stay g [] at mark e = e
marks_stay g (path ∷ paths) at mark e = marks_stay (with_path g path) paths at mark (one_mark_stays g path at mark e)

-- what stays and what comes as paths are added
pub record Grows (g : Gathering) (paths : List (List ℕ)) (h : Gathering) : Type 0 where
  pub order : IsInOrder h
  pub members : (at : ℕ) (path : List ℕ) → slice_get g.members at ≡ Some path → slice_get h.members at ≡ Some path
  pub none_marked : (at : ℕ) → slice_get h.scanned at ≡ Some true → slice_get g.scanned at ≡ Some true
  pub stay : (path : List ℕ) → Contains g.members path → Contains h.members path
  pub come : (path : List ℕ) → Contains paths path → Contains h.members path
  pub no_others : (path : List ℕ) → Contains h.members path → Contains g.members path ⊎ Contains paths path

grows_by_one : (g : Gathering) (path : List ℕ) → IsInOrder g → Grows g (path ∷ []) (with_path g path)
grows_by_one g path order = go (is_among g.members path) refl
  where
    is_it : (p : List ℕ) → Contains (path ∷ []) p → path ≡ p
    is_it p c = elim (contains_cases path p [] c) [ inl e ↦ e | inr later ↦ absurd (omega (arith, later.1)) ]

    go : (b : Bool) → is_among g.members path ≡ b → Grows g (path ∷ []) (with_path g path)
    go true there = subst (Grows g (path ∷ [])) (sym (path_there g path there)) (record {
      order = order;
      members = λ at p e. e;
      none_marked = λ at e. e;
      stay = λ p c. c;
      come = λ p c. subst (Contains g.members) (is_it p c) (among_is g.members path there);
      no_others = λ p c. inl c;
    })
    go false absent = subst (Grows g (path ∷ [])) (sym (path_new g path absent)) (record {
      order = in_order_more g.members g.scanned path order absent;
      members = λ at p e. front_stays g.members (path ∷ []) at p e;
      none_marked = λ at e. elim (front_or_last g.scanned false at true e) [ inl old ↦ old | inr new ↦ cc ];
      stay = λ p c. Contains-append_left g.members (path ∷ []) p c;
      come = λ p c. subst (Contains (g.members ++ path ∷ [])) (is_it p c) (Contains-push g.members path);
      no_others = λ p c. elim (Contains-push_cases g.members path p c) [ inl old ↦ inl old | inr e ↦ inr (subst (Contains (path ∷ [])) e (contains_here path [])) ];
    })

pub grows : (g : Gathering) (paths : List (List ℕ)) → IsInOrder g → Grows g paths (with_paths g paths)
grows g [] order = record {
  order = order;
  members = λ at p e. e;
  none_marked = λ at e. e;
  stay = λ p c. c;
  come = λ p c. absurd (omega (arith, c.1));
  no_others = λ p c. inl c;
}
grows g (path ∷ paths) order =
    let one = grows_by_one g path order in
    let more = grows (with_path g path) paths one.order in
    record {
      order = more.order;
      members = λ at p e. more.members at p (one.members at p e);
      none_marked = λ at e. one.none_marked at (more.none_marked at e);
      stay = λ p c. more.stay p (one.stay p c);
      come = λ p c. elim (contains_cases path p paths c) [ inl e ↦ more.stay p (one.come p (subst (Contains (path ∷ [])) e (contains_here path []))) | inr later ↦ more.come p later ];
      no_others = λ p c. elim (more.no_others p c) [
        | inl old ↦ elim (one.no_others p old) [ inl older ↦ inl older | inr first ↦ inr (elim (contains_cases path p [] first) [ inl e ↦ subst (Contains (path ∷ paths)) e (contains_here path paths) | inr none ↦ absurd (omega (arith, none.1)) ]) ]
        | inr later ↦ inr (contains_there path p paths later)
      ];
    }

-- a marked gathering is in order
pub marked_in_order : (g : Gathering) (at : ℕ) → IsInOrder g → IsInOrder (with_mark g at)
marked_in_order g at order = record { distinct = order.distinct; as_many = length-set g.scanned at true ∙ order.as_many }

-- ---- the fields of a closure

copied_some : {V : Type 0} (r : Option (Bor V)) → is_some (option_copied r) ≡ is_some r
copied_some None = refl
copied_some (Some x) = refl

-- what the map finds tells whether a path is a member
pub found_among : {V : Type 0} (m : FinMap (slice_cmp nat_cmp) V) (members : List (List ℕ)) (text path : List ℕ) (r : Option (Bor V)) → option_copied r ≡ get m text → text ≡ path → ((p : List ℕ) → is_some (get m p) ≡ is_among members p) → is_some r ≡ is_among members path
found_among m members text path r found same agrees = sym (copied_some r) ∙ ap is_some found ∙ ap (λ t. is_some (get m t)) same ∙ agrees path

-- one more path in the lists and in the map
pub path_added : {V : Type 0} (m n : FinMap (slice_cmp nat_cmp) V) (value : V) (members more : List (List ℕ)) (scanned marks : List Bool) (path : List ℕ)
    → IsInOrder (gathering members scanned) × ((p : List ℕ) → is_some (get m p) ≡ is_among members p) → is_among members path ≡ false → more ≡ members ++ path ∷ [] → marks ≡ scanned ++ false ∷ [] → n ≡ insert m path value
    → IsInOrder (gathering more marks) × ((p : List ℕ) → is_some (get n p) ≡ is_among more p)
path_added m n value members more scanned marks path kept absent e f i = (
  subst (λ ms. IsInOrder (gathering ms marks)) (sym e) (subst (λ ss. IsInOrder (gathering (members ++ path ∷ []) ss)) (sym f) (in_order_more members scanned path kept.0 absent)),
  λ p. ap (λ x. is_some (get x p)) i ∙ map_more m value members path kept.1 p ∙ ap (λ ms. is_among ms p) (sym e),
)
