-- Which names of a module have a variable.
use Rattle.std.proofs.Common.{T, Bor, String, string_bytes, ◌≡◌, true, false, Bool, not, ◌&&◌, ◌||◌, cond, List, [], ◌∷◌, ◌++◌, map as each, Option, Some, None, is_some, refl, sym, ap, subst, ◌∙◌}
use Rattle.std.specs.declared.cmp.Ordering.{Ordering}
use Rattle.std.specs.declared.cmp.Ordering.TheVariants.{Less, Equal, Greater}
use Rattle.std.specs.Option.{option_map}
use Rattle.std.specs.Ordering.{nat_cmp, is_lt, eq_by_cmp}
use Rattle.std.specs.Cmp.Lexicographic.{slice_cmp}
use Rattle.std.specs.List.{filter, list_any, AllByRecursion}
use Rattle.std.specs.List.Sorted.{IsStrictlySortedBy}
use Rattle.std.specs.Str.{bytes_eq}
use Rattle.std.specs.FinMap as map
use Rattle.std.specs.FinMap.{get, insert, keys, entries, entries_sorted, contains_key-keys}
use Rattle.std.specs.FinMap.Entries.{find, is_sorted, below_all, is_some-find, same_entries}
use Rattle.std.proofs.lemmas.Cmp.{nat_list_cmp_total, nat_list_eq_equiv}
use Rattle.std.proofs.lemmas.List.Folds.{list_any-append}
use Rattle.std.proofs.lemmas.List.Kept.{IsStrictlySortedBy-filter}
use Rattle.std.proofs.lemmas.Map.Lookups.{exact_bytes}
use Rattle.std.proofs.lemmas.Map.Text.{is_eq-slice_cmp}
use Rattle.std.proofs.lemmas.Slice.Eq.{bytes_eq-Decides}
use Rattle.jam_journal.specs.declared.registers.Cell.{Cell}
use Rattle.jam_journal.specs.declared.registers.Registers.{Registers}
use Rattle.jam_journal.specs.declared.registers.Scope.{Scope}
use Rattle.jam_journal.specs.declared.registers.Scope.TheVariants.{Opened, Called, Bound}
use Rattle.jam_journal.specs.Tables.{Text, Key, Table, Names, key_cmp, put, put_back, row_of}
use Rattle.jam_journal.specs.Stacks.{step_back, closed, values_of, owner_before, is_unset, unset_by, AreNoted}
use Rattle.jam_journal.proofs.ReplacingTouchesOneName.{both_hold, get_put_name}
use Rattle.jam_journal.proofs.ReplacingTouchesOnePair.{get_row, by_both, there, elsewhere}
use Rattle.jam_journal.proofs.LookupsFindWhatCellsHold.{get_values_of}

-- ---- entries one after another

pub owner_then : (owner : Text) (es fs : List Scope) → owner_before owner (es ++ fs) ≡ owner_before (owner_before owner es) fs
owner_then owner [] fs = refl
owner_then owner (Opened before ∷ es) fs = owner_then before es fs
owner_then owner (Called before caller ∷ es) fs = owner_then before es fs
owner_then owner (Bound name before outer ∷ es) fs = owner_then owner es fs

longer : (t : Bool) (name : Text) (xs ys zs : List Text) → xs ≡ ys ++ zs → cond t (name ∷ xs) xs ≡ cond t (name ∷ ys) ys ++ zs
longer true name xs ys zs e = ap (λ more. name ∷ more) e
longer false name xs ys zs e = e

pub unset_then : (home owner : Text) (es fs : List Scope) → unset_by home owner (es ++ fs) ≡ unset_by home owner es ++ unset_by home (owner_before owner es) fs
unset_then home owner [] fs = refl
unset_then home owner (Opened before ∷ es) fs = unset_then home before es fs
unset_then home owner (Called before caller ∷ es) fs = unset_then home before es fs
unset_then home owner (Bound name before outer ∷ es) fs =
    longer (is_unset home owner before) name _ _ _ (unset_then home owner es fs)

or_assoc : (a b c : Bool) → ((a || b) || c) ≡ (a || (b || c))
or_assoc true b c = refl
or_assoc false b c = refl

-- more names are noted after others
pub noted_then : (a b c : Names (Unit {0})) (xs ys zs : List Text) → AreNoted a b xs → AreNoted b c ys → zs ≡ xs ++ ys → AreNoted a c zs
noted_then a b c xs ys zs one two e name =
    two name ∙ ap (λ t. t || list_any (bytes_eq name) ys) (one name)
    ∙ or_assoc (is_some (get a name)) (list_any (bytes_eq name) xs) (list_any (bytes_eq name) ys)
    ∙ ap (λ t. is_some (get a name) || t) (sym (list_any-append (bytes_eq name) xs ys))
    ∙ ap (λ l. is_some (get a name) || list_any (bytes_eq name) l) (sym e)

same_or : (b : Bool) → b ≡ (b || false)
same_or true = refl
same_or false = refl

pub noted_none : (a : Names (Unit {0})) → AreNoted a a []
noted_none a name = same_or (is_some (get a name))

pub noted_one : (a : Names (Unit {0})) (key : Text) (u : Unit {0}) → AreNoted a (insert a key u) (key ∷ [])
noted_one a key u name = ap is_some (get_put_name a key (Some u) name) ∙ by (bytes_eq name key) (get a name)
  where
    by : (t : Bool) (o : Option (Unit {0})) → is_some (cond t (Some u) o) ≡ (is_some o || (t || false))
    by true None = refl
    by true (Some x) = refl
    by false o = same_or (is_some o)

-- ---- closing

and_true : (b : Bool) → b ≡ (b && not false)
and_true true = refl
and_true false = refl

-- what is put back at a key is there, if something was
back_here : (m : Table Cell) (k : Key) (x : Option Cell) (t : Bool) → is_some (get m k) ≡ t → is_some (get (cond t (put m k x) m) k) ≡ (t && is_some x)
back_here m k x true e = ap is_some (there m k x)
back_here m k x false e = e

back_apart : (m : Table Cell) (k q : Key) (x : Option Cell) (t : Bool) → eq_by_cmp key_cmp q k ≡ false → is_some (get (cond t (put m k x) m) q) ≡ is_some (get m q)
back_apart m k q x true e = ap is_some (elsewhere m k q x e)
back_apart m k q x false e = refl

and_false : (a : Bool) → (a && false) ≡ false
and_false true = refl
and_false false = refl

-- a text among others, of which one may not count
any_if : (c : Bool) (other name : Text) (rest : List Text) → list_any (bytes_eq other) (cond c (name ∷ rest) rest) ≡ ((c && bytes_eq other name) || list_any (bytes_eq other) rest)
any_if true other name rest = refl
any_if false other name rest = refl

one_back : (t u x a y : Bool) → (cond (t && u) (a && x) a && not y) ≡ (a && not (((t && not x) && u) || y))
one_back true true true true y = refl
one_back true true true false y = refl
one_back true true false true y = refl
one_back true true false false y = refl
one_back true false true a y = refl
one_back true false false a y = refl
one_back false u x a y = refl

module _ (home : Text) where
  abbrev is_there : Table Cell → Text → Bool
  is_there cells name = is_some (get cells (home, name))

  put_back_there : (cells : Table Cell) (owner name other : Text) (before : Option Cell) (t u : Bool) → bytes_eq owner home ≡ t → bytes_eq other name ≡ u
      → is_there (put_back cells (owner, name) before) other ≡ cond (t && u) (is_there cells other && is_some before) (is_there cells other)
  put_back_there cells owner name other before true true e f =
      let same : ◌≡◌ {A = Key} (home, other) (owner, name) = λ i. (sym ((bytes_eq-Decides owner home).0 e) i, (bytes_eq-Decides other name).0 f i) in
      ap (λ q. is_some (get (put_back cells (owner, name) before) q)) same
      ∙ back_here cells (owner, name) before (is_some (get cells (owner, name))) refl
      ∙ ap (λ q. is_some (get cells q) && is_some before) (sym same)
  put_back_there cells owner name other before true false e f =
      back_apart cells (owner, name) (home, other) before (is_some (get cells (owner, name)))
      (by_both home other owner name ∙ ap (λ b. bytes_eq home owner && b) f ∙ and_false (bytes_eq home owner))
  put_back_there cells owner name other before false u e f =
      back_apart cells (owner, name) (home, other) before (is_some (get cells (owner, name)))
      (by_both home other owner name ∙ ap (λ b. b && bytes_eq other name) (nat_list_eq_equiv.symm home owner ∙ e))

  -- one binding that is taken back
  back_one : (cells : Table Cell) (owner name other : Text) (before : Option Cell) (rest : List Text)
      → (is_there (put_back cells (owner, name) before) other && not (list_any (bytes_eq other) rest))
      ≡ (is_there cells other && not (list_any (bytes_eq other) (cond (is_unset home owner before) (name ∷ rest) rest)))
  back_one cells owner name other before rest =
      ap (λ b. b && not (list_any (bytes_eq other) rest)) (put_back_there cells owner name other before (bytes_eq owner home) (bytes_eq other name) refl refl)
      ∙ one_back (bytes_eq owner home) (bytes_eq other name) (is_some before) (is_there cells other) (list_any (bytes_eq other) rest)
      ∙ ap (λ b. is_there cells other && not b) (sym (any_if (is_unset home owner before) other name rest))

  -- what is left of the cells when all frames are closed
  pub closed_has : (es : List Scope) (r : Registers) (name : Text) → is_there (closed es r).cells name ≡ (is_there r.cells name && not (list_any (bytes_eq name) (unset_by home r.owner es)))
  closed_has [] r name = and_true (is_there r.cells name)
  closed_has (Opened owner ∷ es) r name = closed_has es (step_back (Opened owner) r) name
  closed_has (Called owner caller ∷ es) r name = closed_has es (step_back (Called owner caller) r) name
  closed_has (Bound bound before outer ∷ es) r name =
      closed_has es (step_back (Bound bound before outer) r) name
      ∙ back_one r.cells r.owner bound name before (unset_by home r.owner es)

-- ---- keys

-- texts as the keys of entries
abbrev as_marks : List Text → List (Text × Unit {0})
as_marks xs = each (λ x. (x, tt)) xs

unmarked : (xs : List Text) → each (λ e. e.0) (as_marks xs) ≡ xs
unmarked [] = refl
unmarked (x ∷ xs) = ap (λ more. x ∷ more) (unmarked xs)

less_of : (r : Ordering) → T (is_lt r) → r ≡ Less
less_of Less h = refl
less_of Equal h = absurd h
less_of Greater h = absurd h

first_holds : (a b : Bool) → T (a && b) → T a
first_holds true b h = tt
first_holds false b h = h

second_holds : (a b : Bool) → T (a && b) → T b
second_holds true b h = h
second_holds false b h = absurd h

all_above : {X : Type 0} (x : Text) (es : List (Text × X)) → T (below_all (slice_cmp nat_cmp) x es) → AllByRecursion (λ y. slice_cmp nat_cmp x y ≡ Less) (each (λ e. e.0) es)
all_above x [] h = tt
all_above x (e ∷ es) h = (less_of _ (first_holds _ _ h), all_above x es (second_holds _ _ h))

keys_rise : {X : Type 0} (es : List (Text × X)) → T (is_sorted (slice_cmp nat_cmp) es) → IsStrictlySortedBy (slice_cmp nat_cmp) (each (λ e. e.0) es)
unfolding IsStrictlySortedBy
keys_rise [] h = tt
keys_rise (e ∷ es) h = (all_above e.0 es (first_holds _ _ h), keys_rise es (second_holds _ _ h))

marks_above : (x : Text) (xs : List Text) → AllByRecursion (λ y. slice_cmp nat_cmp x y ≡ Less) xs → T (below_all (slice_cmp nat_cmp) x (as_marks xs))
marks_above x [] h = tt
marks_above x (y ∷ xs) h = both_hold _ _ (subst (λ r. T (is_lt r)) (sym h.0) tt) (marks_above x xs h.1)

marks_rise : (xs : List Text) → IsStrictlySortedBy (slice_cmp nat_cmp) xs → T (is_sorted (slice_cmp nat_cmp) (as_marks xs))
unfolding IsStrictlySortedBy
marks_rise [] h = tt
marks_rise (x ∷ xs) h = both_hold _ _ (marks_above x xs h.0) (marks_rise xs h.1)

same_unit : (a b : Option (Unit {0})) → is_some a ≡ is_some b → a ≡ b
same_unit None None e = refl
same_unit None (Some y) e = cc
same_unit (Some x) None e = cc
same_unit (Some x) (Some y) e = refl

among_marks : (q : Text) (xs : List Text) → is_some (find (slice_cmp nat_cmp) q (as_marks xs)) ≡ list_any (eq_by_cmp (slice_cmp nat_cmp) q) xs
among_marks q xs = is_some-find (slice_cmp nat_cmp) q (as_marks xs) ∙ ap (list_any (eq_by_cmp (slice_cmp nat_cmp) q)) (unmarked xs)

-- a text among those that pass a test
among_kept : (p : Text → Bool) (q : Text) (xs : List Text) → list_any (eq_by_cmp (slice_cmp nat_cmp) q) (filter p xs) ≡ (list_any (eq_by_cmp (slice_cmp nat_cmp) q) xs && p q)
among_kept p q [] = refl
among_kept p q (x ∷ xs) = by (p x) refl (eq_by_cmp (slice_cmp nat_cmp) q x) refl (among_kept p q xs)
  where
    tied : (y : Text) → eq_by_cmp (slice_cmp nat_cmp) q y ≡ true → q ≡ y
    tied y f = (bytes_eq-Decides q y).0 (sym (is_eq-slice_cmp q y) ∙ f)

    by : (t : Bool) → p x ≡ t → (u : Bool) → eq_by_cmp (slice_cmp nat_cmp) q x ≡ u → list_any (eq_by_cmp (slice_cmp nat_cmp) q) (filter p xs) ≡ (list_any (eq_by_cmp (slice_cmp nat_cmp) q) xs && p q)
        → list_any (eq_by_cmp (slice_cmp nat_cmp) q) (cond t (x ∷ filter p xs) (filter p xs)) ≡ ((u || list_any (eq_by_cmp (slice_cmp nat_cmp) q) xs) && p q)
    by true e true f again = ap (λ b. b || list_any (eq_by_cmp (slice_cmp nat_cmp) q) (filter p xs)) f ∙ sym (ap p (tied x f) ∙ e)
    by true e false f again = ap (λ b. b || list_any (eq_by_cmp (slice_cmp nat_cmp) q) (filter p xs)) f ∙ again
    by false e true f again = again ∙ ap (λ b. list_any (eq_by_cmp (slice_cmp nat_cmp) q) xs && b) (ap p (tied x f) ∙ e) ∙ and_false (list_any (eq_by_cmp (slice_cmp nat_cmp) q) xs) ∙ sym (ap p (tied x f) ∙ e)
    by false e false f again = again

-- the keys of a map are those of another one that pass a test
pub keys_kept : {X Y : Type 0} (a : Names X) (b : Names Y) (p : Text → Bool) → ((name : Text) → is_some (get a name) ≡ (is_some (get b name) && p name)) → filter p (keys b) ≡ keys a
keys_kept a b p h =
    let one : T (is_sorted (slice_cmp nat_cmp) (as_marks (filter p (keys b)))) = marks_rise _ (IsStrictlySortedBy-filter (slice_cmp nat_cmp) p (keys b) (keys_rise (entries b) (entries_sorted b))) in
    let two : T (is_sorted (slice_cmp nat_cmp) (as_marks (keys a))) = marks_rise _ (keys_rise (entries a) (entries_sorted a)) in
    sym (unmarked (filter p (keys b)))
    ∙ ap (each (λ e. e.0)) (same_entries (slice_cmp nat_cmp) nat_list_cmp_total exact_bytes (as_marks (filter p (keys b))) (as_marks (keys a)) one two (λ q. same_unit _ _ (
    among_marks q (filter p (keys b)) ∙ among_kept p q (keys b) ∙ ap (λ t. t && p q) (sym (contains_key-keys b q)) ∙ sym (h q)
    ∙ contains_key-keys a q ∙ sym (among_marks q (keys a)))))
    ∙ unmarked (keys a)

-- ---- the names of a module's variables

value_there : (o : Option Cell) → is_some (option_map (λ (c : Cell). c.value) o) ≡ is_some o
value_there None = refl
value_there (Some c) = refl

pub variable_names : (es : List Scope) (r : Registers) (home : Text) (unset : Names (Unit {0})) → ((name : Text) → is_some (get unset name) ≡ list_any (bytes_eq name) (unset_by home r.owner es))
    → filter (λ name. not (is_some (get unset name))) (keys (row_of r.cells home)) ≡ keys (row_of (values_of (closed es r).cells) home)
variable_names es r home unset is =
    keys_kept (row_of (values_of (closed es r).cells) home) (row_of r.cells home) (λ name. not (is_some (get unset name))) (λ name.
    ap is_some (get_row home (values_of (closed es r).cells) name ∙ get_values_of (closed es r).cells (home, name))
    ∙ value_there (get (closed es r).cells (home, name))
    ∙ closed_has home es r name
    ∙ (λ i. is_some (sym (get_row home r.cells name) i) && not (sym (is name) i)))

-- the names of entries that are lent
pub lent_names : {Y X : Type 0} (lent : List (Bor (String Y) × Bor X)) → each (λ e. string_bytes e.0.now) lent ≡ each {A = Text × X} (λ e. e.0) (each (λ e. (string_bytes e.0.now, e.1.now)) lent)
lent_names [] = refl
lent_names (e ∷ lent) = ap (λ more. string_bytes e.0.now ∷ more) (lent_names lent)

-- what is noted of the entries since the newest mark, and of those before it
pub noted_all : (none one two : Names (Unit {0})) (home owner between : Text) (es fs : List Scope) → none ≡ map.empty → between ≡ owner_before owner es → AreNoted none one (unset_by home owner es) → AreNoted one two (unset_by home between fs)
    → (name : Text) → is_some (get two name) ≡ list_any (bytes_eq name) (unset_by home owner (es ++ fs))
noted_all none one two home owner between es fs empty same first second name =
    noted_then none one two (unset_by home owner es) (unset_by home between fs) (unset_by home owner (es ++ fs)) first second
    (unset_then home owner es fs ∙ ap (λ o. unset_by home owner es ++ unset_by home o fs) (sym same)) name
    ∙ ap (λ m. is_some (get m name) || list_any (bytes_eq name) (unset_by home owner (es ++ fs))) empty
    ∙ ap (λ o. is_some o || list_any (bytes_eq name) (unset_by home owner (es ++ fs))) (map.get-empty (slice_cmp nat_cmp) name)
