-- A further main target in the index of projects, and how numbers found there give the alternatives of a name.
use Rattle.std.proofs.Common.{◌≡◌, ℕ, zero, suc, ◌+◌, ◌<◌, ◌≤◌, Bool, true, false, cond, ◌||◌, ◌&&◌, List, [], ◌∷◌, ◌++◌, Option, Some, None, is_some, map, set, get_or, length, eqb, refl, sym, ◌∙◌, ap, ap₂, subst, arith, append_assoc, length-append}
use Rattle.std.specs.Prelude.{unwrap_or}
use Rattle.std.specs.List.{filter, filter_map, cons_option, slice_get, All, AllByRecursion}
use Rattle.std.specs.FinMap.{get, get-empty}
use Rattle.std.specs.Ordering.{nat_cmp}
use Rattle.std.specs.Cmp.Lexicographic.{slice_cmp}
use Rattle.std.specs.Str.{bytes_eq}
use Rattle.std.proofs.lemmas.List.{append-nil, map-append, get_or-set_other, length-set}
use Rattle.std.proofs.lemmas.List.Elements.{filter-append, All-from_recursion, recursion_from_All}
use Rattle.std.proofs.lemmas.Grind.{get_or-set_at}
use Rattle.std.proofs.lemmas.Option.{slice_get_within, get_or_from_slice_get, slice_get_read}
use Rattle.b2_declared.specs.declared.place.Place.{Place}
use Rattle.b2_declared.specs.declared.place.Target.{Target}
use Rattle.b2_props.proofs.RepeatedPairsAddNothing.{text_is}
use Rattle.b2_references.specs.declared.entries.ProjectTargets.{ProjectTargets}
use Rattle.b2_references.specs.Indexing.{some_of, named_in, targets_in, no_entry, IsEntry, AreEntries}
use Rattle.b2_references.specs.Names.{Name, is_same, is_among, first_names, name_of, numbers_from}
use Rattle.b2_references.proofs.FiltersKeepFirstNames.{number_is, number_itself, number_sym, first_names_push}

-- ---- numbers

-- one more main target
pub numbers_push : (first : ℕ) (name : Name) (ts : List Target) (t : Target) → numbers_from first name (ts ++ t ∷ []) ≡ numbers_from first name ts ++ cond (is_same name (name_of t)) ((first + length ts) ∷ []) []
numbers_push first name [] t = go (is_same name (name_of t))
  where
    go : (b : Bool) → cond b (first ∷ []) [] ++ [] ≡ cond b ((first + 0) ∷ []) []
    go true = ap (λ (n : ℕ). let made : List ℕ = n ∷ [] in made) same
      where
        same : first ≡ first + 0
        same = omega arith
    go false = refl
numbers_push first name (s ∷ ts) t =
    ap (λ ns. cond (is_same name (name_of s)) (first ∷ []) [] ++ ns) (numbers_push (suc first) name ts t ∙ ap (λ (n : ℕ). numbers_from (suc first) name ts ++ cond (is_same name (name_of t)) (n ∷ []) []) next)
    ∙ sym (append_assoc (cond (is_same name (name_of s)) (first ∷ []) []) (numbers_from (suc first) name ts) (cond (is_same name (name_of t)) ((first + suc (length ts)) ∷ []) []))
  where
    next : suc first + length ts ≡ first + suc (length ts)
    next = omega arith

numbers_more : (name : Name) (ts : List Target) (t : Target) → numbers_from 0 name (ts ++ t ∷ []) ≡ numbers_from 0 name ts ++ cond (is_same name (name_of t)) (length ts ∷ []) []
numbers_more name ts t = numbers_push 0 name ts t ∙ ap (λ (n : ℕ). numbers_from 0 name ts ++ cond (is_same name (name_of t)) (n ∷ []) []) same
  where
    same : 0 + length ts ≡ length ts
    same = omega arith

-- the numbers are those of main targets
within_by_recursion : (first bound : ℕ) (name : Name) (ts : List Target) → bound ≡ first + length ts → AllByRecursion (λ n. n < bound) (numbers_from first name ts)
within_by_recursion first bound name [] e = tt
within_by_recursion first bound name (t ∷ ts) e = go (is_same name (name_of t)) (within_by_recursion (suc first) bound name ts (omega (arith, e)))
  where
    go : (b : Bool) → AllByRecursion (λ n. n < bound) (numbers_from (suc first) name ts) → AllByRecursion (λ n. n < bound) (cond b (first ∷ []) [] ++ numbers_from (suc first) name ts)
    go true more = (omega (arith, e), more)
    go false more = more

pub numbers_within : (name : Name) (ts : List Target) → All (λ n. n < length ts) (numbers_from 0 name ts)
numbers_within name ts = All-from_recursion (λ n. n < length ts) (numbers_from 0 name ts) (within_by_recursion 0 (length ts) name ts (omega arith))

-- the main targets of the numbers are the alternatives
at_seam : (before : List Target) (t : Target) (ts : List Target) → slice_get (before ++ t ∷ ts) (length before) ≡ Some t
at_seam [] t ts = refl
at_seam (s ∷ before) t ts = at_seam before t ts

found_after : (before : List Target) (name : Name) (ts : List Target) → filter_map (slice_get (before ++ ts)) (numbers_from (length before) name ts) ≡ filter (λ t. is_same name (name_of t)) ts
found_after before name [] = refl
found_after before name (t ∷ ts) = go (is_same name (name_of t)) (
    ap₂ (λ (all : List Target) (n : ℕ). filter_map (slice_get all) (numbers_from n name ts)) (sym (append_assoc before (t ∷ []) ts)) longer
    ∙ found_after (before ++ t ∷ []) name ts
    )
  where
    longer : suc (length before) ≡ length (before ++ t ∷ [])
    longer = omega (arith, length-append before (t ∷ []))

    go : (b : Bool) → filter_map (slice_get (before ++ t ∷ ts)) (numbers_from (suc (length before)) name ts) ≡ filter (λ s. is_same name (name_of s)) ts
        → filter_map (slice_get (before ++ t ∷ ts)) (cond b (length before ∷ []) [] ++ numbers_from (suc (length before)) name ts) ≡ cond b (t ∷ filter (λ s. is_same name (name_of s)) ts) (filter (λ s. is_same name (name_of s)) ts)
    go true e = ap₂ (λ (o : Option Target) (found : List Target). cons_option o found) (at_seam before t ts) e
    go false e = e

pub numbers_found : (name : Name) (ts : List Target) → filter_map (slice_get ts) (numbers_from 0 name ts) ≡ filter (λ t. is_same name (name_of t)) ts
numbers_found name ts = found_after [] name ts

-- ---- some numbers

pub some_push : (ns : List ℕ) (n : ℕ) → some_of (ns ++ n ∷ []) ≡ Some (ns ++ n ∷ [])
some_push [] n = refl
some_push (m ∷ ns) n = refl

pub some_or_none : (ns : List ℕ) → unwrap_or (some_of ns) [] ≡ ns
some_or_none [] = refl
some_or_none (m ∷ ns) = refl

-- there are numbers where the project has the name
pub has_numbers : (first project : ℕ) (name : List ℕ) (ts : List Target) → is_some (some_of (numbers_from first (project, name) ts)) ≡ is_among (map name_of (targets_in project ts)) (project, name)
has_numbers first project name [] = refl
has_numbers first project name (t ∷ ts) = ap (λ b. is_some (some_of (cond (b && bytes_eq name t.name) (first ∷ []) [] ++ numbers_from (suc first) (project, name) ts))) (number_sym project t.project) ∙ go (eqb t.project project) (bytes_eq name t.name) refl refl (has_numbers (suc first) project name ts)
  where
    rest : Bool
    rest = is_among (map name_of (targets_in project ts)) (project, name)

    go : (b e : Bool) → eqb t.project project ≡ b → bytes_eq name t.name ≡ e → is_some (some_of (numbers_from (suc first) (project, name) ts)) ≡ rest
        → is_some (some_of (cond (b && e) (first ∷ []) [] ++ numbers_from (suc first) (project, name) ts)) ≡ is_among (map name_of (cond b (t ∷ targets_in project ts) (targets_in project ts))) (project, name)
    go true true f g more = sym (ap₂ (λ (x y : Bool). (x && y) || rest) (number_sym project t.project ∙ f) g)
    go true false f g more = more ∙ sym (ap₂ (λ (x y : Bool). (x && y) || rest) (number_sym project t.project ∙ f) g)
    go false e f g more = more

-- ---- entries

module _ (ts : List Target) (t : Target) where
  -- one more main target of the project
  pub entry_push : (k : ℕ) (old new : ProjectTargets) → k ≡ length ts → IsEntry ts t.project old
      → ((other : List ℕ) → get new.numbers other ≡ cond (bytes_eq other t.name) (Some (unwrap_or (get old.numbers t.name) [] ++ k ∷ [])) (get old.numbers other))
      → new.names ≡ cond (is_some (get old.numbers t.name)) old.names (old.names ++ t.name ∷ [])
      → IsEntry (ts ++ t ∷ []) t.project new
  entry_push k old new e is numbers names = record {
    numbers = λ name. numbers name ∙ found name (bytes_eq name t.name) refl;
    names = named (is_some (get old.numbers t.name)) refl;
  }
    where
      found : (name : List ℕ) (b : Bool) → bytes_eq name t.name ≡ b
          → cond b (Some (unwrap_or (get old.numbers t.name) [] ++ k ∷ [])) (get old.numbers name) ≡ some_of (numbers_from 0 (t.project, name) (ts ++ t ∷ []))
      found name true f =
          ap (λ (ns : List ℕ). Some (ns ++ k ∷ [])) (ap (λ o. unwrap_or o []) (is.numbers t.name) ∙ some_or_none (numbers_from 0 (t.project, t.name) ts))
          ∙ ap₂ (λ (m : List ℕ) (n : ℕ). Some (numbers_from 0 (t.project, m) ts ++ n ∷ [])) (sym (text_is name t.name f)) e
          ∙ sym (some_push (numbers_from 0 (t.project, name) ts) (length ts))
          ∙ ap some_of (ap₂ (λ (b c : Bool). numbers_from 0 (t.project, name) ts ++ cond (b && c) (length ts ∷ []) []) (sym (number_itself t.project)) (sym f) ∙ sym (numbers_more (t.project, name) ts t))
      found name false f =
          is.numbers name
          ∙ ap some_of (sym (append-nil (numbers_from 0 (t.project, name) ts)) ∙ ap₂ (λ (b c : Bool). numbers_from 0 (t.project, name) ts ++ cond (b && c) (length ts ∷ []) []) (sym (number_itself t.project)) (sym f) ∙ sym (numbers_more (t.project, name) ts t))

      grown : targets_in t.project (ts ++ t ∷ []) ≡ targets_in t.project ts ++ t ∷ []
      grown = filter-append (λ s. eqb s.project t.project) ts (t ∷ []) ∙ ap (λ b. targets_in t.project ts ++ cond b (t ∷ []) []) (number_itself t.project)

      push : first_names (map name_of (targets_in t.project (ts ++ t ∷ []))) ≡ cond (is_among (map name_of (targets_in t.project ts)) (name_of t)) (first_names (map name_of (targets_in t.project ts))) (first_names (map name_of (targets_in t.project ts)) ++ name_of t ∷ [])
      push = ap first_names (ap (map name_of) grown ∙ map-append name_of (targets_in t.project ts) (t ∷ [])) ∙ first_names_push (map name_of (targets_in t.project ts)) (name_of t)

      among : is_some (get old.numbers t.name) ≡ is_among (map name_of (targets_in t.project ts)) (name_of t)
      among = ap is_some (is.numbers t.name) ∙ has_numbers 0 t.project t.name ts

      named : (b : Bool) → is_some (get old.numbers t.name) ≡ b → map (named_in t.project) new.names ≡ first_names (map name_of (targets_in t.project (ts ++ t ∷ [])))
      named true f =
          ap (map (named_in t.project)) (names ∙ ap (λ b. cond b old.names (old.names ++ t.name ∷ [])) f) ∙ is.names
          ∙ ap (λ b. cond b (first_names (map name_of (targets_in t.project ts))) (first_names (map name_of (targets_in t.project ts)) ++ name_of t ∷ [])) (sym f ∙ among) ∙ sym push
      named false f =
          ap (map (named_in t.project)) (names ∙ ap (λ b. cond b old.names (old.names ++ t.name ∷ [])) f) ∙ map-append (named_in t.project) old.names (t.name ∷ []) ∙ ap (λ ns. ns ++ name_of t ∷ []) is.names
          ∙ ap (λ b. cond b (first_names (map name_of (targets_in t.project ts))) (first_names (map name_of (targets_in t.project ts)) ++ name_of t ∷ [])) (sym f ∙ among) ∙ sym push

  -- one more main target of another project
  pub entry_stays : (project : ℕ) (entry : ProjectTargets) → eqb t.project project ≡ false → IsEntry ts project entry → IsEntry (ts ++ t ∷ []) project entry
  entry_stays project entry other is = record {
    numbers = λ name.
        is.numbers name
        ∙ ap some_of (sym (append-nil (numbers_from 0 (project, name) ts)) ∙ ap (λ b. numbers_from 0 (project, name) ts ++ cond (b && bytes_eq name t.name) (length ts ∷ []) []) (sym (number_sym project t.project ∙ other)) ∙ sym (numbers_more (project, name) ts t));
    names = is.names ∙ ap (λ xs. first_names (map name_of xs)) (sym (filter-append (λ s. eqb s.project project) ts (t ∷ []) ∙ ap (λ b. targets_in project ts ++ cond b (t ∷ []) []) other ∙ append-nil (targets_in project ts)));
  }

  -- the entries of all projects
  pub entries_push : (entries : List ProjectTargets) (new : ProjectTargets) → t.project < length entries → AreEntries ts entries → IsEntry (ts ++ t ∷ []) t.project new → AreEntries (ts ++ t ∷ []) (set entries t.project new)
  entries_push entries new within are is = record { each = λ project entry at. go project entry at (eqb t.project project) refl }
    where
      go : (project : ℕ) (entry : ProjectTargets) → slice_get (set entries t.project new) project ≡ Some entry → (b : Bool) → eqb t.project project ≡ b → IsEntry (ts ++ t ∷ []) project entry
      go project entry at true f =
          let same : new ≡ entry = sym (get_or-set_at entries t.project project new entry (sym (number_is t.project project f)) within) ∙ get_or_from_slice_get (set entries t.project new) project entry entry at in
          subst (λ e. IsEntry (ts ++ t ∷ []) project e) same (subst (λ q. IsEntry (ts ++ t ∷ []) q new) (number_is t.project project f) is)
      go project entry at false f =
          let inside : project < length entries = subst (λ n. project < n) (length-set entries t.project new) (slice_get_within (set entries t.project new) project entry at) in
          let read : entry ≡ get_or entries project entry = sym (sym (get_or-set_other entries t.project project new entry (λ e. go_absurd project e f)) ∙ get_or_from_slice_get (set entries t.project new) project entry entry at) in
          entry_stays project entry f (are.each project entry (slice_get_read entries (length entries) project entry refl inside read))
        where
          go_absurd : (q : ℕ) → q ≡ t.project → eqb t.project q ≡ false → ⊥
          go_absurd q e g = let h : true ≡ false = sym (ap (λ x. eqb t.project x) e ∙ number_itself t.project) ∙ g in cc

-- ---- what is not there

pub some_is : (l ns : List ℕ) → Some l ≡ some_of ns → l ≡ ns
some_is l [] e = cc
some_is l (n ∷ ns) e = cc

pub none_is : (ns : List ℕ) → None ≡ some_of ns → ns ≡ []
none_is [] e = refl
none_is (n ∷ ns) e = cc

past : {X : Type 0} (xs : List X) (i : ℕ) → slice_get xs i ≡ None → length xs ≤ i
past [] i e = omega arith
past (x ∷ xs) zero e = cc
past (x ∷ xs) (suc i) e = omega (arith, past xs i e)

none_of : (project bound : ℕ) → bound ≤ project → (ts : List Target) → AllByRecursion (λ t. t.project < bound) ts → targets_in project ts ≡ []
none_of project bound less [] all = refl
none_of project bound less (t ∷ ts) all = go (none_of project bound less ts all.1) (eqb t.project project) refl
  where
    go : targets_in project ts ≡ [] → (b : Bool) → eqb t.project project ≡ b → cond b (t ∷ targets_in project ts) (targets_in project ts) ≡ []
    go more false e = more
    go more true e = absurd (omega (arith, all.0, less, number_is t.project project e))

module _ (ts : List Target) (entries : List ProjectTargets) (project : ℕ) where
  -- a project that is not there has no main targets
  pub none_in : (places : List Place) → length entries ≡ length places → All (λ t. t.project < length places) ts → slice_get entries project ≡ None → targets_in project ts ≡ []
  none_in places each within none = none_of project (length places) (omega (arith, each, past entries project none)) ts (recursion_from_All (λ t. t.project < length places) ts within)

pub no_numbers : (ts : List Target) (entries : List ProjectTargets) (project : ℕ) (name : List ℕ) (places : List Place) → length entries ≡ length places → All (λ t. t.project < length places) ts → slice_get entries project ≡ None → numbers_from 0 (project, name) ts ≡ []
no_numbers ts entries project name places each within none = go (numbers_from 0 (project, name) ts) (has_numbers 0 project name ts ∙ ap (λ xs. is_among (map name_of xs) (project, name)) (none_in ts entries project places each within none))
  where
    go : (ns : List ℕ) → is_some (some_of ns) ≡ false → ns ≡ []
    go [] e = refl
    go (n ∷ ns) e = cc

-- entries that have nothing
all_empty : (es : List ProjectTargets) → AllByRecursion (λ e. e ≡ no_entry) es → (project : ℕ) (entry : ProjectTargets) → slice_get es project ≡ Some entry → entry ≡ no_entry
all_empty [] all project entry e = cc
all_empty (x ∷ es) all zero entry e = let f : x ≡ entry = cc in sym f ∙ all.0
all_empty (x ∷ es) all (suc project) entry e = all_empty es all.1 project entry e

pub empty_entries_are : (es : List ProjectTargets) → All (λ e. e ≡ no_entry) es → AreEntries [] es
empty_entries_are es all = record { each = λ project entry at. subst (IsEntry [] project) (sym (all_empty es (recursion_from_All (λ e. e ≡ no_entry) es all) project entry at)) (empty project) }
  where
    empty : (project : ℕ) → IsEntry [] project no_entry
    empty project = record { numbers = λ name. get-empty (slice_cmp nat_cmp) name; names = refl }

-- as many numbers as alternatives
pub same_count : (first : ℕ) (name : Name) (ts : List Target) → length (numbers_from first name ts) ≡ length (filter (λ t. is_same name (name_of t)) ts)
same_count first name [] = refl
same_count first name (t ∷ ts) = go (is_same name (name_of t)) (same_count (suc first) name ts)
  where
    go : (b : Bool) → length (numbers_from (suc first) name ts) ≡ length (filter (λ s. is_same name (name_of s)) ts) → length (cond b (first ∷ []) [] ++ numbers_from (suc first) name ts) ≡ length (cond b (t ∷ filter (λ s. is_same name (name_of s)) ts) (filter (λ s. is_same name (name_of s)) ts))
    go true e = ap (λ n. suc n) e
    go false e = e
