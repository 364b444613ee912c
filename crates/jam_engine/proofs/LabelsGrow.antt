-- Labels of acts: what one label more changes, and which acts make a target.
use Rattle.std.proofs.Common.{◌≡◌, ◌⊎◌, inl, inr, ℕ, zero, suc, ◌+◌, ◌<◌, ◌==◌, Bool, true, false, cond, List, [], ◌∷◌, ◌++◌, length, get_or, take, filter, Option, Some, None, refl, sym, ap, ◌∙◌, subst, arith, append_assoc, append-nil, length-append}
use Rattle.std.specs.Prelude.{is_none, slice_get}
use Rattle.std.specs.List.{Contains, AllByRecursion, slice_set}
use Rattle.std.specs.Str.{bytes_eq}
use Rattle.std.proofs.lemmas.Bool.{eqb-true, eqb-false, true≢false}
use Rattle.std.proofs.lemmas.Option.{same_Some, slice_get_within}
use Rattle.std.proofs.lemmas.List.Elements.{Contains-append_left, Contains-append_right, Contains-append_cases}
use Rattle.std.proofs.lemmas.Slice.Eq.{bytes_eq-Decides}
use Rattle.b2_host.specs.OutsideLaws.{only_one}
use Rattle.jam_journal.specs.Tables.{Text}
use Rattle.jam_journal.specs.Scopes.{Value}
use Rattle.jam_graph.specs.declared.graph.Act.{Act}
use Rattle.jam_graph.proofs.ListsGrow.{taken}
use Rattle.jam_engine.specs.Linking.{HasLabel, HasNone, NamesTarget, LabelsMore, waiting}
use Rattle.jam_engine.specs.Tables.{times, acting}

-- ---- lists

pub none_some : {X : Type 0} (x : X) → None ≡ Some x → ⊥
none_some x e = let f : None ≡ Some x = e in cc

pub set_here : {X : Type 0} (xs : List X) (n : ℕ) (x y : X) → slice_get xs n ≡ Some y → slice_get (slice_set xs n x) n ≡ Some x
set_here [] n x y e = absurd (none_some y e)
set_here (z ∷ xs) zero x y e = refl
set_here (z ∷ xs) (suc n) x y e = set_here xs n x y e

pub set_there : {X : Type 0} (xs : List X) (n k : ℕ) (x : X) → (k ≡ n → ⊥) → slice_get (slice_set xs n x) k ≡ slice_get xs k
set_there [] n k x other = refl
set_there (z ∷ xs) zero zero x other = absurd (other refl)
set_there (z ∷ xs) zero (suc k) x other = refl
set_there (z ∷ xs) (suc n) zero x other = refl
set_there (z ∷ xs) (suc n) (suc k) x other = set_there xs n k x (λ e. other (ap suc e))

pub set_length : {X : Type 0} (xs : List X) (n : ℕ) (x : X) → length (slice_set xs n x) ≡ length xs
set_length [] n x = refl
set_length (z ∷ xs) zero x = refl
set_length (z ∷ xs) (suc n) x = ap suc (set_length xs n x)

pub all_map : {X : Type 0} (P Q : X → Type 0) (xs : List X) → ((x : X) → P x → Q x) → AllByRecursion P xs → AllByRecursion Q xs
all_map P Q [] f h = tt
all_map P Q (x ∷ xs) f (one, more) = (f x one, all_map P Q xs f more)

pub all_both : {X : Type 0} (P : X → Type 0) (xs ys : List X) → AllByRecursion P xs → AllByRecursion P ys → AllByRecursion P (xs ++ ys)
all_both P [] ys h k = k
all_both P (x ∷ xs) ys (one, more) k = (one, all_both P xs ys more k)

-- an element of a list with one more in front
pub among : {X : Type 0} (x : X) (xs : List X) (y : X) → Contains (x ∷ xs) y → (x ≡ y) ⊎ Contains xs y
among x xs y h = go (Contains-append_cases (x ∷ []) xs y h)
  where
    go : Contains (x ∷ []) y ⊎ Contains xs y → (x ≡ y) ⊎ Contains xs y
    go (inl one) = inl (only_one x y one)
    go (inr more) = inr more

pub at_front : {X : Type 0} (x : X) (xs : List X) → Contains (x ∷ xs) x
at_front x xs = (0, omega arith, refl)

pub behind : {X : Type 0} (x : X) (xs : List X) (y : X) → Contains xs y → Contains (x ∷ xs) y
behind x xs y h = Contains-append_right (x ∷ []) xs y h

pub none_there : {X : Type 0} (y : X) → Contains [] y → ⊥
none_there y (k, low, is) = absurd (omega (arith, low))

pub all_at : {X : Type 0} (P : X → Type 0) (xs : List X) (y : X) → AllByRecursion P xs → Contains xs y → P y
all_at P [] y h c = absurd (none_there y c)
all_at P (x ∷ xs) y (one, more) c = go (among x xs y c) (λ k. all_at P xs y more k)
  where
    go : (x ≡ y) ⊎ Contains xs y → (Contains xs y → P y) → P y
    go (inl e) later = subst P e one
    go (inr k) later = later k

-- each number stands in a list, or does not
pub is_there_or_not : (xs : List ℕ) (y : ℕ) → Contains xs y ⊎ (Contains xs y → ⊥)
is_there_or_not [] y = inr (none_there y)
is_there_or_not (x ∷ xs) y = go (x == y) refl (is_there_or_not xs y)
  where
    go : (b : Bool) → (x == y) ≡ b → Contains xs y ⊎ (Contains xs y → ⊥) → Contains (x ∷ xs) y ⊎ (Contains (x ∷ xs) y → ⊥)
    go true e h = inl (subst (Contains (x ∷ xs)) (eqb-true x y e) (at_front x xs))
    go false e (inl c) = inl (behind x xs y c)
    go false e (inr none) = inr (λ c. out (among x xs y c))
      where
        out : (x ≡ y) ⊎ Contains xs y → ⊥
        out (inl same) = eqb-false x y e same
        out (inr c) = none c

-- ---- one label more

pub not_both : (labels : List (Option ℕ)) (place first : ℕ) → HasNone labels place → HasLabel labels place first → ⊥
not_both labels place first none label = none_some first (same_Some _ _ (sym none ∙ label))

pub one_label : (labels : List (Option ℕ)) (place first other : ℕ) → HasLabel labels place first → HasLabel labels place other → first ≡ other
one_label labels place first other one two = same_Some _ _ (same_Some _ _ (sym one ∙ two))

-- a place in the list has a label or none
pub label_or_none : (labels : List (Option ℕ)) (place : ℕ) → place < length labels → HasNone labels place ⊎ ((first : ℕ) × HasLabel labels place first)
label_or_none [] place low = absurd (omega (arith, low))
label_or_none (None ∷ labels) zero low = inl refl
label_or_none (Some first ∷ labels) zero low = inr (first, refl)
label_or_none (label ∷ labels) (suc place) low = label_or_none labels place (omega (arith, low))

fewer_none : (labels : List (Option ℕ)) (place first : ℕ) → HasNone labels place → length (filter is_none (slice_set labels place (Some first))) + 1 ≡ length (filter is_none labels)
fewer_none [] place first e = absurd (none_some None e)
fewer_none (None ∷ labels) zero first e = omega arith
fewer_none (Some x ∷ labels) zero first e = absurd (none_some x (sym (same_Some _ _ e)))
fewer_none (None ∷ labels) (suc place) first e = let h = fewer_none labels place first e in omega (arith, h)
fewer_none (Some x ∷ labels) (suc place) first e = fewer_none labels place first e

pub waiting_same : (stack later : List ℕ) (labels after : List (Option ℕ)) (place first : ℕ) → HasNone labels place → after ≡ slice_set labels place (Some first) → later ≡ stack ++ place ∷ [] → waiting later after ≡ waiting stack labels
waiting_same stack later labels after place first none sets pushes =
    let count = fewer_none labels place first none in
    let e : length later ≡ length stack + 1 = ap length pushes ∙ length-append stack (place ∷ []) in
    let f : length (filter is_none after) ≡ length (filter is_none (slice_set labels place (Some first))) = ap (λ l. length (filter is_none l)) sets in
    omega (arith, count, e, f)

-- a label that is set takes no other away
pub stays_label : (labels after : List (Option ℕ)) (place first : ℕ) → HasNone labels place → after ≡ slice_set labels place (Some first) → (other one : ℕ) → HasLabel labels other one → HasLabel after other one
stays_label labels after place first none sets other one label = go (other == place) refl
  where
    go : (b : Bool) → (other == place) ≡ b → HasLabel after other one
    go true e = absurd (not_both labels place one none (subst (λ n. HasLabel labels n one) (eqb-true other place e) label))
    go false e = ap (λ l. slice_get l other) sets ∙ set_there labels place other (Some first) (eqb-false other place e) ∙ label

pub new_label : (labels after : List (Option ℕ)) (place first : ℕ) → HasNone labels place → after ≡ slice_set labels place (Some first) → HasLabel after place first
new_label labels after place first none sets = ap (λ l. slice_get l place) sets ∙ set_here labels place (Some first) None none

-- a label is that one, or was there
pub old_label : (labels after : List (Option ℕ)) (place first : ℕ) → HasNone labels place → after ≡ slice_set labels place (Some first) → (other one : ℕ) → HasLabel after other one
    → ((other ≡ place) × (one ≡ first)) ⊎ HasLabel labels other one
old_label labels after place first none sets other one label = go (other == place) refl
  where
    go : (b : Bool) → (other == place) ≡ b → ((other ≡ place) × (one ≡ first)) ⊎ HasLabel labels other one
    go true e =
        let same : other ≡ place = eqb-true other place e in
        inl (same, one_label after place one first (subst (λ n. HasLabel after n one) same label) (new_label labels after place first none sets))
    go false e = inr (sym (ap (λ l. slice_get l other) sets ∙ set_there labels place other (Some first) (eqb-false other place e)) ∙ label)

-- ---- labels of some places

pub labelled_none : (first : ℕ) (labels : List (Option ℕ)) (stack : List ℕ) → LabelsMore [] first labels labels stack stack
labelled_none first labels stack = record {
  count = refl;
  kept = λ place one label. label;
  given = λ place one label none. absurd (not_both labels place one none label);
  all = tt;
  more = [];
  waits_are = sym (append-nil stack);
  own = tt;
}

module _ (places : List ℕ) (i place first : ℕ) (before now : List (Option ℕ)) (waited waits : List ℕ) (low : i < length places) (is : place ≡ get_or places i place) (h : LabelsMore (take i places) first before now waited waits) where
  abbrev Labelled : List (Option ℕ) → ℕ → Type 0
  Labelled labels = λ one. (label : ℕ) × HasLabel labels one label

  -- the next place has a label already
  pub labelled_same : (label : ℕ) → HasLabel now place label → LabelsMore (take (i + 1) places) first before now waited waits
  labelled_same label has = subst (λ l. LabelsMore l first before now waited waits) (taken places i place low is) (record {
    count = h.count;
    kept = h.kept;
    given = λ other one l none. let g = h.given other one l none in (g.0, Contains-append_left (take i places) (place ∷ []) other g.1, g.2);
    all = all_both (Labelled now) (take i places) (place ∷ []) h.all ((label, has), tt);
    more = h.more;
    waits_are = h.waits_are;
    own = h.own;
  })

  -- the next place gets the label, and waits
  pub labelled_more : (after : List (Option ℕ)) (later : List ℕ) → HasNone now place → after ≡ slice_set now place (Some first) → later ≡ waits ++ place ∷ [] → LabelsMore (take (i + 1) places) first before after waited later
  labelled_more after later none sets pushes = subst (λ l. LabelsMore l first before after waited later) (taken places i place low is) (record {
    count = ap length sets ∙ set_length now place (Some first) ∙ h.count;
    kept = λ other one l. stays_label now after place first none sets other one (h.kept other one l);
    given = λ other one l old. from other one old (old_label now after place first none sets other one l);
    all = all_both (Labelled after) (take i places) (place ∷ []) (all_map (Labelled now) (Labelled after) (take i places) (λ one l. (l.0, stays_label now after place first none sets one l.0 l.1)) h.all)
        ((first, new_label now after place first none sets), tt);
    more = h.more ++ place ∷ [];
    waits_are = pushes ∙ ap (λ (l : List ℕ). l ++ place ∷ []) h.waits_are ∙ append_assoc waited h.more (place ∷ []);
    own = all_both (λ one. HasLabel after one first) h.more (place ∷ []) (all_map (λ one. HasLabel now one first) (λ one. HasLabel after one first) h.more (λ one l. stays_label now after place first none sets one first l) h.own)
        (new_label now after place first none sets, tt);
  })
    where
      from : (other one : ℕ) → HasNone before other → ((other ≡ place) × (one ≡ first)) ⊎ HasLabel now other one
          → (one ≡ first) × Contains (take i places ++ place ∷ []) other × Contains later other
      from other one old (inl (same, label)) = (
        label,
        Contains-append_right (take i places) (place ∷ []) other (subst (Contains (place ∷ [])) (sym same) (at_front place [])),
        subst (λ l. Contains l other) (sym pushes) (Contains-append_right waits (place ∷ []) other (subst (Contains (place ∷ [])) (sym same) (at_front place []))),
      )
      from other one old (inr l) =
          let g = h.given other one l old in
          (g.0, Contains-append_left (take i places) (place ∷ []) other g.1, subst (λ l₁. Contains l₁ other) (sym pushes) (Contains-append_left waits (place ∷ []) other g.2))

-- ---- the acts that make a target

times_name : (place : ℕ) (text : Text) (targets : Value) (p : ℕ) → Contains (times place text targets) p → (p ≡ place) × Contains targets text
times_name place text [] p c = absurd (none_there p c)
times_name place text (target ∷ targets) p c = go (bytes_eq text target) refl c (λ k. times_name place text targets p k)
  where
    later : (p ≡ place) × Contains targets text → (p ≡ place) × Contains (target ∷ targets) text
    later h = (h.0, behind target targets text h.1)

    here : bytes_eq text target ≡ true → (place ≡ p) ⊎ Contains (times place text targets) p → (Contains (times place text targets) p → (p ≡ place) × Contains targets text) → (p ≡ place) × Contains (target ∷ targets) text
    here e (inl same) rest = (sym same, subst (Contains (target ∷ targets)) (sym ((bytes_eq-Decides text target).0 e)) (at_front target targets))
    here e (inr k) rest = later (rest k)

    go : (b : Bool) → bytes_eq text target ≡ b → Contains (cond b (place ∷ times place text targets) (times place text targets)) p → (Contains (times place text targets) p → (p ≡ place) × Contains targets text)
        → (p ≡ place) × Contains (target ∷ targets) text
    go true e k rest = here e (among place (times place text targets) p k) rest
    go false e k rest = later (rest k)

name_times : (place : ℕ) (text : Text) (targets : Value) → Contains targets text → Contains (times place text targets) place
name_times place text [] c = absurd (none_there text c)
name_times place text (target ∷ targets) c = go (bytes_eq text target) refl (among target targets text c) (λ k. name_times place text targets k)
  where
    go : (b : Bool) → bytes_eq text target ≡ b → (target ≡ text) ⊎ Contains targets text → (Contains targets text → Contains (times place text targets) place) → Contains (cond b (place ∷ times place text targets) (times place text targets)) place
    go true e h rest = at_front place (times place text targets)
    go false e (inl same) rest = absurd (true≢false (sym ((bytes_eq-Decides text target).1 (sym same)) ∙ e))
    go false e (inr k) rest = rest k

acting_from : (from : ℕ) (acts : List Act) (text : Text) (p : ℕ) → Contains (acting from acts text) p → (i : ℕ) × (p ≡ from + i) × NamesTarget acts i text
acting_from from [] text p c = absurd (none_there p c)
acting_from from (act ∷ acts) text p c = go (Contains-append_cases (times from text act.targets) (acting (from + 1) acts text) p c) (λ k. acting_from (from + 1) acts text p k)
  where
    same : from ≡ from + 0
    same = omega arith

    go : Contains (times from text act.targets) p ⊎ Contains (acting (from + 1) acts text) p → (Contains (acting (from + 1) acts text) p → (i : ℕ) × (p ≡ (from + 1) + i) × NamesTarget acts i text) → (i : ℕ) × (p ≡ from + i) × NamesTarget (act ∷ acts) i text
    go (inl k) rest = (let h = times_name from text act.targets p k in (0, h.0 ∙ same, (act, refl, h.1)))
    go (inr k) rest = (let (i, e, names) = rest k in (suc i, omega (arith, e), names))

from_acting : (from : ℕ) (acts : List Act) (text : Text) (i : ℕ) → NamesTarget acts i text → Contains (acting from acts text) (from + i)
from_acting from [] text i (act, at, c) = absurd (none_some act at)
from_acting from (first ∷ acts) text zero (act, at, c) =
    let e : from ≡ from + 0 = omega arith in
    subst (Contains (acting from (first ∷ acts) text)) e
    (Contains-append_left (times from text first.targets) (acting (from + 1) acts text) from (name_times from text first.targets (subst (λ (a : Act). Contains a.targets text) (sym (same_Some _ _ at)) c)))
from_acting from (first ∷ acts) text (suc i) names =
    let e : (from + 1) + i ≡ from + suc i = omega arith in
    subst (Contains (acting from (first ∷ acts) text)) e (Contains-append_right (times from text first.targets) (acting (from + 1) acts text) ((from + 1) + i) (from_acting (from + 1) acts text i names))

pub acting_names : (acts : List Act) (text : Text) (p : ℕ) → Contains (acting 0 acts text) p → NamesTarget acts p text
acting_names acts text p c = (let (i, e, names) = acting_from 0 acts text p c in let same : i ≡ p = omega (arith, e) in subst (λ n. NamesTarget acts n text) same names)

pub names_acting : (acts : List Act) (text : Text) (p : ℕ) → NamesTarget acts p text → Contains (acting 0 acts text) p
names_acting acts text p names = (let e : 0 + p ≡ p = omega arith in subst (Contains (acting 0 acts text)) e (from_acting 0 acts text p names))

pub acting_within : (acts : List Act) (text : Text) (p : ℕ) → Contains (acting 0 acts text) p → p < length acts
acting_within acts text p c = (let names = acting_names acts text p c in slice_get_within acts p names.0 names.1)
