-- What the search for linked acts needs of labels, sets and numbers at its calls.
use Rattle.std.proofs.Common.{◌≡◌, ◌⊎◌, inl, inr, ℕ, ◌+◌, ◌<◌, ◌≤◌, Bool, true, false, List, [], ◌∷◌, ◌++◌, length, get_or, take, All, Option, Some, None, Result, Ok, Err, OnOk, not, refl, sym, ap, ◌∙◌, subst, arith, length-append}
use Rattle.std.specs.Prelude.{is_some, slice_get, unwrap_or}
use Rattle.std.specs.FinMap.{insert}
use Rattle.std.specs.List.{Contains, slice_set}
use Rattle.std.proofs.lemmas.Bool.{cases_lt, true≢false}
use Rattle.std.proofs.lemmas.List.Elements.{Contains-append_cases}
use Rattle.std.proofs.lemmas.Option.{slice_get_within, slice_get-get_or, get_or_from_slice_get}
use Rattle.b2_host.specs.OutsideLaws.{only_one}
use Rattle.jam_journal.specs.Tables.{Text, Names}
use Rattle.jam_journal.specs.Scopes.{Value}
use Rattle.jam_graph.specs.declared.graph.Act.{Act}
use Rattle.jam_graph.proofs.ListsGrow.{taken}
use Rattle.jam_engine.specs.declared.links.Links.{Links}
use Rattle.jam_engine.specs.Linking.{HasLabel, HasNone, IsNamedUnder, LabelsMore, waiting, AreLabels, IsSearch, AreFirsts, AreSetsOf, AddsTo}
use Rattle.jam_engine.specs.Tables.{acting, is_in}
use Rattle.jam_engine.proofs.AlikeFound.{at_get}
use Rattle.jam_engine.proofs.LabelsGrow.{none_some, acting_within}
use Rattle.jam_engine.proofs.LinksOpen.{firsts_found, search_begins, open_new}
use Rattle.jam_engine.proofs.SetsOfLabels.{begins_set, joins_set}

-- ---- elements at their places

contains_at : (xs : List ℕ) (k d : ℕ) → k < length xs → Contains xs (get_or xs k d)
contains_at xs k d low = (k, low, get_or_from_slice_get xs k (get_or xs k d) (get_or xs k d) (slice_get-get_or xs k d low))

-- ---- a target is opened

-- the acts that make a target are acts that have a place among the labels
pub makers_within : (acts : List Act) (target : Text) (places : List ℕ) (labels : List (Option ℕ)) → places ≡ acting 0 acts target → length labels ≡ length acts → All (λ p. p < length labels) places
makers_within acts target places labels are count = λ k d low. within k d low
  where
    within : (k d : ℕ) → k < length places → get_or places k d < length labels
    within k d low =
        let h = acting_within acts target (get_or places k d) (subst (λ (l : List ℕ). Contains l (get_or places k d)) are (contains_at places k d low)) in
        omega (arith, h, count)

-- the search goes on from the acts that make it
pub opens_on : {T E : Type 0} (r : Result T E) (first : ℕ) (target : Text) (own waits later : List ℕ) (before after : Links) → after.acts ≡ before.acts → after.makers ≡ before.makers → after.opened ≡ insert before.opened target true
    → is_in before.opened target ≡ false → IsNamedUnder first target before → (places : List ℕ) → places ≡ acting 0 before.acts.now target → OnOk r (LabelsMore places first before.labels.items after.labels.items waits later)
    → IsSearch first (own ++ waits) before → OnOk r (IsSearch first (own ++ later) after)
opens_on (Err e) first target own waits later before after acts_are makers_are opens new named places places_are more h = tt
opens_on (Ok t) first target own waits later before after acts_are makers_are opens new named places places_are more h =
    open_new first target own waits later before after acts_are makers_are opens new named places places_are more h

pub search_within : (first place : ℕ) (waits : List ℕ) (links : Links) → IsSearch first (place ∷ waits) links → place < length links.acts.now
search_within first place waits links h = let low = slice_get_within links.labels.items place (Some first) h.own.0 in let count = h.right.count in omega (arith, low, count)

-- the next target of an act that waits
pub named_at : (first place i : ℕ) (act : Act) (target : Text) (targets : Value) (waits : List ℕ) (links : Links) → IsSearch first (place ∷ waits) links → slice_get links.acts.now place ≡ Some act → targets ≡ act.targets
    → i < length targets → target ≡ get_or targets i target → IsNamedUnder first target links
named_at first place i act target targets waits links h at are low is = (place, h.own.0, (act, at, subst (λ (l : Value). Contains l target) are (i, low, sym is)))

-- it is opened, and those before it stay so
pub opened_more : (targets : Value) (i : ℕ) (target : Text) (before after : Names Bool) → i < length targets → target ≡ get_or targets i target → is_in after target ≡ true
    → ((t : Text) → is_in before t ≡ true → is_in after t ≡ true) → ((t : Text) → Contains (take i targets) t → is_in before t ≡ true) → (t : Text) → Contains (take (i + 1) targets) t → is_in after t ≡ true
opened_more targets i target before after low is opens stays h t c = go (Contains-append_cases (take i targets) (target ∷ []) t (subst (λ (l : Value). Contains l t) (sym (taken targets i target low is)) c))
  where
    go : Contains (take i targets) t ⊎ Contains (target ∷ []) t → is_in after t ≡ true
    go (inl k) = stays t (h t k)
    go (inr k) = subst (λ (u : Text). is_in after u ≡ true) (only_one target t k) opens

-- ---- a search

pub search_from : (first : ℕ) (stack : List ℕ) (before after : Links) → stack ≡ first ∷ [] → after.acts ≡ before.acts → after.makers ≡ before.makers → after.opened ≡ before.opened → HasNone before.labels.items first
    → after.labels.items ≡ slice_set before.labels.items first (Some first) → AreLabels before.acts.now first before → IsSearch first stack after
search_from first stack before after stack_is acts_are makers_are opened_are none sets h =
    subst (λ (l : List ℕ). IsSearch first l after) (sym stack_is) (search_begins first before after acts_are makers_are opened_are none sets h)

pub waits_fewer : (stack rest later : List ℕ) (labels after : List (Option ℕ)) (place : ℕ) → stack ≡ rest ++ place ∷ [] → waiting later after ≡ waiting rest labels → waiting later after < waiting stack labels
waits_fewer stack rest later labels after place is same =
    let e : length stack ≡ length rest + 1 = ap length is ∙ length-append rest (place ∷ []) in
    omega (arith, e, same)

pub labels_as : (acts : List Act) (from : ℕ) (links : Links) → AreLabels acts from links → AreLabels links.acts.now from links
labels_as acts from links h = record { acts_are = refl; right = h.right; done = h.done; below = h.below }

pub reached : (acts : List Act) (first : ℕ) (before after : Links) → AreLabels acts first before → AreLabels before.acts.now (first + 1) after → AreLabels acts (first + 1) after
reached acts first before after was now = subst (λ (a : List Act). AreLabels a (first + 1) after) was.acts_are now

pub label_within : (acts : List Act) (first : ℕ) (links : Links) → first < length acts → AreLabels acts first links → first < length links.labels.items
label_within acts first links low h =
    let count = h.right.count in
    let e : length links.acts.now ≡ length acts = ap length h.acts_are in
    omega (arith, low, count, e)

-- what a test of a label says
pub none_at : (labels : List (Option ℕ)) (place : ℕ) (label : Option ℕ) (test : Bool) → place < length labels → label ≡ get_or labels place label → is_some label ≡ not test → test ≡ true → HasNone labels place
none_at labels place None test low is tells holds = at_get labels place None low is
none_at labels place (Some x) test low is tells holds = absurd (true≢false (tells ∙ ap not holds))

pub label_at : (labels : List (Option ℕ)) (place : ℕ) (label : Option ℕ) (test : Bool) → place < length labels → label ≡ get_or labels place label → is_some label ≡ not test → test ≡ false → (first : ℕ) × HasLabel labels place first
label_at labels place None test low is tells fails = absurd (true≢false (sym (tells ∙ ap not fails)))
label_at labels place (Some x) test low is tells fails = (x, at_get labels place (Some x) low is)

pub all_labelled : (acts : List Act) (n : ℕ) (links : Links) → length acts ≤ n → n ≤ length acts → AreLabels acts n links → AreFirsts acts links.labels.items
all_labelled acts n links past within h = let e : n ≡ length acts = omega (arith, past, within) in firsts_found acts links (subst (λ k. AreLabels acts k links) e h)

-- ---- a place and its set

-- each place has a label, so this is the one that is found
pub next_label : (acts : List Act) (labels : List (Option ℕ)) (place first : ℕ) (none : Option ℕ) → AreFirsts acts labels → place < length labels → first ≡ unwrap_or (get_or labels place none) place → HasLabel labels place first
next_label acts labels place first none firsts low is =
    let count = firsts.count in
    let (x, has) = firsts.each place (omega (arith, low, count)) in
    let same : first ≡ x = is ∙ ap (λ o. unwrap_or o place) (get_or_from_slice_get labels place (Some x) none has) in
    subst (HasLabel labels place) (sym same) has

low_first : (before : List (Option ℕ)) (place first : ℕ) (sets : List (List ℕ)) (numbers : List ℕ) → AddsTo before place first sets numbers → (first ≡ place → ⊥) → first < place
low_first before place first sets numbers h other = go (cases_lt first place)
  where
    go : (first < place) ⊎ (place ≤ first) → first < place
    go (inl low) = low
    go (inr past) = let low = h.low in let e : first ≡ place = omega (arith, past, low) in absurd (other e)

pub number_within : (before : List (Option ℕ)) (place first : ℕ) (sets : List (List ℕ)) (numbers : List ℕ) → AddsTo before place first sets numbers → (first ≡ place → ⊥) → first < length numbers
number_within before place first sets numbers h other =
    let low = low_first before place first sets numbers h other in
    let count = h.are.count in
    let next = h.next in
    omega (arith, low, count, next)

pub set_at : (before : List (Option ℕ)) (place first number : ℕ) (sets : List (List ℕ)) (numbers : List ℕ) → AddsTo before place first sets numbers → slice_get numbers first ≡ Some number → (set : List ℕ) × (slice_get sets number ≡ Some set)
set_at before place first number sets numbers h named = let (set, at, c) = h.are.in_set first number named in (set, at)

pub set_within : (before : List (Option ℕ)) (place first number : ℕ) (sets : List (List ℕ)) (numbers : List ℕ) → AddsTo before place first sets numbers → slice_get numbers first ≡ Some number → number < length sets
set_within before place first number sets numbers h named = let (set, at) = set_at before place first number sets numbers h named in slice_get_within sets number set at

pub set_begun : (before : List (Option ℕ)) (place first : ℕ) (set : List ℕ) (sets later : List (List ℕ)) (numbers more : List ℕ) → first ≡ place → more ≡ numbers ++ length sets ∷ [] → set ≡ place ∷ [] → later ≡ sets ++ set ∷ []
    → AddsTo before place first sets numbers → AreSetsOf (before ++ Some first ∷ []) later more
set_begun before place first set sets later numbers more same more_are set_is later_are h =
    subst (λ (l : List (List ℕ)). AreSetsOf (before ++ Some first ∷ []) l more) (sym (later_are ∙ ap (λ (s : List ℕ). sets ++ s ∷ []) set_is))
    (subst (λ (n : List ℕ). AreSetsOf (before ++ Some first ∷ []) (sets ++ (place ∷ []) ∷ []) n) (sym more_are) (begins_set before place first sets numbers h same))

pub set_joins : {T E : Type 0} (r : Result T E) (before : List (Option ℕ)) (place first number : ℕ) (set longer : List ℕ) (sets later : List (List ℕ)) (numbers more : List ℕ) → OnOk r (longer ≡ set ++ place ∷ []) → (first ≡ place → ⊥)
    → slice_get numbers first ≡ Some number → slice_get sets number ≡ Some set → more ≡ numbers ++ number ∷ [] → later ≡ slice_set sets number longer → AddsTo before place first sets numbers → OnOk r (AreSetsOf (before ++ Some first ∷ []) later more)
set_joins (Err e) before place first number set longer sets later numbers more longer_is other named at more_are later_are h = tt
set_joins (Ok t) before place first number set longer sets later numbers more longer_is other named at more_are later_are h =
    subst (λ (l : List (List ℕ)). AreSetsOf (before ++ Some first ∷ []) l more) (sym (later_are ∙ ap (λ (l : List ℕ). slice_set sets number l) longer_is))
    (subst (λ (n : List ℕ). AreSetsOf (before ++ Some first ∷ []) (slice_set sets number (set ++ place ∷ [])) n) (sym more_are)
    (joins_set before place first sets numbers h number set (low_first before place first sets numbers h other) named at))

-- ---- in a loop over all labels

pub no_sets : (sets : List (List ℕ)) (numbers : List ℕ) → sets ≡ [] → numbers ≡ [] → AreSetsOf [] sets numbers
no_sets sets numbers sets_are numbers_are =
    subst (λ (l : List (List ℕ)). AreSetsOf [] l numbers) (sym sets_are) (subst (λ (n : List ℕ). AreSetsOf [] [] n) (sym numbers_are) none)
  where
    none : AreSetsOf [] [] []
    none = record { count = refl; in_set = λ p n e. absurd (none_some n e); sets_are = tt; rising = λ i j d low within. absurd (omega (arith, within)) }

pub sets_step : (labels : List (Option ℕ)) (place first : ℕ) (sets : List (List ℕ)) (numbers : List ℕ) → place < length labels → HasLabel labels place first → AreSetsOf (take place labels ++ Some first ∷ []) sets numbers → AreSetsOf (take (place + 1) labels) sets numbers
sets_step labels place first sets numbers low label h =
    subst (λ (l : List (Option ℕ)). AreSetsOf l sets numbers) (taken labels place (Some first) low (sym (get_or_from_slice_get labels place (Some first) (Some first) label))) h
