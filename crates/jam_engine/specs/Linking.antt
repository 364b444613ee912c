-- How linked acts are found.
use Rattle.std.specs.Prelude.{◌≡◌, ◌<◌, ◌≤◌, ◌+◌, ℕ, true, List, [], ◌∷◌, ◌++◌, Option, Some, None, is_none, filter, length, slice_get, unwrap_or}
use Rattle.std.specs.FinMap as map
use Rattle.std.specs.List.{Contains, AllByRecursion, AllPairs}
use Rattle.jam_journal.specs.Tables.{Text, Names}
use Rattle.jam_journal.specs.Scopes.{Value}
use Rattle.jam_graph.specs.declared.graph.Act.{Act}
use Rattle.jam_engine.specs.declared.links.Links.{Links}
use Rattle.jam_engine.specs.Acts.{Linked}
use Rattle.jam_engine.specs.Tables.{acting, is_in, HasOneMore}

-- the label at a place has this value
abbrev pub HasLabel : List (Option ℕ) → ℕ → ℕ → Type 0
HasLabel labels place first = slice_get labels place ≡ Some (Some first)

abbrev pub HasNone : List (Option ℕ) → ℕ → Type 0
HasNone labels place = slice_get labels place ≡ Some None

-- an act that names a target
abbrev pub NamesTarget : List Act → ℕ → Text → Type 0
NamesTarget acts place target = (act : Act) × (slice_get acts place ≡ Some act) × Contains act.targets target

-- The label of an act leads to it, it has itself as its label, and is no later place. A target that was opened has labels alone, all
-- one; an act that waits on no stack has its targets opened.
pub record AreRight (waits : List ℕ) (links : Links) : Type 0 where
  pub makers : (target : Text) → unwrap_or (map.get links.makers target) [] ≡ acting 0 links.acts.now target
  pub count : length links.labels.items ≡ length links.acts.now
  pub linked : (place first : ℕ) → HasLabel links.labels.items place first → Linked links.acts.now first place
  pub itself : (place first : ℕ) → HasLabel links.labels.items place first → HasLabel links.labels.items first first
  pub least : (place first : ℕ) → HasLabel links.labels.items place first → first ≤ place
  pub labelled : (target : Text) (one : ℕ) → is_in links.opened target ≡ true → NamesTarget links.acts.now one target → (first : ℕ) × HasLabel links.labels.items one first
  pub opened : (target : Text) (one other first : ℕ) → is_in links.opened target ≡ true → NamesTarget links.acts.now one target → NamesTarget links.acts.now other target → HasLabel links.labels.items one first → HasLabel links.labels.items other first
  pub closed : (place first : ℕ) (target : Text) → HasLabel links.labels.items place first → (Contains waits place → ⊥) → NamesTarget links.acts.now place target → is_in links.opened target ≡ true

-- an act with this label names the target
abbrev pub IsNamedUnder : ℕ → Text → Links → Type 0
IsNamedUnder first target links = (place : ℕ) × HasLabel links.labels.items place first × NamesTarget links.acts.now place target

-- the acts that have no label, and those that wait
abbrev pub waiting : List ℕ → List (Option ℕ) → ℕ
waiting stack labels = length stack + length (filter is_none labels)

-- each act up to a place has a label, and no label is a place from there on
pub record AreLabels (acts : List Act) (from : ℕ) (links : Links) : Type 0 where
  pub acts_are : links.acts.now ≡ acts
  pub right : AreRight [] links
  pub done : (place : ℕ) → place < from → (first : ℕ) × HasLabel links.labels.items place first
  pub below : (place first : ℕ) → HasLabel links.labels.items place first → first < from

-- a search from an act, with these that wait
pub record IsSearch (first : ℕ) (waits : List ℕ) (links : Links) : Type 0 where
  pub right : AreRight waits links
  pub own : AllByRecursion (λ place. HasLabel links.labels.items place first) waits
  pub done : (place : ℕ) → place ≤ first → (one : ℕ) × HasLabel links.labels.items place one
  pub below : (place one : ℕ) → HasLabel links.labels.items place one → one ≤ first

-- those of some places that had no label have this one, and wait
pub record LabelsMore (places : List ℕ) (first : ℕ) (before after : List (Option ℕ)) (waited waits : List ℕ) : Type 0 where
  pub count : length after ≡ length before
  pub kept : (place one : ℕ) → HasLabel before place one → HasLabel after place one
  pub given : (place one : ℕ) → HasLabel after place one → HasNone before place → (one ≡ first) × Contains places place × Contains waits place
  pub all : AllByRecursion (λ place. (one : ℕ) × HasLabel after place one) places
  pub more : List ℕ
  pub waits_are : waits ≡ waited ++ more
  pub own : AllByRecursion (λ place. HasLabel after place first) more

-- each of some texts has a number more
abbrev pub HaveOneMore : Value → ℕ → Names (List ℕ) → Names (List ℕ) → Type 0
HaveOneMore [] number before after = (text : Text) → unwrap_or (map.get after text) [] ≡ unwrap_or (map.get before text) []
HaveOneMore (text ∷ texts) number before after = (middle : Names (List ℕ)) × HasOneMore text number before middle × HaveOneMore texts number middle after

-- Each act has a label: the first act that it is linked to. Linked acts have one label.
pub record AreFirsts (acts : List Act) (labels : List (Option ℕ)) : Type 0 where
  pub count : length labels ≡ length acts
  pub each : (place : ℕ) → place < length acts → (first : ℕ) × HasLabel labels place first
  pub itself : (place first : ℕ) → HasLabel labels place first → HasLabel labels first first
  pub least : (place first : ℕ) → HasLabel labels place first → first ≤ place
  pub linked : (place first : ℕ) → HasLabel labels place first → Linked acts first place
  pub same : (place other first : ℕ) → Linked acts place other → HasLabel labels place first → HasLabel labels other first

-- the places with one label, which is the first of them, in rising order
pub record IsLabelSet (labels : List (Option ℕ)) (first : ℕ) (set : List ℕ) : Type 0 where
  pub more : List ℕ
  pub begins : set ≡ first ∷ more
  pub rises : AllPairs (λ i k. i < k) set
  pub own : AllByRecursion (λ place. HasLabel labels place first) set
  pub whole : (place : ℕ) → HasLabel labels place first → Contains set place

-- The sets of these labels, by their first places in rising order, and for each place the number of its set.
pub record AreSetsOf (labels : List (Option ℕ)) (sets : List (List ℕ)) (numbers : List ℕ) : Type 0 where
  pub count : length numbers ≡ length labels
  pub in_set : (place number : ℕ) → slice_get numbers place ≡ Some number → (set : List ℕ) × (slice_get sets number ≡ Some set) × Contains set place
  pub sets_are : AllByRecursion (λ set. (first : ℕ) × IsLabelSet labels first set) sets
  pub rising : AllPairs (λ a b. (i k : ℕ) → slice_get a 0 ≡ Some i → slice_get b 0 ≡ Some k → i < k) sets

-- the next place has this label, which is a place before it that has itself as its label, or the place itself
pub record AddsTo (before : List (Option ℕ)) (place first : ℕ) (sets : List (List ℕ)) (numbers : List ℕ) : Type 0 where
  pub next : place ≡ length before
  pub low : first ≤ place
  pub itself : first < place → HasLabel before first first
  pub below : (other label : ℕ) → HasLabel before other label → label ≤ other
  pub are : AreSetsOf before sets numbers
