-- An open main target becomes a node: the main targets of all its rows were generated first by its latest place.
use Rattle.std.proofs.Common.{arith, ◌≡◌, ◌<◌, ◌≤◌, Bool, true, false, ℕ, ◌+◌, List, [], ◌∷◌, ◌++◌, Option, Some, None, length, reverse, take, get_or, slice_get, refl, sym, ap, subst, ◌∙◌, if◌then◌else◌}
use Rattle.std.specs.Prelude.{unwrap_or}
use Rattle.std.specs.List.{AllByRecursion, flat_map}
use Rattle.std.specs.Option.{option_or, option_map_or}
use Rattle.std.specs.FinMap as finite
use Rattle.std.proofs.lemmas.List.{take_all, reverse-reverse, reverse-append, length-reverse}
use Rattle.std.proofs.lemmas.List.Folds.{flat_map-map}
use Rattle.std.proofs.lemmas.Option.{slice_get_past}
use Rattle.b2_props.specs.Sets.{IsSet}
use Rattle.b2_declared.specs.declared.whole.Declared.{Declared}
use Rattle.b2_references.specs.Names.{Name, is_same, features}
use Rattle.b2_generate.specs.Machine.{HasPlaces}
use Rattle.b2_generate.specs.Making.{IsLatest}
use Rattle.b2_generate.specs.Nodes.{entry_in, row_of, node_in, latest_in, first_in, IsEarly, AreEarly, AreDated}
use Rattle.b2_generate.specs.Opening.{AreReady}
use Rattle.b2_generate.specs.Tables.{Table}
use Rattle.b2_generate.specs.Turning.{IsCompleted, IsNodeOf, IsNoted}
use Rattle.b2_generate.specs.declared.frame.Frame.{Frame}
use Rattle.b2_generate.specs.declared.making.TargetOutput.{TargetOutput}
use Rattle.b2_generate.specs.declared.node.Node.{Node}
use Rattle.b2_generate.proofs.SupplyGathersPartByPart.{further_at}
use Rattle.b2_generate.proofs.SameNamesAreEqual.{reflexive, same, get_put_name}
use Rattle.b2_generate.proofs.OlderNodesStay.{node_at, node_there, there_at, dated_at, early_stays, early_more, early_both}

-- ---- the latest place

pub latest_there : (listed : List Node) (place : ℕ) (n : Node) (bound : ℕ) → place < length listed → n ≡ get_or listed place n → n.latest ≤ bound → latest_in (reverse listed) place ≤ bound
latest_there listed place n bound less is below = subst (λ (m : ℕ). m ≤ bound) (sym (ap (λ (o : Option Node). option_map_or (λ k. k.latest) o 0) (node_there listed place n less is))) below

pub latest_past : (listed : List Node) (place bound : ℕ) → length listed ≤ place → latest_in (reverse listed) place ≤ bound
latest_past listed place bound past =
    let none : node_in (reverse listed) place ≡ None = sym (node_at (reverse listed) place) ∙ ap (λ xs. slice_get xs place) (reverse-reverse listed) ∙ slice_get_past listed place past in
    subst (λ (m : ℕ). m ≤ bound) (sym (ap (λ (o : Option Node). option_map_or (λ k. k.latest) o 0) none)) (omega arith)

later_all : (nodes : List Node) (now new : ℕ) (children : List ℕ) → now ≤ new → AllByRecursion (λ place. latest_in nodes place ≤ now) children → AllByRecursion (λ place. latest_in nodes place ≤ new) children
later_all nodes now new [] less all = record {}
later_all nodes now new (child ∷ more) less (one, others) = (omega (arith, less, one), later_all nodes now new more less others)

one_more : (nodes : List Node) (bound : ℕ) (children : List ℕ) (child : ℕ) → AllByRecursion (λ place. latest_in nodes place ≤ bound) children → latest_in nodes child ≤ bound → AllByRecursion (λ place. latest_in nodes place ≤ bound) (children ++ child ∷ [])
one_more nodes bound [] child all one = (one, record {})
one_more nodes bound (first ∷ more) child (here, others) one = (here, one_more nodes bound more child others one)

pub latest_none : (nodes : List Node) (first : ℕ) → IsLatest nodes [] first first
latest_none nodes first = record { own = omega arith; others = record {} }

pub latest_next : (nodes : List Node) (children : List ℕ) (at first now new : ℕ) → at < length children
    → IsLatest nodes (take at children) first now → now ≤ new → latest_in nodes (get_or children at 0) ≤ new → IsLatest nodes (take (at + 1) children) first new
latest_next nodes children at first now new inside so_far less one =
    subst (λ (cs : List ℕ). IsLatest nodes cs first new) (sym (further_at children at 0 inside))
    (record {
      own = omega (arith, less, so_far.own);
      others = one_more nodes new (take at children) (get_or children at 0) (later_all nodes now new (take at children) less so_far.others) one;
    })

pub latest_all : (nodes : List Node) (children : List ℕ) (at first now : ℕ) → length children ≤ at → IsLatest nodes (take at children) first now → IsLatest nodes children first now
latest_all nodes children at first now past so_far = subst (λ (cs : List ℕ). IsLatest nodes cs first now) (take_all at children past) so_far

pub latest_as : (listed others : List Node) (children more : List ℕ) (first other latest : ℕ) → listed ≡ others → children ≡ more → first ≡ other → IsLatest (reverse listed) children first latest → IsLatest (reverse others) more other latest
latest_as listed others children more first other latest one two three h =
    subst (λ (xs : List Node). IsLatest (reverse xs) more other latest) one
    (subst (λ (cs : List ℕ). IsLatest (reverse listed) cs other latest) two (subst (λ (x : ℕ). IsLatest (reverse listed) children x latest) three h))

-- ---- the first place

either : (o : Option ℕ) → option_or o None ≡ o
either None = refl
either (Some place) = refl

-- a main target that was generated before keeps its first place
pub noted_before : (firsts : Table ℕ) (name : Name) (place first : ℕ) → finite.get firsts name ≡ Some first
    → (other : Name) → finite.get firsts other ≡ option_or (finite.get firsts other) (if is_same other name then Some place else None)
noted_before firsts name place first found other = cases (is_same other name) refl
  where
    cases : (b : Bool) → is_same other name ≡ b → finite.get firsts other ≡ option_or (finite.get firsts other) (if b then Some place else None)
    cases false e = sym (either (finite.get firsts other))
    cases true e =
        let there : finite.get firsts other ≡ Some first = ap (finite.get firsts) (same other name e) ∙ found in
        there ∙ sym (ap (λ (o : Option ℕ). option_or o (Some place)) there)

-- another one is generated at this place first
pub noted_now : (firsts : Table ℕ) (name : Name) (place : ℕ) → finite.get firsts name ≡ None
    → (other : Name) → finite.get (finite.insert firsts name place) other ≡ option_or (finite.get firsts other) (if is_same other name then Some place else None)
noted_now firsts name place none other = get_put_name firsts name place other ∙ cases (is_same other name) refl
  where
    cases : (b : Bool) → is_same other name ≡ b → (if b then Some place else finite.get firsts other) ≡ option_or (finite.get firsts other) (if b then Some place else None)
    cases false e = sym (either (finite.get firsts other))
    cases true e = sym (ap (λ (o : Option ℕ). option_or o (Some place)) (ap (finite.get firsts) (same other name e) ∙ none))

-- ---- all rows

-- its own row
own_early : (n : Node) (older : List Node) (first : ℕ) → first ≡ unwrap_or (first_in older n.name) (length older) → first ≤ n.latest → IsEarly (n ∷ older) n.latest (row_of n)
own_early n older first is less = record {
  place = first;
  first = ap (λ (b : Bool). option_or (first_in older n.name) (if b then Some (length older) else None)) (reflexive n.name) ∙ sometimes (first_in older n.name) ∙ ap Some (sym is);
  early = less;
}
  where
    sometimes : (o : Option ℕ) → option_or o (Some (length older)) ≡ Some (unwrap_or o (length older))
    sometimes None = refl
    sometimes (Some place) = refl

-- those of what was generated for it
child_early : (older : List Node) (child latest : ℕ) → AreDated older → child < length older → latest_in older child ≤ latest → AreEarly older latest (entry_in older child).1.rows
child_early older child latest dated there less =
    let n = there_at older child there in
    early_more older n.0.latest latest (entry_in older child).1.rows (subst (λ (m : ℕ). m ≤ latest) (ap (λ (o : Option Node). option_map_or (λ k. k.latest) o 0) n.1) less)
    (dated_at older child n.0 dated n.1)

children_early : (older : List Node) (latest : ℕ) (children : List ℕ) → AreDated older → AllByRecursion (λ place. place < length older) children → AllByRecursion (λ place. latest_in older place ≤ latest) children
    → AreEarly older latest (flat_map (λ child. (entry_in older child).1.rows) children)
children_early older latest [] dated there less = record {}
children_early older latest (child ∷ more) dated (here, others) (one, less) =
    early_both older latest (entry_in older child).1.rows (flat_map (λ c. (entry_in older c).1.rows) more) (child_early older child latest dated here one) (children_early older latest more dated others less)

node_dated : (n : Node) (older : List Node) (first : ℕ) → AreDated older → AllByRecursion (λ place. place < length older) n.children → first ≡ unwrap_or (first_in older n.name) (length older) → IsLatest older n.children first n.latest
    → AreDated (n ∷ older)
node_dated n older first dated there is latest = (
  (own_early n older first is latest.own, early_stays n older n.latest (flat_map (λ child. (entry_in older child).1.rows) n.children) (children_early older n.latest n.children dated there latest.others)),
  dated,
)

-- an open main target became a node
pub completed : (d : Declared) (older : List Node) (f : Frame) (made : TargetOutput) (n : Node) (before after : Table ℕ) (place latest : ℕ)
    → HasPlaces older f.done f.places → AreReady d older before → place ≡ length older → IsNodeOf f made latest n → IsNoted f.name place before after
    → IsLatest older f.done (unwrap_or (finite.get before f.name) place) latest → IsSet (features d) made.set → IsCompleted d older f made (n ∷ older) after place
completed d older f made n before after place latest_place has was place_is is noted latest set = record {
  node = n;
  nodes = refl;
  place_is = place_is;
  named = is.named;
  asked = is.asked;
  gives = λ i. record {
    supply = is.supply i;
    usage = is.usage i;
    rows = record { name = is.named i; alternative = is.numbered i; set = is.set i } ∷ (ap (flat_map (λ child. (entry_in older child).1.rows)) is.children ∙ sym (flat_map-map (λ e. e.1.rows) (entry_in older) f.done)) i;
  };
  ready = record {
    numbered = was.numbered;
    dated = node_dated n older (unwrap_or (finite.get before f.name) place) was.dated (subst (AllByRecursion (λ p. p < length older)) (sym is.children) has.there)
        (ap (λ (o : Option ℕ). unwrap_or o place) (was.firsts f.name) ∙ ap (λ p. unwrap_or (first_in older f.name) p) place_is ∙ ap (λ m. unwrap_or (first_in older m) (length older)) (sym is.named))
        (subst (λ (cs : List ℕ). IsLatest older cs (unwrap_or (finite.get before f.name) place) n.latest) (sym is.children)
        (subst (IsLatest older f.done (unwrap_or (finite.get before f.name) place)) (sym is.latest_is) latest));
    firsts = λ name. noted.firsts name ∙ ap (λ (o : Option ℕ). option_or o (if is_same name f.name then Some place else None)) (was.firsts name)
        ∙ ap (λ (p : ℕ). option_or (first_in older name) (if is_same name f.name then Some p else None)) place_is
        ∙ ap (λ (m : Name). option_or (first_in older name) (if is_same name m then Some (length older) else None)) (sym is.named);
    sets = (subst (IsSet (features d)) (sym is.set) set, was.sets);
  };
}

-- the same, where the nodes of the code are in order
pub completes : (d : Declared) (listed after_listed : List Node) (f : Frame) (made : TargetOutput) (n : Node) (before after : Table ℕ) (latest : ℕ)
    → HasPlaces (reverse listed) f.done f.places → after_listed ≡ listed ++ n ∷ [] → IsNodeOf f made latest n → IsNoted f.name (length listed) before after
    → IsLatest (reverse listed) f.done (unwrap_or (finite.get before f.name) (length listed)) latest
    → AreReady d (reverse listed) before → IsSet (features d) made.set → IsCompleted d (reverse listed) f made (reverse after_listed) after (length listed)
completes d listed after_listed f made n before after latest_place has pushed is noted latest was set =
    subst (λ (nodes : List Node). IsCompleted d (reverse listed) f made nodes after (length listed)) (sym (ap reverse pushed ∙ reverse-append listed (n ∷ [])))
    (completed d (reverse listed) f made n before after (length listed) latest_place has was (sym (length-reverse listed)) is noted latest set)
