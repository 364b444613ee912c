-- Nodes for which no open main target was opened: by their dates, and by a pass over marks.
use Rattle.std.proofs.Common.{arith, IsTrue, not, ◌≡◌, ◌<◌, ◌≤◌, ◌+◌, ◌⊎◌, inl, inr, ℕ, Bool, true, false, cond, List, [], ◌∷◌, ◌++◌, length, reverse, take, get_or, set, refl, sym, ap, subst, ◌∙◌}
use Rattle.std.specs.List.{AllByRecursion, filter, flat_map}
use Rattle.std.proofs.Math.ListN.{length-set}
use Rattle.std.proofs.lemmas.Bool.{cases_eq, false≢true, ltb-true}
use Rattle.std.proofs.lemmas.List.{get_or-set_same, get_or-set_other, take_all}
use Rattle.b2_references.specs.Names.{Name, is_among}
use Rattle.b2_generate.specs.Clear.{IsClear, is_marked, MarksStay, AreMarked, AreClearBefore, Passes}
use Rattle.b2_generate.specs.Laws.{AreClosed}
use Rattle.b2_generate.specs.Nodes.{entry_in, AreDated, AreLate}
use Rattle.b2_generate.specs.Places.{rows_at, is_before}
use Rattle.b2_generate.specs.declared.node.Node.{Node}
use Rattle.b2_generate.proofs.SupplyGathersPartByPart.{further_at}
use Rattle.b2_generate.proofs.SameNamesAreEqual.{same}
use Rattle.b2_generate.proofs.OlderNodesStay.{dated_at, node_there, closed_by_dates}
use Rattle.b2_generate.proofs.OwnRowThenChildrensRows.{rows_some}
use Rattle.b2_generate.proofs.OutcomeIsTheSameAgain.{closed_both}

-- each main target that was opened for a node was generated first before each of these was
pub clear_by_dates : (listed : List Node) (place : ℕ) (n : Node) (earliest : ℕ) (names : List Name) → place < length listed → n ≡ get_or listed place n
    → AreDated (reverse listed) → AreLate (reverse listed) earliest names → n.latest < earliest → IsClear names (reverse listed) place
clear_by_dates listed place n earliest names there is dated late less =
    closed_by_dates same (reverse listed) n.latest earliest (entry_in (reverse listed) place).1.rows names less (dated_at (reverse listed) place n dated (node_there listed place n there is)) late

-- ---- marks

pub stay_all : (marks : List Bool) → MarksStay marks marks
stay_all marks = record { size = refl; stay = λ place was. was }

stay_then : (old now new : List Bool) → MarksStay old now → MarksStay now new → MarksStay old new
stay_then old now new one two = record { size = two.size ∙ one.size; stay = λ place was. two.stay place (one.stay place was) }

set_stays : (marks : List Bool) (place : ℕ) → place < length marks → MarksStay marks (set marks place true)
set_stays marks place inside = record { size = length-set marks place true; stay = λ other was. cases other (cases_eq other place) was }
  where
    cases : (other : ℕ) → (other ≡ place) ⊎ (other ≡ place → ⊥) → is_marked marks other ≡ true → is_marked (set marks place true) other ≡ true
    cases other (inl e) was = ap (is_marked (set marks place true)) e ∙ get_or-set_same marks place true false inside
    cases other (inr apart) was = get_or-set_other marks place other true false apart ∙ was

all_stay : (old now new : List Bool) (places : List ℕ) → MarksStay now new → AllByRecursion (λ place. place < length old → is_marked now place ≡ true) places → AllByRecursion (λ place. place < length old → is_marked new place ≡ true) places
all_stay old now new [] stay all = record {}
all_stay old now new (place ∷ more) stay (first, others) = (λ inside. stay.stay place (first inside), all_stay old now new more stay others)

one_more : (old new : List Bool) (places : List ℕ) (place : ℕ) → AllByRecursion (λ p. p < length old → is_marked new p ≡ true) places → (place < length old → is_marked new place ≡ true)
    → AllByRecursion (λ p. p < length old → is_marked new p ≡ true) (places ++ place ∷ [])
one_more old new [] place all last = (last, record {})
one_more old new (first ∷ more) place (here, others) last = (here, one_more old new more place others last)

pub marked_none : (marks : List Bool) → AreMarked [] marks marks
marked_none marks = record { stay = stay_all marks; marked = record {} }

-- a further place that has a mark
pub marked_further : (places : List ℕ) (at : ℕ) (old now : List Bool) → at < length places → get_or places at 0 < length now
    → AreMarked (take at places) old now → AreMarked (take (at + 1) places) old (set now (get_or places at 0) true)
marked_further places at old now less inside so_far =
    let place = get_or places at 0 in
    let new = set now place true in
    let stay = set_stays now place inside in
    subst (λ (ps : List ℕ). AreMarked ps old new) (sym (further_at places at 0 less))
    (record {
      stay = stay_then old now new so_far.stay stay;
      marked = one_more old new (take at places) place (all_stay old now new (take at places) stay so_far.marked) (λ there. get_or-set_same now place true false inside);
    })

-- one that has none
pub marked_past : (places : List ℕ) (at : ℕ) (old now : List Bool) → at < length places → length now ≤ get_or places at 0
    → AreMarked (take at places) old now → AreMarked (take (at + 1) places) old now
marked_past places at old now less past so_far =
    subst (λ (ps : List ℕ). AreMarked ps old now) (sym (further_at places at 0 less))
    (record {
      stay = so_far.stay;
      marked = one_more old now (take at places) (get_or places at 0) so_far.marked (λ there. absurd (omega (arith, there, past, so_far.stay.size)));
    })

pub marked_all : (places : List ℕ) (at : ℕ) (old now : List Bool) → length places ≤ at → AreMarked (take at places) old now → AreMarked places old now
marked_all places at old now past so_far = subst (λ (ps : List ℕ). AreMarked ps old now) (take_all at places past) so_far

-- ---- one place

pub passes_unmarked : (names : List Name) (nodes : List Node) (place : ℕ) (marks : List Bool) → is_marked marks place ≡ false → Passes names nodes place marks marks
passes_unmarked names nodes place marks is = record { stay = stay_all marks; clears = λ was before. absurd (false≢true (sym is ∙ was)) }

module _ (names : List Name) (nodes : List Node) where
  children_clear : (place : ℕ) (old new : List Bool) (children : List ℕ) → place < length old → AllByRecursion (λ child. child < length old → is_marked new child ≡ true) children
      → AreClearBefore names nodes place new → AreClosed names (flat_map (rows_at nodes) (filter (is_before place) children))
  children_clear place old new [] inside marked before = record {}
  children_clear place old new (child ∷ more) inside (first, others) before = go (is_before place child) refl (children_clear place old new more inside others before)
    where
      go : (b : Bool) → is_before place child ≡ b → AreClosed names (flat_map (rows_at nodes) (filter (is_before place) more))
          → AreClosed names (flat_map (rows_at nodes) (cond b (child ∷ filter (is_before place) more) (filter (is_before place) more)))
      go true e rest =
          let less : child < place = ltb-true child place e in
          closed_both names (rows_at nodes child) (flat_map (rows_at nodes) (filter (is_before place) more)) (before child less (first (omega (arith, less, inside)))) rest
      go false e rest = rest

pub passes_marked : (names : List Name) (listed : List Node) (place : ℕ) (n : Node) (old new : List Bool) → place < length listed → n ≡ get_or listed place n → place < length old
    → AreMarked n.children old new → is_among names n.name ≡ false → Passes names (reverse listed) place old new
passes_marked names listed place n old new there is inside marked closed = record {
  stay = marked.stay;
  clears = λ was before.
      subst (AreClosed names) (sym (rows_some (reverse listed) place n (node_there listed place n there is)))
      (closed, children_clear names (reverse listed) place old new n.children inside marked.marked before);
}

-- the same, by what the code asks
pub passes_open : (names : List Name) (listed : List Node) (place : ℕ) (n : Node) (old new : List Bool) (is_open : Bool) → place < length listed → n ≡ get_or listed place n → place < length old
    → AreMarked n.children old new → is_open ≡ is_among names n.name → IsTrue (not is_open) → Passes names (reverse listed) place old new
passes_open names listed place n old new true there is inside marked asked clear = absurd (false≢true clear)
passes_open names listed place n old new false there is inside marked asked clear = passes_marked names listed place n old new there is inside marked (sym asked)

-- ---- the pass

-- what the pass down to a place has shown
pub record IsGoingDown (names : List Name) (nodes : List Node) (place left : ℕ) (marks : List Bool) : Type 0 where
  pub within : left ≤ place + 1
  pub size : length marks ≡ place + 1
  pub leads : AreClearBefore names nodes left marks → IsClear names nodes place

pub begins_down : (names : List Name) (nodes : List Node) (place : ℕ) (marks : List Bool) → length marks ≡ place + 1 → IsGoingDown names nodes place (place + 1) (set marks place true)
begins_down names nodes place marks size = record {
  within = omega arith;
  size = length-set marks place true ∙ size;
  leads = λ before. before place (omega arith) (get_or-set_same marks place true false (omega (arith, size)));
}

pub goes_down : (names : List Name) (nodes : List Node) (place left next : ℕ) (old new : List Bool) → left ≡ next + 1 → IsGoingDown names nodes place left old
    → Passes names nodes next old new → IsGoingDown names nodes place next new
goes_down names nodes place left next old new is going passed = record {
  within = omega (arith, is, going.within);
  size = passed.stay.size ∙ going.size;
  leads = λ before. going.leads (λ other less was. cases before other less was (cases_eq other next));
}
  where
    cases : AreClearBefore names nodes next new → (other : ℕ) → other < left → is_marked old other ≡ true → (other ≡ next) ⊎ (other ≡ next → ⊥) → IsClear names nodes other
    cases before other less was (inl e) = subst (IsClear names nodes) (sym e) (passed.clears (ap (is_marked old) (sym e) ∙ was) before)
    cases before other less was (inr apart) = before other (lower other less apart) (passed.stay.stay other was)
      where
        lower : (o : ℕ) → o < left → (o ≡ next → ⊥) → o < next
        lower o less apart = omega (arith, is, less, apart)

pub ends_down : (names : List Name) (nodes : List Node) (place left : ℕ) (marks : List Bool) → left ≤ 0 → IsGoingDown names nodes place left marks → IsClear names nodes place
ends_down names nodes place left marks none going = going.leads (λ other less was. absurd (omega (arith, less, none)))
