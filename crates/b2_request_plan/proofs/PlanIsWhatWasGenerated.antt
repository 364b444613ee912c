-- The plan of what was generated, and the answer for a request.
use Rattle.std.proofs.Common.{arith, ◌≡◌, ◌<◌, ◌≤◌, ◌==◌, zero, suc, ℕ, Bool, true, false, cond, not, List, [], ◌∷◌, ◌++◌, Option, Some, None, Result, Ok, Err, length, map, reverse, get_or, codes, refl, sym, ap, subst, ◌∙◌, if◌then◌else◌}
use Rattle.std.specs.Prelude.{slice_get}
use Rattle.std.specs.List.{AllByRecursion, Contains, filter, flat_map}
use Rattle.std.specs.FinMap as finite
use Rattle.std.proofs.lemmas.Bool.{eqb-true}
use Rattle.std.proofs.lemmas.List.{length-reverse}
use Rattle.b2_plan.specs.declared.step.Step.{Step}
use Rattle.b2_plan.specs.Plans.{step_at, Apart}
use Rattle.b2_plan.specs.Sources.{IsInRoots}
use Rattle.b2_props.specs.declared.request.Request.{Request}
use Rattle.b2_virtual.specs.Clashes.{AreInRoots, AreApart}
use Rattle.b2_declared.specs.declared.whole.Declared.{Declared}
use Rattle.b2_evaluator.specs.Answers.{Answers}
use Rattle.b2_base.specs.Counts.{IsCounted}
use Rattle.b2_references.specs.Requests.{asked}
use Rattle.b2_references.specs.declared.asked.AskedPiece.{AskedPiece}
use Rattle.b2_declared.specs.Numbered.{IsNumbered}
use Rattle.b2_alternatives.specs.declared.fault.ChoiceFault.TheVariants as choices
use Rattle.b2_making.specs.Answers.{AreHoused, Grows}
use Rattle.b2_virtual.specs.declared.entry.Supply.{Supply}
use Rattle.b2_making.specs.declared.fault.MakingFault.TheVariants as makings
use Rattle.b2_generate.specs.Answers.{Row, Generated, HaveSets}
use Rattle.b2_generate.specs.Faults.{Fault}
use Rattle.b2_generate.specs.LoadedProjects.{LoadedProject}
use Rattle.b2_generate.specs.Nodes.{entry_in, row_of, given_by}
use Rattle.b2_generate.specs.Opening.{AreReady}
use Rattle.b2_generate.specs.Pieces.{given_at, ArePieces}
use Rattle.b2_generate.specs.Places.{rows_at}
use Rattle.b2_generate.specs.Planning.{Plans, line, is_same_row, first_rows, planned, Answers as Answered}
use Rattle.b2_generate.specs.Wholes.{whole_fault, IsWhole}
use Rattle.b2_request_plan.specs.Plans.{seen, planned_at, wanted_at, IsResultOf, IsAnswered}
use Rattle.b2_generate.specs.Tables.{Table, name_cmp}
use Rattle.b2_generate.specs.ToldOutcomes.{loaded_of, fault_of, IfFault, is_eval, is_memory, IsKnown}
use Rattle.b2_generate.specs.declared.fault.GenFault.{GenFault}
use Rattle.b2_generate.specs.declared.fault.GenFault.TheVariants as gen
use Rattle.b2_generate.specs.declared.node.Node.{Node}
use Rattle.b2_request_plan.specs.declared.planned.Planned.{Planned}
use Rattle.b2_generate.proofs.OpeningLeadsOn.{refusal_weaker}
use Rattle.b2_generate.proofs.OlderNodesStay.{entry_is, node_there}

-- ---- the outputs

among : {X : Type 0} (P : X → Type 0) (xs : List X) (x : X) → AllByRecursion P xs → Contains xs x → P x
among P [] x every (k, less, e) = absurd (omega (arith, less))
among P (y ∷ ys) x (first, more) (zero, less, e) = subst P e first
among P (y ∷ ys) x (first, more) (suc k, less, e) = among P ys x more (k, omega (arith, less), e)

unsome : {X : Type 0} (x y : X) → Some x ≡ Some y → x ≡ y
unsome x y e = cc

at_place : {X : Type 0} (P : X → Type 0) (xs : List X) (place : ℕ) (x : X) → AllByRecursion P xs → slice_get xs place ≡ Some x → P x
at_place P [] place x every e = absurd (let f : None ≡ Some x = e in cc)
at_place P (y ∷ ys) zero x (first, more) e = subst P (unsome y x e) first
at_place P (y ∷ ys) (suc place) x (first, more) e = at_place P ys place x more e

housed_at : (roots : List (List ℕ)) (steps : List Step) (i : ℕ) (step : Step) → AllByRecursion (λ s. AreHoused roots s.outs) steps → step_at steps i ≡ Some step → AreHoused roots step.outs
housed_at roots steps zero step housed e = absurd (let f : None ≡ Some step = e in cc)
housed_at roots steps (suc place) step housed e = at_place (λ (s : Step). AreHoused roots s.outs) steps place step housed e

pub in_roots : (roots : List (List ℕ)) (before steps : List Step) → before ≡ [] → Grows roots before steps → Contains roots (codes "bin") → AreInRoots steps roots
in_roots roots before steps none grows bin =
    let housed : AllByRecursion (λ s. AreHoused roots s.outs) steps =
    subst (λ (ss : List Step). AllByRecursion (λ s. AreHoused roots s.outs) ss) (sym (grows.joined ∙ ap (λ (ss : List Step). ss ++ grows.more) none)) grows.housed in
    record {
      some_out = λ i step e. (housed_at roots steps i step housed e).some_out;
      under_root = λ i step path makes. among (IsInRoots roots) step.outs path (housed_at roots steps i step housed makes.at).under_root makes.among;
      bin = bin;
    }

-- they are apart
pub are_apart : (roots copied : List (List ℕ)) (steps listed made : List Step) → listed ≡ steps → made ≡ listed → copied ≡ roots → AreApart listed → AreInRoots steps roots → Apart made copied
are_apart roots copied steps listed made e f h apart inside =
    subst (λ (ss : List Step). Apart ss copied) (sym f)
    (subst (λ (rs : List (List ℕ)). Apart listed rs) (sym h) (apart roots (subst (λ (ss : List Step). AreInRoots ss roots) (sym e) inside)))

-- ---- the wanted files

pub wanted_there : (listed : List Node) (place : ℕ) (n : Node) → place < length listed → n ≡ get_or listed place n → map (λ e. e.path) n.supply.entries ≡ wanted_at (reverse listed) place
wanted_there listed place n less is = ap (λ (s : Supply). map (λ e. e.path) s.entries) (sym (entry_is (reverse listed) place n (node_there listed place n less is)).supply)

past_place : (place count : ℕ) → suc count ≤ place → (place == count) ≡ false
past_place place count more = cases (place == count) refl
  where
    cases : (b : Bool) → (place == count) ≡ b → (place == count) ≡ false
    cases true e = absurd (omega (arith, more, eqb-true place count e))
    cases false e = e

entry_past : (nodes : List Node) (place : ℕ) → length nodes ≤ place → wanted_at nodes place ≡ []
entry_past [] place more = refl
entry_past (n ∷ older) place more =
    ap (λ (b : Bool). map (λ e. e.path) (if b then (n.name, given_by older n) else entry_in older place).1.supply.entries) (past_place place (length older) more) ∙ entry_past older place (omega (arith, more))

pub wanted_past : (listed : List Node) (place : ℕ) → length listed ≤ place → wanted_at (reverse listed) place ≡ []
wanted_past listed place more = entry_past (reverse listed) place (omega (arith, more, length-reverse listed))

-- ---- the plan

flat_given : {A : Type 0} (nodes : List Node) (f : Generated → List A) (places : List ℕ) → flat_map f (given_at nodes places) ≡ flat_map (λ place. f (entry_in nodes place).1) places
flat_given nodes f [] = refl
flat_given nodes f (place ∷ more) = ap (λ rest. f (entry_in nodes place).1 ++ rest) (flat_given nodes f more)

planned_is : {E : Type 0} (l : LoadedProject E) (nodes : List Node) (places : List ℕ) (steps : List Step) → planned l (given_at nodes places) steps ≡ planned_at l.declared l.roots nodes places steps
planned_is l nodes places steps = λ i. record {
  steps = steps;
  wanted = flat_given nodes (λ (g : Generated). map (λ e. e.path) g.supply.entries) places i;
  roots = l.roots;
  rows = first_rows (flat_given nodes (λ (g : Generated). g.rows) places i);
  table = map (line l.declared) (first_rows (flat_given nodes (λ (g : Generated). g.rows) places i));
}

-- ---- the sets of rows

have_both : (d : Declared) (rows more : List Row) → HaveSets d rows → HaveSets d more → HaveSets d (rows ++ more)
have_both d [] more these those = those
have_both d (row ∷ rows) more (one, these) those = (one, have_both d rows more these those)

flat_sets : (d : Declared) (f : ℕ → List Row) (places : List ℕ) → ((place : ℕ) → HaveSets d (f place)) → HaveSets d (flat_map f places)
flat_sets d f [] each = record {}
flat_sets d f (place ∷ more) each = have_both d (f place) (flat_map f more) (each place) (flat_sets d f more each)

-- those of what was opened for the node at a place
entry_sets : (d : Declared) (nodes : List Node) (place : ℕ) → HaveSets d (map row_of nodes) → HaveSets d (entry_in nodes place).1.rows
entry_sets d [] place had = record {}
entry_sets d (n ∷ older) place (own, others) = go (place == length older) (λ child. entry_sets d older child others)
  where
    go : (b : Bool) → ((child : ℕ) → HaveSets d (entry_in older child).1.rows) → HaveSets d (if b then (n.name, given_by older n) else entry_in older place).1.rows
    go true each = (own, flat_sets d (λ child. (entry_in older child).1.rows) n.children each)
    go false each = each place

filter_sets : (d : Declared) (p : Row → Bool) (rows : List Row) → HaveSets d rows → HaveSets d (filter p rows)
filter_sets d p [] had = record {}
filter_sets d p (row ∷ rows) (one, more) = go (p row) (filter_sets d p rows more)
  where
    go : (b : Bool) → HaveSets d (filter p rows) → HaveSets d (cond b (row ∷ filter p rows) (filter p rows))
    go true rest = (one, rest)
    go false rest = rest

first_sets : (d : Declared) (rows : List Row) → HaveSets d rows → HaveSets d (first_rows rows)
first_sets d [] had = record {}
first_sets d (row ∷ rows) (one, more) = (one, filter_sets d (λ other. not (is_same_row row other)) (first_rows rows) (first_sets d rows more))

-- ---- out of memory

whole_same : {E : Type 0} (is_host is_out : E → Bool) (fault : GenFault E) → fault_of is_host is_out (whole_fault fault) ≡ fault_of is_host is_out fault
whole_same is_host is_out (gen.NoTarget name) = refl
whole_same is_host is_out (gen.TargetCycle targets) = refl
whole_same is_host is_out (gen.UsageConflict target feature first second) = refl
whole_same is_host is_out (gen.NotChosen (choices.NoAlternative target set)) = refl
whole_same is_host is_out (gen.NotChosen (choices.AmbiguousAlternative target set i k)) = refl
whole_same is_host is_out (gen.NotChosen (choices.Unstable target first second)) = refl
whole_same is_host is_out (gen.NotChosen (choices.BadAnswer target rule word)) = refl
whole_same is_host is_out (gen.NotChosen (choices.Eval fault)) = refl
whole_same is_host is_out (gen.NotChosen choices.OutOfMemory) = refl
whole_same is_host is_out (gen.NotMade (makings.NoChain from to)) = refl
whole_same is_host is_out (gen.NotMade (makings.TwoChains from to first second)) = refl
whole_same is_host is_out (gen.NotMade (makings.PathClash path)) = refl
whole_same is_host is_out (gen.NotMade (makings.LocationOutside path)) = refl
whole_same is_host is_out (gen.NotMade (makings.TooManySteps count)) = refl
whole_same is_host is_out (gen.NotMade (makings.Eval fault)) = refl
whole_same is_host is_out (gen.NotMade makings.OutOfMemory) = refl
whole_same is_host is_out gen.OutOfMemory = refl

-- out of memory is not told by the faults of an evaluation
abbrev Counted : {E : Type 0} → (E → Bool) → (E → Bool) → ℕ → ℕ → GenFault E → Type 0
Counted is_host is_out before after fault = IsCounted {A = Planned} (is_eval is_host) (is_memory is_out) before after (Err fault)

module _ {E : Type 0} (is_host is_out : E → Bool) (before after : ℕ) where
  whole_counted : (fault : GenFault E) → Counted is_host is_out before after fault → Counted is_host is_out before after (whole_fault fault)
  whole_counted (gen.NoTarget name) h = h
  whole_counted (gen.TargetCycle targets) h = h
  whole_counted (gen.UsageConflict target feature first second) h = h
  whole_counted (gen.NotChosen (choices.NoAlternative target set)) h = h
  whole_counted (gen.NotChosen (choices.AmbiguousAlternative target set i k)) h = h
  whole_counted (gen.NotChosen (choices.Unstable target first second)) h = h
  whole_counted (gen.NotChosen (choices.BadAnswer target rule word)) h = h
  whole_counted (gen.NotChosen (choices.Eval fault)) h = h
  whole_counted (gen.NotChosen choices.OutOfMemory) h = record {}
  whole_counted (gen.NotMade (makings.NoChain from to)) h = h
  whole_counted (gen.NotMade (makings.TwoChains from to first second)) h = h
  whole_counted (gen.NotMade (makings.PathClash path)) h = h
  whole_counted (gen.NotMade (makings.LocationOutside path)) h = h
  whole_counted (gen.NotMade (makings.TooManySteps count)) h = h
  whole_counted (gen.NotMade (makings.Eval fault)) h = h
  whole_counted (gen.NotMade makings.OutOfMemory) h = record {}
  whole_counted gen.OutOfMemory h = h

module _ {E : Type 0} (Known : E → Type 0) where
  whole_known : (fault : GenFault E) → IsKnown Known fault → IsKnown Known (whole_fault fault)
  whole_known (gen.NoTarget name) h = h
  whole_known (gen.TargetCycle targets) h = h
  whole_known (gen.UsageConflict target feature first second) h = h
  whole_known (gen.NotChosen (choices.NoAlternative target set)) h = h
  whole_known (gen.NotChosen (choices.AmbiguousAlternative target set i k)) h = h
  whole_known (gen.NotChosen (choices.Unstable target first second)) h = h
  whole_known (gen.NotChosen (choices.BadAnswer target rule word)) h = h
  whole_known (gen.NotChosen (choices.Eval fault)) h = h
  whole_known (gen.NotChosen choices.OutOfMemory) h = record {}
  whole_known (gen.NotMade (makings.NoChain from to)) h = h
  whole_known (gen.NotMade (makings.TwoChains from to first second)) h = h
  whole_known (gen.NotMade (makings.PathClash path)) h = h
  whole_known (gen.NotMade (makings.LocationOutside path)) h = h
  whole_known (gen.NotMade (makings.TooManySteps count)) h = h
  whole_known (gen.NotMade (makings.Eval fault)) h = h
  whole_known (gen.NotMade makings.OutOfMemory) h = record {}
  whole_known gen.OutOfMemory h = h

is_whole : {E : Type 0} (fault : GenFault E) → IsWhole (whole_fault fault)
is_whole (gen.NoTarget name) = record { chosen = λ e. cc; made = λ e. cc }
is_whole (gen.TargetCycle targets) = record { chosen = λ e. cc; made = λ e. cc }
is_whole (gen.UsageConflict target feature first second) = record { chosen = λ e. cc; made = λ e. cc }
is_whole (gen.NotChosen (choices.NoAlternative target set)) = record { chosen = λ e. cc; made = λ e. cc }
is_whole (gen.NotChosen (choices.AmbiguousAlternative target set i k)) = record { chosen = λ e. cc; made = λ e. cc }
is_whole (gen.NotChosen (choices.Unstable target first second)) = record { chosen = λ e. cc; made = λ e. cc }
is_whole (gen.NotChosen (choices.BadAnswer target rule word)) = record { chosen = λ e. cc; made = λ e. cc }
is_whole (gen.NotChosen (choices.Eval fault)) = record { chosen = λ e. cc; made = λ e. cc }
is_whole (gen.NotChosen choices.OutOfMemory) = record { chosen = λ e. cc; made = λ e. cc }
is_whole (gen.NotMade (makings.NoChain from to)) = record { chosen = λ e. cc; made = λ e. cc }
is_whole (gen.NotMade (makings.TwoChains from to first second)) = record { chosen = λ e. cc; made = λ e. cc }
is_whole (gen.NotMade (makings.PathClash path)) = record { chosen = λ e. cc; made = λ e. cc }
is_whole (gen.NotMade (makings.LocationOutside path)) = record { chosen = λ e. cc; made = λ e. cc }
is_whole (gen.NotMade (makings.TooManySteps count)) = record { chosen = λ e. cc; made = λ e. cc }
is_whole (gen.NotMade (makings.Eval fault)) = record { chosen = λ e. cc; made = λ e. cc }
is_whole (gen.NotMade makings.OutOfMemory) = record { chosen = λ e. cc; made = λ e. cc }
is_whole gen.OutOfMemory = record { chosen = λ e. cc; made = λ e. cc }

-- ---- the beginning

-- nothing is generated
pub begun_ready : (d2 d : Declared) (nodes : List Node) (firsts : Table ℕ) → d2 ≡ d → nodes ≡ [] → firsts ≡ finite.empty → IsNumbered d → AreReady d2 nodes firsts
begun_ready d2 d nodes firsts e none empty numbered =
    subst (λ (k : Declared). AreReady k nodes firsts) (sym e)
    (subst (λ (ns : List Node). AreReady d ns firsts) (sym none)
    (record { numbered = numbered; dated = record {}; firsts = λ name. ap (λ (t : Table ℕ). finite.get t name) empty ∙ finite.get-empty name_cmp name; sets = record {} }))

pub pieces_at : {S E K : Type 0} {answers : S → Option (Answers E)} {kept : S → K} {faults : S → ℕ} {is_host is_out : E → Bool} {CanFault : K → E → Type 0}
    {d2 d : Declared} {roots2 roots : List (List ℕ)} {pieces : List AskedPiece} {old_nodes : List Node} {before : List Step} {old2 old : S}
    {nodes : List Node} {after : List Step} {new : S} {r : Result (List ℕ) (GenFault E)} → d2 ≡ d → roots2 ≡ roots → old_nodes ≡ [] → before ≡ [] → old2 ≡ old
    → ArePieces answers kept faults is_host is_out CanFault d2 roots2 pieces old_nodes before old2 nodes after new r
    → ArePieces answers kept faults is_host is_out CanFault d roots pieces [] [] old nodes after new r
pieces_at {S} {E} {K} {answers} {kept} {faults} {is_host} {is_out} {CanFault} {d2} {d} {roots2} {roots} {pieces} {old_nodes} {before} {old2} {old} {nodes} {after} {new} {r} e h n b o q =
    subst (λ (k : Declared). ArePieces answers kept faults is_host is_out CanFault k roots pieces [] [] old nodes after new r) e
    (subst (λ (k : List (List ℕ)). ArePieces answers kept faults is_host is_out CanFault d2 k pieces [] [] old nodes after new r) h
    (subst (λ (k : List Node). ArePieces answers kept faults is_host is_out CanFault d2 roots2 pieces k [] old nodes after new r) n
    (subst (λ (k : List Step). ArePieces answers kept faults is_host is_out CanFault d2 roots2 pieces old_nodes k old nodes after new r) b
    (subst (λ (k : S). ArePieces answers kept faults is_host is_out CanFault d2 roots2 pieces old_nodes before k nodes after new r) o q))))

-- ---- the answer

-- where the project is the same one
pub answered_at : {S E K : Type 0} {answers : S → Option (Answers E)} {kept : S → K} {faults : S → ℕ} {is_host is_out : E → Bool} {CanFault : K → E → Type 0}
    {d2 d : Declared} {roots : List (List ℕ)} {request : Request} {old new : S} {r : Result Planned (GenFault E)} → d2 ≡ d
    → IsAnswered answers kept faults is_host is_out CanFault d2 roots request old new r → IsAnswered answers kept faults is_host is_out CanFault d roots request old new r
answered_at {S} {E} {K} {answers} {kept} {faults} {is_host} {is_out} {CanFault} {d2} {d} {roots} {request} {old} {new} {r} e q =
    subst (λ (k : Declared). IsAnswered answers kept faults is_host is_out CanFault k roots request old new r) e q

module _ {S E K : Type 0} {answers : S → Option (Answers E)} {kept : S → K} {faults : S → ℕ} {is_host is_out : E → Bool} {CanFault : K → E → Type 0}
    {d : Declared} {roots : List (List ℕ)} {request : Request} {old new : S} where
  -- there was no memory
  pub out_answered : (r : Result Planned (GenFault E)) → r ≡ Err gen.OutOfMemory → answers new ≡ answers old → kept new ≡ kept old
      → IsAnswered answers kept faults is_host is_out CanFault d roots request old new r
  out_answered r e told held =
      subst (λ (k : Result Planned (GenFault E)). IsAnswered answers kept faults is_host is_out CanFault d roots request old new k) (sym e)
      (record {
        told = λ answered is. record {};
        apart = record {};
        same_roots = record {};
        sets = record {};
        leaves = record { same_answers = told; same_kept = held; counted = record {}; known = record {} };
        whole = is_whole gen.OutOfMemory;
      })

  module _ {nodes : List Node} {after : List Step} where
    planned_answered : (p : Planned) (places : List ℕ) (pieces : List AskedPiece) → pieces ≡ asked d request.sets request.targets → (seen p ≡ planned_at d roots nodes places after) × Apart p.plan.steps p.plan.roots
        → ArePieces answers kept faults is_host is_out CanFault d roots pieces [] [] old nodes after new (Ok places)
        → IsAnswered answers kept faults is_host is_out CanFault d roots request old new (Ok p)
    planned_answered p places pieces same (is, apart) q = record {
      told = λ answered known. record {
        outcome = Ok (given_at nodes places, after);
        answers = subst (λ (k : List AskedPiece). Answered (loaded_of d roots answered) k [] (Ok (given_at nodes places, after))) same (q.given answered known (record {}));
        is = ap Ok (is ∙ sym (planned_is (loaded_of d roots answered) nodes places after));
      };
      apart = apart;
      same_roots = ap (λ k. k.roots) is;
      sets = subst (HaveSets d) (sym (ap (λ k. k.rows) is)) (first_sets d (flat_map (rows_at nodes) places) (flat_sets d (rows_at nodes) places (λ place. entry_sets d nodes place q.sets)));
      leaves = record { same_answers = q.leaves.same_answers; same_kept = q.leaves.same_kept; counted = q.leaves.counted; known = record {} };
      whole = record {};
    }

    refused_answered : (why : GenFault E) (pieces : List AskedPiece) → pieces ≡ asked d request.sets request.targets
        → ArePieces answers kept faults is_host is_out CanFault d roots pieces [] [] old nodes after new (Err why)
        → IsAnswered answers kept faults is_host is_out CanFault d roots request old new (Err (whole_fault why))
    refused_answered why pieces same q = record {
      told = λ answered known.
          refusal_weaker is_host is_out (λ f. Answered (loaded_of d roots answered) pieces [] (Err f)) (λ f. Plans (loaded_of d roots answered) request.sets request.targets (Err f))
          (λ f refuses. record {
            outcome = Err f;
            answers = subst (λ (k : List AskedPiece). Answered (loaded_of d roots answered) k [] (Err f)) same refuses;
            is = refl;
          })
          (whole_fault why)
          (subst (λ (o : Option (Fault E)). IfFault (λ f. Answered (loaded_of d roots answered) pieces [] (Err f)) o) (sym (whole_same is_host is_out why)) (q.given answered known (record {})));
      apart = record {};
      same_roots = record {};
      sets = record {};
      leaves = record {
        same_answers = q.leaves.same_answers;
        same_kept = q.leaves.same_kept;
        counted = whole_counted is_host is_out (faults old) (faults new) why q.leaves.counted;
        known = whole_known (CanFault (kept old)) why q.leaves.known;
      };
      whole = is_whole why;
    }

    pub result_answered : (given : Result (List ℕ) (GenFault E)) (result : Result Planned (GenFault E)) (pieces : List AskedPiece) → pieces ≡ asked d request.sets request.targets → IsResultOf d roots nodes after given result
        → ArePieces answers kept faults is_host is_out CanFault d roots pieces [] [] old nodes after new given
        → IsAnswered answers kept faults is_host is_out CanFault d roots request old new result
    result_answered (Ok places) (Ok p) pieces same is q = planned_answered p places pieces same is q
    result_answered (Ok places) (Err fault) pieces same is q = out_answered (Err fault) (ap Err is) q.leaves.same_answers q.leaves.same_kept
    result_answered (Err why) result pieces same is q =
        subst (λ (k : Result Planned (GenFault E)). IsAnswered answers kept faults is_host is_out CanFault d roots request old new k) (sym is) (refused_answered why pieces same q)
