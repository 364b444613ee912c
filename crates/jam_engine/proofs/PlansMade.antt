-- The plan of targets, by the acts, their sets, the steps and what the targets come to.
use Rattle.std.proofs.Common.{◌≡◌, ◌≢◌, ℕ, zero, suc, ◌<◌, Bool, not, List, [], ◌∷◌, ◌++◌, length, map, Option, Some, None, Result, Ok, Err, sym, ap, ap₂, ◌∙◌, subst}
use Rattle.std.specs.Prelude.{codes}
use Rattle.std.specs.List.{All, Contains, AllByRecursion, find}
use Rattle.std.proofs.lemmas.Option.{same_Some, slice_get_within}
use Rattle.std.proofs.lemmas.List.Elements.{All-from_recursion}
use Rattle.b2_plan.specs.declared.plan.Plan.{Plan}
use Rattle.b2_plan.specs.declared.step.Step.{Step}
use Rattle.b2_plan.specs.Plans.{step_at}
use Rattle.b2_plan.specs.Sources.{IsInRoots}
use Rattle.b2_virtual.specs.Clashes.{AreInRoots}
use Rattle.jam_journal.specs.Tables.{Text}
use Rattle.jam_journal.specs.Scopes.{Value}
use Rattle.jam_scope.specs.Texts.{first_roots}
use Rattle.jam_graph.specs.declared.fault.JamFault.{JamFault}
use Rattle.jam_graph.specs.declared.fault.JamFault.TheVariants as faults
use Rattle.jam_graph.specs.declared.graph.Act.{Act}
use Rattle.jam_graph.specs.declared.graph.Graph.{Graph}
use Rattle.jam_graph.specs.Loads.{Refusal}
use Rattle.jam_graph.specs.Loading.{refusal_of}
use Rattle.jam_engine.specs.declared.index.Index.{Index}
use Rattle.jam_engine.specs.Acts.{acts, acts_at, Linked, self, next, IsSet, AreSets}
use Rattle.jam_engine.specs.Planning.{target_of, IsRefusedTo, IsPlannedOf, HasNoTarget}
use Rattle.jam_engine.specs.Plans.{unknown, Target, Joins, Steps, PlansTo, is_unknown, is_refused, is_planned}
use Rattle.jam_engine.specs.Spreading.{SpreadsTo}
use Rattle.jam_engine.specs.Stepping.{ArePlaced, IsStopped, AreStepsFor}
use Rattle.jam_engine.specs.Tables.{is_in, IsIndexOf}
use Rattle.jam_engine.specs.Targets.{place, roots}
use Rattle.jam_engine.proofs.LabelsGrow.{none_some, all_at, all_map, at_front}

module _ (g : Graph) (stands : Text → Bool) (targets : Value) (known : unknown g targets ≡ None) (list : List Act) (sets : List (List ℕ)) (list_is : list ≡ acts g stands) (are : AreSets list sets) where
  -- the steps of the sets, as the definition has its acts
  steps_are : (last : Result (List Step) Refusal) → Joins g stands [] (map (acts_at list) sets) last → Steps g stands last
  steps_are last h = subst (λ (l : List Act). Joins g stands [] (map (acts_at l) sets) last → Steps g stands last) (sym list_is) (λ j. record { sets = sets; are = subst (λ (l : List Act). AreSets l sets) list_is are; joins = j }) h

  refused_or_not : (o : Option Refusal) → IsStopped g stands (map (acts_at list) sets) o → IsRefusedTo g stands targets o
  refused_or_not None h = tt
  refused_or_not (Some why) h = is_refused why known (steps_are (Err why) h)

  pub plan_stops : (fault : JamFault) → AreStepsFor g stands (map (acts_at list) sets) (Err fault) → IsPlannedOf g stands targets (Err fault)
  plan_stops (faults.NoFile path) h = refused_or_not (refusal_of (faults.NoFile path)) h
  plan_stops (faults.TooBig path size) h = refused_or_not (refusal_of (faults.TooBig path size)) h
  plan_stops (faults.Lex path fault) h = refused_or_not (refusal_of (faults.Lex path fault)) h
  plan_stops (faults.Syntax path fault) h = refused_or_not (refusal_of (faults.Syntax path fault)) h
  plan_stops (faults.Eval fault) h = refused_or_not (refusal_of (faults.Eval fault)) h
  plan_stops (faults.NoTarget name) h = refused_or_not (refusal_of (faults.NoTarget name)) h
  plan_stops (faults.MixedNotFile target) h = refused_or_not (refusal_of (faults.MixedNotFile target)) h
  plan_stops (faults.PathClash path) h = refused_or_not (refusal_of (faults.PathClash path)) h
  plan_stops (faults.LocationOutside path) h = refused_or_not (refusal_of (faults.LocationOutside path)) h
  plan_stops (faults.TooManySteps count) h = refused_or_not (refusal_of (faults.TooManySteps count)) h
  plan_stops faults.Host h = absurd h
  plan_stops faults.OutOfMemory h = tt

  pub plan_made : (steps : List Step) (wanted under : List Text) (plan : Plan) → AreStepsFor g stands (map (acts_at list) sets) (Ok steps) → SpreadsTo g stands targets wanted → under ≡ roots g
      → plan.steps ≡ steps → plan.wanted ≡ wanted → plan.roots ≡ under → IsPlannedOf g stands targets (Ok plan)
  plan_made steps wanted under plan h spread under_is steps_is wanted_is roots_is =
      subst (λ (t : Target). PlansTo g stands targets (Ok t)) same (is_planned steps spread.found known (steps_are (Ok steps) h) spread.spreads)
    where
      same : (let t : Target = record { steps = steps; wanted = map (place g stands) spread.found; roots = roots g } in t) ≡ target_of plan
      same =
          ap (λ (s : List Step). let t : Target = record { steps = s; wanted = map (place g stands) spread.found; roots = roots g } in t) (sym steps_is)
          ∙ ap₂ (λ (w r : List Text). let t : Target = record { steps = plan.steps; wanted = w; roots = r } in t) (sym (wanted_is ∙ spread.are)) (sym (roots_is ∙ under_is))

-- ---- outputs under roots

placed_at : (under : List Text) (steps : List Step) (number : ℕ) (step : Step) → ArePlaced under steps → step_at steps number ≡ Some step → (step.outs ≢ []) × AllByRecursion (IsInRoots under) step.outs
placed_at under steps zero step h e = absurd (none_some step e)
placed_at under [] (suc number) step h e = absurd (none_some step e)
placed_at under (first ∷ steps) (suc zero) step (one, more) e = subst (λ (s : Step). (s.outs ≢ []) × AllByRecursion (IsInRoots under) s.outs) (same_Some first step e) one
placed_at under (first ∷ steps) (suc (suc number)) step (one, more) e = placed_at under steps (suc number) step more e

pub steps_in_roots : (under : List Text) (steps : List Step) → ArePlaced under steps → Contains under (codes "bin") → AreInRoots steps under
steps_in_roots under steps h bin = record {
  some_out = λ number step e. (placed_at under steps number step h e).0;
  under_root = λ number step path makes. all_at (IsInRoots under) step.outs path (placed_at under steps number step h makes.at).1 makes.among;
  bin = bin;
}

-- ---- words

pub known_by : (g : Graph) (index : Index) (targets : Value) → IsIndexOf g index → find (λ target. not (is_in index.targets target)) targets ≡ unknown g targets
known_by g index targets h = ap (λ (p : Text → Bool). find (λ target. not (p target)) targets) (λ i t. h.targets t i)

-- ---- what the calls of a plan need

pub linked_within : (list : List Act) (first place : ℕ) → Linked list first place → place < length list
linked_within list first place (self _ low) = low
linked_within list first place (next _ middle _ before share) = slice_get_within list place share.second share.at_second

set_within : (list : List Act) (first : ℕ) (set : List ℕ) → IsSet list first set → All (λ place. place < length list) set
set_within list first set h =
    All-from_recursion (λ place. place < length list) set (all_map (λ place. Linked list first place) (λ place. place < length list) set (λ place linked. linked_within list first place linked) h.linked)

-- each place of a set is one of an act
pub sets_within : (list : List Act) (sets : List (List ℕ)) → AreSets list sets → All (λ set. All (λ place. place < length list) set) sets
sets_within list sets are =
    All-from_recursion (λ set. All (λ place. place < length list) set) sets
    (all_map (λ set. (first : ℕ) × IsSet list first set) (λ set. All (λ place. place < length list) set) sets (λ set one. set_within list one.0 set one.1) are.each)

first_root : (more : List Text) → Contains (first_roots ++ more) (codes "bin")
first_root more = at_front (codes "bin") (codes "stage" ∷ codes "dist" ∷ more)

-- `bin` is a root of each graph
pub bin_is_root : (g : Graph) (under : List Text) → under ≡ roots g → Contains under (codes "bin")
bin_is_root g under e = subst (λ (l : List Text). Contains l (codes "bin")) (sym e) (first_root _)

-- ---- a word that is no target

pub unknown_stops : (g : Graph) (stands : Text → Bool) (targets : Value) (fault : JamFault) → HasNoTarget g targets (Err fault) → IsPlannedOf g stands targets (Err fault)
unknown_stops g stands targets (faults.NoTarget name) e = is_unknown name e
unknown_stops g stands targets faults.OutOfMemory e = tt
unknown_stops g stands targets (faults.NoFile path) e = absurd e
unknown_stops g stands targets (faults.TooBig path size) e = absurd e
unknown_stops g stands targets (faults.Lex path fault) e = absurd e
unknown_stops g stands targets (faults.Syntax path fault) e = absurd e
unknown_stops g stands targets (faults.Eval fault) e = absurd e
unknown_stops g stands targets (faults.MixedNotFile target) e = absurd e
unknown_stops g stands targets (faults.PathClash path) e = absurd e
unknown_stops g stands targets (faults.LocationOutside path) e = absurd e
unknown_stops g stands targets (faults.TooManySteps count) e = absurd e
unknown_stops g stands targets faults.Host e = absurd e
