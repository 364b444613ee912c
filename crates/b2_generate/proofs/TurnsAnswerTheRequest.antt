-- A main target that is asked for: from its opening, by one turn after another, to its outcome.
use Rattle.std.proofs.Common.{◌≡◌, ◌<◌, ℕ, Bool, List, [], ◌∷◌, Option, Some, None, Result, Ok, Err, map, refl, sym, subst, ◌∙◌}
use Rattle.std.specs.FinMap as finite
use Rattle.b2_plan.specs.declared.step.Step.{Step}
use Rattle.b2_props.specs.Sets.{Pair}
use Rattle.b2_declared.specs.declared.whole.Declared.{Declared}
use Rattle.b2_evaluator.specs.Answers.{Answers}
use Rattle.b2_base.specs.Counts.{IsCounted}
use Rattle.b2_references.specs.Names.{Name}
use Rattle.b2_alternatives.specs.Choosing.{Chooses}
use Rattle.b2_alternatives.specs.Picking.{seen}
use Rattle.b2_making.specs.Answers.{Grows}
use Rattle.b2_making.proofs.PromisesCompose.{grows_then}
use Rattle.b2_generate.specs.Faults.{Fault}
use Rattle.b2_generate.specs.Generation.{Generates, choice_refused}
use Rattle.b2_generate.specs.LoadedProjects.{LoadedProject, returned}
use Rattle.b2_generate.specs.Machine.{frame_of, AreKept}
use Rattle.b2_generate.specs.Nodes.{IsFrom, first_in, AreAdded}
use Rattle.b2_generate.specs.Opening.{AreReady, IsOpened, IsUnchosen}
use Rattle.b2_generate.specs.Remembered.{AreMade}
use Rattle.b2_generate.specs.Stack.{IsUnderWay}
use Rattle.b2_generate.specs.Tables.{Table}
use Rattle.b2_generate.specs.ToldOutcomes.{loaded_of, IsRefusal, is_eval, is_memory, IsKnown, Leaves}
use Rattle.b2_generate.specs.Turning.{IsTurn, IsRequest, turns_of}
use Rattle.b2_generate.specs.declared.fault.GenFault.{GenFault}
use Rattle.b2_generate.specs.declared.fault.GenFault.TheVariants.{OutOfMemory}
use Rattle.b2_generate.specs.declared.frame.Frame.{Frame}
use Rattle.b2_generate.specs.declared.node.Node.{Node}
use Rattle.b2_generate.proofs.GivenStaysWithMoreNodes.{none_added, added_then}
use Rattle.b2_generate.proofs.OpeningLeadsOn.{refusal_weaker}
use Rattle.b2_generate.proofs.NewNodeKeepsOpenTargets.{opened_stands, opened_kept}
use Rattle.b2_generate.proofs.StepsAreThoseDefined.{grows_none}
use Rattle.b2_generate.proofs.StackLeadsToTheOutcome.{opens_first}

-- the main target that was asked for is the oldest of these open ones
pub record IsRunning {S E K : Type 0} (answers : S → Option (Answers E)) (kept : S → K) (faults : S → ℕ)
    (d : Declared) (roots : List (List ℕ)) (name : Name) (set : List Pair) (old_nodes : List Node) (start : List Step) (old : S)
    (nodes : List Node) (firsts : Table ℕ) (open_frames : List Frame) (steps : List Step) (new : S) : Type 0 where
  pub ready : AreReady d nodes firsts
  pub all_kept : AreKept nodes d open_frames
  pub adds : AreAdded old_nodes nodes
  pub leads : (answered : Answers E) → answers old ≡ Some answered → AreMade (loaded_of d roots answered) old_nodes start
      → IsUnderWay (loaded_of d roots answered) name set start (map (frame_of nodes) open_frames) steps × AreMade (loaded_of d roots answered) nodes steps
  pub grows : Grows roots start steps
  pub same_answers : answers new ≡ answers old
  pub same_kept : kept new ≡ kept old
  pub counted : faults new ≡ faults old

-- ---- exits before it is open

module _ {S E K : Type 0} {answers : S → Option (Answers E)} {kept : S → K} {faults : S → ℕ} {is_host is_out : E → Bool} {CanFault : K → E → Type 0}
    {d : Declared} {roots : List (List ℕ)} {name : Name} {set : List Pair} {old_nodes : List Node} {start : List Step} {old : S}
    {nodes : List Node} {firsts : Table ℕ} {after : List Step} {new : S} where
  pub request_stops : {T : Type 0} (r : Result ℕ (GenFault E)) (fault : GenFault E) → r ≡ Err fault → Grows roots start after
      → ((answered : Answers E) → answers old ≡ Some answered → AreMade (loaded_of d roots answered) old_nodes start
      → IsRefusal is_host is_out (λ why. Generates (loaded_of d roots answered) [] name set start (Err why)) fault)
      → Leaves {T = T} answers kept faults is_host is_out CanFault old new (Err fault)
      → IsRequest answers kept faults is_host is_out CanFault d roots name set old_nodes start old nodes firsts after new r
  request_stops {T} r fault e grows refuses left =
      subst (λ (k : Result ℕ (GenFault E)). IsRequest answers kept faults is_host is_out CanFault d roots name set old_nodes start old nodes firsts after new k) (sym e)
      (record {
        ready = record {};
        adds = record {};
        there = record {};
        generated = λ answered is made. refuses answered is made;
        grows = grows;
        leaves = record { same_answers = left.same_answers; same_kept = left.same_kept; counted = left.counted; known = left.known };
      })

  pub request_out : (r : Result ℕ (GenFault E)) → r ≡ Err OutOfMemory → Grows roots start after → answers new ≡ answers old → kept new ≡ kept old
      → IsRequest answers kept faults is_host is_out CanFault d roots name set old_nodes start old nodes firsts after new r
  request_out r e grows told held =
      request_stops {T = ℕ} r OutOfMemory e grows (λ answered is made. record {}) (record { same_answers = told; same_kept = held; counted = record {}; known = record {} })

-- no alternative is settled on
pub unchosen_first : {E : Type 0} (is_host is_out : E → Bool) (l : LoadedProject E) (name : Name) (set : List Pair) (start : List Step) (fault : GenFault E)
    → IsRefusal is_host is_out (IsUnchosen l.declared (returned l) name set) fault → IsRefusal is_host is_out (λ why. Generates l [] name set start (Err why)) fault
unchosen_first {E} is_host is_out l name set start fault h =
    refusal_weaker is_host is_out (IsUnchosen l.declared (returned l) name set) (λ why. Generates l [] name set start (Err why))
    (λ why u. subst (λ (k : Fault E). Generates l [] name set start (Err k)) (sym u.is) (choice_refused [] name set start u.why refl u.chooses)) fault h

-- ---- it is open

pub first_kept : (d : Declared) (nodes : List Node) (firsts : Table ℕ) (name : Name) (set : List Pair) (bound : ℕ) (f : Frame) → AreReady d nodes firsts → IsOpened d name set bound f → IsFrom bound (finite.get firsts name)
    → AreKept nodes d (f ∷ [])
first_kept d nodes firsts name set bound f ready is from = (
  refl,
  (
    subst (λ (e : ℕ). IsFrom e (first_in nodes f.name)) (sym is.earliest)
        (subst (λ (n : Name). IsFrom bound (first_in nodes n)) (sym is.named) (subst (IsFrom bound) (ready.firsts name) from)),
    record {},
  ),
  opened_kept nodes d name set bound f is,
  record {},
)

module _ {S E K : Type 0} {answers : S → Option (Answers E)} {kept : S → K} {faults : S → ℕ} {d : Declared} {roots : List (List ℕ)} {name : Name} {set : List Pair}
    {nodes : List Node} {start : List Step} {old : S} {firsts : Table ℕ} {new : S} where
  pub running_first : (bound : ℕ) (f : Frame) (open_frames : List Frame) → open_frames ≡ f ∷ [] → AreReady d nodes firsts → IsOpened d name set bound f → IsFrom bound (finite.get firsts name)
      → ((answered : Answers E) → answers old ≡ Some answered → Chooses d answered.returned name set (Ok (seen name f.chosen)))
      → answers new ≡ answers old → kept new ≡ kept old → faults new ≡ faults old
      → IsRunning answers kept faults d roots name set nodes start old nodes firsts open_frames start new
  running_first bound f open_frames frames_are ready is from chooses told held counted = record {
    ready = ready;
    all_kept = subst (AreKept nodes d) (sym frames_are) (first_kept d nodes firsts name set bound f ready is from);
    adds = none_added nodes;
    leads = λ answered known made. (
      subst (λ (fs : List Frame). IsUnderWay (loaded_of d roots answered) name set start (map (frame_of nodes) fs) start) (sym frames_are)
          (subst (λ k. IsUnderWay (loaded_of d roots answered) name set start (k ∷ []) start) (sym (opened_stands nodes d name set bound f is))
          (opens_first (loaded_of d roots answered) name set start (seen name f.chosen) (chooses answered known))),
      made,
    );
    grows = grows_none roots start;
    same_answers = told;
    same_kept = held;
    counted = counted;
  }

-- ---- turns

-- a turn where the project is the same one
pub turn_at : {S E K : Type 0} {answers : S → Option (Answers E)} {kept : S → K} {faults : S → ℕ} {is_host is_out : E → Bool} {CanFault : K → E → Type 0}
    {d2 d : Declared} {roots2 roots : List (List ℕ)} {old_nodes : List Node} {old_frames : List Frame} {before : List Step} {old : S}
    {nodes : List Node} {firsts : Table ℕ} {open_frames : List Frame} {after : List Step} {new : S} {r : Result (Option ℕ) (GenFault E)} → d2 ≡ d → roots2 ≡ roots
    → IsTurn answers kept faults is_host is_out CanFault d2 roots2 old_nodes old_frames before old nodes firsts open_frames after new r
    → IsTurn answers kept faults is_host is_out CanFault d roots old_nodes old_frames before old nodes firsts open_frames after new r
turn_at {S} {E} {K} {answers} {kept} {faults} {is_host} {is_out} {CanFault} {d2} {d} {roots2} {roots} {old_nodes} {old_frames} {before} {old} {nodes} {firsts} {open_frames} {after} {new} {r} e h t =
    subst (λ (k : Declared). IsTurn answers kept faults is_host is_out CanFault k roots old_nodes old_frames before old nodes firsts open_frames after new r) e
    (subst (λ (ks : List (List ℕ)). IsTurn answers kept faults is_host is_out CanFault d2 ks old_nodes old_frames before old nodes firsts open_frames after new r) h t)

module _ {S E K : Type 0} {answers : S → Option (Answers E)} {kept : S → K} {faults : S → ℕ} {is_host is_out : E → Bool} {CanFault : K → E → Type 0}
    {d : Declared} {roots : List (List ℕ)} {name : Name} {set : List Pair} {old_nodes : List Node} {start : List Step} {old : S}
    {mid_nodes : List Node} {mid_firsts : Table ℕ} {mid_frames : List Frame} {mid_steps : List Step} {mid : S}
    {nodes : List Node} {firsts : Table ℕ} {open_frames : List Frame} {after : List Step} {new : S}
    (so_far : IsRunning answers kept faults d roots name set old_nodes start old mid_nodes mid_firsts mid_frames mid_steps mid) where
  pub run_on : (o : Option ℕ) → o ≡ None → IsTurn answers kept faults is_host is_out CanFault d roots mid_nodes mid_frames mid_steps mid nodes firsts open_frames after new (Ok o)
      → IsRunning answers kept faults d roots name set old_nodes start old nodes firsts open_frames after new
  run_on o e turn =
      let t = subst (λ (k : Option ℕ). IsTurn answers kept faults is_host is_out CanFault d roots mid_nodes mid_frames mid_steps mid nodes firsts open_frames after new (Ok k)) e turn in
      record {
        ready = t.turned.ready;
        all_kept = t.turned.kept;
        adds = added_then old_nodes mid_nodes nodes so_far.adds t.adds;
        leads = λ answered is made.
            let h = so_far.leads answered is made in
            t.leads answered (so_far.same_answers ∙ is) name set start h.0 h.1;
        grows = grows_then roots start mid_steps after so_far.grows t.grows;
        same_answers = t.leaves.same_answers ∙ so_far.same_answers;
        same_kept = t.leaves.same_kept ∙ so_far.same_kept;
        counted = t.leaves.counted ∙ so_far.counted;
      }

  pub run_fewer : (o : Option ℕ) → o ≡ None → IsTurn answers kept faults is_host is_out CanFault d roots mid_nodes mid_frames mid_steps mid nodes firsts open_frames after new (Ok o)
      → turns_of d nodes open_frames < turns_of d mid_nodes mid_frames
  run_fewer o e turn =
      let t = subst (λ (k : Option ℕ). IsTurn answers kept faults is_host is_out CanFault d roots mid_nodes mid_frames mid_steps mid nodes firsts open_frames after new (Ok k)) e turn in
      t.turned.fewer

  pub run_ends : (o : Option ℕ) (place : ℕ) → o ≡ Some place → IsTurn answers kept faults is_host is_out CanFault d roots mid_nodes mid_frames mid_steps mid nodes firsts open_frames after new (Ok o)
      → IsRequest answers kept faults is_host is_out CanFault d roots name set old_nodes start old nodes firsts after new (Ok place)
  run_ends o place e turn =
      let t = subst (λ (k : Option ℕ). IsTurn answers kept faults is_host is_out CanFault d roots mid_nodes mid_frames mid_steps mid nodes firsts open_frames after new (Ok k)) e turn in
      record {
        ready = t.turned.ready;
        adds = added_then old_nodes mid_nodes nodes so_far.adds t.adds;
        there = t.turned.there;
        generated = λ answered is made.
            let h = so_far.leads answered is made in
            t.leads answered (so_far.same_answers ∙ is) name set start h.0 h.1;
        grows = grows_then roots start mid_steps after so_far.grows t.grows;
        leaves = record {
          same_answers = t.leaves.same_answers ∙ so_far.same_answers;
          same_kept = t.leaves.same_kept ∙ so_far.same_kept;
          counted = t.leaves.counted ∙ so_far.counted;
          known = record {};
        };
      }

  pub run_stops : (r : Result ℕ (GenFault E)) (fault : GenFault E) → r ≡ Err fault
      → IsTurn answers kept faults is_host is_out CanFault d roots mid_nodes mid_frames mid_steps mid nodes firsts open_frames after new (Err fault)
      → IsRequest answers kept faults is_host is_out CanFault d roots name set old_nodes start old nodes firsts after new r
  run_stops r fault e t =
      request_stops {T = Option ℕ} r fault e (grows_then roots start mid_steps after so_far.grows t.grows)
      (λ answered is made.
      let h = so_far.leads answered is made in
      t.leads answered (so_far.same_answers ∙ is) name set start h.0 h.1)
      (record {
        same_answers = t.leaves.same_answers ∙ so_far.same_answers;
        same_kept = t.leaves.same_kept ∙ so_far.same_kept;
        counted = subst (λ (count : ℕ). IsCounted {A = Option ℕ} (is_eval is_host) (is_memory is_out) count (faults new) (Err fault)) so_far.counted t.leaves.counted;
        known = subst (λ (k : K). IsKnown (CanFault k) fault) so_far.same_kept t.leaves.known;
      })
