-- A look at a step takes members in, and tells the schedule their makers, and whether one is missing.
use Rattle.std.proofs.Common.{◌≡◌, ◌⊎◌, ◌↔◌, inl, inr, ℕ, zero, suc, ◌<◌, ◌≤◌, Bool, true, false, cond, List, [], ◌∷◌, ◌++◌, ◌-◌, length, get_or, take, drop, Some, None, slice_get, refl, sym, ap, subst, ◌∙◌, arith, append-nil, Ok, Err}
use Rattle.std.specs.List.{Contains}
use Rattle.std.proofs.lemmas.Bool.{cases_lt}
use Rattle.std.proofs.lemmas.List.{length-append, length-drop, drop_all, take_all}
use Rattle.std.proofs.lemmas.List.Elements.{Contains-append_left, Contains-append_right, Contains-append_cases}
use Rattle.b2_host.specs.Outside.{Outside}
use Rattle.b2_plan.specs.declared.step.Step.{Step}
use Rattle.b2_plan.specs.declared.plan.Plan.{Plan}
use Rattle.b2_plan.specs.Plans.{step_at}
use Rattle.b2_runs.proofs.FirstElementOrLater.{Contains_there, Contains_nil}
use Rattle.b2_runs.proofs.NumberHasOneStep.{one_step}
use Rattle.b2_sched.specs.declared.state.State.TheVariants.{Settled}
use Rattle.b2_sched.specs.Schedules.{Schedule, IsSettled, IsStep, Lacks}
use Rattle.b2_sched.specs.SchedulerCalls.{with_lack}
use Rattle.b2_sched.proofs.IndexFindsTheLowest.{has_set}
use Rattle.b2_facts.specs.declared.file_facts.FileFacts.{FileFacts}
use Rattle.b2_facts.specs.declared.stop.FilesStop.TheVariants as stops
use Rattle.b2_facts.specs.Facts.{Knowledge, IsAbout, file_at}
use Rattle.b2_facts.specs.Growth as facts
use Rattle.b2_facts.proofs.ListsAtPlaces.{among_at, get_front}
use Rattle.b2_reach.specs.declared.reach.Reach.{Reach}
use Rattle.b2_reach.specs.declared.sights.Sights.{Sights}
use Rattle.b2_reach.specs.Reaches.{IsInOrder, IsOfStep, IsReachOf, IsAsFar, Gathers}
use Rattle.b2_reach.specs.Sightings.{LearnsMore}
use Rattle.b2_reach.specs.Steps.{IsOfPlan}
use Rattle.b2_reach.proofs.GrowthComposes.{grows_then, grows_ok, grows_no_memory}
use Rattle.b2_reach.proofs.MakersAreSteps.{maker_scheduled}
use Rattle.b2_board.specs.declared.work.Work.{Work}
use Rattle.b2_board.specs.Needs.{TellsNeeds}
use Rattle.b2_board.specs.Works.{IsWaiting, HasOutputOf, IsToldNeed, IsWorkOn, TellsMakers, LooksOnce, IsClosedTold}
use Rattle.b2_board.proofs.ToldNeedsGrowByOne.{tells_none}
use Rattle.b2_board.proofs.MakersAreTold.{output_wider, none_of_none}
use Rattle.b2_board.proofs.WorkStaysInOrder.{KeepsMakers, makers_same, makers_grow, maker_was, output_up, reach_settles, work_grows, maker_told}

-- ---- the end of a list

pub among_dropped : (xs : List ℕ) (from n : ℕ) → Contains (drop from xs) n → Contains xs n
among_dropped [] zero n among = among
among_dropped [] (suc from) n among = among
among_dropped (x ∷ xs) zero n among = among
among_dropped (x ∷ xs) (suc from) n among = Contains_there x n xs (among_dropped xs from n among)

at_dropped : (xs : List ℕ) (from place n : ℕ) → from ≤ place → slice_get xs place ≡ Some n → Contains (drop from xs) n
at_dropped xs zero place n past at = among_at xs place n at
at_dropped [] (suc from) place n past at = absurd (let e : None ≡ Some n = at in cc)
at_dropped (x ∷ xs) (suc from) zero n past at = absurd (omega arith)
at_dropped (x ∷ xs) (suc from) (suc place) n past at = at_dropped xs from place n (omega arith) at

-- ---- makers are told

-- all were told before
pub tells_no_maker : (f : Knowledge) (i : ℕ) (w : Work) (s : Schedule) → w.told ≡ length w.reach.members → TellsMakers f i w s w s
tells_no_maker f i w s all = record {
  reach = refl;
  on = [];
  makers = λ k. (λ among. absurd (Contains_nil k among), λ output. absurd (none_of_none f k (subst (λ l. HasOutputOf f l k) (drop_all w.told w.reach.members (let e = all in omega (arith, e))) output)));
  tells = tells_none i s;
  waiting = sym (append-nil w.waiting);
  told = all;
}

-- the part of a list from a place on
pub rest_of : (xs members : List ℕ) (from : ℕ) → xs ≡ members → take (length xs - from) (drop from xs) ≡ drop from members
rest_of xs members from same = take_all (length xs - from) (drop from xs) (let e = length-drop from xs in omega (arith, e)) ∙ ap (drop from) same

-- those of the others are told
pub makers_told : (f : Knowledge) (i : ℕ) (w v : Work) (s t : Schedule) (makers : List ℕ) → ((k : ℕ) → Contains makers k ↔ HasOutputOf f (drop w.told w.reach.members) k) → TellsNeeds i makers s t → v.reach ≡ w.reach → v.waiting ≡ w.waiting ++ makers → v.told ≡ length w.reach.members
    → TellsMakers f i w s v t
makers_told f i w v s t makers are tells reach waiting told = record { reach = reach; on = makers; makers = are; tells = tells; waiting = waiting; told = told }

-- the makers of members are steps
pub outputs_are_steps : (plan : Plan) (f : Knowledge) (s : Schedule) (members : List ℕ) → IsAbout plan.steps plan.roots f → IsOfPlan plan s → (k : ℕ) → HasOutputOf f members k → IsStep s k
outputs_are_steps plan f s members about of k output = maker_scheduled plan s f output.number output.file k about of output.file_is output.made

-- ---- the work goes on

module _ (steps : List Step) (i : ℕ) (s : Schedule) (f g : Knowledge) (w : Work) (q : Reach) (grown : facts.Grows f g) (is : IsWorkOn steps s f i w) (gathers : Gathers steps (IsSettled s) g w.reach q) where
  keeps : KeepsMakers f g
  keeps = makers_grow f g grown

  pub members_stay : (n : ℕ) → Contains w.reach.members n → Contains q.members n
  members_stay n among = subst (λ l. Contains l n) (sym gathers.members) (Contains-append_left w.reach.members gathers.added n among)

  pub within_still : w.told ≤ length q.members
  within_still = let a = is.within in let b = ap length gathers.members in let d = length-append w.reach.members gathers.added in omega (arith, a, b, d)

  pub reach_kept : (v : Work) → v.reach ≡ q → IsInOrder steps (IsSettled s) g q → ((step : Step) → IsOfStep steps (IsSettled s) step f w.reach → IsOfStep steps (IsSettled s) step g q) → (step : Step) → step_at steps i ≡ Some step → IsReachOf steps (IsSettled s) step g v.reach
  reach_kept v same order of step at = subst (IsReachOf steps (IsSettled s) step g) (sym same) (record {
    in_order = order;
    of_step = of step (subst (λ x. IsOfStep steps (IsSettled s) x f w.reach) (one_step steps i is.step step is.at at) is.reach.of_step);
  })

  -- the makers of new members were told
  module _ (v : Work) (t : Schedule) (order : IsInOrder steps (IsSettled s) g q) (of : IsOfStep steps (IsSettled s) is.step g q) (tells : TellsMakers g i (record w { reach = q }) s v t) where
    told_state : (k : ℕ) → IsSettled s k → IsSettled t k
    told_state k settled = ap (λ xs. get_or xs k Settled) tells.tells.states ∙ settled

    told_old : (k : ℕ) → IsToldNeed s w.waiting i k → IsToldNeed t v.waiting i k
    told_old k (inl settled) = inl (told_state k settled)
    told_old k (inr told) = inr (tells.tells.kept i k told.0, subst (λ l. Contains l k) (sym tells.waiting) (Contains-append_left w.waiting tells.on k told.1))

    told_new : (k : ℕ) → HasOutputOf g (drop w.told q.members) k → IsToldNeed t v.waiting i k
    told_new k output =
        let among = (tells.makers k).1 output in
        elim (tells.tells.told k among) [
          | inl settled ↦ inl (told_state k settled)
          | inr need ↦ inr (need, subst (λ l. Contains l k) (sym tells.waiting) (Contains-append_right w.waiting tells.on k among))
        ]

    told_at : (place n k : ℕ) (file : FileFacts) → slice_get q.members place ≡ Some n → file_at g n ≡ Some file → file.maker ≡ Some k → IsToldNeed t v.waiting i k
    told_at place n k file at known made = elim (cases_lt place w.told) [
      | inl low ↦ (
          let before : slice_get w.reach.members place ≡ Some n = sym (get_front w.reach.members gathers.added place (let a = is.within in omega (arith, a, low))) ∙ ap (λ l. slice_get l place) (sym gathers.members) ∙ at in
          let was = maker_was f g keeps n (is.reach.in_order.numbered n (among_at w.reach.members place n before)) file known in
          told_old k (is.told place n k was.0 low before was.1 (sym was.2 ∙ made)))
      | inr past ↦ told_new k (record { number = n; among = at_dropped q.members w.told place n past at; file = file; file_is = known; made = made })
    ]

    waits_for : (k : ℕ) → Contains v.waiting k → HasOutputOf g q.members k
    waits_for k among = elim (Contains-append_cases w.waiting tells.on k (subst (λ l. Contains l k) tells.waiting among)) [
      | inl old ↦ output_wider g w.reach.members q.members k members_stay (output_up f g w.reach.members k keeps (is.waiting k old))
      | inr new ↦ output_wider g (drop w.told q.members) q.members k (λ n dropped. among_dropped q.members w.told n dropped) ((tells.makers k).0 new)
    ]

    pub work_told : IsWorkOn steps t g i v
    work_told = record {
      step = is.step;
      at = is.at;
      reach = reach_settles steps (IsSettled s) (IsSettled t) g told_state is.step v.reach (subst (IsReachOf steps (IsSettled s) is.step g) (sym tells.reach) (record { in_order = order; of_step = of }));
      within = (let a = tells.told in let b = ap (λ (r : Reach). length r.members) tells.reach in omega (arith, a, b));
      told = λ place n k file low at known made. told_at place n k file (subst (λ (r : Reach). slice_get r.members place ≡ Some n) tells.reach at) known made;
      waiting = λ k among. subst (λ (r : Reach). HasOutputOf g r.members k) (sym tells.reach) (waits_for k among);
    }

    -- and that it lacks a file
    pub work_lacks : IsWorkOn steps (with_lack t i) g i v
    work_lacks = work_grows steps t (with_lack t i) g g i v (makers_same g) (λ k settled. settled) (λ k need. need) work_told
        (reach_settles steps (IsSettled t) (IsSettled (with_lack t i)) g (λ k settled. settled) work_told.step v.reach work_told.reach)

    module _ (far : IsAsFar (IsSettled s) g q) (within : i < length s.lacking) where
      far_now : IsAsFar (IsSettled t) g v.reach
      far_now = record {
        whole = subst (λ (r : Reach). r.done ≡ length r.members) (sym tells.reach) far.whole;
        waiting = λ n number file among known made settled. far.waiting n number file (subst (λ (r : Reach). Contains r.pending n) tells.reach among) known made (sym (ap (λ xs. get_or xs number Settled) tells.tells.states) ∙ settled);
      }

      all_told : v.told ≡ length v.reach.members
      all_told = tells.told ∙ ap (λ (r : Reach). length r.members) (sym tells.reach)

      on_members : (k : ℕ) → Contains tells.on k → HasOutputOf g v.reach.members k
      on_members k among = subst (λ (r : Reach). HasOutputOf g r.members k) (sym tells.reach) (output_wider g (drop w.told q.members) q.members k (λ n dropped. among_dropped q.members w.told n dropped) ((tells.makers k).0 among))

      lacks_now : Lacks (with_lack t i) i
      lacks_now = has_set t.lacking i (let e = ap length tells.tells.lacking in omega (arith, within, e))

      pub looks_lacking : v.reach.lacks ≡ true → LooksOnce steps g i s (with_lack t i) v
      looks_lacking lacks = record {
        on = tells.on;
        makers = on_members;
        between = t;
        tells = tells.tells;
        lacks = ap (λ b. cond b (with_lack t i) t) (sym lacks);
        work = work_lacks;
        looked = record { as_far = record { whole = far_now.whole; waiting = far_now.waiting }; told = all_told; lacks = λ told. lacks_now };
      }

      pub closed_lacking : IsClosedTold false (with_lack t i) g i v
      closed_lacking = inl lacks_now

      -- it lacks nothing, and of what is waited for settled steps were taken away
      module _ (later : List ℕ) (none : v.reach.lacks ≡ false) (fewer : (k : ℕ) → Contains later k → Contains v.waiting k) (rest : (k : ℕ) → Contains v.waiting k → IsSettled t k ⊎ Contains later k) where
        told_later : (k : ℕ) → IsToldNeed t v.waiting i k → IsToldNeed t later i k
        told_later k (inl settled) = inl settled
        told_later k (inr told) = elim (rest k told.1) [ inl settled ↦ inl settled | inr among ↦ inr (told.0, among) ]

        pub work_waits : IsWorkOn steps t g i (record v { waiting = later })
        work_waits = record {
          step = work_told.step;
          at = work_told.at;
          reach = work_told.reach;
          within = work_told.within;
          told = λ place n k file low at known made. told_later k (work_told.told place n k file low at known made);
          waiting = λ k among. work_told.waiting k (fewer k among);
        }

        not_lacking : v.reach.lacks ≡ true → Lacks t i
        not_lacking lacks = absurd (let e : false ≡ true = sym none ∙ lacks in cc)

        pub looks_waiting : LooksOnce steps g i s t (record v { waiting = later })
        looks_waiting = record {
          on = tells.on;
          makers = on_members;
          between = t;
          tells = tells.tells;
          lacks = ap (λ b. cond b (with_lack t i) t) (sym none);
          work = work_waits;
          looked = record { as_far = record { whole = far_now.whole; waiting = far_now.waiting }; told = all_told; lacks = not_lacking };
        }

        told_maker : (k : ℕ) → HasOutputOf g v.reach.members k → IsToldNeed t later i k
        told_maker k output = maker_told steps t g i (record v { waiting = later }) work_waits all_told k output

        pub closed_told : (over : Bool) → (over ≡ true → later ≡ []) → (over ≡ false → (k : ℕ) × Contains later k × (IsSettled t k → ⊥)) → IsClosedTold over t g i (record v { waiting = later })
        closed_told true over waits = record { lacks_nothing = none; settled = λ k output. settled_one k (told_maker k output) }
          where
            settled_one : (k : ℕ) → IsToldNeed t later i k → IsSettled t k
            settled_one k (inl settled) = settled
            settled_one k (inr told) = absurd (Contains_nil k (subst (λ l. Contains l k) (over refl) told.1))
        closed_told false over waits = let (k, among, open_yet) = waits refl in inr (waiting_one k open_yet (told_maker k (work_waits.waiting k among)))
          where
            waiting_one : (k : ℕ) → (IsSettled t k → ⊥) → IsToldNeed t later i k → IsWaiting t i
            waiting_one k open_yet (inl settled) = absurd (open_yet settled)
            waiting_one k open_yet (inr told) = record { need = k; needs = told.0; not_settled = open_yet }

-- ---- what is known grows

pub grows_told : {T S : Type 0} {notes : Bool} (steps : List Step) (roots : List (List ℕ)) (settled : ℕ → Type 0) (q r : Reach) (x y : Sights) (before after : Outside) (value : T) (answer : S) → r ≡ q → LearnsMore notes steps roots settled q.members x before y after (Ok value) → LearnsMore notes steps roots settled r.members x before y after (Ok answer)
grows_told {T} {S} {notes} steps roots settled q r x y before after value answer same a = subst (λ (z : Reach). LearnsMore {T = S} notes steps roots settled z.members x before y after (Ok answer)) (sym same) (grows_ok steps roots settled q.members x y before after value answer a)

pub grows_untold : {T S : Type 0} {notes : Bool} (steps : List Step) (roots : List (List ℕ)) (settled : ℕ → Type 0) (q r : Reach) (x y : Sights) (before after : Outside) (value : T) → r ≡ q → LearnsMore notes steps roots settled q.members x before y after (Ok value) → LearnsMore {T = S} notes steps roots settled r.members x before y after (Err stops.OutOfMemory)
grows_untold {T} {S} {notes} steps roots settled q r x y before after value same a = subst (λ (z : Reach). LearnsMore {T = S} notes steps roots settled z.members x before y after (Err stops.OutOfMemory)) (sym same)
    (grows_then steps roots settled q.members q.members x y y before after after value (Err stops.OutOfMemory) (λ m among. among) a (grows_no_memory steps roots settled q.members y after))
