-- What it tells that a failed step is cleared away: its outputs are removed, and then its record is dropped.
use Rattle.std.proofs.Common.{◌≡◌, ℕ, false, List, [], ◌∷◌, ◌++◌, Option, Some, None, Result, Ok, Err, sym, ap, subst, ◌∙◌, append-nil}
use Rattle.std.specs.Prelude.{MatchResult}
use Rattle.std.specs.Option.{IfSome}
use Rattle.std.specs.List.{Contains}
use Rattle.b2_host.specs.declared.children.ChildEvent.{ChildEvent}
use Rattle.b2_host.specs.declared.children.ChildEvent.TheVariants.{Done}
use Rattle.b2_host.specs.declared.fault.Failed.{Failed}
use Rattle.b2_host.specs.Disks.{Disk, IsConsistent}
use Rattle.b2_host.specs.ChildProcesses.{BothTold}
use Rattle.b2_host.specs.FileCalls.{log_path}
use Rattle.b2_host.specs.LogChanges.{ChangesOnlyAt}
use Rattle.b2_host.specs.Outside.{Outside, Read}
use Rattle.b2_host.specs.OutsideLaws.{both_map}
use Rattle.b2_host.specs.ReadsAdded.{adds_none}
use Rattle.b2_plan.specs.declared.step.Step.{Step}
use Rattle.b2_plan.specs.declared.plan.Plan.{Plan}
use Rattle.b2_plan.specs.Plans.{step_at, Makes}
use Rattle.b2_log.specs.declared.line.LogLine.{LogLine}
use Rattle.b2_runs.specs.Staleness.{Update}
use Rattle.b2_runs.specs.Soundness.{Distinguishes, IsAllowedChange}
use Rattle.b2_runs.proofs.NotedAfterEachEvent.{noted_beside_change}
use Rattle.b2_facts.specs.declared.stop.FilesStop.{FilesStop}
use Rattle.b2_facts.specs.declared.stop.FilesStop.TheVariants as stops
use Rattle.b2_facts.specs.Growth.{Grows}
use Rattle.b2_facts.proofs.FactsGrow.{grows_same}
use Rattle.b2_facts.proofs.ListsAtPlaces.{some_is}
use Rattle.b2_reach.specs.declared.sights.Sights.{Sights}
use Rattle.b2_looks.specs.declared.looks.Looks.{Looks}
use Rattle.b2_looks.specs.UnderWay.{IsUnderWay, AreTrueLooks, IsHalted, IsUpdateBy}
use Rattle.b2_looks.specs.Judging.{OthersStayNoted}
use Rattle.b2_looks.proofs.UpdateStays.{log_allowed}
use Rattle.b2_turns.specs.Ends.{HasEnded, StandsNoMore, EndGoesOn, OutputsGone, ClearTold}
use Rattle.b2_turns.specs.Clearing.{RemovesOnly, AreGone, RemovesFiles, NotesDrop}
use Rattle.b2_turns.proofs.LooksStayTrue.{looks_stay_true}
use Rattle.b2_turns.proofs.FailedStepIsRemoved.{loose_after, ended_halts, removal_allowed, ended_without}

-- one result and then what follows from it
match_map : {T E : Type 0} (r : Result T E) (P Q : T → Type 0) (R S : E → Type 0) → ((x : T) → P x → Q x) → ((e : E) → R e → S e) → MatchResult r P R → MatchResult r Q S
match_map (Ok x) P Q R S f g m = f x m
match_map (Err e) P Q R S f g m = g e m

-- one change that is allowed, and then another
change_then : (u : Update) (events : List ChildEvent) (x y z : Disk) → IsAllowedChange u events x y → IsAllowedChange u events y z → IsAllowedChange u events x z
change_then u events x y z first last = record {
  keeps = last.keeps;
  others = λ path not_log unmade. last.others path not_log unmade ∙ first.others path not_log unmade;
  grows = λ old among. last.grows old (first.grows old among);
}

module _ (u : Update) (events : List ChildEvent) (i : ℕ) (first : List LogLine) (reads : List Read) (step : Step) (at : step_at u.build.steps i ≡ Some step) (s : Sights) where
  module _ (before between : Disk) (removed : RemovesOnly step.outs before between) (consistent : IsConsistent between) (w : HasEnded u events i false first reads before s) where
    removal : IsAllowedChange u (events ++ Done i false ∷ []) before between
    removal = removal_allowed u events i first reads s step at before between removed consistent (events ++ Done i false ∷ []) (loose_after u events i first reads s before w)

    ended_between : HasEnded u events i false first reads between s
    ended_between = ended_without u events i first reads s step at before between removed consistent w

    -- ---- a removal failed

    pub halted_between : IsHalted u (events ++ Done i false ∷ []) (reads ++ []) between s.facts stops.Host
    halted_between = subst (λ l. IsHalted u (events ++ Done i false ∷ []) l between s.facts stops.Host) (sym (append-nil reads)) (ended_halts u events i first reads s between s.facts stops.Host ended_between tt)

    -- ---- all were removed, and the drop was noted, or its note failed

    module _ (after : Disk) (only : ChangesOnlyAt log_path between after) (kept : IsConsistent after) where
      cleared : IsAllowedChange u (events ++ Done i false ∷ []) before after
      cleared = change_then u (events ++ Done i false ∷ []) before between after removal (log_allowed u (events ++ Done i false ∷ []) first between after only kept)

      gone_after : AreGone step.outs between → OutputsGone u.build.steps i after
      gone_after gone other path makes =
          let same : other ≡ step = some_is other step (sym makes.at ∙ at) in
          only.others path (λ is_log. w.apart.not_log i other (subst (Makes u.build.steps i other) is_log makes)) ∙ gone path (subst (λ (x : Step). Contains x.outs path) same makes.among)

      -- the records of other steps stay
      others_stay : (t : Sights) → OthersStayNoted u (events ++ Done i false ∷ []) step between.now s.journal after.now t.journal → OthersStayNoted u (events ++ Done i false ∷ []) step before.now s.journal after.now t.journal
      others_stay t noted k other members at_k differ not inside had = noted k other members at_k differ not inside (noted_beside_change u (events ++ Done i false ∷ []) before between s.journal k other members w.apart removal at_k not inside had)

      pub goes_on_after : (t : Sights) (l : Looks) (r : Result (Unit {0}) FilesStop) → t.facts ≡ s.facts → AreGone step.outs between → AreTrueLooks u (events ++ Done i false ∷ []) before s l
          → MatchResult r (λ x. IsUnderWay u (events ++ Done i false ∷ []) first reads after t × OthersStayNoted u (events ++ Done i false ∷ []) step between.now s.journal after.now t.journal) (λ stop. IsHalted u (events ++ Done i false ∷ []) reads after t.facts stop)
          → MatchResult r (λ x. OutputsGone u.build.steps i after × IsUnderWay u (events ++ Done i false ∷ []) first (reads ++ []) after t × AreTrueLooks u (events ++ Done i false ∷ []) after t l) (λ stop. IsHalted u (events ++ Done i false ∷ []) (reads ++ []) after t.facts stop)
      goes_on_after t l r facts_same gone looks told = match_map r
          (λ x. IsUnderWay u (events ++ Done i false ∷ []) first reads after t × OthersStayNoted u (events ++ Done i false ∷ []) step between.now s.journal after.now t.journal)
          (λ x. OutputsGone u.build.steps i after × IsUnderWay u (events ++ Done i false ∷ []) first (reads ++ []) after t × AreTrueLooks u (events ++ Done i false ∷ []) after t l)
          (λ stop. IsHalted u (events ++ Done i false ∷ []) reads after t.facts stop) (λ stop. IsHalted u (events ++ Done i false ∷ []) (reads ++ []) after t.facts stop)
          (λ x (under, noted). (
            gone_after gone,
            subst (λ rs. IsUnderWay u (events ++ Done i false ∷ []) first rs after t) (sym (append-nil reads)) under,
            looks_stay_true u (events ++ Done i false ∷ []) i step before after s t l w.apart at (loose_after u events i first reads s before w).0 (subst (Grows s.facts) (sym facts_same) (grows_same s.facts)) (others_stay t noted) looks,
          ))
          (λ stop halted. subst (λ rs. IsHalted u (events ++ Done i false ∷ []) rs after t.facts stop) (sym (append-nil reads)) halted)
          told

-- ---- calls

-- outputs were removed
pub fewer_removed : (outs : List (List ℕ)) (x y : Option Disk) → BothTold (RemovesOnly outs) x y → BothTold StandsNoMore x y
fewer_removed outs x y told = both_map (RemovesOnly outs) StandsNoMore x y told (λ before after removed path other none. removed.fewer path none)

-- outputs were removed, and then the log's file changed
pub fewer_cleared : (outs : List (List ℕ)) (x y z : Option Disk) → BothTold (RemovesOnly outs) x y → BothTold (ChangesOnlyAt log_path) y z → BothTold StandsNoMore x z
fewer_cleared outs None None z told only = only
fewer_cleared outs None (Some b) z told only = absurd told
fewer_cleared outs (Some a) None z told only = absurd told
fewer_cleared outs (Some a) (Some b) None told only = absurd only
fewer_cleared outs (Some a) (Some b) (Some c) removed only = λ path other none. only.others path other ∙ removed.fewer path none

-- what it tells of disks
abbrev Clears : Plan → Looks → ℕ → Outside → Sights → Outside → Sights → Result (Unit {0}) FilesStop → Disk → Disk → Type 0
Clears plan l i old s new t result = λ before after. (u : Update) (events : List ChildEvent) (first : List LogLine) (reads : List Read) → IsUpdateBy plan l u → Distinguishes u after.past → HasEnded u events i false first reads before s → AreTrueLooks u (events ++ Done i false ∷ []) before s l
    → IsAllowedChange u (events ++ Done i false ∷ []) before after × EndGoesOn u (events ++ Done i false ∷ []) first reads (λ (x : Unit {0}). OutputsGone plan.steps i after) old new after l t result

told_once : (A R : Disk → Disk → Type 0) (x y : Option Disk) → BothTold A x y → IfSome y IsConsistent → ((a b : Disk) → A a b → IsConsistent b → R a b) → BothTold R x y
told_once A R None None p kept f = tt
told_once A R None (Some b) p kept f = absurd p
told_once A R (Some a) None p kept f = absurd p
told_once A R (Some a) (Some b) p kept f = f a b p kept

told_through : (A B C R : Disk → Disk → Type 0) (G : Disk → Type 0) (x y z : Option Disk) → BothTold A x y → IfSome y IsConsistent → IfSome y G → BothTold B y z → BothTold C y z → IfSome z IsConsistent → ((a b c : Disk) → A a b → IsConsistent b → G b → B b c → C b c → IsConsistent c → R a c) → BothTold R x z
told_through A B C R G None None None p middle gone q told kept f = tt
told_through A B C R G None None (Some c) p middle gone q told kept f = absurd q
told_through A B C R G None (Some b) z p middle gone q told kept f = absurd p
told_through A B C R G (Some a) None z p middle gone q told kept f = absurd p
told_through A B C R G (Some a) (Some b) None p middle gone q told kept f = absurd q
told_through A B C R G (Some a) (Some b) (Some c) p middle gone q told kept f = f a b c p middle gone q told kept

module _ (plan : Plan) (l : Looks) (i : ℕ) (step : Step) (at : step_at plan.steps i ≡ Some step) (x y : Outside) (s : Sights) where
  at_in : (u : Update) → IsUpdateBy plan l u → step_at u.build.steps i ≡ Some step
  at_in u by = subst (λ steps. step_at steps i ≡ Some step) (sym by.steps) at

  -- a removal failed
  pub told_not_removed : (fault : Failed) (r : Result (Unit {0}) FilesStop) → r ≡ Err stops.Host → RemovesFiles {T = Unit {0}} step.outs x y (Err fault) → IfSome y.disk IsConsistent → ClearTold plan l i x s y s r
  told_not_removed fault r is removes consistent = subst (ClearTold plan l i x s y s) (sym is) (told_once (RemovesOnly step.outs) (Clears plan l i x s y s (Err stops.Host)) x.disk y.disk removes.files consistent (λ before after removed kept u events first reads by distinct w looks. (
    removal u events i first reads step (at_in u by) s before after removed kept w,
    record { more = []; adds = adds_none x.reads y.reads (ap (λ (o : Outside). o.reads) removes.rest); after = halted_between u events i first reads step (at_in u by) s before after removed kept w },
  )))

  -- all was removed, and the drop was noted, or not
  pub told_cleared : (z : Outside) (t : Sights) (r : Result (Unit {0}) FilesStop) → RemovesFiles {T = Unit {0}} step.outs x y (Ok tt) → IfSome y.disk (AreGone step.outs) → NotesDrop {T = Unit {0}} step y s z t r → IfSome y.disk IsConsistent → IfSome z.disk IsConsistent → ClearTold plan l i x s z t r
  told_cleared z t r removes gone drop consistent later = told_through (RemovesOnly step.outs) (ChangesOnlyAt log_path) _ (Clears plan l i x s z t r) (AreGone step.outs) x.disk y.disk z.disk removes.files consistent gone drop.only_log.files drop.told later (λ before between after removed middle none only told kept u events first reads by distinct w looks. (
    cleared u events i first reads step (at_in u by) s before between removed middle w after only kept,
    record {
      more = [];
      adds = adds_none x.reads z.reads (drop.unread ∙ ap (λ (o : Outside). o.reads) removes.rest);
      after = subst (λ steps. MatchResult r (λ v. OutputsGone steps i after × IsUnderWay u (events ++ Done i false ∷ []) first (reads ++ []) after t × AreTrueLooks u (events ++ Done i false ∷ []) after t l) (λ stop. IsHalted u (events ++ Done i false ∷ []) (reads ++ []) after t.facts stop)) by.steps
          (goes_on_after u events i first reads step (at_in u by) s before between removed middle w after only kept t l r drop.facts none looks
          (told u events i first reads distinct (at_in u by) (ended_between u events i first reads step (at_in u by) s before between removed middle w)));
    },
  ))
