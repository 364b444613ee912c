-- What looks tell of an update that is under way, one after another.
use Rattle.std.proofs.Common.{◌≡◌, inl, inr, ℕ, List, [], ◌++◌, Option, Some, None, Result, Ok, Err, refl, sym, ap, subst, ◌∙◌, append-nil, append_assoc}
use Rattle.std.specs.Prelude.{MatchResult}
use Rattle.std.specs.List.{Contains}
use Rattle.std.proofs.lemmas.List.Elements.{Contains-append_left}
use Rattle.b2_host.specs.declared.children.ChildEvent.{ChildEvent}
use Rattle.b2_host.specs.Disks.{Disk}
use Rattle.b2_host.specs.ChildProcesses.{BothTold}
use Rattle.b2_host.specs.Outside.{Outside, Read}
use Rattle.b2_host.specs.FileCalls.{log_path}
use Rattle.b2_host.specs.LogChanges.{ChangesOnlyAt}
use Rattle.b2_host.specs.ReadsAdded.{adds_none, adds_then}
use Rattle.b2_plan.specs.declared.plan.Plan.{Plan}
use Rattle.b2_log.specs.declared.line.LogLine.{LogLine}
use Rattle.b2_runs.specs.Staleness.{Update}
use Rattle.b2_runs.specs.Soundness.{Distinguishes}
use Rattle.b2_runs.proofs.RecordIsTrue.{distinguishes_less}
use Rattle.b2_sched.specs.SchedulerCalls.{looked_at}
use Rattle.b2_facts.specs.declared.stop.FilesStop.{FilesStop}
use Rattle.b2_facts.specs.declared.stop.FilesStop.TheVariants as stops
use Rattle.b2_reach.specs.declared.sights.Sights.{Sights}
use Rattle.b2_reach.proofs.GrowthComposes.{both_same}
use Rattle.b2_verdicts.specs.declared.judging_mode.JudgingMode.{JudgingMode}
use Rattle.b2_board.specs.declared.board.Board.{Board}
use Rattle.b2_looks.specs.declared.looks.Looks.{Looks}
use Rattle.b2_looks.specs.Looks.{LooksOn, Follows}
use Rattle.b2_looks.specs.UnderWay.{IsUnderWay, AreTrueLooks, IsHalted, IsUpdateBy, GoesOn, LookTold}
use Rattle.b2_looks.proofs.UpdateStays.{is_going, going_cut}
use Rattle.b2_looks.proofs.LooksAreKept.{follows_on}
use Rattle.b2_looks.proofs.StepsAreLookedAt.{taken_state}

-- what it tells of disks
abbrev pub Tells : {T : Type 0} → Plan → Outside → Looks → Sights → Outside → Looks → Sights → Result T FilesStop → Disk → Disk → Type 0
Tells plan old l s new k t result = λ before after. (u : Update) (events : List ChildEvent) (first : List LogLine) (reads : List Read) → IsUpdateBy plan l u → Distinguishes u after.past → Follows events l
    → IsUnderWay u events first reads before s → AreTrueLooks u events before s l → GoesOn u events first reads old new after k t result

pub told_none : {T : Type 0} (plan : Plan) (x : Outside) (l : Looks) (s : Sights) (v : T) → LookTold plan x l s x l s (Ok v)
told_none plan x l s v = both_same (Tells plan x l s x l s (Ok v)) x.disk x.disk refl (λ disk here u events first reads by distinct follows w looks.
    record { more = []; adds = adds_none x.reads x.reads refl; after = (subst (λ l. IsUnderWay u events first l disk s) (sym (append-nil reads)) w, looks) })

told_through : (A B R : Disk → Disk → Type 0) (x y z : Option Disk) → BothTold A x y → BothTold B y z → BothTold (ChangesOnlyAt log_path) y z → ((a b c : Disk) → A a b → B b c → ChangesOnlyAt log_path b c → R a c) → BothTold R x z
told_through A B R None None None p q only f = tt
told_through A B R None None (Some c) p q only f = absurd q
told_through A B R None (Some b) z p q only f = absurd p
told_through A B R (Some a) None z p q only f = absurd p
told_through A B R (Some a) (Some b) None p q only f = absurd q
told_through A B R (Some a) (Some b) (Some c) p q only f = f a b c p q only

update_on : (plan : Plan) (l m : Looks) (u : Update) → LooksOn l m → m.way ≡ l.way → IsUpdateBy plan l u → IsUpdateBy plan m u
update_on plan l m u on way by = record { steps = by.steps; roots = by.roots; wanted = by.wanted; all = by.all ∙ sym (ap (λ (w : JudgingMode). w.all) way); by_digest = by.by_digest ∙ sym (ap (λ (w : JudgingMode). w.by_digest) way); jobs = by.jobs ∙ sym on.jobs }

-- one look, and then another
pub told_then : {T S : Type 0} (plan : Plan) (x y z : Outside) (l m n : Looks) (s t w : Sights) (v : T) (r : Result S FilesStop) → LooksOn l m → m.way ≡ l.way → BothTold (ChangesOnlyAt log_path) y.disk z.disk → LookTold plan x l s y m t (Ok v) → LookTold plan y m t z n w r → LookTold plan x l s z n w r
told_then plan x y z l m n s t w v r on way only a b = told_through (Tells plan x l s y m t (Ok v)) (Tells plan y m t z n w r) (Tells plan x l s z n w r) x.disk y.disk z.disk a b only (λ before between after one two moved u events first reads by distinct follows under looks.
    let less = distinguishes_less u between.past after.past (λ old among. subst (λ p. Contains p old) (sym moved.past) (Contains-append_left between.past moved.more old among)) distinct in
    let p = one u events first reads by less follows under looks in
    let q = two u events first (reads ++ p.more) (update_on plan l m u on way by) distinct (follows_on events l m on follows) p.after.0 p.after.1 in
    record {
      more = p.more ++ q.more;
      adds = adds_then p.more q.more x.reads y.reads z.reads p.adds q.adds;
      after = subst (λ l. MatchResult r (λ o. IsUnderWay u events first l after w × AreTrueLooks u events after w n) (λ stop. IsHalted u events l after w.facts stop)) (append_assoc reads p.more q.more) q.after;
    })

both_map : (A R : Disk → Disk → Type 0) (x y : Option Disk) → ((a b : Disk) → A a b → R a b) → BothTold A x y → BothTold R x y
both_map A R None None f p = tt
both_map A R None (Some b) f p = absurd p
both_map A R (Some a) None f p = absurd p
both_map A R (Some a) (Some b) f p = f a b p

-- a stop is handed on
pub told_err : (T S : Type 0) (plan : Plan) (x y : Outside) (l m : Looks) (s t : Sights) (stop : FilesStop) (r : Result S FilesStop) → r ≡ Err stop → LookTold {T = T} plan x l s y m t (Err stop) → LookTold {T = S} plan x l s y m t r
told_err T S plan x y l m s t stop r is a = subst (LookTold {T = S} plan x l s y m t) (sym is) (both_map (Tells {T = T} plan x l s y m t (Err stop)) (Tells {T = S} plan x l s y m t (Err stop)) x.disk y.disk (λ before after one u events first reads by distinct follows under looks.
    let p = one u events first reads by distinct follows under looks in
    record { more = p.more; adds = p.adds; after = p.after }) a)

-- another answer of the same end
pub told_ok : {T S : Type 0} (plan : Plan) (x y : Outside) (l m : Looks) (s t : Sights) (v : T) (w : S) → LookTold plan x l s y m t (Ok v) → LookTold plan x l s y m t (Ok w)
told_ok plan x y l m s t v w a = both_map (Tells plan x l s y m t (Ok v)) (Tells plan x l s y m t (Ok w)) x.disk y.disk (λ before after one u events first reads by distinct follows under looks.
    let p = one u events first reads by distinct follows under looks in
    record { more = p.more; adds = p.adds; after = p.after }) a

-- a step is taken to be looked at
pub told_taken : (plan : Plan) (number : ℕ) (x : Outside) (l : Looks) (b : Board) (s : Sights) (v : Unit {0}) → b.sched ≡ looked_at l.board.sched number → LookTold plan x l s x (record l { board = b }) s (Ok v)
told_taken plan number x l b s v sched = both_same (Tells plan x l s x (record l { board = b }) s (Ok v)) x.disk x.disk refl (λ disk here u events first reads by distinct follows w looks.
    let state = taken_state plan number s.facts l b sched in
    record {
      more = [];
      adds = adds_none x.reads x.reads refl;
      after = (
        subst (λ l. IsUnderWay u events first l disk s) (sym (append-nil reads)) w,
        record {
          settled = λ i settled. looks.settled i (sym (state i) ∙ settled);
          stale = λ i stale. looks.stale i (sym (state i) ∙ stale);
          ready = λ i numbers which kept. looks.ready i numbers (elim which [ inl stale ↦ inl (sym (state i) ∙ stale) | inr runs ↦ inr (sym (state i) ∙ runs) ]) kept;
          migrated = λ on i step members settled at not closure. looks.migrated on i step members (sym (state i) ∙ settled) at not closure;
        },
      );
    })

-- no memory was left, with the files as they were
pub told_no_memory : (T : Type 0) (plan : Plan) (x : Outside) (l m : Looks) (s t : Sights) (r : Result T FilesStop) → r ≡ Err stops.OutOfMemory → LookTold {T = T} plan x l s x m t r
told_no_memory T plan x l m s t r is = subst (LookTold {T = T} plan x l s x m t) (sym is) (both_same (Tells {T = T} plan x l s x m t (Err stops.OutOfMemory)) x.disk x.disk refl (λ disk here u events first reads by distinct follows w looks.
    record {
      more = [];
      adds = adds_none x.reads x.reads refl;
      after = subst (λ l. IsHalted u events l disk t.facts stops.OutOfMemory) (sym (append-nil reads)) (record { sound = w.sound; cut = going_cut u events first reads disk s.journal (is_going u events first reads disk s w); once = w.once; leave = w.leave; too_big = tt });
    }))
