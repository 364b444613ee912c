-- What hearing of an end tells, where the files are visible.
use Rattle.std.proofs.Common.{◌≡◌, ℕ, ◌+◌, Bool, true, false, List, [], ◌∷◌, ◌++◌, Option, Some, None, Result, Ok, Err, MatchResult, cond, refl, sym, ap, subst, ◌∙◌, arith}
use Rattle.std.specs.List.{Contains, count_by}
use Rattle.std.proofs.lemmas.List.Elements.{Contains-append_left, Contains-push}
use Rattle.std.proofs.lemmas.List.Sums.{sum_by-append}
use Rattle.b2_host.specs.declared.children.ChildEvent.{ChildEvent}
use Rattle.b2_host.specs.declared.children.ChildEvent.TheVariants.{Done}
use Rattle.b2_host.specs.Disks.{Disk, Past}
use Rattle.b2_host.specs.ChildProcesses.{BothTold}
use Rattle.b2_host.specs.Outside.{Outside}
use Rattle.b2_host.specs.OutsideLaws.{BeginsPast, Keeps}
use Rattle.b2_host.specs.Output.{Output}
use Rattle.b2_plan.specs.declared.plan.Plan.{Plan}
use Rattle.b2_runs.specs.Staleness.{Update}
use Rattle.b2_runs.specs.Moments.{Moment}
use Rattle.b2_runs.specs.Reports.{is_good_end}
use Rattle.b2_runs.specs.Soundness.{Distinguishes}
use Rattle.b2_runs.proofs.RecordIsTrue.{distinguishes_less}
use Rattle.b2_drain.specs.Drains.{Made}
use Rattle.b2_looks.specs.declared.looks.Looks.{Looks}
use Rattle.b2_looks.specs.Looks.{Follows}
use Rattle.b2_looks.specs.UnderWay.{IsUpdateBy}
use Rattle.b2_turns.specs.Ends.{Finishes}
use Rattle.b2_turns.proofs.StepsFinish.{finish_is_true}
use Rattle.b2_update.specs.declared.run.Run.{Run}
use Rattle.b2_update.specs.declared.stop.UpdateStop.{UpdateStop}
use Rattle.b2_update.specs.Moments.{moment}
use Rattle.b2_update.specs.InRun.{IsUpdateHere, StandsInRun, IsCounted, IsInRun, HasHalted, Tells, WaitTells, SettleTells}
use Rattle.b2_update.proofs.WaitTellsEnd.{WaitsAt}
use Rattle.b2_update.proofs.SettleTellsEnd.{SettlesAt}

-- what a call tells of these files
abbrev TellsAt : {T : Type 0} → Plan → Made → Moment → Run → Moment → Run → Result T UpdateStop → Disk → Disk → Type 0
TellsAt plan made before run after later result old new = (u : Update) (entry : Moment) (events : List ChildEvent) → IsUpdateHere plan made run u → Distinguishes u new.past → IsInRun u entry before run old events
    → MatchResult result (λ x. (now : List ChildEvent) × IsInRun u entry after later new now) (λ stop. HasHalted u entry after later.sights.facts new stop)

-- files that are visible at two of three moments are at the third
told_then : (P Q B R : Disk → Disk → Type 0) (x y z : Option Disk) → BothTold P x y → BothTold Q y z → BothTold B y z → ((old mid new : Disk) → P old mid → Q mid new → B mid new → R old new) → BothTold R x z
told_then P Q B R None None None first second also go = tt
told_then P Q B R None None (Some new) first second also go = absurd second
told_then P Q B R None (Some mid) z first second also go = absurd first
told_then P Q B R (Some old) None z first second also go = absurd first
told_then P Q B R (Some old) (Some mid) None first second also go = absurd second
told_then P Q B R (Some old) (Some mid) (Some new) first second also go = go old mid new first second also

-- digests that tell apart what stood later told apart what stood before
told_apart : (u : Update) (mid new : Disk) → BeginsPast mid new → Distinguishes u new.past → Distinguishes u mid.past
told_apart u mid new (more, is) tells = distinguishes_less u mid.past new.past (λ old c. subst (λ (l : List Past). Contains l old) (sym is) (Contains-append_left mid.past more old c)) tells

-- what is told of a result is told of the same one
pub tells_with : {T : Type 0} (plan : Plan) (made : Made) (before : Moment) (run : Run) (after : Moment) (later : Run) (r s : Result T UpdateStop) → r ≡ s → Tells plan made before run after later s → Tells plan made before run after later r
tells_with plan made before run after later r s e told = subst (Tells plan made before run after later) (sym e) told

module _ (plan : Plan) (made : Made) (x y z : Outside) (o p : Output) (run mid_run later : Run) (i : ℕ) (well : Bool) (same : mid_run ≡ record run { waits = mid_run.waits }) (keeps : Keeps y z) (waits : WaitTells plan made (moment x o) run (moment y o) mid_run (Ok (i, well))) where
  here_then : (u : Update) → IsUpdateHere plan made run u → IsUpdateHere plan made mid_run u
  here_then u here = record { by = subst (λ (l : Looks). IsUpdateBy plan l u) (sym (ap (λ (r : Run). r.looks) same)) here.by; quit = here.quit ∙ sym (ap (λ (r : Run). r.quit) same); made_is = here.made_is }

  pub settle_stop_told : (stop : UpdateStop) → SettleTells plan made i well (moment y o) mid_run (moment z p) later (Err stop) → Tells {T = Unit {0}} plan made (moment x o) run (moment z p) later (Err stop)
  settle_stop_told stop settles = told_then (WaitsAt plan made (moment x o) run (moment y o) mid_run (Ok (i, well))) (SettlesAt plan made i well (moment y o) mid_run (moment z p) later (Err stop)) BeginsPast (TellsAt {T = Unit {0}} plan made (moment x o) run (moment z p) later (Err stop))
      x.disk y.disk z.disk waits settles keeps.files (λ old mid new waited settled begins u entry events here tells r.
      settled u entry events (here_then u here) tells (waited u entry events here (told_apart u mid new begins tells) r))

  module _ (updated : Bool) (k : Looks) (is : Finishes i updated later.looks k) (follows : (events : List ChildEvent) → Follows events later.looks → Follows (events ++ Done i updated ∷ []) k) (n : ℕ) (one : n ≡ cond {A = ℕ} updated 1 0) where
    one_more : (events : List ChildEvent) → updated ≡ well → later.updated ≡ count_by is_good_end events → later.updated + n ≡ count_by is_good_end (events ++ Done i well ∷ [])
    one_more events same so_far =
        let count = sum_by-append (λ e. cond {A = ℕ} (is_good_end e) 1 0) events (Done i well ∷ []) in
        let last : count_by is_good_end (Done i well ∷ []) ≡ n = by_end well ∙ sym (one ∙ ap (λ b. cond {A = ℕ} b 1 0) same) in
        omega (arith, count, last, so_far)
      where
        by_end : (b : Bool) → count_by is_good_end (Done i b ∷ []) ≡ cond {A = ℕ} b 1 0
        by_end true = refl
        by_end false = refl

    taken : (u : Update) (entry : Moment) (events : List ChildEvent) (new : Disk) → updated ≡ well → StandsInRun u entry (moment z p) later.sights later.looks new (events ++ Done i well ∷ []) → IsCounted events later
        → IsInRun u entry (moment z p) (record later { looks = k; updated = later.updated + n }) new (events ++ Done i well ∷ [])
    taken u entry events new same s c =
        let all = events ++ Done i well ∷ [] in
        record {
          stands = record {
            ran = s.ran;
            gone = s.gone;
            first = s.first;
            reads = s.reads;
            reads_are = s.reads_are;
            under_way = s.under_way;
            true_looks = finish_is_true u all s.first s.reads new later.sights later.looks k i updated s.under_way (subst (λ b. Contains (events ++ Done i well ∷ []) (Done i b)) (sym same) (Contains-push events (Done i well))) is s.true_looks;
            written = s.written;
          };
          counted = record { follows = subst (λ b. Follows (events ++ Done i b ∷ []) k) same (follows events c.follows); updated = one_more events same c.updated };
        }

    pub taken_told : SettleTells plan made i well (moment y o) mid_run (moment z p) later (Ok updated) → Tells {T = Unit {0}} plan made (moment x o) run (moment z p) (record later { looks = k; updated = later.updated + n }) (Ok tt)
    taken_told settles = told_then (WaitsAt plan made (moment x o) run (moment y o) mid_run (Ok (i, well))) (SettlesAt plan made i well (moment y o) mid_run (moment z p) later (Ok updated)) BeginsPast (TellsAt {T = Unit {0}} plan made (moment x o) run (moment z p) (record later { looks = k; updated = later.updated + n }) (Ok tt))
        x.disk y.disk z.disk waits settles keeps.files (λ old mid new waited settled begins u entry events here tells r.
        let (same, stands, counted) = settled u entry events (here_then u here) tells (waited u entry events here (told_apart u mid new begins tells) r) in
        (events ++ Done i well ∷ [], taken u entry events new same stands counted))
