use Rattle.std.proofs.Common.{ℕ, Bool, List}
use Rattle.b2_host.specs.declared.children.ChildEvent.{ChildEvent}
use Rattle.b2_plan.specs.declared.step.Step.{Step}
use Rattle.b2_plan.specs.Closures.{Value}
use Rattle.b2_runs.specs.Staleness.{Update, Agrees, Agrees.by_stamps, Agrees.by_digests, IsFresh}
use Rattle.b2_runs.specs.Runs.{Settled, Settled.source, Settled.done_well, Settled.fresh, on_settled, Needed, Needed.wanted, Needed.member}
use Rattle.b2_runs.specs.JudgeLaws.{run_as, FreshHoweverRun, SettledHoweverRun, KnownHoweverRun, NeededHoweverRun}
use Rattle.b2_runs.proofs.ClosureStays.{known_grows}

-- A record of an update is taken apart and put together again. The way back is the way there, from the other update.

fresh_as : (u : Update) (events : List ChildEvent) (quit : Bool) (jobs : ℕ) (step : Step) (members : List (List ℕ × Value)) → IsFresh u events step members → IsFresh (run_as u quit jobs) events step members
fresh_as u events quit jobs step members f = record {
  not_all = f.not_all;
  not_always = f.not_always;
  not_notfile = f.not_notfile;
  stand = f.stand;
  none_older = f.none_older;
  none_notfile = f.none_notfile;
  none_done = f.none_done;
  recorded = record { last = f.recorded.last; found = f.recorded.found; agrees = go f.recorded.agrees };
}
  where
    go : Agrees u events step members f.recorded.last → Agrees (run_as u quit jobs) events step members f.recorded.last
    go (by_stamps a) = by_stamps (record { text = a.text; outs = a.outs; ins = a.ins; none_done = a.none_done })
    go (by_digests on a) = by_digests on (record { text = a.text; digests = a.digests; has = a.has; outs = a.outs; paths = a.paths; ins = a.ins })

pub fresh_however_run : FreshHoweverRun
fresh_however_run u events quit jobs step members = (fresh_as u events quit jobs step members, fresh_as (run_as u quit jobs) events u.quit u.jobs step members)

settled_as : (u : Update) (events : List ChildEvent) (quit : Bool) (jobs : ℕ) (path : List ℕ) → Settled u events path → Settled (run_as u quit jobs) events path
settled_as u events quit jobs path (source p bytes s) = source p bytes s
settled_as u events quit jobs path (done_well i step p makes done) = done_well i step p makes done
settled_as u events quit jobs path (fresh i step p members makes not_started closure inside f) =
    fresh i step p members makes not_started closure (λ m x c. settled_as u events quit jobs m (inside m x c)) (fresh_as u events quit jobs step members f)

pub settled_however_run : SettledHoweverRun
settled_however_run u events quit jobs path = (settled_as u events quit jobs path, settled_as (run_as u quit jobs) events u.quit u.jobs path)

pub known_however_run : KnownHoweverRun
known_however_run u events quit jobs step path = (
  known_grows (on_settled u events) (on_settled (run_as u quit jobs) events) u.build step path (λ p x s. (settled_as u events quit jobs p s.0, s.1)),
  known_grows (on_settled (run_as u quit jobs) events) (on_settled u events) u.build step path (λ p x s. (settled_as (run_as u quit jobs) events u.quit u.jobs p s.0, s.1)),
)

needed_as : (u : Update) (events : List ChildEvent) (quit : Bool) (jobs : ℕ) (i : ℕ) → Needed u events i → Needed (run_as u quit jobs) events i
needed_as u events quit jobs i (wanted k step path c makes) = wanted k step path c makes
needed_as u events quit jobs i (member k step j other path needed at known makes) = member k step j other path (needed_as u events quit jobs j needed) at ((known_however_run u events quit jobs other path).0 known) makes

pub needed_however_run : NeededHoweverRun
needed_however_run u events quit jobs i = (needed_as u events quit jobs i, needed_as (run_as u quit jobs) events u.quit u.jobs i)
