-- Two calls of a session that come one after the other, and what the second one does not start again.
use Rattle.std.specs.Prelude.{◌≡◌, ℕ, ◌≤◌, true, List, ◌∷◌, ◌++◌, length}
use Rattle.std.specs.List.{Contains}
use Rattle.b2_host.specs.declared.children.ChildEvent.{ChildEvent}
use Rattle.b2_host.specs.declared.children.ChildEvent.TheVariants.{Start, Done}
use Rattle.b2_host.specs.Disks.{Disk}
use Rattle.b2_plan.specs.declared.step.Step.{Step}
use Rattle.b2_plan.specs.Plans.{Makes}
use Rattle.b2_plan.specs.Sources.{Build}
use Rattle.b2_runs.specs.Afterwards.{IsMadeEachTime}
use Rattle.b2_runs.specs.LogCourses.{held_bytes, log_file}
use Rattle.b2_runs.specs.LogFiles.{log_limit}
use Rattle.b2_runs.specs.Moments.{Moment, IsSameButRisks}
use Rattle.b2_runs.specs.NextLaws.{IsOfSamePlan, AreEventsBetween}
use Rattle.b2_runs.specs.Sessions.{Happening, Happening.update, Happening.stop, IsReopened, IsTrueAt, HoldsOfPast, IsSession, IsAskedFor}
use Rattle.b2_drain.specs.Drains.{Made}
use Rattle.b2_top.specs.declared.answer.Answer.{Answer}
use Rattle.b2_top.specs.declared.answer.Answer.TheVariants as answers
use Rattle.b2_top.specs.Askings.{Asking}
use Rattle.b2_top.specs.Plans.{making_by}
use Rattle.b2_sessions.specs.BuildCalls.{update_of, TellsFor, UpdateHasCome, IsCall}

-- Two calls: one between these two moments, and one between those. What comes between the calls is said apart: nothing
-- (`IsNextAtOnce`), or the host was opened again (`IsNextAfterStop`). The log was true before them, and digests tell contents
-- apart after them.
pub record AreNeighbours (made : Made) (asking again : Asking) : Type 0 where
  pub before : Moment
  pub between : Moment
  pub reopened : Moment
  pub after : Moment
  pub given : Answer
  pub answer : Answer
  pub came : IsCall made asking given before between
  pub again_came : IsCall made again answer reopened after
  pub true_log : IsTrueAt (making_by made) before
  pub tells : HoldsOfPast (TellsFor again) after

-- In both an update of one plan came. The second one judged in the same way, and was not to run all. The log between them was
-- within its limit.
pub record AreOfOnePlan (made : Made) (asking again : Asking) (n : AreNeighbours made asking again) : Type 0 where
  pub disk : Disk
  pub middle : Disk
  pub come : UpdateHasCome made asking n.given n.before.host n.between.host disk
  pub next : UpdateHasCome made again n.answer n.reopened.host n.after.host middle
  pub same : IsOfSamePlan (update_of made come.plan) (update_of made next.plan)
  pub fits : length (held_bytes (log_file next.updated.old.now)) ≤ log_limit

module _ (made : Made) (asking again : Asking) (n : AreNeighbours made asking again) (p : AreOfOnePlan made asking again n) where
  -- the plan's build, from the files at entry
  abbrev pub first_build : Build
  first_build = record (update_of made p.come.plan).build { folder = p.come.updated.old.now }

  -- the second one starts no step whose output is not made each time
  abbrev pub StartsNoMore : Type 0
  StartsNoMore = (later : List ChildEvent) (i : ℕ) (step : Step) (path : List ℕ) → AreEventsBetween n.reopened.host n.after.host later
      → Makes first_build.steps i step path → (IsMadeEachTime first_build path → ⊥) → Contains later (Start i) → ⊥

  -- it starts no such step that was done well before a start of the first one
  abbrev pub StartsNoneAgain : Type 0
  StartsNoneAgain = (events front rest later : List ChildEvent) (k i : ℕ) (step : Step) (path : List ℕ)
      → AreEventsBetween n.before.host n.between.host events → events ≡ front ++ Start k ∷ rest → Contains front (Done i true)
      → AreEventsBetween n.reopened.host n.after.host later
      → Makes first_build.steps i step path → (IsMadeEachTime first_build path → ⊥) → Contains later (Start i) → ⊥

module _ (made : Made) (asking again : Asking) (n : AreNeighbours made asking again) where
  -- the first one was not stopped
  abbrev pub IsNextAtOnce : Type 0
  IsNextAtOnce = n.reopened ≡ n.between

  -- The first one was stopped, and the host was opened again before the second one.
  pub record IsNextAfterStop : Type 0 where
    pub events : List ChildEvent
    pub are : AreEventsBetween n.before.host n.between.host events
    pub reopened : IsReopened events n.between n.reopened

  -- They are two calls of a session: what happened before the first one was a session up to it, what happened after the second
  -- one was a session from it on, and their answers stand between the others.
  pub record AreWithin (first last : Moment) (front rest : List (Happening Asking)) (given : List Answer) : Type 0 where
    pub middle : Moment
    pub earlier : List Answer
    pub session_before : IsSession (IsCall made) first front earlier middle
    pub begins : IsSameButRisks middle n.before
    pub later : List Answer
    pub session_after : IsSession (IsCall made) n.after rest later last
    pub answers_are : given ≡ earlier ++ n.given ∷ n.answer ∷ later

-- ---- laws

-- after a call that answered Ok the next one starts no step whose output is not made each time
abbrev pub NextIsFresh : Type 0
NextIsFresh = (made : Made) (asking again : Asking) (n : AreNeighbours made asking again) (p : AreOfOnePlan made asking again n)
    → IsNextAtOnce made asking again n → n.given ≡ answers.Ok → StartsNoMore made asking again n p

-- whatever a call answered, the next one starts no such step again that was done well
abbrev pub NoWorkIsLost : Type 0
NoWorkIsLost = (made : Made) (asking again : Asking) (n : AreNeighbours made asking again) (p : AreOfOnePlan made asking again n)
    → IsNextAtOnce made asking again n → StartsNoneAgain made asking again n p

-- nor does it where the first one was stopped
abbrev pub StopLosesNoWork : Type 0
StopLosesNoWork = (made : Made) (asking again : Asking) (n : AreNeighbours made asking again) (p : AreOfOnePlan made asking again n)
    → IsNextAfterStop made asking again n → StartsNoneAgain made asking again n p

-- ---- within a session

-- A session of these events that begins with a true log. Digests tell contents apart that its events judge by.
pub record IsTrueSession (made : Made) (first last : Moment) (happenings : List (Happening Asking)) (given : List Answer) : Type 0 where
  pub session : IsSession (IsCall made) first happenings given last
  pub tells : (asked : Asking) → IsAskedFor happenings asked → HoldsOfPast (TellsFor asked) last
  pub true_log : IsTrueAt (making_by made) first

-- an update of it and the update right after it are such calls
abbrev pub UpdatesAreNeighbours : Type 0
UpdatesAreNeighbours = (made : Made) (first last : Moment) (front rest : List (Happening Asking)) (asking again : Asking) (given : List Answer)
    → IsTrueSession made first last (front ++ update asking ∷ update again ∷ rest) given
    → (n : AreNeighbours made asking again) × AreWithin made asking again n first last front rest given × IsNextAtOnce made asking again n

-- so are an update that was stopped and the update right after it
abbrev pub StopAndUpdateAreNeighbours : Type 0
StopAndUpdateAreNeighbours = (made : Made) (first last : Moment) (front rest : List (Happening Asking)) (asking again : Asking) (given : List Answer)
    → IsTrueSession made first last (front ++ stop asking ∷ update again ∷ rest) given
    → (n : AreNeighbours made asking again) × AreWithin made asking again n first last front rest given × IsNextAfterStop made asking again n
