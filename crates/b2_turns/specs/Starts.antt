-- What a start changes of what an update knows. All this is said over every host.
use Rattle.std.specs.Prelude.{◌≡◌, ℕ, Bool, true, false, List, length, Some, None}
use Rattle.std.specs.List.{Contains}
use Rattle.b2_sched.specs.declared.state.State.{State}
use Rattle.b2_sched.specs.declared.state.State.TheVariants.{Unjudged, Stale, Running, Settled, Failed}
use Rattle.b2_sched.specs.Schedules.{Schedule, state_of}
use Rattle.b2_sched.specs.SchedulerCalls.{with_start}
use Rattle.b2_facts.specs.declared.file_facts.FileFacts.{FileFacts}
use Rattle.b2_facts.specs.declared.file_facts.FileLook.TheVariants as seen
use Rattle.b2_facts.specs.Facts.{Knowledge, file_at}
use Rattle.b2_reach.specs.declared.sights.Sights.{Sights}
use Rattle.b2_verdicts.specs.declared.step_numbers.StepNumbers.{StepNumbers}
use Rattle.b2_looks.specs.declared.looks.Looks.{Looks}
use Rattle.b2_looks.specs.Looks.{ready_at}

abbrev pub is_settled : State → Bool
is_settled Unjudged = false
is_settled Stale = false
is_settled Running = false
is_settled Settled = true
is_settled Failed = false

-- whether a step is settled, as it is told of children
abbrev pub settles : Schedule → ℕ → Bool
settles s i = is_settled (state_of s i)

-- What was seen of these files was forgotten, and their digests; nothing else changed.
pub record HasForgotten (ns : List ℕ) (f g : Knowledge) : Type 0 where
  pub paths : g.paths ≡ f.paths
  pub lists : g.lists ≡ f.lists
  pub found : g.found ≡ f.found
  pub size : length g.files ≡ length f.files
  pub forgotten : (n : ℕ) (file : FileFacts) → Contains ns n → file_at f n ≡ Some file
      → file_at g n ≡ Some (record file { seen = seen.Unasked; digest = None })
  pub others : (n : ℕ) → (Contains ns n → ⊥) → file_at g n ≡ file_at f n

-- The step runs from now on, and what was seen of its outputs is forgotten; nothing else changed.
pub record Begins (i : ℕ) (l : Looks) (s : Sights) (k : Looks) (t : Sights) : Type 0 where
  pub way : k.way ≡ l.way
  pub ran : k.ran ≡ l.ran
  pub ready : k.ready ≡ l.ready
  pub works : k.board.works ≡ l.board.works
  pub sched : k.board.sched ≡ with_start l.board.sched i
  pub numbers : StepNumbers
  pub kept : ready_at l i ≡ Some numbers
  pub forgets : HasForgotten numbers.outs s.facts t.facts
  pub journal : t.journal ≡ s.journal
  pub by_digest : t.by_digest ≡ s.by_digest
