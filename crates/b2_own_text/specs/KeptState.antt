-- What evaluation leaves as it is, and what is known of its faults.
use Rattle.std.specs.Prelude.{◌≡◌, ℕ, List, Option, is_some, true}
use Rattle.std.specs.Option.{IfSome}
use Rattle.b2_host.specs.ChildProcesses.{Family}
use Rattle.b2_host.specs.Disks.{Disk}
use Rattle.b2_host.specs.Outside.{Outside}
use Rattle.b2_declared.specs.declared.place.Place.{Place}
use Rattle.jam_scope.specs.Worlds.{Worlds}
use Rattle.jam_effects.specs.Causes.{HoldsNoMemory, refused_by}
use Rattle.jam_effects.specs.declared.fault.EvalFault.{EvalFault}
use Rattle.b2_own_text.specs.Questions.{IsRefused}
use Rattle.b2_own_text.specs.declared.question.Question.{Question}

-- the projects, the worlds, which host is lent, its files and its child processes
pub record Held : Type 0 where
  pub projects : List Place
  pub worlds : Worlds
  pub host : ℕ
  pub disk : Option Disk
  pub children : Family

abbrev pub held : List Place → Worlds → ℕ → Outside → Held
held projects worlds host outside = record { projects = projects; worlds = worlds; host = host; disk = outside.disk; children = outside.children }

-- Where memory ran out, a fault says that alone, whatever is kept.
abbrev pub CanEndWith : Held → EvalFault → Type 0
CanEndWith kept fault = HoldsNoMemory fault

-- A question ends with this fault: where the files are visible, and the fault is a pattern that was refused although it reads as one,
-- it is refused in this question.
pub record EndsQuestion (kept : Held) (question : Question) (fault : EvalFault) : Type 0 where
  pub whole : HoldsNoMemory fault
  pub refused : IfSome kept.disk (λ disk. is_some (refused_by fault) ≡ true → IsRefused kept.projects kept.worlds disk question fault)

-- What is kept where one question has a fault that is given.
pub record Given : Type 0 where
  pub held : Held
  pub fault : EvalFault

abbrev pub given : Held → EvalFault → Given
given kept fault = record { held = kept; fault = fault }

-- Of patterns that are refused although they read as one, only that of the given fault is a fault.
pub record CanEndWithGiven (kept : Given) (fault : EvalFault) : Type 0 where
  pub whole : HoldsNoMemory fault
  pub given : is_some (refused_by fault) ≡ true → fault ≡ kept.fault
