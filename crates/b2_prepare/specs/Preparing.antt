-- What is promised of the way from words to a plan.
use Rattle.std.specs.Prelude.{◌≡◌, ℕ, List, [], Option, Some, None, Result, Ok, Err}
use Rattle.std.specs.Option.{option_map}
use Rattle.b2_host.specs.Disks.{Disk}
use Rattle.b2_base.specs.Counts.{Rose}
use Rattle.b2_host.specs.Outside.{Outside}
use Rattle.jam_journal.specs.Tables.{Text}
use Rattle.jam_effects.specs.declared.fault.EvalFault.{EvalFault}
use Rattle.b2_alternatives.specs.declared.fault.ChoiceFault.{ChoiceFault}
use Rattle.b2_alternatives.specs.declared.fault.ChoiceFault.TheVariants as choosing
use Rattle.b2_making.specs.declared.fault.MakingFault.{MakingFault}
use Rattle.b2_making.specs.declared.fault.MakingFault.TheVariants as making
use Rattle.b2_generate.specs.declared.fault.GenFault.{GenFault}
use Rattle.b2_generate.specs.declared.fault.GenFault.TheVariants as generating
use Rattle.b2_request_plan.specs.declared.planned.Planned.{Planned as Made}
use Rattle.b2_generate.specs.Planning.{Planned}
use Rattle.b2_request_plan.specs.Plans.{seen}
use Rattle.b2_refusals.specs.declared.fault.PlanRefusal.{PlanRefusal}
use Rattle.b2_refusals.specs.declared.fault.PlanRefusal.TheVariants as refusals
use Rattle.b2_prepare.specs.declared.refusal.PlanStop.{PlanStop}
use Rattle.b2_prepare.specs.declared.refusal.PlanStop.TheVariants.{Refused, HostInLoad, HostInGeneration, OutOfMemory}
use Rattle.b2_prepare.specs.Meaning.{Refusal, HasLoaded, BeginLoad, IsRefusedInGeneration, AsksTests, Means}
use Rattle.b2_prepare.specs.Refusals.{refusal_of, pattern_of}
use Rattle.b2_refusals.specs.Wholes.{IsPlanRefusal}

-- `Holds` of a refusal as data; `Rest` where there is none.
abbrev pub IfRefusal : Type 0 → Option Refusal → (Refusal → Type 0) → Type 0
IfRefusal Rest None Holds = Rest
IfRefusal Rest (Some why) Holds = Holds why

-- the refusal is a fault of the project's own text, of which something holds
abbrev pub IsOfChoice : (EvalFault → Type 0) → ChoiceFault EvalFault → Type 0
IsOfChoice Rest (choosing.Eval fault) = Rest fault
IsOfChoice Rest fault = ⊥

abbrev pub IsOfMaking : (EvalFault → Type 0) → MakingFault EvalFault → Type 0
IsOfMaking Rest (making.Eval fault) = Rest fault
IsOfMaking Rest fault = ⊥

abbrev pub IsOfGeneration : (EvalFault → Type 0) → GenFault EvalFault → Type 0
IsOfGeneration Rest (generating.NotChosen fault) = IsOfChoice Rest fault
IsOfGeneration Rest (generating.NotMade fault) = IsOfMaking Rest fault
IsOfGeneration Rest fault = ⊥

-- the same, where the refusal is one of generation
abbrev pub IfOfGeneration : (EvalFault → Type 0) → PlanRefusal → Type 0
IfOfGeneration Rest (refusals.Load fault) = Unit {0}
IfOfGeneration Rest (refusals.Request fault) = Unit {0}
IfOfGeneration Rest (refusals.Generation fault) = IsOfGeneration Rest fault

-- Something holds of the answer as data, and of the pattern of a project file that was refused though it reads as one, if there was
-- one. Where such a pattern of the project's own text is refused in generation, the rest holds of the fault that this is. Nothing is
-- said of a fault of the host and of out of memory.
abbrev pub Tells : (EvalFault → Type 0) → (Option Text → Result Planned Refusal → Type 0) → Result Made PlanStop → Type 0
Tells Rest Holds (Ok plan) = Holds None (Ok (seen plan))
Tells Rest Holds (Err (Refused why)) = IfRefusal (IfOfGeneration Rest why) (refusal_of why) (λ found. Holds (pattern_of why) (Err found))
Tells Rest Holds (Err HostInLoad) = Unit {0}
Tells Rest Holds (Err HostInGeneration) = Unit {0}
Tells Rest Holds (Err OutOfMemory) = Unit {0}

-- the call of a pattern, by the turns left in it
abbrev pub call_of : ℕ → Option Text → Option (ℕ × Text)
call_of left = option_map (λ pattern. (left, pattern))

-- The answer is what the files and the words come to, or the fault of a pattern that is refused in generation.
abbrev pub IsPrepared : Disk → List Text → List Text → Result Made PlanStop → Type 0
IsPrepared disk words lines = Tells (IsRefusedInGeneration disk words lines) (λ pattern result. (left : ℕ) × Means disk (call_of left pattern) words lines result)

-- These are the tests that the plan asks for; none where there is no plan.
abbrev pub TestsTold : Disk → List Text → Result Made PlanStop → List (List ℕ × ℕ) → Type 0
TestsTold disk words (Ok plan) tests = AsksTests disk words (seen plan) tests
TestsTold disk words (Err stop) tests = tests ≡ []

-- Where the host failed in the load, the lines begin those of the whole load; where it failed in generation, they are all of them.
abbrev pub LinesTold : Disk → List Text → List Text → Result Made PlanStop → Type 0
LinesTold disk words lines (Ok plan) = Unit {0}
LinesTold disk words lines (Err (Refused why)) = Unit {0}
LinesTold disk words lines (Err HostInLoad) = BeginLoad disk words lines
LinesTold disk words lines (Err HostInGeneration) = HasLoaded disk words lines
LinesTold disk words lines (Err OutOfMemory) = Unit {0}

-- no fault of the host and no out of memory is within a refusal
abbrev pub IsWhole : PlanStop → Type 0
IsWhole (Refused why) = IsPlanRefusal why
IsWhole HostInLoad = Unit {0}
IsWhole HostInGeneration = Unit {0}
IsWhole OutOfMemory = Unit {0}

-- the count of faults rose where the host failed, and stays with every other answer but out of memory
abbrev pub CountsStop : PlanStop → Outside → Outside → Type 0
CountsStop (Refused why) before after = after.faults ≡ before.faults
CountsStop HostInLoad before after = Rose before.faults after.faults
CountsStop HostInGeneration before after = Rose before.faults after.faults
CountsStop OutOfMemory before after = Unit {0}

abbrev pub Counts : Result Made PlanStop → Outside → Outside → Type 0
Counts (Ok plan) before after = after.faults ≡ before.faults
Counts (Err stop) before after = CountsStop stop before after
