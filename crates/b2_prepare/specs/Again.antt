-- Generation once more, after a pattern was refused in it although it reads as one.
use Rattle.std.specs.Borrow.{MutBor}
use Rattle.std.specs.Prelude.{◌≡◌, Bool, true, false, is_some, List, Result, Ok, Err, IfOk, IfErr, if◌then◌else◌}
use Rattle.std.specs.Option.{IfSome}
use Rattle.b2_host.specs.Outside.{Outside}
use Rattle.jam_journal.specs.Tables.{Text}
use Rattle.jam_scope.specs.Worlds.{Worlds}
use Rattle.jam_effects.specs.Causes.{refused_by}
use Rattle.jam_effects.specs.declared.fault.EvalFault.{EvalFault}
use Rattle.jam_effects.specs.declared.fault.EvalFault.TheVariants as evaluating
use Rattle.b2_props.specs.Sets.{Pair}
use Rattle.b2_props.specs.declared.request.Request.{Request}
use Rattle.b2_declared.specs.declared.whole.Declared.{Declared}
use Rattle.b2_alternatives.specs.declared.fault.ChoiceFault.{ChoiceFault}
use Rattle.b2_alternatives.specs.declared.fault.ChoiceFault.TheVariants as choosing
use Rattle.b2_making.specs.declared.fault.MakingFault.{MakingFault}
use Rattle.b2_making.specs.declared.fault.MakingFault.TheVariants as making
use Rattle.b2_generate.specs.declared.fault.GenFault.{GenFault}
use Rattle.b2_generate.specs.declared.fault.GenFault.TheVariants as generating
use Rattle.b2_request_plan.specs.declared.planned.Planned.{Planned as Made}
use Rattle.b2_prepare.specs.declared.refusal.PlanStop.{PlanStop}
use Rattle.b2_prepare.specs.declared.refusal.PlanStop.TheVariants as stops
use Rattle.b2_prepare.specs.Meaning.{Refuses}
use Rattle.b2_prepare.specs.Refusals.{stop_of_generation}
use Rattle.b2_prepare.specs.Preparing.{Tells, IsWhole, Counts}
use Rattle.b2_prepare.specs.PlanningParts.{planned_or_stop}

-- ---- whether a fault of generation is a pattern that was refused although it reads as one

abbrev pub is_choice_refusal : ChoiceFault EvalFault → Bool
is_choice_refusal (choosing.Eval fault) = is_some (refused_by fault)
is_choice_refusal fault = false

abbrev pub is_making_refusal : MakingFault EvalFault → Bool
is_making_refusal (making.Eval fault) = is_some (refused_by fault)
is_making_refusal fault = false

abbrev pub is_refusal : GenFault EvalFault → Bool
is_refusal (generating.NotChosen fault) = is_choice_refusal fault
is_refusal (generating.NotMade fault) = is_making_refusal fault
is_refusal fault = false

abbrev pub is_refused_answer : Result Made (GenFault EvalFault) → Bool
is_refused_answer (Ok made) = false
is_refused_answer (Err fault) = is_refusal fault

-- ---- its answer

abbrev pub stop_of_text : EvalFault → PlanStop
stop_of_text evaluating.Host = stops.HostInGeneration
stop_of_text fault = stops.OutOfMemory

abbrev pub host_of_choice : ChoiceFault EvalFault → PlanStop
host_of_choice (choosing.Eval fault) = stop_of_text fault
host_of_choice fault = stops.OutOfMemory

abbrev pub host_of_making : MakingFault EvalFault → PlanStop
host_of_making (making.Eval fault) = stop_of_text fault
host_of_making fault = stops.OutOfMemory

abbrev pub host_or_memory : GenFault EvalFault → PlanStop
host_or_memory (generating.NotChosen fault) = host_of_choice fault
host_or_memory (generating.NotMade fault) = host_of_making fault
host_or_memory fault = stops.OutOfMemory

-- a refusal stands as it is, and a fault of the host; all else is out of memory
abbrev pub refusal_or_stop : Result Made (GenFault EvalFault) → PlanStop
refusal_or_stop (Ok made) = stops.OutOfMemory
refusal_or_stop (Err fault) = if is_refusal fault then stop_of_generation fault else host_or_memory fault

-- What is promised of it: where the files are visible, the answer is a refusal to which generation comes, a fault of the host, or out
-- of memory.
pub record AnswersAgain (found : Declared) (worlds : Worlds) (sets : List (List Pair)) (targets : List Text) (from to : Outside) (result : Result Made PlanStop) : Type 0 where
  pub no_plan : IfOk result (λ made. ⊥)
  pub told : IfSome from.disk (λ disk. Tells (Refuses disk worlds found sets targets) (λ pattern outcome. ⊥) result)
  pub whole : IfErr result IsWhole
  pub counts : Counts result from to

-- ---- the answer of a request

module _ (found : Declared) (worlds : Worlds) (sets : List (List Pair)) (targets : List Text) where
  -- where no pattern was refused, the answer is that of generation
  abbrev pub SettlesBy : Bool → Result Made (GenFault EvalFault) → Outside → Outside → Result Made PlanStop → Type 0
  SettlesBy true generated from to result = AnswersAgain found worlds sets targets from to result
  SettlesBy false generated from to result = (result ≡ planned_or_stop generated) × (to ≡ from)

  abbrev pub Settles : Result Made (GenFault EvalFault) → Outside → Outside → Result Made PlanStop → Type 0
  Settles generated = SettlesBy (is_refused_answer generated) generated

-- ---- the same for a request, by what the files say of themselves

abbrev pub AnswersAgainOn : {F : Type 0} → (F → Outside) → Declared → Worlds → Request → MutBor F → MutBor F → Result Made PlanStop → Type 0
AnswersAgainOn outside found worlds request files later = AnswersAgain found worlds request.sets request.targets (outside files.now) (outside later.now)

abbrev pub SettlesOn : {F : Type 0} → (F → Outside) → Declared → Worlds → Request → Result Made (GenFault EvalFault) → MutBor F → MutBor F
    → Result Made PlanStop → Type 0
SettlesOn outside found worlds request generated files later =
    Settles found worlds request.sets request.targets generated (outside files.now) (outside later.now)
