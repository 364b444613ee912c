-- A part that exits early, by the fault of a `?` or out of memory, did as it promised; for the early exits of code.
use Rattle.std.proofs.Common.{◌≡◌, ℕ, Bool, List, Option, Result, Ok, Err, sym, subst}
use Rattle.b2_plan.specs.declared.step.Step.{Step}
use Rattle.b2_evaluator.specs.Answers.{Answers}
use Rattle.b2_making.specs.declared.setting.Setting.{Setting}
use Rattle.b2_making.specs.declared.site.Site as code
use Rattle.b2_making.specs.declared.fault.MakingFault.{MakingFault}
use Rattle.b2_making.specs.declared.fault.MakingFault.TheVariants.{OutOfMemory}
use Rattle.b2_making.specs.Acts.{Act}
use Rattle.b2_making.specs.Contexts.{Context, Site}
use Rattle.b2_making.specs.MakingParts.{Alone, Did}
use Rattle.b2_making.proofs.PromisesCompose.{did_nothing, did_memory}

module _ {S E K A : Type 0} {answers : S → Option (Answers E)} {kept : S → K} {faults : S → ℕ} {is_host is_memory : E → Bool} {CanFault : K → E → Type 0} {act : Context E → Site → Act E A} {setting : Setting} {site : code.Site} {old new : S} {before after : List Step} where
  -- the exit of a `?` with this fault
  pub exit : {f y : MakingFault E} {r : Result A (MakingFault E)} → r ≡ Err y → y ≡ f → Did answers kept faults is_host is_memory CanFault act setting site old new before after (Err f) → Did answers kept faults is_host is_memory CanFault act setting site old new before after r
  exit {f} {y} {r} e q did =
      subst (λ (x : Result A (MakingFault E)). Did answers kept faults is_host is_memory CanFault act setting site old new before after x) (sym e)
      (subst (λ (z : MakingFault E). Did answers kept faults is_host is_memory CanFault act setting site old new before after (Err z)) (sym q) did)

  -- out of memory after a part
  pub exit_after : {B : Type 0} {first : Context E → Site → Act E B} {value : B} {y : MakingFault E} {r : Result A (MakingFault E)} → r ≡ Err y → y ≡ OutOfMemory
      → Did answers kept faults is_host is_memory CanFault first setting site old new before after (Ok value) → Did answers kept faults is_host is_memory CanFault act setting site old new before after r
  exit_after {B} {first} {value} e q did = exit e q (did_memory answers kept faults is_host is_memory CanFault setting site first act old new before after value did)

module _ {S E K A : Type 0} {answers : S → Option (Answers E)} {kept : S → K} {faults : S → ℕ} {is_host is_memory : E → Bool} {CanFault : K → E → Type 0} {act : Context E → Site → Act E A} {setting : Setting} {site : code.Site} {old : S} {before : List Step} where
  -- out of memory before anything was done
  pub exit_first : {y : MakingFault E} {r : Result A (MakingFault E)} → r ≡ Err y → y ≡ OutOfMemory → Did answers kept faults is_host is_memory CanFault act setting site old old before before r
  exit_first e q = exit e q (did_nothing answers kept faults is_host is_memory CanFault setting site act old before)

module _ {E A : Type 0} {act : Context E → Site → Act E A} {setting : Setting} {site : code.Site} {before after : List Step} where
  -- the same of a part that evaluates nothing
  pub exit_alone : {f y : MakingFault E} {r : Result A (MakingFault E)} → r ≡ Err y → y ≡ f → Alone act setting site before after (Err f) → Alone act setting site before after r
  exit_alone {f} {y} {r} e q did =
      subst (λ (x : Result A (MakingFault E)). Alone act setting site before after x) (sym e) (subst (λ (z : MakingFault E). Alone act setting site before after (Err z)) (sym q) did)

  pub exit_alone_memory : {y : MakingFault E} {r : Result A (MakingFault E)} → r ≡ Err y → y ≡ OutOfMemory → Alone act setting site before after r
  exit_alone_memory e q = exit_alone e q (record { exact = λ told is_host is_memory. tt; no_eval = tt })
