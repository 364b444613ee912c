-- A fault that was told from one moment on is told from an earlier one too, where no count has fallen in between and what may go wrong
-- has stayed.
use Rattle.std.proofs.Common.{◌≡◌, inl, inr, ℕ, ◌≤◌, sym, ap, ◌∙◌, arith}
use Rattle.b2_host.specs.Outside.{Outside, Risks}
use Rattle.b2_host.specs.OutsideLaws.{then_rose}
use Rattle.b2_host.specs.Output.{Output}
use Rattle.b2_runs.specs.UpdateAnswers.{SinkFailed, WaitFailed, WaitedForEach, LeavesNone}

-- a count that has not changed has not fallen
pub same_count : (m n : ℕ) → n ≡ m → m ≤ n
same_count m n same = omega (arith, same)

-- a write failed
pub sink_failed_from : (x y z : Output) → x.faults ≤ y.faults → y.may_fail ≡ x.may_fail → SinkFailed y z → SinkFailed x z
sink_failed_from x y z low may failed = record { may = sym may ∙ failed.may; faults = then_rose x.faults y.faults z.faults low failed.faults }

-- a wait failed
module _ (x y z : Outside) (faults : x.faults ≤ y.faults) (risks : y.risks ≡ x.risks) (waits : x.failed_waits ≤ y.failed_waits) where
  pub wait_failed_from : WaitFailed y z → WaitFailed x z
  wait_failed_from failed = record {
    may = ap (λ (r : Risks). r.wait_may_fail) (sym risks) ∙ failed.may;
    faults = then_rose x.faults y.faults z.faults faults failed.faults;
    waits = then_rose x.failed_waits y.failed_waits z.failed_waits waits failed.waits;
  }

  each_from : WaitedForEach y z → WaitedForEach x z
  each_from (inl enough) = inl (omega (arith, enough, waits))
  each_from (inr full) = inr full

  pub left_from : LeavesNone y z → LeavesNone x z
  left_from (inl none) = inl none
  left_from (inr (failed, each)) = inr (wait_failed_from failed, each_from each)
