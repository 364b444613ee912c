-- Each update of a drill answers Ok or out of memory.
use Rattle.std.proofs.Common.{◌≡◌, ℕ, ◌<◌, ◌≤◌, false, List, [], take, refl, sym, subst}
use Rattle.b2_drill.specs.Drills.{drill_events}
use Rattle.b2_drill_laws.specs.Laws.{DrillsGoWell}
use Rattle.b2_host.specs.Outside.{Outside}
use Rattle.b2_memory.specs.Memories.{new_memory}
use Rattle.b2_memory.specs.Sinks.{new_output}
use Rattle.b2_sessions.specs.Courses.{IsSessionOf}
use Rattle.b2_top.specs.declared.answer.Answer.{Answer}
use Rattle.b2_drill_call.specs.Drilled.{begun, RunsOver, GoesWithoutFaults}

-- A drill of some targets, and of at most 2,000, from a new host to one with which nothing may go wrong.
pub record IsDrillOf (n : ℕ) (before after : Outside) : Type 0 where
  pub some : 0 < n
  pub few : n ≤ 2000
  pub new : before ≡ new_memory.outside
  pub may_fail : after.risks.may_fail ≡ false
  pub may_end_badly : after.risks.may_end_badly ≡ false

-- some first events of a drill
pub goes_well : DrillsGoWell → (n count : ℕ) (before after : Outside) (given : List Answer) → RunsOver (take count (drill_events n)) before given after → IsDrillOf n before after → GoesWithoutFaults n before after
goes_well law n count before after given session drill = record {
  count = count;
  given = given;
  session = session;
  ok_or_memory =
      law n count (record { host = after; out = session.0 }) given drill.some drill.few
      (subst (λ (host : Outside). IsSessionOf (take count (drill_events n)) (begun host) given (record { host = after; out = session.0 })) drill.new session.1)
      (record { may_fail = drill.may_fail; may_end_badly = drill.may_end_badly });
}

-- nothing was run
pub goes_nowhere : (n : ℕ) (before after : Outside) → after ≡ before → GoesWithoutFaults n before after
goes_nowhere n before after same = subst (GoesWithoutFaults n before) (sym same) (record { count = 0; given = []; session = (new_output, (begun before, refl, (refl, refl))); ok_or_memory = tt })
