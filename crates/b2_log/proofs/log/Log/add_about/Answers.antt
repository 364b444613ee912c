use Rattle.std.proofs.Common.{not, length, ap, arith}
use Rattle.b2_log.proofs.KeptLinesAreCounted.{place_within, count_added, room_added, log_added}
use Rattle.b2_log.proofs.log.Log.add_about.Goals as goal

pub is_told_at-loses-requires : goal.is_told_at-loses-requires
is_told_at-loses-requires c =
    place_within _ _ _ _ _ _ _ c.self.invariant.index (record { more_is = c.in_ok-push.ensures.items; subject_is = c.requires.subject; place_is = c.in-Ok.ensures.before }) c.as_slice.ensures.value

pub count_after-self-inside-requires-clause-room : goal.count_after-self-inside-requires-clause-room
count_after-self-inside-requires-clause-room c = omega (arith, room_added _ _ _ (not c.is_drop-gains.result) c.self.invariant, ap length c.in_ok-push.ensures.items, c.push.new.self.ok.0)

pub count_after-self-inside-requires-clause-one : goal.count_after-self-inside-requires-clause-one
count_after-self-inside-requires-clause-one c =
    let counted = count_added _ _ _ _ _ _ _ _ _ _ c.self.invariant (record { more_is = c.in_ok-push.ensures.items; subject_is = c.requires.subject; place_is = c.in-Ok.ensures.before }) c.as_slice.ensures.value c.is_drop-gains.ensures c.is_told_at-loses.ensures in
    omega (arith, counted)

pub invariant_of-self-in-Ok : goal.invariant_of-self-in-Ok
invariant_of-self-in-Ok c =
    log_added _ _ _ _ _ _ _ _ _ _ _ _ c.self.invariant (record { more_is = c.in_ok-push.ensures.items; subject_is = c.requires.subject; place_is = c.in-Ok.ensures.before }) c.requires.proper
    (omega (arith, c.len-place.ensures, c.self.inside.lines.ok.0)) c.in-Ok.ensures.ok c.count_after-self-inside.ensures
    (count_added _ _ _ _ _ _ _ _ _ _ c.self.invariant (record { more_is = c.in_ok-push.ensures.items; subject_is = c.requires.subject; place_is = c.in-Ok.ensures.before }) c.as_slice.ensures.value c.is_drop-gains.ensures c.is_told_at-loses.ensures)
