use Rattle.std.proofs.Common.{◌≡◌, vec_len}
use Rattle.b2_realhost.proofs.waiting.ask_until_ended.Given as goal

-- there are as many processes as before
abbrev pub invariant-loop : goal.invariant-loop
invariant-loop g l =
    (goal.iterator-loop g).can_next l.iterator' × (goal.iterator-loop g).is_finite l.iterator' × (vec_len l.processes ≡ vec_len l.fn.processes)
