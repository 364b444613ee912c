-- A call that keeps what it promises is a call of a session.
use Rattle.b2_top.specs.Askings.{Asking, build_of, jam_of}
use Rattle.b2_sessions.proofs.CallsAreTold.{HasFewJobs, build_has_few, jam_has_few, is_call}
use Rattle.b2_session_laws.specs.Calls.{AreCalls, BuildsAreCalls, JamBuildsAreCalls}

are_calls : (asking : Asking) → HasFewJobs asking → AreCalls asking
are_calls asking few made answer before after idle consistent consistent_then answered none keeps =
    is_call made asking few answer before after idle answered none keeps consistent consistent_then

pub builds_are_calls : BuildsAreCalls
builds_are_calls words = are_calls (build_of words) (build_has_few words)

pub jam_builds_are_calls : JamBuildsAreCalls
jam_builds_are_calls words = are_calls (jam_of words) (jam_has_few words)
