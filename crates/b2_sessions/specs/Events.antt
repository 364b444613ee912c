-- Events of a session, by what they are to it.
use Rattle.std.specs.Prelude.{Bool, true, false, ◌&&◌, List, map, is_some}
use Rattle.std.specs.Str.{bytes_eq}
use Rattle.b2_drill.specs.declared.event.Event.{Event}
use Rattle.b2_drill.specs.declared.event.Event.TheVariants as events
use Rattle.b2_host.specs.FileCalls.{log_path}
use Rattle.b2_runs.specs.Sessions.{Happening, Happening.edit, Happening.update, Happening.stop}
use Rattle.b2_top.specs.Askings.{Asking, build_of}

-- What happens by an event. An update and a stop ask for what their words are as a build. Where an update is stopped is no part of
-- it: a stop may come anywhere.
abbrev pub happening_of : Event → Happening Asking
happening_of (events.Edit path bytes) = edit path bytes
happening_of (events.Update words) = update (build_of words)
happening_of (events.Stop words calls tear) = stop (build_of words)

abbrev pub happenings : List Event → List (Happening Asking)
happenings list = map happening_of list

-- the event writes the log, which no edit of a session does; one that deletes it does not write it
abbrev pub writes_log : Event → Bool
writes_log (events.Edit path bytes) = is_some bytes && bytes_eq path log_path
writes_log (events.Update words) = false
writes_log (events.Stop words calls tear) = false

-- the event gives an answer
abbrev pub gives_answer : Event → Bool
gives_answer (events.Edit path bytes) = false
gives_answer (events.Update words) = true
gives_answer (events.Stop words calls tear) = true
