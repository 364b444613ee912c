use Rattle.b2_host.specs.Outside.{Outside}
use Rattle.b2_host.specs.Output.{Output}
use Rattle.b2_runs.specs.Moments.{Moment}

-- the moment of a host and a sink, as their callers see them
abbrev pub moment : Outside → Output → Moment
moment host out = record { host = host; out = out }
