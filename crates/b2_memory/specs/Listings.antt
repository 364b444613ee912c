use Rattle.std.specs.Prelude.{drop}
use Rattle.b2_host.specs.Outside.{Risks}
use Rattle.b2_memory.specs.Scripts.{Listed}
use Rattle.b2_memory.specs.declared.script.Script.{Script}

-- what a script lists
abbrev pub listed_of : Script → Listed
listed_of script = record {
  calls = script.calls.items;
  starts = script.starts.items;
  picks = drop script.taken script.picks.items;
  fuse = script.fuse;
  tear = script.tear;
}

-- what a script says may go wrong
abbrev pub risks_told : Script → Risks
risks_told script = record { may_fail = script.may_fail; wait_may_fail = script.wait_may_fail; may_end_badly = script.may_end_badly }
