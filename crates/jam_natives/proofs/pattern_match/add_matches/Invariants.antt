use Rattle.std.proofs.Common.{◌≡◌, None, Ok, take}
use Rattle.jam_natives.specs.Matches.{run_all, with_match}
use Rattle.jam_natives.proofs.pattern_match.add_matches.Given as goal

abbrev pub invariant-loop-pattern : goal.invariant-loop-pattern
invariant-loop-pattern l = run_all (with_match None l.text) l.fn.found (take l.pattern-index l.patterns) ≡ Ok l.found
