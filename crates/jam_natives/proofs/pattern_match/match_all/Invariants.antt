use Rattle.std.proofs.Common.{◌≡◌, [], None, Ok, take}
use Rattle.jam_natives.specs.Matches.{run_all, with_matches}
use Rattle.jam_natives.proofs.pattern_match.match_all.Given as goal

abbrev pub invariant-loop-text : goal.invariant-loop-text
invariant-loop-text l = run_all (with_matches None l.patterns) [] (take l.text-index l.texts) ≡ Ok l.found
