use Rattle.std.proofs.Common.{drop}
use Rattle.std.specs.List.{find}
use Rattle.jam_engine.specs.Joining.{IsFirstAlike, is_alike_at}
use Rattle.jam_engine.proofs.joining.alike_at.Given as goal

abbrev pub invariant-loop-place : goal.invariant-loop-place
invariant-loop-place l = IsFirstAlike l.acts (drop l.place-index l.places) l.act (find (is_alike_at l.acts l.act) l.places)
