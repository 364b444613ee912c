use Rattle.std.proofs.Common.{string_bytes, take, ◌++◌, ◌≡◌}
use Rattle.b2_base.specs.Bytes.{HasNoZero}
use Rattle.jam_engine.specs.Steps.{and_so_on, in_parens}
use Rattle.jam_engine.proofs.texts.several.Given as goal

abbrev pub invariant-loop-other : goal.invariant-loop-other
invariant-loop-other l = record {
  so_far : string_bytes l.made ≡ in_parens l.first ++ and_so_on (take l.other-index l.others);
  no_zero : HasNoZero (string_bytes l.made);
}
