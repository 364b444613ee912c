use Rattle.std.proofs.Common.{◌≡◌, ◌++◌, ◌∷◌, take, string_bytes}
use Rattle.std.specs.List.{flat_map}
use Rattle.b2_base.specs.Bytes.{HasNoZero}
use Rattle.jam_natives.proofs.texts.line_from.Given as goal

abbrev pub invariant-loop-other : goal.invariant-loop-other
invariant-loop-other l = record {
  so_far : string_bytes l.line ≡ l.first ++ flat_map (λ other. 32 ∷ other) (take l.other-index l.others);
  no_zero : HasNoZero (string_bytes l.line);
}
