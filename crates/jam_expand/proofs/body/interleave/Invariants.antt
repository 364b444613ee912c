use Rattle.std.proofs.Common.{◌≡◌, ◌++◌, drop, string_bytes}
use Rattle.std.specs.Str.{IsUtf8}
use Rattle.b2_base.specs.Bytes.{HasNoZero}
use Rattle.jam_expand.specs.Bodies.{spaces, interleaved}
use Rattle.jam_expand.proofs.body.interleave.Given as goal

-- what is made, and then the rest
abbrev pub invariant-loop-text : goal.invariant-loop-text
invariant-loop-text l = record {
  written : string_bytes l.made ++ interleaved (drop l.text-index l.texts) (spaces l.rest) ≡ interleaved l.texts (spaces l.body);
  no_zero : HasNoZero (string_bytes l.made);
  utf8 : IsUtf8 l.rest;
}
