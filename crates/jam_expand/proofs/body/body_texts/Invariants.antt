use Rattle.std.proofs.Common.{◌≡◌, [], length}
use Rattle.std.specs.Str.{IsUtf8}
use Rattle.b2_base.specs.Bytes.{HasNoZero}
use Rattle.jam_expand.specs.Bodies.{words, body_texts}
use Rattle.jam_expand.proofs.body.body_texts.Given as goal

-- the rest after what is gathered is the whole
abbrev pub invariant-loop-word : goal.invariant-loop-word
invariant-loop-word g l = record {
  so_far : body_texts (g.L.Look.answer l.look) l.gathered (words l.rest) ≡ body_texts (g.L.Look.answer l.look) [] (words l.body);
  none_left : HasNoZero l.rest;
  text : IsUtf8 l.rest;
}

abbrev pub decreases-loop-word : goal.decreases-loop-word
decreases-loop-word g l = length l.rest
