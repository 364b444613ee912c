use Rattle.std.proofs.Common.{◌≡◌, All, IsUtf8, map, take}
use Rattle.b2_base.specs.Bytes.{HasNoZero}
use Rattle.b2_command_line.proofs.reader.strs_of.Given as goal

abbrev pub invariant-loop-word : goal.invariant-loop-word
invariant-loop-word l = record {
  same : map (λ s. s.now) l.strs.items ≡ take l.word-index l.words;
  utf8 : All IsUtf8 (map (λ s. s.now) l.strs.items);
  no_zero : All HasNoZero (map (λ s. s.now) l.strs.items);
}
