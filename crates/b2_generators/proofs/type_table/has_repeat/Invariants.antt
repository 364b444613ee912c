use Rattle.std.proofs.Common.{◌≡◌, ℕ, List, take, false, is_some}
use Rattle.std.specs.FinMap as map
use Rattle.b2_generators.specs.Table.{has_text, has_repeat}
use Rattle.b2_generators.proofs.type_table.has_repeat.Given as goal

-- no text so far stood twice, and these are known
abbrev pub invariant-loop-text : goal.invariant-loop-text
invariant-loop-text l = record {
  once : has_repeat (take l.text-index l.texts) ≡ false;
  known : (text : List ℕ) → is_some (map.get l.seen text) ≡ has_text (take l.text-index l.texts) text;
}
