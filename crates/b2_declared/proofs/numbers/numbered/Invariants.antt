use Rattle.std.proofs.Common.{◌≡◌, ◌++◌, length}
use Rattle.std.specs.Vec.Iter.{into_iter_items}
use Rattle.b2_declared.specs.Gathering.{numbered, rules_in}
use Rattle.b2_declared.proofs.numbers.numbered.Given as goal

-- the requirements and the rules so far, with those that are left
abbrev pub invariant-loop-text : goal.invariant-loop-text
invariant-loop-text l = record {
  made : l.made ++ numbered (length l.indirect) (into_iter_items l.text-iterator) ≡ numbered (length l.fn.indirect) l.fn.texts;
  rules : l.indirect ++ rules_in l.call (into_iter_items l.text-iterator) ≡ l.fn.indirect ++ rules_in l.call l.fn.texts;
}
