use Rattle.std.proofs.Common.{◌≡◌, ◌++◌, take}
use Rattle.b2_base.proofs.text_list.push_copies.Given as goal

-- the copies so far
abbrev pub invariant-loop-text : goal.invariant-loop-text
invariant-loop-text l = l.made ≡ l.fn.made ++ take l.text-index l.texts
