use Rattle.std.proofs.Common.{List, take, true, ℕ, ◌≡◌}
use Rattle.std.specs.List.{Contains}
use Rattle.jam_graph.specs.declared.graph.Act.{Act}
use Rattle.jam_engine.specs.Acts.{is_existing}
use Rattle.jam_engine.specs.Tables.{is_in}
use Rattle.jam_engine.proofs.looking.asked_in.Given as goal

-- each source of an act so far that asks for it is in the set
abbrev pub invariant-loop-act : goal.invariant-loop-act
invariant-loop-act l = (act : Act) (text : List ℕ) → Contains (take l.act-index l.act-items) act → is_existing l.graph act ≡ true → Contains act.sources text → is_in l.asked text ≡ true
