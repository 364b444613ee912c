-- A file and words come to one plan or refusal, after the same lines.
use Rattle.std.proofs.Common.{◌≡◌, List, Result, Ok, Err, sym, ◌∙◌}
use Rattle.b2_host.specs.Disks.{Disk}
use Rattle.jam_journal.specs.Tables.{Text}
use Rattle.jam_graph.specs.declared.graph.Graph.{Graph}
use Rattle.jam_graph.specs.Loads.{Refusal}
use Rattle.jam_engine.specs.Laws.{OnePlan}
use Rattle.jam_engine.specs.Plans.{requested, Target}
use Rattle.jam_prepare.specs.Meaning.{loaded, stands_on, PlansIn}
use Rattle.jam_prepare.specs.Laws.{OneMeaning}

one_in : OnePlan → (disk : Disk) (words : List Text) (ended : Result Graph Refusal) (a b : Result Target Refusal) → PlansIn disk words ended a → PlansIn disk words ended b → a ≡ b
one_in law disk words (Ok g) a b p q = law g (stands_on disk) (requested words) a b p q
one_in law disk words (Err why) a b p q = p ∙ sym q

pub one_meaning : OnePlan → OneMeaning
one_meaning law disk refused file words lines others a b p q =
    (p.lines_are ∙ sym q.lines_are, one_in law disk words (loaded disk refused file).result a b p.plans q.plans)
