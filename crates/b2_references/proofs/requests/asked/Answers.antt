use Rattle.std.proofs.Common.{ap, sym, subst}
use Rattle.std.specs.List.{AllByRecursion}
use Rattle.b2_features.specs.Table.{HasDistinctNames}
use Rattle.b2_references.specs.Requests.{HasSet}
use Rattle.b2_references.proofs.LoopsTakeOneMore.{if_ok}
use Rattle.b2_references.proofs.AskedSetsAreProper.{asked_sets}
use Rattle.b2_references.proofs.requests.asked.Goals as goal

pub returns-clause-sets : goal.returns-clause-sets
returns-clause-sets c =
    if_ok c.pieces.result c.pieces.ensures (λ made e.
    subst (AllByRecursion (HasSet c.args.index.now.registry)) (sym e) (asked_sets c.args.index.now (subst HasDistinctNames (ap (λ d. d.registry) c.declared.ensures) c.distinct.ensures) c.args.sets.now c.args.words.now))
