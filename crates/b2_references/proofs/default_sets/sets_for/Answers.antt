use Rattle.std.proofs.Common.{ap, sym, subst}
use Rattle.std.specs.List.{AllByRecursion}
use Rattle.b2_features.specs.Table.{HasDistinctNames}
use Rattle.b2_props.specs.Sets.{IsSet}
use Rattle.b2_references.proofs.LoopsTakeOneMore.{if_ok}
use Rattle.b2_references.proofs.AskedSetsAreProper.{sets_are}
use Rattle.b2_references.proofs.default_sets.sets_for.Goals as goal

pub returns-clause-sets : goal.returns-clause-sets
returns-clause-sets c =
    if_ok c.joined_sets.result c.joined_sets.ensures (λ made e.
    subst (AllByRecursion (IsSet c.args.index.now.registry)) (sym e) (sets_are c.args.index.now (subst HasDistinctNames (ap (λ d. d.registry) c.declared.ensures) c.distinct.ensures) c.args.set.now c.args.name.now))
