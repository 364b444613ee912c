use Rattle.std.proofs.Common.{◌∙◌, take, sym, subst, arith}
use Rattle.std.proofs.lemmas.List.{length-take-le}
use Rattle.b2_props.proofs.DraftHoldsEachGainedPair.{next_take}
use Rattle.b2_references.specs.Indexing.{AreEntries}
use Rattle.b2_references.proofs.entries.entries_of.Goals as goal

pub loop-number-preserved : goal.loop-number-preserved
loop-number-preserved c =
    let targets = c.args.targets.now in
    let i = c.loop-number.number in
    record {
      entries =
          subst (λ ts. AreEntries ts c.add_target.new.entries.items) (sym (next_take targets i c.index-targets-number.result c.loop-number-test.true c.index-targets-number.is))
          (c.in_ok-add_target.ensures.added (take i targets) (sym (length-take-le i targets (omega (arith, c.loop-number-test.true)))) c.loop-number.invariant.entries);
      projects = c.add_target.ensures.projects ∙ c.loop-number.invariant.projects;
    }
