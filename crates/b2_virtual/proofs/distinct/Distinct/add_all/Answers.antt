use Rattle.std.proofs.Common.{◌∙◌, ap, sym}
use Rattle.b2_virtual.specs.Repeats.{with_entry}
use Rattle.b2_virtual.proofs.RepeatsAreLeftOut.{fold_next}
use Rattle.b2_virtual.proofs.distinct.Distinct.add_all.Goals as goal

pub loop-entry-preserved : goal.loop-entry-preserved
loop-entry-preserved c =
    record {
      paths = c.in_ok-add.ensures.paths;
      so_far = c.in_ok-add.ensures.entries ∙ ap (λ es. with_entry es c.entry-item.result) c.loop-entry.invariant.so_far ∙ sym (fold_next c.args.self.now.entries c.args.entries.now c.loop-entry.entry-index c.entry-item.result c.loop-entry-test.true c.entry-item.is);
    }
