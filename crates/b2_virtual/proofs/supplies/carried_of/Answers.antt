use Rattle.std.proofs.Common.{◌∙◌, ap, sym}
use Rattle.std.specs.List.{fold}
use Rattle.b2_virtual.specs.Repeats.{with_entry}
use Rattle.b2_virtual.proofs.RepeatsAreLeftOut.{gathered_next, gathered_all}
use Rattle.b2_virtual.proofs.supplies.carried_of.Goals as goal

pub loop-supply-preserved : goal.loop-supply-preserved
loop-supply-preserved c =
    record {
      paths = c.in_ok-add_all.ensures.paths;
      so_far = c.in_ok-add_all.ensures.entries ∙ ap (λ es. fold with_entry c.loop-supply.made.entries es) c.as_slice.ensures ∙ ap (λ es. fold with_entry es c.supply-item.result.carried) c.loop-supply.invariant.so_far ∙ sym (gathered_next (λ s. s.carried) c.args.supplies.now c.loop-supply.supply-index c.supply-item.result c.loop-supply-test.true c.supply-item.is);
    }

pub returns : goal.returns
returns c =
    c.loop-supply.invariant.so_far ∙ gathered_all (λ s. s.carried) c.args.supplies.now c.loop-supply.supply-index c.loop-supply-test.false
