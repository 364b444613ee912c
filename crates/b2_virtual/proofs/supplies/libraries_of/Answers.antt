use Rattle.std.proofs.Common.{◌∙◌, ◌++◌, ap, sym}
use Rattle.std.specs.List.{filter, fold}
use Rattle.b2_virtual.specs.Supplies.{is_library}
use Rattle.b2_virtual.specs.Repeats.{with_entry}
use Rattle.b2_virtual.proofs.RepeatsAreLeftOut.{gathered_next, gathered_all}
use Rattle.b2_virtual.proofs.supplies.libraries_of.Goals as goal

pub loop-supply-preserved : goal.loop-supply-preserved
loop-supply-preserved c =
    record {
      paths = c.in_ok-add_supply.ensures.paths;
      so_far = c.in_ok-add_supply.ensures.entries ∙ ap (λ es. fold with_entry es (filter is_library c.supply-item.result.entries ++ c.supply-item.result.carried)) c.loop-supply.invariant.so_far ∙ sym (gathered_next (λ s. filter is_library s.entries ++ s.carried) c.args.supplies.now c.loop-supply.supply-index c.supply-item.result c.loop-supply-test.true c.supply-item.is);
    }

pub returns : goal.returns
returns c =
    c.loop-supply.invariant.so_far ∙ gathered_all (λ s. filter is_library s.entries ++ s.carried) c.args.supplies.now c.loop-supply.supply-index c.loop-supply-test.false
