use Rattle.std.proofs.Common.{◌∙◌, ◌∷◌, [], ap, sym}
use Rattle.std.specs.List.{filter, fold}
use Rattle.b2_virtual.specs.Supplies.{is_library}
use Rattle.b2_virtual.specs.Repeats.{with_entry}
use Rattle.b2_virtual.proofs.RepeatsAreLeftOut.{library_next}
use Rattle.b2_virtual.proofs.distinct.Distinct.add_libraries.Goals as goal

pub loop-entry-preserved : goal.loop-entry-preserved
loop-entry-preserved c =
    record {
      paths = c.in_ok-add_library.ensures.paths;
      so_far = c.in_ok-add_library.ensures.entries ∙ ap (λ es. fold with_entry es (filter is_library (c.entry-item.result ∷ []))) c.loop-entry.invariant.so_far ∙ sym (library_next c.args.self.now.entries c.args.entries.now c.loop-entry.entry-index c.entry-item.result c.loop-entry-test.true c.entry-item.is);
    }
