use Rattle.std.proofs.Common.{subst}
use Rattle.jam_journal.specs.Scopes.{Value}
use Rattle.jam_engine.specs.Linking.{HaveOneMore}
use Rattle.jam_engine.proofs.MakersGrow.{makers_step}
use Rattle.jam_engine.proofs.NumbersGrow.{no_numbers}
use Rattle.jam_engine.proofs.links.makers_of.Goals as goal

pub loop-place-init : goal.loop-place-init
loop-place-init c t = no_numbers _ t c.new-makers.ensures

pub loop-place-preserved : goal.loop-place-preserved
loop-place-preserved c =
    let i = c.loop-place.place in
    makers_step c.args.acts.now i c.index-acts-place.result c.loop-place.makers c.add_maker.new.makers c.loop-place-test.true c.index-acts-place.is c.loop-place.invariant
    (subst (λ (l : Value). HaveOneMore l i c.loop-place.makers c.add_maker.new.makers) c.as_slice.ensures c.in_ok-add_maker.ensures)
