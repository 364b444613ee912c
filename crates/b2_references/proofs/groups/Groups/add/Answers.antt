use Rattle.std.proofs.Common.{◌∙◌, ap, sym, refl}
use Rattle.std.specs.Prelude.{slice_set}
use Rattle.b2_features.proofs.OutcomesPassOnWhatHolds.{on_ok}
use Rattle.b2_references.proofs.GroupsGrowByOnePair.{groups_begin, groups_join}
use Rattle.b2_references.proofs.LoopsTakeOneMore.{on_ok_both}
use Rattle.b2_references.proofs.groups.Groups.add.Goals as goal

pub returns-in-None : goal.returns-in-None
returns-in-None c = λ before are.
    on_ok_both c.begin.result c.begin.ensures.lists c.begin.ensures.places (λ lists places. groups_begin before c.args.pair.now c.args.self.now c.begin.new.self are (sym (c.in-None.ensures ∙ c.get.ensures)) lists places)

pub returns-in-Some : goal.returns-in-Some
returns-in-Some c = λ before are.
    on_ok c.push_copy.result c.push_copy.ensures (λ grown.
    groups_join before c.args.pair.now c.args.self.now _ are c.in-Some.place c.index_mut.result.now (sym (c.in-Some.ensures ∙ c.get.ensures)) c.index_mut.ensures.value (ap (slice_set c.args.self.now.lists.items c.in-Some.place) grown) refl)
