use Rattle.std.proofs.Common.{MatchOption, subst, ◌∙◌}
use Rattle.b2_facts.specs.Lists.{HasNoNumber, IsNumberOf}
use Rattle.b2_facts.proofs.ListsAreNumbered.{list_found}
use Rattle.b2_facts.proofs.list_table.ListTable.find.Goals as goal

pub returns : goal.returns
returns c = subst (λ ls. MatchOption c.copied.result (HasNoNumber ls c.args.dirs.now) (IsNumberOf ls c.args.dirs.now)) c.self.view_is
    (list_found c.self.inside.lists.items c.self.inside.numbers c.args.dirs.now c.copied.result (c.copied.ensures ∙ c.get.ensures.value) c.self.invariant)
