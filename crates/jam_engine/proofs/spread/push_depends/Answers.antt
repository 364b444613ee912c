use Rattle.std.proofs.Common.{OnOk, ◌≡◌, ◌++◌, reverse, ap₂, sym, subst, ◌∙◌}
use Rattle.jam_engine.specs.Spreading.{stacked, seconds_at}
use Rattle.jam_engine.proofs.SecondsByPlaces.{within_by, nothing_behind, seconds_behind}
use Rattle.jam_engine.proofs.spread.push_depends.Goals as goal

pub push_seconds-requires : goal.push_seconds-requires
push_seconds-requires c =
    within_by c.depends.result.now c.as_slice.result.now c.args.graph.now.depends c.args.target.now (c.depends.ensures ∙ c.requires.depends c.args.target.now) c.as_slice.ensures

pub returns-then-is_acted : goal.returns-then-is_acted
returns-then-is_acted c =
    nothing_behind c.args.graph.now c.args.target.now (stacked c.args.stack.now.items) (sym (c.requires.acted c.args.target.now) ∙ sym c.is_acted.ensures ∙ c.if-is_acted.true)

pub returns : goal.returns
returns c =
    subst (λ l. OnOk c.push_seconds.result (stacked c.push_seconds.new.stack.items ≡ stacked c.args.stack.now.items ++ reverse l))
    (ap₂ seconds_at c.as_slice.ensures (c.depends.ensures ∙ c.requires.depends c.args.target.now)
    ∙ seconds_behind c.args.graph.now c.args.target.now (sym (c.requires.acted c.args.target.now) ∙ sym c.is_acted.ensures ∙ c.if-is_acted.false))
    c.push_seconds.ensures
