use Rattle.std.proofs.Common.{OnOk, ◌≡◌, ◌++◌, reverse, ap, ap₂, sym, subst, append_assoc, ◌∙◌}
use Rattle.std.proofs.lemmas.List.{reverse-append}
use Rattle.jam_engine.specs.Spreading.{stacked, seconds_at}
use Rattle.jam_engine.specs.Spreads.{behind}
use Rattle.jam_engine.specs.Targets.{includes_of}
use Rattle.jam_engine.proofs.SecondsByPlaces.{within_by, seconds_found}
use Rattle.jam_engine.proofs.spread.push_next.Goals as goal

pub push_seconds-requires : goal.push_seconds-requires
push_seconds-requires c =
    within_by c.includes.result.now c.as_slice.result.now c.args.graph.now.includes c.args.target.now (c.includes.ensures ∙ c.requires.includes c.args.target.now) c.as_slice.ensures

pub returns : goal.returns
returns c =
    let g = c.args.graph.now in
    let t = c.args.target.now in
    let old = stacked c.args.stack.now.items in
    subst (λ l. OnOk c.push_seconds.result (stacked c.push_seconds.new.stack.items ≡ l))
    (ap₂ (λ a b. a ++ reverse b) c.in_ok-push_depends.ensures (ap₂ seconds_at c.as_slice.ensures (c.includes.ensures ∙ c.requires.includes t) ∙ seconds_found g g.includes t)
    ∙ append_assoc old (reverse (behind g t)) (reverse (includes_of g t)) ∙ ap (λ l. old ++ l) (sym (reverse-append (includes_of g t) (behind g t))))
    c.push_seconds.ensures
