use Rattle.std.proofs.Common.{◌++◌, map, sym, ap, ◌∙◌}
use Rattle.std.proofs.lemmas.List.{append-nil}
use Rattle.std.proofs.lemmas.Result.{on_ok_weaker}
use Rattle.b2_request_plan.proofs.PlanIsWhatWasGenerated.{wanted_there, wanted_past}
use Rattle.b2_request_plan.proofs.plan.push_wanted.Goals as goal

pub returns-in-None : goal.returns-in-None
returns-in-None c = sym (ap (λ xs. c.args.wanted.now ++ xs) (wanted_past c.args.nodes.now c.args.place c.in-None.ensures.lookup.3) ∙ append-nil c.args.wanted.now)

pub returns-in-Some : goal.returns-in-Some
returns-in-Some c =
    on_ok_weaker c.push_paths.result
    (λ e. e ∙ ap (λ xs. c.args.wanted.now ++ xs) (ap (λ es. map (λ k. k.path) es) c.as_slice.ensures ∙ wanted_there c.args.nodes.now c.args.place c.in-Some.node.now c.in-Some.ensures.lookup.3.0 c.in-Some.ensures.lookup.1))
    c.push_paths.ensures
