use Rattle.std.proofs.Common.{rules, None, sym, ◌∙◌}
use Rattle.std.proofs.lemmas.List.{get_or_default}
use Rattle.b2_turns.proofs.starts.forget_outs.Goals as goal

pub forget_all-requires-clause-numbered : goal.forget_all-requires-clause-numbered
forget_all-requires-clause-numbered c = λ n among. c.requires.numbered c.in-Some.numbers n
    (get_or_default c.args.looks.now.ready.items c.args.number None c.index.result.now c.requires.within ∙ sym c.index.ensures ∙ c.in-Some.is) (search rules)
