use Rattle.std.proofs.Common.{◌∙◌, ◌∷◌, List, ℕ, length, drop, sym, ap, arith}
use Rattle.jam_engine.proofs.ActsAtPlaces.{head_is}
use Rattle.jam_engine.proofs.StepsJoin.{joins_new, joins_old}
use Rattle.jam_engine.proofs.steps.join.Goals as goal

pub returns-in-Ok-clause-joins : goal.returns-in-Ok-clause-joins
returns-in-Ok-clause-joins c =
    let count = ap length c.steps-count.ensures.steps in
    let above = c.if-number-count.true in
    joins_new c.args.builder.now c.add.new.self c.args.step c.in-Ok.number c.in-Ok.ensures.number (omega (arith, count, above)) c.in-Ok.ensures.joined c.in-Ok.ensures.fits

pub returns-in-Ok-2-clause-joins : goal.returns-in-Ok-2-clause-joins
returns-in-Ok-2-clause-joins c =
    let count = ap length c.steps-count.ensures.steps in
    let below = c.if-number-count.false in
    let outs = c.as_slice.result.now in
    joins_old c.args.builder.now c.add.new.self c.args.step c.in-Ok.number c.in_ok-first-in-len1-up.first (drop 1 outs) c.in-Ok.ensures.number (omega (arith, count, below))
    (sym c.as_slice.ensures ∙ head_is outs c.first-item.result c.in-len1-up.len_at_least c.first-item.is ∙ ap (λ (out : List ℕ). out ∷ drop 1 outs) (sym c.in_ok-first-in-len1-up.ensures))
