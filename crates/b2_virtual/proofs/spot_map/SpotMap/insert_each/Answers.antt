use Rattle.std.proofs.Common.{List, ℕ, Some, cond, ap, ◌∙◌}
use Rattle.std.specs.FinMap as map
use Rattle.std.specs.Str.{bytes_eq}
use Rattle.b2_virtual.specs.Spots.{Numbers}
use Rattle.b2_virtual.proofs.OtherSpotsKeepTheirNumbers.{one_more, others_stay}
use Rattle.b2_virtual.proofs.spot_map.SpotMap.insert_each.Goals as goal

pub loop-text-preserved : goal.loop-text-preserved
loop-text-preserved c =
    one_more (Some c.args.number) c.args.self.now c.loop-text.self c.insert.new.self c.args.texts.now c.loop-text.text-index c.text-item.result c.loop-text-test.true
    (λ q. c.in_ok-insert.ensures.ok q ∙ ap (λ (t : List ℕ). cond (bytes_eq q t) (Some c.args.number) (map.get c.loop-text.self q)) (c.in_ok-copy.ensures ∙ c.text-item.is))
    c.loop-text.invariant

pub returns-in_err-copy-clause-others : goal.returns-in_err-copy-clause-others
returns-in_err-copy-clause-others c = others_stay (Some c.args.number) c.args.self.now c.loop-text.self c.args.texts.now c.loop-text.text-index c.loop-text.invariant

pub returns-in_err-insert-clause-others : goal.returns-in_err-insert-clause-others
returns-in_err-insert-clause-others c = λ q h.
    ap (λ (m : Numbers). map.get m q) c.in_err-insert.ensures.err
    ∙ others_stay (Some c.args.number) c.args.self.now c.loop-text.self c.args.texts.now c.loop-text.text-index c.loop-text.invariant q h
