use Rattle.std.proofs.Common.{◌∙◌, List, ℕ, not, ap, ap₂}
use Rattle.std.specs.FinMap as map
use Rattle.b2_property_texts.proofs.EarlierPairsTellClashes.{not_there, first_put}
use Rattle.b2_alternatives.proofs.conflict.Values.keep.Goals as goal

pub returns-in_ok-_before : goal.returns-in_ok-_before
returns-in_ok-_before c =
    first_put c.args.self.now.first c.insert.new.self c.args.pair.now (not_there c.get.result (map.get c.args.self.now.first c.args.pair.now.0) c.get.ensures (c.is_none.ensures ∙ ap not c.if-is_none.true))
    (c.in_ok-_before.ensures.ok ∙ ap₂ (λ (text value : List ℕ). map.insert c.args.self.now.first text value) c.in_ok-copy.ensures c.in_ok-copy-2.ensures)
