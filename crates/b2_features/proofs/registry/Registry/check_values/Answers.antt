use Rattle.std.proofs.Common.{◌∙◌, sym, ap, is_some}
use Rattle.std.specs.Ordering.{nat_cmp}
use Rattle.std.specs.Cmp.Lexicographic.{slice_cmp}
use Rattle.std.specs.FinMap as map
use Rattle.std.specs.FinMap.{get-empty}
use Rattle.b2_features.proofs.NewValuesKeepAllApart.{apart_none, apart_next}
use Rattle.b2_features.proofs.registry.Registry.check_values.Goals as goal

pub loop-value-init : goal.loop-value-init
loop-value-init c = apart_none c.args.self.now c.args.values.now _ (λ q. ap (λ m. is_some (map.get m q)) c.new-earlier.ensures ∙ ap is_some (get-empty (slice_cmp nat_cmp) q))

pub loop-value-preserved : goal.loop-value-preserved
loop-value-preserved c =
    apart_next c.args.self.now c.args.values.now c.loop-value.value-index c.value-item.result (λ q. is_some (map.get c.loop-value.earlier q)) (λ q. is_some (map.get c.is_there.new.earlier q)) c.loop-value-test.true c.value-item.is c.loop-value.invariant
    (sym c.if-branch.false ∙ c.in_ok-is_there.ensures.there) c.in_ok-is_there.ensures.known
