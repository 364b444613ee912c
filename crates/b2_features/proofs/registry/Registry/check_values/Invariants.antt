use Rattle.std.proofs.Common.{is_some}
use Rattle.std.specs.FinMap as map
use Rattle.b2_features.proofs.NewValuesKeepAllApart.{AreApart}
use Rattle.b2_features.proofs.registry.Registry.check_values.Given as goal

-- no value so far is there twice
abbrev pub invariant-loop-value : goal.invariant-loop-value
invariant-loop-value l = AreApart l.self l.values l.value-index (λ q. is_some (map.get l.earlier q))
