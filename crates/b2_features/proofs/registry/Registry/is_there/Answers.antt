use Rattle.std.proofs.Common.{◌∙◌, ◌||◌, ap, is_some}
use Rattle.std.specs.Str.{bytes_eq}
use Rattle.std.specs.FinMap as map
use Rattle.b2_features.proofs.NewValuesKeepAllApart.{known_put}
use Rattle.b2_features.proofs.registry.Registry.is_there.Goals as goal

pub returns-then-is_implicit-clause-known : goal.returns-then-is_implicit-clause-known
returns-then-is_implicit-clause-known c = λ q.
    ap (λ m. is_some (map.get m q)) c.in_ok-before.ensures.ok ∙ known_put c.args.earlier.now c.in_ok-copy.field-0 _ q ∙ ap (λ t. is_some (map.get c.args.earlier.now q) || bytes_eq q t) c.in_ok-copy.ensures

pub returns-else-is_implicit-clause-known : goal.returns-else-is_implicit-clause-known
returns-else-is_implicit-clause-known c = λ q.
    ap (λ m. is_some (map.get m q)) c.in_ok-before.ensures.ok ∙ known_put c.args.earlier.now c.in_ok-copy.field-0 _ q ∙ ap (λ t. is_some (map.get c.args.earlier.now q) || bytes_eq q t) c.in_ok-copy.ensures
