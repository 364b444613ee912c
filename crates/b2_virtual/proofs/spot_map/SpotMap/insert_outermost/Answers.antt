use Rattle.std.proofs.Common.{List, ℕ, Some, cond, inl, inr, refl, ap, sym, ◌∙◌}
use Rattle.std.specs.FinMap as map
use Rattle.std.specs.Str.{bytes_eq}
use Rattle.std.proofs.lemmas.Bool.{true≢false}
use Rattle.b2_virtual.proofs.spot_map.SpotMap.insert_outermost.Goals as goal

pub returns-then-comes_before : goal.returns-then-comes_before
returns-then-comes_before c = inl (c.comes_before.ensures.0 c.if-comes_before.true, refl)

pub returns : goal.returns
returns c = inr (
  λ b. true≢false (sym (c.comes_before.ensures.1 b) ∙ c.if-comes_before.false),
  λ q. c.in_ok-insert.ensures.ok q ∙ ap (λ (t : List ℕ). cond (bytes_eq q t) (Some c.args.number) (map.get c.args.self.now q)) c.in_ok-copy.ensures,
)
