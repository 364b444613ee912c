use Rattle.std.proofs.Common.{◌∙◌, ◌++◌, List, refl, ap, ap₂, subst}
use Rattle.b2_props.specs.Sets.{Pair, IsSet}
use Rattle.b2_props.specs.Refinement.{refined}
use Rattle.b2_declared.specs.declared.whole.Declared.{Declared}
use Rattle.b2_references.specs.Names.{features}
use Rattle.b2_alternatives.specs.Needs.{property_needs}
use Rattle.b2_alternatives.proofs.dependencies.Dependencies.take.Goals as goal

pub returns : goal.returns
returns c = record {
  set = c.in_ok-set.ensures.value ∙ ap₂ (λ (d : Declared) (ps : List Pair). refined (features d) c.args.self.now.set ps) c.declared.ensures c.as_slice.ensures;
  is_set = subst (λ (d : Declared). IsSet (features d) c.in_ok-set.set) c.declared.ensures c.in_ok-set.ensures.set;
  usage = c.in_ok-append.ensures.ok ∙ ap (λ (ps : List Pair). c.args.self.now.usage ++ ps) c.in_ok-copy.ensures;
  values = refl;
  done = refl;
  sources = refl;
  properties = c.new.ensures.needs ∙ c.in_ok-property_needs.ensures ∙ ap (property_needs c.args.index.now) c.pairs.ensures;
  first = c.new.ensures.first;
}
