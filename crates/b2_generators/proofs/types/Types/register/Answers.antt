use Rattle.std.proofs.Common.{◌≡◌, ◌∙◌, false, sym, subst}
use Rattle.b2_generators.specs.Table.{Registered, is_generator_refused, HaveDistinctIds}
use Rattle.b2_generators.proofs.RegisteredIdsStayDistinct.{distinct_push}
use Rattle.b2_generators.proofs.types.Types.register.Goals as goal

pub invariant_of-self-2 : goal.invariant_of-self-2
invariant_of-self-2 c =
    let free = subst (λ (r : Registered). is_generator_refused r c.args.generator ≡ false) (sym c.self.view_is) (sym c.is_refused.ensures ∙ c.if-is_refused.false) in
    record {
      names = c.self.invariant.names;
      ids = subst HaveDistinctIds (sym c.in_ok-put.ensures.ok) (distinct_push (record { types = c.self.inside.types; generators = c.self.inside.generators }) c.args.generator free c.self.invariant.ids);
    }
