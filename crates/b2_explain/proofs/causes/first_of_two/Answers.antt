use Rattle.std.proofs.Common.{◌≡◌, ◌∙◌, inl, inr, Some, sym, subst}
use Rattle.b2_facts.specs.Facts.{path_at}
use Rattle.b2_facts.proofs.ListsAtPlaces.{some_is}
use Rattle.b2_explain.proofs.CausesAreTold.{not_self, two_less, two_more}
use Rattle.b2_explain.proofs.causes.first_of_two.Goals as goal

pub returns-in-None-clause-not_after : goal.returns-in-None-clause-not_after
returns-in-None-clause-not_after c = not_self c.args.facts.now c.args.number

pub returns-in-Less-clause-not_after : goal.returns-in-Less-clause-not_after
returns-in-Less-clause-not_after c = not_self c.args.facts.now c.args.number

pub returns-in-Less-clause-not_after_best : goal.returns-in-Less-clause-not_after_best
returns-in-Less-clause-not_after_best c n one other e =
    two_less c.args.facts.now c.args.number c.in-Some.best c.path.result.now c.path-in-Some.result.now c.path.ensures c.path-in-Some.ensures (sym c.cmp.ensures ∙ c.in-Less.is) n one other (sym c.in-Some.is ∙ e)

pub returns-in-Equal : goal.returns-in-Equal
returns-in-Equal c = record {
  either = inr c.in-Some.is;
  not_after = two_more c.args.facts.now c.args.number c.in-Some.best c.path.result.now c.path-in-Some.result.now c.path.ensures c.path-in-Some.ensures (elim c.in-Equal.is [ inl e ↦ inl (sym c.cmp.ensures ∙ e) | inr e ↦ inr (sym c.cmp.ensures ∙ e) ]);
  not_after_best = λ n one other e a b less. not_self c.args.facts.now c.in-Some.best one other a (subst (λ k. path_at c.args.facts.now k ≡ Some other) (sym (some_is c.in-Some.best n (sym c.in-Some.is ∙ e))) b) less;
}
