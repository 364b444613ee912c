use Rattle.std.proofs.Common.{◌∙◌, sym, ap}
use Rattle.std.proofs.lemmas.Result.{IfOk-weaker}
use Rattle.b2_alternatives.specs.Needs.{source_needs, property_needs, next_among}
use Rattle.b2_alternatives.proofs.FirstUnmetNeedComesNext.{joined_complete, joined_open, not_complete}
use Rattle.b2_alternatives.proofs.dependencies.Dependencies.next.Goals as goal

pub returns-in-Complete-clause-next : goal.returns-in-Complete-clause-next
returns-in-Complete-clause-next c = λ d t u stand.
    IfOk-weaker c.next-in-Complete.result _ _
    (λ n e. e ∙ ap (next_among u.done) stand.properties
    ∙ sym (joined_complete u.done (source_needs d t) (property_needs d u.set) (sym c.in-Complete.is ∙ c.in_ok-next.ensures.next u.done stand.done stand.sources_met ∙ ap (next_among u.done) stand.sources)))
    (c.next-in-Complete.ensures.next u.done stand.done stand.properties_met)

pub returns-in_default : goal.returns-in_default
returns-in_default c = record {
  next = λ d t u stand.
      joined_open u.done (source_needs d t) (property_needs d u.set) c.in_ok-next.next (c.in_ok-next.ensures.next u.done stand.done stand.sources_met ∙ ap (next_among u.done) stand.sources)
      (not_complete c.in_ok-next.next c.in_default.not-Complete);
  stand = λ d t u stand. record {
    set = stand.set;
    is_set = stand.is_set;
    usage = stand.usage;
    values = stand.values;
    done = stand.done;
    sources = c.in_ok-next.ensures.needs ∙ stand.sources;
    properties = stand.properties;
    sources_met = c.in_ok-next.ensures.met u.done stand.done stand.sources_met;
    properties_met = stand.properties_met;
  };
}
