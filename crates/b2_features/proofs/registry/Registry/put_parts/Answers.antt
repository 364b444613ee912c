use Rattle.std.proofs.Common.{◌≡◌, ◌∙◌, sym, ap, subst, string_bytes}
use Rattle.std.specs.Str.{bytes_eq}
use Rattle.b2_features.specs.Table.{seen, composed}
use Rattle.b2_features.specs.Index.{IsIndexed}
use Rattle.b2_features.proofs.ListSearchesAgree.{values-set_value}
use Rattle.b2_features.proofs.OutcomesPassOnWhatHolds.{on_ok, on_err, on_both}
use Rattle.b2_features.proofs.MapEntriesShowTheTable.{shown, bare, shown_composed, composed_none, stays_indexed}
use Rattle.b2_features.proofs.registry.Registry.put_parts.Goals as goal

pub invariant_of-self : goal.invariant_of-self
invariant_of-self c =
    let written = c.get_mut.follows.holds c.add_parts.new.self in
    let same : bare (seen c.add_parts.new.self) ≡ bare (seen c.in-Some.feature.now) = on_both c.add_parts.result c.add_parts.ensures.ok c.add_parts.ensures.err (λ more. ap bare more) (λ same. ap bare same) in
    subst (λ es. IsIndexed es c.self.inside.implicit) (sym written.0)
    (stays_indexed (λ k. bytes_eq c.args.name.now (string_bytes k)) c.self.inside.features.entries c.self.inside.implicit c.in-Some.feature.now c.add_parts.new.self (sym c.in-Some.ensures.value) same c.self.invariant)

pub returns-in-Some-clause-ok : goal.returns-in-Some-clause-ok
returns-in-Some-clause-ok c =
    let written = c.get_mut.follows.holds c.add_parts.new.self in
    on_ok c.add_parts.result c.add_parts.ensures.ok
    (λ more.
    ap shown written.0
    ∙ shown_composed c.args.name.now c.args.value c.args.parts.items c.self.inside.features.entries c.in-Some.feature.now c.add_parts.new.self c.self.invariant.keys (sym c.in-Some.ensures.value) more
    ∙ ap (λ table. composed table c.args.name.now c.args.value c.args.parts.items) c.self.view_is)

pub returns-in-Some-clause-err : goal.returns-in-Some-clause-err
returns-in-Some-clause-err c =
    let written = c.get_mut.follows.holds c.add_parts.new.self in
    on_err c.add_parts.result c.add_parts.ensures.err
    (λ same.
    ap shown written.0
    ∙ values-set_value seen (λ k. bytes_eq c.args.name.now (string_bytes k)) c.self.inside.features.entries c.in-Some.feature.now c.add_parts.new.self (sym c.in-Some.ensures.value) same
    ∙ c.self.view_is)

pub returns-clause-ok : goal.returns-clause-ok
returns-clause-ok c =
    ap (λ m. shown m.entries) c.get_mut.follows.holds-at-none
    ∙ composed_none c.args.name.now c.args.value c.args.parts.items c.self.inside.features.entries c.self.invariant.keys (sym c.in_default.ensures.value)
    ∙ ap (λ table. composed table c.args.name.now c.args.value c.args.parts.items) c.self.view_is
