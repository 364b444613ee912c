use Rattle.std.proofs.Common.{◌++◌, ap, sym, ◌∙◌, subst}
use Rattle.b2_base.specs.Bytes.{HasNoZero}
use Rattle.b2_files.specs.Names.{lead_in}
use Rattle.b2_files.proofs.NameIsRestWithoutSlash.{named, not_named, none_zero}
use Rattle.b2_files.proofs.names.name_in.Goals as goal

pub returns-then-has_no_slash-clause-name : goal.returns-then-has_no_slash-clause-name
returns-then-has_no_slash-clause-name c =
    (named c.args.path.now c.args.dir.now c.below-name.result.now c.as_str.ensures.normal c.as_str-2.ensures.normal (c.under.ensures.under.0 c.if-not-under.false)
    (λ r e. c.below-name.ensures r (c.as_str.ensures.value ∙ e ∙ ap (λ d. lead_in d ++ r) (sym c.as_str-2.ensures.value))) (sym c.has_no_slash.ensures ∙ c.if-has_no_slash.true)).0

pub returns-then-has_no_slash-clause-text : goal.returns-then-has_no_slash-clause-text
returns-then-has_no_slash-clause-text c =
    (named c.args.path.now c.args.dir.now c.below-name.result.now c.as_str.ensures.normal c.as_str-2.ensures.normal (c.under.ensures.under.0 c.if-not-under.false)
    (λ r e. c.below-name.ensures r (c.as_str.ensures.value ∙ e ∙ ap (λ d. lead_in d ++ r) (sym c.as_str-2.ensures.value))) (sym c.has_no_slash.ensures ∙ c.if-has_no_slash.true)).1

pub returns-then-has_no_slash-clause-no_zero : goal.returns-then-has_no_slash-clause-no_zero
returns-then-has_no_slash-clause-no_zero c =
    none_zero (lead_in c.args.dir.now) c.below-name.result.now (subst HasNoZero
    ((named c.args.path.now c.args.dir.now c.below-name.result.now c.as_str.ensures.normal c.as_str-2.ensures.normal (c.under.ensures.under.0 c.if-not-under.false)
    (λ r e. c.below-name.ensures r (c.as_str.ensures.value ∙ e ∙ ap (λ d. lead_in d ++ r) (sym c.as_str-2.ensures.value))) (sym c.has_no_slash.ensures ∙ c.if-has_no_slash.true)).1)
    c.as_str.ensures.no_zero)

pub returns-else-has_no_slash-clause-none : goal.returns-else-has_no_slash-clause-none
returns-else-has_no_slash-clause-none c =
    not_named c.args.path.now c.args.dir.now c.below-name.result.now c.as_str.ensures.normal c.as_str-2.ensures.normal
    (λ r e. c.below-name.ensures r (c.as_str.ensures.value ∙ e ∙ ap (λ d. lead_in d ++ r) (sym c.as_str-2.ensures.value))) (sym c.has_no_slash.ensures ∙ c.if-has_no_slash.false)
