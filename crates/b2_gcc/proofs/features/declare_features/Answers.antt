use Rattle.std.proofs.Common.{◌≡◌, ◌∙◌, ◌++◌, Option, OnOk, fold, sym, ap, ap₂, subst}
use Rattle.std.specs.Option.{option_or}
use Rattle.std.proofs.lemmas.Result.{err_from_is_err_and, IfErr-weaker}
use Rattle.b2_features.specs.declared.fault.FeatureFault.{FeatureFault}
use Rattle.b2_features.specs.Faults.{IsBy}
use Rattle.b2_features.proofs.OutcomesPassOnWhatHolds.{on_ok}
use Rattle.b2_gcc.specs.Tables.{features, composites}
use Rattle.b2_gcc.specs.TableDeclarations.{features_fault, composites_fault, with_composite, toolset_fault}
use Rattle.b2_gcc.proofs.FirstCauseIsTheFault.{earlier_fault, later_fault}
use Rattle.b2_gcc.proofs.features.declare_features.Goals as goal

pub returns-in_err-declare_rows-clause-cause : goal.returns-in_err-declare_rows-clause-cause
unfolding features
returns-in_err-declare_rows-clause-cause c =
    let table = c.args.registry.now in
    let p = err_from_is_err_and c.from_residual.result c.from_residual.ensures.1 in
    rw (p.1, p.2) (earlier_fault (features_fault table features) (composites_fault (table ++ features) composites) _ c.in_err-declare_rows.ensures.cause)

pub returns-clause-ok : goal.returns-clause-ok
unfolding features composites
returns-clause-ok c = subst (λ t. OnOk c.compose_rows.result (c.compose_rows.new.registry ≡ fold with_composite t composites)) c.in_ok-declare_rows.ensures.ok c.compose_rows.ensures.ok

pub returns-clause-sound : goal.returns-clause-sound
unfolding features composites
returns-clause-sound c =
    on_ok c.compose_rows.result c.compose_rows.ensures.sound
    (λ none. ap₂ (λ (a b : Option FeatureFault). option_or a b) c.in_ok-declare_rows.ensures.sound (ap (λ t. composites_fault t composites) (sym c.in_ok-declare_rows.ensures.ok) ∙ none))

pub returns-clause-cause : goal.returns-clause-cause
unfolding features composites
returns-clause-cause c =
    let table = c.args.registry.now in
    IfErr-weaker c.compose_rows.result (IsBy (composites_fault c.declare_rows.new.registry composites)) (IsBy (toolset_fault table))
    (λ f by.
    later_fault (features_fault table features) (composites_fault (table ++ features) composites) f c.in_ok-declare_rows.ensures.sound
    (subst (λ t. IsBy (composites_fault t composites) f) c.in_ok-declare_rows.ensures.ok by))
    c.compose_rows.ensures.cause
