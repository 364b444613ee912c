use Rattle.std.proofs.Common.{◌≡◌, ◌∙◌, ◌&&◌, IfErr, subst}
use Rattle.std.specs.List.{list_all}
use Rattle.std.proofs.lemmas.Bool.{and_parts}
use Rattle.b2_base.specs.Segments.{texts}
use Rattle.b2_features.specs.Faults.{feature_fault, IsBy}
use Rattle.b2_gcc.specs.Rows.{is_clean}
use Rattle.b2_gcc.proofs.CleanTextsHaveNoZero.{none_zero}
use Rattle.b2_gcc.proofs.features.declare_row.Goals as goal

pub owned_texts-requires : goal.owned_texts-requires
owned_texts-requires c =
    let row = c.args.row.now in
    let rest = and_parts (is_clean row.name.now) (list_all is_clean (texts row.values.now) && list_all is_clean (texts row.attributes.now)) c.requires in
    none_zero (texts row.values.now) (and_parts (list_all is_clean (texts row.values.now)) (list_all is_clean (texts row.attributes.now)) rest.1).0

pub owned_texts-requires-2 : goal.owned_texts-requires-2
owned_texts-requires-2 c =
    let row = c.args.row.now in
    let rest = and_parts (is_clean row.name.now) (list_all is_clean (texts row.values.now) && list_all is_clean (texts row.attributes.now)) c.requires in
    none_zero (texts row.attributes.now) (and_parts (list_all is_clean (texts row.values.now)) (list_all is_clean (texts row.attributes.now)) rest.1).1

pub returns-clause-cause : goal.returns-clause-cause
returns-clause-cause c =
    let row = c.args.row.now in
    let values : c.as_slice.result.now ≡ texts row.values.now = c.as_slice.ensures ∙ c.in_ok-values.ensures in
    let attributes : c.as_slice-2.result.now ≡ texts row.attributes.now = c.as_slice-2.ensures ∙ c.in_ok-attributes.ensures in
    subst (λ vs. IfErr c.feature.result (IsBy (feature_fault c.args.registry.now row.name.now vs (texts row.attributes.now)))) values
    (subst (λ ws. IfErr c.feature.result (IsBy (feature_fault c.args.registry.now row.name.now c.as_slice.result.now ws))) attributes c.feature.ensures.cause)
