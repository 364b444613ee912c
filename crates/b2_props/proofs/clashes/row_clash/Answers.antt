use Rattle.std.proofs.Common.{◌≡◌, ◌∙◌, sym, subst, None, Some, refl, ℕ, Option}
use Rattle.std.proofs.lemmas.Option.{slice_get_within, get_or_from_slice_get}
use Rattle.b2_features.specs.Table.{seen}
use Rattle.b2_props.specs.Requests.{brought, feature_clash}
use Rattle.b2_props.specs.Meeting.{Meets}
use Rattle.b2_props.proofs.FirstFaultIsTheCause.{first_some, fine_next}
use Rattle.b2_props.proofs.clashes.row_clash.Goals as goal

nothing : (o : Option ℕ) → ((n : ℕ) → o ≡ Some n → ⊥) → o ≡ None
nothing None e = refl
nothing (Some n) e = absurd (e n refl)

pub returns-in-Some : goal.returns-in-Some
returns-in-Some c =
    let table = c.args.registry.now in
    let row = c.args.row.now in
    let f = seen c.at.result.now in
    let i = c.loop-place.place in
    let parts : Meets (brought table row) c.in_ok-parts.parts = subst (λ cs. Meets cs c.in_ok-parts.parts) (c.as_slice.ensures.value ∙ c.in_ok-brought.ensures) c.in_ok-parts.ensures in
    sym (first_some (feature_clash row (brought table row)) table i f c.in-Some.word (slice_get_within table i f c.at.ensures) (sym (get_or_from_slice_get table i f f c.at.ensures)) c.loop-place.invariant (sym (c.in-Some.ensures row (brought table row) c.in_ok-explicit.ensures parts)))

pub loop-place-preserved : goal.loop-place-preserved
loop-place-preserved c =
    let table = c.args.registry.now in
    let row = c.args.row.now in
    let f = seen c.at.result.now in
    let i = c.loop-place.place in
    let parts : Meets (brought table row) c.in_ok-parts.parts = subst (λ cs. Meets cs c.in_ok-parts.parts) (c.as_slice.ensures.value ∙ c.in_ok-brought.ensures) c.in_ok-parts.ensures in
    let none = nothing c.feature_clash.result c.in_default.not-Some in
    fine_next (feature_clash row (brought table row)) table i f (slice_get_within table i f c.at.ensures) (sym (get_or_from_slice_get table i f f c.at.ensures)) c.loop-place.invariant (sym (c.feature_clash.ensures row (brought table row) c.in_ok-explicit.ensures parts) ∙ none)
