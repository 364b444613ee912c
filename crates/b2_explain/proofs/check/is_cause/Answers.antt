use Rattle.std.proofs.Common.{◌≡◌, ◌∙◌, ℕ, List, None, sym, ap, arith}
use Rattle.std.specs.Option.{option_copied}
use Rattle.std.proofs.lemmas.List.{get_or_default}
use Rattle.b2_log.specs.Finding.{find_record}
use Rattle.b2_explain.proofs.ClaimsAreChecked.{needed_within, is_open, open_told, parts, closed_told}
use Rattle.b2_explain.proofs.check.is_cause.Goals as goal

pub index-requires : goal.index-requires
index-requires c =
    let (plan, of) = c.requires in
    let low = needed_within plan c.args.all c.args.survey.now c.args.step.now c.args.number of in
    let size = c.args.survey.now.judged.ok in
    omega (arith, low, size)

pub is_open_cause-requires : goal.is_open_cause-requires
is_open_cause-requires c =
    let (plan, of) = c.requires in
    let y = c.args.survey.now in
    (plan, c.args.all, is_open plan c.args.all y c.args.step.now c.args.number of (get_or_default y.judged.items c.args.number None c.index.result.now (needed_within plan c.args.all y c.args.step.now c.args.number of) ∙ sym c.index.ensures ∙ c.in-None.is))

pub returns-in-None : goal.returns-in-None
returns-in-None c =
    let (plan, of) = c.requires in
    let y = c.args.survey.now in
    open_told plan c.args.all y c.args.step.now c.args.number of c.args.cause.now c.is_open_cause.result
    (get_or_default y.judged.items c.args.number None c.index.result.now (needed_within plan c.args.all y c.args.step.now c.args.number of) ∙ sym c.index.ensures ∙ c.in-None.is) c.is_open_cause.ensures

pub is_closed_cause-requires : goal.is_closed_cause-requires
is_closed_cause-requires c =
    let (plan, of) = c.requires in
    let y = c.args.survey.now in
    let step = c.args.step.now in
    let at = get_or_default y.judged.items c.args.number None c.index.result.now (needed_within plan c.args.all y step c.args.number of) ∙ sym c.index.ensures ∙ c.in-Some.is in
    let found : find_record step.outs y.sights.journal ≡ option_copied c.record.result = ap (λ (os : List (List ℕ)). find_record os y.sights.journal) (sym c.as_slice.ensures) ∙ sym c.record.ensures.exact in
    record { parts = parts plan c.args.all y step c.args.number of c.in-Some.judged at (option_copied c.record.result) found }

pub returns-in-Some : goal.returns-in-Some
returns-in-Some c =
    let (plan, of) = c.requires in
    let y = c.args.survey.now in
    let step = c.args.step.now in
    let at = get_or_default y.judged.items c.args.number None c.index.result.now (needed_within plan c.args.all y step c.args.number of) ∙ sym c.index.ensures ∙ c.in-Some.is in
    let found : find_record step.outs y.sights.journal ≡ option_copied c.record.result = ap (λ (os : List (List ℕ)). find_record os y.sights.journal) (sym c.as_slice.ensures) ∙ sym c.record.ensures.exact in
    closed_told plan c.args.all y step c.args.number of c.in-Some.judged at (option_copied c.record.result) found c.args.cause.now c.is_closed_cause.result c.is_closed_cause.ensures
