use Rattle.std.proofs.Common.{◌≡◌, ◌∙◌, ℕ, List, Some, None, sym}
use Rattle.b2_facts.specs.Facts.{path_at}
use Rattle.b2_verdicts.specs.Sights.{stamp_of}
use Rattle.b2_looks.proofs.FilesAreNumbered.{if_ok_then}
use Rattle.b2_explain.specs.declared.cause.Cause.{Cause}
use Rattle.b2_explain.specs.declared.cause.Cause.TheVariants as causes
use Rattle.b2_explain.specs.SeenCauses.{IsLesserInput}
use Rattle.b2_explain.proofs.CausesAreTold.{lesser_same, lesser_member}
use Rattle.b2_explain.proofs.causes.both_inputs.Goals as goal

pub returns-in-Equal : goal.returns-in-Equal
returns-in-Equal c =
    let f = c.args.facts.now in
    let n = c.args.number in
    if_ok_then c.input_is.result (λ (cause : Cause). (p : List ℕ) → path_at f n ≡ Some p → cause ≡ causes.OtherInput p (Some c.args.logged) (stamp_of f n)) (IsLesserInput f n c.args.path.now c.args.logged)
    (λ cause told. lesser_same f n c.args.path.now c.path.result.now c.args.logged cause c.path.ensures (sym c.cmp.ensures ∙ c.in-Equal.is) told) c.input_is.ensures

pub returns-in-Greater : goal.returns-in-Greater
returns-in-Greater c =
    let f = c.args.facts.now in
    let n = c.args.number in
    if_ok_then c.input_is-in-Greater.result (λ (cause : Cause). (p : List ℕ) → path_at f n ≡ Some p → cause ≡ causes.OtherInput p None (stamp_of f n)) (IsLesserInput f n c.args.path.now c.args.logged)
    (λ cause told. lesser_member f n c.args.path.now c.path.result.now c.args.logged cause c.path.ensures (sym c.cmp.ensures ∙ c.in-Greater.is) told) c.input_is-in-Greater.ensures
