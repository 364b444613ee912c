use Rattle.std.proofs.Common.{◌≡◌, ℕ, List, Some, None, refl}
use Rattle.std.proofs.lemmas.Option.{slice_get_past}
use Rattle.b2_facts.specs.Facts.{path_at}
use Rattle.b2_verdicts.specs.Sights.{stamp_of}
use Rattle.b2_looks.proofs.FilesAreNumbered.{if_ok_then}
use Rattle.b2_explain.specs.declared.cause.Cause.{Cause}
use Rattle.b2_explain.specs.declared.cause.Cause.TheVariants as causes
use Rattle.b2_explain.specs.SeenCauses.{IsInputCause, IsLesserInput}
use Rattle.b2_explain.proofs.CausesAreTold.{given_there, given_past, number_there, input_alone, member_alone, input_and_member}
use Rattle.b2_explain.proofs.causes.other_input.Goals as goal

pub returns-in-Some-None : goal.returns-in-Some-None
returns-in-Some-None c =
    let f = c.args.facts.now in
    let ins = c.args.ins.now in
    let r = c.args.last.now in
    let place = c.args.place in
    let one : List ℕ × ℕ = c.in-Some-None.field-0-0.now in
    let at = given_there r.ins c.as_slice.result.now place one c.as_slice.ensures c.in-Some-None.ensures.lookup.3.0 c.in-Some-None.ensures.lookup.1 in
    if_ok_then c.input_left.result (λ (cause : Cause). cause ≡ causes.OtherInput one.0 (Some one.1) None) (IsInputCause f ins r place)
    (λ cause told. input_alone f ins r place cause one.0 one.1 at (slice_get_past ins place c.in-Some-None.ensures'.lookup.3) told) c.input_left.ensures

pub returns-in-Some-Some : goal.returns-in-Some-Some
returns-in-Some-Some c =
    let f = c.args.facts.now in
    let ins = c.args.ins.now in
    let r = c.args.last.now in
    let place = c.args.place in
    let one : List ℕ × ℕ = c.in-Some-Some.field-0-0.now in
    let n : ℕ = c.in-Some-Some.number.now in
    let at = given_there r.ins c.as_slice.result.now place one c.as_slice.ensures c.in-Some-Some.ensures.lookup.3.0 c.in-Some-Some.ensures.lookup.1 in
    let at_member = given_there ins ins place n refl c.in-Some-Some.ensures'.lookup.3.0 c.in-Some-Some.ensures'.lookup.1 in
    if_ok_then c.both_inputs.result (IsLesserInput f n one.0 one.1) (IsInputCause f ins r place)
    (λ cause lesser. input_and_member f ins r place cause one.0 one.1 n (number_there f ins place n c.requires.ins at_member) at at_member lesser) c.both_inputs.ensures

pub returns-in-None-Some : goal.returns-in-None-Some
returns-in-None-Some c =
    let f = c.args.facts.now in
    let ins = c.args.ins.now in
    let r = c.args.last.now in
    let place = c.args.place in
    let n : ℕ = c.in-None-Some.number.now in
    let at_member = given_there ins ins place n refl c.in-None-Some.ensures'.lookup.3.0 c.in-None-Some.ensures'.lookup.1 in
    if_ok_then c.input_is.result (λ (cause : Cause). (path : List ℕ) → path_at f n ≡ Some path → cause ≡ causes.OtherInput path None (stamp_of f n)) (IsInputCause f ins r place)
    (λ cause told. member_alone f ins r place cause n (number_there f ins place n c.requires.ins at_member) (given_past r.ins c.as_slice.result.now place c.as_slice.ensures c.in-None-Some.ensures.lookup.3) at_member told) c.input_is.ensures
