use Rattle.std.proofs.Common.{◌≡◌, ◌∙◌, ℕ, ◌<◌, List, length, get_or, Some, sym, ap, subst}
use Rattle.b2_facts.specs.Facts.{path_at}
use Rattle.b2_facts.proofs.ListsAtPlaces.{none_some}
use Rattle.b2_verdicts.specs.Sights.{stamp_of}
use Rattle.b2_explain.specs.declared.cause.Cause.TheVariants as causes
use Rattle.b2_explain.proofs.CausesAreTold.{given_there, output_told}
use Rattle.b2_explain.proofs.causes.other_output.Goals as goal

pub unreachable-requires : goal.unreachable-requires
unreachable-requires c =
    let f = c.args.facts.now in
    let (stamp, stands) = c.requires.stand c.args.place c.requires.within.0 in
    none_some stamp (c.in_default.ensures ∙ ap (λ (ns : List ℕ). stamp_of f (get_or ns c.args.place 0)) c.as_slice.ensures ∙ stands)

pub returns : goal.returns
returns c =
    let f = c.args.facts.now in
    let outs = c.args.numbers.now.outs in
    let r = c.args.last.now in
    let place = c.args.place in
    let path : List ℕ = c.path.result.now in
    let one : List ℕ × ℕ = c.index-as_slice-place.result in
    let low = subst (λ (l : List (List ℕ × ℕ)). place < length l) (sym c.as_slice-2.ensures) c.requires.within.1 in
    let at = given_there r.outs c.as_slice-2.result.now place one c.as_slice-2.ensures low c.index-as_slice-place.is in
    let path_is = subst (λ (ns : List ℕ). path_at f (get_or ns place 0) ≡ Some path) c.as_slice.ensures c.path.ensures in
    let stamp_is = subst (λ (ns : List ℕ). stamp_of f (get_or ns place 0) ≡ Some c.in-Some.now) c.as_slice.ensures (sym c.in-Some.ensures) in
    output_told c.args.numbers.now f r place path one c.in-Some.now (causes.OtherOutput c.in_ok-copy.field-0 one.1 c.in-Some.now) c.requires.within.0 at c.requires.named path_is stamp_is (ap (λ (p : List ℕ). causes.OtherOutput p one.1 c.in-Some.now) c.in_ok-copy.ensures)
