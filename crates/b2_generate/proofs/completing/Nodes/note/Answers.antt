use Rattle.std.proofs.Common.{arith, ◌≡◌, ap, ◌∙◌, length, subst}
use Rattle.std.specs.Prelude.{unwrap_or}
use Rattle.std.specs.FinMap as finite
use Rattle.b2_generate.specs.Turning.{IsNoted}
use Rattle.b2_generate.proofs.NewNodeIsDatedRightly.{latest_as}
use Rattle.b2_generate.proofs.completing.Nodes.note.Goals as goal

pub returns-clause-noted : goal.returns-clause-noted
returns-clause-noted c =
    let place_is : c.len-place.result ≡ length c.args.self.now.list.items = omega (arith, c.len-place.ensures, c.args.self.now.list.ok.0) in
    subst (λ place. IsNoted c.args.frame.now.name place c.args.self.now.firsts c.note_first.new.firsts) place_is (record { firsts = c.in_ok-first.ensures.firsts })

pub returns-clause-latest : goal.returns-clause-latest
returns-clause-latest c =
    let place_is : c.len-place.result ≡ length c.args.self.now.list.items = omega (arith, c.len-place.ensures, c.args.self.now.list.ok.0) in
    latest_as c.as_slice.result.now c.args.self.now.list.items c.as_slice-2.result.now c.args.frame.now.done c.in_ok-first.first _ c.latest_of.result c.as_slice.ensures.value c.as_slice-2.ensures
    (c.in_ok-first.ensures.first ∙ ap (unwrap_or (finite.get c.args.self.now.firsts c.args.frame.now.name)) place_is) c.latest_of.ensures
