use Rattle.std.proofs.Common.{sym, ap, ◌∙◌, arith}
use Rattle.std.specs.Prelude.{option_and_then}
use Rattle.b2_log.specs.declared.subject.Subject.TheVariants as subjects
use Rattle.b2_log.specs.Finding.{find_record, record_in}
use Rattle.b2_log.proofs.PlacesFindTheLastLines.{untold, found_at, record_told, proper_at}
use Rattle.b2_log.proofs.log.Log.find.Goals as goal

pub returns-in_err-place-clause-exact : goal.returns-in_err-place-clause-exact
returns-in_err-place-clause-exact c =
    rw c.from_residual.ensures (sym (sym (ap (λ v. find_record c.args.outs.now v.lines) c.self.view_is) ∙ ap (option_and_then record_in) (untold _ _ _ c.self.invariant.index (sym c.in_err-place.ensures))))

pub index-requires : goal.index-requires
index-requires c =
    let f = found_at (subjects.Outputs c.args.outs.now) _ _ _ c.self.invariant.index (sym c.in_ok-place.ensures) in
    omega (arith, f.2.within, c.self.inside.lines.ok.0)

pub returns-clause-exact : goal.returns-clause-exact
returns-clause-exact c =
    c.record_in.ensures.exact ∙ sym (sym (ap (λ v. find_record c.args.outs.now v.lines) c.self.view_is) ∙ record_told _ _ _ _ _ c.self.invariant.index (sym c.in_ok-place.ensures) c.index.ensures)

pub returns-clause-proper : goal.returns-clause-proper
returns-clause-proper c =
    let f = found_at (subjects.Outputs c.args.outs.now) _ _ _ c.self.invariant.index (sym c.in_ok-place.ensures) in
    c.record_in.ensures.proper (proper_at _ _ _ c.self.invariant.index.proper f.2.within c.index.ensures)
