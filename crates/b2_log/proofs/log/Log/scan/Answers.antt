use Rattle.std.proofs.Common.{sym, ap, ◌∙◌, arith}
use Rattle.std.specs.Prelude.{option_and_then}
use Rattle.b2_log.specs.declared.subject.Subject.TheVariants as subjects
use Rattle.b2_log.specs.Finding.{find_scan, scan_in}
use Rattle.b2_log.proofs.PlacesFindTheLastLines.{untold, found_at, scan_told}
use Rattle.b2_log.proofs.log.Log.scan.Goals as goal

pub returns-in_err-place : goal.returns-in_err-place
returns-in_err-place c =
    rw c.from_residual.ensures (sym (sym (ap (λ v. find_scan c.args.path.now c.args.stamp v.lines) c.self.view_is) ∙ ap (option_and_then (scan_in c.args.stamp)) (untold _ _ _ c.self.invariant.index (sym c.in_err-place.ensures))))

pub index-requires : goal.index-requires
index-requires c =
    let f = found_at (subjects.Scanned c.args.path.now) _ _ _ c.self.invariant.index (sym c.in_ok-place.ensures) in
    omega (arith, f.2.within, c.self.inside.lines.ok.0)

pub returns : goal.returns
returns c =
    c.scan_in.ensures ∙ sym (sym (ap (λ v. find_scan c.args.path.now c.args.stamp v.lines) c.self.view_is) ∙ scan_told _ _ _ _ _ _ c.self.invariant.index (sym c.in_ok-place.ensures) c.index.ensures)
