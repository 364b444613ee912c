use Rattle.std.proofs.Common.{◌≡◌, ℕ, List, Some, None, Result, Err, sym, ap, subst, ◌∙◌}
use Rattle.std.proofs.lemmas.Result.{err_from_is_err_and}
use Rattle.b2_host.specs.declared.files.ReadAnswer.{ReadAnswer}
use Rattle.b2_host.specs.declared.files.ReadAnswer.TheVariants as answers
use Rattle.b2_host.specs.Disks.{Disk, ReadTold}
use Rattle.b2_plan.specs.declared.step.Step.{Step}
use Rattle.b2_facts.specs.declared.fault.ReadFault.{ReadFault}
use Rattle.b2_facts.specs.declared.fault.ReadFault.TheVariants as faults
use Rattle.b2_facts.specs.declared.scans.ScanAnswer.{ScanAnswer}
use Rattle.b2_facts.specs.ReadFaults.{of_io}
use Rattle.b2_facts.specs.Facts.{path_at}
use Rattle.b2_facts.specs.Growth.{OfOne}
use Rattle.b2_facts.specs.Truth.{StaysTrue}
use Rattle.b2_facts.specs.Asks.{ReadsForAnswer, IsTooBigFor}
use Rattle.b2_facts.proofs.ListsAtPlaces.{some_is}
use Rattle.b2_facts.proofs.FactsGrow.{learns_same, learns_equal, true_same, true_equal, told_map, told_all}
use Rattle.b2_facts.proofs.BytesAreKept.{reads_fail, not_too_big}
use Rattle.b2_facts.proofs.ReadsTell.{bytes_learns, bytes_true, bytes_answer, bytes_digested, none_included, gone_learns, gone_true, gone_read}
use Rattle.b2_facts.proofs.facts.Facts.read_includes.Goals as goal

pub returns-in_err-answer-clause-learns : goal.returns-in_err-answer-clause-learns
returns-in_err-answer-clause-learns g c = λ steps roots. learns_same steps roots (OfOne c.args.number) c.args.self.now

pub returns-in_err-answer-clause-told : goal.returns-in_err-answer-clause-told
returns-in_err-answer-clause-told g c = told_all (g.F.Files.outside c.args.files.now).disk (λ (d : Disk). (steps : List Step) (roots : List (List ℕ)) → StaysTrue steps roots d.now c.args.self.now c.args.self.now) (λ d steps roots. true_same steps roots d.now c.args.self.now)

pub returns-in_err-answer-clause-effect : goal.returns-in_err-answer-clause-effect
returns-in_err-answer-clause-effect g c = λ path there. (
    let (y, e, q) = err_from_is_err_and c.from_residual.result c.from_residual.ensures.1 in
    let before = g.F.Files.outside c.args.files.now in
    let after = g.F.Files.outside c.read.new.self in
    let same : c.path.result.now ≡ path = some_is c.path.result.now path (sym c.path.ensures ∙ there) in
    subst (λ (r : Result ScanAnswer ReadFault). ReadsForAnswer path before after r) (sym (e ∙ ap Err q))
    (subst (λ (p : List ℕ). ReadsForAnswer p before after (Err (of_io c.in_err-answer.field-0.0))) same (reads_fail ReadAnswer c.path.result.now before after c.in_err-answer.field-0.0 c.in_err-answer.ensures.effect)))

pub returns-in_err-answer-clause-too_big : goal.returns-in_err-answer-clause-too_big
returns-in_err-answer-clause-too_big g c =
    let (y, e, q) = err_from_is_err_and c.from_residual.result c.from_residual.ensures.1 in
    rw (e, q) (told_all (g.F.Files.outside c.args.files.now).disk (λ (d : Disk). (path : List ℕ) → path_at c.args.self.now c.args.number ≡ Some path → IsTooBigFor 16777216 path d.now (of_io c.in_err-answer.field-0.0)) (λ d path there. not_too_big 16777216 path d.now c.in_err-answer.field-0.0))

pub returns-in-TooBig-clause-too_big : goal.returns-in-TooBig-clause-too_big
returns-in-TooBig-clause-too_big g c =
    told_map (g.F.Files.outside c.args.files.now).disk (λ (d : Disk). ReadTold c.path.result.now 16777216 (answers.TooBig c.in-TooBig.size) d.now) (λ (d : Disk). (path : List ℕ) → path_at c.args.self.now c.args.number ≡ Some path → IsTooBigFor 16777216 path d.now (faults.TooBig c.in-TooBig.size))
    (λ d told path there. subst (λ (p : List ℕ). IsTooBigFor 16777216 p d.now (faults.TooBig c.in-TooBig.size)) (some_is c.path.result.now path (sym c.path.ensures ∙ there)) told) (rw c.in-TooBig.is at c.in_ok-answer.ensures.answer)

pub returns-in-TooBig-clause-learns : goal.returns-in-TooBig-clause-learns
returns-in-TooBig-clause-learns g c = λ steps roots. learns_same steps roots (OfOne c.args.number) c.args.self.now

pub returns-in-TooBig-clause-told : goal.returns-in-TooBig-clause-told
returns-in-TooBig-clause-told g c = told_all (g.F.Files.outside c.args.files.now).disk (λ (d : Disk). (steps : List Step) (roots : List (List ℕ)) → StaysTrue steps roots d.now c.args.self.now c.args.self.now) (λ d steps roots. true_same steps roots d.now c.args.self.now)

pub returns-in-Missing-clause-answer : goal.returns-in-Missing-clause-answer
returns-in-Missing-clause-answer g c = gone_read c.args.self.now c.set_includes.new.self c.args.number c.requires.number c.args.stamp c.requires.unread (none_included c.args.self.now c.set_includes.new.self c.args.number c.new.result c.new.ensures c.set_includes.ensures)
    (g.F.Files.outside c.args.files.now).disk c.path.result.now c.path.ensures (rw c.in-Missing.is at c.in_ok-answer.ensures.answer)

pub returns-in-Missing-clause-learns : goal.returns-in-Missing-clause-learns
returns-in-Missing-clause-learns g c = gone_learns c.args.self.now c.set_includes.new.self c.args.number c.requires.number c.args.stamp c.requires.unread (none_included c.args.self.now c.set_includes.new.self c.args.number c.new.result c.new.ensures c.set_includes.ensures)

pub returns-in-Missing-clause-told : goal.returns-in-Missing-clause-told
returns-in-Missing-clause-told g c =
    told_map (g.F.Files.outside c.args.files.now).disk (λ (d : Disk). d.now c.path.result.now ≡ None) (λ (d : Disk). (steps : List Step) (roots : List (List ℕ)) → StaysTrue steps roots d.now c.args.self.now c.set_includes.new.self)
    (λ d told steps roots. gone_true c.args.self.now c.set_includes.new.self c.args.number c.requires.number c.args.stamp c.requires.unread (none_included c.args.self.now c.set_includes.new.self c.args.number c.new.result c.new.ensures c.set_includes.ensures) c.path.result.now c.path.ensures d.now told steps roots) (rw c.in-Missing.is at c.in_ok-answer.ensures.answer)

pub returns-in_err-line-in-Bytes-clause-learns : goal.returns-in_err-line-in-Bytes-clause-learns
returns-in_err-line-in-Bytes-clause-learns g c = λ steps roots. learns_equal steps roots (OfOne c.args.number) c.args.self.now c.keep_bytes.new.self c.in_err-line-in-Bytes.ensures.err

pub returns-in_err-line-in-Bytes-clause-told : goal.returns-in_err-line-in-Bytes-clause-told
returns-in_err-line-in-Bytes-clause-told g c = told_all (g.F.Files.outside c.args.files.now).disk (λ (d : Disk). (steps : List Step) (roots : List (List ℕ)) → StaysTrue steps roots d.now c.args.self.now c.keep_bytes.new.self) (λ d steps roots. true_equal steps roots d.now c.args.self.now c.keep_bytes.new.self c.in_err-line-in-Bytes.ensures.err)

pub returns-in_ok-line-in-Bytes-clause-answer : goal.returns-in_ok-line-in-Bytes-clause-answer
returns-in_ok-line-in-Bytes-clause-answer g c = bytes_answer c.args.self.now c.keep_bytes.new.self c.args.number c.requires.number c.args.by_digest c.as_slice.result.now c.args.stamp c.requires.unread c.in_ok-line-in-Bytes.ensures.ok c.in_ok-line-in-Bytes.line c.in_ok-line-in-Bytes.ensures.line

pub returns-in_ok-line-in-Bytes-clause-digested : goal.returns-in_ok-line-in-Bytes-clause-digested
returns-in_ok-line-in-Bytes-clause-digested g c = bytes_digested c.args.self.now c.keep_bytes.new.self c.args.number c.requires.number c.args.by_digest c.as_slice.result.now c.args.stamp c.requires.unread c.in_ok-line-in-Bytes.ensures.ok

pub returns-in_ok-line-in-Bytes-clause-learns : goal.returns-in_ok-line-in-Bytes-clause-learns
returns-in_ok-line-in-Bytes-clause-learns g c = bytes_learns c.args.self.now c.keep_bytes.new.self c.args.number c.requires.number c.args.by_digest c.as_slice.result.now c.args.stamp c.requires.unread c.in_ok-line-in-Bytes.ensures.ok

pub returns-in_ok-line-in-Bytes-clause-told : goal.returns-in_ok-line-in-Bytes-clause-told
returns-in_ok-line-in-Bytes-clause-told g c =
    told_map (g.F.Files.outside c.args.files.now).disk (λ (d : Disk). ReadTold c.path.result.now 16777216 (answers.Bytes c.in-Bytes.bytes) d.now) (λ (d : Disk). (steps : List Step) (roots : List (List ℕ)) → StaysTrue steps roots d.now c.args.self.now c.keep_bytes.new.self)
    (λ d told steps roots. bytes_true c.args.self.now c.keep_bytes.new.self c.args.number c.requires.number c.args.by_digest c.as_slice.result.now c.args.stamp c.requires.unread c.in_ok-line-in-Bytes.ensures.ok c.path.result.now c.path.ensures d.now (told.0 ∙ ap Some (sym c.as_slice.ensures.value)) steps roots) (rw c.in-Bytes.is at c.in_ok-answer.ensures.answer)
