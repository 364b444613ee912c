use Rattle.std.proofs.Common.{◌≡◌, ℕ, List, Some, None, Result, Err, sym, ap, subst, ◌∙◌}
use Rattle.std.proofs.lemmas.Result.{err_from_is_err_and}
use Rattle.b2_host.specs.declared.files.ReadAnswer.{ReadAnswer}
use Rattle.b2_host.specs.declared.files.ReadAnswer.TheVariants as answers
use Rattle.b2_host.specs.Disks.{Disk, ReadTold}
use Rattle.b2_plan.specs.declared.step.Step.{Step}
use Rattle.b2_facts.specs.declared.file_facts.FileFacts.{FileFacts}
use Rattle.b2_facts.specs.declared.fault.ReadFault.{ReadFault}
use Rattle.b2_facts.specs.declared.fault.ReadFault.TheVariants as faults
use Rattle.b2_facts.specs.ReadFaults.{of_io}
use Rattle.b2_facts.specs.Facts.{IsFile, path_at}
use Rattle.b2_facts.specs.Growth.{OfOne}
use Rattle.b2_facts.specs.Truth.{StaysTrue}
use Rattle.b2_facts.specs.Asks.{ReadsAtMost, IsTooBigFor}
use Rattle.b2_facts.proofs.ListsAtPlaces.{some_is}
use Rattle.b2_facts.proofs.FactsGrow.{learns_same, true_same, told_map, told_all}
use Rattle.b2_facts.proofs.BytesAreKept.{reads_fail_most, not_too_big}
use Rattle.b2_facts.proofs.ReadsTell.{digest_learns, digest_true, digest_known}
use Rattle.b2_facts.proofs.IncludesAreNotLearned.{includes_same, includes_digest}
use Rattle.b2_facts.proofs.facts.Facts.read_digest.Goals as goal

pub returns-in_err-answer-clause-learns : goal.returns-in_err-answer-clause-learns
returns-in_err-answer-clause-learns g c = λ steps roots. learns_same steps roots (OfOne c.args.number) c.args.self.now

pub returns-in_err-answer-clause-told : goal.returns-in_err-answer-clause-told
returns-in_err-answer-clause-told g c = told_all (g.F.Files.outside c.args.files.now).disk (λ (d : Disk). (steps : List Step) (roots : List (List ℕ)) → StaysTrue steps roots d.now c.args.self.now c.args.self.now) (λ d steps roots. true_same steps roots d.now c.args.self.now)

pub returns-in_err-answer-clause-effect : goal.returns-in_err-answer-clause-effect
returns-in_err-answer-clause-effect g c = λ path there. (
    let (y, e, q) = err_from_is_err_and c.from_residual.result c.from_residual.ensures.1 in
    let before = g.F.Files.outside c.args.files.now in
    let after = g.F.Files.outside c.read.new.self in
    let same : c.path.result.now ≡ path = some_is c.path.result.now path (sym c.path.ensures ∙ there) in
    subst (λ (r : Result (Unit {0}) ReadFault). ReadsAtMost path before after r) (sym (e ∙ ap Err q))
    (subst (λ (p : List ℕ). ReadsAtMost {T = Unit {0}} p before after (Err (of_io c.in_err-answer.field-0.0))) same (reads_fail_most ReadAnswer (Unit {0}) c.path.result.now before after c.in_err-answer.field-0.0 c.in_err-answer.ensures.effect)))

pub returns-in_err-answer-clause-too_big : goal.returns-in_err-answer-clause-too_big
returns-in_err-answer-clause-too_big g c =
    let (y, e, q) = err_from_is_err_and c.from_residual.result c.from_residual.ensures.1 in
    rw (e, q) (told_all (g.F.Files.outside c.args.files.now).disk (λ (d : Disk). (path : List ℕ) → path_at c.args.self.now c.args.number ≡ Some path → IsTooBigFor 268435456 path d.now (of_io c.in_err-answer.field-0.0)) (λ d path there. not_too_big 268435456 path d.now c.in_err-answer.field-0.0))

pub returns-in-TooBig-clause-too_big : goal.returns-in-TooBig-clause-too_big
returns-in-TooBig-clause-too_big g c =
    told_map (g.F.Files.outside c.args.files.now).disk (λ (d : Disk). ReadTold c.path.result.now 268435456 (answers.TooBig c.in-TooBig.size) d.now) (λ (d : Disk). (path : List ℕ) → path_at c.args.self.now c.args.number ≡ Some path → IsTooBigFor 268435456 path d.now (faults.TooBig c.in-TooBig.size))
    (λ d told path there. subst (λ (p : List ℕ). IsTooBigFor 268435456 p d.now (faults.TooBig c.in-TooBig.size)) (some_is c.path.result.now path (sym c.path.ensures ∙ there)) told) (rw c.in-TooBig.is at c.in_ok-answer.ensures.answer)

pub returns-in-Missing-clause-learns : goal.returns-in-Missing-clause-learns
returns-in-Missing-clause-learns g c = λ steps roots. learns_same steps roots (OfOne c.args.number) c.args.self.now

pub returns-in-Missing-clause-told : goal.returns-in-Missing-clause-told
returns-in-Missing-clause-told g c = told_all (g.F.Files.outside c.args.files.now).disk (λ (d : Disk). (steps : List Step) (roots : List (List ℕ)) → StaysTrue steps roots d.now c.args.self.now c.args.self.now) (λ d steps roots. true_same steps roots d.now c.args.self.now)

pub returns-in-TooBig-clause-learns : goal.returns-in-TooBig-clause-learns
returns-in-TooBig-clause-learns g c = λ steps roots. learns_same steps roots (OfOne c.args.number) c.args.self.now

pub returns-in-TooBig-clause-told : goal.returns-in-TooBig-clause-told
returns-in-TooBig-clause-told g c = told_all (g.F.Files.outside c.args.files.now).disk (λ (d : Disk). (steps : List Step) (roots : List (List ℕ)) → StaysTrue steps roots d.now c.args.self.now c.args.self.now) (λ d steps roots. true_same steps roots d.now c.args.self.now)

pub returns-in_err-digest-in-Bytes-clause-told : goal.returns-in_err-digest-in-Bytes-clause-told
returns-in_err-digest-in-Bytes-clause-told g c = told_all (g.F.Files.outside c.args.files.now).disk (λ (d : Disk). (steps : List Step) (roots : List (List ℕ)) → StaysTrue steps roots d.now c.args.self.now c.args.self.now) (λ d steps roots. true_same steps roots d.now c.args.self.now)

pub returns-in-Missing-clause-gone : goal.returns-in-Missing-clause-gone
returns-in-Missing-clause-gone g c =
    told_map (g.F.Files.outside c.args.files.now).disk (λ (d : Disk). d.now c.path.result.now ≡ None) (λ (d : Disk). (path : List ℕ) (file : FileFacts) → IsFile c.args.self.now c.args.number path file → file.digest ≡ None → d.now path ≡ None)
    (λ d told path file is none. subst (λ (p : List ℕ). d.now p ≡ None) (some_is c.path.result.now path (sym c.path.ensures ∙ is.path_is)) told) (rw c.in-Missing.is at c.in_ok-answer.ensures.answer)

pub returns-in_ok-digest-in-Bytes-clause-gone : goal.returns-in_ok-digest-in-Bytes-clause-gone
returns-in_ok-digest-in-Bytes-clause-gone g c = told_all (g.F.Files.outside c.args.files.now).disk (λ (d : Disk). (path : List ℕ) (file : FileFacts) → IsFile c.put_digest.new.self c.args.number path file → file.digest ≡ None → d.now path ≡ None)
    (λ d path file is none. absurd (digest_known c.args.self.now c.put_digest.new.self c.args.number c.requires.number c.in_ok-digest-in-Bytes.digest c.as_slice.result.now c.in_ok-digest-in-Bytes.ensures c.requires.unknown c.put_digest.ensures file is.file_is none))

pub returns-in_ok-digest-in-Bytes-clause-learns : goal.returns-in_ok-digest-in-Bytes-clause-learns
returns-in_ok-digest-in-Bytes-clause-learns g c = digest_learns c.args.self.now c.put_digest.new.self c.args.number c.requires.number c.in_ok-digest-in-Bytes.digest c.as_slice.result.now c.in_ok-digest-in-Bytes.ensures c.requires.unknown c.put_digest.ensures

pub returns-in_ok-digest-in-Bytes-clause-told : goal.returns-in_ok-digest-in-Bytes-clause-told
returns-in_ok-digest-in-Bytes-clause-told g c =
    told_map (g.F.Files.outside c.args.files.now).disk (λ (d : Disk). ReadTold c.path.result.now 268435456 (answers.Bytes c.in-Bytes.bytes) d.now) (λ (d : Disk). (steps : List Step) (roots : List (List ℕ)) → StaysTrue steps roots d.now c.args.self.now c.put_digest.new.self)
    (λ d told steps roots. digest_true c.args.self.now c.put_digest.new.self c.args.number c.requires.number c.in_ok-digest-in-Bytes.digest c.as_slice.result.now c.in_ok-digest-in-Bytes.ensures c.requires.unknown c.put_digest.ensures c.path.result.now c.path.ensures d.now (told.0 ∙ ap Some (sym c.as_slice.ensures.value)) steps roots) (rw c.in-Bytes.is at c.in_ok-answer.ensures.answer)

pub returns-in_err-answer-clause-includes : goal.returns-in_err-answer-clause-includes
returns-in_err-answer-clause-includes g c = includes_same c.args.self.now

pub returns-in-Missing-clause-includes : goal.returns-in-Missing-clause-includes
returns-in-Missing-clause-includes g c = includes_same c.args.self.now

pub returns-in-TooBig-clause-includes : goal.returns-in-TooBig-clause-includes
returns-in-TooBig-clause-includes g c = includes_same c.args.self.now

pub returns-in_err-digest-in-Bytes-clause-includes : goal.returns-in_err-digest-in-Bytes-clause-includes
returns-in_err-digest-in-Bytes-clause-includes g c = includes_same c.args.self.now

pub returns-in_ok-digest-in-Bytes-clause-includes : goal.returns-in_ok-digest-in-Bytes-clause-includes
returns-in_ok-digest-in-Bytes-clause-includes g c = includes_digest c.args.self.now c.put_digest.new.self c.args.number c.in_ok-digest-in-Bytes.digest c.requires.number c.put_digest.ensures
