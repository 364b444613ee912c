use Rattle.std.proofs.Common.{◌≡◌, inl, ℕ, List, [], Option, sym, ap, subst}
use Rattle.std.specs.Option.{IfSome}
use Rattle.b2_host.specs.Disks.{Disk}
use Rattle.b2_plan.specs.declared.step.Step.{Step}
use Rattle.b2_plan.specs.Sources.{Build}
use Rattle.b2_facts.specs.declared.file_facts.FileFacts.{FileFacts}
use Rattle.b2_facts.specs.Growth.{OfOne}
use Rattle.b2_facts.specs.Truth.{StaysTrue, StaysTrueOf, ScansTell}
use Rattle.b2_facts.specs.Asks.{seen_of, IsToRead}
use Rattle.b2_host.specs.Outside.{Outside}
use Rattle.b2_facts.specs.declared.file_facts.FileLook.TheVariants as seen
use Rattle.b2_facts.proofs.FactsGrow.{number_grows, learns_same, learns_then, true_same, true_of_then, told_map, told_all, told_both}
use Rattle.b2_facts.proofs.BytesAreKept.{is_read, not_read, file_now}
use Rattle.b2_facts.proofs.ReadsTell.{read_before, scans_later, too_big_later}
use Rattle.b2_facts.proofs.facts.Facts.scan.Goals as goal

-- the disk is the same after a look
same_disk : (before after : Outside) → after ≡ before → after.disk ≡ before.disk
same_disk before after e = ap (λ (o : Outside). o.disk) e

pub returns-then-is_some-clause-answer : goal.returns-then-is_some-clause-answer
returns-then-is_some-clause-answer g c = λ path file is. inl (c.file.result.now, c.file.ensures, is_read c.file.result.now (sym c.if-is_some.ensures))

pub returns-then-is_some-clause-learns : goal.returns-then-is_some-clause-learns
returns-then-is_some-clause-learns g c = λ steps roots. learns_same steps roots (OfOne c.args.number) c.args.self.now

pub returns-then-is_some-clause-told : goal.returns-then-is_some-clause-told
returns-then-is_some-clause-told g c = told_all (g.F.Files.outside c.args.files.now).disk (λ (d : Disk). (steps : List Step) (roots : List (List ℕ)) (b : Build) → ScansTell b d.now c.args.log.now.lines → StaysTrueOf steps roots d.now c.args.self.now c.args.self.now b) (λ d steps roots b tells. true_same steps roots d.now c.args.self.now b)

pub returns-in_err-seen-clause-told : goal.returns-in_err-seen-clause-told
returns-in_err-seen-clause-told g c = told_map (g.F.Files.outside c.args.files.now).disk (λ (d : Disk). (steps : List Step) (roots : List (List ℕ)) → StaysTrue steps roots d.now c.args.self.now c.stamp.new.self) (λ (d : Disk). (steps : List Step) (roots : List (List ℕ)) (b : Build) → ScansTell b d.now c.args.log.now.lines → StaysTrueOf steps roots d.now c.args.self.now c.stamp.new.self b) (λ d h steps roots b tells. h steps roots b) c.in_err-seen.ensures.told

pub returns-in-None-clause-answer : goal.returns-in-None-clause-answer
returns-in-None-clause-answer g c = λ path file is. (
    let new = record c.file.result.now { seen = seen_of c.in_ok-seen.seen } in
    inl (subst (λ (x : FileFacts). x.seen ≡ seen.Gone) (file_now c.args.self.now c.stamp.new.self c.args.number c.file.result.now new c.file.ensures (c.in_ok-seen.ensures.exact c.file.result.now c.file.ensures) file is.file_is) (ap seen_of c.in-None.is)))

pub returns-in-None-clause-told : goal.returns-in-None-clause-told
returns-in-None-clause-told g c = told_map (g.F.Files.outside c.args.files.now).disk (λ (d : Disk). (steps : List Step) (roots : List (List ℕ)) → StaysTrue steps roots d.now c.args.self.now c.stamp.new.self) (λ (d : Disk). (steps : List Step) (roots : List (List ℕ)) (b : Build) → ScansTell b d.now c.args.log.now.lines → StaysTrueOf steps roots d.now c.args.self.now c.stamp.new.self b) (λ d h steps roots b tells. h steps roots b) c.in_ok-seen.ensures.told

pub scan_standing-requires-clause-number : goal.scan_standing-requires-clause-number
scan_standing-requires-clause-number g c = number_grows c.args.self.now c.stamp.new.self (c.in_ok-seen.ensures.learns [] []).grows c.args.number c.requires.number

pub scan_standing-requires-clause-unread : goal.scan_standing-requires-clause-unread
scan_standing-requires-clause-unread g c = λ file e. (
    let new = record c.file.result.now { seen = seen_of c.in_ok-seen.seen } in
    subst (λ (x : FileFacts). IsToRead x c.in-Some.stamp) (file_now c.args.self.now c.stamp.new.self c.args.number c.file.result.now new c.file.ensures (c.in_ok-seen.ensures.exact c.file.result.now c.file.ensures) file e)
    (record { scanned = c.requires.scanned c.file.result.now c.file.ensures; stands = ap seen_of c.in-Some.is; unread = not_read c.file.result.now (sym c.if-is_some.ensures) }))

pub returns-in-Some-clause-answer : goal.returns-in-Some-clause-answer
returns-in-Some-clause-answer g c =
    let before = g.F.Files.outside c.args.files.now in
    let after = g.F.Files.outside c.stamp.new.files in
    scans_later before.disk after.disk c.args.log.now.lines c.args.self.now c.stamp.new.self c.scan_standing.new.self c.args.number (same_disk before after c.in_ok-seen.ensures.effect)
    (read_before c.args.self.now c.stamp.new.self c.args.number c.file.result.now c.in_ok-seen.seen c.file.ensures (c.in_ok-seen.ensures.exact c.file.result.now c.file.ensures)) c.scan_standing.result c.scan_standing.ensures.answer

pub returns-in-Some-clause-too_big : goal.returns-in-Some-clause-too_big
returns-in-Some-clause-too_big g c =
    let before = g.F.Files.outside c.args.files.now in
    let after = g.F.Files.outside c.stamp.new.files in
    too_big_later before.disk after.disk c.args.self.now c.stamp.new.self c.args.number 16777216 (same_disk before after c.in_ok-seen.ensures.effect) (c.in_ok-seen.ensures.learns [] []).grows c.scan_standing.result c.scan_standing.ensures.too_big

pub returns-in-Some-clause-learns : goal.returns-in-Some-clause-learns
returns-in-Some-clause-learns g c = λ steps roots. learns_then steps roots (OfOne c.args.number) c.args.self.now c.stamp.new.self c.scan_standing.new.self (c.in_ok-seen.ensures.learns steps roots) (c.scan_standing.ensures.learns steps roots)

pub returns-in-Some-clause-told : goal.returns-in-Some-clause-told
returns-in-Some-clause-told g c =
    let same = same_disk (g.F.Files.outside c.args.files.now) (g.F.Files.outside c.stamp.new.files) c.in_ok-seen.ensures.effect in
    told_both (g.F.Files.outside c.args.files.now).disk (λ (d : Disk). (steps : List Step) (roots : List (List ℕ)) → StaysTrue steps roots d.now c.args.self.now c.stamp.new.self) (λ (d : Disk). (steps : List Step)
    (roots : List (List ℕ)) (b : Build) → ScansTell b d.now c.args.log.now.lines → StaysTrueOf steps roots d.now c.stamp.new.self c.scan_standing.new.self b) (λ (d : Disk). (steps : List Step) (roots : List (List ℕ))
    (b : Build) → ScansTell b d.now c.args.log.now.lines → StaysTrueOf steps roots d.now c.args.self.now c.scan_standing.new.self b)
    (λ d h k steps roots b tells. true_of_then steps roots (OfOne c.args.number) d.now c.args.self.now c.stamp.new.self c.scan_standing.new.self b (c.in_ok-seen.ensures.learns steps roots) (h steps roots b) (k steps roots b tells)) c.in_ok-seen.ensures.told
    (subst (λ (o : Option Disk). IfSome o (λ (d : Disk). (steps : List Step) (roots : List (List ℕ)) (b : Build) → ScansTell b d.now c.args.log.now.lines → StaysTrueOf steps roots d.now c.stamp.new.self c.scan_standing.new.self b)) same c.scan_standing.ensures.told)
