use Rattle.std.proofs.Common.{ℕ, List}
use Rattle.b2_host.specs.Disks.{Disk, StatTold}
use Rattle.b2_plan.specs.declared.step.Step.{Step}
use Rattle.b2_facts.specs.Growth.{OfOne}
use Rattle.b2_facts.specs.Truth.{StaysTrue}
use Rattle.b2_facts.proofs.FactsGrow.{learns_same, true_same, told_map, told_all}
use Rattle.b2_facts.proofs.LooksAreKept.{number_file, seen_by, stamp_learns, stamp_true}
use Rattle.b2_facts.proofs.facts.Facts.ask_stamp.Goals as goal

pub returns-in_err-stamp-clause-learns : goal.returns-in_err-stamp-clause-learns
returns-in_err-stamp-clause-learns g c = λ steps roots. learns_same steps roots (OfOne c.args.number) c.args.self.now

pub returns-in_err-stamp-clause-told : goal.returns-in_err-stamp-clause-told
returns-in_err-stamp-clause-told g c = told_all (g.F.Files.outside c.args.files.now).disk (λ (d : Disk). (steps : List Step) (roots : List (List ℕ)) → StaysTrue steps roots d.now c.args.self.now c.args.self.now) (λ d steps roots. true_same steps roots d.now c.args.self.now)

pub returns-clause-exact : goal.returns-clause-exact
returns-clause-exact g c = seen_by c.args.self.now c.set_seen.new.self c.args.number c.seen_of.result c.in_ok-stamp.stamp c.seen_of.ensures c.set_seen.ensures

pub returns-clause-learns : goal.returns-clause-learns
returns-clause-learns g c =
    let file = number_file c.args.self.now c.args.number c.requires.number in
    let after = seen_by c.args.self.now c.set_seen.new.self c.args.number c.seen_of.result c.in_ok-stamp.stamp c.seen_of.ensures c.set_seen.ensures file.0 file.1 in
    stamp_learns c.args.self.now c.set_seen.new.self c.args.number file.0 file.1 (c.requires.unasked file.0 file.1) c.in_ok-stamp.stamp after

pub returns-clause-told : goal.returns-clause-told
returns-clause-told g c =
    let file = number_file c.args.self.now c.args.number c.requires.number in
    let after = seen_by c.args.self.now c.set_seen.new.self c.args.number c.seen_of.result c.in_ok-stamp.stamp c.seen_of.ensures c.set_seen.ensures file.0 file.1 in
    told_map (g.F.Files.outside c.args.files.now).disk (λ (d : Disk). StatTold c.path.result.now c.in_ok-stamp.stamp d.now) (λ (d : Disk). (steps : List Step) (roots : List (List ℕ)) → StaysTrue steps roots d.now c.args.self.now c.set_seen.new.self)
    (λ d told steps roots. stamp_true c.args.self.now c.set_seen.new.self c.args.number file.0 file.1 (c.requires.unasked file.0 file.1) c.in_ok-stamp.stamp after steps roots d.now c.path.result.now c.path.ensures told)
    c.in_ok-stamp.ensures.answer
