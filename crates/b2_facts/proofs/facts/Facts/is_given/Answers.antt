use Rattle.std.proofs.Common.{ℕ, List, Bool, sym, ap, subst}
use Rattle.b2_host.specs.Disks.{Disk}
use Rattle.b2_plan.specs.declared.step.Step.{Step}
use Rattle.b2_facts.specs.Facts.{Knowledge}
use Rattle.b2_facts.specs.Growth.{OfNone}
use Rattle.b2_facts.specs.Truth.{StaysTrue}
use Rattle.b2_facts.specs.Asks.{seen_of, IsToldGiven}
use Rattle.b2_facts.proofs.FactsGrow.{learns_same, true_same, told_all}
use Rattle.b2_facts.proofs.LooksAreKept.{given_made, given_rooted, given_stamp, unread_equal, unread_seen, learns_unmade, no_maker}
use Rattle.b2_facts.proofs.facts.Facts.is_given.Goals as goal

pub returns-then-is_some-clause-given : goal.returns-then-is_some-clause-given
returns-then-is_some-clause-given g c = λ file e. given_made c.args.self.now c.args.number c.file-file.result.now c.file-file.ensures (sym c.if-is_some.ensures) file e

pub returns-then-is_some-clause-learns : goal.returns-then-is_some-clause-learns
returns-then-is_some-clause-learns g c = λ steps roots. learns_same steps roots OfNone c.args.self.now

pub returns-then-is_some-clause-told : goal.returns-then-is_some-clause-told
returns-then-is_some-clause-told g c = told_all (g.F.Files.outside c.args.files.now).disk (λ (d : Disk). (steps : List Step) (roots : List (List ℕ)) → StaysTrue steps roots d.now c.args.self.now c.args.self.now) (λ d steps roots. true_same steps roots d.now c.args.self.now)

pub returns-then-file-clause-given : goal.returns-then-file-clause-given
returns-then-file-clause-given g c = λ file e. given_rooted c.args.self.now c.args.number c.file-file.result.now c.file-file.ensures (sym c.if-is_some.ensures) c.if-file.true file e

pub returns-then-file-clause-learns : goal.returns-then-file-clause-learns
returns-then-file-clause-learns g c = λ steps roots. learns_same steps roots OfNone c.args.self.now

pub returns-then-file-clause-told : goal.returns-then-file-clause-told
returns-then-file-clause-told g c = told_all (g.F.Files.outside c.args.files.now).disk (λ (d : Disk). (steps : List Step) (roots : List (List ℕ)) → StaysTrue steps roots d.now c.args.self.now c.args.self.now) (λ d steps roots. true_same steps roots d.now c.args.self.now)

pub returns-in_err-stamp-clause-learns : goal.returns-in_err-stamp-clause-learns
returns-in_err-stamp-clause-learns g c = λ steps roots. learns_unmade steps roots OfNone c.args.self.now c.stamp.new.self c.args.number c.file-file.result.now c.file-file.ensures (no_maker c.file-file.result.now.maker (sym c.if-is_some.ensures)) c.if-file.false (unread_equal c.args.self.now c.stamp.new.self c.args.number c.file-file.result.now c.in_err-stamp.ensures.err c.file-file.ensures) (c.in_err-stamp.ensures.learns steps roots)

pub returns-clause-given : goal.returns-clause-given
returns-clause-given g c = λ file e. subst (λ (b : Bool). IsToldGiven file b) (sym c.is_some-2.ensures) (given_stamp c.args.self.now c.stamp.new.self c.args.number c.file-file.result.now c.in_ok-stamp.stamp c.file-file.ensures (sym c.if-is_some.ensures) c.if-file.false (c.in_ok-stamp.ensures.exact c.file-file.result.now c.file-file.ensures) file e)

pub returns-clause-learns : goal.returns-clause-learns
returns-clause-learns g c = λ steps roots. learns_unmade steps roots OfNone c.args.self.now c.stamp.new.self c.args.number c.file-file.result.now c.file-file.ensures (no_maker c.file-file.result.now.maker (sym c.if-is_some.ensures)) c.if-file.false (unread_seen c.args.self.now c.stamp.new.self c.args.number c.file-file.result.now (seen_of c.in_ok-stamp.stamp) (c.in_ok-stamp.ensures.exact c.file-file.result.now c.file-file.ensures) c.file-file.ensures) (c.in_ok-stamp.ensures.learns steps roots)

pub returns-in_err-stamp-clause-found : goal.returns-in_err-stamp-clause-found
returns-in_err-stamp-clause-found g c = ap (λ (k : Knowledge). k.found) c.in_err-stamp.ensures.err

pub returns-clause-found : goal.returns-clause-found
returns-clause-found g c = ap (λ (k : Knowledge). k.found) (c.in_ok-stamp.ensures.exact c.file-file.result.now c.file-file.ensures)
