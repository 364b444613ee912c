use Rattle.std.proofs.Common.{◌≡◌, ℕ, List, Some, None, sym, subst, ◌∙◌}
use Rattle.b2_host.specs.Disks.{Disk}
use Rattle.b2_plan.specs.declared.step.Step.{Step}
use Rattle.b2_facts.specs.declared.file_facts.FileLook.TheVariants as seen
use Rattle.b2_facts.specs.declared.file_facts.FileFacts.{FileFacts}
use Rattle.b2_facts.specs.Growth.{OfOne}
use Rattle.b2_facts.specs.Truth.{StaysTrue}
use Rattle.b2_facts.proofs.ListsAtPlaces.{some_is}
use Rattle.b2_facts.proofs.FactsGrow.{learns_same, true_same, told_all}
use Rattle.b2_facts.proofs.LooksAreKept.{stamp_known}
use Rattle.b2_facts.proofs.facts.Facts.stamp.Goals as goal

pub ask_stamp-requires-clause-unasked : goal.ask_stamp-requires-clause-unasked
ask_stamp-requires-clause-unasked g c = λ file e. subst (λ (x : FileFacts). x.seen ≡ seen.Unasked) (some_is c.file.result.now file (sym c.file.ensures ∙ e)) c.in-Unasked.is

pub returns-in-Gone-clause-exact : goal.returns-in-Gone-clause-exact
returns-in-Gone-clause-exact g c = λ file e. stamp_known c.args.self.now c.args.number c.file.result.now None c.file.ensures c.in-Gone.is file e

pub returns-in-Gone-clause-learns : goal.returns-in-Gone-clause-learns
returns-in-Gone-clause-learns g c = λ steps roots. learns_same steps roots (OfOne c.args.number) c.args.self.now

pub returns-in-Gone-clause-told : goal.returns-in-Gone-clause-told
returns-in-Gone-clause-told g c = told_all (g.F.Files.outside c.args.files.now).disk (λ (d : Disk). (steps : List Step) (roots : List (List ℕ)) → StaysTrue steps roots d.now c.args.self.now c.args.self.now) (λ d steps roots. true_same steps roots d.now c.args.self.now)

pub returns-in-Stands-clause-exact : goal.returns-in-Stands-clause-exact
returns-in-Stands-clause-exact g c = λ file e. stamp_known c.args.self.now c.args.number c.file.result.now (Some c.in-Stands.stamp) c.file.ensures c.in-Stands.is file e

pub returns-in-Stands-clause-learns : goal.returns-in-Stands-clause-learns
returns-in-Stands-clause-learns g c = λ steps roots. learns_same steps roots (OfOne c.args.number) c.args.self.now

pub returns-in-Stands-clause-told : goal.returns-in-Stands-clause-told
returns-in-Stands-clause-told g c = told_all (g.F.Files.outside c.args.files.now).disk (λ (d : Disk). (steps : List Step) (roots : List (List ℕ)) → StaysTrue steps roots d.now c.args.self.now c.args.self.now) (λ d steps roots. true_same steps roots d.now c.args.self.now)
