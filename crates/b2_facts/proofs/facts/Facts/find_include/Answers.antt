use Rattle.b2_host.specs.Disks.{Disk}
use Rattle.b2_facts.specs.Growth.{OfNone}
use Rattle.b2_facts.specs.Truth.{StaysTrue}
use Rattle.b2_facts.proofs.FactsGrow.{learns_same, true_same, told_all}
use Rattle.b2_facts.proofs.IncludesAreLookedFor.{tried_there}
use Rattle.b2_facts.proofs.facts.Facts.find_include.Goals as goal

pub returns-in_err-tried-clause-learns : goal.returns-in_err-tried-clause-learns
returns-in_err-tried-clause-learns g c = learns_same c.args.plan.now.steps c.args.plan.now.roots OfNone c.args.self.now

pub returns-in_err-tried-clause-told : goal.returns-in_err-tried-clause-told
returns-in_err-tried-clause-told g c = told_all (g.F.Files.outside c.args.files.now).disk (λ (d : Disk). StaysTrue c.args.plan.now.steps c.args.plan.now.roots d.now c.args.self.now c.args.self.now) (λ d. true_same c.args.plan.now.steps c.args.plan.now.roots d.now c.args.self.now)

pub returns-clause-first : goal.returns-clause-first
returns-clause-first g c = tried_there c.args.self.now c.first_given.new.self c.args.list c.args.number c.args.at c.in_ok-tried.tried c.as_slice.result.now c.as_slice.ensures c.in_ok-tried.ensures c.first_given.result c.first_given.ensures.first
