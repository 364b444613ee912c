use Rattle.std.proofs.Common.{sym, subst}
use Rattle.std.specs.Option.{IfSome}
use Rattle.b2_host.specs.Disks.{Disk}
use Rattle.b2_facts.specs.Facts.{Knowledge}
use Rattle.b2_facts.specs.Growth.{Learns, OfNone}
use Rattle.b2_facts.specs.Truth.{StaysTrue}
use Rattle.b2_facts.proofs.FactsGrow.{learns_same, true_same, told_all}
use Rattle.b2_facts.proofs.FoundsComeIn.{is_found, comes_in, comes_learns, comes_true}
use Rattle.b2_facts.proofs.facts.Facts.find_includes.Goals as goal

pub returns-then-is_some-clause-found : goal.returns-then-is_some-clause-found
returns-then-is_some-clause-found g c = is_found c.args.self.now c.args.list c.args.number c.found.result c.found.ensures (sym c.if-is_some.ensures)

pub returns-then-is_some-clause-learns : goal.returns-then-is_some-clause-learns
returns-then-is_some-clause-learns g c = learns_same c.args.plan.now.steps c.args.plan.now.roots OfNone c.args.self.now

pub returns-then-is_some-clause-told : goal.returns-then-is_some-clause-told
returns-then-is_some-clause-told g c = told_all (g.F.Files.outside c.args.files.now).disk (λ (d : Disk). StaysTrue c.args.plan.now.steps c.args.plan.now.roots d.now c.args.self.now c.args.self.now) (λ d. true_same c.args.plan.now.steps c.args.plan.now.roots d.now c.args.self.now)

pub returns-in_err-set_found-clause-learns : goal.returns-in_err-set_found-clause-learns
returns-in_err-set_found-clause-learns g c = subst (Learns c.args.plan.now.steps c.args.plan.now.roots OfNone c.args.self.now) (sym c.in_err-set_found.ensures.err) c.in_ok-targets.ensures.learns

pub returns-in_err-set_found-clause-told : goal.returns-in_err-set_found-clause-told
returns-in_err-set_found-clause-told g c = subst (λ (k : Knowledge). IfSome (g.F.Files.outside c.args.files.now).disk (λ (d : Disk). StaysTrue c.args.plan.now.steps c.args.plan.now.roots d.now c.args.self.now k)) (sym c.in_err-set_found.ensures.err) c.in_ok-targets.ensures.told

pub returns-clause-found : goal.returns-clause-found
returns-clause-found g c = comes_in c.args.self.now c.look_for.new.self c.args.list c.args.number c.requires.list c.requires.number c.requires.read c.found.result c.found.ensures (sym c.if-is_some.ensures) c.in_ok-targets.ensures.found c.args.plan.now.steps c.args.plan.now.roots c.in_ok-targets.ensures.learns c.in_ok-targets.targets c.in_ok-targets.ensures.firsts c.set_found.new.self c.in_ok-set_found.ensures.ok

pub returns-clause-learns : goal.returns-clause-learns
returns-clause-learns g c = comes_learns c.args.self.now c.look_for.new.self c.args.list c.args.number c.requires.list c.requires.number c.requires.read c.found.result c.found.ensures (sym c.if-is_some.ensures) c.in_ok-targets.ensures.found c.args.plan.now.steps c.args.plan.now.roots c.in_ok-targets.ensures.learns c.in_ok-targets.targets c.in_ok-targets.ensures.firsts c.set_found.new.self c.in_ok-set_found.ensures.ok

pub returns-clause-told : goal.returns-clause-told
returns-clause-told g c = comes_true c.args.self.now c.look_for.new.self c.args.list c.args.number c.requires.list c.requires.number c.requires.read c.found.result c.found.ensures (sym c.if-is_some.ensures) c.in_ok-targets.ensures.found c.args.plan.now.steps c.args.plan.now.roots c.in_ok-targets.ensures.learns c.in_ok-targets.targets c.in_ok-targets.ensures.firsts c.set_found.new.self c.in_ok-set_found.ensures.ok (g.F.Files.outside c.args.files.now).disk c.in_ok-targets.ensures.told
