use Rattle.std.proofs.Common.{◌+◌, ◌≤◌, ℕ, List, [], take, length, refl, sym, ap, subst, ◌∙◌, arith}
use Rattle.b2_host.specs.Disks.{Disk}
use Rattle.b2_host.specs.Outside.{Outside}
use Rattle.b2_facts.specs.Growth.{OfNone}
use Rattle.b2_facts.specs.Truth.{StaysTrue}
use Rattle.b2_facts.specs.Asks.{AreFirsts}
use Rattle.b2_facts.proofs.FactsGrow.{learns_then, learns_same, true_same, told_all, told_then, number_grows, list_grows}
use Rattle.b2_facts.proofs.IncludesAreLookedFor.{firsts_all, has_include, include_at, no_firsts, firsts_more, looking_stays}
use Rattle.b2_facts.proofs.facts.Facts.look_for.Goals as goal

pub loop-at-init : goal.loop-at-init
loop-at-init g c = record {
  same = refl;
  found = refl;
  firsts = λ path dirs includes looking. subst (λ (ts : List ℕ). AreFirsts c.args.self.now dirs path [] ts) (sym c.new-targets.ensures)
      (no_firsts c.args.self.now dirs path);
  learns = learns_same c.args.plan.now.steps c.args.plan.now.roots OfNone c.args.self.now;
  told = told_all (g.F.Files.outside c.args.files.now).disk
      (λ (d : Disk). StaysTrue c.args.plan.now.steps c.args.plan.now.roots d.now c.args.self.now c.args.self.now) (λ d. true_same c.args.plan.now.steps c.args.plan.now.roots d.now c.args.self.now);
}

pub find_include-requires-clause-list : goal.find_include-requires-clause-list
find_include-requires-clause-list g c = list_grows c.args.self.now c.loop-at.self c.loop-at.invariant.learns.grows c.args.list c.requires.list

pub find_include-requires-clause-number : goal.find_include-requires-clause-number
find_include-requires-clause-number g c = number_grows c.args.self.now c.loop-at.self c.loop-at.invariant.learns.grows c.args.number c.requires.number

pub find_include-requires-clause-read : goal.find_include-requires-clause-read
find_include-requires-clause-read g c = has_include c.args.self.now c.loop-at.self c.args.list c.args.number c.includes-count.result.now c.loop-at.at c.loop-at.invariant.learns.grows c.requires.list c.requires.number c.requires.read c.includes-count.ensures c.loop-at-test.true

pub loop-at-preserved : goal.loop-at-preserved
loop-at-preserved g c = record {
  same = c.in_ok-target.ensures.effect ∙ c.loop-at.invariant.same;
  found = c.in_ok-target.ensures.found ∙ c.loop-at.invariant.found;
  firsts = λ path dirs includes looking. (
      let include = include_at c.args.self.now c.args.list c.args.number path dirs includes c.includes-count.result.now c.loop-at.at looking c.includes-count.ensures c.loop-at-test.true in
      subst (λ (ts : List ℕ). AreFirsts c.find_include.new.self dirs path (take (c.loop-at.at + 1) includes) ts) (sym c.in_ok-push_target.ensures)
      (firsts_more c.loop-at.self c.find_include.new.self dirs path includes c.loop-at.at include.0 c.loop-at.targets c.in_ok-target.target c.in_ok-target.ensures.learns.grows (c.loop-at.invariant.firsts path dirs includes looking) include.1
      (c.in_ok-target.ensures.first path dirs includes include.0 (looking_stays c.args.self.now c.loop-at.self c.args.list c.args.number path dirs includes c.loop-at.invariant.learns.grows looking) include.1)));
  learns = learns_then c.args.plan.now.steps c.args.plan.now.roots OfNone c.args.self.now c.loop-at.self c.find_include.new.self c.loop-at.invariant.learns c.in_ok-target.ensures.learns;
  told = told_then c.args.plan.now.steps c.args.plan.now.roots OfNone (g.F.Files.outside c.args.files.now).disk (g.F.Files.outside c.loop-at.files).disk c.args.self.now c.loop-at.self c.find_include.new.self (ap (λ (o : Outside). o.disk) c.loop-at.invariant.same) c.loop-at.invariant.learns c.loop-at.invariant.told c.in_ok-target.ensures.told;
}

pub returns-in_err-target-clause-found : goal.returns-in_err-target-clause-found
returns-in_err-target-clause-found g c = c.in_err-target.ensures.found ∙ c.loop-at.invariant.found

pub returns-in_err-target-clause-learns : goal.returns-in_err-target-clause-learns
returns-in_err-target-clause-learns g c = learns_then c.args.plan.now.steps c.args.plan.now.roots OfNone c.args.self.now c.loop-at.self c.find_include.new.self c.loop-at.invariant.learns c.in_err-target.ensures.learns

pub returns-in_err-target-clause-told : goal.returns-in_err-target-clause-told
returns-in_err-target-clause-told g c = told_then c.args.plan.now.steps c.args.plan.now.roots OfNone (g.F.Files.outside c.args.files.now).disk (g.F.Files.outside c.loop-at.files).disk c.args.self.now c.loop-at.self c.find_include.new.self (ap (λ (o : Outside). o.disk) c.loop-at.invariant.same) c.loop-at.invariant.learns c.loop-at.invariant.told c.in_err-target.ensures.told

pub returns-in_err-push_target-clause-found : goal.returns-in_err-push_target-clause-found
returns-in_err-push_target-clause-found g c = c.in_ok-target.ensures.found ∙ c.loop-at.invariant.found

pub returns-in_err-push_target-clause-learns : goal.returns-in_err-push_target-clause-learns
returns-in_err-push_target-clause-learns g c = learns_then c.args.plan.now.steps c.args.plan.now.roots OfNone c.args.self.now c.loop-at.self c.find_include.new.self c.loop-at.invariant.learns c.in_ok-target.ensures.learns

pub returns-in_err-push_target-clause-told : goal.returns-in_err-push_target-clause-told
returns-in_err-push_target-clause-told g c = told_then c.args.plan.now.steps c.args.plan.now.roots OfNone (g.F.Files.outside c.args.files.now).disk (g.F.Files.outside c.loop-at.files).disk c.args.self.now c.loop-at.self c.find_include.new.self (ap (λ (o : Outside). o.disk) c.loop-at.invariant.same) c.loop-at.invariant.learns c.loop-at.invariant.told c.in_ok-target.ensures.told

pub returns-clause-firsts : goal.returns-clause-firsts
returns-clause-firsts g c = λ path dirs includes looking. (
    let past : length c.includes-count.result.now ≤ c.loop-at.at = omega (arith, c.loop-at-test.false) in
    firsts_all c.args.self.now c.loop-at.self c.args.list c.args.number path dirs includes c.includes-count.result.now c.loop-at.at c.loop-at.targets looking c.includes-count.ensures past (c.loop-at.invariant.firsts path dirs includes looking))
