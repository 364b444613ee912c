use Rattle.std.proofs.Common.{◌≡◌, ◌≤◌, ℕ, List, [], length, Some, sym, subst, arith}
use Rattle.std.specs.List.{AllZip}
use Rattle.b2_facts.specs.Facts.{path_at}
use Rattle.b2_facts.specs.Growth.{OfNone}
use Rattle.b2_facts.proofs.FactsGrow.{learns_same, learns_then, true_same, true_then}
use Rattle.b2_looks.proofs.FilesAreNumbered.{zip_more, zip_all}
use Rattle.b2_looks.proofs.step_files.numbers_of.Goals as goal

pub loop-path-init : goal.loop-path-init
loop-path-init c = record {
  named = subst (λ (ns : List ℕ). AllZip (λ n path. path_at c.args.facts.now n ≡ Some path) ns []) (sym c.new-numbers.ensures) tt;
  learns = learns_same c.args.plan.now.steps c.args.plan.now.roots OfNone c.args.facts.now;
  told = λ now. true_same c.args.plan.now.steps c.args.plan.now.roots now c.args.facts.now;
}

pub returns-in_err-number-clause-learns : goal.returns-in_err-number-clause-learns
returns-in_err-number-clause-learns c = learns_then c.args.plan.now.steps c.args.plan.now.roots OfNone c.args.facts.now c.loop-path.facts c.number_of.new.self c.loop-path.invariant.learns c.number_of.ensures.learns

pub returns-in_err-number-clause-told : goal.returns-in_err-number-clause-told
returns-in_err-number-clause-told c now = true_then c.args.plan.now.steps c.args.plan.now.roots OfNone now c.args.facts.now c.loop-path.facts c.number_of.new.self c.loop-path.invariant.learns (c.loop-path.invariant.told now) (c.number_of.ensures.told now)

pub returns-in_err-push-clause-learns : goal.returns-in_err-push-clause-learns
returns-in_err-push-clause-learns c = learns_then c.args.plan.now.steps c.args.plan.now.roots OfNone c.args.facts.now c.loop-path.facts c.number_of.new.self c.loop-path.invariant.learns c.number_of.ensures.learns

pub returns-in_err-push-clause-told : goal.returns-in_err-push-clause-told
returns-in_err-push-clause-told c now = true_then c.args.plan.now.steps c.args.plan.now.roots OfNone now c.args.facts.now c.loop-path.facts c.number_of.new.self c.loop-path.invariant.learns (c.loop-path.invariant.told now) (c.number_of.ensures.told now)

pub loop-path-preserved : goal.loop-path-preserved
loop-path-preserved c = record {
  named = zip_more c.loop-path.facts c.number_of.new.self c.loop-path.numbers c.push.new.self c.args.paths.now c.loop-path.path-index c.in_ok-number.number c.path-item.result c.number_of.ensures.learns.grows c.loop-path-test.true c.path-item.is c.in_ok-number.ensures.place c.in_ok-push.ensures.ok c.loop-path.invariant.named;
  learns = learns_then c.args.plan.now.steps c.args.plan.now.roots OfNone c.args.facts.now c.loop-path.facts c.number_of.new.self c.loop-path.invariant.learns c.number_of.ensures.learns;
  told = λ now. true_then c.args.plan.now.steps c.args.plan.now.roots OfNone now c.args.facts.now c.loop-path.facts c.number_of.new.self c.loop-path.invariant.learns (c.loop-path.invariant.told now) (c.number_of.ensures.told now);
}

pub returns-clause-named : goal.returns-clause-named
returns-clause-named c =
    let past : length c.args.paths.now ≤ c.loop-path.path-index = omega (arith, c.loop-path-test.false) in
    zip_all c.loop-path.facts c.loop-path.numbers c.args.paths.now c.loop-path.path-index past c.loop-path.invariant.named
