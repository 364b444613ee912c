use Rattle.std.proofs.Common.{◌≡◌, ℕ, Some, sym, ap, subst}
use Rattle.b2_facts.specs.Facts.{Knowledge, path_at}
use Rattle.b2_facts.specs.Changes.{EntersPath}
use Rattle.b2_facts.specs.Growth.{Learns, OfNone}
use Rattle.b2_facts.specs.Truth.{StaysTrue}
use Rattle.b2_facts.proofs.ListsAtPlaces.{among_at}
use Rattle.b2_facts.proofs.FactsGrow.{on_either, on_err, learns_equal, true_equal}
use Rattle.b2_facts.proofs.FactsAreEntered.{enters_learns, enters_true}
use Rattle.b2_facts.proofs.facts.Facts.number_of.Goals as goal

pub returns-in-None-clause-learns : goal.returns-in-None-clause-learns
returns-in-None-clause-learns c =
    let steps = c.args.plan.now.steps in
    let roots = c.args.plan.now.roots in
    let f = c.args.self.now in
    let h = c.enter.new.self in
    let path = c.args.path.now in
    on_either c.enter.result (Learns steps roots OfNone f h) (EntersPath steps roots path f h) (h ≡ f) c.enter.ensures.ok c.enter.ensures.err
    (enters_learns steps roots OfNone path f h (λ n e. c.in-None.ensures (among_at c.self.inside.paths n path (subst (λ (k : Knowledge). path_at k n ≡ Some path) (sym c.self.view_is) e))))
    (learns_equal steps roots OfNone f h)

pub returns-in-None-clause-told : goal.returns-in-None-clause-told
returns-in-None-clause-told c = λ now. (
    let steps = c.args.plan.now.steps in
    let roots = c.args.plan.now.roots in
    let f = c.args.self.now in
    let h = c.enter.new.self in
    on_either c.enter.result (StaysTrue steps roots now f h) (EntersPath steps roots c.args.path.now f h) (h ≡ f) c.enter.ensures.ok c.enter.ensures.err
    (enters_true steps roots now c.args.path.now f h) (true_equal steps roots now f h))

pub returns-in-None-clause-found : goal.returns-in-None-clause-found
returns-in-None-clause-found c =
    let f = c.args.self.now in
    let h = c.enter.new.self in
    on_either c.enter.result (h.found ≡ f.found) (EntersPath c.args.plan.now.steps c.args.plan.now.roots c.args.path.now f h) (h ≡ f) c.enter.ensures.ok c.enter.ensures.err
    (λ entered. ap (λ (k : Knowledge). k.found) entered.same) (λ same. ap (λ (k : Knowledge). k.found) same)

pub returns-in-None-clause-absent : goal.returns-in-None-clause-absent
returns-in-None-clause-absent c = on_err c.enter.result ((n : ℕ) → path_at c.args.self.now n ≡ Some c.args.path.now → ⊥)
    (λ n e. c.in-None.ensures (among_at c.self.inside.paths n c.args.path.now (subst (λ (k : Knowledge). path_at k n ≡ Some c.args.path.now) (sym c.self.view_is) e)))

pub returns-in-None-clause-stays : goal.returns-in-None-clause-stays
returns-in-None-clause-stays c = λ n e. absurd (c.in-None.ensures (among_at c.self.inside.paths n c.args.path.now (subst (λ (k : Knowledge). path_at k n ≡ Some c.args.path.now) (sym c.self.view_is) e)))
