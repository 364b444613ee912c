use Rattle.std.proofs.Common.{◌≡◌, ◌∙◌, ℕ, List, Some, sym, ap, subst}
use Rattle.std.specs.List.{Contains}
use Rattle.b2_runs.proofs.FirstElementOrLater.{Contains_nil}
use Rattle.b2_facts.specs.Facts.{path_at, dirs_at}
use Rattle.b2_facts.specs.Growth.{OfNone}
use Rattle.b2_facts.proofs.FactsGrow.{learns_then, true_then}
use Rattle.b2_reach.specs.declared.reach.Reach.{Reach}
use Rattle.b2_reach.specs.Reaches.{IsNumberOf, IsReachOf}
use Rattle.b2_reach.specs.Steps.{AreMarked, Adds}
use Rattle.b2_reach.proofs.WorkBegins.{untaken_is, opened}
use Rattle.b2_reach.proofs.reach.Reach.open.Goals as goal

pub returns-in_err-list-clause-learns : goal.returns-in_err-list-clause-learns
returns-in_err-list-clause-learns c = c.list_number.ensures.learns c.args.plan.now.steps c.args.plan.now.roots

pub returns-in_err-list-clause-told : goal.returns-in_err-list-clause-told
returns-in_err-list-clause-told c now = c.list_number.ensures.told c.args.plan.now.steps c.args.plan.now.roots now

pub add_ins-requires-clause-marked : goal.add_ins-requires-clause-marked
add_ins-requires-clause-marked c =
    subst (λ (r : Reach). AreMarked c.begin.new.self r.members) (sym c.empty-reach.ensures) (λ n. (λ is. absurd (c.begin.ensures n is), λ among. absurd (Contains_nil n among)))

pub add_ins-requires-clause-numbered : goal.add_ins-requires-clause-numbered
add_ins-requires-clause-numbered c n among = absurd (Contains_nil n (subst (λ (r : Reach). Contains r.members n) c.empty-reach.ensures among))

pub returns-in_err-add_ins-clause-learns : goal.returns-in_err-add_ins-clause-learns
returns-in_err-add_ins-clause-learns c =
    let steps = c.args.plan.now.steps in
    let roots = c.args.plan.now.roots in
    learns_then steps roots OfNone c.args.sights.now.facts c.list_number.new.self c.add_ins.new.sights.facts (c.list_number.ensures.learns steps roots) c.add_ins.ensures.learns

pub returns-in_err-add_ins-clause-told : goal.returns-in_err-add_ins-clause-told
returns-in_err-add_ins-clause-told c now =
    let steps = c.args.plan.now.steps in
    let roots = c.args.plan.now.roots in
    true_then steps roots OfNone now c.args.sights.now.facts c.list_number.new.self c.add_ins.new.sights.facts (c.list_number.ensures.learns steps roots) (c.list_number.ensures.told steps roots now) (c.add_ins.ensures.told now)

pub returns-clause-reach : goal.returns-clause-reach
returns-clause-reach c =
    let steps = c.args.plan.now.steps in
    let step = c.args.step.now in
    let list = c.in_ok-list.list in
    let f = c.add_ins.new.sights.facts in
    let r = c.add_ins.new.self in
    let dirs : dirs_at f list ≡ Some step.dirs = c.add_ins.ensures.learns.grows.dirs list step.dirs (c.in_ok-list.ensures.list ∙ ap Some c.as_slice.ensures) in
    let ins = c.as_slice-2.ensures in
    let adds = subst (λ (e : Reach). Adds (IsNumberOf f step.ins) e.members r.members) c.empty-reach.ensures (subst (λ l. Adds (IsNumberOf f l) c.empty-reach.result.members r.members) ins c.add_ins.ensures.adds) in
    let whole = subst (λ l. (path : List ℕ) → Contains l path → (n : ℕ) × Contains r.members n × (path_at f n ≡ Some path)) ins c.in_ok-add_ins.ensures.whole in
    subst (IsReachOf steps OfNone step f) (sym (untaken_is list c.empty-reach.result r c.empty-reach.ensures c.add_ins.ensures.same)) (opened steps step f list r.members dirs adds whole c.add_ins.ensures.numbered)

pub returns-clause-untaken : goal.returns-clause-untaken
returns-clause-untaken c =
    let is = untaken_is c.in_ok-list.list c.empty-reach.result c.add_ins.new.self c.empty-reach.ensures c.add_ins.ensures.same in
    (ap (λ (x : Reach). x.done) is, ap (λ (x : Reach). x.pending) is)

pub returns-clause-learns : goal.returns-clause-learns
returns-clause-learns c =
    let steps = c.args.plan.now.steps in
    let roots = c.args.plan.now.roots in
    learns_then steps roots OfNone c.args.sights.now.facts c.list_number.new.self c.add_ins.new.sights.facts (c.list_number.ensures.learns steps roots) c.add_ins.ensures.learns

pub returns-clause-told : goal.returns-clause-told
returns-clause-told c now =
    let steps = c.args.plan.now.steps in
    let roots = c.args.plan.now.roots in
    true_then steps roots OfNone now c.args.sights.now.facts c.list_number.new.self c.add_ins.new.sights.facts (c.list_number.ensures.learns steps roots) (c.list_number.ensures.told steps roots now) (c.add_ins.ensures.told now)
