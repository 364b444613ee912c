use Rattle.std.proofs.Common.{◌∙◌, Some, inl, inr, sym, ap, subst}
use Rattle.std.specs.List.{Contains}
use Rattle.std.proofs.lemmas.List.Elements.{Contains-get_or}
use Rattle.b2_facts.specs.Facts.{IsNumber}
use Rattle.b2_facts.specs.Growth.{OfNone}
use Rattle.b2_facts.proofs.FactsGrow.{learns_then, true_then}
use Rattle.b2_reach.specs.declared.reach.Reach.{Reach}
use Rattle.b2_reach.specs.declared.sights.Sights.{Sights}
use Rattle.b2_reach.specs.Reaches.{IsNumberOf}
use Rattle.b2_reach.specs.Steps.{Adds}
use Rattle.b2_reach.proofs.MembersAreAdded.{adds_one, adds_map, added_there, added_stays, added_was, changes_then, taken_more}
use Rattle.b2_reach.proofs.ReachGrows.{number_grows, number_of_grows}
use Rattle.b2_reach.proofs.reach.Reach.add_ins.Goals as goal

pub returns-in_err-number-clause-numbered : goal.returns-in_err-number-clause-numbered
returns-in_err-number-clause-numbered c n among = number_grows c.loop-path.sights.facts c.number_of.new.self n c.number_of.ensures.learns.grows (c.loop-path.invariant.numbered n among)

pub returns-in_err-add-clause-adds : goal.returns-in_err-add-clause-adds
returns-in_err-add-clause-adds c =
    let ins = c.args.ins.now in
    let f = c.loop-path.sights.facts in
    let g = c.number_of.new.self in
    let before = c.args.self.now.members in
    let grown = c.number_of.ensures.learns.grows in
    subst (λ (r : Reach). Adds (IsNumberOf g ins) before r.members) (sym c.in_err-add.ensures.err)
    (adds_map (IsNumberOf f ins) (IsNumberOf g ins) before c.loop-path.self.members (λ n is. number_of_grows f g ins n grown is) c.loop-path.invariant.adds)

pub returns-in_err-add-clause-numbered : goal.returns-in_err-add-clause-numbered
returns-in_err-add-clause-numbered c n among =
    let f = c.loop-path.sights.facts in
    let g = c.number_of.new.self in
    number_grows f g n c.number_of.ensures.learns.grows (c.loop-path.invariant.numbered n (subst (λ (r : Reach). Contains r.members n) c.in_err-add.ensures.err among))

pub returns-in_err-add-clause-learns : goal.returns-in_err-add-clause-learns
returns-in_err-add-clause-learns c =
    learns_then c.args.plan.now.steps c.args.plan.now.roots OfNone c.args.sights.now.facts c.loop-path.sights.facts c.number_of.new.self c.loop-path.invariant.learns c.number_of.ensures.learns

pub loop-path-preserved : goal.loop-path-preserved
loop-path-preserved c =
    let steps = c.args.plan.now.steps in
    let roots = c.args.plan.now.roots in
    let ins = c.args.ins.now in
    let i = c.loop-path.path-index in
    let low = c.loop-path-test.true in
    let path = c.path-item.result in
    let number = c.in_ok-number.number in
    let first = c.args.sights.now.facts in
    let f = c.loop-path.sights.facts in
    let g = c.number_of.new.self in
    let before = c.args.self.now.members in
    let mid = c.loop-path.self.members in
    let after = c.add.new.self.members in
    let was = c.loop-path.invariant in
    let learned = c.number_of.ensures.learns in
    let one = c.in_ok-add.ensures.adds in
    record {
      sights = ap (λ (x : Sights). record x { facts = g; marks = c.add.new.marks }) was.sights;
      same = changes_then c.args.self.now c.loop-path.self c.add.new.self was.same c.add.ensures.same;
      numbered = λ n among. elim (added_was number mid after one n among) [
        | inl old ↦ number_grows f g n learned.grows (was.numbered n old)
        | inr e ↦ subst (IsNumber g) (sym e) c.in_ok-number.ensures.number
      ];
      adds = adds_one (IsNumberOf g ins) number before mid after
          (record { path = path; path_is = c.in_ok-number.ensures.place; among = subst (Contains ins) (sym c.path-item.is) (Contains-get_or ins i path low) }) one
          (adds_map (IsNumberOf f ins) (IsNumberOf g ins) before mid (λ n is. number_of_grows f g ins n learned.grows is) was.adds);
      whole = λ p among. elim (taken_more ins i path p low among) [
        | inl old ↦ (let (n, member, at) = was.whole p old in (n, added_stays number mid after one n member, learned.grows.paths n p at))
        | inr e ↦ (number, added_there number mid after one, c.in_ok-number.ensures.place ∙ ap Some (c.path-item.is ∙ e))
      ];
      marked = c.in_ok-add.ensures.marked;
      learns = learns_then steps roots OfNone first f g was.learns learned;
      told = λ now. true_then steps roots OfNone now first f g was.learns (was.told now) (c.number_of.ensures.told now);
    }
