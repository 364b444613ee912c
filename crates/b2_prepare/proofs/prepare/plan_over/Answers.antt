use Rattle.std.proofs.Common.{◌≡◌, refl, ap, sym, subst, ◌∙◌, rules}
use Rattle.b2_host.specs.OutsideLaws.{Keeps}
use Rattle.b2_host.specs.Outside.{Outside}
use Rattle.b2_own_text.specs.KeptState.{Held}
use Rattle.b2_prepare.specs.Again.{Settles}
use Rattle.b2_prepare.proofs.LentHostTellsTheSame.{bin_there, told_own, counted_own}
use Rattle.b2_prepare.proofs.RequestGetsPlanOrRefusal.{settled_over}
use Rattle.b2_prepare.proofs.prepare.plan_over.Goals as goal

pub new-own-requires-clause-entry : goal.new-own-requires-clause-entry
new-own-requires-clause-entry g c = c.requires.entry

pub new-own-requires-clause-closed : goal.new-own-requires-clause-closed
new-own-requires-clause-closed g c = c.requires.step

pub plan_in-evaluator-requires-clause-numbered : goal.plan_in-evaluator-requires-clause-numbered
plan_in-evaluator-requires-clause-numbered g c = c.requires.numbered

pub plan_in-evaluator-requires-clause-bin : goal.plan_in-evaluator-requires-clause-bin
plan_in-evaluator-requires-clause-bin g c = bin_there c.copy_paths-roots.result c.roots.result.now c.roots.ensures.first.0 c.copy_paths-roots.ensures c.roots.ensures.first.1

pub settled-own-requires-clause-numbered : goal.settled-own-requires-clause-numbered
settled-own-requires-clause-numbered g c = c.requires.numbered

pub settled-own-requires-clause-places : goal.settled-own-requires-clause-places
settled-own-requires-clause-places g c = ap (λ (h : Held). h.projects) c.plan_in-evaluator.ensures.leaves.same_kept ∙ c.new-own.ensures.projects ∙ c.as_slice.ensures

pub returns : goal.returns
returns g c =
    let outside = g.F.Files.outside in
    let own = c.new-own in
    let planned = c.plan_in-evaluator in
    let ended = c.settled-own in
    let back = c.into_files-files in
    let kept = planned.ensures.leaves.same_kept in
    let found = c.args.declared.now in
    let sets = c.args.request.now.sets in
    let targets = c.args.request.now.targets in
    let host : ended.result.own.host.files.ghost_name ≡ own.result.host.files.ghost_name = ended.ensures.same_reference ∙ ap (λ (h : Held). h.host) kept in
    let same : back.result.now ≡ c.files-1.given.0 = search rules in
    let from = outside c.args.files.now in
    let mid = outside planned.result.evaluator.host.files.now in
    let to = outside c.files-1.given.0 in
    let to_is : outside back.result.now ≡ to = ap outside same in
    let start_is : outside own.result.host.files.now ≡ from = ap outside own.ensures.files in
    let end_is : outside ended.result.own.host.files.now ≡ to = ap outside (sym back.ensures.files ∙ same) in
    settled_over found c.args.world c.args.request.now c.roots.result.now from mid to planned.result.result
    (told_own found c.args.world c.args.request.now c.roots.result.now from planned.result.result
    own.result.projects.now own.result.loaded.world (outside own.result.host.files.now) (own.ensures.projects ∙ c.as_slice.ensures) own.ensures.world start_is
    (planned.ensures.told c.roots.result.now c.copy_paths-roots.ensures))
    c.roots.ensures.same planned.ensures.apart planned.ensures.sets planned.ensures.leaves.known
    (counted_own from mid (outside own.result.host.files.now) mid planned.result.result start_is refl planned.ensures.leaves.counted)
    (ap (λ (h : Held). h.disk) kept ∙ ap (λ (o : Outside). o.disk) start_is)
    ended.result.result
    (subst (λ ws. Settles found ws sets targets planned.result.result mid to ended.result.result) (ap (λ (h : Held). h.worlds) kept ∙ own.ensures.world)
    (subst (λ (o : Outside). Settles found planned.result.evaluator.loaded.world sets targets planned.result.result mid o ended.result.result) end_is ended.ensures.settles))
    (ap (λ (o : Outside). o.disk) (sym to_is) ∙ back.ensures.disk ∙ sym (ap (λ (o : Outside). o.disk) c.requires.entry))
    (ap (λ (o : Outside). o.children) (sym to_is) ∙ back.ensures.children ∙ sym (ap (λ (o : Outside). o.children) c.requires.entry))
    (subst (λ (o : Outside). Keeps o to) (sym c.requires.entry) (subst (λ (o : Outside). Keeps g.S.LendingMoment.outside o) to_is back.ensures.keeps))
