use Rattle.std.proofs.Common.{◌∷◌, [], List, Bor, sym, ap, subst, ◌∙◌}
use Rattle.std.specs.List.{Contains, slice_get}
use Rattle.std.proofs.lemmas.List.{take_all}
use Rattle.jam_journal.specs.Scopes.{Value}
use Rattle.jam_graph.specs.declared.graph.Act.{Act}
use Rattle.jam_engine.proofs.AlikeFound.{at_get}
use Rattle.jam_engine.proofs.LabelsHold.{search_within, named_at, opened_more}
use Rattle.jam_engine.proofs.LinksOpen.{all_opened}
use Rattle.jam_engine.proofs.links.Links.open_all.Goals as goal

pub open-requires-clause-search : goal.open-requires-clause-search
open-requires-clause-search c = (c.args.place ∷ [], c.loop-target.invariant.search)

pub open-requires-clause-named : goal.open-requires-clause-named
open-requires-clause-named c =
    let self = c.args.self.now in
    let place = c.args.place in
    let act = c.index-acts-place.result in
    let h = c.loop-target.invariant in
    let at = at_get self.acts.now place act (search_within c.args.first place c.args.stack.now.items self c.requires) c.index-acts-place.is in
    let links = c.loop-target.self in
    named_at c.args.first place c.loop-target.target-index act c.target-item.result c.as_slice-target-items.result.now c.loop-target.stack.items links h.search (ap (λ (acts : Bor (List Act)). slice_get acts.now place) h.acts ∙ at)
    (c.as_slice-target-items.ensures ∙ ap (λ (a : Act). a.targets) (sym c.index-acts-place.is)) c.loop-target-test.true c.target-item.is

pub loop-target-preserved : goal.loop-target-preserved
loop-target-preserved c =
    let h = c.loop-target.invariant in
    let targets = c.as_slice-target-items.result.now in
    record {
      search = c.in_ok-open.ensures.search (c.args.place ∷ []) h.search;
      opened = opened_more targets c.loop-target.target-index c.target-item.result c.loop-target.self.opened c.open.new.self.opened c.loop-target-test.true c.target-item.is c.in_ok-open.ensures.opened c.in_ok-open.ensures.stays h.opened;
      acts = c.in_ok-open.ensures.acts ∙ h.acts;
      waiting = c.in_ok-open.ensures.waiting ∙ h.waiting;
    }

pub returns-clause-search : goal.returns-clause-search
returns-clause-search c =
    let self = c.args.self.now in
    let place = c.args.place in
    let act = c.index-acts-place.result in
    let h = c.loop-target.invariant in
    let targets = c.as_slice-target-items.result.now in
    let at = at_get self.acts.now place act (search_within c.args.first place c.args.stack.now.items self c.requires) c.index-acts-place.is in
    let all = take_all c.loop-target.target-index targets c.loop-target-test.false ∙ c.as_slice-target-items.ensures ∙ ap (λ (a : Act). a.targets) (sym c.index-acts-place.is) in
    all_opened c.args.first place act c.loop-target.stack.items c.loop-target.self (ap (λ (acts : Bor (List Act)). slice_get acts.now place) h.acts ∙ at)
    (λ text c₁. h.opened text (subst (λ (l : Value). Contains l text) (sym all) c₁)) h.search
