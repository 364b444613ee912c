use Rattle.std.proofs.Common.{◌≡◌, true, Bool, sym, ap, refl, subst, ◌∙◌}
use Rattle.std.specs.FinMap.{insert}
use Rattle.jam_journal.specs.Tables.{Text, Names}
use Rattle.jam_engine.specs.Tables.{is_in}
use Rattle.jam_engine.proofs.LabelsHold.{makers_within, opens_on}
use Rattle.jam_engine.proofs.LinksOpen.{opened_stays, is_opened}
use Rattle.jam_engine.proofs.MeetsByLook.{by_look, on_ok}
use Rattle.jam_engine.proofs.links.Links.open.Goals as goal

pub label_all-requires : goal.label_all-requires
label_all-requires c =
    let self = c.args.self.now in
    let right = c.requires.search.1.right in
    makers_within self.acts.now c.args.target.now c.numbers_of-places.result.now self.labels.items (c.numbers_of-places.ensures ∙ right.makers c.args.target.now) right.count

pub returns-clause-search : goal.returns-clause-search
returns-clause-search c own h =
    let self = c.args.self.now in
    let target = c.args.target.now in
    opens_on c.label_all.result c.args.first target own c.args.stack.now.items c.label_all.new.stack.items self _ refl refl (c.in_ok-_before.ensures.ok ∙ ap (λ (t : Text). insert self.opened t true) c.in_ok-key.ensures)
    (by_look self.opened target c.get.result c.is_some.result _ c.get.ensures c.is_some.ensures c.if-is_some.false) c.requires.named c.numbers_of-places.result.now (c.numbers_of-places.ensures ∙ h.right.makers target) c.label_all.ensures.more h

pub returns-clause-opened : goal.returns-clause-opened
returns-clause-opened c =
    let self = c.args.self.now in
    let target = c.args.target.now in
    let opens = c.in_ok-_before.ensures.ok ∙ ap (λ (t : Text). insert self.opened t true) c.in_ok-key.ensures in
    on_ok c.label_all.result (λ more. subst (λ (set : Names Bool). is_in set target ≡ true) (sym opens) (is_opened self.opened target)) c.label_all.ensures.more

pub returns-clause-stays : goal.returns-clause-stays
returns-clause-stays c =
    let self = c.args.self.now in
    let target = c.args.target.now in
    let opens = c.in_ok-_before.ensures.ok ∙ ap (λ (t : Text). insert self.opened t true) c.in_ok-key.ensures in
    on_ok c.label_all.result (λ more t e. subst (λ (set : Names Bool). is_in set t ≡ true) (sym opens) (opened_stays self.opened target t e)) c.label_all.ensures.more
