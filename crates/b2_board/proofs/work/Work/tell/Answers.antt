use Rattle.std.proofs.Common.{◌↔◌, ◌++◌, ℕ, List, length, drop, refl, ap, subst, ◌∙◌}
use Rattle.std.specs.List.{Contains}
use Rattle.b2_board.specs.Needs.{TellsNeeds}
use Rattle.b2_board.specs.Works.{HasOutputOf}
use Rattle.b2_board.proofs.MakersAreTold.{output_wider}
use Rattle.b2_board.proofs.LookTellsWhatIsFound.{among_dropped, rest_of, tells_no_maker, makers_told}
use Rattle.b2_board.proofs.work.Work.tell.Goals as goal

pub returns-then-self-members-clause-tells : goal.returns-then-self-members-clause-tells
returns-then-self-members-clause-tells c = tells_no_maker c.args.facts.now c.args.number c.args.self.now c.args.sched.now (c.if-self-members.true ∙ ap length c.as_slice-members.ensures)

pub makers_of-requires : goal.makers_of-requires
makers_of-requires c = λ n among.
    let w = c.args.self.now in
    c.requires.numbers n (among_dropped w.reach.members w.told n (subst (λ (l : List ℕ). Contains l n) (rest_of c.as_slice-members.result.now w.reach.members w.told c.as_slice-members.ensures) among))

pub tell_needs-requires-clause-on : goal.tell_needs-requires-clause-on
tell_needs-requires-clause-on c = λ k among.
    let w = c.args.self.now in
    let rest = rest_of c.as_slice-members.result.now w.reach.members w.told c.as_slice-members.ensures in
    let output : HasOutputOf c.args.facts.now (drop w.told w.reach.members) k = subst (λ (l : List ℕ). HasOutputOf c.args.facts.now l k) rest ((c.in_ok-makers.ensures k).0 (subst (λ (l : List ℕ). Contains l k) c.as_slice.ensures.value among)) in
    c.requires.steps k (output_wider c.args.facts.now (drop w.told w.reach.members) w.reach.members k (λ n dropped. among_dropped w.reach.members w.told n dropped) output)

pub returns-clause-tells : goal.returns-clause-tells
returns-clause-tells c =
    let w = c.args.self.now in
    let makers = c.in_ok-makers.makers.items in
    let rest = rest_of c.as_slice-members.result.now w.reach.members w.told c.as_slice-members.ensures in
    makers_told c.args.facts.now c.args.number w _ c.args.sched.now c.tell_needs.new.sched makers
    (subst (λ (l : List ℕ). (k : ℕ) → Contains makers k ↔ HasOutputOf c.args.facts.now l k) rest c.in_ok-makers.ensures)
    (subst (λ l. TellsNeeds c.args.number l c.args.sched.now c.tell_needs.new.sched) c.as_slice.ensures.value c.in_ok-tell_needs.ensures)
    refl (c.in_ok-extend.ensures.ok ∙ ap (λ l. w.waiting ++ l) c.as_slice-2.ensures.value) (ap length c.as_slice-3.ensures)
