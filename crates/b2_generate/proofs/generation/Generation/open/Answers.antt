use Rattle.std.proofs.Common.{ℕ, ◌∷◌, Option, ap, map, reverse, refl, sym, subst, ◌∙◌}
use Rattle.b2_alternatives.specs.Picking.{seen}
use Rattle.b2_references.specs.Names.{is_among}
use Rattle.b2_generate.specs.Machine.{frame_of, standing_of, names_of}
use Rattle.b2_generate.specs.Opening.{frames}
use Rattle.b2_generate.specs.Stack.{IsUnderWay}
use Rattle.b2_generate.specs.ToldOutcomes.{loaded_of}
use Rattle.b2_generate.specs.Turning.{GoOn, turns_of}
use Rattle.b2_generate.proofs.GivenStaysWithMoreNodes.{none_added}
use Rattle.b2_generate.proofs.DueTargetIsDeclared.{due_named}
use Rattle.b2_generate.proofs.EarlyExitGivesTheFault.{exit_is}
use Rattle.b2_generate.proofs.OpenTargetsAreKeptRightly.{opened_goes}
use Rattle.b2_generate.proofs.MakingAgainGivesTheSame.{due_is_new}
use Rattle.b2_generate.proofs.OpeningLeadsOn.{cycle_falls, unchosen_falls, opened_leads}
use Rattle.b2_generate.proofs.StepsAreThoseDefined.{grows_none}
use Rattle.b2_generate.proofs.TurnKeepsItsPromise.{stopped, ran_out, goes, frames_more}
use Rattle.b2_generate.proofs.generation.Generation.open.Goals as goal

pub cycle-requires : goal.cycle-requires
cycle-requires g c = sym c.is_open.ensures ∙ c.if-is_open.true

pub returns-in_err-cycle-clause-turn : goal.returns-in_err-cycle-clause-turn
returns-in_err-cycle-clause-turn g c = ran_out c.from_residual.result (exit_is c.from_residual.result _ c.from_residual.ensures.1) (grows_none _ _) refl refl

pub returns-then-is_open-clause-turn : goal.returns-then-is_open-clause-turn
returns-then-is_open-clause-turn g c =
    stopped {T = Option ℕ} _ _ refl (grows_none _ _)
    (λ answered is name set start way made.
    cycle_falls (loaded_of c.args.self.now.asker.index.now c.args.self.now.roots.now answered) name set start (reverse c.args.self.now.nodes.list.items) c.args.stack.now.newest (reverse c.args.stack.now.below.items)
    c.args.self.now.builder c.args.name c.args.asked way c.requires.waits g.E.Evaluate.is_host_fault g.E.Evaluate.is_out_of_memory c.in_ok-cycle.field-0 (sym c.is_open.ensures ∙ c.if-is_open.true) c.in_ok-cycle.ensures)
    (record { same_answers = refl; same_kept = refl; counted = refl; known = record {} })

pub begin-requires : goal.begin-requires
begin-requires g c = c.requires.ready.numbered

pub returns-in_err-frame-clause-turn : goal.returns-in_err-frame-clause-turn
returns-in_err-frame-clause-turn g c =
    stopped c.from_residual-in_err-frame.result c.in_err-frame.field-0.0 (exit_is c.from_residual-in_err-frame.result _ c.from_residual-in_err-frame.ensures.1) (grows_none _ _)
    (λ answered is name set start way made.
    unchosen_falls (loaded_of c.args.self.now.asker.index.now c.args.self.now.roots.now answered) name set start (reverse c.args.self.now.nodes.list.items) c.args.stack.now.newest (reverse c.args.stack.now.below.items)
    c.args.self.now.builder c.args.name c.args.asked way c.requires.waits g.E.Evaluate.is_host_fault g.E.Evaluate.is_out_of_memory c.in_err-frame.field-0.0 (sym c.is_open.ensures ∙ c.if-is_open.false) (c.in_err-frame.ensures.refused answered is))
    c.in_err-frame.ensures.leaves

pub open-requires : goal.open-requires
open-requires g c = record { closed = ap (is_among (names_of (frames c.args.stack.now))) c.in_ok-frame.ensures.opened.named ∙ sym c.is_open.ensures ∙ c.if-is_open.false }

pub returns-in_err-open-clause-turn : goal.returns-in_err-open-clause-turn
returns-in_err-open-clause-turn g c =
    ran_out c.from_residual-in_err-open.result (exit_is c.from_residual-in_err-open.result _ c.from_residual-in_err-open.ensures.1) (grows_none _ _) c.in_ok-frame.ensures.leaves.same_answers c.in_ok-frame.ensures.leaves.same_kept

pub returns-clause-turn : goal.returns-clause-turn
returns-clause-turn g c =
    let d = c.args.self.now.asker.index.now in
    let nodes = reverse c.args.self.now.nodes.list.items in
    let f = c.args.stack.now.newest in
    let below = reverse c.args.stack.now.below.items in
    let h = c.in_ok-frame.frame in
    let frames_are = frames_more c.open.new.self.newest f h c.open.new.self.below.items c.args.stack.now.below.items c.in_ok-open.ensures.newest c.in_ok-open.ensures.below in
    let closed = sym c.is_open.ensures ∙ c.if-is_open.false in
    goes
    (subst (GoOn d (turns_of d nodes (f ∷ below)) nodes c.args.self.now.nodes.firsts) (sym frames_are)
    (opened_goes d nodes c.args.self.now.nodes.firsts f below c.requires.ready c.requires.kept c.args.name
    (due_named d (seen f.name f.chosen) (standing_of nodes f) c.args.name c.requires.waits.due) (due_is_new d (seen f.name f.chosen) (standing_of nodes f) c.args.name c.requires.waits.due)
    c.args.asked c.earliest_for-earliest.result h closed c.in_ok-frame.ensures.opened c.earliest_for-earliest.ensures.below c.earliest_for-earliest.ensures.from))
    (λ answered is name set start way made. (
      subst (λ fs. IsUnderWay (loaded_of d c.args.self.now.roots.now answered) name set start (map (frame_of nodes) fs) c.args.self.now.builder) (sym frames_are)
          (opened_leads (loaded_of d c.args.self.now.roots.now answered) name set start nodes f below c.args.self.now.builder c.args.name c.args.asked way c.requires.waits c.earliest_for-earliest.result h closed
          c.in_ok-frame.ensures.opened (c.in_ok-frame.ensures.chosen answered is)),
      made,
    ))
    (grows_none _ _) (none_added _) c.in_ok-frame.ensures.leaves.same_answers c.in_ok-frame.ensures.leaves.same_kept c.in_ok-frame.ensures.leaves.counted

pub returns-in_err-cycle-clause-project : goal.returns-in_err-cycle-clause-project
returns-in_err-cycle-clause-project g c = refl

pub returns-then-is_open-clause-project : goal.returns-then-is_open-clause-project
returns-then-is_open-clause-project g c = refl

pub returns-in_err-frame-clause-project : goal.returns-in_err-frame-clause-project
returns-in_err-frame-clause-project g c = c.in_err-frame.ensures.project

pub returns-in_err-open-clause-project : goal.returns-in_err-open-clause-project
returns-in_err-open-clause-project g c = c.in_ok-frame.ensures.project

pub returns-clause-project : goal.returns-clause-project
returns-clause-project g c = c.in_ok-frame.ensures.project

pub returns-in_err-cycle-clause-roots : goal.returns-in_err-cycle-clause-roots
returns-in_err-cycle-clause-roots g c = refl

pub returns-then-is_open-clause-roots : goal.returns-then-is_open-clause-roots
returns-then-is_open-clause-roots g c = refl

pub returns-in_err-frame-clause-roots : goal.returns-in_err-frame-clause-roots
returns-in_err-frame-clause-roots g c = refl

pub returns-in_err-open-clause-roots : goal.returns-in_err-open-clause-roots
returns-in_err-open-clause-roots g c = refl

pub returns-clause-roots : goal.returns-clause-roots
returns-clause-roots g c = refl
