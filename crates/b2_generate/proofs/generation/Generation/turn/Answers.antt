use Rattle.std.proofs.Common.{◌≡◌, ℕ, ◌∷◌, Option, IfOk, map, reverse, refl, sym, subst, ◌∙◌}
use Rattle.b2_alternatives.specs.Needs as needs
use Rattle.b2_alternatives.specs.Picking.{seen}
use Rattle.b2_generate.specs.Faults.{no_target}
use Rattle.b2_generate.specs.Generation.{names_nothing}
use Rattle.b2_generate.specs.Machine.{frame_of, standing_of}
use Rattle.b2_generate.specs.Stack.{opened}
use Rattle.b2_generate.specs.OpenTargets.{under}
use Rattle.b2_generate.specs.ToldOutcomes.{loaded_of}
use Rattle.b2_generate.proofs.EarlyExitGivesTheFault.{exit_is}
use Rattle.b2_generate.proofs.StepsAreThoseDefined.{grows_none}
use Rattle.b2_generate.proofs.StackLeadsToTheOutcome.{falls}
use Rattle.b2_generate.proofs.TurnKeepsItsPromise.{stopped, ran_out, turn_from, needs_stay, needs_kept, next_there}
use Rattle.b2_generate.proofs.generation.Generation.turn.Goals as goal

pub invariant_of-stack : goal.invariant_of-stack
invariant_of-stack g c = record { found = c.args.stack.now.found; closed = c.args.stack.now.closed }

pub returns-in_err-next-clause-turn : goal.returns-in_err-next-clause-turn
returns-in_err-next-clause-turn g c = ran_out c.from_residual.result (exit_is c.from_residual.result _ c.from_residual.ensures.1) (grows_none _ _) refl refl

pub returns-in_err-next-clause-project : goal.returns-in_err-next-clause-project
returns-in_err-next-clause-project g c = refl

pub returns-in_err-next-clause-roots : goal.returns-in_err-next-clause-roots
returns-in_err-next-clause-roots g c = refl

pub returns-in-Missing-clause-project : goal.returns-in-Missing-clause-project
returns-in-Missing-clause-project g c = refl

pub returns-in-Missing-clause-roots : goal.returns-in-Missing-clause-roots
returns-in-Missing-clause-roots g c = refl

pub close-requires-clause-ready : goal.close-requires-clause-ready
close-requires-clause-ready g c = c.requires.ready

pub close-requires-clause-kept : goal.close-requires-clause-kept
close-requires-clause-kept g c = needs_kept c.args.self.now.asker.index.now (reverse c.args.self.now.nodes.list.items) c.args.stack.now.newest (reverse c.args.stack.now.below.items) c.next.new.self c.requires.kept (c.next.ensures.stand c.args.self.now.asker.index.now c.args.stack.now.newest.chosen.target.now (under (standing_of (reverse c.args.self.now.nodes.list.items) c.args.stack.now.newest)) c.requires.kept.2.stand)

pub close-requires-clause-complete : goal.close-requires-clause-complete
close-requires-clause-complete g c =
    next_there c.args.self.now.asker.index.now (reverse c.args.self.now.nodes.list.items) c.args.stack.now.newest c.next.new.self c.in_ok-next.field-0 _ (c.next.ensures.stand c.args.self.now.asker.index.now c.args.stack.now.newest.chosen.target.now (under (standing_of (reverse c.args.self.now.nodes.list.items) c.args.stack.now.newest)) c.requires.kept.2.stand) c.in-Complete.is
    (subst (λ r. IfOk r (λ found. found ≡ needs.next c.args.self.now.asker.index.now c.args.stack.now.newest.chosen.target.now (under (standing_of (reverse c.args.self.now.nodes.list.items) c.args.stack.now.newest)))) c.in_ok-next.was (c.next.ensures.next c.args.self.now.asker.index.now c.args.stack.now.newest.chosen.target.now (under (standing_of (reverse c.args.self.now.nodes.list.items) c.args.stack.now.newest)) c.requires.kept.2.stand))

pub returns-in-Complete-clause-turn : goal.returns-in-Complete-clause-turn
returns-in-Complete-clause-turn g c =
    turn_from (record c.args.stack.now.newest { needs = c.next.new.self } ∷ (reverse c.args.stack.now.below.items)) (c.args.stack.now.newest ∷ (reverse c.args.stack.now.below.items))
    (λ i. needs_stay c.args.self.now.asker.index.now (reverse c.args.self.now.nodes.list.items)
    c.args.stack.now.newest (record c.args.stack.now.newest { needs = c.next.new.self }) c.next.new.self refl
    c.requires.kept.2 (c.next.ensures.stand c.args.self.now.asker.index.now
    c.args.stack.now.newest.chosen.target.now (under (standing_of (reverse c.args.self.now.nodes.list.items)
    c.args.stack.now.newest)) c.requires.kept.2.stand) i ∷ map (frame_of (reverse
    c.args.self.now.nodes.list.items)) (reverse c.args.stack.now.below.items)) c.close.ensures.turn

pub returns-in-Complete-clause-project : goal.returns-in-Complete-clause-project
returns-in-Complete-clause-project g c = c.close.ensures.project

pub returns-in-Complete-clause-roots : goal.returns-in-Complete-clause-roots
returns-in-Complete-clause-roots g c = c.close.ensures.roots

pub supply-requires-clause-ready : goal.supply-requires-clause-ready
supply-requires-clause-ready g c = c.requires.ready

pub supply-requires-clause-kept : goal.supply-requires-clause-kept
supply-requires-clause-kept g c = needs_kept c.args.self.now.asker.index.now (reverse c.args.self.now.nodes.list.items) c.args.stack.now.newest (reverse c.args.stack.now.below.items) c.next.new.self c.requires.kept (c.next.ensures.stand c.args.self.now.asker.index.now c.args.stack.now.newest.chosen.target.now (under (standing_of (reverse c.args.self.now.nodes.list.items) c.args.stack.now.newest)) c.requires.kept.2.stand)

pub supply-requires-clause-due : goal.supply-requires-clause-due
supply-requires-clause-due g c =
    next_there c.args.self.now.asker.index.now (reverse c.args.self.now.nodes.list.items) c.args.stack.now.newest c.next.new.self c.in_ok-next.field-0 _ (c.next.ensures.stand c.args.self.now.asker.index.now c.args.stack.now.newest.chosen.target.now (under (standing_of (reverse c.args.self.now.nodes.list.items) c.args.stack.now.newest)) c.requires.kept.2.stand) c.in-Due.is
    (subst (λ r. IfOk r (λ found. found ≡ needs.next c.args.self.now.asker.index.now c.args.stack.now.newest.chosen.target.now (under (standing_of (reverse c.args.self.now.nodes.list.items) c.args.stack.now.newest)))) c.in_ok-next.was (c.next.ensures.next c.args.self.now.asker.index.now c.args.stack.now.newest.chosen.target.now (under (standing_of (reverse c.args.self.now.nodes.list.items) c.args.stack.now.newest)) c.requires.kept.2.stand))

pub returns-in-Due-clause-turn : goal.returns-in-Due-clause-turn
returns-in-Due-clause-turn g c =
    turn_from (record c.args.stack.now.newest { needs = c.next.new.self } ∷ (reverse c.args.stack.now.below.items)) (c.args.stack.now.newest ∷ (reverse c.args.stack.now.below.items))
    (λ i. needs_stay c.args.self.now.asker.index.now (reverse c.args.self.now.nodes.list.items)
    c.args.stack.now.newest (record c.args.stack.now.newest { needs = c.next.new.self }) c.next.new.self refl
    c.requires.kept.2 (c.next.ensures.stand c.args.self.now.asker.index.now
    c.args.stack.now.newest.chosen.target.now (under (standing_of (reverse c.args.self.now.nodes.list.items)
    c.args.stack.now.newest)) c.requires.kept.2.stand) i ∷ map (frame_of (reverse
    c.args.self.now.nodes.list.items)) (reverse c.args.stack.now.below.items)) c.supply.ensures.turn

pub returns-in-Due-clause-project : goal.returns-in-Due-clause-project
returns-in-Due-clause-project g c = c.supply.ensures.project

pub returns-in-Due-clause-roots : goal.returns-in-Due-clause-roots
returns-in-Due-clause-roots g c = c.supply.ensures.roots

pub returns-in-Missing-clause-turn : goal.returns-in-Missing-clause-turn
returns-in-Missing-clause-turn g c =
    stopped {T = Option ℕ} _ _ refl (grows_none _ _)
    (λ answered is name set start way made.
    falls (loaded_of c.args.self.now.asker.index.now c.args.self.now.roots.now answered) name set start (frame_of (reverse c.args.self.now.nodes.list.items) c.args.stack.now.newest) (map (frame_of (reverse c.args.self.now.nodes.list.items)) (reverse c.args.stack.now.below.items)) c.args.self.now.builder (no_target c.in-Missing.text) way
    (names_nothing (opened (map (frame_of (reverse c.args.self.now.nodes.list.items)) (c.args.stack.now.newest ∷ (reverse c.args.stack.now.below.items)))) (seen c.args.stack.now.newest.name c.args.stack.now.newest.chosen) (standing_of (reverse c.args.self.now.nodes.list.items) c.args.stack.now.newest) c.args.self.now.builder c.in-Missing.text
    (sym (subst (λ r. IfOk r (λ found. found ≡ needs.next c.args.self.now.asker.index.now c.args.stack.now.newest.chosen.target.now (under (standing_of (reverse c.args.self.now.nodes.list.items) c.args.stack.now.newest)))) c.in_ok-next.was (c.next.ensures.next c.args.self.now.asker.index.now c.args.stack.now.newest.chosen.target.now (under (standing_of (reverse c.args.self.now.nodes.list.items) c.args.stack.now.newest)) c.requires.kept.2.stand)) ∙ c.in-Missing.is)))
    (record { same_answers = refl; same_kept = refl; counted = refl; known = record {} })
