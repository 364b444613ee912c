use Rattle.std.proofs.Common.{◌∷◌, reverse, refl, sym, subst, ◌∙◌}
use Rattle.b2_generate.specs.Opening.{frames, AreReady}
use Rattle.b2_generate.specs.ToldOutcomes.{loaded_of}
use Rattle.b2_generate.specs.Machine.{AreKept}
use Rattle.b2_generate.proofs.EarlyExitGivesTheFault.{exit_is}
use Rattle.b2_generate.proofs.StepsAreThoseDefined.{grows_none}
use Rattle.b2_generate.proofs.TurnsAnswerTheRequest.{request_out, request_stops, unchosen_first, running_first, turn_at, run_on, run_fewer, run_ends, run_stops}
use Rattle.b2_generate.proofs.generation.Generation.generate.Goals as goal

pub begin-requires : goal.begin-requires
begin-requires g c = c.requires.ready.numbered

pub returns-in_err-oldest-clause-request : goal.returns-in_err-oldest-clause-request
returns-in_err-oldest-clause-request g c =
    request_stops c.from_residual.result c.in_err-oldest.field-0.0 (exit_is c.from_residual.result _ c.from_residual.ensures.1) (grows_none _ _)
    (λ answered is made. unchosen_first g.E.Evaluate.is_host_fault g.E.Evaluate.is_out_of_memory (loaded_of c.args.self.now.asker.index.now c.args.self.now.roots.now answered) c.args.name c.args.asked c.args.self.now.builder c.in_err-oldest.field-0.0 (c.in_err-oldest.ensures.refused answered is))
    c.in_err-oldest.ensures.leaves

pub turns-init : goal.turns-init
turns-init g c = (
  running_first c.earliest_for-earliest.result c.in_ok-oldest.oldest (frames c.new-stack.result) (λ i. c.new-stack.ensures.newest i ∷ reverse (c.new-stack.ensures.below i)) c.requires.ready c.in_ok-oldest.ensures.opened c.earliest_for-earliest.ensures.from
      c.in_ok-oldest.ensures.chosen c.in_ok-oldest.ensures.leaves.same_answers c.in_ok-oldest.ensures.leaves.same_kept c.in_ok-oldest.ensures.leaves.counted,
  c.in_ok-oldest.ensures.project,
  refl,
)

pub turn-requires-clause-ready : goal.turn-requires-clause-ready
turn-requires-clause-ready g c = subst (λ d. AreReady d (reverse c.turns.self.nodes.list.items) c.turns.self.nodes.firsts) (sym c.turns.invariant.1) c.turns.invariant.0.ready

pub turn-requires-clause-kept : goal.turn-requires-clause-kept
turn-requires-clause-kept g c = subst (λ d. AreKept (reverse c.turns.self.nodes.list.items) d (frames c.turns.stack)) (sym c.turns.invariant.1) c.turns.invariant.0.all_kept

pub returns-in_err-turn-clause-request : goal.returns-in_err-turn-clause-request
returns-in_err-turn-clause-request g c = run_stops c.turns.invariant.0 c.from_residual-in_err-turn.result c.in_err-turn.field-0.0 (exit_is c.from_residual-in_err-turn.result _ c.from_residual-in_err-turn.ensures.1) (turn_at c.turns.invariant.1 c.turns.invariant.2 c.in_err-turn.ensures.turn)

pub returns-in-Some-clause-request : goal.returns-in-Some-clause-request
returns-in-Some-clause-request g c = run_ends c.turns.invariant.0 c.in_ok-turn.field-0 c.in-Some.place c.in-Some.is (turn_at c.turns.invariant.1 c.turns.invariant.2 c.in_ok-turn.ensures.turn)

pub turns-preserved : goal.turns-preserved
turns-preserved g c = (run_on c.turns.invariant.0 c.in_ok-turn.field-0 c.in-None.is (turn_at c.turns.invariant.1 c.turns.invariant.2 c.in_ok-turn.ensures.turn), c.in_ok-turn.ensures.project ∙ c.turns.invariant.1, c.in_ok-turn.ensures.roots ∙ c.turns.invariant.2)

pub turns-smaller : goal.turns-smaller
turns-smaller g c = run_fewer c.turns.invariant.0 c.in_ok-turn.field-0 c.in-None.is (turn_at c.turns.invariant.1 c.turns.invariant.2 c.in_ok-turn.ensures.turn)

pub returns-in_err-oldest-clause-project : goal.returns-in_err-oldest-clause-project
returns-in_err-oldest-clause-project g c = c.in_err-oldest.ensures.project

pub returns-in_err-turn-clause-project : goal.returns-in_err-turn-clause-project
returns-in_err-turn-clause-project g c = c.in_err-turn.ensures.project ∙ c.turns.invariant.1

pub returns-in-Some-clause-project : goal.returns-in-Some-clause-project
returns-in-Some-clause-project g c = c.in_ok-turn.ensures.project ∙ c.turns.invariant.1

pub returns-in_err-oldest-clause-roots : goal.returns-in_err-oldest-clause-roots
returns-in_err-oldest-clause-roots g c = refl

pub returns-in_err-turn-clause-roots : goal.returns-in_err-turn-clause-roots
returns-in_err-turn-clause-roots g c = c.in_err-turn.ensures.roots ∙ c.turns.invariant.2

pub returns-in-Some-clause-roots : goal.returns-in-Some-clause-roots
returns-in-Some-clause-roots g c = c.in_ok-turn.ensures.roots ∙ c.turns.invariant.2
