use Rattle.std.proofs.Common.{◌≡◌, reverse}
use Rattle.b2_generate.specs.Opening.{frames}
use Rattle.b2_generate.specs.Turning.{turns_of}
use Rattle.b2_generate.proofs.TurnsAnswerTheRequest.{IsRunning}
use Rattle.b2_generate.proofs.generation.Generation.generate.Given as goal

-- the main target that is asked for is the oldest open one
abbrev pub invariant-turns : goal.invariant-turns
invariant-turns g l =
    IsRunning g.E.Evaluate.answers g.E.Evaluate.kept g.E.Evaluate.faults l.fn.self.asker.index.now l.fn.self.roots.now l.fn.name l.fn.asked (reverse l.fn.self.nodes.list.items) l.fn.self.builder l.fn.self.asker.evaluator
    (reverse l.self.nodes.list.items) l.self.nodes.firsts (frames l.stack) l.self.builder l.self.asker.evaluator
    × (l.self.asker.index.now ≡ l.fn.self.asker.index.now) × (l.self.roots.now ≡ l.fn.self.roots.now)

abbrev pub decreases-turns : goal.decreases-turns
decreases-turns g l = turns_of l.fn.self.asker.index.now (reverse l.self.nodes.list.items) (frames l.stack)
