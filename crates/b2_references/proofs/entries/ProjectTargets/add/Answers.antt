use Rattle.std.proofs.Common.{◌∙◌, ◌++◌, ◌∷◌, [], List, ℕ, Some, cond, ap}
use Rattle.std.specs.FinMap.{get}
use Rattle.std.specs.Str.{bytes_eq}
use Rattle.b2_references.proofs.LoopsTakeOneMore.{put_back}
use Rattle.b2_references.proofs.entries.ProjectTargets.add.Goals as goal

pub returns-clause-numbers : goal.returns-clause-numbers
returns-clause-numbers c = λ other.
    let old = c.args.self.now.numbers in
    put_back old c.take.new.self.numbers c.insert.new.self c.args.name.now c.in_ok-copy.field-0 other c.push.new.self c.in_ok-_before.ensures.ok c.in_ok-numbers.ensures.numbers c.in_ok-copy.ensures
    ∙ ap (λ (ns : List ℕ). cond (bytes_eq other c.args.name.now) (Some ns) (get old other)) (c.in_ok-push.ensures.ok ∙ ap (λ (ns : List ℕ). ns ++ c.args.number ∷ []) c.in_ok-numbers.ensures.taken)
