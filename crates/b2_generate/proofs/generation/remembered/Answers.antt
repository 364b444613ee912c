use Rattle.std.proofs.Common.{◌<◌, ◌∙◌, ℕ, List, Option, IfSome, length, reverse, sym, subst}
use Rattle.std.proofs.lemmas.List.{length-reverse}
use Rattle.b2_generate.specs.Remembered.{IsAskedAt}
use Rattle.b2_generate.specs.declared.node.Node.{Node}
use Rattle.b2_generate.proofs.TurnKeepsItsPromise.{is_there}
use Rattle.b2_generate.proofs.generation.remembered.Goals as goal

pub is_clear-requires-clause-there : goal.is_clear-requires-clause-there
is_clear-requires-clause-there c =
    let listed = c.as_slice.result.now in
    let found = subst (λ (o : Option ℕ). IfSome o (λ place. IsAskedAt (reverse listed) place c.args.name.now c.args.asked.now)) c.in-Some.is c.find.ensures in
    subst (λ (xs : List Node). c.in-Some.place < length xs) (c.as_slice.ensures.value ∙ sym c.as_slice-in-Some.ensures.value)
    (subst (λ (count : ℕ). c.in-Some.place < count) (length-reverse listed) (is_there (reverse listed) c.in-Some.place found.node found.there))
