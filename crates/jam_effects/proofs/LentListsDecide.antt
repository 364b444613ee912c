-- A condition on two lists is that on the first one and what the second one says.
use Rattle.std.proofs.Common.{Bool, Option, Some, None}
use Rattle.std.specs.Option.{IfSome}
use Rattle.jam_grammar.specs.Trees.{ArgTree, ArgTrees}
use Rattle.jam_journal.specs.Scopes.{Scopes, Value}
use Rattle.jam_effects.specs.Lending.{IsLent, IsSameLent, AreSameLent, IsWithinLent, AreWithinLent}

pub same_first : (scopes : Scopes) (first : Value) (left right : ArgTree) (found : Option Bool) → IsLent scopes left first → IfSome found (λ holds. IsSameLent scopes first right holds) → IfSome found (λ holds. AreSameLent scopes left right holds)
same_first scopes first left right None l h = tt
same_first scopes first left right (Some holds) l h = (first, l, h)

pub within_first : (scopes : Scopes) (texts : Value) (left : ArgTree) (among : ArgTrees) (found : Option Bool) → IsLent scopes left texts → IfSome found (λ holds. IsWithinLent scopes texts among holds) → IfSome found (λ holds. AreWithinLent scopes left among holds)
within_first scopes texts left among None l h = tt
within_first scopes texts left among (Some holds) l h = (texts, l, h)
