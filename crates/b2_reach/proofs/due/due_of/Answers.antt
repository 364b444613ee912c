use Rattle.std.proofs.Common.{◌≡◌, inl, inr, ℕ, true, List, Some, None, sym, subst, ◌∙◌}
use Rattle.b2_plan.specs.declared.step.Step.{Step}
use Rattle.b2_facts.specs.declared.file_facts.FileFacts.{FileFacts}
use Rattle.b2_facts.specs.Asks.{IsGivenBy, IsGivenBy.made as given_made, IsGivenBy.source as given_source, IsToldGiven}
use Rattle.b2_facts.proofs.ListsAtPlaces.{none_some}
use Rattle.b2_reach.specs.declared.due.Due.{Due}
use Rattle.b2_reach.specs.declared.due.Due.TheVariants as dues
use Rattle.b2_reach.specs.Files.{IsAtHand, IsAtHand.source as hand_source, IsAtHand.made as hand_made}
use Rattle.b2_reach.specs.Dues.{IsDue, IsMadeDue}
use Rattle.b2_reach.proofs.due.due_of.Goals as goal

-- a given file that no step makes is at hand
source_at_hand : (steps : List Step) (settled : ℕ → Type 0) (file : FileFacts) → file.maker ≡ None → IsGivenBy file → IsAtHand steps settled file
source_at_hand steps settled file unmade (given_made number made) = let none = none_some number (sym unmade ∙ made) in absurd none
source_at_hand steps settled file unmade (given_source stamp outside stands) = hand_source stamp unmade outside stands

-- what is to be done with a scanned output is what is due with it
due_of_made : (steps : List Step) (settled : ℕ → Type 0) (file : FileFacts) (number : ℕ) (due : Due) → file.maker ≡ Some number → file.scanned ≡ true → IsMadeDue steps settled number due → IsDue steps settled file due
due_of_made steps settled file number dues.Nothing made scanned is = inr (record { number = number; made = made; step = is.0; at = is.1; notfile = is.2 })
due_of_made steps settled file number dues.Lack made scanned is = absurd is
due_of_made steps settled file number dues.Wait made scanned is = (
  record { scanned = scanned; number = number; owed = record { made = made; step = is.0.0; at = is.0.1; owes = is.0.2 } },
  λ other made_too so. is.1 (subst settled (let e : Some other ≡ Some number = sym made_too ∙ made in let f : other ≡ number = cc in f) so),
)
due_of_made steps settled file number dues.Read made scanned is = (scanned, hand_made number (record { made = made; step = is.0.0; at = is.0.1; owes = is.0.2 }) is.1)

pub returns-then-not-file : goal.returns-then-not-file
returns-then-not-file c = inl (subst (IsToldGiven c.args.file.now) c.if-not-given.false c.requires.given, c.if-not-file.true)

pub returns-in-None : goal.returns-in-None
returns-in-None c = (
  c.if-not-file.false,
  source_at_hand c.args.plan.now.steps _ c.args.file.now c.in-None.is (subst (IsToldGiven c.args.file.now) c.if-not-given.false c.requires.given),
)

pub returns-in-Some : goal.returns-in-Some
returns-in-Some c = due_of_made c.args.plan.now.steps _ c.args.file.now c.in-Some.number c.made_due.result c.in-Some.is c.if-not-file.false c.made_due.ensures
