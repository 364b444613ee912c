-- Two plans or faults of one request are the same; for a main target too, which keeps the steps and may be remembered.
use Rattle.std.proofs.Common.{◌≡◌, List, [], ◌∷◌, Ok, Err, refl, sym, ap, subst, ◌∙◌}
use Rattle.b2_plan.specs.declared.step.Step.{Step}
use Rattle.b2_references.specs.declared.asked.AskedPiece.{AskedPiece}
use Rattle.b2_references.specs.declared.asked.AskedPiece.TheVariants.{Main, NoTarget}
use Rattle.b2_alternatives.specs.Choosing.{Chosen}
use Rattle.b2_alternatives.proofs.TargetAndSetDecideChoice.{one_choice_law}
use Rattle.b2_making.proofs.ActsHaveOneOutcome.{one_kind}
use Rattle.b2_generate.specs.Answers.{Generated, Outcome}
use Rattle.b2_generate.specs.Faults.{no_target}
use Rattle.b2_generate.specs.Generation.{Generates, Finishes, finished_by, site}
use Rattle.b2_generate.specs.Laws.{OnePlan, OneOutcome, StepsStay, OpensClosed, MayBeRemembered}
use Rattle.b2_generate.specs.LoadedProjects.{LoadedProject, returned, context}
use Rattle.b2_generate.specs.Pieces.{after_these}
use Rattle.b2_generate.specs.Planning.{planned_of, Answers as Answered, all_given, names_nothing, refused, refused_later, given as given_first}
use Rattle.b2_generate.specs.OpenTargets.{Standing}
use Rattle.b2_generate.proofs.MakingAgainGivesTheSame.{lawful}
use Rattle.b2_generate.proofs.TargetHasOneOutcome.{IsSettled, one_generated}
use Rattle.b2_generate.proofs.OutcomeIsTheSameAgain.{generated_stays, generated_closed, generated_again}

module _ {E : Type 0} (l : LoadedProject E) where
  one_end : (c : Chosen) (s : Standing) (before : List Step) (a b : Outcome E Generated) → Finishes l c s before a → Finishes l c s before b → a ≡ b
  one_end c s before a b x y =
      x.is ∙ ap (finished_by l c s) (one_kind (context l) (site l c s) c.target.kind before x.made y.made x.makes y.makes) ∙ sym y.is

  pub settled : IsSettled l
  settled = record {
    one_choice = λ name set a b x y. one_choice_law l.declared (returned l) name set a b x y;
    one_end = one_end;
  }

  -- what comes of the first piece, and then of the others
  abbrev Follows : List AskedPiece → Outcome E Generated → Outcome E (List Generated) → Type 0
  Follows more (Ok (first, between)) outcome = (others : Outcome E (List Generated)) × Answered l more between others × (outcome ≡ after_these (first ∷ []) others)
  Follows more (Err fault) outcome = outcome ≡ Err fault

  abbrev Comes : List AskedPiece → List Step → Outcome E (List Generated) → Type 0
  Comes [] before outcome = outcome ≡ Ok ([], before)
  Comes (NoTarget word ∷ more) before outcome = outcome ≡ Err (no_target word)
  Comes (Main name set ∷ more) before outcome = (first : Outcome E Generated) × Generates l [] name set before first × Follows more first outcome

  comes : (pieces : List AskedPiece) (before : List Step) (outcome : Outcome E (List Generated)) → Answered l pieces before outcome → Comes pieces before outcome
  comes pieces before outcome (all_given _) = refl
  comes pieces before outcome (names_nothing word more _) = refl
  comes pieces before outcome (refused name set more _ fault generates) = (Err fault, generates, refl)
  comes pieces before outcome (refused_later name set more _ between first fault generates others) = (Ok (first, between), generates, (Err fault, others, refl))
  comes pieces before outcome (given_first name set more _ between after first rest generates others) = (Ok (first, between), generates, (Ok (rest, after), others, refl))

  one_end_of : (more : List AskedPiece) (a b : Outcome E (List Generated)) (first : Outcome E Generated)
      → ((between : List Step) (x y : Outcome E (List Generated)) → Answered l more between x → Answered l more between y → x ≡ y) → Follows more first a → Follows more first b → a ≡ b
  one_end_of more a b (Err fault) one x y = x ∙ sym y
  one_end_of more a b (Ok (first, between)) one (x, left, e) (y, right, f) = e ∙ ap (after_these (first ∷ [])) (one between x y left right) ∙ sym f

  one_answered : (pieces : List AskedPiece) (before : List Step) (a b : Outcome E (List Generated)) → Answered l pieces before a → Answered l pieces before b → a ≡ b
  one_answered [] before a b x y = comes [] before a x ∙ sym (comes [] before b y)
  one_answered (NoTarget word ∷ more) before a b x y = comes (NoTarget word ∷ more) before a x ∙ sym (comes (NoTarget word ∷ more) before b y)
  one_answered (Main name set ∷ more) before a b x y =
      let p = comes (Main name set ∷ more) before a x in
      let q = comes (Main name set ∷ more) before b y in
      one_end_of more a b p.0 (one_answered more) p.2
      (subst (λ (first : Outcome E Generated). Follows more first b) (sym (one_generated l settled [] name set before p.0 q.0 p.1 q.1)) q.2)

pub one_plan : {E : Type 0} → OnePlan E
one_plan l sets words a b x y = x.is ∙ ap (planned_of l) (one_answered l _ [] x.outcome y.outcome x.answers y.answers) ∙ sym y.is

-- ---- one main target

pub one_outcome : {E : Type 0} → OneOutcome E
one_outcome l above name set before a b x y = one_generated l (settled l) above name set before a b x y

pub steps_stay : {E : Type 0} → StepsStay E
steps_stay l above name set before after given generates = generated_stays l (lawful l) above name set before after given generates

pub opens_closed : {E : Type 0} → OpensClosed E
opens_closed l above name set before after given generates = generated_closed l (lawful l) above name set before after given generates

pub again : {E : Type 0} → MayBeRemembered E
again l above others name set before after later given generates stand closed = generated_again l (lawful l) above others name set before after later given generates stand closed
