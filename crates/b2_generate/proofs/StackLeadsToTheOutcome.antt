-- What each step of the stack of open targets says of the oldest one.
use Rattle.std.proofs.Common.{◌≡◌, false, List, [], ◌∷◌, ◌++◌, Some, None, Ok, Err, refl, sym, subst, ◌∙◌}
use Rattle.b2_references.specs.Names.{Name, is_among}
use Rattle.b2_props.specs.Sets.{Pair}
use Rattle.b2_plan.specs.declared.step.Step.{Step}
use Rattle.b2_alternatives.specs.Choosing.{Chooses, Chosen}
use Rattle.b2_generate.specs.Answers.{Generated, Outcome}
use Rattle.b2_alternatives.specs.declared.need.Next.TheVariants.{Complete}
use Rattle.b2_alternatives.specs.declared.conflict.Conflict.{Conflict}
use Rattle.b2_generate.specs.Faults.{Fault}
use Rattle.b2_generate.specs.LoadedProjects.{LoadedProject, returned}
use Rattle.b2_generate.specs.OpenTargets.{conflict, next}
use Rattle.b2_generate.specs.Generation.{Finishes, conflict_fault}
use Rattle.b2_generate.specs.Generation.{Generates, Depends, not_supplied, finished, complete_now, refused, conflicts, goes_on}
use Rattle.b2_generate.specs.Stack.{Frame, opened, IsBegun, Waits, IsUnderWay, fresh, supplied}

module _ {E : Type 0} (l : LoadedProject E) where
  -- ---- one target

  -- a target that is opened has come nowhere yet
  pub begun : (above : List Name) (name : Name) (asked : List Pair) (c : Chosen) (steps : List Step) → is_among above name ≡ false → Chooses l.declared (returned l) name asked (Ok c)
      → IsBegun l above (fresh name asked c) steps steps
  begun above name asked c steps closed chooses = record { closed = closed; chooses = chooses; leads = λ outcome d. d }

  -- its outcome, where it depends on nothing more
  pub ended : (above : List Name) (f : Frame) (before steps : List Step) (outcome : Outcome E Generated) → IsBegun l above f before steps
      → next l.declared f.chosen f.stands ≡ Complete → Finishes l f.chosen f.stands steps outcome → Generates l above f.name f.asked before outcome
  ended above f before steps outcome b is finishes =
      finished above f.name f.asked before steps f.chosen f.stands outcome b.closed b.chooses
      (b.leads (Ok (f.stands, steps)) (complete_now (above ++ f.name ∷ []) f.chosen f.stands steps is)) finishes

  -- its outcome, where what it depends on is refused
  pub failed : (above : List Name) (f : Frame) (before steps : List Step) (fault : Fault E) → IsBegun l above f before steps
      → Depends l (above ++ f.name ∷ []) f.chosen f.stands steps (Err fault) → Generates l above f.name f.asked before (Err fault)
  failed above f before steps fault b depends = not_supplied above f.name f.asked before f.chosen fault b.closed b.chooses (b.leads (Err fault) depends)

  -- it goes on after a target that it needs was generated
  pub resumed : (above : List Name) (f : Frame) (before steps between : List Step) (name : Name) (asked : List Pair) (given : Generated) → IsBegun l above f before steps
      → Waits l.declared f name asked → Generates l (above ++ f.name ∷ []) name asked steps (Ok (given, between)) → conflict l.declared f.stands given ≡ None
      → IsBegun l above (supplied l.declared f name given) before between
  resumed above f before steps between name asked given b waits made fits =
      record {
        closed = b.closed;
        chooses = b.chooses;
        leads = λ outcome d. b.leads outcome
            (goes_on (above ++ f.name ∷ []) f.chosen f.stands steps between name given outcome waits.due
            (subst (λ (set : List Pair). Generates l (above ++ f.name ∷ []) name set steps (Ok (given, between))) waits.handed made) fits d);
      }

  module _ (name : Name) (set : List Pair) (start : List Step) where
    -- the newest of them
    abbrev IsNewest : Frame → List Frame → List Step → List Step → Type 0
    IsNewest f [] before steps = (f.name ≡ name) × (f.asked ≡ set) × (before ≡ start)
    IsNewest f (g ∷ rest) before steps = Waits l.declared g f.name f.asked × IsUnderWay l name set start (g ∷ rest) before

    -- ---- all of them

    -- the newest was begun, and what stands below it
    pub newest : (f : Frame) (rest : List Frame) (steps : List Step) → IsUnderWay l name set start (f ∷ rest) steps
        → (before : List Step) × IsBegun l (opened rest) f before steps × IsNewest f rest before steps
    newest f [] steps (named, asked, b) = (start, b, (named, asked, refl))
    newest f (g ∷ rest) steps (before, b, waits, below) = (before, b, (waits, below))

    pub standing : (f g : Frame) (rest : List Frame) (before steps between : List Step) → g.name ≡ f.name → g.asked ≡ f.asked → IsNewest f rest before steps
        → IsBegun l (opened rest) g before between → IsUnderWay l name set start (g ∷ rest) between
    standing f g [] before steps between named asked (is, was, first) b =
        (named ∙ is, asked ∙ was, subst (λ (s : List Step). IsBegun l [] g s between) first b)
    standing f g (h ∷ rest) before steps between named asked (waits, below) b =
        (before, b, subst (λ (n : Name). Waits l.declared h n g.asked) (sym named) (subst (λ (s : List Pair). Waits l.declared h f.name s) (sym asked) waits), below)

    -- the oldest is opened
    pub opens_first : (c : Chosen) → Chooses l.declared (returned l) name set (Ok c) → IsUnderWay l name set start (fresh name set c ∷ []) start
    opens_first c chooses = (refl, refl, begun [] name set c start refl chooses)

    -- a target that is due is opened
    pub opens : (f : Frame) (rest : List Frame) (steps : List Step) (needed : Name) (asked : List Pair) (c : Chosen) → IsUnderWay l name set start (f ∷ rest) steps
        → Waits l.declared f needed asked → is_among (opened (f ∷ rest)) needed ≡ false → Chooses l.declared (returned l) needed asked (Ok c)
        → IsUnderWay l name set start (fresh needed asked c ∷ f ∷ rest) steps
    opens f rest steps needed asked c way waits closed chooses = (steps, begun (opened (f ∷ rest)) needed asked c steps closed chooses, waits, way)

    -- what is due is there already
    pub takes : (f : Frame) (rest : List Frame) (steps between : List Step) (needed : Name) (asked : List Pair) (given : Generated) → IsUnderWay l name set start (f ∷ rest) steps
        → Waits l.declared f needed asked → Generates l (opened (f ∷ rest)) needed asked steps (Ok (given, between)) → conflict l.declared f.stands given ≡ None
        → IsUnderWay l name set start (supplied l.declared f needed given ∷ rest) between
    takes f rest steps between needed asked given way waits made fits =
        let (before, b, new) = newest f rest steps way in
        standing f (supplied l.declared f needed given) rest before steps between refl refl new (resumed (opened rest) f before steps between needed asked given b waits made fits)

    -- the newest is generated, and the one below it goes on
    pub closes : (f g : Frame) (rest : List Frame) (steps between : List Step) (given : Generated) → IsUnderWay l name set start (f ∷ g ∷ rest) steps
        → next l.declared f.chosen f.stands ≡ Complete → Finishes l f.chosen f.stands steps (Ok (given, between)) → conflict l.declared g.stands given ≡ None
        → IsUnderWay l name set start (supplied l.declared g f.name given ∷ rest) between
    closes f g rest steps between given (before, b, waits, below) is finishes fits =
        takes g rest before between f.name f.asked given below waits (ended (opened (g ∷ rest)) f before steps (Ok (given, between)) b is finishes) fits

    -- the oldest has its outcome
    pub ends : (f : Frame) (steps : List Step) (outcome : Outcome E Generated) → IsUnderWay l name set start (f ∷ []) steps
        → next l.declared f.chosen f.stands ≡ Complete → Finishes l f.chosen f.stands steps outcome → Generates l [] name set start outcome
    ends f steps outcome (named, asked, b) is finishes =
        subst (λ (n : Name). Generates l [] n set start outcome) named
        (subst (λ (s : List Pair). Generates l [] f.name s start outcome) asked (ended [] f start steps outcome b is finishes))

    -- a fault of what the newest depends on is the outcome of the oldest
    pub falls : (f : Frame) (rest : List Frame) (steps : List Step) (fault : Fault E) → IsUnderWay l name set start (f ∷ rest) steps
        → Depends l (opened (f ∷ rest)) f.chosen f.stands steps (Err fault) → Generates l [] name set start (Err fault)
    falls f [] steps fault (named, asked, b) depends =
        subst (λ (n : Name). Generates l [] n set start (Err fault)) named
        (subst (λ (s : List Pair). Generates l [] f.name s start (Err fault)) asked (failed [] f start steps fault b depends))
    falls f (g ∷ rest) steps fault (before, b, waits, below) depends =
        falls g rest before fault below
        (refused (opened (g ∷ rest)) g.chosen g.stands before f.name fault waits.due
        (subst (λ (s : List Pair). Generates l (opened (g ∷ rest)) f.name s before (Err fault)) waits.handed
        (failed (opened (g ∷ rest)) f before steps fault b depends)))

    -- so is a fault of the newest itself
    pub falls_last : (f : Frame) (rest : List Frame) (steps : List Step) (fault : Fault E) → IsUnderWay l name set start (f ∷ rest) steps
        → next l.declared f.chosen f.stands ≡ Complete → Finishes l f.chosen f.stands steps (Err fault) → Generates l [] name set start (Err fault)
    falls_last f [] steps fault way is finishes = ends f steps (Err fault) way is finishes
    falls_last f (g ∷ rest) steps fault (before, b, waits, below) is finishes =
        falls g rest before fault below
        (refused (opened (g ∷ rest)) g.chosen g.stands before f.name fault waits.due
        (subst (λ (s : List Pair). Generates l (opened (g ∷ rest)) f.name s before (Err fault)) waits.handed
        (ended (opened (g ∷ rest)) f before steps (Err fault) b is finishes)))

    -- what was generated before does not go with what the newest met
    pub clashes : (f : Frame) (rest : List Frame) (steps between : List Step) (needed : Name) (asked : List Pair) (given : Generated) (found : Conflict) → IsUnderWay l name set start (f ∷ rest) steps
        → Waits l.declared f needed asked → Generates l (opened (f ∷ rest)) needed asked steps (Ok (given, between)) → conflict l.declared f.stands given ≡ Some found
        → Generates l [] name set start (Err (conflict_fault l f.chosen found))
    clashes f rest steps between needed asked given found way waits made clash =
        falls f rest steps (conflict_fault l f.chosen found) way
        (conflicts (opened (f ∷ rest)) f.chosen f.stands steps between needed given found waits.due
        (subst (λ (s : List Pair). Generates l (opened (f ∷ rest)) needed s steps (Ok (given, between))) waits.handed made) clash)

    -- a conflict with what the newest gives is one of the target below it
    pub falls_between : (f g : Frame) (rest : List Frame) (steps between : List Step) (given : Generated) (found : Conflict) → IsUnderWay l name set start (f ∷ g ∷ rest) steps
        → next l.declared f.chosen f.stands ≡ Complete → Finishes l f.chosen f.stands steps (Ok (given, between)) → conflict l.declared g.stands given ≡ Some found
        → Generates l [] name set start (Err (conflict_fault l g.chosen found))
    falls_between f g rest steps between given found (before, b, waits, below) is finishes clash =
        clashes g rest before between f.name f.asked given found below waits (ended (opened (g ∷ rest)) f before steps (Ok (given, between)) b is finishes) clash
