-- What a node gave comes again, with no new steps, where no main target opened for it is open; for taking it.
use Rattle.std.proofs.Common.{◌≡◌, Bool, true, false, ◌||◌, ◌==◌, ℕ, List, [], ◌∷◌, ◌++◌, length, Some, Ok, refl, sym, ap, subst, ◌∙◌, if◌then◌else◌}
use Rattle.std.proofs.lemmas.List.Folds.{list_any-append}
use Rattle.b2_references.specs.Names.{Name}
use Rattle.b2_props.specs.Sets.{Pair}
use Rattle.b2_plan.specs.declared.step.Step.{Step}
use Rattle.b2_generate.specs.Answers.{Generated}
use Rattle.b2_generate.specs.LoadedProjects.{LoadedProject}
use Rattle.b2_generate.specs.Generation.{Generates}
use Rattle.b2_virtual.specs.Joining.{stands_in, is_same as is_same_step}
use Rattle.b2_generate.specs.Laws.{AreClosed, IsLawful}
use Rattle.b2_making.specs.Laws.{StandIn}
use Rattle.b2_generate.specs.declared.node.Node.{Node}
use Rattle.b2_generate.specs.Nodes.{entry_in, given_by, node_in}
use Rattle.b2_generate.specs.Remembered.{IsAskedAt, AreMade}
use Rattle.b2_generate.proofs.OutcomeIsTheSameAgain.{generated_again}

either : (a b : Bool) → a ≡ true → (a || b) ≡ true
either true b e = refl
either false b e = cc

-- steps that stand among others do when more come
pub stand_more : (steps others : List Step) (more : List Step) → StandIn others steps → StandIn (others ++ more) steps
stand_more steps others more stand step c =
    list_any-append (is_same_step step) others more ∙ either (stands_in others step) (stands_in more step) (stand step c)

module _ {E : Type 0} (l : LoadedProject E) where
  pub made_stay : (nodes : List Node) (steps more : List Step) → AreMade l nodes steps → AreMade l nodes (steps ++ more)
  made_stay [] steps more made = record {}
  made_stay (n ∷ older) steps more (own, others) = (
    record { above = own.above; before = own.before; after = own.after; generates = own.generates; stand = stand_more own.after steps more own.stand },
    made_stay older steps more others,
  )

  -- what the node at a place gives
  record WasMade (nodes : List Node) (place : ℕ) (name : Name) (set : List Pair) (steps : List Step) : Type 0 where
    above : List Name
    before : List Step
    after : List Step
    generates : Generates l above name set before (Ok ((entry_in nodes place).1, after))
    stand : StandIn steps after

  unsome : (a b : Node) → Some a ≡ Some b → a ≡ b
  unsome a b e = cc

  made_step : (m : Node) (older : List Node) (place : ℕ) (n : Node) (steps : List Step) → AreMade l (m ∷ older) steps
      → (node_in older place ≡ Some n → WasMade older place n.name n.asked steps)
      → (b : Bool) → (place == length older) ≡ b → (if b then Some m else node_in older place) ≡ Some n → WasMade (m ∷ older) place n.name n.asked steps
  made_step m older place n steps (own, others) below true h e =
      let alike : m ≡ n = unsome m n e in
      let is : entry_in (m ∷ older) place ≡ (m.name, given_by older m) = ap (λ (b : Bool). if b then (m.name, given_by older m) else entry_in older place) h in
      subst (λ (k : Node). WasMade (m ∷ older) place k.name k.asked steps) alike
      (record {
        above = own.above;
        before = own.before;
        after = own.after;
        generates = subst (λ (p : Name × Generated). Generates l own.above m.name m.asked own.before (Ok (p.1, own.after))) (sym is) own.generates;
        stand = own.stand;
      })
  made_step m older place n steps (own, others) below false h e =
      let found = below e in
      let is : entry_in (m ∷ older) place ≡ entry_in older place = ap (λ (b : Bool). if b then (m.name, given_by older m) else entry_in older place) h in
      record {
        above = found.above;
        before = found.before;
        after = found.after;
        generates = subst (λ (p : Name × Generated). Generates l found.above n.name n.asked found.before (Ok (p.1, found.after))) (sym is) found.generates;
        stand = found.stand;
      }

  made_at : (nodes : List Node) (place : ℕ) (n : Node) (steps : List Step) → AreMade l nodes steps → node_in nodes place ≡ Some n → WasMade nodes place n.name n.asked steps
  made_at [] place n steps made e = cc
  made_at (m ∷ older) place n steps made e = made_step m older place n steps made (made_at older place n steps made.1) (place == length older) refl e

  -- a node is given again, where none of the targets that were opened for it is open
  pub given_again : (laws : IsLawful l) (nodes : List Node) (place : ℕ) (name : Name) (set : List Pair) (steps : List Step) (others : List Name)
      → AreMade l nodes steps → IsAskedAt nodes place name set → AreClosed others (entry_in nodes place).1.rows
      → Generates l others name set steps (Ok ((entry_in nodes place).1, steps))
  given_again laws nodes place name set steps others made at closed =
      let was = made_at nodes place at.node steps made at.there in
      subst (λ (n : Name). Generates l others n set steps (Ok ((entry_in nodes place).1, steps))) at.named
      (subst (λ (s : List Pair). Generates l others at.node.name s steps (Ok ((entry_in nodes place).1, steps))) at.asked
      (generated_again l laws was.above others at.node.name at.node.asked was.before was.after steps (entry_in nodes place).1 was.generates was.stand closed))
