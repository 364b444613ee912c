-- What comes of the pieces that a request asks for, one after another.
use Rattle.std.specs.Prelude.{◌≡◌, ◌<◌, ℕ, Bool, List, [], ◌∷◌, ◌++◌, Option, Some, Result, Ok, Err, IfOk, OnOk, length, map}
use Rattle.b2_plan.specs.declared.step.Step.{Step}
use Rattle.b2_declared.specs.declared.whole.Declared.{Declared}
use Rattle.b2_references.specs.declared.asked.AskedPiece.{AskedPiece}
use Rattle.b2_evaluator.specs.Answers.{Answers}
use Rattle.b2_making.specs.Answers.{Grows}
use Rattle.b2_generate.specs.Answers.{Generated, Outcome, HaveSets}
use Rattle.b2_generate.specs.LoadedProjects.{LoadedProject}
use Rattle.b2_generate.specs.Nodes.{entry_in, row_of, AreAdded}
use Rattle.b2_generate.specs.Opening.{AreReady}
use Rattle.b2_generate.specs.Planning as planning
use Rattle.b2_generate.specs.Remembered.{AreMade}
use Rattle.b2_generate.specs.Tables.{Table}
use Rattle.b2_generate.specs.ToldOutcomes.{loaded_of, IsRefusal, Leaves}
use Rattle.b2_generate.specs.Generating.{nodes_of}
use Rattle.b2_generate.specs.declared.fault.GenFault.{GenFault}
use Rattle.b2_generate.specs.declared.generation.Generation.{Generation}
use Rattle.b2_generate.specs.declared.node.Node.{Node}

-- what was generated at some places
abbrev pub given_at : List Node → List ℕ → List Generated
given_at nodes places = map (λ place. (entry_in nodes place).1) places

-- what comes of all pieces, where these gave something and this comes of the others
abbrev pub after_these : {E : Type 0} → List Generated → Outcome E (List Generated) → Outcome E (List Generated)
after_these given (Ok (others, steps)) = Ok (given ++ others, steps)
after_these given (Err fault) = Err fault

module _ {E : Type 0} (l : LoadedProject E) (is_host is_out : E → Bool) where
  -- a piece gives what was generated at a place, whatever comes after it; or it is refused
  abbrev pub IsGiven : AskedPiece → List Step → List Node → List Step → Result ℕ (GenFault E) → Type 0
  IsGiven piece before nodes after (Ok place) =
      ((rest : List AskedPiece) (outcome : Outcome E (List Generated)) → planning.Answers l rest after outcome
      → planning.Answers l (piece ∷ rest) before (after_these (given_at nodes (place ∷ [])) outcome))
      × AreMade l nodes after
  IsGiven piece before nodes after (Err fault) =
      IsRefusal is_host is_out (λ why. (rest : List AskedPiece) → planning.Answers l (piece ∷ rest) before (Err why)) fault

  -- some pieces give what was generated at some places, or one of them is refused
  abbrev pub AreGiven : List AskedPiece → List Step → List Node → List Step → Result (List ℕ) (GenFault E) → Type 0
  AreGiven pieces before nodes after (Ok places) = planning.Answers l pieces before (Ok (given_at nodes places, after))
  AreGiven pieces before nodes after (Err fault) = IsRefusal is_host is_out (λ why. planning.Answers l pieces before (Err why)) fault

-- all that is promised of a piece
pub record IsPiece {S E K : Type 0} (answers : S → Option (Answers E)) (kept : S → K) (faults : S → ℕ) (is_host is_out : E → Bool) (CanFault : K → E → Type 0)
    (d : Declared) (roots : List (List ℕ)) (piece : AskedPiece) (old_nodes : List Node) (before : List Step) (old : S)
    (nodes : List Node) (firsts : Table ℕ) (after : List Step) (new : S) (result : Result ℕ (GenFault E)) : Type 0 where
  pub ready : OnOk result (AreReady d nodes firsts)
  pub adds : OnOk result (AreAdded old_nodes nodes)
  pub there : IfOk result (λ place. place < length nodes)
  pub given : (answered : Answers E) → answers old ≡ Some answered → AreMade (loaded_of d roots answered) old_nodes before
      → IsGiven (loaded_of d roots answered) is_host is_out piece before nodes after result
  pub grows : Grows roots before after
  pub leaves : Leaves answers kept faults is_host is_out CanFault old new result

-- all that is promised of some pieces
pub record ArePieces {S E K : Type 0} (answers : S → Option (Answers E)) (kept : S → K) (faults : S → ℕ) (is_host is_out : E → Bool) (CanFault : K → E → Type 0)
    (d : Declared) (roots : List (List ℕ)) (pieces : List AskedPiece) (old_nodes : List Node) (before : List Step) (old : S)
    (nodes : List Node) (after : List Step) (new : S) (result : Result (List ℕ) (GenFault E)) : Type 0 where
  pub given : (answered : Answers E) → answers old ≡ Some answered → AreMade (loaded_of d roots answered) old_nodes before
      → AreGiven (loaded_of d roots answered) is_host is_out pieces before nodes after result
  pub sets : OnOk result (HaveSets d (map row_of nodes))
  pub grows : Grows roots before after
  pub leaves : Leaves answers kept faults is_host is_out CanFault old new result

module _ {S E K : Type 0} (answers : S → Option (Answers E)) (kept : S → K) (faults : S → ℕ) (is_host is_out : E → Bool) (CanFault : K → E → Type 0) where
  abbrev pub GivesPiece : AskedPiece → Generation S E → Generation S E → Result ℕ (GenFault E) → Type 0
  GivesPiece piece old new result =
      IsPiece answers kept faults is_host is_out CanFault old.asker.index.now old.roots.now piece
      (nodes_of old) old.builder old.asker.evaluator (nodes_of new) new.nodes.firsts new.builder new.asker.evaluator result

  abbrev pub GivesPieces : List AskedPiece → Generation S E → Generation S E → Result (List ℕ) (GenFault E) → Type 0
  GivesPieces pieces old new result =
      ArePieces answers kept faults is_host is_out CanFault old.asker.index.now old.roots.now pieces
      (nodes_of old) old.builder old.asker.evaluator (nodes_of new) new.builder new.asker.evaluator result
