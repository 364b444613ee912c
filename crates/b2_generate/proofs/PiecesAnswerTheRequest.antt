-- The pieces of a request, one after another: each of them, and the loop over them.
use Rattle.std.proofs.Common.{◌≡◌, ◌<◌, ℕ, Bool, List, [], ◌∷◌, ◌++◌, Option, Some, Result, Ok, Err, length, refl, sym, ap, subst, ◌∙◌}
use Rattle.std.specs.List.{AllByRecursion}
use Rattle.std.proofs.lemmas.List.{append_assoc, append-nil, map-append}
use Rattle.b2_plan.specs.declared.step.Step.{Step}
use Rattle.b2_props.specs.Sets.{Pair}
use Rattle.b2_declared.specs.declared.whole.Declared.{Declared}
use Rattle.b2_evaluator.specs.Answers.{Answers}
use Rattle.b2_base.specs.Counts.{IsCounted}
use Rattle.b2_references.specs.Names.{Name}
use Rattle.b2_references.specs.declared.asked.AskedPiece.{AskedPiece}
use Rattle.b2_references.specs.declared.asked.AskedPiece.TheVariants.{Main, NoTarget}
use Rattle.b2_making.specs.Answers.{Grows}
use Rattle.b2_making.proofs.PromisesCompose.{grows_then}
use Rattle.b2_generate.specs.Answers.{Generated, Outcome}
use Rattle.b2_generate.specs.Generation.{Generates}
use Rattle.b2_generate.specs.LoadedProjects.{LoadedProject}
use Rattle.b2_generate.specs.Nodes.{entry_in}
use Rattle.b2_generate.specs.Opening.{AreReady}
use Rattle.b2_generate.specs.Pieces.{given_at, after_these, IsGiven, IsPiece, ArePieces}
use Rattle.b2_generate.specs.Planning.{Answers as Answered, all_given, names_nothing, refused, refused_later, given as given_first}
use Rattle.b2_generate.specs.Remembered.{AreMade}
use Rattle.b2_generate.specs.Tables.{Table}
use Rattle.b2_generate.specs.ToldOutcomes.{loaded_of, is_eval, is_memory, IsKnown}
use Rattle.b2_generate.specs.Turning.{IsRequest, IsGenerated}
use Rattle.b2_generate.specs.declared.fault.GenFault.{GenFault}
use Rattle.b2_generate.specs.declared.fault.GenFault.TheVariants.{OutOfMemory, NoTarget as NamesNothing}
use Rattle.b2_generate.specs.declared.node.Node.{Node}
use Rattle.b2_generate.proofs.GivenStaysWithMoreNodes.{there_stays, given_stays}
use Rattle.b2_generate.proofs.OpeningLeadsOn.{refusal_weaker}
use Rattle.b2_generate.proofs.StepsAreThoseDefined.{grows_none}

-- ---- one piece

module _ {E : Type 0} (l : LoadedProject E) (is_host is_out : E → Bool) (name : Name) (set : List Pair) (before : List Step) (nodes : List Node) (after : List Step) where
  followed : (place : ℕ) → Generates l [] name set before (Ok ((entry_in nodes place).1, after)) → (rest : List AskedPiece) (outcome : Outcome E (List Generated)) → Answered l rest after outcome
      → Answered l (Main name set ∷ rest) before (after_these (given_at nodes (place ∷ [])) outcome)
  followed place generates rest (Ok (others, end)) follows = given_first name set rest before after end (entry_in nodes place).1 others generates follows
  followed place generates rest (Err fault) follows = refused_later name set rest before after (entry_in nodes place).1 fault generates follows

  main_given : (r : Result ℕ (GenFault E)) → IsGenerated l is_host is_out name set before nodes after r → IsGiven l is_host is_out (Main name set) before nodes after r
  main_given (Ok place) (generates, made) = (followed place generates, made)
  main_given (Err fault) why =
      refusal_weaker is_host is_out (λ f. Generates l [] name set before (Err f)) (λ f. (rest : List AskedPiece) → Answered l (Main name set ∷ rest) before (Err f))
      (λ f generates rest. refused name set rest before f generates) fault why

module _ {S E K : Type 0} {answers : S → Option (Answers E)} {kept : S → K} {faults : S → ℕ} {is_host is_out : E → Bool} {CanFault : K → E → Type 0}
    {d : Declared} {roots : List (List ℕ)} {piece : AskedPiece} {old_nodes : List Node} {before : List Step} {old : S}
    {nodes : List Node} {firsts : Table ℕ} {after : List Step} {new : S} {r : Result ℕ (GenFault E)} where
  pub main_piece : (name : Name) (set : List Pair) → piece ≡ Main name set
      → IsRequest answers kept faults is_host is_out CanFault d roots name set old_nodes before old nodes firsts after new r
      → IsPiece answers kept faults is_host is_out CanFault d roots piece old_nodes before old nodes firsts after new r
  main_piece name set e q = record {
    ready = q.ready;
    adds = q.adds;
    there = q.there;
    given = λ answered is made.
        subst (λ (k : AskedPiece). IsGiven (loaded_of d roots answered) is_host is_out k before nodes after r) (sym e)
        (main_given (loaded_of d roots answered) is_host is_out name set before nodes after r (q.generated answered is made));
    grows = q.grows;
    leaves = q.leaves;
  }

module _ {S E K : Type 0} {answers : S → Option (Answers E)} {kept : S → K} {faults : S → ℕ} {is_host is_out : E → Bool} {CanFault : K → E → Type 0}
    {d : Declared} {roots : List (List ℕ)} {piece : AskedPiece} {nodes : List Node} {firsts : Table ℕ} {steps : List Step} {old : S} where
  pub no_piece : (word : List ℕ) → piece ≡ NoTarget word
      → IsPiece answers kept faults is_host is_out CanFault d roots piece nodes steps old nodes firsts steps old (Err (NamesNothing word))
  no_piece word e =
      subst (λ (k : AskedPiece). IsPiece answers kept faults is_host is_out CanFault d roots k nodes steps old nodes firsts steps old (Err (NamesNothing word))) (sym e)
      (record {
        ready = record {};
        adds = record {};
        there = record {};
        given = λ answered is made. λ rest. names_nothing word rest steps;
        grows = grows_none roots steps;
        leaves = record { same_answers = refl; same_kept = refl; counted = refl; known = record {} };
      })

-- ---- the loop

-- What comes of the pieces that are left comes of all of them, after what was generated at these places.
pub record IsOnTheWay {S E K : Type 0} (answers : S → Option (Answers E)) (kept : S → K) (faults : S → ℕ)
    (d : Declared) (roots : List (List ℕ)) (pieces : List AskedPiece) (old_nodes : List Node) (before : List Step) (old : S)
    (left : List AskedPiece) (places : List ℕ) (nodes : List Node) (firsts : Table ℕ) (after : List Step) (new : S) : Type 0 where
  pub ready : AreReady d nodes firsts
  pub there : AllByRecursion (λ place. place < length nodes) places
  pub leads : (answered : Answers E) → answers old ≡ Some answered → AreMade (loaded_of d roots answered) old_nodes before
      → ((outcome : Outcome E (List Generated)) → Answered (loaded_of d roots answered) left after outcome
      → Answered (loaded_of d roots answered) pieces before (after_these (given_at nodes places) outcome))
      × AreMade (loaded_of d roots answered) nodes after
  pub grows : Grows roots before after
  pub same_answers : answers new ≡ answers old
  pub same_kept : kept new ≡ kept old
  pub counted : faults new ≡ faults old

after_none : {E : Type 0} (outcome : Outcome E (List Generated)) → outcome ≡ after_these [] outcome
after_none (Ok (others, steps)) = refl
after_none (Err fault) = refl

after_both : {E : Type 0} (a b : List Generated) (outcome : Outcome E (List Generated)) → after_these a (after_these b outcome) ≡ after_these (a ++ b) outcome
after_both a b (Ok (others, steps)) = ap (λ (given : List Generated). Ok (given, steps)) (sym (append_assoc a b others))
after_both a b (Err fault) = refl

pub there_push : (count : ℕ) (places : List ℕ) (place : ℕ) → AllByRecursion (λ p. p < count) places → place < count → AllByRecursion (λ p. p < count) (places ++ place ∷ [])
there_push count [] place there less = (less, record {})
there_push count (p ∷ more) place (first, others) less = (first, there_push count more place others less)

module _ {S E K : Type 0} {answers : S → Option (Answers E)} {kept : S → K} {faults : S → ℕ}
    {d : Declared} {roots : List (List ℕ)} {pieces left : List AskedPiece} {nodes : List Node} {steps : List Step} {old : S} {firsts : Table ℕ} where
  pub way_first : (places : List ℕ) → left ≡ pieces → places ≡ [] → AreReady d nodes firsts
      → IsOnTheWay answers kept faults d roots pieces nodes steps old left places nodes firsts steps old
  way_first places same none ready =
      subst (λ (ps : List ℕ). IsOnTheWay answers kept faults d roots pieces nodes steps old left ps nodes firsts steps old) (sym none)
      (record {
        ready = ready;
        there = record {};
        leads = λ answered is made. (
          λ outcome follows.
              subst (λ (o : Outcome E (List Generated)). Answered (loaded_of d roots answered) pieces steps o) (after_none outcome)
              (subst (λ (k : List AskedPiece). Answered (loaded_of d roots answered) k steps outcome) same follows),
          made,
        );
        grows = grows_none roots steps;
        same_answers = refl;
        same_kept = refl;
        counted = refl;
      })

-- a piece where the project is the same one
pub piece_at : {S E K : Type 0} {answers : S → Option (Answers E)} {kept : S → K} {faults : S → ℕ} {is_host is_out : E → Bool} {CanFault : K → E → Type 0}
    {d2 d : Declared} {roots2 roots : List (List ℕ)} {piece : AskedPiece} {old_nodes : List Node} {before : List Step} {old : S}
    {nodes : List Node} {firsts : Table ℕ} {after : List Step} {new : S} {r : Result ℕ (GenFault E)} → d2 ≡ d → roots2 ≡ roots
    → IsPiece answers kept faults is_host is_out CanFault d2 roots2 piece old_nodes before old nodes firsts after new r
    → IsPiece answers kept faults is_host is_out CanFault d roots piece old_nodes before old nodes firsts after new r
piece_at {S} {E} {K} {answers} {kept} {faults} {is_host} {is_out} {CanFault} {d2} {d} {roots2} {roots} {piece} {old_nodes} {before} {old} {nodes} {firsts} {after} {new} {r} e h t =
    subst (λ (k : Declared). IsPiece answers kept faults is_host is_out CanFault k roots piece old_nodes before old nodes firsts after new r) e
    (subst (λ (ks : List (List ℕ)). IsPiece answers kept faults is_host is_out CanFault d2 ks piece old_nodes before old nodes firsts after new r) h t)

module _ {S E K : Type 0} {answers : S → Option (Answers E)} {kept : S → K} {faults : S → ℕ} {is_host is_out : E → Bool} {CanFault : K → E → Type 0}
    {d : Declared} {roots : List (List ℕ)} {pieces : List AskedPiece} {old_nodes : List Node} {start : List Step} {old : S}
    {left : List AskedPiece} {places : List ℕ} {mid_nodes : List Node} {mid_firsts : Table ℕ} {mid_steps : List Step} {mid : S}
    (so_far : IsOnTheWay answers kept faults d roots pieces old_nodes start old left places mid_nodes mid_firsts mid_steps mid) where
  pub way_ends : left ≡ [] → ArePieces answers kept faults is_host is_out CanFault d roots pieces old_nodes start old mid_nodes mid_steps mid (Ok places)
  way_ends none = record {
    given = λ answered is made.
        subst (λ (given : List Generated). Answered (loaded_of d roots answered) pieces start (Ok (given, mid_steps))) (append-nil (given_at mid_nodes places))
        ((so_far.leads answered is made).0 (Ok ([], mid_steps))
        (subst (λ (k : List AskedPiece). Answered (loaded_of d roots answered) k mid_steps (Ok ([], mid_steps))) (sym none) (all_given mid_steps)));
    sets = so_far.ready.sets;
    grows = so_far.grows;
    leaves = record { same_answers = so_far.same_answers; same_kept = so_far.same_kept; counted = so_far.counted; known = record {} };
  }

  module _ {piece : AskedPiece} {rest : List AskedPiece} {nodes : List Node} {firsts : Table ℕ} {after : List Step} {new : S} where
    -- one is generated
    pub way_next : (place : ℕ) (given_places : List ℕ) → left ≡ piece ∷ rest → given_places ≡ places ++ place ∷ []
        → IsPiece answers kept faults is_host is_out CanFault d roots piece mid_nodes mid_steps mid nodes firsts after new (Ok place)
        → IsOnTheWay answers kept faults d roots pieces old_nodes start old rest given_places nodes firsts after new
    way_next place given_places e h p =
        subst (λ (ps : List ℕ). IsOnTheWay answers kept faults d roots pieces old_nodes start old rest ps nodes firsts after new) (sym h)
        (record {
          ready = p.ready;
          there = there_push (length nodes) places place (there_stays mid_nodes nodes p.adds places so_far.there) p.there;
          leads = λ answered is made.
              let before = so_far.leads answered is made in
              let here = p.given answered (so_far.same_answers ∙ is) before.1 in (
                λ outcome follows.
                    subst (λ (given : List Generated). Answered (loaded_of d roots answered) pieces start (after_these given outcome))
                    (ap (λ (given : List Generated). given ++ given_at nodes (place ∷ [])) (sym (given_stays mid_nodes nodes p.adds places so_far.there))
                    ∙ sym (map-append (λ (k : ℕ). (entry_in nodes k).1) places (place ∷ [])))
                    (subst (λ (o : Outcome E (List Generated)). Answered (loaded_of d roots answered) pieces start o)
                    (after_both (given_at mid_nodes places) (given_at nodes (place ∷ [])) outcome)
                    (before.0 (after_these (given_at nodes (place ∷ [])) outcome)
                    (subst (λ (k : List AskedPiece). Answered (loaded_of d roots answered) k mid_steps (after_these (given_at nodes (place ∷ [])) outcome)) (sym e) (here.0 rest outcome follows)))),
                here.1,
              );
          grows = grows_then roots start mid_steps after so_far.grows p.grows;
          same_answers = p.leaves.same_answers ∙ so_far.same_answers;
          same_kept = p.leaves.same_kept ∙ so_far.same_kept;
          counted = p.leaves.counted ∙ so_far.counted;
        })

    -- one is refused
    pub way_stops : (r : Result (List ℕ) (GenFault E)) (fault : GenFault E) → r ≡ Err fault → left ≡ piece ∷ rest
        → IsPiece answers kept faults is_host is_out CanFault d roots piece mid_nodes mid_steps mid nodes firsts after new (Err fault)
        → ArePieces answers kept faults is_host is_out CanFault d roots pieces old_nodes start old nodes after new r
    way_stops r fault h e p =
        subst (λ (k : Result (List ℕ) (GenFault E)). ArePieces answers kept faults is_host is_out CanFault d roots pieces old_nodes start old nodes after new k) (sym h)
        (record {
          given = λ answered is made.
              let before = so_far.leads answered is made in
              refusal_weaker is_host is_out (λ why. (more : List AskedPiece) → Answered (loaded_of d roots answered) (piece ∷ more) mid_steps (Err why)) (λ why. Answered (loaded_of d roots answered) pieces start (Err why))
              (λ why refuses. before.0 (Err why) (subst (λ (k : List AskedPiece). Answered (loaded_of d roots answered) k mid_steps (Err why)) (sym e) (refuses rest)))
              fault (p.given answered (so_far.same_answers ∙ is) before.1);
          sets = record {};
          grows = grows_then roots start mid_steps after so_far.grows p.grows;
          leaves = record {
            same_answers = p.leaves.same_answers ∙ so_far.same_answers;
            same_kept = p.leaves.same_kept ∙ so_far.same_kept;
            counted = subst (λ (count : ℕ). IsCounted {A = ℕ} (is_eval is_host) (is_memory is_out) count (faults new) (Err fault)) so_far.counted p.leaves.counted;
            known = subst (λ (k : K). IsKnown (CanFault k) fault) so_far.same_kept p.leaves.known;
          };
        })

  module _ {piece : AskedPiece} {nodes : List Node} {firsts : Table ℕ} {after : List Step} {new : S} where
    -- there is no memory for its place
    pub way_out : (r : Result (List ℕ) (GenFault E)) (place : ℕ) → r ≡ Err OutOfMemory
        → IsPiece answers kept faults is_host is_out CanFault d roots piece mid_nodes mid_steps mid nodes firsts after new (Ok place)
        → ArePieces answers kept faults is_host is_out CanFault d roots pieces old_nodes start old nodes after new r
    way_out r place h p =
        subst (λ (k : Result (List ℕ) (GenFault E)). ArePieces answers kept faults is_host is_out CanFault d roots pieces old_nodes start old nodes after new k) (sym h)
        (record {
          given = λ answered is made. record {};
          sets = record {};
          grows = grows_then roots start mid_steps after so_far.grows p.grows;
          leaves = record {
            same_answers = p.leaves.same_answers ∙ so_far.same_answers;
            same_kept = p.leaves.same_kept ∙ so_far.same_kept;
            counted = record {};
            known = record {};
          };
        })
