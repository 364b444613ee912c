-- What a turn leaves on every host: the open main targets are kept rightly, and fewer turns are left.
use Rattle.std.proofs.Common.{◌≡◌, ◌<◌, ◌≤◌, ◌==◌, ℕ, Bool, true, false, true≢false, ◌||◌, filter, List, [], ◌∷◌, ◌++◌, length, map, refl, sym, ap, subst, ◌∙◌, if◌then◌else◌}
use Rattle.std.specs.Prelude.{not}
use Rattle.std.specs.FinMap as finite
use Rattle.b2_props.specs.Sets.{Pair}
use Rattle.b2_declared.specs.declared.whole.Declared.{Declared}
use Rattle.b2_declared.specs.declared.place.Target.{Target}
use Rattle.b2_references.specs.Names.{Name, name_of, is_same, is_among, is_target, alternatives}
use Rattle.b2_alternatives.specs.Picking.{seen}
use Rattle.b2_generate.specs.Machine.{frame_of, standing_of, names_of, AreKept}
use Rattle.b2_generate.specs.Measure.{done_names, turns_left}
use Rattle.b2_generate.specs.Nodes.{entry_in, IsFrom, AreLate}
use Rattle.b2_generate.specs.Opening.{AreReady, IsOpened}
use Rattle.b2_generate.specs.Stack as stacks
use Rattle.b2_generate.specs.Tables.{Table}
use Rattle.b2_generate.specs.Taking.{IsTaken}
use Rattle.b2_generate.specs.Turning.{GoOn, turns_of}
use Rattle.b2_generate.specs.declared.frame.Frame.{Frame}
use Rattle.b2_generate.specs.declared.node.Node.{Node}
use Rattle.b2_generate.proofs.NewNodeKeepsOpenTargets.{names_are, opened_stands, opened_all}
use Rattle.b2_generate.proofs.EachStepLeavesFewerTurns.{opening_leaves, taking_leaves}

module _ (d : Declared) (nodes : List Node) (firsts : Table ℕ) (f : Frame) (below : List Frame) (ready : AreReady d nodes firsts) (kept : AreKept nodes d (f ∷ below)) (needed : Name)
    (among : is_among (map name_of d.targets) needed ≡ true) (due : is_among (done_names (standing_of nodes f)) needed ≡ false) where
  -- a main target is opened
  pub opened_goes : (asked : List Pair) (bound : ℕ) (g : Frame) → is_among (names_of (f ∷ below)) needed ≡ false → IsOpened d needed asked bound g → bound ≤ f.earliest → IsFrom bound (finite.get firsts needed)
      → GoOn d (turns_of d nodes (f ∷ below)) nodes firsts (g ∷ f ∷ below)
  opened_goes asked bound g closed is less from = record {
    ready = ready;
    kept = opened_all nodes d needed asked bound g f below is kept closed less (subst (IsFrom bound) (ready.firsts needed) from);
    fewer = subst (λ k. turns_left (map name_of d.targets) (k ∷ map (frame_of nodes) (f ∷ below)) < turns_of d nodes (f ∷ below)) (sym (opened_stands nodes d needed asked bound g is))
        (opening_leaves d (map name_of d.targets) (frame_of nodes f) (map (frame_of nodes) below) needed asked (seen needed g.chosen) among due
        (ap (λ (ns : List Name). is_among ns needed) (names_are nodes (f ∷ below)) ∙ closed));
  }

  -- a node is taken
  pub taken_goes : (place : ℕ) (g : Frame) → IsTaken d nodes place f g → g.name ≡ f.name → (entry_in nodes place).0 ≡ needed → GoOn d (turns_of d nodes (f ∷ below)) nodes firsts (g ∷ below)
  taken_goes place g took named is = record {
    ready = ready;
    kept = (
      subst (λ (n : Name). is_among (names_of below) n ≡ false) (sym named) kept.0,
      subst (λ (n : Name). AreLate nodes g.earliest (names_of below ++ n ∷ [])) (sym named) (subst (λ (e : ℕ). AreLate nodes e (names_of (f ∷ below))) (sym took.earliest) kept.1),
      took.kept,
      kept.3,
    );
    fewer = subst (λ k. turns_left (map name_of d.targets) (k ∷ map (frame_of nodes) below) < turns_of d nodes (f ∷ below))
        (sym (took.stands ∙ ap (λ (n : Name). stacks.supplied d (frame_of nodes f) n (entry_in nodes place).1) is))
        (taking_leaves d (map name_of d.targets) (frame_of nodes f) (map (frame_of nodes) below) needed (entry_in nodes place).1 among due);
  }

-- ---- a main target is among all names

some_named : (ts : List Target) (name : Name) → not (length (filter (λ (t : Target). is_same name (name_of t)) ts) == 0) ≡ true → is_among (map name_of ts) name ≡ true
some_named [] name e = absurd (true≢false (sym e))
some_named (t ∷ ts) name e = cases (is_same name (name_of t)) (some_named ts name) e
  where
    cases : (b : Bool) → (not (length (filter (λ (k : Target). is_same name (name_of k)) ts) == 0) ≡ true → is_among (map name_of ts) name ≡ true)
        → not (length (if b then t ∷ filter (λ (k : Target). is_same name (name_of k)) ts else filter (λ (k : Target). is_same name (name_of k)) ts) == 0) ≡ true → (b || is_among (map name_of ts) name) ≡ true
    cases true rest h = refl
    cases false rest h = rest h

pub target_named : (d : Declared) (name : Name) → is_target d name ≡ true → is_among (map name_of d.targets) name ≡ true
unfolding alternatives
target_named d name e = some_named d.targets name e
