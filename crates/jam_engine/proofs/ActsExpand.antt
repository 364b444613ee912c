-- The text of an act is its body, expanded in the module of its actions.
use Rattle.std.proofs.Common.{◌≡◌, ◌⊎◌, inl, inr, ◌||◌, Bool, true, false, cond, List, [], ◌∷◌, ◌++◌, Option, Some, None, Result, Ok, Err, refl, sym, ap, ap₂, ◌∙◌, subst, map, ℕ}
use Rattle.std.specs.FinMap as finite
use Rattle.std.specs.Option.{option_or, unwrap_or}
use Rattle.b2_base.specs.Results.{and_then}
use Rattle.b2_base.specs.declared.expand_fault.ExpandFault.{ExpandFault}
use Rattle.b2_base.specs.declared.expand_fault.ExpandFault.TheVariants as expansions
use Rattle.jam_expand.specs.Bodies.{body_expansion}
use Rattle.jam_expand.specs.Limits.{IsGivenBy}
use Rattle.jam_journal.specs.Tables.{Text}
use Rattle.jam_journal.specs.Scopes.{Value, Scopes, look, look_in, enter, bound_in, is_special, is_in as is_within}
use Rattle.jam_scope.specs.Worlds.{World}
use Rattle.jam_meaning.specs.Faults.{expand}
use Rattle.jam_meaning.specs.Rolled.{own_at, or_look, is_text, body_names}
use Rattle.jam_effects.specs.Rolling.{or_found}
use Rattle.jam_effects.specs.declared.fault.EvalCause.TheVariants as causes
use Rattle.jam_effects.specs.declared.fault.EvalFault.TheVariants as evals
use Rattle.jam_graph.specs.declared.fault.JamFault.{JamFault}
use Rattle.jam_graph.specs.declared.fault.JamFault.TheVariants as faults
use Rattle.jam_graph.specs.declared.graph.Act.{Act}
use Rattle.jam_graph.specs.declared.graph.Graph.{Graph}
use Rattle.jam_graph.specs.Loads.{Refusal, eval}
use Rattle.jam_graph.specs.Loading.{refusal_of}
use Rattle.jam_engine.specs.declared.scene.Scene.{Scene}
use Rattle.jam_engine.specs.Scenes.{HavePaths}
use Rattle.jam_engine.specs.Steps.{text_of, or_refused, texts_of, body_of}
use Rattle.jam_engine.specs.Tables.{IsScene}
use Rattle.jam_engine.specs.Targets.{place}
use Rattle.jam_engine.specs.Texting.{names_of, body_in, IsExpansion, IsExpandFault, IsRefusedAs, IsAnswerOf, IsTextOf, AreTextsOf}

-- ---- names in an opened frame

abbrev nothing : Option Value
nothing = None

none_bound : (b : Bool) → cond b nothing nothing ≡ nothing
none_bound true = refl
none_bound false = refl

-- a frame that binds nothing is looked through
look_entered : (owner name : Text) (s : Scopes) → look (enter owner s) name ≡ look_in owner s name
look_entered owner name s =
    ap (λ (o : Option Value). unwrap_or (option_or (option_or o (bound_in (λ other. is_special name || is_within owner other) s.frames name)) (finite.get s.variables (owner, name))) [])
    (none_bound (is_special name || is_within owner owner))

abbrev pub opened : Text → World → World
opened owner w = record w { scopes = enter owner w.scopes }

found_same : (value : Option Value) (owner name : Text) (w : World) → or_found value name (opened owner w) ≡ or_look value owner name w
found_same None owner name w = look_entered owner name w.scopes
found_same (Some value) owner name w = refl

own_same : (targets : Value) (owner name : Text) (w : World) → own_at targets name (opened owner w) ≡ own_at targets name w
own_same [] owner name w = refl
own_same (target ∷ targets) owner name w = refl

name_same : (outs ins : List Text) (targets : Value) (owner : Text) (w : World) (name : Text) → names_of outs ins targets (opened owner w) name ≡ body_names outs ins targets owner w name
name_same outs ins targets owner w name =
    ap (λ v. cond (is_text 60 49 name) outs (cond (is_text 62 50 name) ins v))
    (ap (λ o. or_found o name (opened owner w)) (own_same targets owner name w) ∙ found_same (own_at targets name w) owner name w)

names_same : (outs ins : List Text) (targets : Value) (owner : Text) (w : World) → names_of outs ins targets (opened owner w) ≡ body_names outs ins targets owner w
names_same outs ins targets owner w = λ i name. name_same outs ins targets owner w name i

-- ---- answers

pub refused_as : {A : Type 0} (answer : Result A Refusal) (why : Refusal) (fault : JamFault) → refusal_of fault ≡ Some why → answer ≡ Err why → IsAnswerOf answer (Err fault)
refused_as answer why (faults.NoFile path) e h = subst (λ o. IsRefusedAs o answer) (sym e) h
refused_as answer why (faults.TooBig path size) e h = subst (λ o. IsRefusedAs o answer) (sym e) h
refused_as answer why (faults.Lex path fault) e h = subst (λ o. IsRefusedAs o answer) (sym e) h
refused_as answer why (faults.Syntax path fault) e h = subst (λ o. IsRefusedAs o answer) (sym e) h
refused_as answer why (faults.Eval fault) e h = subst (λ o. IsRefusedAs o answer) (sym e) h
refused_as answer why (faults.NoTarget name) e h = subst (λ o. IsRefusedAs o answer) (sym e) h
refused_as answer why (faults.MixedNotFile target) e h = subst (λ o. IsRefusedAs o answer) (sym e) h
refused_as answer why (faults.PathClash path) e h = subst (λ o. IsRefusedAs o answer) (sym e) h
refused_as answer why (faults.LocationOutside path) e h = subst (λ o. IsRefusedAs o answer) (sym e) h
refused_as answer why (faults.TooManySteps count) e h = subst (λ o. IsRefusedAs o answer) (sym e) h
refused_as answer why faults.Host e h = absurd (none_why e)
  where
    none_why : None ≡ Some why → ⊥
    none_why f = cc
refused_as answer why faults.OutOfMemory e h = tt

module _ (g : Graph) (scene : Scene) (a : Act) (body : Text) (w : World) (body_is : body ≡ body_in g.world.now a) (opens : w ≡ opened a.«module» g.world.now) where
  -- the expansion is that of the definition
  expands : (stands : Text → Bool) (result : Result Text ExpandFault) → IsScene g stands scene → IsExpansion w scene a body result → IsGivenBy result (text_of g stands a)
  expands stands result scene_is h =
      subst (λ n. IsGivenBy result (body_expansion n (body_of g stands a))) (names_same (map (place g stands) a.targets) (map (place g stands) a.sources) a.targets a.«module» g.world.now)
      (subst (λ (v : World). IsGivenBy result (body_expansion (names_of (map (place g stands) a.targets) (map (place g stands) a.sources) a.targets v) (body_of g stands a))) opens
      (subst (λ (b : Text). IsGivenBy result (body_expansion (names_of (map (place g stands) a.targets) (map (place g stands) a.sources) a.targets w) b)) body_is (h g stands scene_is)))

  pub act_expands : (text : Text) → IsExpansion w scene a body (Ok text) → IsTextOf g scene a (Ok text)
  act_expands text h stands scene_is = ap (or_refused g stands a) (expands stands (Ok text) scene_is h)

  refused_by : (stands : Text → Bool) (why : ExpandFault) (fault : JamFault) → refusal_of fault ≡ Some (eval (record { spot = record { path = g.path; line = a.line }; cause = expand why })) → (text_of g stands a ≡ Err why)
      → IsAnswerOf (or_refused g stands a (text_of g stands a)) (Err fault)
  refused_by stands why fault e refuses = refused_as (or_refused g stands a (text_of g stands a)) _ fault e (ap (or_refused g stands a) refuses)

  memory : (answer : Result Text Refusal) (fault : JamFault) → fault ≡ faults.OutOfMemory → IsAnswerOf answer (Err fault)
  memory answer fault e = subst (λ f. IsAnswerOf answer (Err f)) (sym e) tt

  pub act_refused : (why : ExpandFault) (fault : JamFault) → IsExpandFault g.path a.line why fault → IsExpansion w scene a body (Err why) → IsTextOf g scene a (Err fault)
  act_refused expansions.OutOfMemory fault e h stands scene_is = memory (or_refused g stands a (text_of g stands a)) fault e
  act_refused (expansions.BadIndex text) fault e h stands scene_is = by (expands stands (Err (expansions.BadIndex text)) scene_is h)
    where
      by : (expansions.BadIndex text ≡ expansions.OutOfMemory) ⊎ (text_of g stands a ≡ Err (expansions.BadIndex text)) → IsAnswerOf (or_refused g stands a (text_of g stands a)) (Err fault)
      by (inl same) = absurd (let f = same in cc)
      by (inr refuses) = refused_by stands (expansions.BadIndex text) fault e refuses
  act_refused (expansions.BadModifier text) fault e h stands scene_is = by (expands stands (Err (expansions.BadModifier text)) scene_is h)
    where
      by : (expansions.BadModifier text ≡ expansions.OutOfMemory) ⊎ (text_of g stands a ≡ Err (expansions.BadModifier text)) → IsAnswerOf (or_refused g stands a (text_of g stands a)) (Err fault)
      by (inl same) = absurd (let f = same in cc)
      by (inr refuses) = refused_by stands (expansions.BadModifier text) fault e refuses
  act_refused expansions.TooDeep fault e h stands scene_is = by (expands stands (Err expansions.TooDeep) scene_is h)
    where
      by : (expansions.TooDeep ≡ expansions.OutOfMemory) ⊎ (text_of g stands a ≡ Err expansions.TooDeep) → IsAnswerOf (or_refused g stands a (text_of g stands a)) (Err fault)
      by (inl same) = absurd (let f = same in cc)
      by (inr refuses) = refused_by stands expansions.TooDeep fault e refuses
  act_refused (expansions.TooLarge bytes) fault e h stands scene_is = by (expands stands (Err (expansions.TooLarge bytes)) scene_is h)
    where
      by : (expansions.TooLarge bytes ≡ expansions.OutOfMemory) ⊎ (text_of g stands a ≡ Err (expansions.TooLarge bytes)) → IsAnswerOf (or_refused g stands a (text_of g stands a)) (Err fault)
      by (inl same) = absurd (let f = same in cc)
      by (inr refuses) = refused_by stands (expansions.TooLarge bytes) fault e refuses

-- ---- the texts of several acts

abbrev texts_or : List Text → Result (List Text) Refusal → List Text
texts_or d (Ok found) = found
texts_or d (Err why) = d

ok_same : (u v : List Text) → (let r : Result (List Text) Refusal = Ok u in r) ≡ Ok v → u ≡ v
ok_same u v e = ap (texts_or u) e

-- a text, and then others
abbrev Both : Result Text Refusal → Result (List Text) Refusal → Result (List Text) Refusal
Both o more = and_then (λ text. and_then (λ texts. Ok (text ∷ texts)) more) o

texts_both : (g : Graph) (stands : Text → Bool) (acts : List Act) (a : Act) (texts : List Text) → texts_of g stands acts ≡ Ok texts → (one : Result Text Refusal) → or_refused g stands a (text_of g stands a) ≡ one
    → texts_of g stands (acts ++ a ∷ []) ≡ and_then (λ text. Ok (texts ++ text ∷ [])) one
texts_both g stands [] a texts e one f = first one f (ok_same [] texts e)
  where
    first : (o : Result Text Refusal) → or_refused g stands a (text_of g stands a) ≡ o → [] ≡ texts
        → and_then (λ text. and_then (λ more. Ok (text ∷ more)) (Ok [])) (or_refused g stands a (text_of g stands a)) ≡ and_then (λ text. Ok (texts ++ text ∷ [])) o
    first (Ok text) k same = ap (and_then (λ t. and_then (λ more. Ok (t ∷ more)) (Ok []))) k ∙ ap (λ (l : List Text). let r : Result (List Text) Refusal = Ok (l ++ text ∷ []) in r) same
    first (Err why) k same = ap (and_then (λ t. and_then (λ more. Ok (t ∷ more)) (Ok []))) k
texts_both g stands (x ∷ acts) a texts e one f = by (or_refused g stands x (text_of g stands x)) refl (texts_of g stands acts) refl e (λ found same. texts_both g stands acts a found same one f)
  where
    by : (o : Result Text Refusal) → or_refused g stands x (text_of g stands x) ≡ o → (more : Result (List Text) Refusal) → texts_of g stands acts ≡ more → Both (or_refused g stands x (text_of g stands x)) (texts_of g stands acts) ≡ Ok texts
        → ((found : List Text) → texts_of g stands acts ≡ Ok found → texts_of g stands (acts ++ a ∷ []) ≡ and_then (λ text. Ok (found ++ text ∷ [])) one)
        → Both (or_refused g stands x (text_of g stands x)) (texts_of g stands (acts ++ a ∷ [])) ≡ and_then (λ text. Ok (texts ++ text ∷ [])) one
    by (Ok text) k (Ok found) m all rest =
        let whole : Ok (text ∷ found) ≡ Ok texts = sym (ap₂ Both k m) ∙ all in
        let same : text ∷ found ≡ texts = ok_same (text ∷ found) texts whole in
        ap₂ Both k (rest found m) ∙ last text found one ∙ ap (λ (l : List Text). and_then (λ t. let r : Result (List Text) Refusal = Ok (l ++ t ∷ []) in r) one) same
      where
        last : (text : Text) (found : List Text) (o : Result Text Refusal) → Both (Ok text) (and_then (λ t. Ok (found ++ t ∷ [])) o) ≡ and_then (λ t. Ok ((text ∷ found) ++ t ∷ [])) o
        last text found (Ok t) = refl
        last text found (Err why) = refl
    by (Ok text) k (Err why) m all rest = absurd (let whole = sym (ap₂ Both k m) ∙ all in cc)
    by (Err why) k more m all rest = absurd (let whole = sym (ap₂ Both k m) ∙ all in cc)

-- no act has a text to be made yet
pub no_texts : (g : Graph) (scene : Scene) → AreTextsOf g scene [] (Ok [])
no_texts g scene stands scene_is = refl

pub text_more : (g : Graph) (scene : Scene) (acts : List Act) (a : Act) (texts later : List Text) (text : Text) → later ≡ texts ++ text ∷ [] → AreTextsOf g scene acts (Ok texts) → IsTextOf g scene a (Ok text) → AreTextsOf g scene (acts ++ a ∷ []) (Ok later)
text_more g scene acts a texts later text pushes h one stands scene_is =
    texts_both g stands acts a texts (h stands scene_is) (Ok text) (one stands scene_is) ∙ ap (λ (l : List Text). let r : Result (List Text) Refusal = Ok l in r) (sym pushes)

-- ---- an act behind texts that has none

stops_behind : (g : Graph) (stands : Text → Bool) (acts more : List Act) (a : Act) (texts : List Text) (why : Refusal) → texts_of g stands acts ≡ Ok texts → or_refused g stands a (text_of g stands a) ≡ Err why → texts_of g stands (acts ++ a ∷ more) ≡ Err why
stops_behind g stands [] more a texts why e refuses = ap (λ o. Both o (texts_of g stands more)) refuses
stops_behind g stands (x ∷ acts) more a texts why e refuses =
    by (or_refused g stands x (text_of g stands x)) refl (texts_of g stands acts) refl e (λ found same. stops_behind g stands acts more a found why same refuses)
  where
    by : (o : Result Text Refusal) → or_refused g stands x (text_of g stands x) ≡ o → (before : Result (List Text) Refusal) → texts_of g stands acts ≡ before → Both (or_refused g stands x (text_of g stands x)) (texts_of g stands acts) ≡ Ok texts
        → ((found : List Text) → texts_of g stands acts ≡ Ok found → texts_of g stands (acts ++ a ∷ more) ≡ Err why) → Both (or_refused g stands x (text_of g stands x)) (texts_of g stands (acts ++ a ∷ more)) ≡ Err why
    by (Ok text) k (Ok found) m all rest = ap₂ Both k (rest found m)
    by (Ok text) k (Err other) m all rest = absurd (let whole = sym (ap₂ Both k m) ∙ all in cc)
    by (Err other) k before m all rest = absurd (let whole = sym (ap₂ Both k m) ∙ all in cc)

module _ (g : Graph) (scene : Scene) (acts more : List Act) (a : Act) (texts : List Text) (h : AreTextsOf g scene acts (Ok texts)) where
  behind_or_not : (stands : Text → Bool) → IsScene g stands scene → (o : Option Refusal) → IsRefusedAs o (or_refused g stands a (text_of g stands a)) → IsRefusedAs o (texts_of g stands (acts ++ a ∷ more))
  behind_or_not stands scene_is None e = tt
  behind_or_not stands scene_is (Some why) e = stops_behind g stands acts more a texts why (h stands scene_is) e

  -- an act without a text stops them all
  pub text_stops : (fault : JamFault) → IsTextOf g scene a (Err fault) → AreTextsOf g scene (acts ++ a ∷ more) (Err fault)
  text_stops (faults.NoFile path) one stands scene_is = behind_or_not stands scene_is (refusal_of (faults.NoFile path)) (one stands scene_is)
  text_stops (faults.TooBig path size) one stands scene_is = behind_or_not stands scene_is (refusal_of (faults.TooBig path size)) (one stands scene_is)
  text_stops (faults.Lex path fault) one stands scene_is = behind_or_not stands scene_is (refusal_of (faults.Lex path fault)) (one stands scene_is)
  text_stops (faults.Syntax path fault) one stands scene_is = behind_or_not stands scene_is (refusal_of (faults.Syntax path fault)) (one stands scene_is)
  text_stops (faults.Eval fault) one stands scene_is = behind_or_not stands scene_is (refusal_of (faults.Eval fault)) (one stands scene_is)
  text_stops (faults.NoTarget name) one stands scene_is = behind_or_not stands scene_is (refusal_of (faults.NoTarget name)) (one stands scene_is)
  text_stops (faults.MixedNotFile target) one stands scene_is = behind_or_not stands scene_is (refusal_of (faults.MixedNotFile target)) (one stands scene_is)
  text_stops (faults.PathClash path) one stands scene_is = behind_or_not stands scene_is (refusal_of (faults.PathClash path)) (one stands scene_is)
  text_stops (faults.LocationOutside path) one stands scene_is = behind_or_not stands scene_is (refusal_of (faults.LocationOutside path)) (one stands scene_is)
  text_stops (faults.TooManySteps count) one stands scene_is = behind_or_not stands scene_is (refusal_of (faults.TooManySteps count)) (one stands scene_is)
  text_stops faults.Host one stands scene_is = absurd (one stands scene_is)
  text_stops faults.OutOfMemory one stands scene_is = tt

-- ---- how the text of one act is made

-- the names of a body, made of the paths that were found
pub expansion_made : (w : World) (scene : Scene) (a : Act) (body : Text) (outs ins : List Text) (answer : Text → Value) (result : Result Text ExpandFault) → HavePaths scene a.targets outs → HavePaths scene a.sources ins
    → answer ≡ names_of outs ins a.targets w → IsGivenBy result (body_expansion answer body) → IsExpansion w scene a body result
expansion_made w scene a body outs ins answer result outs_are ins_are answer_is given g stands h =
    subst (λ (n : Text → Value). IsGivenBy result (body_expansion n body)) (answer_is ∙ ap₂ (λ (o i : List Text). names_of o i a.targets w) (outs_are g stands h) (ins_are g stands h)) given

-- a fault that is told of a body
pub fault_told : (path copied : Text) (line : ℕ) (why : ExpandFault) → (why ≡ expansions.OutOfMemory → ⊥) → copied ≡ path → IsExpandFault path line why (faults.Eval (evals.At copied line (causes.Expand why)))
fault_told path copied line expansions.OutOfMemory other same = absurd (other refl)
fault_told path copied line (expansions.BadIndex text) other same = ap (λ (p : Text). Some (eval (record { spot = record { path = p; line = line }; cause = expand (expansions.BadIndex text) }))) same
fault_told path copied line (expansions.BadModifier text) other same = ap (λ (p : Text). Some (eval (record { spot = record { path = p; line = line }; cause = expand (expansions.BadModifier text) }))) same
fault_told path copied line expansions.TooDeep other same = ap (λ (p : Text). Some (eval (record { spot = record { path = p; line = line }; cause = expand expansions.TooDeep }))) same
fault_told path copied line (expansions.TooLarge bytes) other same = ap (λ (p : Text). Some (eval (record { spot = record { path = p; line = line }; cause = expand (expansions.TooLarge bytes) }))) same

some_none : {A : Type 0} (a : A) → Some a ≡ None → ⊥
some_none a e = let f : Some a ≡ None = e in cc

-- such a fault is none of the host
pub told_no_host : (path : Text) (line : ℕ) (why : ExpandFault) (fault : JamFault) → IsExpandFault path line why fault → fault ≡ faults.Host → ⊥
told_no_host path line expansions.OutOfMemory fault e host = let f : faults.OutOfMemory ≡ faults.Host = sym e ∙ host in cc
told_no_host path line (expansions.BadIndex text) fault e host = some_none _ (sym e ∙ ap refusal_of host)
told_no_host path line (expansions.BadModifier text) fault e host = some_none _ (sym e ∙ ap refusal_of host)
told_no_host path line expansions.TooDeep fault e host = some_none _ (sym e ∙ ap refusal_of host)
told_no_host path line (expansions.TooLarge bytes) fault e host = some_none _ (sym e ∙ ap refusal_of host)
