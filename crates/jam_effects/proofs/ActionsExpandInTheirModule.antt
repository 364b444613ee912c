-- What names stand for in a body of actions, in a frame of their module that binds nothing.
use Rattle.std.proofs.Common.{◌≡◌, ◌⊎◌, inl, inr, ◌||◌, Bool, true, false, cond, List, [], ◌∷◌, Option, Some, None, Ok, Err, refl, sym, ap, ◌∙◌, subst}
use Rattle.std.specs.Option.{option_map, option_or, unwrap_or}
use Rattle.std.specs.FinMap as map
use Rattle.jam_expand.specs.Bodies.{body_expansion}
use Rattle.jam_journal.specs.Tables.{Text, Key}
use Rattle.jam_journal.specs.Scopes.{Value, Scopes, look, look_in, enter, bound_in, is_special, is_in}
use Rattle.jam_scope.specs.Rules.{Actions}
use Rattle.jam_scope.specs.Worlds.{World}
use Rattle.jam_scope.specs.Lines.{actions_place}
use Rattle.jam_scope.specs.declared.notes.StepNotes.{StepNotes}
use Rattle.jam_meaning.specs.Faults.{Spot, Cause, unknown_rule, expand}
use Rattle.jam_meaning.specs.Rolled.{Job, own_at, or_look, is_text, body_names, noted}
use Rattle.jam_effects.specs.declared.fault.EvalFault.{EvalFault}
use Rattle.jam_effects.specs.declared.fault.EvalFault.TheVariants as fault
use Rattle.jam_meaning.specs.declared.step.StepText.{StepText}
use Rattle.jam_effects.specs.Causes.{IsFault}
use Rattle.jam_effects.specs.Answers.{IsAnswered}
use Rattle.jam_meaning.specs.StepJobs.{step_answer}
use Rattle.jam_effects.specs.Rolling.{or_found, names_here, texted, text_of_body, text_of_actions, IsStepText}

abbrev nothing : Option Value
nothing = None

none_bound : (b : Bool) → cond b nothing nothing ≡ nothing
none_bound true = refl
none_bound false = refl

-- a frame that binds nothing is looked through
look_entered : (owner name : Text) (s : Scopes) → look (enter owner s) name ≡ look_in owner s name
look_entered owner name s =
    ap (λ (o : Option Value). unwrap_or (option_or (option_or o (bound_in (λ other. is_special name || is_in owner other) s.frames name)) (map.get s.variables (owner, name))) [])
    (none_bound (is_special name || is_in owner owner))

found_same : (value : Option Value) (owner name : Text) (w : World) → or_found value name (record w { scopes = enter owner w.scopes }) ≡ or_look value owner name w
found_same None owner name w = look_entered owner name w.scopes
found_same (Some value) owner name w = refl

own_same : (targets : List Text) (owner name : Text) (w : World) → own_at targets name (record w { scopes = enter owner w.scopes }) ≡ own_at targets name w
own_same [] owner name w = refl
own_same (target ∷ targets) owner name w = refl

name_same : (outs ins : List Text) (owner : Text) (w : World) (name : Text) → names_here outs ins (record w { scopes = enter owner w.scopes }) name ≡ body_names outs ins outs owner w name
name_same outs ins owner w name =
    ap (λ v. cond (is_text 60 49 name) outs (cond (is_text 62 50 name) ins v))
    (ap (λ o. or_found o name (record w { scopes = enter owner w.scopes })) (own_same outs owner name w) ∙ found_same (own_at outs name w) owner name w)

pub names_same : (outs ins : List Text) (owner : Text) (w : World) → names_here outs ins (record w { scopes = enter owner w.scopes }) ≡ body_names outs ins outs owner w
names_same outs ins owner w = λ i name. name_same outs ins owner w name i

-- the text of actions that stand at a place
pub step_texted : (job : Job) (w : World) (key : Key) (actions : Actions) (text : Text) (notes : Option StepNotes) (step : StepText) (place : Option Key) → place ≡ Some key → map.get w.actions key ≡ Some actions → notes ≡ w.step
    → body_expansion (names_here job.outs job.ins (record w { scopes = enter key.0 w.scopes })) actions.text ≡ Ok text → step_answer step ≡ noted text notes → text_of_actions job w place ≡ Ok (step_answer step)
step_texted job w key actions text notes step place is found same expands answer =
    ap (text_of_actions job w) is ∙ ap (text_of_body job key.0 w) found
    ∙ ap (λ names. texted w.step (body_expansion names actions.text)) (sym (names_same job.outs job.ins key.0 w)) ∙ ap (texted w.step) expands
    ∙ ap Ok (ap (noted text) (sym same) ∙ sym answer)

-- its fault
pub step_untexted : (job : Job) (spot : Spot) (w : World) (key : Key) (actions : Actions) (e : EvalFault) (place : Option Key) → place ≡ Some key → map.get w.actions key ≡ Some actions
    → IsAnswered (λ (text : Text). text) (body_expansion (names_here job.outs job.ins (record w { scopes = enter key.0 w.scopes })) actions.text) spot (Err e)
    → (e ≡ fault.OutOfMemory) ⊎ ((cause : Cause) × (text_of_actions job w place ≡ Err cause) × IsFault spot cause e)
step_untexted job spot w key actions e place is found (inl memory) = inl memory
step_untexted job spot w key actions e place is found (inr (f, refuses, h)) =
    inr (
      expand f,
      ap (text_of_actions job w) is ∙ ap (text_of_body job key.0 w) found
          ∙ ap (λ names. texted w.step (body_expansion names actions.text)) (sym (names_same job.outs job.ins key.0 w)) ∙ ap (texted w.step) refuses,
      h,
    )

-- what names stand for where the code has opened a frame of the module of the actions
pub names_opened : (job : Job) (w opened : World) (owner : Text) (outs ins : List Text) → outs ≡ job.outs → ins ≡ job.ins → opened ≡ record w { scopes = enter owner w.scopes }
    → names_here outs ins opened ≡ names_here job.outs job.ins (record w { scopes = enter owner w.scopes })
names_opened job w opened owner outs ins first second is =
    ap (λ texts. names_here texts ins opened) first ∙ ap (λ texts. names_here job.outs texts opened) second ∙ ap (λ v. names_here job.outs job.ins v) is

-- no actions have the name, or none stand at their place
pub none_found : (job : Job) (spot : Spot) (w : World) (e : EvalFault) (place : Option Key) → place ≡ None → IsFault spot (unknown_rule job.name) e
    → (e ≡ fault.OutOfMemory) ⊎ ((cause : Cause) × (text_of_actions job w place ≡ Err cause) × IsFault spot cause e)
none_found job spot w e place none h = inr (unknown_rule job.name, ap (text_of_actions job w) none, h)

pub none_there : (job : Job) (spot : Spot) (w : World) (key : Key) (e : EvalFault) (place : Option Key) → place ≡ Some key → map.get w.actions key ≡ None → IsFault spot (unknown_rule job.name) e
    → (e ≡ fault.OutOfMemory) ⊎ ((cause : Cause) × (text_of_actions job w place ≡ Err cause) × IsFault spot cause e)
none_there job spot w key e place is none h = inr (unknown_rule job.name, ap (text_of_actions job w) is ∙ ap (text_of_body job key.0 w) none, h)

-- where actions are looked up
pub place_none : {X : Type 0} (f : X → Key) (found : Option X) (name given : Text) (w : World) → option_map f found ≡ actions_place given w → given ≡ name → found ≡ None → actions_place name w ≡ None
place_none f found name given w is same none = sym (ap (λ n. actions_place n w) same) ∙ sym is ∙ ap (option_map f) none

pub place_some : {X : Type 0} (f : X → Key) (found : Option X) (x : X) (name given : Text) (w : World) → option_map f found ≡ actions_place given w → given ≡ name → found ≡ Some x → actions_place name w ≡ Some (f x)
place_some f found x name given w is same some = sym (ap (λ n. actions_place n w) same) ∙ sym is ∙ ap (option_map f) some

-- the text that the code has, and its fault
pub texted_here : (job : Job) (w opened : World) (key : Key) (owner : Text) (actions : Actions) (given text : Text) (outs ins : List Text) (notes : Option StepNotes) (step : StepText) → actions_place job.name w ≡ Some key → map.get w.actions key ≡ Some actions
    → outs ≡ job.outs → ins ≡ job.ins → owner ≡ key.0 → opened ≡ record w { scopes = enter owner w.scopes } → given ≡ actions.text → body_expansion (names_here outs ins opened) given ≡ Ok text → notes ≡ opened.step → step_answer step ≡ noted text notes
    → text_of_actions job w (actions_place job.name w) ≡ Ok (step_answer step)
texted_here job w opened key owner actions given text outs ins notes step is found first second home open_ same expands noted_ answer =
    let there = open_ ∙ ap (λ o. record w { scopes = enter o w.scopes }) home in
    step_texted job w key actions text notes step (actions_place job.name w) is found (noted_ ∙ ap (λ (v : World). v.step) open_)
    (ap (λ names. body_expansion names actions.text) (sym (names_opened job w opened key.0 outs ins first second there)) ∙ ap (body_expansion (names_here outs ins opened)) (sym same) ∙ expands) answer

pub untexted_here : (job : Job) (spot : Spot) (w opened : World) (key : Key) (owner : Text) (actions : Actions) (given : Text) (outs ins : List Text) (e : EvalFault) → actions_place job.name w ≡ Some key → map.get w.actions key ≡ Some actions
    → outs ≡ job.outs → ins ≡ job.ins → owner ≡ key.0 → opened ≡ record w { scopes = enter owner w.scopes } → given ≡ actions.text → IsAnswered (λ (text : Text). text) (body_expansion (names_here outs ins opened) given) spot (Err e)
    → IsStepText job spot w (Err e)
untexted_here job spot w opened key owner actions given outs ins e is found first second home open_ same h =
    let there = open_ ∙ ap (λ o. record w { scopes = enter o w.scopes }) home in
    step_untexted job spot w key actions e (actions_place job.name w) is found
    (subst (λ names. IsAnswered (λ (text : Text). text) (body_expansion names actions.text) spot (Err e)) (names_opened job w opened key.0 outs ins first second there)
    (subst (λ b. IsAnswered (λ (text : Text). text) (body_expansion (names_here outs ins opened) b) spot (Err e)) same h))
