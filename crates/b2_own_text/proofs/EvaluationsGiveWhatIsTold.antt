-- How the parts of an evaluation give the answer that is told.
use Rattle.std.proofs.Common.{◌≡◌, ℕ, suc, Bool, true, false, not, eqb, is_some, List, [], ◌∷◌, length, Option, Some, None, option_map, Result, Ok, Err, refl, sym, ap, ◌∙◌, subst, arith}
use Rattle.std.proofs.lemmas.Bool.{eqb-true}
use Rattle.std.specs.Prelude.{IfErr, slice_get}
use Rattle.std.specs.Option.{IfSome}
use Rattle.std.specs.Str.{chars}
use Rattle.b2_host.specs.Disks.{Disk, IsConsistent}
use Rattle.b2_host.specs.Outside.{Outside}
use Rattle.b2_host.specs.OutsideLaws.{keeps_same, Keeps}
use Rattle.b2_evaluator.specs.Answers.{Answers, IsTellable, Agrees, IsTold}
use Rattle.b2_base.specs.Counts.{IsCounted, CountsFault}
use Rattle.b2_declared.specs.declared.place.Place.{Place}
use Rattle.b2_sight_laws.proofs.EveryMatchIsDecided.{match_told}
use Rattle.jam_journal.specs.Tables.{Text, Key}
use Rattle.jam_journal.specs.Scopes.{Value}
use Rattle.jam_scope.specs.Changes.{changed, mark, roll_back, newest_of, set_place, IsNewest, module_in}
use Rattle.jam_scope.specs.Lines.{find_rule, rule_place, places_from, at_key}
use Rattle.jam_scope.specs.Worlds.{World, Worlds}
use Rattle.jam_meaning.specs.Faults.{Spot, Cause, unknown_rule, refused_in}
use Rattle.jam_meaning.specs.Outcomes.{Outcome, gives, faults, close_frame}
use Rattle.jam_meaning.specs.Refused.{Refuses}
use Rattle.jam_meaning.specs.Rolled.{Job, back_to, in_copy, call_rolled}
use Rattle.jam_meaning.specs.Settings.{Setting, IsSetting}
use Rattle.jam_meaning.specs.States.{State}
use Rattle.jam_meaning.specs.StepJobs.{job_of, step_answer}
use Rattle.jam_meaning.specs.declared.step.StepJob.{StepJob}
use Rattle.jam_meaning.specs.declared.step.StepText.{StepText}
use Rattle.jam_natives.specs.Keeping.{Kept}
use Rattle.jam_natives.specs.Rows.{jam_meaning}
use Rattle.jam_effects.specs.declared.fault.EvalCause.{EvalCause}
use Rattle.jam_effects.specs.declared.fault.EvalCause.TheVariants as causes
use Rattle.jam_effects.specs.declared.fault.EvalFault.{EvalFault}
use Rattle.jam_effects.specs.declared.fault.EvalFault.TheVariants as fault
use Rattle.jam_effects.specs.Causes.{cause_of, refused_by, refused_of, HoldsNoMemory, IsFault}
use Rattle.jam_effects.specs.Does.{Agrees as IsOutcome, Tells, Counts}
use Rattle.jam_effects.specs.Machines.{Machine, state_of, folder_of}
use Rattle.jam_effects.specs.Views.{What}
use Rattle.jam_interp.specs.declared.rolled.CallAnswer.{CallAnswer}
use Rattle.jam_interp.specs.FunctionParts.{call_value, call_rolled_at, step_text_at}
use Rattle.jam_interp.proofs.StepsCallTheirRule.{first_there}
use Rattle.jam_effects.proofs.RecordingDoesAsDefined.{some_key}
use Rattle.b2_own_text.specs.EvaluationParts.{HasRule, IsPlaced, EndsWithRefusal, Evaluates, call_at, in_project_at, returned_at, entered, texts, text_placed_at, text_of_at}
use Rattle.b2_own_text.specs.Faults.{why_of, answer_of, is_host_fault, is_out_of_memory}
use Rattle.b2_own_text.specs.AskedQuestions.{Asks}
use Rattle.b2_own_text.specs.KeptState.{held, EndsQuestion}
use Rattle.b2_own_text.specs.Questions.{EndsWith, IsRefused}
use Rattle.b2_own_text.specs.declared.question.Question.{Question}
use Rattle.b2_own_text.specs.declared.question.Question.TheVariants.{OfRule, OfStep}
use Rattle.b2_own_text.specs.Readings.{reads}
use Rattle.b2_own_text.specs.DiskViews.{setting_of, refusing}
use Rattle.b2_own_text.specs.Turns.{turns}
use Rattle.b2_own_text.specs.Worlds.{state_in, fault_from, placed, call_if, with_module, returned_of, text_of, answers_in, told_in}
use Rattle.b2_own_text.proofs.NamesHold.{names_hold}

-- ---- the setting

pub right : (disk : Disk) → IsConsistent disk → IsSetting (setting_of disk)
right disk consistent = record {
  sees = record { lists = λ dir. names_hold disk consistent dir; matches = λ pattern text. (match_told (chars text) (chars pattern)).1 };
  reads = λ path. (reads disk.now path).1;
}

right_refusing : (disk : Disk) → IsConsistent disk → (left : ℕ) (pattern : Text) → IsSetting (refusing disk left pattern)
right_refusing disk consistent left pattern = record { sees = (right disk consistent).sees; reads = (right disk consistent).reads }

-- nothing is recorded
abbrev nothing : Kept
nothing = record { decls = []; echoes = [] }

pub turns_are : 100000 ≡ turns
unfolding turns
turns_are = refl

-- the machine of an evaluation that begins
pub record Begins (m : Machine Kept) : Type 0 where
  pub left : m.left ≡ turns
  pub budget : m.budget ≡ turns
  pub kept : m.kept ≡ nothing
  pub meaning : m.meaning ≡ Some jam_meaning

state_is : (worlds : Worlds) (left : ℕ) (kept : Kept) → left ≡ turns → kept ≡ nothing → (let s : State Kept = record { worlds = worlds; left = left; kept = kept } in s) ≡ state_in worlds
state_is worlds left kept e f =
    ap (λ n. let s : State Kept = record { worlds = worlds; left = n; kept = kept } in s) e ∙ ap (λ k. let s : State Kept = record { worlds = worlds; left = turns; kept = k } in s) f

-- ---- answers

why_is : (why : EvalCause) → why_of (cause_of why) ≡ why
why_is (causes.UnknownRule name) = refl
why_is (causes.Arity rule) = refl
why_is (causes.Turns budget) = refl
why_is causes.Depth = refl
why_is (causes.Expand found) = refl
why_is (causes.Exit text) = refl
why_is (causes.Native found) = refl
why_is (causes.Include path) = refl
why_is (causes.Lex found) = refl
why_is (causes.Syntax line found) = refl
why_is (causes.TooBig path size) = refl

abbrev Tellable : EvalFault → Type 0
Tellable e = IsTellable is_host_fault is_out_of_memory e

no_host : {X : Type 0} → Tellable fault.Host → X
no_host t = absurd (let clash : true ≡ false = t.no_host_fault in cc)

no_memory : {X : Type 0} → Tellable fault.OutOfMemory → X
no_memory t = absurd (let clash : true ≡ false = t.no_memory_fault in cc)

pub none_if : {X : Type 0} (found : Option X) → is_some found ≡ false → found ≡ None
none_if None e = refl
none_if (Some x) e = absurd (let clash : true ≡ false = e in cc)

none_some : {X Y : Type 0} (x : X) → None ≡ Some x → Y
none_some x e = absurd (let clash : None ≡ Some x = e in cc)

some_if : {X : Type 0} (found : Option X) → is_some found ≡ true → (x : X) × (found ≡ Some x)
some_if None e = absurd (let clash : false ≡ true = e in cc)
some_if (Some x) e = (x, refl)

refuses_none : (before after : ℕ) (found : Option Text) → found ≡ None → Refuses None before after found
refuses_none before after found e = subst (Refuses None before after) (sym e) (λ left low high. refl)

-- an outcome of which the result is known, as an answer
answered : {A B : Type 0} (setting : Setting Kept) (view : A → B) (result : Result A EvalFault) (o : Outcome Kept B) (s : State Kept) (before after : ℕ)
    → (Refuses None before after (refused_of result) → IsOutcome setting view result o s) → Agrees is_host_fault is_out_of_memory view (answer_of o) result
answered setting view (Ok a) o s before after h = ap answer_of (h (refuses_none before after None refl))
answered setting view (Err fault.Host) o s before after h = λ t. no_host t
answered setting view (Err fault.OutOfMemory) o s before after h = λ t. no_memory t
answered setting view (Err (fault.At path line why)) o s before after h = λ t.
    ap answer_of (h (refuses_none before after (refused_in (cause_of why)) (none_if (refused_in (cause_of why)) t.no_host_fault)))
    ∙ ap (λ w. Err (fault.At path line w)) (why_is why)

-- an outcome of which the result is known where a pattern was refused
ended : {A B : Type 0} (view : A → B) (what : What Kept B) (worlds : Worlds) (disk : Disk) (result : Result A EvalFault) (left : ℕ) (s : State Kept)
    → ((pattern : Text) → refused_of result ≡ Some pattern → IsOutcome (refusing disk left pattern) view result (what (refusing disk left pattern) (state_in worlds)) s) → IfErr result (EndsWithRefusal what worlds disk)
ended view what worlds disk (Ok a) left s h = tt
ended view what worlds disk (Err fault.Host) left s h = λ pattern e. none_some pattern e
ended view what worlds disk (Err fault.OutOfMemory) left s h = λ pattern e. none_some pattern e
ended view what worlds disk (Err (fault.At path line why)) left s h = λ pattern e. (left, ap answer_of (h pattern e) ∙ ap (λ w. Err (fault.At path line w)) (why_is why))

both_count : (b : Bool) (before after : ℕ) → after ≡ before → CountsFault b b before after
both_count true before after h = h
both_count false before after h = h

counted : {A : Type 0} (result : Result A EvalFault) (before after : Outside) → Counts result before after → IsCounted is_host_fault is_out_of_memory before.faults after.faults result
counted (Ok a) before after h = h
counted (Err fault.Host) before after h = record { kept = h.kept; more = h.more }
counted (Err fault.OutOfMemory) before after h = tt
counted (Err (fault.At path line why)) before after h = both_count (is_some (refused_in (cause_of why))) before.faults after.faults h

-- what the interpreter does, begun with all turns
pub evaluates : {A B : Type 0} (view : A → B) (what : What Kept B) (m n : Machine Kept) (result : Result A EvalFault) → Begins m → Tells view what m n result
    → n.outside.disk ≡ m.outside.disk → n.outside.children ≡ m.outside.children → Keeps m.outside n.outside → Counts result m.outside n.outside → IfErr result HoldsNoMemory
    → Evaluates view what m.worlds m.outside n.outside result
evaluates view what m n result begins tells disk children keeps counts whole = record {
  told = λ now visible consistent. answered (setting_of now) view result (what (setting_of now) (state_in m.worlds)) (state_of n) m.left n.left
      (λ none. subst (λ s. IsOutcome (setting_of now) view result (what (setting_of now) s) (state_of n)) (state_is m.worlds m.left m.kept begins.left begins.kept)
      (tells (setting_of now) (record { budget = begins.budget; natives = begins.meaning; folder = ap folder_of visible; right = right now consistent }) none));
  refused = λ now visible consistent. ended view what m.worlds now result n.left (state_of n)
      (λ pattern is. subst (λ s. IsOutcome (refusing now n.left pattern) view result (what (refusing now n.left pattern) s) (state_of n)) (state_is m.worlds m.left m.kept begins.left begins.kept)
      (tells (refusing now n.left pattern)
      (record { budget = begins.budget; natives = begins.meaning; folder = ap folder_of visible; right = right_refusing now consistent n.left pattern })
      (subst (Refuses (Some (n.left, pattern)) m.left n.left) (sym is) refl)));
  disk = disk;
  children = children;
  keeps = keeps;
  counted = counted result m.outside n.outside counts;
  whole = whole;
}

-- no memory was left before anything was evaluated
pub no_memory_for : {A B : Type 0} (view : A → B) (what : What Kept B) (worlds : Worlds) (o : Outside) → Evaluates view what worlds o o (Err fault.OutOfMemory)
no_memory_for view what worlds o = record {
  told = λ disk visible consistent t. no_memory t;
  refused = λ disk visible consistent pattern e. none_some pattern e;
  disk = refl;
  children = refl;
  keeps = keeps_same o o refl;
  counted = tt;
  whole = tt;
}

pub no_memory_left : {A B : Type 0} (view : A → B) (what : What Kept B) (worlds : Worlds) (o : Outside) (result : Result A EvalFault) (e : EvalFault) → result ≡ Err e → e ≡ fault.OutOfMemory
    → Evaluates view what worlds o o result
no_memory_left view what worlds o result e is out = subst (Evaluates view what worlds o o) (sym (is ∙ ap Err out)) (no_memory_for view what worlds o)

-- ---- faults at a spot

pub placed_empty : (spot : Spot) (path : Text) (line : ℕ) (why : EvalCause) (moved : EvalFault) (empty : Bool) → empty ≡ eqb (length path) 0 → empty ≡ true → IsFault spot (cause_of why) moved
    → IsPlaced spot (fault.At path line why) moved
placed_empty spot [] line why moved empty e t is = is
placed_empty spot (byte ∷ bytes) line why moved empty e t is = absurd (let none : length (byte ∷ bytes) ≡ 0 = eqb-true (length (byte ∷ bytes)) 0 (sym e ∙ t) in omega (arith, none))

pub placed_whole : (spot : Spot) (path : Text) (line : ℕ) (why : EvalCause) (empty : Bool) → empty ≡ eqb (length path) 0 → empty ≡ false → IsPlaced spot (fault.At path line why) (fault.At path line why)
placed_whole spot [] line why empty e f = absurd (let clash : false ≡ true = sym f ∙ e in cc)
placed_whole spot (byte ∷ bytes) line why empty e f = refl

-- the fault that is made for a cause at a spot is told so
fault_told : {B : Type 0} (spot : Spot) (cause : Cause) (e : EvalFault) (s : State Kept) → IsFault spot cause e → Tellable e
    → answer_of {A = B} (faults (record { spot = spot; cause = cause }) s) ≡ Err e
fault_told spot cause fault.Host s is t = no_host t
fault_told spot cause fault.OutOfMemory s is t = no_memory t
fault_told spot cause (fault.At path line why) s is t =
    ap (λ (p : Spot). Err (fault.At p.path p.line (why_of cause))) (sym is.0) ∙ ap (λ w. Err (fault.At path line w)) (ap why_of (sym is.1) ∙ why_is why)

fault_counted : (spot : Spot) (cause : Cause) (e : EvalFault) (count : ℕ) → IsFault spot cause e → CountsFault (is_host_fault e) (is_out_of_memory e) count count
fault_counted spot cause fault.Host count is = absurd is
fault_counted spot cause fault.OutOfMemory count is = tt
fault_counted spot cause (fault.At path line why) count is = both_count (is_some (refused_in (cause_of why))) count count refl

fault_whole : (spot : Spot) (cause : Cause) (e : EvalFault) → IsFault spot cause e → HoldsNoMemory e
fault_whole spot cause fault.Host is = absurd is
fault_whole spot cause fault.OutOfMemory is = tt
fault_whole spot cause (fault.At path line why) is = is.2

-- a rule that is not there is no pattern
fault_named : (spot : Spot) (name : Text) (e : EvalFault) → IsFault spot (unknown_rule name) e → refused_by e ≡ None
fault_named spot name fault.Host is = absurd is
fault_named spot name fault.OutOfMemory is = refl
fault_named spot name (fault.At path line why) is = ap refused_in is.1

none_key : {X : Type 0} (f : X → Key) (found : Option X) (none : Bool) (place : Option Key) → option_map f found ≡ place → is_some found ≡ not none → none ≡ true → place ≡ None
none_key f None none place e s n = sym e
none_key f (Some x) none place e s n = absurd (let clash : true ≡ false = s ∙ ap not n in cc)

-- whether the present module sees a rule of this name
pub no_rule_there : {X : Type 0} (f : X → Key) (found : Option X) (none : Bool) (name given : Text) (w : World) → given ≡ name → option_map f found ≡ rule_place given w → is_some found ≡ not none → none ≡ true
    → find_rule name w ≡ None
no_rule_there f found none name given w same at is true_is = ap (at_key w.rules) (ap (λ n. rule_place n w) (sym same) ∙ none_key f found none (rule_place given w) at is true_is)

pub rule_there : {X : Type 0} (f : X → Key) (found : Option X) (none : Bool) (name given : Text) (w : World) → given ≡ name → option_map f found ≡ rule_place given w → is_some found ≡ not none → none ≡ false
    → HasRule name w
rule_there f found none name given w same at is false_is =
    let key = some_key f found none (rule_place given w) at is false_is in
    let place : rule_place name w ≡ Some key.0 = ap (λ n. rule_place n w) (sym same) ∙ key.1 in
    let rule = first_there w.rules (places_from w.parents (module_in w) name) key.0 place in
    (rule.0, ap (at_key w.rules) place ∙ rule.1)

-- there is no rule of this name
pub no_rule : (spot : Spot) (name : Text) (properties : List Text) (worlds : Worlds) (o : Outside) (e : EvalFault) → find_rule name worlds.now ≡ None → IsFault spot (unknown_rule name) e
    → Evaluates texts (call_at spot name properties) worlds o o (Err e)
no_rule spot name properties worlds o e none is = record {
  told = λ disk visible consistent t. ap (λ found. answer_of (call_if (setting_of disk) found spot name properties (state_in worlds))) none ∙ fault_told spot (unknown_rule name) e (state_in worlds) is t;
  refused = λ disk visible consistent pattern named. none_some pattern (sym (fault_named spot name e is) ∙ named);
  disk = refl;
  children = refl;
  keeps = keeps_same o o refl;
  counted = fault_counted spot (unknown_rule name) e o.faults is;
  whole = fault_whole spot (unknown_rule name) e is;
}

-- ---- a call that is there

-- what is done there
there : (spot : Spot) (name : Text) (properties : List Text) (worlds : Worlds) (setting : Setting Kept) → HasRule name worlds.now
    → answer_of (placed spot (call_rolled setting name (properties ∷ []) (state_in worlds))) ≡ answer_of (call_at spot name properties setting (state_in worlds))
there spot name properties worlds setting has = sym (ap (λ found. answer_of (call_if setting found spot name properties (state_in worlds))) has.1)

given_stays : (spot : Spot) (o : Outcome Kept Value) (v : Value) → answer_of o ≡ Ok v → answer_of (placed spot o) ≡ Ok v
given_stays spot (gives value s) v e = e
given_stays spot (faults found s) v e = absurd (let clash : Err (let f : EvalFault = fault.At found.spot.path found.spot.line (why_of found.cause) in f) ≡ Ok v = e in cc)

moved_empty : (spot : Spot) (o : Outcome Kept Value) (line : ℕ) (why w : EvalCause) (at : Spot) → answer_of o ≡ Err (fault.At [] line why) → at ≡ spot → cause_of w ≡ cause_of why
    → answer_of (placed spot o) ≡ Err (fault.At at.path at.line w)
moved_empty spot (gives value s) line why w at e same cause = absurd (let clash : Ok value ≡ Err (let f : EvalFault = fault.At [] line why in f) = e in cc)
moved_empty spot (faults found s) line why w at e same cause =
    let path : found.spot.path ≡ [] = cc in
    let why_same : why_of found.cause ≡ why = cc in
    ap (λ p. (let placed_there : Outcome Kept Value = faults (fault_from spot p found) s in answer_of placed_there)) path
    ∙ ap (λ (p : Spot). Err (fault.At p.path p.line (why_of found.cause))) (sym same)
    ∙ ap (λ x. Err (fault.At at.path at.line x)) (why_same ∙ sym (why_is why) ∙ ap why_of (sym cause) ∙ why_is w)

moved_stays : (spot : Spot) (o : Outcome Kept Value) (byte : ℕ) (bytes : Text) (line : ℕ) (why : EvalCause) → answer_of o ≡ Err (fault.At (byte ∷ bytes) line why)
    → answer_of (placed spot o) ≡ Err (fault.At (byte ∷ bytes) line why)
moved_stays spot (gives value s) byte bytes line why e = absurd (let clash : Ok value ≡ Err (let f : EvalFault = fault.At (byte ∷ bytes) line why in f) = e in cc)
moved_stays spot (faults found s) byte bytes line why e =
    let path : found.spot.path ≡ byte ∷ bytes = cc in ap (λ p. (let placed_there : Outcome Kept Value = faults (fault_from spot p found) s in answer_of placed_there)) path ∙ e

tellable_by : (path p : Text) (line l : ℕ) (why w : EvalCause) → cause_of w ≡ cause_of why → Tellable (fault.At p l w) → Tellable (fault.At path line why)
tellable_by path p line l why w same t = record {
  no_host_fault = ap (λ c. is_some (refused_in c)) (sym same) ∙ t.no_host_fault;
  no_memory_fault = ap (λ c. is_some (refused_in c)) (sym same) ∙ t.no_memory_fault;
}

moved_told : (spot : Spot) (o : Outcome Kept Value) (e moved : EvalFault) → IsPlaced spot e moved → (Tellable e → answer_of o ≡ Err e) → Tellable moved → answer_of (placed spot o) ≡ Err moved
moved_told spot o fault.Host moved is h t = no_host (subst Tellable is t)
moved_told spot o fault.OutOfMemory moved is h t = no_memory (subst Tellable is t)
moved_told spot o (fault.At [] line why) fault.Host is h t = no_host t
moved_told spot o (fault.At [] line why) fault.OutOfMemory is h t = no_memory t
moved_told spot o (fault.At [] line why) (fault.At p l w) is h t =
    moved_empty spot o line why w (record { path = p; line = l }) (h (tellable_by [] p line l why w is.1 t)) is.0 is.1
moved_told spot o (fault.At (byte ∷ bytes) line why) moved is h t =
    moved_stays spot o byte bytes line why (h (subst Tellable is t)) ∙ ap Err (sym is)

-- a pattern that was refused stays so
moved_pattern : (spot : Spot) (e moved : EvalFault) → IsPlaced spot e moved → (pattern : Text) → refused_by moved ≡ Some pattern → refused_by e ≡ Some pattern
moved_pattern spot fault.Host moved is pattern named = ap refused_by (sym is) ∙ named
moved_pattern spot fault.OutOfMemory moved is pattern named = ap refused_by (sym is) ∙ named
moved_pattern spot (fault.At [] line why) fault.Host is pattern named = absurd is
moved_pattern spot (fault.At [] line why) fault.OutOfMemory is pattern named = none_some pattern named
moved_pattern spot (fault.At [] line why) (fault.At p l w) is pattern named = ap refused_in (sym is.1) ∙ named
moved_pattern spot (fault.At (byte ∷ bytes) line why) moved is pattern named = ap refused_by (sym is) ∙ named

moved_ends : (spot : Spot) (o : Outcome Kept Value) (e moved : EvalFault) → IsPlaced spot e moved → (pattern : Text) → refused_by moved ≡ Some pattern → answer_of o ≡ Err e → answer_of (placed spot o) ≡ Err moved
moved_ends spot o fault.Host moved is pattern named h = none_some pattern (ap refused_by (sym is) ∙ named)
moved_ends spot o fault.OutOfMemory moved is pattern named h = none_some pattern (ap refused_by (sym is) ∙ named)
moved_ends spot o (fault.At [] line why) fault.Host is pattern named h = absurd is
moved_ends spot o (fault.At [] line why) fault.OutOfMemory is pattern named h = none_some pattern named
moved_ends spot o (fault.At [] line why) (fault.At p l w) is pattern named h = moved_empty spot o line why w (record { path = p; line = l }) h is.0 is.1
moved_ends spot o (fault.At (byte ∷ bytes) line why) moved is pattern named h = moved_stays spot o byte bytes line why h ∙ ap Err (sym is)

moved_counted : (spot : Spot) (e moved : EvalFault) (before after : ℕ) → IsPlaced spot e moved → CountsFault (is_host_fault e) (is_out_of_memory e) before after
    → CountsFault (is_host_fault moved) (is_out_of_memory moved) before after
moved_counted spot fault.Host moved before after is h = subst (λ e. CountsFault (is_host_fault e) (is_out_of_memory e) before after) (sym is) h
moved_counted spot fault.OutOfMemory moved before after is h = subst (λ e. CountsFault (is_host_fault e) (is_out_of_memory e) before after) (sym is) h
moved_counted spot (fault.At [] line why) fault.Host before after is h = absurd is
moved_counted spot (fault.At [] line why) fault.OutOfMemory before after is h = tt
moved_counted spot (fault.At [] line why) (fault.At p l w) before after is h =
    subst (λ c. CountsFault (is_some (refused_in c)) (is_some (refused_in c)) before after) (sym is.1) h
moved_counted spot (fault.At (byte ∷ bytes) line why) moved before after is h = subst (λ e. CountsFault (is_host_fault e) (is_out_of_memory e) before after) (sym is) h

moved_whole : (spot : Spot) (e moved : EvalFault) → IsPlaced spot e moved → HoldsNoMemory e → HoldsNoMemory moved
moved_whole spot fault.Host moved is h = subst HoldsNoMemory (sym is) tt
moved_whole spot fault.OutOfMemory moved is h = subst HoldsNoMemory (sym is) tt
moved_whole spot (fault.At [] line why) moved is h = fault_whole spot (cause_of why) moved is
moved_whole spot (fault.At (byte ∷ bytes) line why) moved is h = subst HoldsNoMemory (sym is) h

module _ (spot : Spot) (name given : Text) (properties : List Text) (args : List Value) (worlds : Worlds) (from to : Outside) (has : HasRule name worlds.now) (same : given ≡ name) (one : args ≡ properties ∷ []) where
  called : (setting : Setting Kept) → call_rolled setting given args (state_in worlds) ≡ call_rolled setting name (properties ∷ []) (state_in worlds)
  called setting = ap (λ n. call_rolled setting n args (state_in worlds)) same ∙ ap (λ a. call_rolled setting name a (state_in worlds)) one

  pub call_gave : (answer : CallAnswer) → Evaluates call_value (call_rolled_at given args) worlds from to (Ok answer) → Evaluates texts (call_at spot name properties) worlds from to (Ok answer.value)
  call_gave answer does = record {
    told = λ disk visible consistent. sym (there spot name properties worlds (setting_of disk) has)
        ∙ given_stays spot (call_rolled (setting_of disk) name (properties ∷ []) (state_in worlds)) answer.value (ap answer_of (sym (called (setting_of disk))) ∙ does.told disk visible consistent);
    refused = λ disk visible consistent. tt;
    disk = does.disk;
    children = does.children;
    keeps = does.keeps;
    counted = does.counted;
    whole = tt;
  }

  pub call_failed : (e moved : EvalFault) → IsPlaced spot e moved → Evaluates call_value (call_rolled_at given args) worlds from to (Err e) → Evaluates texts (call_at spot name properties) worlds from to (Err moved)
  call_failed e moved is does = record {
    told = λ disk visible consistent t. sym (there spot name properties worlds (setting_of disk) has)
        ∙ moved_told spot (call_rolled (setting_of disk) name (properties ∷ []) (state_in worlds)) e moved is (λ u. ap answer_of (sym (called (setting_of disk))) ∙ does.told disk visible consistent u) t;
    refused = λ disk visible consistent pattern named.
        let found = does.refused disk visible consistent pattern (moved_pattern spot e moved is pattern named) in (
          found.0,
          sym (there spot name properties worlds (refusing disk found.0 pattern) has)
              ∙ moved_ends spot (call_rolled (refusing disk found.0 pattern) name (properties ∷ []) (state_in worlds)) e moved is pattern named (ap answer_of (sym (called (refusing disk found.0 pattern))) ∙ found.1),
        );
    disk = does.disk;
    children = does.children;
    keeps = does.keeps;
    counted = moved_counted spot e moved from.faults to.faults is does.counted;
    whole = moved_whole spot e moved is does.whole;
  }

-- ---- in the module of a project, in a copy of the world

pub newest : (before marked ended : Worlds) (number : ℕ) → marked ≡ mark before → ended.marked ≡ marked.marked → number ≡ length before.marked → IsNewest number ended
newest before marked ended number is same count =
    let more : length ended.marked ≡ suc (length before.marked) = ap length (same ∙ ap (λ ws. ws.marked) is) in omega (arith, more, count)

pub back : (before marked ended last : Worlds) → marked ≡ mark before → ended.marked ≡ marked.marked → last ≡ roll_back ended → last ≡ before
back before marked ended last is same rolled = rolled ∙ ap (newest_of ended) (same ∙ ap (λ ws. ws.marked) is)

answer_closed : {A : Type 0} (o : Outcome Kept A) → answer_of (close_frame o) ≡ answer_of o
answer_closed (gives a s) = refl
answer_closed (faults found s) = refl

answer_back : {A : Type 0} (worlds : Worlds) (o : Outcome Kept A) → answer_of (back_to worlds o) ≡ answer_of o
answer_back worlds (gives a s) = refl
answer_back worlds (faults found s) = refl

same_refused : {A B : Type 0} (what other : What Kept B) (worlds inside : Worlds) (disk : Disk) (result : Result A EvalFault)
    → ((setting : Setting Kept) → answer_of (other setting (state_in worlds)) ≡ answer_of (what setting (state_in inside))) → IfErr result (EndsWithRefusal what inside disk) → IfErr result (EndsWithRefusal other worlds disk)
same_refused what other worlds inside disk (Ok a) same h = tt
same_refused what other worlds inside disk (Err e) same h = λ pattern named. let found = h pattern named in (found.0, same (refusing disk found.0 pattern) ∙ found.1)

-- the same of another outcome with the same answer, from other worlds
same_answer : {A B : Type 0} (view : A → B) (what other : What Kept B) (worlds inside : Worlds) (from to : Outside) (result : Result A EvalFault)
    → ((setting : Setting Kept) → answer_of (other setting (state_in worlds)) ≡ answer_of (what setting (state_in inside)))
    → Evaluates view what inside from to result → Evaluates view other worlds from to result
same_answer view what other worlds inside from to result same does = record {
  told = λ disk visible consistent. subst (λ a. Agrees is_host_fault is_out_of_memory view a result) (sym (same (setting_of disk))) (does.told disk visible consistent);
  refused = λ disk visible consistent. same_refused what other worlds inside disk result same (does.refused disk visible consistent);
  disk = does.disk;
  children = does.children;
  keeps = does.keeps;
  counted = does.counted;
  whole = does.whole;
}

pub call_entered : (project : Place) (name : Text) (line : ℕ) (properties : List Text) (spot : Spot) (worlds inside : Worlds) (from to : Outside) (result : Result Value EvalFault)
    → inside ≡ entered project worlds → spot ≡ record { path = project.file; line = line } → Evaluates texts (call_at spot name properties) inside from to result
    → Evaluates texts (in_project_at project name line properties) worlds from to result
call_entered project name line properties spot worlds inside from to result is same does =
    same_answer texts (call_at spot name properties) (in_project_at project name line properties) worlds inside from to result
    (λ setting. answer_closed (call_at (record { path = project.file; line = line }) name properties setting (state_in (entered project worlds)))
    ∙ ap (λ p. answer_of (call_at p name properties setting (state_in (entered project worlds)))) (sym same)
    ∙ ap (λ ws. answer_of (call_at spot name properties setting (state_in ws))) (sym is))
    does

-- what was done since a mark is undone
pub undone : {A B : Type 0} (view : A → B) (what : What Kept B) (worlds inside : Worlds) (from to : Outside) (result : Result A EvalFault) → inside ≡ mark worlds
    → Evaluates view what inside from to result → Evaluates view (λ setting s. in_copy (what setting) s) worlds from to result
undone view what worlds inside from to result is does =
    same_answer view what (λ setting s. in_copy (what setting) s) worlds inside from to result
    (λ setting. answer_back worlds (what setting (state_in (mark worlds))) ∙ ap (λ ws. answer_of (what setting (state_in ws))) (sym is))
    does

-- in the directory of a project
pub text_there : (project : Place) (job : Job) (worlds inside : Worlds) (from to : Outside) (result : Result StepText EvalFault) → inside ≡ changed (set_place project.dir) worlds
    → Evaluates step_answer (step_text_at job) inside from to result → Evaluates step_answer (text_placed_at project job) worlds from to result
text_there project job worlds inside from to result is does =
    same_answer step_answer (step_text_at job) (text_placed_at project job) worlds inside from to result
    (λ setting. ap (λ ws. answer_of (step_text_at job setting (state_in ws))) (sym is))
    does

pub closed_there : (project : Place) (worlds inside : Worlds) → inside ≡ changed (set_place project.dir) worlds → worlds.now.step ≡ None → inside.now.step ≡ None
closed_there project worlds inside is closed = ap (λ ws. ws.now.step) is ∙ closed

-- ---- what is told

-- where the files are visible, an evaluation is told
told_where : {A B : Type 0} (view : A → B) (what : What Kept B) (projects : List Place) (worlds : Worlds) (from to : Outside) (result : Result A EvalFault) (asked : Answers EvalFault → Result B EvalFault)
    → IfSome from.disk IsConsistent → ((disk : Disk) → asked (answers_in (setting_of disk) projects worlds) ≡ answer_of (what (setting_of disk) (state_in worlds))) → Evaluates view what worlds from to result
    → IsTold is_host_fault is_out_of_memory view asked (told_in projects worlds from.disk) result
told_where {A} {B} view what projects worlds from to result asked consistent same does = go from.disk refl consistent
  where
    go : (disk : Option Disk) → from.disk ≡ disk → IfSome disk IsConsistent → IsTold is_host_fault is_out_of_memory view asked (told_in projects worlds disk) result
    go None e one_each = tt
    go (Some disk) e one_each = subst (λ a. Agrees is_host_fault is_out_of_memory view a result) (sym (same disk)) (does.told disk e one_each)

-- ---- what comes of a question

-- the answer of this question is the one of what was evaluated
abbrev IsAnswerOf : {B : Type 0} → What Kept B → List Place → Worlds → Question → Type 0
IsAnswerOf what projects worlds question =
    (setting : Setting Kept) (e : EvalFault) → answer_of (what setting (state_in worlds)) ≡ Err e → EndsWith (answers_in setting projects worlds) question e

ends_where : {A B : Type 0} (view : A → B) (what : What Kept B) (projects : List Place) (worlds : Worlds) (host : ℕ) (from to : Outside) (result : Result A EvalFault) (question : Question)
    → IfSome from.disk IsConsistent → IsAnswerOf what projects worlds question → Evaluates view what worlds from to result → IfErr result (EndsQuestion (held projects worlds host from) question)
ends_where view what projects worlds host from to (Ok a) question consistent asks does = tt
ends_where view what projects worlds host from to (Err e) question consistent asks does = record { whole = does.whole; refused = go from.disk refl consistent }
  where
    go : (disk : Option Disk) → from.disk ≡ disk → IfSome disk IsConsistent → IfSome disk (λ d. is_some (refused_by e) ≡ true → IsRefused projects worlds d question e)
    go None visible one_each = tt
    go (Some disk) visible one_each = λ is.
        let pattern = some_if (refused_by e) is in
        let found = does.refused disk visible one_each pattern.0 pattern.1 in
        record { left = found.0; pattern = pattern.0; names = pattern.1; ends = asks (refusing disk found.0 pattern.0) e found.1 }

-- where there is no such project, nothing is returned
pub asks_nothing : (projects : List Place) (worlds : Worlds) (host : ℕ) (o : Outside) (project : ℕ) (name : Text) (line : ℕ) (properties list : List Text) → list ≡ [] → slice_get projects project ≡ None
    → Asks texts (λ a. a.returned project name line properties) (OfRule project name line properties) projects worlds host o o (Ok list)
asks_nothing projects worlds host o project name line properties list empty none = record { told = told o.disk; ends = tt; counted = refl; disk = refl; children = refl }
  where
    told : (disk : Option Disk) → IsTold is_host_fault is_out_of_memory texts (λ a. a.returned project name line properties) (told_in projects worlds disk) (Ok list)
    told None = tt
    told (Some disk) = ap (λ p. answer_of (returned_of (setting_of disk) p name line properties (state_in worlds))) none ∙ ap (λ l. Ok l) (sym empty)

pub asks_returned : (projects : List Place) (worlds : Worlds) (host : ℕ) (from to : Outside) (project : ℕ) (place : Place) (name : Text) (line : ℕ) (properties : List Text) (result : Result Value EvalFault)
    → slice_get projects project ≡ Some place → IfSome from.disk IsConsistent → Evaluates texts (returned_at place name line properties) worlds from to result
    → Asks texts (λ a. a.returned project name line properties) (OfRule project name line properties) projects worlds host from to result
asks_returned projects worlds host from to project place name line properties result is consistent does = record {
  told = told_where texts (returned_at place name line properties) projects worlds from to result (λ a. a.returned project name line properties) consistent
      (λ disk. ap (λ p. answer_of (returned_of (setting_of disk) p name line properties (state_in worlds))) is) does;
  ends = ends_where texts (returned_at place name line properties) projects worlds host from to result (OfRule project name line properties) consistent
      (λ setting e found. ap (λ p. answer_of (returned_of setting p name line properties (state_in worlds))) is ∙ found) does;
  counted = does.counted;
  disk = does.disk;
  children = does.children;
}

pub asks_text : (projects : List Place) (worlds : Worlds) (host : ℕ) (from to : Outside) (project : Option Place) (job : StepJob) (result : Result StepText EvalFault)
    → project ≡ with_module job.«module» projects → IfSome from.disk IsConsistent → Evaluates step_answer (text_of_at project (job_of job)) worlds from to result
    → Asks step_answer (λ a. a.step_text (job_of job)) (OfStep job) projects worlds host from to result
asks_text projects worlds host from to project job result is consistent does = record {
  told = told_where step_answer (text_of_at project (job_of job)) projects worlds from to result (λ a. a.step_text (job_of job)) consistent
      (λ disk. ap (λ p. answer_of (text_of (setting_of disk) p (job_of job) (state_in worlds))) (sym is)) does;
  ends = ends_where step_answer (text_of_at project (job_of job)) projects worlds host from to result (OfStep job) consistent
      (λ setting e found. ap (λ p. answer_of (text_of setting p (job_of job) (state_in worlds))) (sym is) ∙ found) does;
  counted = does.counted;
  disk = does.disk;
  children = does.children;
}
