-- Whether a call brings the toolset in, and what its build text says.
use Rattle.std.proofs.Common.{◌≡◌, ◌≤◌, ◌+◌, ℕ, zero, suc, List, [], ◌∷◌, codes, length, take, get_or, Option, Some, None, is_some, Result, Ok, Err, is_ok, true, false, inl, inr, refl, sym, ap, ◌∙◌, subst, arith}
use Rattle.std.specs.Prelude.{slice_get}
use Rattle.std.specs.Option.{IfSome}
use Rattle.std.specs.declared.vec.Vec.{Vec}
use Rattle.std.specs.declared.alloc.Global.{Global}
use Rattle.std.proofs.lemmas.List.{take_all}
use Rattle.std.proofs.lemmas.Option.{same_Some, slice_get_read, slice_get_within}
use Rattle.b2_base.specs.Results.{and_then}
use Rattle.b2_features.specs.declared.fault.FeatureFault.{FeatureFault}
use Rattle.b2_features.specs.declared.fault.FeatureFault.TheVariants as features
use Rattle.b2_gcc.specs.BuildText.{command_in, gcc_text}
use Rattle.b2_declared.specs.declared.fault.DeclaringFault.{DeclaringFault}
use Rattle.b2_declared.specs.declared.fault.DeclaringFault.TheVariants as declaring_faults
use Rattle.b2_declared.specs.declared.visit.Visit.{Visit}
use Rattle.b2_declared.specs.declared.visit.Call.{Call}
use Rattle.b2_declared.specs.Outcomes.{all_steps, IsFaultOf}
use Rattle.b2_declared.specs.Carrying.{Tables, no_tables, carrying, tables_of}
use Rattle.b2_declared.specs.Gathering.{gathered_by}
use Rattle.b2_declared.specs.Declaring.{whole, declared}
use Rattle.jam_journal.specs.Tables.{Text}
use Rattle.jam_meaning.specs.Settings.{Setting}
use Rattle.jam_meaning.specs.States.{State}
use Rattle.jam_natives.specs.Keeping.{Kept}
use Rattle.b2_project_walk.specs.declared.fault.LoadFault.{LoadFault}
use Rattle.b2_project_walk.specs.declared.fault.LoadFault.TheVariants as faults
use Rattle.b2_project_walk.specs.Faults.{refusal_of}
use Rattle.b2_project_walk.specs.Walking.{IsRefusedBy, StopsBy, Follows}
use Rattle.b2_project_walk.specs.Walks.{Walk, Refusal, declaring, Course, goes_on, refused, RunsText}
use Rattle.b2_project_walk.proofs.TextRunsBesideProjects.{follows_from}
use Rattle.b2_project.specs.Loads.{toolset_of, ends_or_goes_on, up_to_toolset, IsToolsetRun, IsEquipped}
use Rattle.b2_project.specs.LoadParts.{of_declaring, IsRefusalOf, IsOfThese, IsPlain, IsToolsetAt, IsTextOf, equipped}

-- ---- the first call that brings the toolset in

-- neither the first call brings it in, nor one after it
none_split : (call : Call) (found : Option (Option Text)) (more : Option (List Call × Option Text)) → ends_or_goes_on call found more ≡ None → (found ≡ None) × (more ≡ None)
none_split call (Some command) more e = cc
none_split call None None e = (refl, refl)
none_split call None (Some found) e = cc

ends_there : (call : Call) (found : Option (Option Text)) (command : Option Text) (more : Option (List Call × Option Text)) → found ≡ Some command → ends_or_goes_on call found more ≡ Some (call ∷ [], command)
ends_there call found command more e = ap (λ f. ends_or_goes_on call f more) e

goes_there : (call : Call) (found : Option (Option Text)) (more : Option (List Call × Option Text)) (calls : List Call) (command : Option Text) → found ≡ None → more ≡ Some (calls, command)
    → ends_or_goes_on call found more ≡ Some (call ∷ calls, command)
goes_there call found more calls command e h = ap (λ f. ends_or_goes_on call f more) e ∙ ap (λ m. ends_or_goes_on call None m) h

none_there : (call : Call) (found : Option (Option Text)) (more : Option (List Call × Option Text)) → found ≡ None → more ≡ None → ends_or_goes_on call found more ≡ None
none_there call found more e h = ap (λ f. ends_or_goes_on call f more) e ∙ ap (λ m. ends_or_goes_on call None m) h

-- the first calls do not bring it in, and the next one does
found_at : (calls : List Call) (place : ℕ) (call : Call) (command : Option Text) → up_to_toolset (take place calls) ≡ None → slice_get calls place ≡ Some call → toolset_of call.declaration ≡ Some command
    → up_to_toolset calls ≡ Some (take (suc place) calls, command)
found_at [] place call command none at is = cc
found_at (first ∷ calls) zero call command none at is =
    ends_there first (toolset_of first.declaration) command (up_to_toolset calls) (ap (λ c. toolset_of c.declaration) (same_Some first call at) ∙ is)
found_at (first ∷ calls) (suc place) call command none at is =
    let two = none_split first (toolset_of first.declaration) (up_to_toolset (take place calls)) none in
    goes_there first (toolset_of first.declaration) (up_to_toolset calls) (take (suc place) calls) command two.0 (found_at calls place call command two.1 at is)

-- nor does the next one
none_more : (calls : List Call) (place : ℕ) (call : Call) → up_to_toolset (take place calls) ≡ None → slice_get calls place ≡ Some call → toolset_of call.declaration ≡ None
    → up_to_toolset (take (suc place) calls) ≡ None
none_more [] place call none at is = cc
none_more (first ∷ calls) zero call none at is =
    none_there first (toolset_of first.declaration) None (ap (λ c. toolset_of c.declaration) (same_Some first call at) ∙ is) refl
none_more (first ∷ calls) (suc place) call none at is =
    let two = none_split first (toolset_of first.declaration) (up_to_toolset (take place calls)) none in
    none_there first (toolset_of first.declaration) (up_to_toolset (take (suc place) calls)) two.0 (none_more calls place call two.1 at is)

-- the answer at a call that brings the toolset in, or the next round
brought : (calls : List Call) (place : ℕ) (call : Call) (found : Option (Option Text)) → toolset_of call.declaration ≡ found → up_to_toolset (take place calls) ≡ None → slice_get calls place ≡ Some call
    → is_some found ≡ true → IsToolsetAt calls (Some place)
brought calls place call None is none at some = cc
brought calls place call (Some command) is none at some =
    (slice_get_within calls place call at, call, command, at, is, found_at calls place call command none at is ∙ ap (λ n. Some (take n calls, command)) (let e : suc place ≡ place + 1 = omega arith in e))

pub is_brought : (calls : List Call) (place : ℕ) (call : Call) → up_to_toolset (take place calls) ≡ None → slice_get calls place ≡ Some call → is_some (toolset_of call.declaration) ≡ true → IsToolsetAt calls (Some place)
is_brought calls place call none at some = brought calls place call (toolset_of call.declaration) refl none at some

not_brought : (calls : List Call) (place : ℕ) (call : Call) (found : Option (Option Text)) → toolset_of call.declaration ≡ found → up_to_toolset (take place calls) ≡ None → slice_get calls place ≡ Some call
    → is_some found ≡ false → up_to_toolset (take (place + 1) calls) ≡ None
not_brought calls place call (Some command) is none at some = cc
not_brought calls place call None is none at some =
    ap (λ n. up_to_toolset (take n calls)) (let e : place + 1 ≡ suc place = omega arith in e) ∙ none_more calls place call none at is

pub is_not_brought : (calls : List Call) (place : ℕ) (call : Call) → up_to_toolset (take place calls) ≡ None → slice_get calls place ≡ Some call → is_some (toolset_of call.declaration) ≡ false
    → up_to_toolset (take (place + 1) calls) ≡ None
is_not_brought calls place call none at some = not_brought calls place call (toolset_of call.declaration) refl none at some

pub none_brought : (calls : List Call) (place : ℕ) → length calls ≤ place → up_to_toolset (take place calls) ≡ None → IsToolsetAt calls None
none_brought calls place end none = ap up_to_toolset (sym (take_all place calls end)) ∙ none

-- ---- faults

plain_feature : (path : Text) (line : ℕ) (fault : _) → IsPlain (of_declaring (declaring_faults.Feature path line fault))
plain_feature path line (features.Twice word) = record { whole = (_, refl); none = refl; counts = λ from to same. same }
plain_feature path line (features.Unknown word) = record { whole = (_, refl); none = refl; counts = λ from to same. same }
plain_feature path line (features.BadValue word) = record { whole = (_, refl); none = refl; counts = λ from to same. same }
plain_feature path line (features.ComposeConflict word) = record { whole = (_, refl); none = refl; counts = λ from to same. same }
plain_feature path line features.OutOfMemory = record { whole = tt; none = refl; counts = λ from to same. tt }

pub plain_declaring : (found : DeclaringFault) → IsPlain (of_declaring found)
plain_declaring (declaring_faults.Declaration path rule line) = record { whole = (_, refl); none = refl; counts = λ from to same. same }
plain_declaring (declaring_faults.Feature path line fault) = plain_feature path line fault
plain_declaring declaring_faults.OutOfMemory = record { whole = tt; none = refl; counts = λ from to same. tt }

pub plain_refusal : {X : Type 0} (outcome : Result X _) (fault : LoadFault) → IsRefusalOf outcome fault → IsPlain fault
plain_refusal outcome fault (found, is, h) = subst IsPlain (sym is) (plain_declaring found)

-- the calls fail by no call of the host
never_host : (found : DeclaringFault) → of_declaring found ≡ faults.Host → ⊥
never_host (declaring_faults.Declaration path rule line) e = cc
never_host (declaring_faults.Feature path line (features.Twice word)) e = cc
never_host (declaring_faults.Feature path line (features.Unknown word)) e = cc
never_host (declaring_faults.Feature path line (features.BadValue word)) e = cc
never_host (declaring_faults.Feature path line (features.ComposeConflict word)) e = cc
never_host (declaring_faults.Feature path line features.OutOfMemory) e = cc
never_host declaring_faults.OutOfMemory e = cc

pub refusal_is_plain : {X : Type 0} (outcome : Result X DeclaringFault) (fault : LoadFault) → IsRefusalOf outcome fault → fault ≡ faults.Host → ⊥
refusal_is_plain outcome fault (found, is, h) e = never_host found (sym is ∙ e)

-- what a refusal of calls says, as a refusal of the load
module _ {X : Type 0} (outcome : Result X DeclaringFault) (says : Option Refusal → Type 0) (nothing : says None) (something : (found : DeclaringFault) → outcome ≡ Err found → says (Some (declaring found))) where
  feature_says : (path : Text) (line : ℕ) (fault : _) → outcome ≡ Err (declaring_faults.Feature path line fault) → says (refusal_of (of_declaring (declaring_faults.Feature path line fault)))
  feature_says path line (features.Twice word) h = something (declaring_faults.Feature path line (features.Twice word)) h
  feature_says path line (features.Unknown word) h = something (declaring_faults.Feature path line (features.Unknown word)) h
  feature_says path line (features.BadValue word) h = something (declaring_faults.Feature path line (features.BadValue word)) h
  feature_says path line (features.ComposeConflict word) h = something (declaring_faults.Feature path line (features.ComposeConflict word)) h
  feature_says path line features.OutOfMemory h = nothing

  found_says : (found : DeclaringFault) → IsFaultOf outcome found → says (refusal_of (of_declaring found))
  found_says (declaring_faults.Declaration path rule line) h = something (declaring_faults.Declaration path rule line) h
  found_says (declaring_faults.Feature path line fault) h = feature_says path line fault h
  found_says declaring_faults.OutOfMemory h = nothing

  pub refusal_says : (fault : LoadFault) → IsRefusalOf outcome fault → says (refusal_of fault)
  refusal_says fault (found, is, h) = subst (λ f. says (refusal_of f)) (sym is) (found_says found h)

-- a refusal of these calls, or of the first of them, is one of declaring
module _ {X : Type 0} (visits : List Visit) (calls : List Call) (outcome : Result X DeclaringFault) (so : (found : DeclaringFault) → outcome ≡ Err found → declared visits calls ≡ Err found) where
  feature_of_these : (path : Text) (line : ℕ) (fault : FeatureFault) → IsFaultOf outcome (declaring_faults.Feature path line fault) → IsOfThese visits calls (of_declaring (declaring_faults.Feature path line fault))
  feature_of_these path line (features.Twice word) h = so (declaring_faults.Feature path line (features.Twice word)) h
  feature_of_these path line (features.Unknown word) h = so (declaring_faults.Feature path line (features.Unknown word)) h
  feature_of_these path line (features.BadValue word) h = so (declaring_faults.Feature path line (features.BadValue word)) h
  feature_of_these path line (features.ComposeConflict word) h = so (declaring_faults.Feature path line (features.ComposeConflict word)) h
  feature_of_these path line features.OutOfMemory h = tt

  found_of_these : (found : DeclaringFault) → IsFaultOf outcome found → IsOfThese visits calls (of_declaring found)
  found_of_these (declaring_faults.Declaration path rule line) h = so (declaring_faults.Declaration path rule line) h
  found_of_these (declaring_faults.Feature path line fault) h = feature_of_these path line fault h
  found_of_these declaring_faults.OutOfMemory h = tt

  pub refusal_of_these : (fault : LoadFault) → IsRefusalOf outcome fault → IsOfThese visits calls fault
  refusal_of_these fault (found, is, h) = subst (IsOfThese visits calls) (sym is) (found_of_these found h)

-- ---- where the first calls are refused, all are

module _ (step : Tables → Call → Result Tables DeclaringFault) (fault : DeclaringFault) where
  step_refused : (outcome : Result Tables DeclaringFault) (rest more : List Call) → ((next : Tables) → all_steps step next rest ≡ Err fault → all_steps step next more ≡ Err fault)
      → and_then (λ next. all_steps step next rest) outcome ≡ Err fault → and_then (λ next. all_steps step next more) outcome ≡ Err fault
  step_refused (Ok next) rest more f h = f next h
  step_refused (Err other) rest more f h = h

  none_is_refused : (next : Tables) (more : List Call) → all_steps step next [] ≡ Err fault → all_steps step next more ≡ Err fault
  none_is_refused next more h = cc

  found_refused : (first : Call) (calls : List Call) (brings : Option (Option Text)) (more : Option (List Call × Option Text)) (found : List Call × Option Text) → ends_or_goes_on first brings more ≡ Some found
      → ((rest : List Call × Option Text) → more ≡ Some rest → (next : Tables) → all_steps step next rest.0 ≡ Err fault → all_steps step next calls ≡ Err fault)
      → (state : Tables) → all_steps step state found.0 ≡ Err fault → all_steps step state (first ∷ calls) ≡ Err fault
  found_refused first calls (Some command) more found is f state h =
      step_refused (step state first) [] calls (λ next. none_is_refused next calls)
      (ap (λ (cs : List Call). all_steps step state cs) (ap (λ (p : List Call × Option Text). p.0) (same_Some (first ∷ [], command) found is)) ∙ h)
  found_refused first calls None None found is f state h = cc
  found_refused first calls None (Some rest) found is f state h =
      step_refused (step state first) rest.0 calls (f rest refl)
      (ap (λ (cs : List Call). all_steps step state cs) (ap (λ (p : List Call × Option Text). p.0) (same_Some (first ∷ rest.0, rest.1) found is)) ∙ h)

  first_refused : (calls : List Call) (found : List Call × Option Text) → up_to_toolset calls ≡ Some found → (state : Tables) → all_steps step state found.0 ≡ Err fault → all_steps step state calls ≡ Err fault
  first_refused [] found is state h = cc
  first_refused (first ∷ calls) found is state h =
      found_refused first calls (toolset_of first.declaration) (up_to_toolset calls) found is (λ rest e next. first_refused calls rest e next) state h

all_refused : (visits : List Visit) (calls : List Call) (found : List Call × Option Text) → up_to_toolset calls ≡ Some found → (fault : DeclaringFault) → tables_of visits found.0 ≡ Err fault → declared visits calls ≡ Err fault
all_refused visits calls found up fault h =
    ap (λ (tables : Result Tables DeclaringFault). and_then (λ t. and_then (λ g. Ok (whole t g)) (gathered_by t.features visits calls)) tables)
    (first_refused (carrying visits) fault calls found up (no_tables visits) h)

pub text_of_these : (visits : List Visit) (calls : List Call) (fault : LoadFault) → IsTextOf visits calls (Err fault) → IsOfThese visits calls fault
text_of_these visits calls fault (inl none) = subst (IsOfThese visits calls) (sym none) tt
text_of_these visits calls fault (inr (found, up, h)) = refusal_of_these visits calls (tables_of visits found.0) (all_refused visits calls found up) fault h

-- ---- the build text

module _ (visits : List Visit) (calls : List Call) (place : ℕ) where
  -- the calls up to the one that brings it in are refused
  pub text_refused : (found : DeclaringFault) (fault : LoadFault) → IsToolsetAt calls (Some place) → fault ≡ of_declaring found → IsFaultOf (tables_of visits (take (place + 1) calls)) found
      → IsTextOf visits calls (Err fault)
  text_refused found fault (within, call, command, at, is, up) e h = inr ((take (place + 1) calls, command), up, (found, e, h))

  -- they are carried out, and it was made
  pub text_made : (call : Call) (command : Option Text) (text : Vec ℕ Global) → IsToolsetAt calls (Some place) → call ≡ get_or calls place call
      → is_ok (tables_of visits (take (place + 1) calls)) ≡ true → IfSome (toolset_of call.declaration) (λ given. command ≡ given) → text.items ≡ gcc_text (command_in command)
      → IsTextOf visits calls (Ok (Some text))
  text_made call command text (within, there, given, at, is, up) same ok taken made =
      let e : call ≡ there = same_Some call there (sym (slice_get_read calls (length calls) place call refl within same) ∙ at) in
      let c : command ≡ given = subst (λ found. IfSome found (λ g. command ≡ g)) (ap (λ c. toolset_of c.declaration) e ∙ is) taken in
      ((take (place + 1) calls, given), up, ok, made ∙ ap (λ g. gcc_text (command_in g)) c)

pub plain_text : (visits : List Visit) (calls : List Call) (fault : LoadFault) → IsTextOf visits calls (Err fault) → IsPlain fault
plain_text visits calls fault (inl none) = subst IsPlain (sym none) (plain_declaring declaring_faults.OutOfMemory)
plain_text visits calls fault (inr (found, up, h)) = plain_refusal (tables_of visits found.0) fault h

-- ---- what comes after the walk

-- a fault that is none of the host
stops_plainly : (fault : LoadFault) (comes : Course → Type 0) (s : State Kept) → (fault ≡ faults.Host → ⊥) → IsRefusedBy (refusal_of fault) comes s → StopsBy fault comes s
stops_plainly faults.Host comes s plain h = absurd (plain refl)
stops_plainly fault comes s plain h = h

module _ (setting : Setting Kept) (w : Walk) where
  pub none_equips : up_to_toolset w.calls ≡ None → equipped setting w (goes_on w)
  none_equips is = subst (λ found. IsEquipped setting found w (goes_on w)) (sym is) refl

  module _ (found : List Call × Option Text) (is : up_to_toolset w.calls ≡ Some found) where
    run_as : (course : Course) → IsToolsetRun setting (tables_of w.visits found.0) found.1 w course → equipped setting w course
    run_as course h = subst (λ f. IsEquipped setting f w course) (sym is) h

    run_is : (course : Course) → equipped setting w course → IsToolsetRun setting (tables_of w.visits found.0) found.1 w course
    run_is course h = subst (λ f. IsEquipped setting f w course) is h

    calls_refused : (fault : LoadFault) → IsRefusalOf (tables_of w.visits found.0) fault → StopsBy fault (equipped setting w) w.state
    calls_refused fault h =
        stops_plainly fault (equipped setting w) w.state (refusal_is_plain (tables_of w.visits found.0) fault h)
        (refusal_says (tables_of w.visits found.0) (λ why. IsRefusedBy why (equipped setting w) w.state) tt
        (λ why e. run_as (refused (declaring why) w.state) (subst (λ t. IsToolsetRun setting t found.1 w (refused (declaring why) w.state)) (sym e) refl)) fault h)

    text_runs : {X : Type 0} (tables : Result X DeclaringFault) (course : Course) → is_ok tables ≡ true → RunsText setting (codes "gcc") (gcc_text (command_in found.1)) w course
        → IsToolsetRun setting tables found.1 w course
    text_runs (Ok tables) course ok h = h
    text_runs (Err fault) course ok h = cc

    text_equips : (course : Course) → is_ok (tables_of w.visits found.0) ≡ true → RunsText setting (codes "gcc") (gcc_text (command_in found.1)) w course → equipped setting w course
    text_equips course ok h = run_as course (text_runs (tables_of w.visits found.0) course ok h)

    runs_of : {X : Type 0} (tables : Result X DeclaringFault) (course : Course) → is_ok tables ≡ true → IsToolsetRun setting tables found.1 w course
        → RunsText setting (codes "gcc") (gcc_text (command_in found.1)) w course
    runs_of (Ok tables) course ok h = h
    runs_of (Err fault) course ok h = cc

    equipped_runs : (course : Course) → is_ok (tables_of w.visits found.0) ≡ true → equipped setting w course → RunsText setting (codes "gcc") (gcc_text (command_in found.1)) w course
    equipped_runs course ok h = runs_of (tables_of w.visits found.0) course ok (run_is course h)

  pub unread_says : (fault : LoadFault) → IsTextOf w.visits w.calls (Err fault) → StopsBy fault (equipped setting w) w.state
  unread_says fault (inl none) = subst (λ f. StopsBy f (equipped setting w) w.state) (sym none) tt
  unread_says fault (inr (found, up, h)) = calls_refused found up fault h

  pub text_says : (text : Vec ℕ Global) (result : Result (Unit {0}) LoadFault) (v : Walk) → IsTextOf w.visits w.calls (Ok (Some text))
      → Follows result (RunsText setting (codes "gcc") text.items w) v → Follows result (equipped setting w) v
  text_says text result v (found, up, ok, bytes) h =
      follows_from result (equipped setting w) (RunsText setting (codes "gcc") text.items w) v (
        λ course runs. text_equips found up course ok (subst (λ b. RunsText setting (codes "gcc") b w course) bytes runs),
        λ course runs. subst (λ b. RunsText setting (codes "gcc") b w course) (sym bytes) (equipped_runs found up course ok runs),
      ) h
