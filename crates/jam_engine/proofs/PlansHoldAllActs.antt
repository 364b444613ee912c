-- A plan holds each act in a step, and wants what is requested; `all` is the first target of a graph.
use Rattle.std.proofs.Common.{◌≡◌, ◌⊎◌, inl, inr, ℕ, suc, Bool, true, false, cond, not, ◌&&◌, ◌||◌, List, [], ◌∷◌, ◌++◌, length, filter, map, fold, Option, Some, None, Result, Ok, Err, refl, sym, ap, ap₂, ◌∙◌, subst, append_assoc, append-nil}
use Rattle.std.specs.Prelude.{codes, slice_get}
use Rattle.std.specs.List.{Contains, flat_map, list_any}
use Rattle.std.specs.Option.{option_map_or}
use Rattle.std.specs.Str.{bytes_eq}
use Rattle.std.proofs.lemmas.Bool.{true≢false}
use Rattle.std.proofs.lemmas.List.Elements.{Contains-append_left, Contains-append_right}
use Rattle.std.proofs.lemmas.Option.{slice_get-get_or}
use Rattle.b2_base.specs.Results.{and_then}
use Rattle.b2_plan.specs.declared.step.Step.{Step}
use Rattle.b2_plan.specs.Plans.{step_at}
use Rattle.jam_journal.specs.Tables.{Text}
use Rattle.jam_journal.specs.Scopes.{Value}
use Rattle.jam_natives.specs.Texts.{add_new, without_repeats}
use Rattle.jam_graph.specs.declared.graph.Act.{Act}
use Rattle.jam_graph.specs.declared.graph.Graph.{Graph}
use Rattle.jam_graph.specs.Graphs.{texts_in, everything}
use Rattle.jam_graph.specs.Loads.{Refusal}
use Rattle.jam_engine.specs.Acts.{acts, acts_at}
use Rattle.jam_engine.specs.Laws.{AllIsFirst, HasText, RequestedIsWanted, EachActIsInAStep}
use Rattle.jam_engine.specs.Plans.{Target, Joins, all, stops, goes_on, Steps, PlansTo, is_unknown, is_refused, is_planned}
use Rattle.jam_engine.specs.Spreads.{counts, Spreads}
use Rattle.jam_engine.specs.Steps.{places, targets_of, text_of, or_refused, texts_of, in_parens, and_so_on, whole_text, IsStep}
use Rattle.jam_engine.specs.Targets.{is_notfile, is_nocare, is_source, place, roots}
use Rattle.jam_engine.proofs.LabelsGrow.{among, at_front, behind, none_there}
use Rattle.jam_engine.proofs.ListsMeetWhatTheyReach.{has_it, listed_is_met}

-- ---- `all`

begins_with : (x : Text) (found xs : Value) → (more : Value) × (fold add_new (x ∷ found) xs ≡ x ∷ more)
begins_with x found [] = (found, refl)
begins_with x found (t ∷ xs) = go (list_any (bytes_eq t) (x ∷ found)) (begins_with x found xs) (begins_with x (found ++ t ∷ []) xs)
  where
    go : (b : Bool) → (more : Value) × (fold add_new (x ∷ found) xs ≡ x ∷ more) → (more : Value) × (fold add_new (x ∷ (found ++ t ∷ [])) xs ≡ x ∷ more)
        → (more : Value) × (fold add_new (cond b (x ∷ found) (x ∷ (found ++ t ∷ []))) xs ≡ x ∷ more)
    go true old new = old
    go false old new = new

pub all_is_first : AllIsFirst
all_is_first path ws calls = begins_with everything [] (flat_map texts_in calls)

-- ---- elements of lists

pub in_map : {X Y : Type 0} (f : X → Y) (xs : List X) (x : X) → Contains xs x → Contains (map f xs) (f x)
in_map f [] x c = absurd (none_there x c)
in_map f (y ∷ xs) x c = go (among y xs x c) (λ k. in_map f xs x k)
  where
    go : (y ≡ x) ⊎ Contains xs x → (Contains xs x → Contains (map f xs) (f x)) → Contains (f y ∷ map f xs) (f x)
    go (inl same) rest = subst (λ z. Contains (f y ∷ map f xs) (f z)) same (at_front (f y) (map f xs))
    go (inr k) rest = behind (f y) (map f xs) (f x) (rest k)

in_filter : (p : Text → Bool) (xs : Value) (t : Text) → p t ≡ true → Contains xs t → Contains (filter p xs) t
in_filter p [] t passes c = absurd (none_there t c)
in_filter p (x ∷ xs) t passes c = go (p x) refl (among x xs t c) (λ k. in_filter p xs t passes k)
  where
    go : (b : Bool) → p x ≡ b → (x ≡ t) ⊎ Contains xs t → (Contains xs t → Contains (filter p xs) t) → Contains (cond b (x ∷ filter p xs) (filter p xs)) t
    go true is (inl same) rest = subst (Contains (x ∷ filter p xs)) same (at_front x (filter p xs))
    go true is (inr k) rest = behind x (filter p xs) t (rest k)
    go false is (inl same) rest = absurd (true≢false (sym passes ∙ ap p (sym same) ∙ is))
    go false is (inr k) rest = rest k

pub in_flat : {X : Type 0} (f : X → Value) (xs : List X) (x : X) (t : Text) → Contains xs x → Contains (f x) t → Contains (flat_map f xs) t
in_flat f [] x t c k = absurd (none_there x c)
in_flat f (y ∷ xs) x t c k = go (among y xs x c) (λ l. in_flat f xs x t l k)
  where
    go : (y ≡ x) ⊎ Contains xs x → (Contains xs x → Contains (flat_map f xs) t) → Contains (f y ++ flat_map f xs) t
    go (inl same) rest = Contains-append_left (f y) (flat_map f xs) t (subst (λ z. Contains (f z) t) (sym same) k)
    go (inr l) rest = Contains-append_right (f y) (flat_map f xs) t (rest l)

add_has : (found : Value) (x t : Text) → Contains found t ⊎ (x ≡ t) → Contains (add_new found x) t
add_has found x t h = go (list_any (bytes_eq x) found) refl h
  where
    go : (b : Bool) → list_any (bytes_eq x) found ≡ b → Contains found t ⊎ (x ≡ t) → Contains (cond b found (found ++ x ∷ [])) t
    go true there (inl c) = c
    go true there (inr same) = subst (Contains found) same (has_it found x there)
    go false out (inl c) = Contains-append_left found (x ∷ []) t c
    go false out (inr same) = Contains-append_right found (x ∷ []) t (subst (Contains (x ∷ [])) same (at_front x []))

fold_has : (found xs : Value) (t : Text) → Contains found t ⊎ Contains xs t → Contains (fold add_new found xs) t
fold_has found [] t (inl c) = c
fold_has found [] t (inr c) = absurd (none_there t c)
fold_has found (x ∷ xs) t (inl c) = fold_has (add_new found x) xs t (inl (add_has found x t (inl c)))
fold_has found (x ∷ xs) t (inr c) = go (among x xs t c) (λ k. fold_has (add_new found x) xs t k)
  where
    go : (x ≡ t) ⊎ Contains xs t → (Contains (add_new found x) t ⊎ Contains xs t → Contains (fold add_new (add_new found x) xs) t) → Contains (fold add_new (add_new found x) xs) t
    go (inl same) rest = rest (inl (add_has found x t (inr same)))
    go (inr k) rest = rest (inr k)

-- a text stands among others without their repeats
pub once_has : (xs : Value) (t : Text) → Contains xs t → Contains (without_repeats xs) t
once_has xs t c = fold_has [] xs t (inr c)

-- ---- plans

abbrev target_or : Target → Result Target Refusal → Target
target_or d (Ok plan) = plan
target_or d (Err why) = d

abbrev pub steps_or : List Step → Result (List Step) Refusal → List Step
steps_or d (Ok steps) = steps
steps_or d (Err why) = d

-- what a plan says of its parts
pub record Planned (g : Graph) (stands : Text → Bool) (targets : Value) (plan : Target) : Type 0 where
  pub found : Value
  pub steps : Steps g stands (Ok plan.steps)
  pub spreads : Spreads g stands targets found
  pub wanted : plan.wanted ≡ map (place g stands) found
  pub under : plan.roots ≡ roots g

pub planned : (g : Graph) (stands : Text → Bool) (targets : Value) (plan : Target) → PlansTo g stands targets (Ok plan) → Planned g stands targets plan
planned g stands targets plan h = go (Ok plan) h refl
  where
    go : (r : Result Target Refusal) → PlansTo g stands targets r → r ≡ Ok plan → Planned g stands targets plan
    go _ (is_unknown target e) same = absurd (let f = same in cc)
    go _ (is_refused why e s) same = absurd (let f = same in cc)
    go _ (is_planned steps found e s spread) same =
        subst (Planned g stands targets) (ap (target_or plan) same) (let made : Planned g stands targets (record { steps = steps; wanted = map (place g stands) found; roots = roots g }) = record { found = found; steps = s; spreads = spread; wanted = refl; under = refl } in made)

pub requested_is_wanted : RequestedIsWanted
requested_is_wanted g stands targets plan target h c acted = go (planned g stands targets plan h)
  where
    counted : counts g stands target ≡ true
    counted = ap (λ b. b || not (is_notfile g target || (is_nocare g target && not (is_source g stands (place g stands target))))) acted

    go : Planned g stands targets plan → Contains plan.wanted (place g stands target)
    go p =
        let s = p.spreads in
        let met = listed_is_met g targets s.met target s.meets c in
        let found = subst (λ (l : Value). Contains l target) (sym s.counted) (in_filter (counts g stands) s.met target counted met) in
        subst (λ (l : List Text). Contains l (place g stands target)) (sym p.wanted) (in_map (place g stands) p.found target found)

-- ---- each set has a step

at_end : (before : List Step) (step : Step) (after : List Step) → step_at (before ++ step ∷ after) (suc (length before)) ≡ Some step
at_end [] step after = refl
at_end (first ∷ before) step after = at_end before step after

module _ (g : Graph) (stands : Text → Bool) where
  -- the steps that stand at the beginning stay
  stays : (start : List Step) (sets : List (List Act)) (last : Result (List Step) Refusal) (steps : List Step) → Joins g stands start sets last → last ≡ Ok steps → (after : List Step) × (steps ≡ start ++ after)
  stays start sets last steps all same = ([], sym (ap (steps_or steps) same) ∙ sym (append-nil start))
  stays start sets last steps (stops why h) same = absurd (let f = same in cc)
  stays start sets last steps (goes_on step accepts more) same =
      let (after, is) = stays (start ++ step ∷ []) _ last steps more same in
      (step ∷ after, is ∙ append_assoc start (step ∷ []) after)

  abbrev HasStep : List Step → List Act → Type 0
  HasStep steps set = (number : ℕ) × (step : Step) × (step_at steps number ≡ Some step) × IsStep g stands set step

  each_has_step : (start : List Step) (sets : List (List Act)) (last : Result (List Step) Refusal) (steps : List Step) (set : List Act) → Joins g stands start sets last → last ≡ Ok steps → Contains sets set → HasStep steps set
  each_has_step start sets last steps set all same c = absurd (none_there set c)
  each_has_step start sets last steps set (stops why h) same c = absurd (let f = same in cc)
  each_has_step start sets last steps set (goes_on {set = here} {more = others} step accepts more) same c =
      go (among here others set c) (λ k. each_has_step (start ++ step ∷ []) others last steps set more same k)
    where
      go : (here ≡ set) ⊎ Contains others set → (Contains others set → HasStep steps set) → HasStep steps set
      go (inl e) rest =
          let (after, is) = stays (start ++ step ∷ []) others last steps more same in
          let whole : steps ≡ start ++ step ∷ after = is ∙ append_assoc start (step ∷ []) after in
          (suc (length start), step, ap (λ (l : List Step). step_at l (suc (length start))) whole ∙ at_end start step after, subst (λ (s : List Act). IsStep g stands s step) e accepts.is)
      go (inr k) rest = rest k

  -- ---- the text of an act in that of its step

  abbrev list_or : List Text → Result (List Text) Refusal → List Text
  list_or d (Ok found) = found
  list_or d (Err why) = d

  abbrev Both : Result Text Refusal → Result (List Text) Refusal → Result (List Text) Refusal
  Both o more = and_then (λ text. and_then (λ texts. Ok (text ∷ texts)) more) o

  text_among : (set : List Act) (a : Act) (text : Text) (texts : List Text) → texts_of g stands set ≡ Ok texts → Contains set a → text_of g stands a ≡ Ok text → Contains texts text
  text_among [] a text texts e c one = absurd (none_there a c)
  text_among (x ∷ set) a text texts e c one =
      by (or_refused g stands x (text_of g stands x)) refl (texts_of g stands set) refl e (among x set a c) (λ found same k. text_among set a text found same k one)
    where
      by : (o : Result Text Refusal) → or_refused g stands x (text_of g stands x) ≡ o → (more : Result (List Text) Refusal) → texts_of g stands set ≡ more → Both (or_refused g stands x (text_of g stands x)) (texts_of g stands set) ≡ Ok texts
          → (x ≡ a) ⊎ Contains set a → ((found : List Text) → texts_of g stands set ≡ Ok found → Contains set a → Contains found text) → Contains texts text
      by (Ok own) k (Ok found) m whole (inl same) rest =
          let is : own ∷ found ≡ texts = ap (list_or texts) (sym (ap₂ Both k m) ∙ whole) in
          let both : (let r : Result Text Refusal = Ok own in r) ≡ Ok text = sym k ∙ ap (λ (b : Act). or_refused g stands b (text_of g stands b)) same ∙ ap (or_refused g stands a) one in
          let first : own ≡ text = ap (text_or own) both in
          subst (λ (l : List Text). Contains l text) is (subst (Contains (own ∷ found)) first (at_front own found))
        where
          text_or : Text → Result Text Refusal → Text
          text_or d (Ok t) = t
          text_or d (Err why) = d
      by (Ok own) k (Ok found) m whole (inr c) rest =
          let is : own ∷ found ≡ texts = ap (list_or texts) (sym (ap₂ Both k m) ∙ whole) in
          subst (λ (l : List Text). Contains l text) is (behind own found text (rest found m c))
      by (Ok own) k (Err why) m whole h rest = absurd (let clash = sym (ap₂ Both k m) ∙ whole in cc)
      by (Err why) k more m whole h rest = absurd (let clash = sym (ap₂ Both k m) ∙ whole in cc)

-- a text is a part of another one
abbrev IsPart : Text → Text → Type 0
IsPart whole text = (before : Text) × (after : Text) × (whole ≡ before ++ text ++ after)

part_behind : (front rest text : Text) → IsPart rest text → IsPart (front ++ rest) text
part_behind front rest text (before, after, is) = (front ++ before, after, ap (λ (l : Text). front ++ l) is ∙ sym (append_assoc front (before ++ text) after) ∙ ap (λ (l : Text). l ++ after) (sym (append_assoc front before text)))

part_before : (rest back text : Text) → IsPart rest text → IsPart (rest ++ back) text
part_before rest back text (before, after, is) = (before, after ++ back, ap (λ (l : Text). l ++ back) is ∙ append_assoc (before ++ text) after back)

in_its_parens : (text : Text) → IsPart (in_parens text) text
in_its_parens text = (codes "(\n", codes "\n)", refl)

so_on_has : (texts : List Text) (text : Text) → Contains texts text → IsPart (and_so_on texts) text
so_on_has [] text c = absurd (none_there text c)
so_on_has (t ∷ texts) text c = go (among t texts text c) (λ k. so_on_has texts text k)
  where
    go : (t ≡ text) ⊎ Contains texts text → (Contains texts text → IsPart (and_so_on texts) text) → IsPart (and_so_on (t ∷ texts)) text
    go (inl same) rest = subst (IsPart (and_so_on (t ∷ texts))) same (part_behind (codes " && ") (in_parens t ++ and_so_on texts) t (part_before (in_parens t) (and_so_on texts) t (in_its_parens t)))
    go (inr k) rest = part_behind (codes " && ") (in_parens t ++ and_so_on texts) text (part_behind (in_parens t) (and_so_on texts) text (rest k))

whole_has : (texts : List Text) (text : Text) → Contains texts text → IsPart (whole_text texts) text
whole_has [] text c = absurd (none_there text c)
whole_has (t ∷ []) text c = go (among t [] text c)
  where
    go : (t ≡ text) ⊎ Contains [] text → IsPart t text
    go (inl same) = ([], [], same ∙ sym (append-nil text))
    go (inr k) = absurd (none_there text k)
whole_has (t ∷ next ∷ texts) text c = go (among t (next ∷ texts) text c)
  where
    go : (t ≡ text) ⊎ Contains (next ∷ texts) text → IsPart (in_parens t ++ and_so_on (next ∷ texts)) text
    go (inl same) = subst (IsPart (in_parens t ++ and_so_on (next ∷ texts))) same (part_before (in_parens t) (and_so_on (next ∷ texts)) t (in_its_parens t))
    go (inr k) = part_behind (in_parens t) (and_so_on (next ∷ texts)) text (so_on_has (next ∷ texts) text k)

pub acts_at_has : (list : List Act) (set : List ℕ) (i : ℕ) (a : Act) → slice_get list i ≡ Some a → Contains set i → Contains (acts_at list set) a
acts_at_has list [] i a e c = absurd (none_there i c)
acts_at_has list (p ∷ set) i a e c = go (among p set i c) (slice_get list p) refl (λ k. acts_at_has list set i a e k)
  where
    go : (p ≡ i) ⊎ Contains set i → (o : Option Act) → slice_get list p ≡ o → (Contains set i → Contains (acts_at list set) a) → Contains (option_map_or (λ (b : Act). b ∷ acts_at list set) o (acts_at list set)) a
    go (inl same) o is rest = subst (λ (q : Option Act). Contains (option_map_or (λ (b : Act). b ∷ acts_at list set) q (acts_at list set)) a) (sym e ∙ ap (slice_get list) (sym same) ∙ is) (at_front a (acts_at list set))
    go (inr k) None is rest = rest k
    go (inr k) (Some b) is rest = behind b (acts_at list set) a (rest k)

pub each_act_is_in_a_step : EachActIsInAStep
each_act_is_in_a_step g stands targets plan act text h c one = go (planned g stands targets plan h).steps
  where
    list : List Act
    list = acts g stands

    go : Steps g stands (Ok plan.steps) → (number : ℕ) × (step : Step) × (step_at plan.steps number ≡ Some step) × HasText step text × ((target : Text) → Contains act.targets target → Contains step.outs (place g stands target))
    go s =
        let at : slice_get list c.0 ≡ Some act = slice_get-get_or list c.0 act c.1 ∙ ap (λ (a : Act). let o : Option Act = Some a in o) c.2 in
        let (set, in_sets, in_set) = s.are.all c.0 c.1 in
        let here : Contains (acts_at list set) act = acts_at_has list set c.0 act at in_set in
        let (number, step, found, is) = each_has_step g stands [] (map (acts_at list) s.sets) (Ok plan.steps) plan.steps (acts_at list set) s.joins refl (in_map (acts_at list) s.sets set in_sets) in
        let (before, after, part) = whole_has is.texts text (text_among g stands (acts_at list set) act text is.texts is.texted here one) in
        let whole : step.text ≡ before ++ text ++ after = is.text ∙ part in (
          number,
          step,
          found,
          record { before = before; after = after; is = whole },
          λ target k.
              subst (λ (l : List Text). Contains l (place g stands target)) (sym is.outs)
              (once_has (places g stands (targets_of g stands (acts_at list set))) (place g stands target)
              (in_map (place g stands) (targets_of g stands (acts_at list set)) target
              (once_has (flat_map (λ (a : Act). a.targets) (acts_at list set)) target (in_flat (λ (a : Act). a.targets) (acts_at list set) act target here k)))),
        )
