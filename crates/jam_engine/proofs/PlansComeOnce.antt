-- Targets come to one plan or refusal: sets of linked acts, their steps, and why there are none, are determined.
use Rattle.std.proofs.Common.{◌≡◌, ◌⊎◌, inl, inr, ℕ, zero, suc, ◌<◌, ◌≤◌, Bool, true, false, cond, not, ◌&&◌, List, [], ◌∷◌, ◌++◌, length, map, Option, Some, Result, Ok, Err, refl, sym, ap, ap₂, ◌∙◌, subst, arith}
use Rattle.std.specs.Prelude.{slice_get}
use Rattle.std.specs.List.{Contains, AllByRecursion, AllPairs, find, list_all}
use Rattle.std.proofs.lemmas.Bool.{true≢false}
use Rattle.std.proofs.lemmas.Option.{same_Some, slice_get_within}
use Rattle.b2_plan.specs.declared.step.Step.{Step}
use Rattle.b2_virtual.specs.Clashes.{IsFirstClash}
use Rattle.b2_virtual.proofs.JoinedStepsKeepTheirNumbers.{one_clash, fitting_none}
use Rattle.jam_journal.specs.Tables.{Text}
use Rattle.jam_journal.specs.Scopes.{Value}
use Rattle.jam_graph.specs.declared.graph.Act.{Act}
use Rattle.jam_graph.specs.declared.graph.Graph.{Graph}
use Rattle.jam_graph.specs.Loads.{Refusal, mixed, outside, clash, no_target}
use Rattle.jam_engine.specs.Acts.{acts, acts_at, Share, Linked, self, next, IsSet, AreSets}
use Rattle.jam_engine.specs.Laws.{OnePlan}
use Rattle.jam_engine.specs.Plans.{Target, Joins, all, stops, goes_on, Steps, PlansTo, is_unknown, is_refused, is_planned}
use Rattle.jam_engine.specs.Steps.{outs_of, whole_text, IsStep, Refuses, is_full, is_mixed, no_text, lies_outside, clashes, Accepts}
use Rattle.jam_engine.specs.Targets.{is_in_roots, place, roots}
use Rattle.jam_engine.proofs.LabelsGrow.{none_some, among, at_front, behind, none_there, all_at}
use Rattle.jam_engine.proofs.MetOnce.{spread_once}
use Rattle.jam_engine.proofs.PlansMade.{linked_within}

-- ---- lists that rise

module _ {X : Type 0} (R : X → X → Type 0) (P : X → Type 0) (irr : (x y : X) → P x → P y → R x y → R y x → ⊥) where
  rest_rises : (x : X) (xs : List X) → AllPairs R (x ∷ xs) → AllPairs R xs
  rest_rises x xs h i j d low within = h (suc i) (suc j) d (omega (arith, low)) (omega (arith, within))

  above : (x : X) (xs : List X) (y : X) → AllPairs R (x ∷ xs) → Contains xs y → R x y
  above x xs y h (k, low, is) = subst (R x) is (h zero (suc k) y (omega arith) (omega (arith, low)))

  rest_has : (x y : X) (xs ys : List X) → P x → x ≡ y → AllPairs R (x ∷ xs) → ((z : X) → Contains (x ∷ xs) z → Contains (y ∷ ys) z) → (z : X) → Contains xs z → Contains ys z
  rest_has x y xs ys px e a f z c = go (among y ys z (f z (behind x xs z c)))
    where
      go : (y ≡ z) ⊎ Contains ys z → Contains ys z
      go (inl same) =
          let r : R x x = subst (R x) (sym (e ∙ same)) (above x xs z a c) in
          absurd (irr x x px px r r)
      go (inr k) = k

  -- two lists that rise and have the same elements are one
  pub same_lists : (xs ys : List X) → AllPairs R xs → AllPairs R ys → AllByRecursion P xs → AllByRecursion P ys → ((z : X) → Contains xs z → Contains ys z) → ((z : X) → Contains ys z → Contains xs z) → xs ≡ ys
  same_lists [] [] a b p q f g = refl
  same_lists [] (y ∷ ys) a b p q f g = absurd (none_there y (g y (at_front y ys)))
  same_lists (x ∷ xs) [] a b p q f g = absurd (none_there x (f x (at_front x xs)))
  same_lists (x ∷ xs) (y ∷ ys) a b (px, p) (py, q) f g =
      let e : x ≡ y = heads (among y ys x (f x (at_front x xs))) (among x xs y (g y (at_front y ys))) in
      ap₂ (λ z l. z ∷ l) e (same_lists xs ys (rest_rises x xs a) (rest_rises y ys b) p q (rest_has x y xs ys px e a f) (rest_has y x ys xs py (sym e) b g))
    where
      heads : (y ≡ x) ⊎ Contains ys x → (x ≡ y) ⊎ Contains xs y → x ≡ y
      heads (inl e) h = sym e
      heads (inr c) (inl e) = e
      heads (inr c) (inr d) = absurd (irr x y px py (above x xs y a d) (above y ys x b c))

-- ---- linked acts

module _ (list : List Act) where
  share_turned : (i k : ℕ) → Share list i k → Share list k i
  share_turned i k s = record { first = s.second; second = s.first; at_first = s.at_second; at_second = s.at_first; target = s.target; in_first = s.in_second; in_second = s.in_first }

  linked_then : (i j k : ℕ) → Linked list i j → Linked list j k → Linked list i k
  linked_then i j _ before (self _ low) = before
  linked_then i j k before (next _ m _ more share) = next i m k (linked_then i j m before more) share

  linked_one : (i k : ℕ) → Share list i k → Linked list i k
  linked_one i k share = next i i k (self i (slice_get_within list i share.first share.at_first)) share

  linked_turned : (i k : ℕ) → Linked list i k → Linked list k i
  linked_turned i _ (self _ low) = self i low
  linked_turned i k (next _ j _ before share) = linked_then k j i (linked_one k j (share_turned j k share)) (linked_turned i j before)

  all_units : (set : List ℕ) → AllByRecursion (λ (n : ℕ). Unit {0}) set
  all_units [] = tt
  all_units (x ∷ set) = (tt, all_units set)

  -- the set of a first place is one
  set_same : (first : ℕ) (a b : List ℕ) → IsSet list first a → IsSet list first b → a ≡ b
  set_same first a b one two =
      same_lists (λ i k. i < k) (λ n. Unit {0}) (λ x y u v l m. omega (arith, l, m)) a b one.rises two.rises (all_units a) (all_units b)
      (λ z c. two.whole z (all_at (λ k. Linked list first k) a z one.linked c)) (λ z c. one.whole z (all_at (λ k. Linked list first k) b z two.linked c))

  in_own : (first : ℕ) (set : List ℕ) → IsSet list first set → Contains set first
  in_own first set one = subst (λ (l : List ℕ). Contains l first) (sym one.begins.1) (at_front first one.begins.0)

  head_of : (first : ℕ) (set : List ℕ) → IsSet list first set → slice_get set 0 ≡ Some first
  head_of first set one = ap (λ (l : List ℕ). slice_get l 0) one.begins.1

  -- the first place is the least
  least : (first : ℕ) (set : List ℕ) (k : ℕ) → IsSet list first set → Contains set k → first ≤ k
  least first set k one c = go (among first one.begins.0 k (subst (λ (l : List ℕ). Contains l k) one.begins.1 c))
    where
      go : (first ≡ k) ⊎ Contains one.begins.0 k → first ≤ k
      go (inl e) = omega (arith, e)
      go (inr d) =
          let low = above (λ i j. i < j) (λ n. Unit {0}) (λ x y u v l m. omega (arith, l, m)) first one.begins.0 k (subst (λ (l : List ℕ). AllPairs (λ i j. i < j) l) one.begins.1 one.rises) d in
          omega (arith, low)

  abbrev HeadsRise : List ℕ → List ℕ → Type 0
  HeadsRise a b = (i k : ℕ) → slice_get a 0 ≡ Some i → slice_get b 0 ≡ Some k → i < k

  abbrev IsOne : List ℕ → Type 0
  IsOne set = (first : ℕ) × IsSet list first set

  heads_apart : (a b : List ℕ) → IsOne a → IsOne b → HeadsRise a b → HeadsRise b a → ⊥
  heads_apart a b (i, one) (k, two) r s =
      let l = r i k (head_of i a one) (head_of k b two) in
      let m = s k i (head_of k b two) (head_of i a one) in
      omega (arith, l, m)

  -- each set of one list is one of another
  among_sets : (xs ys : List (List ℕ)) → AreSets list xs → AreSets list ys → (set : List ℕ) → Contains xs set → Contains ys set
  among_sets xs ys a b set c =
      let (first, one) = all_at IsOne xs set a.each c in
      let low : first < length list = linked_within list first first (all_at (λ k. Linked list first k) set first one.linked (in_own first set one)) in
      let (other, there, has) = b.all first low in
      let (head, two) = all_at IsOne ys other b.each there in
      let before : head ≤ first = least head other first two has in
      let linked : Linked list first head = linked_turned head first (all_at (λ k. Linked list head k) other first two.linked has) in
      let after : first ≤ head = least first set head one (one.whole head linked) in
      let same : head ≡ first = omega (arith, before, after) in
      subst (Contains ys) (set_same first other set (subst (λ n. IsSet list n other) same two) one) there

  pub one_sets : (xs ys : List (List ℕ)) → AreSets list xs → AreSets list ys → xs ≡ ys
  one_sets xs ys a b = same_lists HeadsRise IsOne heads_apart xs ys a.rising b.rising a.each b.each (among_sets xs ys a b) (among_sets ys xs b a)

-- ---- the step of a set

abbrev list_or : List Text → Result (List Text) Refusal → List Text
list_or d (Ok found) = found
list_or d (Err why) = d

same_step : (a b : Step) → a.name ≡ b.name → a.text ≡ b.text → a.outs ≡ b.outs → a.ins ≡ b.ins → a.dirs ≡ b.dirs → a.always ≡ b.always → a.notfile ≡ b.notfile → a ≡ b
same_step a b names texts outs ins dirs always notfile = λ i. record { name = names i; text = texts i; outs = outs i; ins = ins i; dirs = dirs i; always = always i; notfile = notfile i }

module _ (g : Graph) (stands : Text → Bool) where
  pub one_step : (set : List Act) (a b : Step) → IsStep g stands set a → IsStep g stands set b → a ≡ b
  one_step set a b x y =
      same_step a b (x.name ∙ sym y.name) (x.text ∙ ap whole_text (ap (list_or x.texts) (sym x.texted ∙ y.texted)) ∙ sym y.text) (x.outs ∙ sym y.outs)
      (x.ins ∙ ap (map (place g stands)) (spread_once g stands _ x.found y.found x.spreads y.spreads) ∙ sym y.ins) (x.dirs ∙ sym y.dirs) (x.always ∙ sym y.always) (x.notfile ∙ sym y.notfile)

  -- no output lies outside of all roots
  none_outside : (outs : List Text) (path : Text) → list_all (is_in_roots g) outs ≡ true → find (λ out. not (is_in_roots g out)) outs ≡ Some path → ⊥
  none_outside [] path e f = none_some path f
  none_outside (out ∷ outs) path e f = go (is_in_roots g out) refl (λ h k. none_outside outs path h k)
    where
      go : (b : Bool) → is_in_roots g out ≡ b → (list_all (is_in_roots g) outs ≡ true → find (λ o. not (is_in_roots g o)) outs ≡ Some path → ⊥) → ⊥
      go true a rest =
          rest (sym (ap (λ b. b && list_all (is_in_roots g) outs) a) ∙ e) (sym (ap (λ b. let o : Option Text = cond (not b) (Some out) (find (λ o. not (is_in_roots g o)) outs) in o) a) ∙ f)
      go false a rest = true≢false (sym e ∙ ap (λ b. b && list_all (is_in_roots g) outs) a)

  module _ (steps : List Step) (set : List Act) where
    -- a set that is refused is not accepted
    not_both : (why : Refusal) (step : Step) → Refuses g stands steps set why → Accepts g stands steps set step → ⊥
    not_both why step (is_full full) a = a.few full
    not_both why step (is_mixed target few e) a = none_some target (sym a.pure ∙ e)
    not_both why step (no_text _ few pure e) a = let f = sym a.is.texted ∙ e in cc
    not_both why step (lies_outside texts path few pure e f) a = none_outside (outs_of g stands set) path a.inside f
    not_both why step (clashes other path few pure is inside first) a =
        fitting_none steps step path a.fits (subst (λ (s : Step). IsFirstClash steps s path) (one_step set other step is a.is) first)

    abbrev why_or : Refusal → Result (List Text) Refusal → Refusal
    why_or d (Ok texts) = d
    why_or d (Err why) = why

    one_refusal : (a b : Refusal) → Refuses g stands steps set a → Refuses g stands steps set b → a ≡ b
    one_refusal a b (is_full full) (is_full other) = refl
    one_refusal a b (is_full full) (is_mixed target few e) = absurd (few full)
    one_refusal a b (is_full full) (no_text _ few pure e) = absurd (few full)
    one_refusal a b (is_full full) (lies_outside texts path few pure e f) = absurd (few full)
    one_refusal a b (is_full full) (clashes step path few pure is inside first) = absurd (few full)
    one_refusal a b (is_mixed target few e) (is_full full) = absurd (few full)
    one_refusal a b (is_mixed target few e) (is_mixed other also f) = ap mixed (same_Some target other (sym e ∙ f))
    one_refusal a b (is_mixed target few e) (no_text _ also pure f) = absurd (none_some target (sym pure ∙ e))
    one_refusal a b (is_mixed target few e) (lies_outside texts path also pure f k) = absurd (none_some target (sym pure ∙ e))
    one_refusal a b (is_mixed target few e) (clashes step path also pure is inside first) = absurd (none_some target (sym pure ∙ e))
    one_refusal a b (no_text _ few pure e) (is_full full) = absurd (few full)
    one_refusal a b (no_text _ few pure e) (is_mixed target also f) = absurd (none_some target (sym pure ∙ f))
    one_refusal a b (no_text _ few pure e) (no_text _ also other f) = ap (why_or a) (sym e ∙ f)
    one_refusal a b (no_text _ few pure e) (lies_outside texts path also other f k) = absurd (let l = sym e ∙ f in cc)
    one_refusal a b (no_text _ few pure e) (clashes step path also other is inside first) = absurd (let l = sym e ∙ is.texted in cc)
    one_refusal a b (lies_outside texts path few pure e f) (is_full full) = absurd (few full)
    one_refusal a b (lies_outside texts path few pure e f) (is_mixed target also k) = absurd (none_some target (sym pure ∙ k))
    one_refusal a b (lies_outside texts path few pure e f) (no_text _ also other k) = absurd (let l = sym e ∙ k in cc)
    one_refusal a b (lies_outside texts path few pure e f) (lies_outside more way also other k l) = ap outside (same_Some path way (sym f ∙ l))
    one_refusal a b (lies_outside texts path few pure e f) (clashes step way also other is inside first) = absurd (none_outside (outs_of g stands set) path inside f)
    one_refusal a b (clashes step path few pure is inside first) (is_full full) = absurd (few full)
    one_refusal a b (clashes step path few pure is inside first) (is_mixed target also k) = absurd (none_some target (sym pure ∙ k))
    one_refusal a b (clashes step path few pure is inside first) (no_text _ also other k) = absurd (let l = sym is.texted ∙ k in cc)
    one_refusal a b (clashes step path few pure is inside first) (lies_outside texts way also other k l) = absurd (none_outside (outs_of g stands set) way inside l)
    one_refusal a b (clashes step path few pure is inside first) (clashes another way also other is_other inside_other second) =
        ap clash (one_clash steps another path way (subst (λ (s : Step). IsFirstClash steps s path) (one_step set step another is is_other) first) second)

  -- ---- all sets

  one_joins : (steps : List Step) (sets : List (List Act)) (a b : Result (List Step) Refusal) → Joins g stands steps sets a → Joins g stands steps sets b → a ≡ b
  one_joins steps sets a b all all = refl
  one_joins steps sets a b (stops {set = set} why h) (stops other k) = ap (λ (r : Refusal). let made : Result (List Step) Refusal = Err r in made) (one_refusal steps set why other h k)
  one_joins steps sets a b (stops {set = set} why h) (goes_on step accepts more) = absurd (not_both steps set why step h accepts)
  one_joins steps sets a b (goes_on {set = set} step accepts more) (stops why h) = absurd (not_both steps set why step h accepts)
  one_joins steps sets a b (goes_on {set = set} {more = others} step accepts more) (goes_on other also rest) =
      one_joins (steps ++ step ∷ []) others a b more (subst (λ (s : Step). Joins g stands (steps ++ s ∷ []) others b) (one_step set other step also.is accepts.is) rest)

  one_steps : (a b : Result (List Step) Refusal) → Steps g stands a → Steps g stands b → a ≡ b
  one_steps a b x y =
      one_joins [] (map (acts_at (acts g stands)) x.sets) a b x.joins
      (subst (λ (l : List (List ℕ)). Joins g stands [] (map (acts_at (acts g stands)) l) b) (one_sets (acts g stands) y.sets x.sets y.are x.are) y.joins)

  abbrev joined_or : List Step → Result (List Step) Refusal → List Step
  joined_or d (Ok steps) = steps
  joined_or d (Err why) = d

  abbrev stopped_or : Refusal → Result (List Step) Refusal → Refusal
  stopped_or d (Ok steps) = d
  stopped_or d (Err why) = why

  one_result : (targets : Value) (a b : Result Target Refusal) → PlansTo g stands targets a → PlansTo g stands targets b → a ≡ b
  one_result targets a b (is_unknown t e) (is_unknown u f) = ap (λ (x : Text). let made : Result Target Refusal = Err (no_target x) in made) (same_Some t u (sym e ∙ f))
  one_result targets a b (is_unknown t e) (is_refused why f s) = absurd (none_some t (sym f ∙ e))
  one_result targets a b (is_unknown t e) (is_planned steps found f s spread) = absurd (none_some t (sym f ∙ e))
  one_result targets a b (is_refused why e s) (is_unknown t f) = absurd (none_some t (sym e ∙ f))
  one_result targets a b (is_refused why e s) (is_refused other f r) = ap (λ (x : Refusal). let made : Result Target Refusal = Err x in made) (ap (stopped_or why) (one_steps (Err why) (Err other) s r))
  one_result targets a b (is_refused why e s) (is_planned steps found f r spread) = absurd (let l = one_steps (Err why) (Ok steps) s r in cc)
  one_result targets a b (is_planned steps found e s spread) (is_unknown t f) = absurd (none_some t (sym e ∙ f))
  one_result targets a b (is_planned steps found e s spread) (is_refused why f r) = absurd (let l = one_steps (Ok steps) (Err why) s r in cc)
  one_result targets a b (is_planned steps found e s spread) (is_planned others found_too f r spread_too) =
      ap₂ (λ (l : List Step) (w : Value). let made : Result Target Refusal = Ok (record { steps = l; wanted = map (place g stands) w; roots = roots g }) in made)
      (ap (joined_or steps) (one_steps (Ok steps) (Ok others) s r)) (spread_once g stands targets found found_too spread spread_too)

pub one_plan : OnePlan
one_plan g stands targets a b h k = one_result g stands targets a b h k
