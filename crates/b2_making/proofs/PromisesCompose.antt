-- What parts promise, one after another.
use Rattle.std.proofs.Common.{◌≡◌, ℕ, ◌<◌, ◌≤◌, ◌+◌, Bool, List, [], ◌∷◌, ◌++◌, Option, Some, Result, Ok, Err, IfErr, drop, get_or, length, refl, sym, ◌∙◌, ap, subst, append_assoc}
use Rattle.std.specs.List.{AllByRecursion}
use Rattle.std.proofs.lemmas.List.{append-nil}
use Rattle.b2_plan.specs.declared.step.Step.{Step}
use Rattle.b2_evaluator.specs.Answers.{Answers}
use Rattle.b2_base.specs.Counts.{IsCounted, CountsFault}
use Rattle.b2_making.specs.declared.setting.Setting.{Setting}
use Rattle.b2_making.specs.declared.site.Site as code
use Rattle.b2_making.specs.declared.fault.MakingFault.{MakingFault}
use Rattle.b2_making.specs.declared.fault.MakingFault.TheVariants.{NoChain, TwoChains, PathClash, LocationOutside, TooManySteps, Eval, OutOfMemory}
use Rattle.b2_making.specs.Faults.{Fault}
use Rattle.b2_making.specs.Acts.{Outcome, Act, gives, and_then}
use Rattle.b2_making.specs.Contexts.{Context, Site, context_of, site_of}
use Rattle.b2_making.specs.Answers.{IsKnownFault, is_of_eval, AreHoused, Grows, Leaves}
use Rattle.b2_making.specs.MakingParts.{IsOfNoEval, Alone, Did}
use Rattle.b2_making.proofs.ActsCompose.{refused_map, refused_first, done_then, done_map, prepended, IsSoFar, so_far_start, so_far_next, so_far_end, so_far_refused}

-- ---- steps

all_append : {X : Type 0} (P : X → Type 0) (xs ys : List X) → AllByRecursion P xs → AllByRecursion P ys → AllByRecursion P (xs ++ ys)
all_append P [] ys a b = b
all_append P (x ∷ xs) ys a b = (a.0, all_append P xs ys a.1 b)

pub grows_none : (roots : List (List ℕ)) (steps : List Step) → Grows roots steps steps
grows_none roots steps = record { more = []; joined = sym (append-nil steps); housed = tt }

pub grows_then : (roots : List (List ℕ)) (before mid after : List Step) → Grows roots before mid → Grows roots mid after → Grows roots before after
grows_then roots before mid after one two = record {
  more = one.more ++ two.more;
  joined = two.joined ∙ ap (λ (steps : List Step). steps ++ two.more) one.joined ∙ append_assoc before one.more two.more;
  housed = all_append (λ (step : Step). AreHoused roots step.outs) one.more two.more one.housed two.housed;
}

-- ---- those who are asked

counted_none : {E : Type 0} (host memory : E → Bool) (count : ℕ) (f : MakingFault E) → IsOfNoEval f → CountsFault (is_of_eval host f) (is_of_eval memory f) count count
counted_none host memory count (NoChain from to) is = refl
counted_none host memory count (TwoChains from to one two) is = refl
counted_none host memory count (PathClash path) is = refl
counted_none host memory count (LocationOutside path) is = refl
counted_none host memory count (TooManySteps number) is = refl
counted_none host memory count (Eval why) is = absurd is
counted_none host memory count OutOfMemory is = refl

known_none : {E : Type 0} (Known : E → Type 0) (f : MakingFault E) → IsOfNoEval f → IsKnownFault Known f
known_none Known (NoChain from to) is = tt
known_none Known (TwoChains from to one two) is = tt
known_none Known (PathClash path) is = tt
known_none Known (LocationOutside path) is = tt
known_none Known (TooManySteps number) is = tt
known_none Known (Eval why) is = absurd is
known_none Known OutOfMemory is = tt

module _ {S E K : Type 0} (answers : S → Option (Answers E)) (kept : S → K) (faults : S → ℕ) (is_host is_memory : E → Bool) (CanFault : K → E → Type 0) where
  pub leaves_none : {A : Type 0} (old : S) (r : Result A (MakingFault E)) → IfErr r IsOfNoEval → Leaves answers kept faults is_host is_memory CanFault old old r
  leaves_none old (Ok value) none = record { same_answers = refl; same_kept = refl; counted = refl; known = tt }
  leaves_none old (Err f) none = record {
    same_answers = refl;
    same_kept = refl;
    counted = counted_none is_host is_memory (faults old) f none;
    known = known_none (CanFault (kept old)) f none;
  }

  pub leaves_then : {A B : Type 0} (old mid new : S) (value : A) (r : Result B (MakingFault E))
      → Leaves answers kept faults is_host is_memory CanFault old mid (Ok value) → Leaves answers kept faults is_host is_memory CanFault mid new r → Leaves answers kept faults is_host is_memory CanFault old new r
  leaves_then old mid new value r one two = record {
    same_answers = two.same_answers ∙ one.same_answers;
    same_kept = two.same_kept ∙ one.same_kept;
    counted = subst (λ (count : ℕ). IsCounted (is_of_eval is_host) (is_of_eval is_memory) count (faults new) r) one.counted two.counted;
    known = subst (λ (k : K). IfErr r (IsKnownFault (CanFault k))) one.same_kept two.known;
  }

  -- another value
  pub leaves_given : {A B : Type 0} (old new : S) (value : A) (other : B) → Leaves answers kept faults is_host is_memory CanFault old new (Ok value) → Leaves answers kept faults is_host is_memory CanFault old new (Ok other)
  leaves_given old new value other one = record { same_answers = one.same_answers; same_kept = one.same_kept; counted = one.counted; known = tt }

  -- ---- parts

  module _ (setting : Setting) (site : code.Site) where
    abbrev pub Part : {A : Type 0} → (Context E → Site → Act E A) → S → S → List Step → List Step → Result A (MakingFault E) → Type 0
    Part act old new before after r = Did answers kept faults is_host is_memory CanFault act setting site old new before after r

    -- a part that asks for no text
    pub alone_did : {A : Type 0} (act : Context E → Site → Act E A) (old : S) (before after : List Step) (r : Result A (MakingFault E)) → Alone act setting site before after r → Grows setting.roots.now before after → Part act old old before after r
    alone_did act old before after r alone grows = record { exact = λ told t. alone.exact told is_host is_memory; leaves = leaves_none old r alone.no_eval; grows = grows }

    -- out of memory before anything was done
    pub did_nothing : {A : Type 0} (act : Context E → Site → Act E A) (old : S) (before : List Step) → Part act old old before before (Err OutOfMemory)
    did_nothing {A} act old before = record {
      exact = λ told t. tt;
      leaves = leaves_none {A = A} old (Err OutOfMemory) tt;
      grows = grows_none setting.roots.now before;
    }

    -- out of memory after an act
    pub did_memory : {A B : Type 0} (act : Context E → Site → Act E A) (other : Context E → Site → Act E B) (old new : S) (before after : List Step) (value : A) → Part act old new before after (Ok value) → Part other old new before after (Err OutOfMemory)
    did_memory act other old new before after value one = record {
      exact = λ told t. tt;
      leaves = record { same_answers = one.leaves.same_answers; same_kept = one.leaves.same_kept; counted = one.leaves.counted; known = tt };
      grows = one.grows;
    }

    -- an act that is another one there
    pub did_as : {A : Type 0} (act other : Context E → Site → Act E A) (old new : S) (before after : List Step) (r : Result A (MakingFault E))
        → ((told : Answers E) (outcome : Outcome E A) → act (context_of told setting) (site_of site) before outcome → other (context_of told setting) (site_of site) before outcome)
        → Part act old new before after r → Part other old new before after r
    did_as act other old new before after r goes one = record {
      exact = λ told t. done_map is_host is_memory (act (context_of told setting) (site_of site)) (other (context_of told setting) (site_of site)) before after before r (goes told) (one.exact told t);
      leaves = one.leaves;
      grows = one.grows;
    }

    -- a refusal of the first act
    pub did_first : {A B : Type 0} (act : Context E → Site → Act E A) (next : A → Context E → Site → Act E B) (old new : S) (before after : List Step) (f : MakingFault E)
        → Part act old new before after (Err f) → Part (λ c s. and_then (act c s) (λ value. next value c s)) old new before after (Err f)
    did_first {A} {B} act next old new before after f one = record {
      exact = λ told t. refused_first is_host is_memory (act (context_of told setting) (site_of site)) (λ value. next value (context_of told setting) (site_of site)) before f (one.exact told t);
      leaves = record { same_answers = one.leaves.same_answers; same_kept = one.leaves.same_kept; counted = one.leaves.counted; known = one.leaves.known };
      grows = one.grows;
    }

    -- one part and then another
    pub did_then : {A B : Type 0} (act : Context E → Site → Act E A) (next : A → Context E → Site → Act E B) (old mid new : S) (before between after : List Step) (value : A) (r : Result B (MakingFault E))
        → Part act old mid before between (Ok value) → Part (next value) mid new between after r → Part (λ c s. and_then (act c s) (λ given. next given c s)) old new before after r
    did_then {A} {B} act next old mid new before between after value r one two = record {
      exact = λ told t.
          done_then is_host is_memory (act (context_of told setting) (site_of site)) (λ given. next given (context_of told setting) (site_of site)) before between after value r
          (one.exact told t) (two.exact told (one.leaves.same_answers ∙ t));
      leaves = leaves_then old mid new value r one.leaves two.leaves;
      grows = grows_then setting.roots.now before between after one.grows two.grows;
    }

    -- a value made of the one that was given
    pub did_gives : {A B : Type 0} (act : Context E → Site → Act E A) (made : Site → A → B) (old new : S) (before after : List Step) (value : A) (other : B) → other ≡ made (site_of site) value
        → Part act old new before after (Ok value) → Part (λ c s. and_then (act c s) (λ given. gives (made s given))) old new before after (Ok other)
    did_gives {A} {B} act made old new before after value other e one = record {
      exact = λ told t. (Ok (value, after), one.exact told t, ap (λ (b : B). let o : Outcome E B = Ok (b, after) in o) e);
      leaves = leaves_given old new value other one.leaves;
      grows = one.grows;
    }

    -- ---- acts for some things

    pub record UnderWay {X A : Type 0} (acts : Context E → Site → List X → Act E (List A)) (all : List X) (place : ℕ) (done : List A) (old now : S) (start here : List Step) : Type 0 where
      pub so_far : (told : Answers E) → answers old ≡ Some told → IsSoFar (acts (context_of told setting) (site_of site)) all place done start here
      pub leaves : Leaves answers kept faults is_host is_memory CanFault old now (let r : Result (Unit {0}) (MakingFault E) = Ok tt in r)
      pub grows : Grows setting.roots.now start here

    module _ {X A : Type 0} (acts : Context E → Site → List X → Act E (List A)) (all : List X) where
      pub under_way_start : (old : S) (start : List Step) → UnderWay acts all 0 [] old old start start
      under_way_start old start = record {
        so_far = λ told t. so_far_start (acts (context_of told setting) (site_of site)) all start;
        leaves = leaves_none old (let r : Result (Unit {0}) (MakingFault E) = Ok tt in r) tt;
        grows = grows_none setting.roots.now start;
      }

      -- one thing more
      pub under_way_next : {B : Type 0} (act : Context E → Site → Act E B) (place : ℕ) (x : X) (done more : List A) (old now next : S) (start here there : List Step) (value : B)
          → place < length all → x ≡ get_or all place x
          → ((c : Context E) (s : Site) (outcome : Outcome E (List A)) → act c s here (Ok (value, there)) → acts c s (drop (place + 1) all) there outcome → acts c s (x ∷ drop (place + 1) all) here (prepended more outcome))
          → UnderWay acts all place done old now start here → Part act now next here there (Ok value) → UnderWay acts all (place + 1) (done ++ more) old next start there
      under_way_next {B} act place x done more old now next start here there value within at step before one = record {
        so_far = λ told t.
            so_far_next (acts (context_of told setting) (site_of site)) all start place x done more here there within at
            (λ outcome rest. step (context_of told setting) (site_of site) outcome (one.exact told (before.leaves.same_answers ∙ t)) rest) (before.so_far told t);
        leaves = leaves_given old next value tt (leaves_then old now next tt (let r : Result B (MakingFault E) = Ok value in r) before.leaves one.leaves);
        grows = grows_then setting.roots.now start here there before.grows one.grows;
      }

      -- nothing is left
      pub under_way_end : (place : ℕ) (done : List A) (old now : S) (start here : List Step) → length all ≤ place → ((c : Context E) (s : Site) → acts c s [] here (Ok ([], here)))
          → UnderWay acts all place done old now start here → Part (λ c s. acts c s all) old now start here (Ok done)
      under_way_end place done old now start here over none before = record {
        exact = λ told t. so_far_end (acts (context_of told setting) (site_of site)) all start place done here over (none (context_of told setting) (site_of site)) (before.so_far told t);
        leaves = leaves_given old now tt done before.leaves;
        grows = before.grows;
      }

      -- the next one is refused
      pub under_way_refused : {B : Type 0} (act : Context E → Site → Act E B) (place : ℕ) (x : X) (done : List A) (old now next : S) (start here there : List Step) (f : MakingFault E)
          → place < length all → x ≡ get_or all place x
          → ((c : Context E) (s : Site) (fault : Fault E) → act c s here (Err fault) → acts c s (x ∷ drop (place + 1) all) here (Err fault))
          → UnderWay acts all place done old now start here → Part act now next here there (Err f) → Part (λ c s. acts c s all) old next start there (Err f)
      under_way_refused {B} act place x done old now next start here there f within at step before one = record {
        exact = λ told t.
            so_far_refused (acts (context_of told setting) (site_of site)) all start is_host is_memory place x done here f within at (before.so_far told t)
            (refused_map is_host is_memory (act (context_of told setting) (site_of site)) (acts (context_of told setting) (site_of site) (x ∷ drop (place + 1) all)) here here f
            (λ fault is. step (context_of told setting) (site_of site) fault is) (one.exact told (before.leaves.same_answers ∙ t)));
        leaves =
            let both = leaves_then old now next tt (let r : Result B (MakingFault E) = Err f in r) before.leaves one.leaves in
            record { same_answers = both.same_answers; same_kept = both.same_kept; counted = both.counted; known = both.known };
        grows = grows_then setting.roots.now start here there before.grows one.grows;
      }

      -- out of memory
      pub under_way_memory : {B : Type 0} (other : Context E → Site → Act E B) (place : ℕ) (done : List A) (old now : S) (start here : List Step) → UnderWay acts all place done old now start here → Part other old now start here (Err OutOfMemory)
      under_way_memory other place done old now start here before = record {
        exact = λ told t. tt;
        leaves = record { same_answers = before.leaves.same_answers; same_kept = before.leaves.same_kept; counted = before.leaves.counted; known = tt };
        grows = before.grows;
      }
