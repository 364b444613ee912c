use Rattle.std.proofs.Common.{ℕ, List, subst, Some}
use Rattle.std.specs.List.{Contains}
use Rattle.b2_plan.specs.declared.step.Step.{Step}
use Rattle.b2_plan.specs.Sources.{Build}
use Rattle.b2_plan.specs.Closures.{Value, Values, Known, Known.input, Known.include, IsClosure}
use Rattle.b2_runs.specs.ClosureLaws.{Extends, IsMap, KnownGrows, MissingIsInput, ClosureStays, KnownIsLocal, ClosureIsLocal}

-- more known values leave no less known
pub known_grows : (v more : Values) → KnownGrows v more
known_grows v more b step path extends (input p c) = input p c
known_grows v more b step path extends (include p bytes found k says inc) = include p bytes found (known_grows v more b step p extends k) (extends p (Some bytes) says) inc

-- an include is found at a given path alone
pub missing_is_input : (v : Values) → MissingIsInput v
missing_is_input v b step path (input p c) missing = c
missing_is_input v b step path (include p bytes found k says inc) missing = absurd (missing inc.first.there)

-- where each member has a value already, no more are known by more values
pub known_stays : (b : Build) (v more : Values) (step : Step) → Extends v more → IsMap more → ((path : List ℕ) → Known b v step path → (x : Value) × v path x) → (path : List ℕ) → Known b more step path → Known b v step path
known_stays b v more step extends one has path (input p c) = input p c
known_stays b v more step extends one has path (include p bytes found k says inc) =
    let before = known_stays b v more step extends one has p k in
    let (x, here) = has p before in
    include p bytes found before (subst (v p) (one p x (Some bytes) (extends p x here) says) here) inc

-- each member of a closure has a value
pub close_has : (b : Build) (v : Values) (step : Step) (members : List (List ℕ × Value)) → IsClosure b v step members → (path : List ℕ) → Known b v step path → (x : Value) × v path x
close_has b v step members closure path k =
    let (x, c) = closure.whole path k in
    (x, (closure.each path x c).1)

-- a closure stays the same where more values are known
pub closure_stays : (v more : Values) → ClosureStays v more
closure_stays v more b step members extends one closure = record {
  ordered = closure.ordered;
  each = λ path x c. let (k, h) = closure.each path x c in (known_grows v more b step path extends k, extends path x h);
  whole = λ path k. closure.whole path (known_stays b v more step extends one (close_has b v step members closure) path k);
}

-- a closure by more values is one by fewer, where its members have them
pub close_back : (b : Build) (v more : Values) (step : Step) (members : List (List ℕ × Value)) → Extends v more → IsMap more → IsClosure b more step members → ((path : List ℕ) (x : Value) → Contains members (path, x) → v path x) → IsClosure b v step members
close_back b v more step members extends one closure low =
    let up : (path : List ℕ) → Known b v step path → Known b more step path = λ path k. known_grows v more b step path extends k in
    let down : (path : List ℕ) → Known b more step path → Known b v step path =
    known_stays b v more step extends one (λ path k. let (x, c) = closure.whole path (up path k) in (x, low path x c)) in
    record {
      ordered = closure.ordered;
      each = λ path x c. (down path (closure.each path x c).0, low path x c);
      whole = λ path k. closure.whole path (up path k);
    }

-- what is known by values that agree on it
known_there : (v other : Values) (b : Build) (step : Step) → ((p : List ℕ) (value : Value) → Known b v step p → v p value → other p value) → (path : List ℕ) → Known b v step path → Known b other step path
known_there v other b step there path (input p c) = input p c
known_there v other b step there path (include p bytes found k says inc) = include p bytes found (known_there v other b step there p k) (there p (Some bytes) k says) inc

known_here : (v other : Values) (b : Build) (step : Step) → ((p : List ℕ) (value : Value) → Known b v step p → other p value → v p value) → (path : List ℕ) → Known b other step path → Known b v step path
known_here v other b step here path (input p c) = input p c
known_here v other b step here path (include p bytes found k says inc) = let known = known_here v other b step here p k in include p bytes found known (here p (Some bytes) known says) inc

-- what is known depends on the values of what is known alone
pub known_is_local : (v other : Values) → KnownIsLocal v other
known_is_local v other b step path agree = (known_there v other b step (λ p x k. (agree p x k).0) path, known_here v other b step (λ p x k. (agree p x k).1) path)

pub closure_is_local : (v other : Values) → ClosureIsLocal v other
closure_is_local v other b step members agree = (
  λ closure. record {
    ordered = closure.ordered;
    each = λ path x c. let (k, h) = closure.each path x c in (known_there v other b step (λ p y j. (agree p y j).0) path k, (agree path x k).0 h);
    whole = λ path k. closure.whole path (known_here v other b step (λ p y j. (agree p y j).1) path k);
  },
  λ closure. record {
    ordered = closure.ordered;
    each = λ path x c. let (k, h) = closure.each path x c in let known = known_here v other b step (λ p y j. (agree p y j).1) path k in (known, (agree path x known).1 h);
    whole = λ path k. closure.whole path (known_there v other b step (λ p y j. (agree p y j).0) path k);
  },
)
