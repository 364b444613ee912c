-- Why a choice refuses a main target, and the loop that lists the cycle back to it.
use Rattle.std.proofs.Common.{◌≡◌, ◌<◌, ◌≤◌, ◌==◌, ◌+◌, ℕ, Bool, true, false, true≢false, ◌||◌, length, take, get_or, List, [], ◌∷◌, ◌++◌, map, reverse, Err, refl, sym, ap, subst, ◌∙◌, if◌then◌else◌}
use Rattle.std.specs.Prelude.{not}
use Rattle.std.proofs.lemmas.Grind.{reverse_onto}
use Rattle.std.proofs.lemmas.List.{map-append, reverse-reverse, take_all}
use Rattle.std.proofs.Math.Bool.{or-false}
use Rattle.std.proofs.Math.Dec.{eqb-suc-zero}
use Rattle.b2_props.specs.Sets.{Pair}
use Rattle.b2_declared.specs.declared.whole.Declared.{Declared}
use Rattle.b2_references.specs.Names.{Name, is_same, is_among}
use Rattle.b2_alternatives.specs.IndirectRules.{HoldsOf}
use Rattle.b2_alternatives.specs.Choosing.{Chooses, Returned}
use Rattle.b2_alternatives.specs.declared.fault.ChoiceFault.{ChoiceFault}
use Rattle.b2_alternatives.specs.declared.fault.ChoiceFault.TheVariants.{NoAlternative, AmbiguousAlternative, Unstable, BadAnswer, Eval, OutOfMemory}
use Rattle.b2_generate.specs.Faults.{not_chosen}
use Rattle.b2_generate.specs.Generation.{from_first}
use Rattle.b2_generate.specs.Machine.{names_of}
use Rattle.b2_generate.specs.Opening.{IsUnchosen}
use Rattle.b2_generate.specs.declared.frame.Frame.{Frame}
use Rattle.b2_generate.proofs.SupplyGathersPartByPart.{further}
use Rattle.b2_generate.specs.ToldOutcomes.{unless, IfFault, IsRefusal}
use Rattle.b2_generate.specs.declared.fault.GenFault.TheVariants.{NotChosen}

module _ {E : Type 0} (is_host is_out : E → Bool) (d : Declared) (returned : Returned E) (name : Name) (set : List Pair) where
  unchosen_by : (fault : ChoiceFault E) → Chooses d returned name set (Err fault) → IsUnchosen d returned name set (not_chosen fault)
  unchosen_by fault h = record { why = fault; is = refl; chooses = h }

  of_eval : (host out : Bool) (fault : E) → is_host fault ≡ host → is_out fault ≡ out → (is_host fault ≡ false → is_out fault ≡ false → Chooses d returned name set (Err (Eval fault)))
      → IfFault (IsUnchosen d returned name set) (unless host out (not_chosen (Eval fault)))
  of_eval true out fault host_is out_is h = record {}
  of_eval false true fault host_is out_is h = record {}
  of_eval false false fault host_is out_is h = unchosen_by (Eval fault) (h host_is out_is)

  -- a refusal of the choice is one of the target
  pub unchosen : (fault : ChoiceFault E) → HoldsOf is_host is_out (λ why. Chooses d returned name set (Err why)) fault → IsRefusal is_host is_out (IsUnchosen d returned name set) (NotChosen fault)
  unchosen (NoAlternative target s) h = unchosen_by (NoAlternative target s) (h refl refl)
  unchosen (AmbiguousAlternative target s i k) h = unchosen_by (AmbiguousAlternative target s i k) (h refl refl)
  unchosen (Unstable target first second) h = unchosen_by (Unstable target first second) (h refl refl)
  unchosen (BadAnswer target rule word) h = unchosen_by (BadAnswer target rule word) (h refl refl)
  unchosen (Eval fault) h = of_eval (is_host fault) (is_out fault) fault refl refl h
  unchosen OutOfMemory h = record {}

-- ---- the names of the open targets

names_listed : (fs : List Frame) → names_of fs ≡ map (λ f. f.name) (reverse fs)
names_listed [] = refl
names_listed (f ∷ below) =
    ap (λ (names : List Name). names ++ f.name ∷ []) (names_listed below) ∙ sym (ap (map (λ (k : Frame). k.name)) (reverse_onto below f []) ∙ map-append (λ (k : Frame). k.name) (reverse below) (f ∷ []))

pub names_below : (fs : List Frame) → names_of (reverse fs) ≡ map (λ f. f.name) fs
names_below fs = names_listed (reverse fs) ∙ ap (map (λ (k : Frame). k.name)) (reverse-reverse fs)

-- ---- a cycle

-- the targets from one of a name on, and the last one
pub from_last : (name : Name) (names : List Name) (last : Name) → is_among (names ++ last ∷ []) name ≡ true → from_first name (names ++ last ∷ []) ≡ from_first name names ++ last ∷ []
from_last name [] last e = ap (λ (b : Bool). if b then last ∷ [] else []) (sym (or-false (is_same name last)) ∙ e)
from_last name (first ∷ more) last e = cases (is_same name first) (from_last name more last) e
  where
    cases : (b : Bool) → (is_among (more ++ last ∷ []) name ≡ true → from_first name (more ++ last ∷ []) ≡ from_first name more ++ last ∷ []) → (b || is_among (more ++ last ∷ []) name) ≡ true
        → (if b then first ∷ more ++ last ∷ [] else from_first name (more ++ last ∷ [])) ≡ (if b then first ∷ more else from_first name more) ++ last ∷ []
    cases true rest among = refl
    cases false rest among = rest among

-- one more target, where one of the name stood before, or it has the name itself
pub from_more : (name : Name) (names : List Name) (last : Name) → (from_first name names ≡ [] → is_same name last ≡ true) → from_first name (names ++ last ∷ []) ≡ from_first name names ++ last ∷ []
from_more name [] last e = ap (λ (b : Bool). if b then last ∷ [] else []) (e refl)
from_more name (first ∷ more) last e = cases (is_same name first) (from_more name more last) e
  where
    cases : (b : Bool) → ((from_first name more ≡ [] → is_same name last ≡ true) → from_first name (more ++ last ∷ []) ≡ from_first name more ++ last ∷ [])
        → ((if b then first ∷ more else from_first name more) ≡ [] → is_same name last ≡ true)
        → (if b then first ∷ more ++ last ∷ [] else from_first name (more ++ last ∷ [])) ≡ (if b then first ∷ more else from_first name more) ++ last ∷ []
    cases true rest h = refl
    cases false rest h = rest h

-- none so far
pub from_none : (name : Name) (names : List Name) (last : Name) → from_first name names ≡ [] → is_same name last ≡ false → from_first name (names ++ last ∷ []) ≡ []
from_none name [] last e other = ap (λ (b : Bool). if b then last ∷ [] else []) other
from_none name (first ∷ more) last e other = cases (is_same name first) (from_none name more last) e
  where
    cases : (b : Bool) → (from_first name more ≡ [] → is_same name last ≡ false → from_first name (more ++ last ∷ []) ≡ []) → (if b then first ∷ more else from_first name more) ≡ []
        → (if b then first ∷ more ++ last ∷ [] else from_first name (more ++ last ∷ [])) ≡ []
    cases true rest bare = cc
    cases false rest bare = rest bare other

-- what is left after one more open target
nothing_yet : (text : Name → List ℕ) (from : List Name) (named : Bool) → (not (length (map text from) == 0) || named) ≡ false → (from ≡ []) × (named ≡ false)
nothing_yet text [] named e = (refl, e)
nothing_yet text (first ∷ more) named e = absurd (true≢false (sym (ap (λ (b : Bool). not b || named) (eqb-suc-zero (length (map text more)))) ∙ e))

named_now : (text : Name → List ℕ) (from : List Name) (named : Bool) → (not (length (map text from) == 0) || named) ≡ true → from ≡ [] → named ≡ true
named_now text from named e none = subst (λ (names : List Name). (not (length (map text names) == 0) || named) ≡ true) none e

pub pushed_next : (text : Name → List ℕ) (name : Name) (before : List Name) (last : Name) (old new : List (List ℕ)) → old ≡ map text (from_first name before) → (not (length old == 0) || is_same name last) ≡ true
    → new ≡ old ++ text last ∷ [] → new ≡ map text (from_first name (before ++ last ∷ []))
pushed_next text name before last old new held goes pushed =
    let here : (not (length (map text (from_first name before)) == 0) || is_same name last) ≡ true = ap (λ (ts : List (List ℕ)). not (length ts == 0) || is_same name last) (sym held) ∙ goes in
    pushed ∙ ap (λ (ts : List (List ℕ)). ts ++ text last ∷ []) held ∙ sym (map-append text (from_first name before) (last ∷ []))
    ∙ sym (ap (map text) (from_more name before last (named_now text (from_first name before) (is_same name last) here)))

pub passed_next : (text : Name → List ℕ) (name : Name) (before : List Name) (last : Name) (old : List (List ℕ)) → old ≡ map text (from_first name before) → (not (length old == 0) || is_same name last) ≡ false
    → old ≡ map text (from_first name (before ++ last ∷ []))
passed_next text name before last old held stays =
    let here : (not (length (map text (from_first name before)) == 0) || is_same name last) ≡ false = ap (λ (ts : List (List ℕ)). not (length ts == 0) || is_same name last) (sym held) ∙ stays in
    let two = nothing_yet text (from_first name before) (is_same name last) here in
    held ∙ ap (map text) (two.0 ∙ sym (from_none name before last two.0 two.1))

-- the loop over them
pub from_next : (text : Name → List ℕ) (name : Name) (fs : List Frame) (at : ℕ) (f : Frame) (new : List (List ℕ)) → at < length fs → f ≡ get_or fs at f
    → new ≡ map text (from_first name (map (λ k. k.name) (take at fs) ++ f.name ∷ [])) → new ≡ map text (from_first name (map (λ k. k.name) (take (at + 1) fs)))
from_next text name fs at f new inside is h =
    h ∙ ap (λ (names : List Name). map text (from_first name names)) (sym (ap (map (λ (k : Frame). k.name)) (further fs at f inside is) ∙ map-append (λ (k : Frame). k.name) (take at fs) (f ∷ [])))

pub from_all : (text : Name → List ℕ) (name : Name) (fs : List Frame) (at : ℕ) (now : List (List ℕ)) → length fs ≤ at → now ≡ map text (from_first name (map (λ k. k.name) (take at fs)))
    → now ≡ map text (from_first name (map (λ k. k.name) fs))
from_all text name fs at now past h = h ∙ ap (λ (ks : List Frame). map text (from_first name (map (λ k. k.name) ks))) (take_all at fs past)

-- all of it, with the newest
pub cycle_is : (text : Name → List ℕ) (name : Name) (newest : Frame) (fs : List Frame) (now new : List (List ℕ)) → is_among (names_of (newest ∷ reverse fs)) name ≡ true
    → now ≡ map text (from_first name (map (λ k. k.name) fs)) → new ≡ now ++ text newest.name ∷ [] → new ≡ map text (from_first name (names_of (newest ∷ reverse fs)))
cycle_is text name newest fs now new among held pushed =
    let names : names_of (newest ∷ reverse fs) ≡ map (λ k. k.name) fs ++ newest.name ∷ [] = ap (λ (ns : List Name). ns ++ newest.name ∷ []) (names_below fs) in
    let here : is_among (map (λ k. k.name) fs ++ newest.name ∷ []) name ≡ true = ap (λ (ns : List Name). is_among ns name) (sym names) ∙ among in
    pushed ∙ ap (λ (ts : List (List ℕ)). ts ++ text newest.name ∷ []) held ∙ sym (map-append text (from_first name (map (λ k. k.name) fs)) (newest.name ∷ []))
    ∙ sym (ap (map text) (ap (from_first name) names ∙ from_last name (map (λ k. k.name) fs) newest.name here))
