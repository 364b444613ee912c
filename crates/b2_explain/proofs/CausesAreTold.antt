-- Causes by what is known of files: of two paths the one that stands first, and what a record's input and a member at one place tell.
use Rattle.std.proofs.Common.{◌≡◌, ◌⊎◌, inl, inr, ℕ, ◌<◌, ◌≤◌, Bool, true, false, List, length, get_or, slice_get, Option, Some, None, IsTrue, ◌↔◌, sym, ap, subst, ◌∙◌, Less, Equal, Greater, nat_cmp}
use Rattle.std.specs.Prelude.{MatchOption}
use Rattle.std.proofs.lemmas.Option.{slice_get_within, slice_get_past, slice_get-get_or, get_or_from_slice_get}
use Rattle.std.specs.List.{Contains}
use Rattle.std.specs.Cmp.Lexicographic.{slice_cmp}
use Rattle.b2_base.specs.Bytes.{Before}
use Rattle.b2_log.specs.declared.line.Record.{Record}
use Rattle.b2_sched.specs.Schedules.{Schedule, IsSettled}
use Rattle.b2_facts.specs.declared.file_facts.FileFacts.{FileFacts}
use Rattle.b2_facts.specs.Facts.{Knowledge, IsNumber, path_at, file_at}
use Rattle.b2_facts.specs.Asks.{IsNotGivenBy}
use Rattle.b2_facts.proofs.ListsAtPlaces.{some_is, none_some, get_some}
use Rattle.b2_verdicts.specs.declared.step_numbers.StepNumbers.{StepNumbers}
use Rattle.b2_verdicts.specs.Sights.{stamp_of, AreNumbers}
use Rattle.b2_verdicts.proofs.ListsAtPlaces.{index_at}
use Rattle.b2_explain.specs.declared.cause.Cause.{Cause}
use Rattle.b2_explain.specs.declared.cause.Cause.TheVariants as causes
use Rattle.b2_explain.specs.Sights.{IsFirstNumber}
use Rattle.b2_explain.specs.SeenCauses.{IsOutputCause, IsLesserInput, IsInputCause, IsInputCause.both as input_both, IsInputCause.left as input_left, IsInputCause.came as input_came}
use Rattle.b2_explain.proofs.OrderOfPaths.{equal_is, greater_is, not_behind, not_same, equal_not, greater_not}
use Rattle.b2_explain.proofs.FirstMembers.{IsMissingFile, IsUnsettledFile, IsBest, first_number}

-- ---- of two files

pub not_self : (f : Knowledge) (n : ℕ) (one other : List ℕ) → path_at f n ≡ Some one → path_at f n ≡ Some other → Before other one → ⊥
not_self f n one other a b less = not_same other one less (some_is other one (sym b ∙ a))

pub two_less : (f : Knowledge) (number b : ℕ) (p q : List ℕ) → path_at f number ≡ Some p → path_at f b ≡ Some q → slice_cmp nat_cmp p q ≡ Less → (n : ℕ) (one other : List ℕ) → Some b ≡ Some n → path_at f number ≡ Some one → path_at f n ≡ Some other → Before other one → ⊥
two_less f number b p q at_p at_q before n one other e a c less =
    let same : b ≡ n = some_is b n e in
    let p_is : p ≡ one = some_is p one (sym at_p ∙ a) in
    let q_is : q ≡ other = some_is q other (sym at_q ∙ subst (λ k. path_at f k ≡ Some other) (sym same) c) in
    not_behind one other (subst (Before one) q_is (subst (λ x. Before x q) p_is before)) less

pub two_more : (f : Knowledge) (number b : ℕ) (p q : List ℕ) → path_at f number ≡ Some p → path_at f b ≡ Some q → (slice_cmp nat_cmp p q ≡ Equal) ⊎ (slice_cmp nat_cmp p q ≡ Greater) → (one other : List ℕ) → path_at f b ≡ Some one → path_at f number ≡ Some other → Before other one → ⊥
two_more f number b p q at_p at_q is one other a c less =
    let q_is : one ≡ q = some_is one q (sym a ∙ at_q) in
    let p_is : other ≡ p = some_is other p (sym c ∙ at_p) in
    let before : Before p q = subst (Before p) q_is (subst (λ x. Before x one) p_is less) in
    elim is [ inl e ↦ equal_not p q e before | inr e ↦ greater_not p q e before ]

-- ---- the first member

pub not_missing : (f : Knowledge) (n : ℕ) (file : FileFacts) (r : Bool) → file_at f n ≡ Some file → IsTrue r ↔ IsNotGivenBy file → r ≡ false → IsMissingFile f n → ⊥
not_missing f n file r at is off (other, other_at, gone) = (let e : true ≡ false = sym (is.1 (subst IsNotGivenBy (some_is other file (sym other_at ∙ at)) gone)) ∙ off in cc)

pub not_unsettled : (s : Schedule) (f : Knowledge) (n : ℕ) (file : FileFacts) (r : Bool) → file_at f n ≡ Some file → IsTrue r ↔ ((maker : ℕ) × (file.maker ≡ Some maker) × (IsSettled s maker → ⊥)) → r ≡ false → IsUnsettledFile s f n → ⊥
not_unsettled s f n file r at is off (other, other_at, (maker, made, unsettled)) =
    let same : other ≡ file = some_is other file (sym other_at ∙ at) in
    (let e : true ≡ false = sym (is.1 (maker, ap (λ (x : FileFacts). x.maker) (sym same) ∙ made, unsettled)) ∙ off in cc)

-- the first of all that have the property is told
pub best_told : (f : Knowledge) (P Q : ℕ → Type 0) (ns : List ℕ) (best : Option ℕ) → ((n : ℕ) → Q n → Contains ns n × P n) → ((n : ℕ) → Contains ns n → P n → Q n) → IsBest f P ns best → MatchOption best ((n : ℕ) → Q n → ⊥) (λ n. IsNumber f n × IsFirstNumber f Q n)
best_told f P Q ns None parts whole best = λ n has. best n (parts n has).0 (parts n has).1
best_told f P Q ns (Some n) parts whole best = (best.number, first_number f P Q ns n parts whole best)

-- ---- what stands at a place

-- what a list that was handed out has at a place
pub given_there : {X : Type 0} (xs given : List X) (place : ℕ) (one : X) → given ≡ xs → place < length given → one ≡ get_or given place one → slice_get xs place ≡ Some one
given_there xs given place one e low at = subst (λ l. slice_get l place ≡ Some one) e (slice_get-get_or given place one low ∙ ap Some (sym at))

pub given_past : {X : Type 0} (xs given : List X) (place : ℕ) → given ≡ xs → length given ≤ place → slice_get xs place ≡ None
given_past xs given place e past = subst (λ l. slice_get l place ≡ None) e (slice_get_past given place past)

-- a number there is that of a file
pub number_there : (f : Knowledge) (ns : List ℕ) (place n : ℕ) → AreNumbers f ns → slice_get ns place ≡ Some n → IsNumber f n
number_there f ns place n numbers at = subst (IsNumber f) (get_or_from_slice_get ns place n 0 at) (numbers place (slice_get_within ns place n at))

-- ---- an output

pub output_told : (numbers : StepNumbers) (f : Knowledge) (r : Record) (place : ℕ) (path : List ℕ) (one : List ℕ × ℕ) (now : ℕ) (cause : Cause) → place < length numbers.outs → slice_get r.outs place ≡ Some one → ((other : List ℕ × ℕ) → slice_get r.outs place ≡ Some other → path_at f (get_or numbers.outs place 0) ≡ Some other.0)
    → path_at f (get_or numbers.outs place 0) ≡ Some path → stamp_of f (get_or numbers.outs place 0) ≡ Some now → cause ≡ causes.OtherOutput path one.1 now → IsOutputCause numbers f r place cause
output_told numbers f r place path one now cause low at named path_is stamp_is told =
    let same : one.0 ≡ path = some_is one.0 path (sym (named one at) ∙ path_is) in
    record {
      path = path;
      logged = one.1;
      logged_is = at ∙ ap (λ p. Some (p, one.1)) same;
      now = now;
      now_is = record { within = low; path_is = path_is; stamp_is = stamp_is };
      told = told;
    }

-- ---- an input

pub lesser_same : (f : Knowledge) (number : ℕ) (path q : List ℕ) (logged : ℕ) (cause : Cause) → path_at f number ≡ Some q → slice_cmp nat_cmp path q ≡ Equal → ((p : List ℕ) → path_at f number ≡ Some p → cause ≡ causes.OtherInput p (Some logged) (stamp_of f number)) → IsLesserInput f number path logged cause
lesser_same f number path q logged cause at_q e told other at =
    let same : path ≡ other = equal_is path q e ∙ some_is q other (sym at_q ∙ at) in
    inl (same, subst (λ p. cause ≡ causes.OtherInput p (Some logged) (stamp_of f number)) (sym same) (told other at))

pub lesser_member : (f : Knowledge) (number : ℕ) (path q : List ℕ) (logged : ℕ) (cause : Cause) → path_at f number ≡ Some q → slice_cmp nat_cmp path q ≡ Greater → ((p : List ℕ) → path_at f number ≡ Some p → cause ≡ causes.OtherInput p None (stamp_of f number)) → IsLesserInput f number path logged cause
lesser_member f number path q logged cause at_q e told other at =
    let same : q ≡ other = some_is q other (sym at_q ∙ at) in
    inr (inr (subst (λ p. Before p path) same (greater_is path q e), told other at))

module _ (f : Knowledge) (ins : List ℕ) (r : Record) (place : ℕ) (cause : Cause) where
  -- the record has an input there, and no member is there
  pub input_alone : (path : List ℕ) (logged : ℕ) → slice_get r.ins place ≡ Some (path, logged) → slice_get ins place ≡ None → cause ≡ causes.OtherInput path (Some logged) None → IsInputCause f ins r place cause
  input_alone path logged at none told = input_left path logged at (λ other low there. absurd (none_some (get_or ins place 0) (sym none ∙ index_at ins place low))) told

  -- a member is there, and the record has no input there
  pub member_alone : (number : ℕ) → IsNumber f number → slice_get r.ins place ≡ None → slice_get ins place ≡ Some number → ((p : List ℕ) → path_at f number ≡ Some p → cause ≡ causes.OtherInput p None (stamp_of f number)) → IsInputCause f ins r place cause
  member_alone number numbered none at told =
      let low = slice_get_within ins place number at in
      let same : number ≡ get_or ins place 0 = some_is number (get_or ins place 0) (sym at ∙ index_at ins place low) in
      let (path, path_is) = get_some f.paths number numbered.0 in
      input_came path low (subst (λ n. path_at f n ≡ Some path) same path_is) (λ other logged there. absurd (none_some (other, logged) (sym none ∙ there))) (subst (λ n. cause ≡ causes.OtherInput path None (stamp_of f n)) same (told path path_is))

  -- both are there
  pub input_and_member : (path : List ℕ) (logged number : ℕ) → IsNumber f number → slice_get r.ins place ≡ Some (path, logged) → slice_get ins place ≡ Some number → IsLesserInput f number path logged cause → IsInputCause f ins r place cause
  input_and_member path logged number numbered at at_member lesser =
      let low = slice_get_within ins place number at_member in
      let same : number ≡ get_or ins place 0 = some_is number (get_or ins place 0) (sym at_member ∙ index_at ins place low) in
      let (own, own_is) = get_some f.paths number numbered.0 in
      let here : path_at f (get_or ins place 0) ≡ Some own = subst (λ n. path_at f n ≡ Some own) same own_is in
      elim (lesser own own_is) [
        | inl (e, told) ↦ input_both path logged at low (here ∙ ap Some (sym e)) (subst (λ n. cause ≡ causes.OtherInput path (Some logged) (stamp_of f n)) same told)
        | inr (inl (before, told)) ↦ input_left path logged at (λ other within there. subst (Before path) (some_is own other (sym here ∙ there)) before) told
        | inr (inr (before, told)) ↦ input_came own low here (λ other stamp there. subst (λ (x : List ℕ × ℕ). Before own x.0) (some_is (path, logged) (other, stamp) (sym at ∙ there)) before) (subst (λ n. cause ≡ causes.OtherInput own None (stamp_of f n)) same told)
      ]
