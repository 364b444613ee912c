-- A claimed cause, row by row, where the rows before it do not hold.
use Rattle.std.proofs.Common.{◌≡◌, ◌↔◌, inl, inr, ℕ, Bool, true, false, List, get_or, Option, Some, None, IsTrue, refl, sym, ap, subst, ◌∙◌, arith}
use Rattle.std.proofs.lemmas.Bool.{cases_lt}
use Rattle.b2_plan.specs.declared.step.Step.{Step}
use Rattle.b2_log.specs.declared.line.Record.{Record}
use Rattle.b2_facts.specs.Facts.{Knowledge, path_at}
use Rattle.b2_facts.proofs.ListsAtPlaces.{some_is}
use Rattle.b2_verdicts.specs.declared.step_numbers.StepNumbers.{StepNumbers}
use Rattle.b2_verdicts.specs.Sights.{AllStand, stamp_of}
use Rattle.b2_verdicts.specs.Stamps.{IsFirstNewer, IsFirstOlder, IsNotOlder, NoneOlder}
use Rattle.b2_verdicts.specs.Points.{IsOrdinary}
use Rattle.b2_explain.specs.declared.cause.Cause.{Cause}
use Rattle.b2_explain.specs.declared.cause.Cause.TheVariants as causes
use Rattle.b2_explain.specs.Checks.{IsFirstOlderOf, IsOlderPair, IsStampCause, IsRecordCause, IsLogCause, IsMemberCause, IsFileCause, IsClosedCause}
use Rattle.b2_explain.specs.SeenCauses.{TellsOlder}

-- ---- of two tests

pub not_so : {A : Type 0} → (A → ⊥) → IsTrue false ↔ A
not_so not = (λ t. absurd (let e : false ≡ true = t in cc), λ a. absurd (not a))

-- the first test fails
pub first_fails : (P Q : Type 0) (a : Bool) → a ≡ false → IsTrue a ↔ P → IsTrue a ↔ (P × Q)
first_fails P Q a off is = (λ t. absurd (let e : true ≡ false = sym t ∙ off in cc), λ both. is.1 both.0)

-- the second one decides
pub second_decides : (P Q : Type 0) (a b : Bool) → a ≡ true → IsTrue a ↔ P → IsTrue b ↔ Q → IsTrue b ↔ (P × Q)
second_decides P Q a b on is told = (λ t. (is.0 on, told.0 t), λ both. told.1 both.1)

-- the same of another statement
pub as_other : (A B : Type 0) (r : Bool) → A ↔ B → IsTrue r ↔ A → IsTrue r ↔ B
as_other A B r same is = (λ t. same.0 (is.0 t), λ b. is.1 (same.1 b))

-- ---- the row of stamps

module _ (f : Knowledge) (numbers : StepNumbers) (r : Record) where
  -- no other cause is one of this row
  pub stamp_not : (cause : Cause) → ((path : List ℕ) (logged now : ℕ) → cause ≡ causes.OtherOutput path logged now → ⊥) → ((path : List ℕ) (logged now : Option ℕ) → cause ≡ causes.OtherInput path logged now → ⊥) → (cause ≡ causes.Fresh → ⊥) → IsTrue false ↔ IsStampCause f numbers r cause
  stamp_not (causes.OtherOutput path logged now) output input fresh = absurd (output path logged now refl)
  stamp_not (causes.OtherInput path logged now) output input fresh = absurd (input path logged now refl)
  stamp_not causes.Fresh output input fresh = absurd (fresh refl)
  stamp_not (causes.Lacks path) output input fresh = not_so (λ a. a)
  stamp_not (causes.Waits path) output input fresh = not_so (λ a. a)
  stamp_not causes.All output input fresh = not_so (λ a. a)
  stamp_not causes.Always output input fresh = not_so (λ a. a)
  stamp_not causes.NotFile output input fresh = not_so (λ a. a)
  stamp_not (causes.NoOutput path) output input fresh = not_so (λ a. a)
  stamp_not (causes.Older out out_stamp member member_stamp) output input fresh = not_so (λ a. a)
  stamp_not causes.NoRecord output input fresh = not_so (λ a. a)
  stamp_not (causes.OtherText logged) output input fresh = not_so (λ a. a)

-- ---- the row of the text

module _ (f : Knowledge) (step : Step) (numbers : StepNumbers) (r : Record) where
  -- of any other cause the record has the step's text, and the next row decides
  pub record_next : (cause : Cause) → ((logged : List ℕ) → cause ≡ causes.OtherText logged → ⊥) → ((r.text ≡ step.text) × IsStampCause f numbers r cause) ↔ IsRecordCause f step numbers r cause
  record_next (causes.OtherText logged) other = absurd (other logged refl)
  record_next (causes.OtherOutput path logged now) other = (λ a. a, λ a. a)
  record_next (causes.OtherInput path logged now) other = (λ a. a, λ a. a)
  record_next causes.Fresh other = (λ a. a, λ a. a)
  record_next (causes.Lacks path) other = (λ a. a, λ a. a)
  record_next (causes.Waits path) other = (λ a. a, λ a. a)
  record_next causes.All other = (λ a. a, λ a. a)
  record_next causes.Always other = (λ a. a, λ a. a)
  record_next causes.NotFile other = (λ a. a, λ a. a)
  record_next (causes.NoOutput path) other = (λ a. a, λ a. a)
  record_next (causes.Older out out_stamp member member_stamp) other = (λ a. a, λ a. a)
  record_next causes.NoRecord other = (λ a. a, λ a. a)

-- an older output is no cause of the rows that tell of records
older_not_logged : (f : Knowledge) (step : Step) (numbers : StepNumbers) (last : Option Record) (out member : List ℕ) (a b : ℕ) → IsLogCause f step numbers last (causes.Older out a member b) → ⊥
older_not_logged f step numbers None out member a b is = (let e : causes.Older out a member b ≡ causes.NoRecord = is in cc)
older_not_logged f step numbers (Some r) out member a b is = is.1

-- ---- the row of an older output

module _ (f : Knowledge) (outs ins : List ℕ) where
  newer_one : (stamp a b : ℕ) → IsFirstNewer f stamp ins a → IsFirstNewer f stamp ins b → a ≡ b
  newer_one stamp a b one other = elim (cases_lt a b) [
    | inl less ↦ absurd (let (read, at, more) = one.newer in let not = other.others a less read at in omega (arith, more, not))
    | inr past ↦ elim (cases_lt b a) [
      | inl less ↦ absurd (let (read, at, more) = other.newer in let not = one.others b less read at in omega (arith, more, not))
      | inr also ↦ omega (arith, past, also)
    ]
  ]

  -- an output that is older than a member is not one that is not
  older_so : {A : Type 0} (out member : ℕ) → IsFirstOlder f outs ins out member → IsNotOlder f ins (get_or outs out 0) → A
  older_so out member first not =
      let (read, at, more) = first.newer.newer in
      let least = not first.written first.written_is member first.newer.within read at in
      absurd (omega (arith, more, least))

  older_out : (out member a b : ℕ) → IsFirstOlder f outs ins out member → IsFirstOlder f outs ins a b → out ≡ a
  older_out out member a b one other = elim (cases_lt out a) [
    | inl less ↦ older_so out member one (other.others out less)
    | inr past ↦ elim (cases_lt a out) [
      | inl less ↦ older_so a b other (one.others a less)
      | inr also ↦ omega (arith, past, also)
    ]
  ]

  older_member : (out member b : ℕ) → IsFirstOlder f outs ins out member → IsFirstOlder f outs ins out b → member ≡ b
  older_member out member b one other = newer_one one.written member b one.newer (subst (λ (s : ℕ). IsFirstNewer f s ins b) (some_is other.written one.written (sym other.written_is ∙ one.written_is)) other.newer)

  older_none : {A : Type 0} (out member : ℕ) → IsFirstOlder f outs ins out member → NoneOlder f outs ins → A
  older_none out member first none = older_so out member first (none out first.within)

module _ (f : Knowledge) (step : Step) (numbers : StepNumbers) (last : Option Record) where
  -- an output is older than a member: only a cause that tells this is right
  pub member_older : (first newer : ℕ) (r : Bool) (cause : Cause) → IsFirstOlderOf f numbers.outs numbers.ins (Some (first, newer)) → IsTrue r ↔ TellsOlder f first newer cause → IsTrue r ↔ IsMemberCause f step numbers last cause
  member_older first newer r cause (out, member, older, out_is, member_is) = go cause
    where
      others : {A : Type 0} → IsTrue r ↔ ⊥ → IsTrue r ↔ (NoneOlder f numbers.outs numbers.ins × A)
      others is = (λ t. absurd (is.0 t), λ both. older_none f numbers.outs numbers.ins out member older both.0)

      go : (c : Cause) → IsTrue r ↔ TellsOlder f first newer c → IsTrue r ↔ IsMemberCause f step numbers last c
      go (causes.Older out_path out_stamp member_path member_stamp) is = (
        λ t. (let ((a, b), (c, d)) = is.0 t in (
          out,
          member,
          older,
          record { within = older.within; path_is = subst (λ n. path_at f n ≡ Some out_path) (sym out_is) a; stamp_is = subst (λ n. stamp_of f n ≡ Some out_stamp) (sym out_is) b },
          record { within = older.newer.within; path_is = subst (λ n. path_at f n ≡ Some member_path) (sym member_is) c; stamp_is = subst (λ n. stamp_of f n ≡ Some member_stamp) (sym member_is) d },
        )),
        λ told. back told,
      )
        where
          back : IsOlderPair f numbers out_path out_stamp member_path member_stamp → r ≡ true
          back (k, m, own, out_seen, member_seen) =
              let same_out : k ≡ out = older_out f numbers.outs numbers.ins k m out member own older in
              let same_member : m ≡ member = older_member f numbers.outs numbers.ins out m member (subst (λ (n : ℕ). IsFirstOlder f numbers.outs numbers.ins n m) same_out own) older in
              let out_n : get_or numbers.outs k 0 ≡ first = ap (λ (n : ℕ). get_or numbers.outs n 0) same_out ∙ out_is in
              let member_n : get_or numbers.ins m 0 ≡ newer = ap (λ (n : ℕ). get_or numbers.ins n 0) same_member ∙ member_is in
              is.1 (
                (subst (λ n. path_at f n ≡ Some out_path) out_n out_seen.path_is, subst (λ n. stamp_of f n ≡ Some out_stamp) out_n out_seen.stamp_is),
                (subst (λ n. path_at f n ≡ Some member_path) member_n member_seen.path_is, subst (λ n. stamp_of f n ≡ Some member_stamp) member_n member_seen.stamp_is),
              )
      go (causes.OtherText logged) is = others is
      go (causes.OtherOutput path logged now) is = others is
      go (causes.OtherInput path logged now) is = others is
      go causes.Fresh is = others is
      go (causes.Lacks path) is = others is
      go (causes.Waits path) is = others is
      go causes.All is = others is
      go causes.Always is = others is
      go causes.NotFile is = others is
      go (causes.NoOutput path) is = others is
      go causes.NoRecord is = others is

  -- no output is: the next row decides
  pub member_next : (r : Bool) (cause : Cause) → NoneOlder f numbers.outs numbers.ins → IsTrue r ↔ IsLogCause f step numbers last cause → IsTrue r ↔ IsMemberCause f step numbers last cause
  member_next r cause none = go cause
    where
      others : {A : Type 0} → IsTrue r ↔ A → IsTrue r ↔ (NoneOlder f numbers.outs numbers.ins × A)
      others is = (λ t. (none, is.0 t), λ both. is.1 both.1)

      go : (c : Cause) → IsTrue r ↔ IsLogCause f step numbers last c → IsTrue r ↔ IsMemberCause f step numbers last c
      go (causes.Older out out_stamp member member_stamp) is = (
        λ t. absurd (older_not_logged f step numbers last out member out_stamp member_stamp (is.0 t)),
        λ (k, m, own, out_seen, member_seen). older_none f numbers.outs numbers.ins k m own none,
      )
      go (causes.OtherText logged) is = others is
      go (causes.OtherOutput path logged now) is = others is
      go (causes.OtherInput path logged now) is = others is
      go causes.Fresh is = others is
      go (causes.Lacks path) is = others is
      go (causes.Waits path) is = others is
      go causes.All is = others is
      go causes.Always is = others is
      go causes.NotFile is = others is
      go (causes.NoOutput path) is = others is
      go causes.NoRecord is = others is

  -- ---- the row of a missing output

  -- of any other cause all outputs stand, and the next row decides
  pub file_next : (cause : Cause) → ((path : List ℕ) → cause ≡ causes.NoOutput path → ⊥) → (AllStand f numbers.outs × IsMemberCause f step numbers last cause) ↔ IsFileCause f step numbers last cause
  file_next (causes.NoOutput path) other = absurd (other path refl)
  file_next (causes.Older out out_stamp member member_stamp) other = (λ a. a, λ a. a)
  file_next (causes.OtherText logged) other = (λ a. a, λ a. a)
  file_next (causes.OtherOutput path logged now) other = (λ a. a, λ a. a)
  file_next (causes.OtherInput path logged now) other = (λ a. a, λ a. a)
  file_next causes.Fresh other = (λ a. a, λ a. a)
  file_next (causes.Lacks path) other = (λ a. a, λ a. a)
  file_next (causes.Waits path) other = (λ a. a, λ a. a)
  file_next causes.All other = (λ a. a, λ a. a)
  file_next causes.Always other = (λ a. a, λ a. a)
  file_next causes.NotFile other = (λ a. a, λ a. a)
  file_next causes.NoRecord other = (λ a. a, λ a. a)

  -- of any other cause the step is ordinary, and the next row decides
  pub closed_next : (all : Bool) (cause : Cause) → ((path : List ℕ) → cause ≡ causes.Lacks path → ⊥) → ((path : List ℕ) → cause ≡ causes.Waits path → ⊥) → (cause ≡ causes.All → ⊥) → (cause ≡ causes.Always → ⊥) → (cause ≡ causes.NotFile → ⊥)
      → (IsOrdinary all step × IsFileCause f step numbers last cause) ↔ IsClosedCause all f step numbers last cause
  closed_next all (causes.Lacks path) lacks waits runs always notfile = absurd (lacks path refl)
  closed_next all (causes.Waits path) lacks waits runs always notfile = absurd (waits path refl)
  closed_next all causes.All lacks waits runs always notfile = absurd (runs refl)
  closed_next all causes.Always lacks waits runs always notfile = absurd (always refl)
  closed_next all causes.NotFile lacks waits runs always notfile = absurd (notfile refl)
  closed_next all (causes.NoOutput path) lacks waits runs always notfile = (λ a. a, λ a. a)
  closed_next all (causes.Older out out_stamp member member_stamp) lacks waits runs always notfile = (λ a. a, λ a. a)
  closed_next all (causes.OtherText logged) lacks waits runs always notfile = (λ a. a, λ a. a)
  closed_next all (causes.OtherOutput path logged now) lacks waits runs always notfile = (λ a. a, λ a. a)
  closed_next all (causes.OtherInput path logged now) lacks waits runs always notfile = (λ a. a, λ a. a)
  closed_next all causes.Fresh lacks waits runs always notfile = (λ a. a, λ a. a)
  closed_next all causes.NoRecord lacks waits runs always notfile = (λ a. a, λ a. a)
