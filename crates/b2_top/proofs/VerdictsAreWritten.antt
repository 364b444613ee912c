-- The verdicts of tests are written line by line, and what is answered then.
use Rattle.std.proofs.Common.{◌≡◌, ℕ, ◌<◌, ◌≤◌, ◌==◌, Bool, true, false, List, [], ◌∷◌, ◌++◌, length, take, get_or, zero, suc, Result, Ok, Err, refl, sym, ap, ap₂, ◌∙◌, subst, arith}
use Rattle.std.proofs.lemmas.Bool.{true≢false}
use Rattle.std.proofs.lemmas.List.{length-map, get_or_default}
use Rattle.std.proofs.lemmas.Slice.Zip.{AllZip-long, get_or-zip}
use Rattle.std.specs.Prelude.{map}
use Rattle.std.specs.List.{zip, flat_map}
use Rattle.b2_host.specs.Output.{Output, with_written}
use Rattle.b2_host.specs.declared.fault.IoFault.{IoFault}
use Rattle.b2_host.specs.declared.fault.IoFault.TheVariants as io
use Rattle.b2_plan.specs.declared.step.Step.{Step}
use Rattle.b2_runs.specs.Reports.{line}
use Rattle.b2_testing.specs.Laws.{IsJudged}
use Rattle.b2_testing.specs.Verdicts.{HasEnded, IsVerdict, ArePassed, verdict_word, verdict_lines}
use Rattle.b2_testing.specs.declared.verdict.Verdict.{Verdict}
use Rattle.b2_testing.specs.declared.verdict.Verdict.TheVariants.{Passed}
use Rattle.b2_update.specs.Answers.{answer_of}
use Rattle.b2_update.specs.declared.update_answer.UpdateAnswer.{UpdateAnswer}
use Rattle.b2_top.specs.Running.{own_answer, WritesVerdicts, TellsVerdicts}
use Rattle.b2_top.specs.Writing.{Writes, unwritten, Says}
use Rattle.b2_top.specs.Writing.Says.{said, failed, stopped}
use Rattle.b2_top.specs.declared.answer.Answer.{Answer}
use Rattle.b2_top.proofs.PiecesWrittenMakeTheWhole.{writes_nothing, list_done}

-- ---- lines

-- the line of a test and its verdict
abbrev pub judged_line : (List ℕ × ℕ) × Verdict → List ℕ
judged_line pair = line (verdict_word pair.1 ++ pair.0.0)

-- those of all tests are the lines of the verdicts
pub judged_lines : (tests : List (List ℕ × ℕ)) (verdicts : List Verdict) → flat_map judged_line (zip tests verdicts) ≡ verdict_lines (zip (map (λ test. test.0) tests) verdicts)
judged_lines [] verdicts = refl
judged_lines (test ∷ tests) [] = refl
judged_lines (test ∷ tests) (verdict ∷ verdicts) = ap (λ lines. line (verdict_word verdict ++ test.0) ++ lines) (judged_lines tests verdicts)

within_zip : (tests : List (List ℕ × ℕ)) (verdicts : List Verdict) (i : ℕ) → i < length tests → i < length verdicts → i < length (zip tests verdicts)
within_zip [] verdicts i h k = h
within_zip (test ∷ tests) [] i h k = k
within_zip (test ∷ tests) (verdict ∷ verdicts) zero h k = omega arith
within_zip (test ∷ tests) (verdict ∷ verdicts) (suc i) h k = let more : i < length (zip tests verdicts) = within_zip tests verdicts i (omega (arith, h)) (omega (arith, k)) in omega (arith, more)

-- a verdict at a place
pub verdict_at : (verdicts : List Verdict) (i : ℕ) (tests : List (List ℕ × ℕ)) → length verdicts ≡ length tests → i < length tests → get_or verdicts i Passed ≡ get_or verdicts i (get_or verdicts i Passed)
verdict_at verdicts i tests same within = get_or_default verdicts i Passed (get_or verdicts i Passed) (omega (arith, same, within))

-- a test and its verdict at a place
pub pair_at : (tests : List (List ℕ × ℕ)) (verdicts : List Verdict) (i : ℕ) (test : List ℕ × ℕ) (verdict : Verdict) → length verdicts ≡ length tests → i < length tests
    → test ≡ get_or tests i test → verdict ≡ get_or verdicts i verdict → (i < length (zip tests verdicts)) × ((test, verdict) ≡ get_or (zip tests verdicts) i (test, verdict))
pair_at tests verdicts i test verdict same within is also =
    let below : i < length verdicts = omega (arith, same, within) in (
      within_zip tests verdicts i within below,
      ap₂ (λ (t : List ℕ × ℕ) (v : Verdict). (t, v)) is also ∙ sym (get_or-zip tests verdicts i (test, verdict) within below),
    )

zip_short : (tests : List (List ℕ × ℕ)) (verdicts : List Verdict) → length (zip tests verdicts) ≤ length tests
zip_short [] verdicts = omega arith
zip_short (test ∷ tests) [] = omega arith
zip_short (test ∷ tests) (verdict ∷ verdicts) = let more : length (zip tests verdicts) ≤ length tests = zip_short tests verdicts in omega (arith, more)

-- all were written
pub all_written : (tests : List (List ℕ × ℕ)) (verdicts : List Verdict) (i : ℕ) (x y : Output) → length tests ≤ i → y ≡ with_written (flat_map judged_line (take i (zip tests verdicts))) x
    → y ≡ with_written (verdict_lines (zip (map (λ test. test.0) tests) verdicts)) x
all_written tests verdicts i x y end p =
    let short : length (zip tests verdicts) ≤ length tests = zip_short tests verdicts in
    list_done judged_line (zip tests verdicts) i x y (omega (arith, end, short)) p ∙ ap (λ lines. with_written lines x) (judged_lines tests verdicts)

-- there are as many verdicts as tests
pub as_many : (steps : List Step) (ended : UpdateAnswer) (tests : List (List ℕ × ℕ)) (verdicts : List Verdict) → ArePassed steps (answer_of ended) (map (λ test. test.1) tests) verdicts
    → length verdicts ≡ length tests
as_many steps ended tests verdicts passed = AllZip-long (IsVerdict steps (answer_of ended)) (map (λ test. test.1) tests) verdicts passed ∙ length-map tests (λ (test : List ℕ × ℕ). test.1)

-- ---- verdicts

-- each step has a verdict where the update came to its end
judge_all : IsJudged → (steps : List Step) (ended : UpdateAnswer) → HasEnded (answer_of ended) → (numbers : List ℕ)
    → (verdicts : List Verdict) × ArePassed steps (answer_of ended) numbers verdicts
judge_all law steps ended has [] = ([], tt)
judge_all law steps ended has (number ∷ numbers) =
    let one = law steps (answer_of ended) number has in
    let more = judge_all law steps ended has numbers in
    (one.0 ∷ more.0, (one.1, more.1))

-- memory ran out before a verdict was written
pub verdicts_short : IsJudged → (steps : List Step) (ended : UpdateAnswer) → HasEnded (answer_of ended) → (tests : List (List ℕ × ℕ)) (out : Output)
    → WritesVerdicts steps ended tests out out (Err io.OutOfMemory)
verdicts_short law steps ended has tests out =
    let all = judge_all law steps ended has (map (λ test. test.1) tests) in
    let lines = verdict_lines (zip (map (λ test. test.0) tests) all.0) in
    (lines, record { verdicts = all.0; passed = all.1; lines_are = refl }, writes_nothing lines out)

-- these verdicts were written
pub verdicts_told : (steps : List Step) (ended : UpdateAnswer) (tests : List (List ℕ × ℕ)) (verdicts : List Verdict) (before after : Output) (result : Result (Unit {0}) IoFault)
    → ArePassed steps (answer_of ended) (map (λ test. test.1) tests) verdicts → Writes (verdict_lines (zip (map (λ test. test.0) tests) verdicts)) before after result
    → WritesVerdicts steps ended tests before after result
verdicts_told steps ended tests verdicts before after result passed writes =
    (verdict_lines (zip (map (λ test. test.0) tests) verdicts), record { verdicts = verdicts; passed = passed; lines_are = refl }, writes)

-- ---- answers

pub none_of : {X : Type 0} (xs : List X) (empty : Bool) → empty ≡ (length xs == 0) → empty ≡ true → xs ≡ []
none_of [] empty e t = refl
none_of (x ∷ xs) empty e t = let same : (length (x ∷ xs) == 0) ≡ true = sym e ∙ t in absurd (grind (arith, same))

pub some_of : {X : Type 0} (xs : List X) (empty : Bool) → empty ≡ (length xs == 0) → empty ≡ false → xs ≡ [] → ⊥
some_of xs empty e f none = true≢false (sym (e ∙ ap (λ ys. length ys == 0) none) ∙ f)

-- what is answered where verdicts were written, or not
abbrev pub AnswersWritten : UpdateAnswer → Result (Unit {0}) IoFault → Answer → Type 0
AnswersWritten ended (Ok v) result = result ≡ own_answer ended
AnswersWritten ended (Err fault) result = result ≡ unwritten fault

module _ (steps : List Step) (ended : UpdateAnswer) (before after : Output) where
  -- no test was asked for
  pub told_none : (tests : List (List ℕ × ℕ)) (result : Answer) → tests ≡ [] → result ≡ own_answer ended → after ≡ before → TellsVerdicts steps tests ended before after result
  told_none tests result none is same = subst (λ (ts : List (List ℕ × ℕ)). TellsVerdicts steps ts ended before after result) (sym none) (is, same)

  -- how the writing of verdicts is answered
  said_so : (lines : List ℕ) (written : Result (Unit {0}) IoFault) → Writes lines before after written → (result : Answer) → AnswersWritten ended written result → Says (own_answer ended) lines before after result
  said_so lines (Ok v) writes result is = said is writes
  said_so lines (Err io.Failed) writes result is = failed is writes
  said_so lines (Err io.OutOfMemory) writes result is = stopped is writes

  pub told_some : (tests : List (List ℕ × ℕ)) (written : Result (Unit {0}) IoFault) → WritesVerdicts steps ended tests before after written → (result : Answer) → AnswersWritten ended written result
      → (tests ≡ [] → ⊥) → TellsVerdicts steps tests ended before after result
  told_some [] written writes result is some_tests = absurd (some_tests refl)
  told_some (test ∷ more) written (lines, are, writes) result is some_tests = (lines, are, said_so lines written writes result is)
