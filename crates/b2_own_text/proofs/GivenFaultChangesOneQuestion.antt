-- Which question is this one, and what it ends with where a fault of one question is given.
use Rattle.std.proofs.Common.{◌≡◌, ℕ, Bool, true, false, ◌&&◌, ◌==◌, cond, List, Err, refl, sym, ap, ◌∙◌}
use Rattle.std.specs.Bool.{Decides}
use Rattle.std.specs.Cmp.{unsigned_Decides}
use Rattle.std.specs.Cmp.Lexicographic.{pointwise}
use Rattle.std.specs.Prelude.{◌≢◌, ◌↔◌}
use Rattle.std.specs.Str.{bytes_eq}
use Rattle.std.proofs.lemmas.Bool.Decides.{Decides-and, Decides-like}
use Rattle.std.proofs.lemmas.Slice.Eq.{bytes_eq-Decides, slice_eq-Decides}
use Rattle.b2_evaluator.specs.Answers.{Answers}
use Rattle.jam_journal.specs.Tables.{Text}
use Rattle.jam_meaning.specs.StepJobs.{job_of}
use Rattle.jam_meaning.specs.declared.step.StepJob.{StepJob}
use Rattle.jam_effects.specs.declared.fault.EvalFault.{EvalFault}
use Rattle.b2_own_text.specs.Questions.{EndsWith, is_rule, is_same_job, with_fault}
use Rattle.b2_own_text.specs.declared.question.Question.{Question}
use Rattle.b2_own_text.specs.declared.question.Question.TheVariants.{OfRule, OfStep}

-- ---- the tests are exact

texts_decide : (a b : List Text) → Decides (pointwise bytes_eq a b) (a ≡ b)
texts_decide a b = slice_eq-Decides bytes_eq-Decides a b (pointwise bytes_eq a b) refl

-- the parts of two questions are equal
abbrev IsSameRule : (project : ℕ) (rule : Text) (line : ℕ) (properties : List Text) (other : ℕ) (name : Text) (place : ℕ) (texts : List Text) → Type 0
IsSameRule project rule line properties other name place texts = (((other ≡ project) × (name ≡ rule)) × (place ≡ line)) × (texts ≡ properties)

abbrev IsSameJob : StepJob → StepJob → Type 0
IsSameJob a b =
    ((((((a.name ≡ b.name) × (a.«module» ≡ b.«module»)) × (a.path ≡ b.path)) × (a.line ≡ b.line)) × (a.outs ≡ b.outs)) × (a.ins ≡ b.ins)) × (a.props ≡ b.props)

same_rule : (project : ℕ) (rule : Text) (line : ℕ) (properties : List Text) (other : ℕ) (name : Text) (place : ℕ) (texts : List Text)
    → IsSameRule project rule line properties other name place texts → OfRule other name place texts ≡ OfRule project rule line properties
same_rule project rule line properties other name place texts h =
    let a : other ≡ project = h.0.0.0 in let b : name ≡ rule = h.0.0.1 in let c : place ≡ line = h.0.1 in let d : texts ≡ properties = h.1 in cc

rule_parts : (project : ℕ) (rule : Text) (line : ℕ) (properties : List Text) (other : ℕ) (name : Text) (place : ℕ) (texts : List Text)
    → OfRule other name place texts ≡ OfRule project rule line properties → IsSameRule project rule line properties other name place texts
rule_parts project rule line properties other name place texts e =
    let a : other ≡ project = cc in let b : name ≡ rule = cc in let c : place ≡ line = cc in let d : texts ≡ properties = cc in (((a, b), c), d)

rule_decides : (project : ℕ) (rule : Text) (line : ℕ) (properties : List Text) (other : ℕ) (name : Text) (place : ℕ) (texts : List Text)
    → Decides (is_rule (OfRule project rule line properties) other name place texts) (OfRule other name place texts ≡ OfRule project rule line properties)
rule_decides project rule line properties other name place texts =
    let two = Decides-and (other == project) (bytes_eq name rule) (unsigned_Decides other project) (bytes_eq-Decides name rule) in
    let three = Decides-and (other == project && bytes_eq name rule) (place == line) two (unsigned_Decides place line) in
    Decides-like (is_rule (OfRule project rule line properties) other name place texts) (same_rule project rule line properties other name place texts) (rule_parts project rule line properties other name place texts)
    (Decides-and (other == project && bytes_eq name rule && place == line) (pointwise bytes_eq texts properties) three (texts_decide texts properties))

job : (name owner path : Text) (line : ℕ) (outs ins props : List Text) → StepJob
job name owner path line outs ins props = record { name = name; «module» = owner; path = path; line = line; outs = outs; ins = ins; props = props }

same_job : (a b : StepJob) → IsSameJob a b → OfStep a ≡ OfStep b
unfolding job
same_job a b h =
    ap (λ x. OfStep (job x a.«module» a.path a.line a.outs a.ins a.props)) h.0.0.0.0.0.0
    ∙ ap (λ x. OfStep (job b.name x a.path a.line a.outs a.ins a.props)) h.0.0.0.0.0.1
    ∙ ap (λ x. OfStep (job b.name b.«module» x a.line a.outs a.ins a.props)) h.0.0.0.0.1
    ∙ ap (λ x. OfStep (job b.name b.«module» b.path x a.outs a.ins a.props)) h.0.0.0.1
    ∙ ap (λ x. OfStep (job b.name b.«module» b.path b.line x a.ins a.props)) h.0.0.1
    ∙ ap (λ x. OfStep (job b.name b.«module» b.path b.line b.outs x a.props)) h.0.1
    ∙ ap (λ x. OfStep (job b.name b.«module» b.path b.line b.outs b.ins x)) h.1

job_parts : (a b : StepJob) → OfStep a ≡ OfStep b → IsSameJob a b
job_parts a b e =
    let same : a ≡ b = cc in (
      ((((((ap (λ j. j.name) same, ap (λ j. j.«module») same), ap (λ j. j.path) same), ap (λ j. j.line) same), ap (λ j. j.outs) same), ap (λ j. j.ins) same)),
      ap (λ j. j.props) same,
    )

step_decides : (a b : StepJob) → Decides (is_same_job (job_of a) (job_of b)) (OfStep a ≡ OfStep b)
step_decides a b =
    let two = Decides-and (bytes_eq a.name b.name) (bytes_eq a.«module» b.«module») (bytes_eq-Decides a.name b.name) (bytes_eq-Decides a.«module» b.«module») in
    let three = Decides-and (bytes_eq a.name b.name && bytes_eq a.«module» b.«module») (bytes_eq a.path b.path) two (bytes_eq-Decides a.path b.path) in
    let four = Decides-and (bytes_eq a.name b.name && bytes_eq a.«module» b.«module» && bytes_eq a.path b.path) (a.line == b.line) three (unsigned_Decides a.line b.line) in
    let five = Decides-and _ (pointwise bytes_eq a.outs b.outs) four (texts_decide a.outs b.outs) in
    let six = Decides-and _ (pointwise bytes_eq a.ins b.ins) five (texts_decide a.ins b.ins) in
    Decides-like (is_same_job (job_of a) (job_of b)) (same_job a b) (job_parts a b) (Decides-and _ (pointwise bytes_eq a.props b.props) six (texts_decide a.props b.props))

-- ---- what a question ends with

there : {A : Type 0} (test : Bool) (given before : A) → test ≡ true → cond test given before ≡ given
there true given before e = refl
there false given before e = absurd (let clash : false ≡ true = e in cc)

elsewhere : {A : Type 0} (test : Bool) (given before : A) → (test ≡ true → ⊥) → cond test given before ≡ before
elsewhere true given before never = absurd (never refl)
elsewhere false given before never = refl

as_before : {A : Type 0} (new old found : A) → new ≡ old → (new ≡ found) ↔ (old ≡ found)
as_before new old found same = (λ e. sym same ∙ e, λ e. same ∙ e)

pub own_ends : (question : Question) (fault : EvalFault) (answers : Answers EvalFault) → EndsWith (with_fault question fault answers) question fault
own_ends (OfRule project rule line properties) fault answers =
    there (is_rule (OfRule project rule line properties) project rule line properties) (Err fault) (answers.returned project rule line properties)
    ((rule_decides project rule line properties project rule line properties).1 refl)
own_ends (OfStep job) fault answers = there (is_same_job (job_of job) (job_of job)) (Err fault) (answers.step_text (job_of job)) ((step_decides job job).1 refl)

pub other_ends : (question other : Question) (fault found : EvalFault) (answers : Answers EvalFault) → other ≢ question
    → EndsWith (with_fault question fault answers) other found ↔ EndsWith answers other found
other_ends (OfRule project rule line properties) (OfRule other name place texts) fault found answers apart =
    as_before (cond (is_rule (OfRule project rule line properties) other name place texts) (Err fault) (answers.returned other name place texts)) (answers.returned other name place texts) (Err found)
    (elsewhere (is_rule (OfRule project rule line properties) other name place texts) (Err fault) (answers.returned other name place texts)
    (λ e. apart ((rule_decides project rule line properties other name place texts).0 e)))
other_ends (OfRule project rule line properties) (OfStep job) fault found answers apart = (λ e. e, λ e. e)
other_ends (OfStep job) (OfRule other name place texts) fault found answers apart = (λ e. e, λ e. e)
other_ends (OfStep job) (OfStep other) fault found answers apart =
    as_before (cond (is_same_job (job_of other) (job_of job)) (Err fault) (answers.step_text (job_of other))) (answers.step_text (job_of other)) (Err found)
    (elsewhere (is_same_job (job_of other) (job_of job)) (Err fault) (answers.step_text (job_of other)) (λ e. apart ((step_decides other job).0 e)))
