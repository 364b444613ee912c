-- What acts give, one after another.
use Rattle.std.proofs.Common.{◌≡◌, ℕ, ◌<◌, ◌≤◌, ◌+◌, Bool, List, [], ◌∷◌, ◌++◌, Result, Ok, Err, IfOk, IfErr, drop, get_or, length, refl, sym, ◌∙◌, ap, subst, append_assoc}
use Rattle.std.proofs.lemmas.List.{append-nil, drop_more, at_drop_all}
use Rattle.b2_plan.specs.declared.step.Step.{Step}
use Rattle.b2_making.specs.declared.fault.MakingFault.{MakingFault}
use Rattle.b2_making.specs.declared.fault.MakingFault.TheVariants.{NoChain, TwoChains, PathClash, LocationOutside, TooManySteps, Eval, OutOfMemory}
use Rattle.b2_making.specs.Faults.{Fault, no_chain, two_chains, path_clash, location_outside, too_many_steps, eval}
use Rattle.b2_making.specs.Acts.{Outcome, Act, and_then, for_each, for_all}
use Rattle.b2_making.specs.Answers.{IsRefused, IsDone}

-- ---- one act and then another

-- a refusal of one act is one of another, where each of its refusals is
pub refused_map : {E A B : Type 0} (is_host is_memory : E → Bool) (act : Act E A) (other : Act E B) (before start : List Step) (f : MakingFault E)
    → ((fault : Fault E) → act before (Err fault) → other start (Err fault)) → IsRefused is_host is_memory act before f → IsRefused is_host is_memory other start f
refused_map is_host is_memory act other before start (NoChain from to) goes r = goes (no_chain from to) r
refused_map is_host is_memory act other before start (TwoChains from to one two) goes r = goes (two_chains from to one two) r
refused_map is_host is_memory act other before start (PathClash path) goes r = goes (path_clash path) r
refused_map is_host is_memory act other before start (LocationOutside path) goes r = goes (location_outside path) r
refused_map is_host is_memory act other before start (TooManySteps count) goes r = goes (too_many_steps count) r
refused_map is_host is_memory act other before start (Eval why) goes r = λ tellable. goes (eval why) (r tellable)
refused_map is_host is_memory act other before start OutOfMemory goes r = tt

pub refused_first : {E A B : Type 0} (is_host is_memory : E → Bool) (act : Act E A) (next : A → Act E B) (before : List Step) (f : MakingFault E)
    → IsRefused is_host is_memory act before f → IsRefused is_host is_memory (and_then act next) before f
refused_first is_host is_memory act next before f r = refused_map is_host is_memory act (and_then act next) before before f (λ fault is. (Err fault, is, refl)) r

pub done_then : {E A B : Type 0} (is_host is_memory : E → Bool) (act : Act E A) (next : A → Act E B) (before mid after : List Step) (value : A) (r : Result B (MakingFault E))
    → act before (Ok (value, mid)) → IsDone is_host is_memory (next value) mid after r → IsDone is_host is_memory (and_then act next) before after r
done_then is_host is_memory act next before mid after value (Ok given) first is = (Ok (value, mid), first, is)
done_then is_host is_memory act next before mid after value (Err f) first is =
    refused_map is_host is_memory (next value) (and_then act next) mid before f (λ fault refused. (Ok (value, mid), first, refused)) is

pub done_map : {E A : Type 0} (is_host is_memory : E → Bool) (act other : Act E A) (before after start : List Step) (r : Result A (MakingFault E))
    → ((outcome : Outcome E A) → act before outcome → other start outcome) → IsDone is_host is_memory act before after r → IsDone is_host is_memory other start after r
done_map is_host is_memory act other before after start (Ok value) goes is = goes (Ok (value, after)) is
done_map is_host is_memory act other before after start (Err f) goes is = refused_map is_host is_memory act other before start f (λ fault. goes (Err fault)) is

-- what is done, and what is refused
pub done_ok : {E A : Type 0} (is_host is_memory : E → Bool) (act : Act E A) (before after : List Step) (r : Result A (MakingFault E)) → IsDone is_host is_memory act before after r → IfOk r (λ value. act before (Ok (value, after)))
done_ok is_host is_memory act before after (Ok value) is = is
done_ok is_host is_memory act before after (Err f) is = tt

pub done_err : {E A : Type 0} (is_host is_memory : E → Bool) (act : Act E A) (before after : List Step) (r : Result A (MakingFault E)) → IsDone is_host is_memory act before after r → IfErr r (IsRefused is_host is_memory act before)
done_err is_host is_memory act before after (Ok value) is = tt
done_err is_host is_memory act before after (Err f) is = is

-- ---- acts for some things

-- what comes after some values were given
abbrev pub prepended : {E A : Type 0} → List A → Outcome E (List A) → Outcome E (List A)
prepended done (Ok (values, after)) = Ok (done ++ values, after)
prepended done (Err fault) = Err fault

pub prepended_none : {E A : Type 0} (outcome : Outcome E (List A)) → prepended [] outcome ≡ outcome
prepended_none (Ok (values, after)) = refl
prepended_none (Err fault) = refl

pub prepended_twice : {E A : Type 0} (done more : List A) (outcome : Outcome E (List A)) → prepended done (prepended more outcome) ≡ prepended (done ++ more) outcome
prepended_twice {E} {A} done more (Ok (values, after)) = ap (λ (vs : List A). let o : Outcome E (List A) = Ok (vs, after) in o) (sym (append_assoc done more values))
prepended_twice done more (Err fault) = refl

pub for_all_next : {E X A : Type 0} (act : X → Act E (List A)) (x : X) (more : List X) (before mid : List Step) (values : List A) (outcome : Outcome E (List A))
    → act x before (Ok (values, mid)) → for_all act more mid outcome → for_all act (x ∷ more) before (prepended values outcome)
for_all_next act x more before mid values (Ok (others, after)) first rest = (Ok (values, mid), first, (Ok (others, after), rest, refl))
for_all_next act x more before mid values (Err fault) first rest = (Ok (values, mid), first, (Err fault, rest, refl))

pub for_each_next : {E X A : Type 0} (act : X → Act E A) (x : X) (more : List X) (before mid : List Step) (value : A) (outcome : Outcome E (List A))
    → act x before (Ok (value, mid)) → for_each act more mid outcome → for_each act (x ∷ more) before (prepended (value ∷ []) outcome)
for_each_next act x more before mid value (Ok (others, after)) first rest = (Ok (value, mid), first, (Ok (others, after), rest, refl))
for_each_next act x more before mid value (Err fault) first rest = (Ok (value, mid), first, (Err fault, rest, refl))

-- what comes of the rest from here comes of all from the start, after what was given
abbrev pub IsSoFar : {E X A : Type 0} → (List X → Act E (List A)) → List X → ℕ → List A → List Step → List Step → Type 0
IsSoFar {E} {X} {A} acts all place done start now = (outcome : Outcome E (List A)) → acts (drop place all) now outcome → acts all start (prepended done outcome)

module _ {E X A : Type 0} (acts : List X → Act E (List A)) (all : List X) (start : List Step) where
  pub so_far_start : IsSoFar acts all 0 [] start start
  so_far_start outcome is = subst (λ (o : Outcome E (List A)). acts all start o) (sym (prepended_none outcome)) is

  pub so_far_next : (place : ℕ) (x : X) (done more : List A) (now mid : List Step) → place < length all → x ≡ get_or all place x
      → ((outcome : Outcome E (List A)) → acts (drop (place + 1) all) mid outcome → acts (x ∷ drop (place + 1) all) now (prepended more outcome))
      → IsSoFar acts all place done start now → IsSoFar acts all (place + 1) (done ++ more) start mid
  so_far_next place x done more now mid within at one so_far outcome rest =
      subst (λ (o : Outcome E (List A)). acts all start o) (prepended_twice done more outcome)
      (so_far (prepended more outcome)
      (subst (λ (xs : List X). acts xs now (prepended more outcome)) (ap (λ (y : X). y ∷ drop (place + 1) all) at ∙ sym (drop_more all place x within)) (one outcome rest)))

  pub so_far_end : (place : ℕ) (done : List A) (now : List Step) → length all ≤ place → acts [] now (Ok ([], now)) → IsSoFar acts all place done start now → acts all start (Ok (done, now))
  so_far_end place done now over none so_far =
      subst (λ (vs : List A). acts all start (Ok (vs, now))) (append-nil done)
      (so_far (Ok ([], now)) (subst (λ (xs : List X). acts xs now (Ok ([], now))) (sym (at_drop_all (λ (xs : List X). xs) all place over)) none))

  pub so_far_refused : (is_host is_memory : E → Bool) (place : ℕ) (x : X) (done : List A) (now : List Step) (f : MakingFault E) → place < length all → x ≡ get_or all place x
      → IsSoFar acts all place done start now → IsRefused is_host is_memory (acts (x ∷ drop (place + 1) all)) now f → IsRefused is_host is_memory (acts all) start f
  so_far_refused is_host is_memory place x done now f within at so_far r =
      refused_map is_host is_memory (acts (x ∷ drop (place + 1) all)) (acts all) now start f
      (λ fault is. so_far (Err fault) (subst (λ (xs : List X). acts xs now (Err fault)) (ap (λ (y : X). y ∷ drop (place + 1) all) at ∙ sym (drop_more all place x within)) is)) r
