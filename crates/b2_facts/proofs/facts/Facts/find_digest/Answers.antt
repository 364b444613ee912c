use Rattle.std.proofs.Common.{◌≡◌, ℕ, List, Option, Some, None, is_some, true, false, refl, sym, subst, ◌∙◌}
use Rattle.b2_host.specs.Disks.{Disk}
use Rattle.b2_plan.specs.declared.step.Step.{Step}
use Rattle.b2_facts.specs.declared.file_facts.FileFacts.{FileFacts}
use Rattle.b2_facts.specs.Facts.{IsFile}
use Rattle.b2_facts.specs.Growth.{OfOne}
use Rattle.b2_facts.specs.Truth.{StaysTrue}
use Rattle.b2_facts.proofs.ListsAtPlaces.{some_is}
use Rattle.b2_facts.proofs.FactsGrow.{learns_same, true_same, told_all}
use Rattle.b2_facts.proofs.IncludesAreNotLearned.{includes_same}
use Rattle.b2_facts.proofs.facts.Facts.find_digest.Goals as goal

some_not_none : {X : Type 0} (o : Option X) → is_some o ≡ true → o ≡ None → ⊥
some_not_none None e is = (let x : false ≡ true = e in cc)
some_not_none (Some x) e is = (let y : Some x ≡ None = is in cc)

is_none_there : {X : Type 0} (o : Option X) → is_some o ≡ false → o ≡ None
is_none_there None e = refl
is_none_there (Some x) e = absurd (let y : true ≡ false = e in cc)

pub returns-then-is_some-clause-gone : goal.returns-then-is_some-clause-gone
returns-then-is_some-clause-gone g c = told_all (g.F.Files.outside c.args.files.now).disk (λ (d : Disk). (path : List ℕ) (file : FileFacts) → IsFile c.args.self.now c.args.number path file → file.digest ≡ None → d.now path ≡ None)
    (λ d path file is none. absurd (some_not_none c.file.result.now.digest (sym c.if-is_some.ensures) (subst (λ (x : FileFacts). x.digest ≡ None) (some_is file c.file.result.now (sym is.file_is ∙ c.file.ensures)) none)))

pub returns-then-is_some-clause-learns : goal.returns-then-is_some-clause-learns
returns-then-is_some-clause-learns g c = λ steps roots. learns_same steps roots (OfOne c.args.number) c.args.self.now

pub returns-then-is_some-clause-told : goal.returns-then-is_some-clause-told
returns-then-is_some-clause-told g c = told_all (g.F.Files.outside c.args.files.now).disk (λ (d : Disk). (steps : List Step) (roots : List (List ℕ)) → StaysTrue steps roots d.now c.args.self.now c.args.self.now) (λ d steps roots. true_same steps roots d.now c.args.self.now)

pub read_digest-requires-clause-unknown : goal.read_digest-requires-clause-unknown
read_digest-requires-clause-unknown g c = λ file e. subst (λ (x : FileFacts). x.digest ≡ None) (some_is c.file.result.now file (sym c.file.ensures ∙ e)) (is_none_there c.file.result.now.digest (sym c.if-is_some.ensures))

pub returns-then-is_some-clause-includes : goal.returns-then-is_some-clause-includes
returns-then-is_some-clause-includes g c = includes_same c.args.self.now
