use Rattle.std.proofs.Common.{◌≡◌, ℕ, List, Some, Bool, subst, ◌∙◌}
use Rattle.b2_host.specs.Disks.{Disk}
use Rattle.b2_plan.specs.declared.step.Step.{Step}
use Rattle.b2_facts.specs.declared.file_facts.FileFacts.{FileFacts}
use Rattle.b2_facts.specs.Facts.{file_at}
use Rattle.b2_facts.specs.Growth.{OfNone}
use Rattle.b2_facts.specs.Truth.{StaysTrue}
use Rattle.b2_facts.specs.Asks.{IsToldGiven}
use Rattle.b2_facts.proofs.FactsGrow.{learns_then, true_then, told_map, told_all, number_grows}
use Rattle.b2_facts.proofs.IncludesAreLookedFor.{tried_given, tried_missing}
use Rattle.b2_facts.proofs.facts.Facts.given_at.Goals as goal

pub returns-in_err-number-clause-told : goal.returns-in_err-number-clause-told
returns-in_err-number-clause-told g c = told_all (g.F.Files.outside c.args.files.now).disk (λ (d : Disk). StaysTrue c.args.plan.now.steps c.args.plan.now.roots d.now c.args.self.now c.number_of.new.self) (λ d. c.in_err-number.ensures.told d.now)

pub returns-in-Ok-true-clause-given : goal.returns-in-Ok-true-clause-given
returns-in-Ok-true-clause-given g c =
    let grown = (c.in-Ok-true.ensures.learns c.args.plan.now.steps c.args.plan.now.roots).grows in
    let n = c.in_ok-number.number in
    tried_given c.is_given.new.self c.args.path.now n (grown.paths n c.args.path.now c.in_ok-number.ensures.place) (number_grows c.number_of.new.self c.is_given.new.self grown n c.in_ok-number.ensures.number)
    (subst (λ (b : Bool). (file : FileFacts) → file_at c.is_given.new.self n ≡ Some file → IsToldGiven file b) c.in-Ok-true.field-0-test c.in-Ok-true.ensures.given)

pub returns-in-Ok-false-clause-given : goal.returns-in-Ok-false-clause-given
returns-in-Ok-false-clause-given g c =
    let grown = (c.in-Ok-false.ensures.learns c.args.plan.now.steps c.args.plan.now.roots).grows in
    let n = c.in_ok-number.number in
    tried_missing c.is_given.new.self c.args.path.now n (grown.paths n c.args.path.now c.in_ok-number.ensures.place) (number_grows c.number_of.new.self c.is_given.new.self grown n c.in_ok-number.ensures.number)
    (subst (λ (b : Bool). (file : FileFacts) → file_at c.is_given.new.self n ≡ Some file → IsToldGiven file b) c.in-Ok-false.field-0-test c.in-Ok-false.ensures.given)

pub returns-in-Ok-true-clause-learns : goal.returns-in-Ok-true-clause-learns
returns-in-Ok-true-clause-learns g c = learns_then c.args.plan.now.steps c.args.plan.now.roots OfNone c.args.self.now c.number_of.new.self c.is_given.new.self c.in_ok-number.ensures.learns (c.in-Ok-true.ensures.learns c.args.plan.now.steps c.args.plan.now.roots)

pub returns-in-Ok-true-clause-told : goal.returns-in-Ok-true-clause-told
returns-in-Ok-true-clause-told g c =
    let steps = c.args.plan.now.steps in
    let roots = c.args.plan.now.roots in
    told_map (g.F.Files.outside c.args.files.now).disk (λ (d : Disk). (ss : List Step) (rs : List (List ℕ)) → StaysTrue ss rs d.now c.number_of.new.self c.is_given.new.self) (λ (d : Disk). StaysTrue steps roots d.now c.args.self.now c.is_given.new.self)
    (λ d h. true_then steps roots OfNone d.now c.args.self.now c.number_of.new.self c.is_given.new.self c.in_ok-number.ensures.learns (c.in_ok-number.ensures.told d.now) (h steps roots)) c.in-Ok-true.ensures.told

pub returns-in-Ok-false-clause-learns : goal.returns-in-Ok-false-clause-learns
returns-in-Ok-false-clause-learns g c = learns_then c.args.plan.now.steps c.args.plan.now.roots OfNone c.args.self.now c.number_of.new.self c.is_given.new.self c.in_ok-number.ensures.learns (c.in-Ok-false.ensures.learns c.args.plan.now.steps c.args.plan.now.roots)

pub returns-in-Ok-false-clause-told : goal.returns-in-Ok-false-clause-told
returns-in-Ok-false-clause-told g c =
    let steps = c.args.plan.now.steps in
    let roots = c.args.plan.now.roots in
    told_map (g.F.Files.outside c.args.files.now).disk (λ (d : Disk). (ss : List Step) (rs : List (List ℕ)) → StaysTrue ss rs d.now c.number_of.new.self c.is_given.new.self) (λ (d : Disk). StaysTrue steps roots d.now c.args.self.now c.is_given.new.self)
    (λ d h. true_then steps roots OfNone d.now c.args.self.now c.number_of.new.self c.is_given.new.self c.in_ok-number.ensures.learns (c.in_ok-number.ensures.told d.now) (h steps roots)) c.in-Ok-false.ensures.told

pub returns-in-Err-clause-learns : goal.returns-in-Err-clause-learns
returns-in-Err-clause-learns g c = learns_then c.args.plan.now.steps c.args.plan.now.roots OfNone c.args.self.now c.number_of.new.self c.is_given.new.self c.in_ok-number.ensures.learns (c.in-Err.ensures.learns c.args.plan.now.steps c.args.plan.now.roots)

pub returns-in-Err-clause-told : goal.returns-in-Err-clause-told
returns-in-Err-clause-told g c =
    let steps = c.args.plan.now.steps in
    let roots = c.args.plan.now.roots in
    told_map (g.F.Files.outside c.args.files.now).disk (λ (d : Disk). (ss : List Step) (rs : List (List ℕ)) → StaysTrue ss rs d.now c.number_of.new.self c.is_given.new.self) (λ (d : Disk). StaysTrue steps roots d.now c.args.self.now c.is_given.new.self)
    (λ d h. true_then steps roots OfNone d.now c.args.self.now c.number_of.new.self c.is_given.new.self c.in_ok-number.ensures.learns (c.in_ok-number.ensures.told d.now) (h steps roots)) c.in-Err.ensures.told

pub returns-in-Ok-true-clause-found : goal.returns-in-Ok-true-clause-found
returns-in-Ok-true-clause-found g c = c.in-Ok-true.ensures.found ∙ c.in_ok-number.ensures.found

pub returns-in-Ok-false-clause-found : goal.returns-in-Ok-false-clause-found
returns-in-Ok-false-clause-found g c = c.in-Ok-false.ensures.found ∙ c.in_ok-number.ensures.found

pub returns-in-Err-clause-found : goal.returns-in-Err-clause-found
returns-in-Err-clause-found g c = c.in-Err.ensures.found ∙ c.in_ok-number.ensures.found
