use Rattle.std.proofs.Common.{length, refl, sym, ap, ◌∙◌}
use Rattle.b2_host.specs.Disks.{Disk}
use Rattle.b2_host.specs.Outside.{Outside}
use Rattle.b2_facts.specs.Growth.{OfNone}
use Rattle.b2_facts.specs.Truth.{StaysTrue}
use Rattle.b2_facts.proofs.FactsGrow.{learns_then, learns_same, true_same, told_all, told_then}
use Rattle.b2_facts.proofs.IncludesAreLookedFor.{first_some, none_some_more}
use Rattle.std.proofs.lemmas.Option.{slice_get_read}
use Rattle.b2_facts.proofs.facts.Facts.first_given.Goals as goal

pub loop-path-init : goal.loop-path-init
loop-path-init g c = record { same = refl; found = refl; missing = tt; learns = learns_same c.args.plan.now.steps c.args.plan.now.roots OfNone c.args.self.now; told = told_all (g.F.Files.outside c.args.files.now).disk (λ (d : Disk). StaysTrue c.args.plan.now.steps c.args.plan.now.roots d.now c.args.self.now c.args.self.now) (λ d. true_same c.args.plan.now.steps c.args.plan.now.roots d.now c.args.self.now) }

pub returns-in_err-given-clause-learns : goal.returns-in_err-given-clause-learns
returns-in_err-given-clause-learns g c = learns_then c.args.plan.now.steps c.args.plan.now.roots OfNone c.args.self.now c.loop-path.self c.given_at.new.self c.loop-path.invariant.learns c.in_err-given.ensures.learns

pub returns-in_err-given-clause-told : goal.returns-in_err-given-clause-told
returns-in_err-given-clause-told g c = told_then c.args.plan.now.steps c.args.plan.now.roots OfNone (g.F.Files.outside c.args.files.now).disk (g.F.Files.outside c.loop-path.files).disk c.args.self.now c.loop-path.self c.given_at.new.self (ap (λ (o : Outside). o.disk) c.loop-path.invariant.same) c.loop-path.invariant.learns c.loop-path.invariant.told c.in_err-given.ensures.told

pub returns-then-is_some-clause-learns : goal.returns-then-is_some-clause-learns
returns-then-is_some-clause-learns g c = learns_then c.args.plan.now.steps c.args.plan.now.roots OfNone c.args.self.now c.loop-path.self c.given_at.new.self c.loop-path.invariant.learns c.in_ok-given.ensures.learns

pub returns-then-is_some-clause-told : goal.returns-then-is_some-clause-told
returns-then-is_some-clause-told g c = told_then c.args.plan.now.steps c.args.plan.now.roots OfNone (g.F.Files.outside c.args.files.now).disk (g.F.Files.outside c.loop-path.files).disk c.args.self.now c.loop-path.self c.given_at.new.self (ap (λ (o : Outside). o.disk) c.loop-path.invariant.same) c.loop-path.invariant.learns c.loop-path.invariant.told c.in_ok-given.ensures.told

pub returns-then-is_some-clause-first : goal.returns-then-is_some-clause-first
returns-then-is_some-clause-first g c = first_some c.loop-path.self c.given_at.new.self c.args.tried.now c.loop-path.path-index c.path-item.result c.in_ok-given.given c.in_ok-given.ensures.learns.grows c.loop-path.invariant.missing
    (slice_get_read c.args.tried.now (length c.args.tried.now) c.loop-path.path-index c.path-item.result refl c.loop-path-test.true c.path-item.is) (sym c.if-is_some.ensures) c.in_ok-given.ensures.given

pub loop-path-preserved : goal.loop-path-preserved
loop-path-preserved g c = record {
  same = c.in_ok-given.ensures.effect ∙ c.loop-path.invariant.same;
  found = c.in_ok-given.ensures.found ∙ c.loop-path.invariant.found;
  missing = none_some_more c.loop-path.self c.given_at.new.self c.args.tried.now c.loop-path.path-index c.path-item.result c.in_ok-given.given c.in_ok-given.ensures.learns.grows c.loop-path.invariant.missing
      (slice_get_read c.args.tried.now (length c.args.tried.now) c.loop-path.path-index c.path-item.result refl c.loop-path-test.true c.path-item.is) (sym c.if-is_some.ensures) c.in_ok-given.ensures.given;
  learns = learns_then c.args.plan.now.steps c.args.plan.now.roots OfNone c.args.self.now c.loop-path.self c.given_at.new.self c.loop-path.invariant.learns c.in_ok-given.ensures.learns;
  told = told_then c.args.plan.now.steps c.args.plan.now.roots OfNone (g.F.Files.outside c.args.files.now).disk (g.F.Files.outside c.loop-path.files).disk c.args.self.now c.loop-path.self c.given_at.new.self (ap (λ (o : Outside). o.disk) c.loop-path.invariant.same) c.loop-path.invariant.learns c.loop-path.invariant.told c.in_ok-given.ensures.told;
}

pub returns-in_err-given-clause-found : goal.returns-in_err-given-clause-found
returns-in_err-given-clause-found g c = c.in_err-given.ensures.found ∙ c.loop-path.invariant.found

pub returns-then-is_some-clause-found : goal.returns-then-is_some-clause-found
returns-then-is_some-clause-found g c = c.in_ok-given.ensures.found ∙ c.loop-path.invariant.found
