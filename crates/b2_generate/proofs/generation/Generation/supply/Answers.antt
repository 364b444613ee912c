use Rattle.std.proofs.Common.{ℕ, ◌<◌, List, Option, IfSome, length, reverse, refl, sym, ap, ap₂, subst, ◌∙◌}
use Rattle.std.proofs.lemmas.List.{length-reverse}
use Rattle.b2_props.specs.Sets.{IsSet, Pair}
use Rattle.b2_declared.specs.declared.whole.Declared.{Declared}
use Rattle.b2_props.specs.Elements.{propagated}
use Rattle.b2_references.specs.Names.{is_among}
use Rattle.b2_alternatives.specs.Picking.{seen}
use Rattle.b2_generate.specs.Clear.{IsClear}
use Rattle.b2_generate.specs.Machine.{names_of, standing_of, IsKept}
use Rattle.b2_generate.specs.Nodes.{entry_in}
use Rattle.b2_generate.specs.Opening.{frames, IsConflict}
use Rattle.b2_generate.specs.Remembered.{IsAskedAt}
use Rattle.b2_generate.specs.OpenTargets.{conflict}
use Rattle.b2_generate.specs.Taking.{IsTaken}
use Rattle.b2_generate.specs.declared.node.Node.{Node}
use Rattle.b2_generate.specs.ToldOutcomes.{loaded_of}
use Rattle.b2_generate.proofs.GivenStaysWithMoreNodes.{none_added}
use Rattle.b2_generate.proofs.TakingLeadsOn.{clashed, entry_named, taken_leads, taken_clashes}
use Rattle.b2_generate.proofs.DueTargetIsDeclared.{due_named}
use Rattle.b2_generate.proofs.EarlyExitGivesTheFault.{exit_is}
use Rattle.b2_generate.proofs.OpenTargetsAreKeptRightly.{taken_goes}
use Rattle.b2_generate.proofs.MakingAgainGivesTheSame.{due_is_new}
use Rattle.b2_generate.proofs.StepsAreThoseDefined.{grows_none}
use Rattle.b2_generate.proofs.TurnKeepsItsPromise.{ran_out, goes, is_there}
use Rattle.b2_generate.proofs.generation.Generation.supply.Goals as goal

pub invariant_of-stack : goal.invariant_of-stack
invariant_of-stack g c = record {
  found = c.args.stack.now.found;
  closed = ap (is_among (names_of (reverse c.args.stack.now.below.items))) c.take.ensures.name ∙ c.args.stack.now.closed;
}

pub propagated-requires : goal.propagated-requires
propagated-requires g c =
    subst (λ d. IsSet d.registry c.set.result.now) (sym c.declared.ensures) (subst (λ s. IsSet c.args.self.now.asker.index.now.registry s) (sym c.set.ensures) c.requires.kept.2.stand.is_set)

pub returns-in_err-asked-clause-turn : goal.returns-in_err-asked-clause-turn
returns-in_err-asked-clause-turn g c = ran_out c.from_residual.result (exit_is c.from_residual.result _ c.from_residual.ensures.1) (grows_none _ _) refl refl

pub remembered-requires-clause-dated : goal.remembered-requires-clause-dated
remembered-requires-clause-dated g c = c.requires.ready.dated

pub remembered-requires-clause-late : goal.remembered-requires-clause-late
remembered-requires-clause-late g c = c.requires.kept.1

pub returns-in_err-remembered-clause-turn : goal.returns-in_err-remembered-clause-turn
returns-in_err-remembered-clause-turn g c = ran_out c.from_residual-in_err-remembered.result (exit_is c.from_residual-in_err-remembered.result _ c.from_residual-in_err-remembered.ensures.1) (grows_none _ _) refl refl

pub open-requires-clause-ready : goal.open-requires-clause-ready
open-requires-clause-ready g c = c.requires.ready

pub open-requires-clause-kept : goal.open-requires-clause-kept
open-requires-clause-kept g c = c.requires.kept

pub open-requires-clause-waits : goal.open-requires-clause-waits
open-requires-clause-waits g c = record { due = c.requires.due; handed = c.in_ok-asked.ensures.value ∙ ap₂ (λ (k : Declared) (xs : List Pair). propagated k.registry xs) c.declared.ensures c.set.ensures }

pub returns-in-None-clause-turn : goal.returns-in-None-clause-turn
returns-in-None-clause-turn g c = c.open.ensures.turn

pub returns-in-None-clause-project : goal.returns-in-None-clause-project
returns-in-None-clause-project g c = c.open.ensures.project

pub returns-in-None-clause-roots : goal.returns-in-None-clause-roots
returns-in-None-clause-roots g c = c.open.ensures.roots

pub take-requires-clause-there : goal.take-requires-clause-there
take-requires-clause-there g c =
    subst (λ (xs : List Node). c.in-Some.place < length xs) (sym c.as_slice.ensures.value)
    (subst (λ (k : ℕ). c.in-Some.place < k) (length-reverse c.args.self.now.nodes.list.items) (is_there (reverse
    c.args.self.now.nodes.list.items) c.in-Some.place (subst (λ (o : Option ℕ). IfSome o (λ p. IsAskedAt (reverse
    c.args.self.now.nodes.list.items) p c.args.name c.in_ok-asked.asked)) c.in-Some.is
    c.in_ok-remembered.ensures.asked).node (subst (λ (o : Option ℕ). IfSome o (λ p. IsAskedAt (reverse
    c.args.self.now.nodes.list.items) p c.args.name c.in_ok-asked.asked)) c.in-Some.is
    c.in_ok-remembered.ensures.asked).there))

pub take-requires-clause-kept : goal.take-requires-clause-kept
take-requires-clause-kept g c = subst (λ (xs : List Node). IsKept (reverse xs) c.args.self.now.asker.index.now c.args.stack.now.newest) (sym c.as_slice.ensures.value) c.requires.kept.2

pub returns-in_err-take-in-Some-clause-turn : goal.returns-in_err-take-in-Some-clause-turn
returns-in_err-take-in-Some-clause-turn g c =
    let nodes = reverse c.args.self.now.nodes.list.items in
    let f = c.args.stack.now.newest in
    let below = reverse c.args.stack.now.below.items in
    clashed c.from_residual-in_err-take-in-Some.result c.in_err-take-in-Some.field-0.0 f.name _ (exit_is c.from_residual-in_err-take-in-Some.result _ c.from_residual-in_err-take-in-Some.ensures.1)
    (subst (λ (xs : List Node). IsConflict c.args.self.now.asker.index.now f.name (conflict c.args.self.now.asker.index.now (standing_of (reverse xs) f) (entry_in (reverse xs) c.in-Some.place).1) c.in_err-take-in-Some.field-0.0) c.as_slice.ensures.value c.in_err-take-in-Some.ensures.clash) (grows_none _ _)
    (λ found same answered is name set start way made.
    taken_clashes nodes f below c.in-Some.place c.args.name c.in_ok-asked.asked (subst (λ (o : Option ℕ). IfSome o (λ p. IsAskedAt (reverse c.args.self.now.nodes.list.items) p c.args.name c.in_ok-asked.asked)) c.in-Some.is c.in_ok-remembered.ensures.asked) (subst (λ (o : Option ℕ). IfSome o (IsClear (names_of (frames c.args.stack.now)) (reverse c.args.self.now.nodes.list.items))) c.in-Some.is c.in_ok-remembered.ensures.clear)
    (loaded_of c.args.self.now.asker.index.now c.args.self.now.roots.now answered) name set start c.args.self.now.builder way made (record { due = c.requires.due; handed = c.in_ok-asked.ensures.value ∙ ap₂ (λ (k : Declared) (xs : List Pair). propagated k.registry xs) c.declared.ensures c.set.ensures }) found same)
    refl refl refl

pub returns-in_ok-take-in-Some-clause-turn : goal.returns-in_ok-take-in-Some-clause-turn
returns-in_ok-take-in-Some-clause-turn g c =
    let d = c.args.self.now.asker.index.now in
    let nodes = reverse c.args.self.now.nodes.list.items in
    let f = c.args.stack.now.newest in
    let below = reverse c.args.stack.now.below.items in
    let after = c.take.new.frame in
    let took = subst (λ (xs : List Node). IsTaken d (reverse xs) c.in-Some.place f after) c.as_slice.ensures.value c.in_ok-take-in-Some.ensures.taken in
    goes
    (taken_goes d nodes c.args.self.now.nodes.firsts f below c.requires.ready c.requires.kept c.args.name
    (due_named d (seen f.name f.chosen) (standing_of nodes f) c.args.name c.requires.due) (due_is_new d (seen f.name f.chosen) (standing_of nodes f) c.args.name c.requires.due)
    c.in-Some.place after took (ap (λ k. k.name) took.stands) (entry_named nodes f below c.in-Some.place c.args.name c.in_ok-asked.asked (subst (λ (o : Option ℕ). IfSome o (λ p. IsAskedAt (reverse c.args.self.now.nodes.list.items) p c.args.name c.in_ok-asked.asked)) c.in-Some.is c.in_ok-remembered.ensures.asked) (subst (λ (o : Option ℕ). IfSome o (IsClear (names_of (frames c.args.stack.now)) (reverse c.args.self.now.nodes.list.items))) c.in-Some.is c.in_ok-remembered.ensures.clear)))
    (λ answered is name set start way made. (
      taken_leads nodes f below c.in-Some.place c.args.name c.in_ok-asked.asked (subst (λ (o : Option ℕ). IfSome o (λ p. IsAskedAt (reverse c.args.self.now.nodes.list.items) p c.args.name c.in_ok-asked.asked)) c.in-Some.is c.in_ok-remembered.ensures.asked) (subst (λ (o : Option ℕ). IfSome o (IsClear (names_of (frames c.args.stack.now)) (reverse c.args.self.now.nodes.list.items))) c.in-Some.is c.in_ok-remembered.ensures.clear)
          (loaded_of d c.args.self.now.roots.now answered) name set start c.args.self.now.builder way made (record { due = c.requires.due; handed = c.in_ok-asked.ensures.value ∙ ap₂ (λ (k : Declared) (xs : List Pair). propagated k.registry xs) c.declared.ensures c.set.ensures }) after took,
      made,
    ))
    (grows_none _ _) (none_added _) refl refl refl

pub returns-in_err-asked-clause-project : goal.returns-in_err-asked-clause-project
returns-in_err-asked-clause-project g c = refl

pub returns-in_err-remembered-clause-project : goal.returns-in_err-remembered-clause-project
returns-in_err-remembered-clause-project g c = refl

pub returns-in_err-take-in-Some-clause-project : goal.returns-in_err-take-in-Some-clause-project
returns-in_err-take-in-Some-clause-project g c = refl

pub returns-in_ok-take-in-Some-clause-project : goal.returns-in_ok-take-in-Some-clause-project
returns-in_ok-take-in-Some-clause-project g c = refl

pub returns-in_err-asked-clause-roots : goal.returns-in_err-asked-clause-roots
returns-in_err-asked-clause-roots g c = refl

pub returns-in_err-remembered-clause-roots : goal.returns-in_err-remembered-clause-roots
returns-in_err-remembered-clause-roots g c = refl

pub returns-in_err-take-in-Some-clause-roots : goal.returns-in_err-take-in-Some-clause-roots
returns-in_err-take-in-Some-clause-roots g c = refl

pub returns-in_ok-take-in-Some-clause-roots : goal.returns-in_ok-take-in-Some-clause-roots
returns-in_ok-take-in-Some-clause-roots g c = refl
