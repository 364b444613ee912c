use Rattle.std.proofs.Common.{arith, ◌<◌, ℕ, List, [], Ok, Err, IfOk, map, length, reverse, refl, sym, ap, subst, ◌∙◌}
use Rattle.std.proofs.lemmas.List.{length-reverse}
use Rattle.b2_references.specs.Names.{is_among}
use Rattle.b2_alternatives.specs.Picking.{seen}
use Rattle.b2_generate.specs.Generation.{Generates, Finishes}
use Rattle.b2_generate.specs.Machine.{frame_of, names_of, standing_of, IsKept}
use Rattle.b2_generate.specs.Making.{given_of}
use Rattle.b2_generate.specs.Nodes.{entry_in}
use Rattle.b2_generate.specs.Opening.{IsConflict}
use Rattle.b2_generate.specs.OpenTargets.{conflict}
use Rattle.b2_generate.specs.Taking.{IsTaken}
use Rattle.b2_generate.specs.Turning.{IsCompleted}
use Rattle.b2_generate.specs.declared.node.Node.{Node}
use Rattle.b2_generate.specs.ToldOutcomes.{loaded_of, IsRefusal}
use Rattle.b2_generate.proofs.OpenTargetsAreFound.{rest_found, none_twice, popped_found, popped_closed}
use Rattle.b2_generate.proofs.TakingLeadsOn.{clashed}
use Rattle.b2_generate.proofs.NewNodeLeadsOn.{none_below, one_below, done_over, done_adds, done_kept, done_goes, done_made, done_ends, done_leads, done_clashes}
use Rattle.b2_generate.proofs.EarlyExitGivesTheFault.{exit_is}
use Rattle.b2_generate.proofs.OpeningLeadsOn.{refusal_weaker}
use Rattle.b2_generate.proofs.StackLeadsToTheOutcome.{falls_last}
use Rattle.b2_generate.proofs.TurnKeepsItsPromise.{stopped, ran_out, goes, is_over}
use Rattle.b2_generate.proofs.generation.Generation.close.Goals as goal

pub invariant_of-stack : goal.invariant_of-stack
invariant_of-stack g c =
    let s = c.args.stack.now in
    record {
      found = popped_found s.places s.below.items c.pop.new.self.items c.pop.result s.found c.pop.ensures.items;
      closed = popped_closed s.newest s.below.items c.pop.new.self.items c.pop.result s.closed c.pop.ensures.items;
    }

pub invariant_of-stack-in-Some : goal.invariant_of-stack-in-Some
invariant_of-stack-in-Some g c =
    let s = c.args.stack.now in
    record {
      found = rest_found s.places s.below.items c.pop.new.self.items c.in-Some.frame s.found c.in-Some.ensures.items;
      closed = none_twice s.places s.below.items c.pop.new.self.items c.in-Some.frame s.found c.in-Some.ensures.items;
    }

pub invariant_of-stack-in-Some-2 : goal.invariant_of-stack-in-Some-2
invariant_of-stack-in-Some-2 g c =
    let s = c.args.stack.now in
    record {
      found = rest_found s.places s.below.items c.pop.new.self.items c.in-Some.frame s.found c.in-Some.ensures.items;
      closed = ap (is_among (names_of (reverse c.pop.new.self.items))) c.take.ensures.name
          ∙ none_twice s.places s.below.items c.pop.new.self.items c.in-Some.frame s.found c.in-Some.ensures.items;
    }

pub finish-requires : goal.finish-requires
finish-requires g c = subst (λ (xs : List Node). IsKept (reverse xs) c.args.self.now.asker.index.now c.args.stack.now.newest) (sym c.as_slice.ensures.value) c.requires.kept.2

pub returns-in_err-made-clause-turn : goal.returns-in_err-made-clause-turn
returns-in_err-made-clause-turn g c =
    stopped c.from_residual.result c.in_err-made.field-0.0 (exit_is c.from_residual.result _ c.from_residual.ensures.1) c.in_err-made.ensures.grows
    (λ answered is name set start way made.
    refusal_weaker g.E.Evaluate.is_host_fault g.E.Evaluate.is_out_of_memory (λ fault. Finishes (loaded_of c.args.self.now.asker.index.now c.args.self.now.roots.now answered) (seen c.args.stack.now.newest.name c.args.stack.now.newest.chosen) (standing_of (reverse c.args.self.now.nodes.list.items) c.args.stack.now.newest) c.args.self.now.builder (Err fault)) (λ why. Generates (loaded_of c.args.self.now.asker.index.now c.args.self.now.roots.now answered) [] name set start (Err why))
    (λ fault finishes. falls_last (loaded_of c.args.self.now.asker.index.now c.args.self.now.roots.now answered) name set start (frame_of (reverse c.args.self.now.nodes.list.items) c.args.stack.now.newest) (map (frame_of (reverse c.args.self.now.nodes.list.items)) (reverse c.args.stack.now.below.items)) c.args.self.now.builder fault way c.requires.complete finishes) c.in_err-made.field-0.0
    (subst (λ (xs : List Node). IsRefusal g.E.Evaluate.is_host_fault g.E.Evaluate.is_out_of_memory (λ fault. Finishes (loaded_of c.args.self.now.asker.index.now c.args.self.now.roots.now answered) (seen c.args.stack.now.newest.name c.args.stack.now.newest.chosen) (standing_of (reverse xs) c.args.stack.now.newest) c.args.self.now.builder (Err fault)) c.in_err-made.field-0.0) c.as_slice.ensures.value (c.in_err-made.ensures.refused answered is)))
    c.in_err-made.ensures.leaves

pub complete-requires : goal.complete-requires
complete-requires g c = c.requires.kept.2.places

pub returns-in_err-place-clause-turn : goal.returns-in_err-place-clause-turn
returns-in_err-place-clause-turn g c = ran_out c.from_residual-in_err-place.result (exit_is c.from_residual-in_err-place.result _ c.from_residual-in_err-place.ensures.1) c.in_ok-made.ensures.grows c.in_ok-made.ensures.leaves.same_answers c.in_ok-made.ensures.leaves.same_kept

pub returns-in-None-clause-turn : goal.returns-in-None-clause-turn
returns-in-None-clause-turn g c =
    let none = none_below c.args.stack.now.below.items (omega (arith, c.in-None.ensures.cases.0, c.args.stack.now.below.ok.0)) in
    let done = (subst (λ r. IfOk r (IsCompleted c.args.self.now.asker.index.now (reverse c.args.self.now.nodes.list.items) c.args.stack.now.newest c.in_ok-made.made (reverse c.complete.new.self.list.items) c.complete.new.self.firsts)) c.in_ok-place.was (c.complete.ensures c.args.self.now.asker.index.now c.requires.ready c.in_ok-made.ensures.set)) in
    is_over c.in_ok-place.place (done_over c.args.self.now.asker.index.now (reverse c.args.self.now.nodes.list.items) c.args.stack.now.newest (reverse c.args.stack.now.below.items) c.in_ok-made.made (reverse c.complete.new.self.list.items) c.complete.new.self.firsts c.in_ok-place.place done)
    (λ answered is name set start way made. (
      done_ends (loaded_of c.args.self.now.asker.index.now c.args.self.now.roots.now answered) name set start (reverse
          c.args.self.now.nodes.list.items) c.args.stack.now.newest (reverse c.args.stack.now.below.items)
          c.args.self.now.builder c.finish.new.builder c.in_ok-made.made (reverse c.complete.new.self.list.items)
          c.complete.new.self.firsts c.in_ok-place.place done c.requires.kept c.requires.complete (subst (λ (xs : List
          Node). Finishes (loaded_of c.args.self.now.asker.index.now c.args.self.now.roots.now answered) (seen
          c.args.stack.now.newest.name c.args.stack.now.newest.chosen) (standing_of (reverse xs)
          c.args.stack.now.newest) c.args.self.now.builder (Ok (
            given_of (seen c.args.stack.now.newest.name
                c.args.stack.now.newest.chosen) (standing_of (reverse xs) c.args.stack.now.newest) c.in_ok-made.made,
            c.finish.new.builder,
          ))) c.as_slice.ensures.value (c.in_ok-made.ensures.made answered is)) way none,
      done_made (loaded_of c.args.self.now.asker.index.now c.args.self.now.roots.now answered) name set start (reverse
          c.args.self.now.nodes.list.items) c.args.stack.now.newest (reverse c.args.stack.now.below.items)
          c.args.self.now.builder c.finish.new.builder c.in_ok-made.made (reverse c.complete.new.self.list.items)
          c.complete.new.self.firsts c.in_ok-place.place done c.requires.kept c.requires.complete (subst (λ (xs : List
          Node). Finishes (loaded_of c.args.self.now.asker.index.now c.args.self.now.roots.now answered) (seen
          c.args.stack.now.newest.name c.args.stack.now.newest.chosen) (standing_of (reverse xs)
          c.args.stack.now.newest) c.args.self.now.builder (Ok (
            given_of (seen c.args.stack.now.newest.name
                c.args.stack.now.newest.chosen) (standing_of (reverse xs) c.args.stack.now.newest) c.in_ok-made.made,
            c.finish.new.builder,
          ))) c.as_slice.ensures.value (c.in_ok-made.ensures.made answered is)) way made
          c.in_ok-made.ensures.grows,
    ))
    c.in_ok-made.ensures.grows (done_adds c.args.self.now.asker.index.now (reverse c.args.self.now.nodes.list.items) c.args.stack.now.newest (reverse c.args.stack.now.below.items) c.in_ok-made.made (reverse c.complete.new.self.list.items) c.complete.new.self.firsts c.in_ok-place.place done) c.in_ok-made.ensures.leaves.same_answers c.in_ok-made.ensures.leaves.same_kept c.in_ok-made.ensures.leaves.counted

pub take-requires-clause-there : goal.take-requires-clause-there
take-requires-clause-there g c =
    subst (λ (xs : List Node). c.in_ok-place.place < length xs) (sym c.as_slice-in-Some.ensures.value)
    (subst (λ (k : ℕ). c.in_ok-place.place < k) (length-reverse c.complete.new.self.list.items) (done_over
    c.args.self.now.asker.index.now (reverse c.args.self.now.nodes.list.items) c.args.stack.now.newest (reverse
    c.args.stack.now.below.items) c.in_ok-made.made (reverse c.complete.new.self.list.items)
    c.complete.new.self.firsts c.in_ok-place.place (subst (λ r. IfOk r (IsCompleted
    c.args.self.now.asker.index.now (reverse c.args.self.now.nodes.list.items) c.args.stack.now.newest
    c.in_ok-made.made (reverse c.complete.new.self.list.items) c.complete.new.self.firsts)) c.in_ok-place.was
    (c.complete.ensures c.args.self.now.asker.index.now c.requires.ready c.in_ok-made.ensures.set))).there)

pub take-requires-clause-kept : goal.take-requires-clause-kept
take-requires-clause-kept g c = subst (λ (xs : List Node). IsKept (reverse xs) c.args.self.now.asker.index.now
    c.in-Some.frame) (sym c.as_slice-in-Some.ensures.value) (done_kept c.args.self.now.asker.index.now (reverse
    c.args.self.now.nodes.list.items) c.args.stack.now.newest (reverse c.args.stack.now.below.items) c.in_ok-made.made
    (reverse c.complete.new.self.list.items) c.complete.new.self.firsts c.in_ok-place.place (subst (λ r. IfOk r
    (IsCompleted c.args.self.now.asker.index.now (reverse c.args.self.now.nodes.list.items) c.args.stack.now.newest
    c.in_ok-made.made (reverse c.complete.new.self.list.items) c.complete.new.self.firsts)) c.in_ok-place.was
    (c.complete.ensures c.args.self.now.asker.index.now c.requires.ready c.in_ok-made.ensures.set)) c.requires.kept c.in-Some.frame (reverse
    c.pop.new.self.items) (one_below c.args.stack.now.below.items c.pop.new.self.items c.in-Some.frame
    c.in-Some.ensures.items))

pub returns-in_err-take-in-Some-clause-turn : goal.returns-in_err-take-in-Some-clause-turn
returns-in_err-take-in-Some-clause-turn g c =
    let done = (subst (λ r. IfOk r (IsCompleted c.args.self.now.asker.index.now (reverse c.args.self.now.nodes.list.items) c.args.stack.now.newest c.in_ok-made.made (reverse c.complete.new.self.list.items) c.complete.new.self.firsts)) c.in_ok-place.was (c.complete.ensures c.args.self.now.asker.index.now c.requires.ready c.in_ok-made.ensures.set)) in
    clashed c.from_residual-in_err-take-in-Some.result c.in_err-take-in-Some.field-0.0 c.in-Some.frame.name _ (exit_is c.from_residual-in_err-take-in-Some.result _ c.from_residual-in_err-take-in-Some.ensures.1)
    (subst (λ (xs : List Node). IsConflict c.args.self.now.asker.index.now c.in-Some.frame.name (conflict c.args.self.now.asker.index.now (standing_of (reverse xs) c.in-Some.frame) (entry_in (reverse xs) c.in_ok-place.place).1) c.in_err-take-in-Some.field-0.0) c.as_slice-in-Some.ensures.value c.in_err-take-in-Some.ensures.clash)
    c.in_ok-made.ensures.grows
    (λ found same answered is name set start way made. done_clashes (loaded_of c.args.self.now.asker.index.now
    c.args.self.now.roots.now answered) name set start (reverse c.args.self.now.nodes.list.items)
    c.args.stack.now.newest (reverse c.args.stack.now.below.items) c.args.self.now.builder c.finish.new.builder
    c.in_ok-made.made (reverse c.complete.new.self.list.items) c.complete.new.self.firsts c.in_ok-place.place done
    c.requires.kept c.requires.complete (subst (λ (xs : List Node). Finishes (loaded_of
    c.args.self.now.asker.index.now c.args.self.now.roots.now answered) (seen c.args.stack.now.newest.name
    c.args.stack.now.newest.chosen) (standing_of (reverse xs) c.args.stack.now.newest) c.args.self.now.builder (Ok (
      given_of (seen c.args.stack.now.newest.name c.args.stack.now.newest.chosen) (standing_of (reverse xs)
          c.args.stack.now.newest) c.in_ok-made.made,
      c.finish.new.builder,
    ))) c.as_slice.ensures.value
    (c.in_ok-made.ensures.made answered is)) way c.in-Some.frame (reverse c.pop.new.self.items) (one_below
    c.args.stack.now.below.items c.pop.new.self.items c.in-Some.frame c.in-Some.ensures.items) found same)
    c.in_ok-made.ensures.leaves.same_answers c.in_ok-made.ensures.leaves.same_kept c.in_ok-made.ensures.leaves.counted

pub returns-in_ok-take-in-Some-clause-turn : goal.returns-in_ok-take-in-Some-clause-turn
returns-in_ok-take-in-Some-clause-turn g c =
    let done = (subst (λ r. IfOk r (IsCompleted c.args.self.now.asker.index.now (reverse c.args.self.now.nodes.list.items) c.args.stack.now.newest c.in_ok-made.made (reverse c.complete.new.self.list.items) c.complete.new.self.firsts)) c.in_ok-place.was (c.complete.ensures c.args.self.now.asker.index.now c.requires.ready c.in_ok-made.ensures.set)) in
    let after = c.take.new.frame in
    let took = subst (λ (xs : List Node). IsTaken c.args.self.now.asker.index.now (reverse xs) c.in_ok-place.place c.in-Some.frame after) c.as_slice-in-Some.ensures.value c.in_ok-take-in-Some.ensures.taken in
    goes (done_goes c.args.self.now.asker.index.now (reverse c.args.self.now.nodes.list.items) c.args.stack.now.newest (reverse c.args.stack.now.below.items) c.in_ok-made.made (reverse c.complete.new.self.list.items) c.complete.new.self.firsts c.in_ok-place.place done c.requires.kept c.in-Some.frame (reverse c.pop.new.self.items) (one_below c.args.stack.now.below.items c.pop.new.self.items c.in-Some.frame c.in-Some.ensures.items) after took)
    (λ answered is name set start way made. (
      done_leads (loaded_of c.args.self.now.asker.index.now c.args.self.now.roots.now answered) name set start
          (reverse c.args.self.now.nodes.list.items) c.args.stack.now.newest (reverse c.args.stack.now.below.items)
          c.args.self.now.builder c.finish.new.builder c.in_ok-made.made (reverse c.complete.new.self.list.items)
          c.complete.new.self.firsts c.in_ok-place.place done c.requires.kept c.requires.complete (subst (λ (xs : List
          Node). Finishes (loaded_of c.args.self.now.asker.index.now c.args.self.now.roots.now answered) (seen
          c.args.stack.now.newest.name c.args.stack.now.newest.chosen) (standing_of (reverse xs)
          c.args.stack.now.newest) c.args.self.now.builder (Ok (
            given_of (seen c.args.stack.now.newest.name
                c.args.stack.now.newest.chosen) (standing_of (reverse xs) c.args.stack.now.newest) c.in_ok-made.made,
            c.finish.new.builder,
          ))) c.as_slice.ensures.value (c.in_ok-made.ensures.made answered is)) way
          c.in-Some.frame (reverse c.pop.new.self.items) (one_below c.args.stack.now.below.items c.pop.new.self.items
          c.in-Some.frame c.in-Some.ensures.items) after took,
      done_made (loaded_of c.args.self.now.asker.index.now c.args.self.now.roots.now answered) name set start (reverse
          c.args.self.now.nodes.list.items) c.args.stack.now.newest (reverse c.args.stack.now.below.items)
          c.args.self.now.builder c.finish.new.builder c.in_ok-made.made (reverse c.complete.new.self.list.items)
          c.complete.new.self.firsts c.in_ok-place.place done c.requires.kept c.requires.complete (subst (λ (xs : List
          Node). Finishes (loaded_of c.args.self.now.asker.index.now c.args.self.now.roots.now answered) (seen
          c.args.stack.now.newest.name c.args.stack.now.newest.chosen) (standing_of (reverse xs)
          c.args.stack.now.newest) c.args.self.now.builder (Ok (
            given_of (seen c.args.stack.now.newest.name
                c.args.stack.now.newest.chosen) (standing_of (reverse xs) c.args.stack.now.newest) c.in_ok-made.made,
            c.finish.new.builder,
          ))) c.as_slice.ensures.value (c.in_ok-made.ensures.made answered is)) way made
          c.in_ok-made.ensures.grows,
    ))
    c.in_ok-made.ensures.grows (done_adds c.args.self.now.asker.index.now (reverse c.args.self.now.nodes.list.items) c.args.stack.now.newest (reverse c.args.stack.now.below.items) c.in_ok-made.made (reverse c.complete.new.self.list.items) c.complete.new.self.firsts c.in_ok-place.place done) c.in_ok-made.ensures.leaves.same_answers c.in_ok-made.ensures.leaves.same_kept c.in_ok-made.ensures.leaves.counted

pub returns-in_err-made-clause-project : goal.returns-in_err-made-clause-project
returns-in_err-made-clause-project g c = refl

pub returns-in_err-made-clause-roots : goal.returns-in_err-made-clause-roots
returns-in_err-made-clause-roots g c = refl

pub returns-in_err-place-clause-project : goal.returns-in_err-place-clause-project
returns-in_err-place-clause-project g c = refl

pub returns-in_err-place-clause-roots : goal.returns-in_err-place-clause-roots
returns-in_err-place-clause-roots g c = refl

pub returns-in_err-take-in-Some-clause-project : goal.returns-in_err-take-in-Some-clause-project
returns-in_err-take-in-Some-clause-project g c = refl

pub returns-in_err-take-in-Some-clause-roots : goal.returns-in_err-take-in-Some-clause-roots
returns-in_err-take-in-Some-clause-roots g c = refl

pub returns-in-None-clause-project : goal.returns-in-None-clause-project
returns-in-None-clause-project g c = refl

pub returns-in-None-clause-roots : goal.returns-in-None-clause-roots
returns-in-None-clause-roots g c = refl

pub returns-in_ok-take-in-Some-clause-project : goal.returns-in_ok-take-in-Some-clause-project
returns-in_ok-take-in-Some-clause-project g c = refl

pub returns-in_ok-take-in-Some-clause-roots : goal.returns-in_ok-take-in-Some-clause-roots
returns-in_ok-take-in-Some-clause-roots g c = refl
