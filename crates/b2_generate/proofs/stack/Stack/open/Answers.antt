use Rattle.std.proofs.Common.{arith, ℕ, ◌++◌, ◌∷◌, [], reverse, ap, sym, subst, ◌∙◌}
use Rattle.std.proofs.lemmas.Result.{err_from_is_err_and}
use Rattle.b2_generate.specs.Tables.{Table}
use Rattle.b2_generate.specs.Waiting.{AreFound}
use Rattle.b2_generate.proofs.OpenTargetsAreFound.{opened_found, opened_closed}
use Rattle.b2_generate.proofs.EarlyExitGivesTheFault.{none_made}
use Rattle.b2_generate.proofs.stack.Stack.open.Goals as goal

pub returns-in_err-insert-clause-newest : goal.returns-in_err-insert-clause-newest
returns-in_err-insert-clause-newest c = let p = err_from_is_err_and c.from_residual.result c.from_residual.ensures.1 in none_made c.from_residual.result p.0 _ p.1

pub returns-in_err-insert-clause-below : goal.returns-in_err-insert-clause-below
returns-in_err-insert-clause-below c = let p = err_from_is_err_and c.from_residual.result c.from_residual.ensures.1 in none_made c.from_residual.result p.0 _ p.1

pub invariant_of-self : goal.invariant_of-self
invariant_of-self c = record {
  found = subst (λ (t : Table ℕ). AreFound t (reverse c.args.self.now.below.items)) (sym c.in_err-insert.ensures.same) c.args.self.now.found;
  closed = c.args.self.now.closed;
}

pub invariant_of-self-2 : goal.invariant_of-self-2
invariant_of-self-2 c =
    let s = c.args.self.now in
    record {
      found = opened_found s.places c.insert.new.self s.newest c.replace-waiting.result c.len-place.result s.below.items c.push.new.self.items _ s.found s.closed c.in_ok-insert.ensures.given
          (omega (arith, c.len-place.ensures, s.below.ok.0)) c.replace-waiting.ensures.value c.push.ensures.items;
      closed = opened_closed s.newest c.replace-waiting.result c.args.frame c.replace-waiting.new.dest s.below.items c.push.new.self.items _ c.requires.closed c.replace-waiting.ensures.value
          c.replace-waiting.ensures.after c.push.ensures.items;
    }

pub returns-in_err-push-clause-newest : goal.returns-in_err-push-clause-newest
returns-in_err-push-clause-newest c = let p = err_from_is_err_and c.from_residual-in_err-push.result c.from_residual-in_err-push.ensures.1 in none_made c.from_residual-in_err-push.result p.0 _ p.1

pub returns-in_err-push-clause-below : goal.returns-in_err-push-clause-below
returns-in_err-push-clause-below c = let p = err_from_is_err_and c.from_residual-in_err-push.result c.from_residual-in_err-push.ensures.1 in none_made c.from_residual-in_err-push.result p.0 _ p.1

pub returns-clause-newest : goal.returns-clause-newest
returns-clause-newest c = c.replace-waiting.ensures.after

pub returns-clause-below : goal.returns-clause-below
returns-clause-below c = c.in_ok-push.ensures.items ∙ ap (λ w. c.args.self.now.below.items ++ w ∷ []) c.replace-waiting.ensures.value
