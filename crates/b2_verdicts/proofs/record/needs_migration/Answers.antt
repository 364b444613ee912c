use Rattle.std.proofs.Common.{List, ℕ, sym, ap, subst, ◌∙◌}
use Rattle.std.specs.Option.{option_copied}
use Rattle.std.proofs.lemmas.Bool.{true≢false}
use Rattle.b2_facts.proofs.ListsAtPlaces.{none_some}
use Rattle.b2_verdicts.specs.Stamps.{AreLogged}
use Rattle.b2_verdicts.proofs.StampsAreCompared.{same_files}
use Rattle.b2_verdicts.proofs.MigrationsAreNeeded.{last_has_digests, last_has_files, already_by}
use Rattle.b2_verdicts.proofs.record.needs_migration.Goals as goal

pub returns-in-None-clause-needed : goal.returns-in-None-clause-needed
returns-in-None-clause-needed c = λ e by_digest step made log is found already. none_some already.last (sym (found ∙ ap option_copied c.in-None.is) ∙ already.found)

pub returns-in-None-clause-already : goal.returns-in-None-clause-already
returns-in-None-clause-already c = λ e. absurd (true≢false e)

pub returns-then-is_none-clause-needed : goal.returns-then-is_none-clause-needed
returns-then-is_none-clause-needed c = λ e by_digest step made log is found already. true≢false (sym (last_has_digests step.outs log made c.in-Some.last.now (found ∙ ap option_copied c.in-Some.is) already) ∙ c.if-is_none.ensures)

pub returns-then-is_none-clause-already : goal.returns-then-is_none-clause-already
returns-then-is_none-clause-already c = λ e. absurd (true≢false (sym c.if-is_none.true ∙ e))

pub returns-else-is_none-clause-needed : goal.returns-else-is_none-clause-needed
returns-else-is_none-clause-needed c = λ e by_digest step made log is found already.
    (let (outs, members) = last_has_files step.outs log made c.in-Some.last.now (found ∙ ap option_copied c.in-Some.is) already in
    c.has_others.ensures.others e (subst (λ (l : List (List ℕ × ℕ)). AreLogged c.args.facts.now l c.args.numbers.now.outs) (sym outs) is.outs, subst (λ (l : List (List ℕ × ℕ)). AreLogged c.args.facts.now l c.args.numbers.now.ins) (sym members) is.ins))

pub returns-else-is_none-clause-already : goal.returns-else-is_none-clause-already
returns-else-is_none-clause-already c = λ e by_digest step made log is found.
    (let logged = c.has_others.ensures.logged e in
    already_by step.outs log made c.in-Some.last.now (found ∙ ap option_copied c.in-Some.is) c.if-is_none.ensures (same_files c.args.facts.now c.args.numbers.now.outs c.in-Some.last.now.outs made.outs logged.0 is.outs) (same_files c.args.facts.now c.args.numbers.now.ins c.in-Some.last.now.ins made.ins logged.1 is.ins))
