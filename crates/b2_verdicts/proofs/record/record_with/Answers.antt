use Rattle.std.proofs.Common.{sym, subst, inl, inr, MatchOption}
use Rattle.b2_verdicts.specs.Sights.{AreNumbers}
use Rattle.b2_verdicts.specs.Stamps.{AreLogged}
use Rattle.b2_verdicts.specs.Made.{IsSomeUnseen}
use Rattle.b2_verdicts.proofs.record.record_with.Goals as goal

pub stamped-requires : goal.stamped-requires
stamped-requires c = subst (AreNumbers c.args.facts.now) (sym c.as_slice.ensures) c.requires.outs

pub stamped-requires-2 : goal.stamped-requires-2
stamped-requires-2 c = subst (AreNumbers c.args.facts.now) (sym c.as_slice-2.ensures) c.requires.ins

pub returns-clause-made : goal.returns-clause-made
returns-clause-made c = λ by_digest has. record {
  text = c.in_ok-copy.ensures;
  outs = subst (AreLogged c.args.facts.now c.in-Some.outs) c.as_slice.ensures (subst (λ made. MatchOption made (IsSomeUnseen c.args.facts.now c.as_slice.result.now) (λ files. AreLogged c.args.facts.now files c.as_slice.result.now)) c.in-Some.is c.in_ok-outs.ensures);
  ins = subst (AreLogged c.args.facts.now c.in-Some-2.ins) c.as_slice-2.ensures (subst (λ made. MatchOption made (IsSomeUnseen c.args.facts.now c.as_slice-2.result.now) (λ files. AreLogged c.args.facts.now files c.as_slice-2.result.now)) c.in-Some-2.is c.in_ok-ins.ensures);
  digests = has;
}

pub returns-in_default-clause-gone : goal.returns-in_default-clause-gone
returns-in_default-clause-gone c = inl (subst (IsSomeUnseen c.args.facts.now) c.as_slice.ensures (subst (λ made. MatchOption made (IsSomeUnseen c.args.facts.now c.as_slice.result.now) (λ files. AreLogged c.args.facts.now files c.as_slice.result.now)) c.in_default.is c.in_ok-outs.ensures))

pub returns-in_default-2-clause-gone : goal.returns-in_default-2-clause-gone
returns-in_default-2-clause-gone c = inr (subst (IsSomeUnseen c.args.facts.now) c.as_slice-2.ensures (subst (λ made. MatchOption made (IsSomeUnseen c.args.facts.now c.as_slice-2.result.now) (λ files. AreLogged c.args.facts.now files c.as_slice-2.result.now)) c.in_default-2.is c.in_ok-ins.ensures))
