use Rattle.std.proofs.Common.{ℕ, List, sym, subst}
use Rattle.std.proofs.lemmas.Result.{IfOk-weaker}
use Rattle.b2_generators.specs.declared.generator.Generator.{Generator}
use Rattle.b2_generators.specs.declared.fault.ChainFault.{ChainFault}
use Rattle.b2_generators.specs.Chains.{IsChain, IsOnlyShortest}
use Rattle.b2_generators.specs.Faults.{IsBetween, IsNoChainBy, IsTwoChainsBy}
use Rattle.b2_generators.proofs.WaysDownAreShortestChains.{connected, start_goes_on, apart_no_chain}
use Rattle.b2_generators.proofs.AnswerNamesShortestChains.{layers_of, apart_of, only_of, tells_two, tells_some, tells_between, IfErr-weaker}
use Rattle.b2_generators.proofs.chain.chain.Goals as goal

pub find-requires-clause-connected : goal.find-requires-clause-connected
find-requires-clause-connected c =
    let are = layers_of c.generators-generators.result.now c.args.set.now c.args.to.now c.args.from.now (λ l. l.items) c.in_ok-layers.field-0 c.in-Some.layers c.as_slice.result.now c.in_ok-layers.ensures.found c.in-Some.is c.as_slice.ensures.value in
    connected c.generators-generators.result.now c.args.set.now c.args.to.now c.as_slice.result.now are.order

pub find-requires-clause-start : goal.find-requires-clause-start
find-requires-clause-start c =
    let are = layers_of c.generators-generators.result.now c.args.set.now c.args.to.now c.args.from.now (λ l. l.items) c.in_ok-layers.field-0 c.in-Some.layers c.as_slice.result.now c.in_ok-layers.ensures.found c.in-Some.is c.as_slice.ensures.value in
    start_goes_on c.generators-generators.result.now c.args.set.now c.args.to.now c.args.from.now c.as_slice.result.now are

pub returns-in_default-clause-no_chain : goal.returns-in_default-clause-no_chain
returns-in_default-clause-no_chain c =
    let apart = apart_of c.generators-generators.result.now c.args.set.now c.args.to.now c.args.from.now c.in_ok-layers.field-0 c.in_ok-layers.ensures.none c.in_default.is in
    subst (λ (fault : ChainFault). IsNoChainBy c.args.types.now.generators c.args.set.now c.args.from.now c.args.to.now fault) (sym c.in_ok-no_chain.ensures)
    (subst (λ (generators : List Generator). (places : List ℕ) → IsChain generators c.args.set.now c.args.from.now c.args.to.now places → ⊥) c.generators-generators.ensures (apart_no_chain c.generators-generators.result.now c.args.set.now c.args.to.now c.args.from.now apart))

pub returns-clause-only : goal.returns-clause-only
returns-clause-only c =
    let are = layers_of c.generators-generators.result.now c.args.set.now c.args.to.now c.args.from.now (λ l. l.items) c.in_ok-layers.field-0 c.in-Some.layers c.as_slice.result.now c.in_ok-layers.ensures.found c.in-Some.is c.as_slice.ensures.value in
    IfOk-weaker c.answer.result _ (λ chain. IsOnlyShortest c.args.types.now.generators c.args.set.now c.args.from.now c.args.to.now chain.ids)
    (λ chain is. subst (λ (ids : List (List ℕ)). IsOnlyShortest c.args.types.now.generators c.args.set.now c.args.from.now c.args.to.now ids) (sym is.1)
    (subst (λ (generators : List Generator). IsOnlyShortest generators c.args.set.now c.args.from.now c.args.to.now c.in_ok-found.found.first) c.generators-generators.ensures
    (only_of c.generators-generators.result.now c.args.set.now c.args.to.now c.args.from.now c.as_slice.result.now are c.in_ok-found.found.first c.in_ok-found.found.second c.in_ok-found.ensures is.0))) c.answer.ensures.one

pub returns-clause-between : goal.returns-clause-between
returns-clause-between c = IfErr-weaker c.answer.result _ (IsBetween c.args.from.now c.args.to.now) (λ fault tells. tells_between c.args.from.now c.args.to.now c.in_ok-found.found.first c.in_ok-found.found.second fault tells) c.answer.ensures.two

pub returns-clause-no_chain : goal.returns-clause-no_chain
returns-clause-no_chain c =
    let are = layers_of c.generators-generators.result.now c.args.set.now c.args.to.now c.args.from.now (λ l. l.items) c.in_ok-layers.field-0 c.in-Some.layers c.as_slice.result.now c.in_ok-layers.ensures.found c.in-Some.is c.as_slice.ensures.value in
    IfErr-weaker c.answer.result _ (IsNoChainBy c.args.types.now.generators c.args.set.now c.args.from.now c.args.to.now)
    (λ fault tells. subst (λ (generators : List Generator). IsNoChainBy generators c.args.set.now c.args.from.now c.args.to.now fault) c.generators-generators.ensures
    (tells_some c.generators-generators.result.now c.args.set.now c.args.to.now c.args.from.now c.as_slice.result.now are c.in_ok-found.found.first c.in_ok-found.found.second fault tells)) c.answer.ensures.two

pub returns-clause-two_chains : goal.returns-clause-two_chains
returns-clause-two_chains c =
    let are = layers_of c.generators-generators.result.now c.args.set.now c.args.to.now c.args.from.now (λ l. l.items) c.in_ok-layers.field-0 c.in-Some.layers c.as_slice.result.now c.in_ok-layers.ensures.found c.in-Some.is c.as_slice.ensures.value in
    IfErr-weaker c.answer.result _ (IsTwoChainsBy c.args.types.now.generators c.args.set.now c.args.from.now c.args.to.now)
    (λ fault tells. subst (λ (generators : List Generator). IsTwoChainsBy generators c.args.set.now c.args.from.now c.args.to.now fault) c.generators-generators.ensures
    (tells_two c.generators-generators.result.now c.args.set.now c.args.to.now c.args.from.now c.as_slice.result.now are c.in_ok-found.found.first c.in_ok-found.found.second fault c.in_ok-found.ensures tells)) c.answer.ensures.two
