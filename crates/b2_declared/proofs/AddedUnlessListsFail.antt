-- A project's attributes or a target are added once the lists of their call are read; the fault of the lists is theirs.
use Rattle.std.proofs.Common.{◌≡◌, ℕ, ◌++◌, List, Ok, length, refl, sym, ◌∙◌, ap, subst}
use Rattle.std.specs.Prelude.{Result}
use Rattle.b2_base.specs.Results.{and_then}
use Rattle.b2_features.specs.Table.{DeclaredFeature}
use Rattle.b2_declaring_calls.specs.declared.declaration.Attributes.{Attributes}
use Rattle.b2_declaring_calls.specs.declared.declaration.MainTarget.{MainTarget}
use Rattle.b2_declaring_calls.specs.declared.declaration.PropertyList.{PropertyList}
use Rattle.b2_declaring_calls.specs.declared.declaration.Test.{Test}
use Rattle.b2_declared.specs.declared.fault.DeclaringFault.{DeclaringFault}
use Rattle.b2_declared.specs.declared.lists.Lists.{Lists}
use Rattle.b2_declared.specs.declared.visit.Visit.{Visit}
use Rattle.b2_declared.specs.declared.visit.Call.{Call}
use Rattle.b2_declared.specs.declared.place.Place.{Place}
use Rattle.b2_declared.specs.declared.place.Target.{Target}
use Rattle.b2_declared.specs.declared.place.TestCall.{TestCall}
use Rattle.b2_declared.specs.declared.place.IndirectRule.{IndirectRule}
use Rattle.b2_declared.specs.declared.gathered.DeclaredSoFar.{DeclaredSoFar}
use Rattle.b2_declared.specs.Outcomes.{IsFaultOf}
use Rattle.b2_declared.specs.Gathering.{Gathered, lists_in, rules_in, with_place, attributed, with_own_id, one_target_more, one_test_more, with_attributes, with_target, with_test}
use Rattle.b2_declared.specs.Views.{brought}
use Rattle.b2_declared.proofs.StepsComposeUntilAFault.{fault_then, then_next}

module _ (features : List DeclaredFeature) (v : Visit) (c : Call) (g : Gathered) where
  module _ (a : Attributes) where
    adds : Lists → Result Gathered DeclaringFault
    adds l = Ok (record g { places = with_place g.places c.project (attributed (length g.indirect) l); ids = with_own_id g.ids a.id v.dir; indirect = g.indirect ++ rules_in c l.requirements })

    is_so : with_attributes features v c a g ≡ and_then adds (lists_in features v c a.lists)
    unfolding with_attributes adds
    is_so = refl

    pub attributes_fault : (f : DeclaringFault) → IsFaultOf (lists_in features v c a.lists) f → IsFaultOf (with_attributes features v c a g) f
    attributes_fault f fault = subst (λ r. IsFaultOf r f) (sym is_so) (fault_then adds (lists_in features v c a.lists) f fault)

    pub attributes_added : (l : Lists) → lists_in features v c a.lists ≡ Ok l → with_attributes features v c a g ≡ Ok (record g { places = with_place g.places c.project (attributed (length g.indirect) l); ids = with_own_id g.ids a.id v.dir; indirect = g.indirect ++ rules_in c l.requirements })
    unfolding adds
    attributes_added l e = is_so ∙ then_next adds (lists_in features v c a.lists) l e

    -- the same of lists that are those of the call
    pub attributes_fault_at : (lists : List PropertyList) (f : DeclaringFault) → lists ≡ a.lists → IsFaultOf (lists_in features v c lists) f → IsFaultOf (with_attributes features v c a g) f
    attributes_fault_at lists f same fault = attributes_fault f (subst (λ ls. IsFaultOf (lists_in features v c ls) f) same fault)

  module _ (m : MainTarget) where
    target_is_so : with_target features v c m g ≡ and_then (λ l. Ok (one_target_more c m l g)) (lists_in features v c m.lists)
    unfolding with_target
    target_is_so = refl

    pub target_fault : (f : DeclaringFault) → IsFaultOf (lists_in features v c m.lists) f → IsFaultOf (with_target features v c m g) f
    target_fault f fault = subst (λ r. IsFaultOf r f) (sym target_is_so) (fault_then (λ l. Ok (one_target_more c m l g)) (lists_in features v c m.lists) f fault)

    pub target_added : (l : Lists) → lists_in features v c m.lists ≡ Ok l → with_target features v c m g ≡ Ok (one_target_more c m l g)
    target_added l e = target_is_so ∙ then_next (λ l. Ok (one_target_more c m l g)) (lists_in features v c m.lists) l e

    pub target_fault_at : (lists : List PropertyList) (f : DeclaringFault) → lists ≡ m.lists → IsFaultOf (lists_in features v c lists) f → IsFaultOf (with_target features v c m g) f
    target_fault_at lists f same fault = target_fault f (subst (λ ls. IsFaultOf (lists_in features v c ls) f) same fault)

  module _ (test : Test) where
    test_is_so : with_test features v c test g ≡ and_then (λ l. Ok (one_test_more c test l g)) (lists_in features v c test.lists)
    unfolding with_test
    test_is_so = refl

    test_fault : (f : DeclaringFault) → IsFaultOf (lists_in features v c test.lists) f → IsFaultOf (with_test features v c test g) f
    test_fault f fault = subst (λ r. IsFaultOf r f) (sym test_is_so) (fault_then (λ l. Ok (one_test_more c test l g)) (lists_in features v c test.lists) f fault)

    pub test_added : (l : Lists) → lists_in features v c test.lists ≡ Ok l → with_test features v c test g ≡ Ok (one_test_more c test l g)
    test_added l e = test_is_so ∙ then_next (λ l. Ok (one_test_more c test l g)) (lists_in features v c test.lists) l e

    pub test_fault_at : (lists : List PropertyList) (f : DeclaringFault) → lists ≡ test.lists → IsFaultOf (lists_in features v c lists) f → IsFaultOf (with_test features v c test g) f
    test_fault_at lists f same fault = test_fault f (subst (λ ls. IsFaultOf (lists_in features v c ls) f) same fault)

-- what stands after a project got its lists and its id
pub attributed_is : (v : Visit) (c : Call) (a : Attributes) (l : Lists) (g : Gathered) (mid new : DeclaredSoFar)
    → mid.places.items ≡ with_place g.places c.project (attributed (length g.indirect) l)
    → mid.indirect ≡ g.indirect ++ rules_in c l.requirements
    → mid.targets ≡ g.targets
    → mid.tests ≡ g.tests
    → mid.ids ≡ g.ids
    → new ≡ record mid { ids = with_own_id mid.ids a.id v.dir }
    → brought new ≡ record g { places = with_place g.places c.project (attributed (length g.indirect) l); ids = with_own_id g.ids a.id v.dir; indirect = g.indirect ++ rules_in c l.requirements }
attributed_is v c a l g mid new places rules targets tests ids is =
    let made : List Place → List Target → List TestCall → List (List ℕ × List ℕ) → List IndirectRule → Gathered = λ ps ts cs xs rs. record { places = ps; targets = ts; tests = cs; ids = with_own_id xs a.id v.dir; indirect = rs } in
    ap brought is
    ∙ ap (λ ps. made ps mid.targets mid.tests mid.ids mid.indirect) places
    ∙ ap (λ ts. made (with_place g.places c.project (attributed (length g.indirect) l)) ts mid.tests mid.ids mid.indirect) targets
    ∙ ap (λ cs. made (with_place g.places c.project (attributed (length g.indirect) l)) g.targets cs mid.ids mid.indirect) tests
    ∙ ap (λ xs. made (with_place g.places c.project (attributed (length g.indirect) l)) g.targets g.tests xs mid.indirect) ids
    ∙ ap (λ rs. made (with_place g.places c.project (attributed (length g.indirect) l)) g.targets g.tests g.ids rs) rules
