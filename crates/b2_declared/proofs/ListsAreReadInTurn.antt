-- Each property list that is read is added to those before it; a text that is not read or a clash is the fault of all.
use Rattle.std.proofs.Common.{◌≡◌, ℕ, true, false, List, ◌∷◌, ◌++◌, Ok, refl, sym, ◌∙◌, ap, subst}
use Rattle.std.specs.Prelude.{Result}
use Rattle.b2_features.specs.Table.{DeclaredFeature}
use Rattle.b2_props.specs.Sets.{Pair}
use Rattle.b2_property_texts.specs.declared.reading.Conditional.{Conditional}
use Rattle.b2_property_texts.specs.declared.reading.RequirementText.{RequirementText}
use Rattle.b2_declaring_calls.specs.declared.declaration.ListName.TheVariants.{Requirements, DefaultBuild, Usage}
use Rattle.b2_declaring_calls.specs.declared.declaration.PropertyList.{PropertyList}
use Rattle.b2_declared.specs.declared.fault.DeclaringFault.{DeclaringFault}
use Rattle.b2_declared.specs.declared.lists.Lists.{Lists}
use Rattle.b2_declared.specs.declared.visit.Visit.{Visit}
use Rattle.b2_declared.specs.declared.visit.Call.{Call}
use Rattle.b2_declared.specs.Outcomes.{IsFaultOf}
use Rattle.b2_declared.specs.DeclaringCalls.{refusal, unless, at_call, IsRefusal}
use Rattle.b2_declared.specs.Carrying.{properties_in}
use Rattle.b2_declared.specs.Gathering.{requirements_in, usages_in, with_texts, has_clash, with_list, with_lists}
use Rattle.b2_declared.proofs.RefusalIsTheStepsFault.{read_fault_then, read_then, unless_refused, unrefused}
use Rattle.b2_declared.proofs.StepsComposeUntilAFault.{fault_then, then_next, then_fault}

-- ---- the texts of one list

module _ (features : List DeclaredFeature) (v : Visit) (c : Call) (texts : List (List ℕ)) (l : Lists) where
  pub requirements_fault : (f : DeclaringFault) → IsFaultOf (at_call v c (requirements_in features v texts)) f → IsFaultOf (with_texts features v c Requirements texts l) f
  unfolding with_texts
  requirements_fault f fault = read_fault_then v c (requirements_in features v texts) (λ rs. Ok (record l { requirements = l.requirements ++ rs })) f fault

  pub requirements_read : (rs : List RequirementText) → requirements_in features v texts ≡ Ok rs → with_texts features v c Requirements texts l ≡ Ok (record l { requirements = l.requirements ++ rs })
  unfolding with_texts
  requirements_read rs read =
      read_then v c (requirements_in features v texts) (λ rs. Ok (record l { requirements = l.requirements ++ rs })) rs (Ok (record l { requirements = l.requirements ++ rs })) read refl

  pub defaults_fault : (f : DeclaringFault) → IsFaultOf (at_call v c (properties_in features v texts)) f → IsFaultOf (with_texts features v c DefaultBuild texts l) f
  unfolding with_texts
  defaults_fault f fault = read_fault_then v c (properties_in features v texts) (λ ds. Ok (record l { defaults = l.defaults ++ ds })) f fault

  pub defaults_read : (ds : List Pair) → properties_in features v texts ≡ Ok ds → with_texts features v c DefaultBuild texts l ≡ Ok (record l { defaults = l.defaults ++ ds })
  unfolding with_texts
  defaults_read ds read =
      read_then v c (properties_in features v texts) (λ ds. Ok (record l { defaults = l.defaults ++ ds })) ds (Ok (record l { defaults = l.defaults ++ ds })) read refl

  pub usage_fault : (f : DeclaringFault) → IsFaultOf (at_call v c (usages_in features v texts)) f → IsFaultOf (with_texts features v c Usage texts l) f
  unfolding with_texts
  usage_fault f fault = read_fault_then v c (usages_in features v texts) (λ us. Ok (record l { usage = l.usage ++ us })) f fault

  pub usage_read : (us : List Conditional) → usages_in features v texts ≡ Ok us → with_texts features v c Usage texts l ≡ Ok (record l { usage = l.usage ++ us })
  unfolding with_texts
  usage_read us read = read_then v c (usages_in features v texts) (λ us. Ok (record l { usage = l.usage ++ us })) us (Ok (record l { usage = l.usage ++ us })) read refl

-- ---- one list, and all of them

module _ (features : List DeclaredFeature) (v : Visit) (c : Call) (list : PropertyList) (more : List PropertyList) (l : Lists) where
  checked : Lists → Result Lists DeclaringFault
  checked next = unless v c (has_clash features list more next) (Ok next)

  -- a text that was not read
  pub texts_fault : (texts : List (List ℕ)) (f : DeclaringFault) → texts ≡ list.texts → IsFaultOf (with_texts features v c list.name texts l) f → IsFaultOf (with_list features v c list more l) f
  unfolding with_list checked
  texts_fault texts f same fault =
      fault_then checked (with_texts features v c list.name list.texts l) f (subst (λ ts. IsFaultOf (with_texts features v c list.name ts l) f) same fault)

  module _ (next : Lists) (read : with_texts features v c list.name list.texts l ≡ Ok next) where
    -- two values of one feature
    pub clash_fault : (f : DeclaringFault) → has_clash features list more next ≡ true → IsRefusal (refusal v c) f → IsFaultOf (with_list features v c list more l) f
    unfolding with_list checked
    clash_fault f clash answers = then_fault checked (with_texts features v c list.name list.texts l) next f read (unless_refused v c (has_clash features list more next) (Ok next) f clash answers)

    pub list_read : has_clash features list more next ≡ false → with_list features v c list more l ≡ Ok next
    unfolding with_list checked
    list_read fine = then_next checked (with_texts features v c list.name list.texts l) next read ∙ unrefused v c (has_clash features list more next) (Ok next) fine

  further : Lists → Result Lists DeclaringFault
  further next = with_lists features v c next more

  -- the first list that is refused
  pub list_fault : (whole : Result Lists DeclaringFault) (left : List PropertyList) (f : DeclaringFault) → whole ≡ with_lists features v c l left → left ≡ list ∷ more → IsFaultOf (with_list features v c list more l) f → IsFaultOf whole f
  unfolding further
  list_fault whole left f is same fault = subst (λ r. IsFaultOf r f) (sym (is ∙ ap (with_lists features v c l) same)) (fault_then further (with_list features v c list more l) f fault)

  -- one more list
  pub list_next : (next : Lists) → with_list features v c list more l ≡ Ok next → with_lists features v c l (list ∷ more) ≡ with_lists features v c next more
  unfolding further
  list_next next read = then_next further (with_list features v c list more l) next read
