-- While no pair conflicts with those before it, the first values of features are kept, and the conflict is to come.
use Rattle.std.proofs.Common.{◌≡◌, ℕ, ◌+◌, ◌<◌, Bool, true, false, cond, List, [], ◌∷◌, ◌++◌, Option, Some, None, take, drop, get_or, length, refl, sym, ◌∙◌, ap, append_assoc}
use Rattle.std.specs.Option.{option_or, option_map}
use Rattle.std.specs.Str.{bytes_eq}
use Rattle.std.proofs.lemmas.List.{at_drop_more}
use Rattle.b2_features.specs.Table.{DeclaredFeature}
use Rattle.b2_props.specs.Sets.{Pair, value_of}
use Rattle.b2_props.proofs.RepeatedPairsAddNothing.{value_of-append, option_or-none}
use Rattle.b2_props.proofs.DraftHoldsEachGainedPair.{next_take}
use Rattle.b2_alternatives.specs.Needs.{other_value, conflict_after}
use Rattle.b2_alternatives.specs.DependencyWork.{AreValues}
use Rattle.b2_alternatives.specs.Conflicting.{HasFirst}
use Rattle.b2_alternatives.specs.declared.conflict.Conflict.{Conflict}
use Rattle.b2_alternatives.specs.declared.conflict.Values.{Values}

-- none of the first pairs conflicts, and their values are kept
pub record IsMet (table : List DeclaredFeature) (before pairs : List Pair) (i : ℕ) (values : Values) : Type 0 where
  pub exact : conflict_after table (before ++ take i pairs) (drop i pairs) ≡ conflict_after table before pairs
  pub kept : AreValues (before ++ take i pairs) values

-- the values after one more pair
pub values_more : (before : List Pair) (p : Pair) (old new : Values) → AreValues before old → HasFirst p old new → AreValues (before ++ p ∷ []) new
values_more before p old new were become = record {
  first = λ q.
      become q ∙ ap (λ o. cond (bytes_eq q p.0) (option_or o (Some p.1)) o) (were.first q) ∙ go (bytes_eq q p.0) (value_of before q) ∙ sym (value_of-append before (p ∷ []) q);
}
  where
    go : (b : Bool) (o : Option (List ℕ)) → cond b (option_or o (Some p.1)) o ≡ option_or o (cond b (Some p.1) None)
    go true o = refl
    go false o = sym (option_or-none o)

module _ (table : List DeclaredFeature) (before pairs : List Pair) (i : ℕ) (x : Pair) (within : i < length pairs) (is : x ≡ get_or pairs i x) where
  abbrev now : List Pair
  now = before ++ take i pairs

  next : before ++ take (i + 1) pairs ≡ now ++ x ∷ []
  next = ap (λ (ps : List Pair). before ++ ps) (next_take pairs i x within is) ∙ sym (append_assoc before (take i pairs) (x ∷ []))

  cut : conflict_after table now (drop i pairs) ≡ conflict_after table now (x ∷ drop (i + 1) pairs)
  cut = at_drop_more (conflict_after table now) pairs i x within ∙ ap (λ (p : Pair). conflict_after table now (p ∷ drop (i + 1) pairs)) (sym is)

  -- one more pair that goes with those before it
  pub met_more : (old new : Values) → IsMet table before pairs i old → other_value table now x ≡ None → HasFirst x old new → IsMet table before pairs (i + 1) new
  met_more old new met none become = record {
    exact =
        ap (λ (ps : List Pair). conflict_after table ps (drop (i + 1) pairs)) next
        ∙ sym (cut ∙ ap (λ o. option_or (option_map (λ value. let found : Conflict = record { feature = x.0; first = value; second = x.1 } in found) o) (conflict_after table (now ++ x ∷ []) (drop (i + 1) pairs))) none)
        ∙ met.exact;
    kept = kept_at (values_more now x old new met.kept become);
  }
    where
      kept_at : AreValues (now ++ x ∷ []) new → AreValues (before ++ take (i + 1) pairs) new
      kept_at v = record { first = λ q. v.first q ∙ sym (ap (λ ps. value_of ps q) next) }
