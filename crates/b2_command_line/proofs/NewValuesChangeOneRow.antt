-- `all_of` finds new values after those that their id had, and of other ids what it found; for the rows of clap.
use Rattle.std.proofs.Common.{◌≡◌, Bool, true, false, cond, ◌||◌, List, [], ◌∷◌, ◌++◌, Option, None, Some, is_some, option_map, unwrap_or, refl, sym, ap, ◌∙◌, ⊎_elim, true≢false, find}
use Rattle.std.proofs.lemmas.Bool.{cases_Bool}
use Rattle.std.specs.Str.{bytes_eq}
use Rattle.std.proofs.lemmas.Slice.Eq.{bytes_eq-Decides}
use Rattle.clap.specs.Words.{Row, Text, all_of}
use Rattle.clap.specs.Walk.{has_row, with_values, more_values, stronger, without}
use Rattle.clap.specs.declared.builder.value_parser.Reading.{Reading}
use Rattle.clap.specs.declared.parser.matches.ValueSource.{ValueSource}

-- a row's values, if its id is this one
by_id : (b : Bool) (r : Row) (rs : List Row) (id : Text) → bytes_eq r.id id ≡ b → all_of id (r ∷ rs) ≡ cond b (Some r.values) (all_of id rs)
by_id true r rs id e = ap (λ (b : Bool). option_map (λ (q : Row). q.values) (cond b (Some r) (find (λ (q : Row). bytes_eq q.id id) rs))) e
by_id false r rs id e = ap (λ (b : Bool). option_map (λ (q : Row). q.values) (cond b (Some r) (find (λ (q : Row). bytes_eq q.id id) rs))) e

pub has_row-all_of : (id : Text) (rows : List Row) → has_row id rows ≡ is_some (all_of id rows)
has_row-all_of id [] = refl
has_row-all_of id (r ∷ rs) = ⊎_elim
    (λ e. ap (λ (b : Bool). b || has_row id rs) e ∙ sym (ap is_some (by_id true r rs id e)))
    (λ e. ap (λ (b : Bool). b || has_row id rs) e ∙ has_row-all_of id rs ∙ sym (ap is_some (by_id false r rs id e)))
    (cases_Bool (bytes_eq r.id id))

-- no row is taken out where there is none
pub without-none : (id : Text) (rows : List Row) → all_of id rows ≡ None → without id rows ≡ rows
without-none id [] e = refl
without-none id (r ∷ rs) e = ⊎_elim
    (λ h. absurd (true≢false (ap is_some (sym (by_id true r rs id h) ∙ e))))
    (λ h. ap (λ (b : Bool). cond b ([] ++ rs) (r ∷ without id rs)) h ∙ ap (λ (t : List Row). r ∷ t) (without-none id rs (sym (by_id false r rs id h) ∙ e)))
    (cases_Bool (bytes_eq r.id id))

module _ (id : Text) (how : Reading) (s : ValueSource) (values : List Text) where
  abbrev put : List Row → List Row
  put rows = with_values id how s values rows

  abbrev put_at : Row → List Row → Bool → List Row
  put_at r rs b = cond b (more_values s values r ++ rs) (r ∷ put rs)

  abbrev more : Option (List Text) → Option (List Text)
  more o = Some (unwrap_or o [] ++ values)

  abbrev fresh : Row
  fresh = record { id = id; values = values; count = None; source = Some s; reading = how }

  abbrev changed : Row → Row
  changed r = record r { values = r.values ++ values; source = Some (stronger r.source s) }

  -- the values of this id go after those that it has
  pub all_of-same : (rows : List Row) → bytes_eq id id ≡ true → all_of id (with_values id how s values rows) ≡ Some (unwrap_or (all_of id rows) [] ++ values)
  all_of-same [] self = by_id true fresh [] id self
  all_of-same (r ∷ rs) self = ⊎_elim
      (λ e. ap (λ (b : Bool). all_of id (put_at r rs b)) e ∙ by_id true (changed r) rs id e ∙ sym (ap more (by_id true r rs id e)))
      (λ e. ap (λ (b : Bool). all_of id (put_at r rs b)) e ∙ by_id false r (put rs) id e ∙ all_of-same rs self ∙ sym (ap more (by_id false r rs id e)))
      (cases_Bool (bytes_eq r.id id))

  -- and another id has the values that it had
  pub all_of-other : (other : Text) (rows : List Row) → bytes_eq id other ≡ false → all_of other (with_values id how s values rows) ≡ all_of other rows
  all_of-other other [] ne = by_id false fresh [] other ne
  all_of-other other (r ∷ rs) ne = ⊎_elim
      (λ e.
      let apart : bytes_eq r.id other ≡ false = ap (λ (t : Text). bytes_eq t other) ((bytes_eq-Decides r.id id).0 e) ∙ ne in
      ap (λ (b : Bool). all_of other (put_at r rs b)) e ∙ by_id false (changed r) rs other apart ∙ sym (by_id false r rs other apart))
      (λ e. ap (λ (b : Bool). all_of other (put_at r rs b)) e ∙ ⊎_elim
      (λ h. by_id true r (put rs) other h ∙ sym (by_id true r rs other h))
      (λ h. by_id false r (put rs) other h ∙ all_of-other other rs ne ∙ sym (by_id false r rs other h))
      (cases_Bool (bytes_eq r.id other)))
      (cases_Bool (bytes_eq r.id id))
