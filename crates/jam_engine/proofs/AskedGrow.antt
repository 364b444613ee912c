-- The set of the sources of which acts ask grows by those of one act more.
use Rattle.std.proofs.Common.{◌≡◌, ◌⊎◌, inl, inr, ℕ, ◌+◌, ◌<◌, Bool, true, false, ◌||◌, List, [], ◌∷◌, ◌++◌, length, get_or, take, refl, sym, ap, ◌∙◌, subst}
use Rattle.std.specs.List.{Contains}
use Rattle.std.specs.Str.{bytes_eq}
use Rattle.std.proofs.lemmas.Bool.{true≢false}
use Rattle.std.proofs.lemmas.List.Elements.{Contains-append_cases}
use Rattle.std.proofs.lemmas.Slice.Eq.{bytes_eq-Decides}
use Rattle.b2_host.specs.OutsideLaws.{only_one}
use Rattle.jam_journal.specs.Tables.{Text, Names}
use Rattle.jam_journal.specs.Scopes.{Value}
use Rattle.jam_graph.specs.declared.graph.Act.{Act}
use Rattle.jam_graph.specs.declared.graph.Graph.{Graph}
use Rattle.jam_graph.proofs.ListsGrow.{taken}
use Rattle.jam_engine.specs.Acts.{is_existing}
use Rattle.jam_engine.specs.Tables.{is_in}
use Rattle.jam_engine.specs.Targets.{has}
use Rattle.jam_engine.proofs.LabelsGrow.{among, none_there}

left_or : (a b : Bool) → a ≡ true → (a || b) ≡ true
left_or true b e = refl
left_or false b e = absurd (true≢false (sym e))

right_or : (a b : Bool) → b ≡ true → (a || b) ≡ true
right_or true b e = refl
right_or false b e = e

-- a list has each of its texts
pub has_each : (xs : Value) (text : Text) → Contains xs text → has xs text ≡ true
has_each [] text c = absurd (none_there text c)
has_each (x ∷ xs) text c = go (among x xs text c) (λ k. has_each xs text k)
  where
    go : (x ≡ text) ⊎ Contains xs text → (Contains xs text → has xs text ≡ true) → (bytes_eq text x || has xs text) ≡ true
    go (inl e) rest = left_or (bytes_eq text x) (has xs text) ((bytes_eq-Decides text x).1 (sym e))
    go (inr k) rest = right_or (bytes_eq text x) (has xs text) (rest k)

module _ (g : Graph) where
  -- each source of which one of these acts asks is in the set
  abbrev pub AskedIn : List Act → Names Bool → Type 0
  AskedIn acts asked = (act : Act) (text : Text) → Contains acts act → is_existing g act ≡ true → Contains act.sources text → is_in asked text ≡ true

  pub none_asked : (asked : Names Bool) → AskedIn [] asked
  none_asked asked act text c asks from = absurd (none_there act c)

  -- the next act asks
  pub asked_more : (acts : List Act) (i : ℕ) (act : Act) (sources : Value) (before after : Names Bool) → i < length acts → act ≡ get_or acts i act → sources ≡ act.sources
      → ((t : Text) → is_in after t ≡ (is_in before t || has sources t)) → AskedIn (take i acts) before → AskedIn (take (i + 1) acts) after
  asked_more acts i act sources before after low is sources_are adds h = subst (λ (l : List Act). AskedIn l after) (taken acts i act low is) so
    where
      so : AskedIn (take i acts ++ act ∷ []) after
      so one text c asks from = go (Contains-append_cases (take i acts) (act ∷ []) one c)
        where
          go : Contains (take i acts) one ⊎ Contains (act ∷ []) one → is_in after text ≡ true
          go (inl k) = adds text ∙ left_or (is_in before text) (has sources text) (h one text k asks from)
          go (inr k) =
              adds text
              ∙ right_or (is_in before text) (has sources text) (ap (λ (l : Value). has l text) sources_are ∙ has_each act.sources text (subst (λ (a : Act). Contains a.sources text) (sym (only_one act one k)) from))

  -- the next act does not ask
  pub asked_same : (acts : List Act) (i : ℕ) (act : Act) (asked : Names Bool) → i < length acts → act ≡ get_or acts i act → is_existing g act ≡ false → AskedIn (take i acts) asked → AskedIn (take (i + 1) acts) asked
  asked_same acts i act asked low is none h = subst (λ (l : List Act). AskedIn l asked) (taken acts i act low is) so
    where
      so : AskedIn (take i acts ++ act ∷ []) asked
      so one text c asks from = go (Contains-append_cases (take i acts) (act ∷ []) one c)
        where
          go : Contains (take i acts) one ⊎ Contains (act ∷ []) one → is_in asked text ≡ true
          go (inl k) = h one text k asks from
          go (inr k) = absurd (true≢false (sym (subst (λ (a : Act). is_existing g a ≡ true) (sym (only_one act one k)) asks) ∙ none))
