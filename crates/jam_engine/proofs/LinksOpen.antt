-- A target is opened: each act that makes it gets the label of the search.
use Rattle.std.proofs.Common.{◌≡◌, ◌⊎◌, inl, inr, ℕ, ◌+◌, ◌<◌, ◌≤◌, ◌==◌, ◌||◌, Bool, true, false, List, [], ◌∷◌, ◌++◌, length, Option, Some, None, refl, sym, ap, ap₂, ◌∙◌, subst, arith, append_assoc}
use Rattle.std.specs.Prelude.{slice_get}
use Rattle.std.specs.FinMap.{insert}
use Rattle.std.specs.List.{Contains, AllByRecursion, slice_set}
use Rattle.std.specs.Str.{bytes_eq}
use Rattle.std.proofs.lemmas.Bool.{eqb-true, eqb-false, cases_lt, true≢false}
use Rattle.std.proofs.lemmas.Option.{same_Some, slice_get_within}
use Rattle.std.proofs.lemmas.List.Elements.{Contains-append_left, Contains-append_right, Contains-append_cases}
use Rattle.std.proofs.lemmas.Slice.Eq.{bytes_eq-Decides}
use Rattle.b2_host.specs.OutsideLaws.{only_one}
use Rattle.jam_journal.specs.Tables.{Text, Names}
use Rattle.jam_graph.specs.declared.graph.Act.{Act}
use Rattle.jam_engine.specs.declared.links.Links.{Links}
use Rattle.jam_engine.specs.Acts.{Linked, self, next}
use Rattle.jam_engine.specs.Linking.{HasLabel, HasNone, NamesTarget, IsNamedUnder, AreRight, AreLabels, IsSearch, LabelsMore, AreFirsts, waiting}
use Rattle.jam_engine.specs.Tables.{acting, is_in}
use Rattle.jam_engine.proofs.SetsGrow.{in_more}
use Rattle.jam_engine.proofs.LabelsGrow.{among, all_map, all_both, all_at, at_front, behind, none_there, is_there_or_not, not_both, one_label, label_or_none, acting_names, names_acting, stays_label, new_label, old_label, set_length}

-- acts that name one target are linked, one after the other
pub on_by : (acts : List Act) (first one other : ℕ) (target : Text) → Linked acts first one → NamesTarget acts one target → NamesTarget acts other target → Linked acts first other
on_by acts first one other target linked (act, at, c) (act₁, at₁, c₁) =
    next first one other linked (record { first = act; second = act₁; at_first = at; at_second = at₁; target = target; in_first = c; in_second = c₁ })

true_or : (a b : Bool) → a ≡ true → (a || b) ≡ true
true_or a b e = rw e refl

or_true : (a b : Bool) → b ≡ true → (a || b) ≡ true
or_true true b e = refl
or_true false b e = e

or_cases : (a b : Bool) → (a || b) ≡ true → (a ≡ true) ⊎ (b ≡ true)
or_cases true b e = inl refl
or_cases false b e = inr e

-- what was opened stays so, and the target is opened
pub opened_stays : (set : Names Bool) (target text : Text) → is_in set text ≡ true → is_in (insert set target true) text ≡ true
opened_stays set target text e = in_more set target text ∙ true_or (is_in set text) (bytes_eq text target) e

pub is_opened : (set : Names Bool) (target : Text) → is_in (insert set target true) target ≡ true
is_opened set target = in_more set target target ∙ or_true (is_in set target) (bytes_eq target target) ((bytes_eq-Decides target target).1 refl)

opened_by : (set : Names Bool) (target text : Text) → is_in (insert set target true) text ≡ true → (is_in set text ≡ true) ⊎ (text ≡ target)
opened_by set target text e = go (or_cases (is_in set text) (bytes_eq text target) (sym (in_more set target text) ∙ e))
  where
    go : (is_in set text ≡ true) ⊎ (bytes_eq text target ≡ true) → (is_in set text ≡ true) ⊎ (text ≡ target)
    go (inl h) = inl h
    go (inr h) = inr ((bytes_eq-Decides text target).0 h)

module _ (first : ℕ) (target : Text) (own waits later : List ℕ) (before after : Links)
    (acts_are : after.acts ≡ before.acts) (makers_are : after.makers ≡ before.makers) (opens : after.opened ≡ insert before.opened target true) (new : is_in before.opened target ≡ false)
    (named : IsNamedUnder first target before) (places : List ℕ) (places_are : places ≡ acting 0 before.acts.now target)
    (more : LabelsMore places first before.labels.items after.labels.items waits later) (h : IsSearch first (own ++ waits) before) where
  abbrev acts : List Act
  acts = before.acts.now

  abbrev was : List (Option ℕ)
  was = before.labels.items

  abbrev now : List (Option ℕ)
  now = after.labels.items

  -- a label is new, or was there
  which : (place one : ℕ) → HasLabel now place one → HasNone was place ⊎ HasLabel was place one
  which place one label = go (label_or_none was place (subst (λ n. place < n) more.count (slice_get_within now place (Some one) label)))
    where
      go : HasNone was place ⊎ ((x : ℕ) × HasLabel was place x) → HasNone was place ⊎ HasLabel was place one
      go (inl none) = inl none
      go (inr (x, old)) = inr (subst (HasLabel was place) (one_label now place x one (more.kept place x old) label) old)

  in_places : (place : ℕ) → Contains places place → NamesTarget acts place target
  in_places place c = acting_names acts target place (subst (λ l. Contains l place) places_are c)

  has_place : (place : ℕ) → NamesTarget acts place target → Contains places place
  has_place place names = subst (λ l. Contains l place) (sym places_are) (names_acting acts target place names)

  -- a label that is new is that of the search
  fresh : (place one : ℕ) → HasLabel now place one → HasNone was place → (one ≡ first) × NamesTarget acts place target × Contains later place
  fresh place one label none = let g = more.given place one label none in (g.0, in_places place g.1, g.2)

  linked_now : (place one : ℕ) → HasLabel now place one → Linked acts one place
  linked_now place one label = go (which place one label)
    where
      go : HasNone was place ⊎ HasLabel was place one → Linked acts one place
      go (inl none) =
          let f = fresh place one label none in
          subst (λ n. Linked acts n place) (sym f.0) (on_by acts first named.0 place target (h.right.linked named.0 first named.1) named.2 f.1)
      go (inr old) = h.right.linked place one old

  itself_now : (place one : ℕ) → HasLabel now place one → HasLabel now one one
  itself_now place one label = go (which place one label)
    where
      go : HasNone was place ⊎ HasLabel was place one → HasLabel now one one
      go (inl none) =
          let f = fresh place one label none in
          subst (λ n. HasLabel now n n) (sym f.0) (more.kept first first (h.right.itself named.0 first named.1))
      go (inr old) = more.kept one one (h.right.itself place one old)

  least_now : (place one : ℕ) → HasLabel now place one → one ≤ place
  least_now place one label = go (which place one label)
    where
      past : HasNone was place → (first < place) ⊎ (place ≤ first) → first ≤ place
      past none (inl low) = omega (arith, low)
      past none (inr low) = let d = h.done place low in absurd (not_both was place d.0 none d.1)

      go : HasNone was place ⊎ HasLabel was place one → one ≤ place
      go (inl none) = let f = fresh place one label none in subst (λ n. n ≤ place) (sym f.0) (past none (cases_lt first place))
      go (inr old) = h.right.least place one old

  below_now : (place one : ℕ) → HasLabel now place one → one ≤ first
  below_now place one label = go (which place one label)
    where
      go : HasNone was place ⊎ HasLabel was place one → one ≤ first
      go (inl none) = let f = fresh place one label none in let e : one ≡ first = f.0 in omega (arith, e)
      go (inr old) = h.below place one old

  -- each act that makes the target has the label of the search
  all_first : (place : ℕ) → Contains places place → HasLabel now place first
  all_first place c = go (which place label.0 label.1)
    where
      label : (x : ℕ) × HasLabel now place x
      label = all_at (λ p. (x : ℕ) × HasLabel now p x) places place more.all c

      old_first : HasLabel was place label.0 → Contains (own ++ waits) place ⊎ (Contains (own ++ waits) place → ⊥) → HasLabel now place first
      old_first old (inl waiting) = more.kept place first (all_at (λ p. HasLabel was p first) (own ++ waits) place h.own waiting)
      old_first old (inr none) = absurd (true≢false (sym (h.right.closed place label.0 target old none (in_places place c)) ∙ new))

      go : HasNone was place ⊎ HasLabel was place label.0 → HasLabel now place first
      go (inl none) = subst (HasLabel now place) (fresh place label.0 label.1 none).0 label.1
      go (inr old) = old_first old (is_there_or_not (own ++ waits) place)

  labelled_now : (text : Text) (one : ℕ) → is_in after.opened text ≡ true → NamesTarget acts one text → (x : ℕ) × HasLabel now one x
  labelled_now text one e names = go (opened_by before.opened target text (subst (λ (m : Names Bool). is_in m text ≡ true) opens e))
    where
      go : (is_in before.opened text ≡ true) ⊎ (text ≡ target) → (x : ℕ) × HasLabel now one x
      go (inl old) = let l = h.right.labelled text one old names in (l.0, more.kept one l.0 l.1)
      go (inr same) = (first, all_first one (has_place one (subst (NamesTarget acts one) same names)))

  opened_now : (text : Text) (one other x : ℕ) → is_in after.opened text ≡ true → NamesTarget acts one text → NamesTarget acts other text → HasLabel now one x → HasLabel now other x
  opened_now text one other x e names names₁ label = go (opened_by before.opened target text (subst (λ (m : Names Bool). is_in m text ≡ true) opens e))
    where
      go : (is_in before.opened text ≡ true) ⊎ (text ≡ target) → HasLabel now other x
      go (inl old) =
          let l = h.right.labelled text one old names in
          let same : l.0 ≡ x = one_label now one l.0 x (more.kept one l.0 l.1) label in
          more.kept other x (h.right.opened text one other x old names names₁ (subst (HasLabel was one) same l.1))
      go (inr same) =
          let is : first ≡ x = one_label now one first x (all_first one (has_place one (subst (NamesTarget acts one) same names))) label in
          subst (HasLabel now other) is (all_first other (has_place other (subst (NamesTarget acts other) same names₁)))

  waits_more : (place : ℕ) → Contains (own ++ waits) place → Contains (own ++ later) place
  waits_more place c = go (Contains-append_cases own waits place c)
    where
      go : Contains own place ⊎ Contains waits place → Contains (own ++ later) place
      go (inl k) = Contains-append_left own later place k
      go (inr k) = Contains-append_right own later place (subst (λ l. Contains l place) (sym more.waits_are) (Contains-append_left waits more.more place k))

  closed_now : (place one : ℕ) (text : Text) → HasLabel now place one → (Contains (own ++ later) place → ⊥) → NamesTarget acts place text → is_in after.opened text ≡ true
  closed_now place one text label none names = go (which place one label)
    where
      go : HasNone was place ⊎ HasLabel was place one → is_in after.opened text ≡ true
      go (inl new₁) = let f = fresh place one label new₁ in absurd (none (Contains-append_right own later place f.2))
      go (inr old) =
          subst (λ (m : Names Bool). is_in m text ≡ true) (sym opens)
          (opened_stays before.opened target text (h.right.closed place one text old (λ c. none (waits_more place c)) names))

  all_own : AllByRecursion (λ p. HasLabel now p first) (own ++ later)
  all_own =
      subst (AllByRecursion (λ p. HasLabel now p first)) (append_assoc own waits more.more ∙ ap (λ (l : List ℕ). own ++ l) (sym more.waits_are))
      (all_both (λ p. HasLabel now p first) (own ++ waits) more.more (all_map (λ p. HasLabel was p first) (λ p. HasLabel now p first) (own ++ waits) (λ p l. more.kept p first l) h.own) more.own)

  -- the search goes on, as its acts are seen from before
  abbrev seen : Links
  seen = record before { opened = after.opened; labels = after.labels }

  searched : IsSearch first (own ++ later) seen
  searched = record {
    right = record {
      makers = h.right.makers;
      count = more.count ∙ h.right.count;
      linked = linked_now;
      itself = itself_now;
      least = least_now;
      labelled = labelled_now;
      opened = opened_now;
      closed = closed_now;
    };
    own = all_own;
    done = λ place low. (let d = h.done place low in (d.0, more.kept place d.0 d.1));
    below = below_now;
  }

  pub open_new : IsSearch first (own ++ later) after
  open_new = subst (IsSearch first (own ++ later)) same searched
    where
      same : seen ≡ after
      same = ap₂ (λ a m. let links : Links = record { acts = a; makers = m; opened = after.opened; labels = after.labels } in links) (sym acts_are) (sym makers_are)

-- ---- an act whose targets are all opened waits no more

pub all_opened : (first place : ℕ) (act : Act) (waits : List ℕ) (links : Links) → slice_get links.acts.now place ≡ Some act → ((text : Text) → Contains act.targets text → is_in links.opened text ≡ true)
    → IsSearch first (place ∷ waits) links → IsSearch first waits links
all_opened first place act waits links at opened h = record {
  right = record {
    makers = h.right.makers;
    count = h.right.count;
    linked = h.right.linked;
    itself = h.right.itself;
    least = h.right.least;
    labelled = h.right.labelled;
    opened = h.right.opened;
    closed = closed_now;
  };
  own = h.own.1;
  done = h.done;
  below = h.below;
}
  where
    closed_now : (other one : ℕ) (text : Text) → HasLabel links.labels.items other one → (Contains waits other → ⊥) → NamesTarget links.acts.now other text → is_in links.opened text ≡ true
    closed_now other one text label none names = go (other == place) refl
      where
        go : (b : Bool) → (other == place) ≡ b → is_in links.opened text ≡ true
        go true e =
            let found : Some names.0 ≡ Some act = sym names.1 ∙ ap (slice_get links.acts.now) (eqb-true other place e) ∙ at in
            opened text (subst (λ (a : Act). Contains a.targets text) (same_Some _ _ found) names.2)
        go false e = h.right.closed other one text label (λ c. out (among place waits other c)) names
          where
            out : (place ≡ other) ⊎ Contains waits other → ⊥
            out (inl same) = eqb-false other place e (sym same)
            out (inr c) = none c

-- ---- a search begins and ends

module _ (first : ℕ) (before after : Links) (acts_are : after.acts ≡ before.acts) (makers_are : after.makers ≡ before.makers) (opened_are : after.opened ≡ before.opened)
    (none : HasNone before.labels.items first) (sets : after.labels.items ≡ slice_set before.labels.items first (Some first)) (h : AreLabels before.acts.now first before) where
  abbrev old : List (Option ℕ)
  old = before.labels.items

  abbrev labels : List (Option ℕ)
  labels = after.labels.items

  abbrev all_acts : List Act
  all_acts = before.acts.now

  kept_label : (place one : ℕ) → HasLabel old place one → HasLabel labels place one
  kept_label = stays_label old labels first first none sets

  own_label : HasLabel labels first first
  own_label = new_label old labels first first none sets

  from_label : (place one : ℕ) → HasLabel labels place one → ((place ≡ first) × (one ≡ first)) ⊎ HasLabel old place one
  from_label = old_label old labels first first none sets

  low : first < length all_acts
  low = subst (λ n. first < n) h.right.count (slice_get_within old first None none)

  first_linked : (place one : ℕ) → HasLabel labels place one → Linked all_acts one place
  first_linked place one label = go (from_label place one label)
    where
      go : ((place ≡ first) × (one ≡ first)) ⊎ HasLabel old place one → Linked all_acts one place
      go (inl (p, o)) = subst (λ n. Linked all_acts n place) (sym o) (subst (Linked all_acts first) (sym p) (self first low))
      go (inr l) = h.right.linked place one l

  first_itself : (place one : ℕ) → HasLabel labels place one → HasLabel labels one one
  first_itself place one label = go (from_label place one label)
    where
      go : ((place ≡ first) × (one ≡ first)) ⊎ HasLabel old place one → HasLabel labels one one
      go (inl (p, o)) = subst (λ n. HasLabel labels n n) (sym o) own_label
      go (inr l) = kept_label one one (h.right.itself place one l)

  first_least : (place one : ℕ) → HasLabel labels place one → one ≤ place
  first_least place one label = go (from_label place one label)
    where
      go : ((place ≡ first) × (one ≡ first)) ⊎ HasLabel old place one → one ≤ place
      go (inl (p, o)) = omega (arith, p, o)
      go (inr l) = h.right.least place one l

  first_opened : (text : Text) (one other x : ℕ) → is_in before.opened text ≡ true → NamesTarget all_acts one text → NamesTarget all_acts other text → HasLabel labels one x → HasLabel labels other x
  first_opened text one other x e names names₁ label =
      let l = h.right.labelled text one e names in
      let same : l.0 ≡ x = one_label labels one l.0 x (kept_label one l.0 l.1) label in
      kept_label other x (h.right.opened text one other x e names names₁ (subst (HasLabel old one) same l.1))

  first_closed : (place one : ℕ) (text : Text) → HasLabel labels place one → (Contains (first ∷ []) place → ⊥) → NamesTarget all_acts place text → is_in before.opened text ≡ true
  first_closed place one text label out names = go (from_label place one label)
    where
      go : ((place ≡ first) × (one ≡ first)) ⊎ HasLabel old place one → is_in before.opened text ≡ true
      go (inl (p, o)) = absurd (out (subst (Contains (first ∷ [])) (sym p) (at_front first [])))
      go (inr l) = h.right.closed place one text l (λ c. none_there place c) names

  first_done : (place : ℕ) → (place < first) ⊎ (first ≤ place) → place ≤ first → (x : ℕ) × HasLabel labels place x
  first_done place (inl less) e = let d = h.done place less in (d.0, kept_label place d.0 d.1)
  first_done place (inr more) e = let same : first ≡ place = omega (arith, more, e) in (first, subst (λ n. HasLabel labels n first) same own_label)

  first_below : (place one : ℕ) → HasLabel labels place one → one ≤ first
  first_below place one label = go (from_label place one label)
    where
      go : ((place ≡ first) × (one ≡ first)) ⊎ HasLabel old place one → one ≤ first
      go (inl (p, o)) = omega (arith, o)
      go (inr l) = let b = h.below place one l in omega (arith, b)

  abbrev begun : Links
  begun = record before { labels = after.labels }

  begun_search : IsSearch first (first ∷ []) begun
  begun_search = record {
    right = record {
      makers = h.right.makers;
      count = ap length sets ∙ set_length old first (Some first) ∙ h.right.count;
      linked = first_linked;
      itself = first_itself;
      least = first_least;
      labelled = λ text one e names. (let l = h.right.labelled text one e names in (l.0, kept_label one l.0 l.1));
      opened = first_opened;
      closed = first_closed;
    };
    own = (own_label, tt);
    done = λ place e. first_done place (cases_lt place first) e;
    below = first_below;
  }

  pub search_begins : IsSearch first (first ∷ []) after
  search_begins = subst (IsSearch first (first ∷ [])) same begun_search
    where
      same : begun ≡ after
      same =
          ap₂ (λ a m. let links : Links = record { acts = a; makers = m; opened = before.opened; labels = after.labels } in links) (sym acts_are) (sym makers_are)
          ∙ ap (λ o. let links : Links = record { acts = after.acts; makers = after.makers; opened = o; labels = after.labels } in links) (sym opened_are)

pub search_ends : (acts : List Act) (first : ℕ) (links : Links) → links.acts.now ≡ acts → IsSearch first [] links → AreLabels acts (first + 1) links
search_ends acts first links are h = record {
  acts_are = are;
  right = h.right;
  done = λ place low. h.done place (omega (arith, low));
  below = λ place one label. (let b = h.below place one label in omega (arith, b));
}

-- an act that has a label needs no search
pub labels_on : (acts : List Act) (first x : ℕ) (links : Links) → HasLabel links.labels.items first x → AreLabels acts first links → AreLabels acts (first + 1) links
labels_on acts first x links label h = record {
  acts_are = h.acts_are;
  right = h.right;
  done = λ place low. go place low (cases_lt place first);
  below = λ place one l. (let b = h.below place one l in omega (arith, b));
}
  where
    go : (place : ℕ) → place < first + 1 → (place < first) ⊎ (first ≤ place) → (one : ℕ) × HasLabel links.labels.items place one
    go place low (inl less) = h.done place less
    go place low (inr more) = let same : first ≡ place = omega (arith, low, more) in (x, subst (λ n. HasLabel links.labels.items n x) same label)

-- linked acts have one label
same_label : (links : Links) → AreRight [] links → (place other first : ℕ) → Linked links.acts.now place other → HasLabel links.labels.items place first → HasLabel links.labels.items other first
same_label links right place _ first (self _ within) label = label
same_label links right place other first (next _ j _ linked share) label =
    let at_j : HasLabel links.labels.items j first = same_label links right place j first linked label in
    let names_j : NamesTarget links.acts.now j share.target = (share.first, share.at_first, share.in_first) in
    let names_k : NamesTarget links.acts.now other share.target = (share.second, share.at_second, share.in_second) in
    right.opened share.target j other first (right.closed j first share.target at_j (λ c. none_there j c) names_j) names_j names_k at_j

pub firsts_found : (acts : List Act) (links : Links) → AreLabels acts (length acts) links → AreFirsts acts links.labels.items
firsts_found acts links h = subst (λ (a : List Act). AreFirsts a links.labels.items) h.acts_are (record {
  count = h.right.count;
  each = λ place low. h.done place (let e : length links.acts.now ≡ length acts = ap length h.acts_are in omega (arith, low, e));
  itself = h.right.itself;
  least = h.right.least;
  linked = h.right.linked;
  same = same_label links h.right;
})

-- ---- the order in which acts wait does not count

pub first_of_last : (first place : ℕ) (rest : List ℕ) (links : Links) → IsSearch first (rest ++ place ∷ []) links → IsSearch first (place ∷ rest) links
first_of_last first place rest links h = record {
  right = record {
    makers = h.right.makers;
    count = h.right.count;
    linked = h.right.linked;
    itself = h.right.itself;
    least = h.right.least;
    labelled = h.right.labelled;
    opened = h.right.opened;
    closed = λ other one text label out names. h.right.closed other one text label (λ c. out (turned other c)) names;
  };
  own = (all_at (λ p. HasLabel links.labels.items p first) (rest ++ place ∷ []) place h.own (Contains-append_right rest (place ∷ []) place (at_front place [])), front rest h.own);
  done = h.done;
  below = h.below;
}
  where
    turned : (other : ℕ) → Contains (rest ++ place ∷ []) other → Contains (place ∷ rest) other
    turned other c = go (Contains-append_cases rest (place ∷ []) other c)
      where
        go : Contains rest other ⊎ Contains (place ∷ []) other → Contains (place ∷ rest) other
        go (inl k) = behind place rest other k
        go (inr k) = subst (Contains (place ∷ rest)) (only_one place other k) (at_front place rest)

    front : (xs : List ℕ) → AllByRecursion (λ p. HasLabel links.labels.items p first) (xs ++ place ∷ []) → AllByRecursion (λ p. HasLabel links.labels.items p first) xs
    front [] all = tt
    front (x ∷ xs) all = (all.0, front xs all.1)
