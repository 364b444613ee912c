-- Acts that are finished by what was found are those of the graph.
use Rattle.std.proofs.Common.{◌≡◌, ◌⊎◌, inl, inr, Bool, true, false, cond, ◌&&◌, ◌||◌, List, [], ◌∷◌, ◌++◌, fold, filter, map, Option, Some, None, is_some, refl, sym, ap, ap₂, ◌∙◌, subst}
use Rattle.std.specs.FinMap.{get}
use Rattle.std.specs.List.{Contains, AllByRecursion, list_any}
use Rattle.std.specs.Str.{bytes_eq}
use Rattle.std.proofs.lemmas.Bool.{true≢false}
use Rattle.std.proofs.lemmas.List.Elements.{Contains-append_cases}
use Rattle.std.proofs.lemmas.Slice.Eq.{bytes_eq-Decides}
use Rattle.jam_journal.specs.Tables.{Text}
use Rattle.jam_journal.specs.Scopes.{Value}
use Rattle.jam_scope.specs.Worlds.{World}
use Rattle.jam_natives.specs.Texts.{add_new}
use Rattle.jam_graph.specs.declared.graph.Act.{Act}
use Rattle.jam_graph.specs.declared.graph.Graph.{Graph}
use Rattle.jam_engine.specs.declared.scene.Found.{Found}
use Rattle.jam_engine.specs.declared.scene.Scene.{Scene}
use Rattle.jam_engine.specs.Acts.{is_together_in, is_existing_in, are_alike, same_texts, joins, once_if, lessened, acts}
use Rattle.jam_engine.specs.Joining.{put_plainly, plainly_joined, finished_by, there_if, IsKnownOf, acts_by}
use Rattle.jam_engine.specs.Scenes.{stands_by, stands_in, is_there_in, IsKnown}
use Rattle.jam_engine.specs.Tables.{is_in, Asks, IsScene}
use Rattle.jam_engine.specs.Targets.{is_acted, is_source, is_there, place}
use Rattle.jam_engine.proofs.JoinedAlike.{once, joined_alike}
use Rattle.jam_engine.proofs.LabelsGrow.{among, at_front, behind, none_there}
use Rattle.jam_engine.proofs.ActsJoin.{and_left, and_right}

-- ---- sources that stand once are sources

added_from : (found xs : Value) (s : Text) → Contains (fold add_new found xs) s → Contains found s ⊎ Contains xs s
added_from found [] s c = inl c
added_from found (x ∷ xs) s c = go (added_from (add_new found x) xs s c)
  where
    here : (b : Bool) → Contains (cond b found (found ++ x ∷ [])) s → Contains found s ⊎ Contains (x ∷ xs) s
    here true k = inl k
    here false k = by (Contains-append_cases found (x ∷ []) s k)
      where
        by : Contains found s ⊎ Contains (x ∷ []) s → Contains found s ⊎ Contains (x ∷ xs) s
        by (inl l) = inl l
        by (inr l) = front (among x [] s l)
          where
            front : (x ≡ s) ⊎ Contains [] s → Contains found s ⊎ Contains (x ∷ xs) s
            front (inl e) = inr (subst (Contains (x ∷ xs)) e (at_front x xs))
            front (inr l) = absurd (none_there s l)

    go : Contains (add_new found x) s ⊎ Contains xs s → Contains found s ⊎ Contains (x ∷ xs) s
    go (inl k) = here (list_any (bytes_eq x) found) k
    go (inr k) = inr (behind x xs s k)

once_from : (b : Bool) (xs : Value) (s : Text) → Contains (once_if b xs) s → Contains xs s
once_from false xs s c = c
once_from true xs s c = go (added_from [] xs s c)
  where
    go : Contains [] s ⊎ Contains xs s → Contains xs s
    go (inl k) = absurd (none_there s k)
    go (inr k) = k

-- ---- each source of a joined act is one of an act with the same actions

module _ (w : World) (whole : List Act) where
  abbrev From : Act → Type 0
  From a = (s : Text) → Contains a.sources s → (act : Act) × Contains whole act × (is_existing_in w act ≡ is_existing_in w a) × Contains act.sources s

  alike_existing : (x a : Act) → are_alike x a ≡ true → is_existing_in w x ≡ is_existing_in w a
  alike_existing x a e =
      ap₂ (λ (o : Text) (n : Text). is_existing_in w (record x { «module» = o; name = n })) (
      (bytes_eq-Decides x.«module» a.«module»).0 (and_left (bytes_eq x.«module» a.«module») (same_texts x.targets a.targets) (and_right (bytes_eq x.name a.name) (bytes_eq x.«module» a.«module» && same_texts x.targets a.targets) e))
      ) ((bytes_eq-Decides x.name a.name).0 (and_left (bytes_eq x.name a.name) (bytes_eq x.«module» a.«module» && same_texts x.targets a.targets) e))

  both_from : (x a : Act) → are_alike x a ≡ true → From x → From a → From (record x { sources = x.sources ++ a.sources })
  both_from x a alike one other s c = go (Contains-append_cases x.sources a.sources s c)
    where
      go : Contains x.sources s ⊎ Contains a.sources s → (act : Act) × Contains whole act × (is_existing_in w act ≡ is_existing_in w x) × Contains act.sources s
      go (inl k) = one s k
      go (inr k) = (let (act, within, same, has) = other s k in (act, within, same ∙ sym (alike_existing x a alike), has))

  put_from : (xs : List Act) (a : Act) → AllByRecursion From xs → From a → AllByRecursion From (put_plainly w xs a)
  put_from [] a h one = (one, tt)
  put_from (x ∷ xs) a (first, more) one = go (joins w x a) refl (put_from xs a more one)
    where
      go : (b : Bool) → joins w x a ≡ b → AllByRecursion From (put_plainly w xs a) → AllByRecursion From (cond b (record x { sources = x.sources ++ a.sources } ∷ xs) (x ∷ put_plainly w xs a))
      go true e rest = (both_from x a (and_right (is_together_in w x) (are_alike x a) e) first one, more)
      go false e rest = (first, rest)

  fold_from : (acts start : List Act) → AllByRecursion From start → AllByRecursion From acts → AllByRecursion From (fold (put_plainly w) start acts)
  fold_from [] start h all = h
  fold_from (a ∷ acts) start h (one, more) = fold_from acts (put_plainly w start a) (put_from start a h one) more

own_from : (w : World) (whole acts : List Act) → ((a : Act) → Contains acts a → Contains whole a) → AllByRecursion (From w whole) acts
own_from w whole [] within = tt
own_from w whole (a ∷ acts) within = ((λ s c. (a, within a (at_front a acts), refl, c)), own_from w whole acts (λ b k. within b (behind a acts b k)))

sources_from : (w : World) (acts : List Act) → AllByRecursion (From w acts) (plainly_joined w acts)
sources_from w acts = fold_from w acts acts [] tt (own_from w acts acts (λ a c. c))

-- ---- what is there

module _ (g : Graph) (stands : Text → Bool) (scene : Scene) (h : IsScene g stands scene) where
  there_same : (s : Text) → IsKnown scene s → Asks g s → is_there_in scene s ≡ is_there g stands s
  there_same s known asks = go (is_acted g s) refl
    where
      stood : (o : Option Found) → get scene.found s ≡ o → is_some o ≡ true → stands_by o ≡ is_source g stands (place g stands s)
      stood None e some = absurd (true≢false (sym some))
      stood (Some one) e some = let f = h.found s one e in f.asked asks ∙ ap (is_source g stands) f.path

      source : is_acted g s ≡ false → (is_in scene.index.acted s ≡ true) ⊎ (is_some (get scene.found s) ≡ true) → stands_in scene s ≡ is_source g stands (place g stands s)
      source out (inl acted) = absurd (true≢false (sym acted ∙ h.index.acted s ∙ out))
      source out (inr some) = stood (get scene.found s) refl some

      go : (b : Bool) → is_acted g s ≡ b → is_there_in scene s ≡ is_there g stands s
      go true e = ap (λ b. b || stands_in scene s) (h.index.acted s ∙ e) ∙ sym (ap (λ b. b || is_source g stands (place g stands s)) e)
      go false e =
          ap (λ b. b || stands_in scene s) (h.index.acted s ∙ e) ∙ source e known ∙ sym (ap (λ b. b || is_source g stands (place g stands s)) e)

  filter_same : (xs : Value) → AllByRecursion (IsKnown scene) xs → ((s : Text) → Contains xs s → Asks g s) → filter (is_there_in scene) xs ≡ filter (is_there g stands) xs
  filter_same [] known asks = refl
  filter_same (x ∷ xs) (one, more) asks =
      ap₂ (λ b (l : Value). cond b (x ∷ l) l) (there_same x one (asks x (at_front x xs))) (filter_same xs more (λ s c. asks s (behind x xs s c)))

  finished_one : (a : Act) → IsKnownOf g.world.now scene a → From g.world.now g.acts a → finished_by g.world.now scene a ≡ lessened g stands (once g.world.now a)
  finished_one a known from = go (is_existing_in g.world.now a) refl
    where
      sources : Value
      sources = once_if (is_together_in g.world.now a) a.sources

      asks : is_existing_in g.world.now a ≡ true → (s : Text) → Contains sources s → Asks g s
      asks e s c = (let (act, within, same, has) = from s (once_from (is_together_in g.world.now a) a.sources s c) in (act, within, same ∙ e, has))

      go : (b : Bool) → is_existing_in g.world.now a ≡ b → finished_by g.world.now scene a ≡ lessened g stands (once g.world.now a)
      go true e =
          ap (λ b. let act : Act = record a { sources = there_if scene b sources } in act) e
          ∙ ap (λ (l : Value). let act : Act = record a { sources = l } in act) (filter_same sources (known e) (asks e))
          ∙ sym (ap (λ b. cond b (record a { sources = filter (is_there g stands) sources }) (once g.world.now a)) e)
      go false e =
          ap (λ b. let act : Act = record a { sources = there_if scene b sources } in act) e
          ∙ sym (ap (λ b. cond b (record a { sources = filter (is_there g stands) sources }) (once g.world.now a)) e)

  finished_all : (xs : List Act) → AllByRecursion (IsKnownOf g.world.now scene) xs → AllByRecursion (From g.world.now g.acts) xs → map (finished_by g.world.now scene) xs ≡ map (lessened g stands) (map (once g.world.now) xs)
  finished_all [] known from = refl
  finished_all (x ∷ xs) (one, more) (first, rest) = ap₂ (λ (y : Act) (l : List Act). y ∷ l) (finished_one x one first) (finished_all xs more rest)

  pub acts_are : AllByRecursion (IsKnownOf g.world.now scene) (plainly_joined g.world.now g.acts) → acts_by g scene ≡ acts g stands
  acts_are known =
      finished_all (plainly_joined g.world.now g.acts) known (sources_from g.world.now g.acts) ∙ sym (ap (map (lessened g stands)) (joined_alike g.world.now g.acts))
