-- The paths of what a list comes to: of what it meets, those that count.
use Rattle.std.proofs.Common.{◌≡◌, inl, inr, ℕ, ◌+◌, ◌<◌, Bool, true, false, cond, not, ◌&&◌, ◌||◌, List, [], ◌∷◌, ◌++◌, length, get_or, take, filter, map, Option, Some, None, is_some, refl, sym, ap, ap₂, ◌∙◌, append-nil}
use Rattle.std.specs.FinMap.{get}
use Rattle.std.proofs.lemmas.Bool.{true≢false}
use Rattle.jam_journal.specs.Tables.{Text}
use Rattle.jam_journal.specs.Scopes.{Value}
use Rattle.jam_graph.specs.declared.graph.Graph.{Graph}
use Rattle.jam_graph.proofs.ListsGrow.{taken}
use Rattle.jam_engine.specs.declared.scene.Found.{Found}
use Rattle.jam_engine.specs.declared.scene.Scene.{Scene}
use Rattle.jam_engine.specs.Scenes.{stands_by, stands_in, counts_in, IsKnown, HasPath}
use Rattle.jam_engine.specs.Spreading.{SpreadsTo}
use Rattle.jam_engine.specs.Spreads.{Meets, counts}
use Rattle.jam_engine.specs.Tables.{is_in, IsScene}
use Rattle.jam_engine.specs.Targets.{is_acted, is_notfile, is_nocare, is_source, place}

module _ (g : Graph) (stands : Text → Bool) (scene : Scene) (h : IsScene g stands scene) where
  -- a target that may be missing was looked at
  stood : (t : Text) → is_acted g t ≡ false → is_nocare g t ≡ true → IsKnown scene t → stands_in scene t ≡ is_source g stands (place g stands t)
  stood t out care (inl acted) = absurd (true≢false (sym acted ∙ h.index.acted t ∙ out))
  stood t out care (inr some) = go (get scene.found t) refl some
    where
      go : (o : Option Found) → get scene.found t ≡ o → is_some o ≡ true → stands_by o ≡ is_source g stands (place g stands t)
      go None e k = absurd (true≢false (sym k))
      go (Some one) e k = let f = h.found t one e in f.nocare care ∙ ap (is_source g stands) f.path

  twice_not : (b : Bool) → b ≡ not (not b)
  twice_not true = refl
  twice_not false = refl

  abbrev Known : Text → Type 0
  Known t = is_in scene.index.notfile t ≡ false → is_in scene.index.nocare t ≡ true → IsKnown scene t

  pub counts_same : (t : Text) → Known t → counts_in scene t ≡ counts g stands t
  counts_same t known = go (is_acted g t) (is_notfile g t) (is_nocare g t) refl refl refl
    where
      there : Bool
      there = stands_in scene t

      source : Bool
      source = is_source g stands (place g stands t)

      in_parts : (a n c : Bool) → is_acted g t ≡ a → is_notfile g t ≡ n → is_nocare g t ≡ c → counts_in scene t ≡ (a || (not n && (not c || stands_in scene t)))
      in_parts a n c e f k =
          ap (λ x. x || (not (is_in scene.index.notfile t) && (not (is_in scene.index.nocare t) || stands_in scene t))) (h.index.acted t ∙ e)
          ∙ ap₂ (λ x y. a || (not x && (not y || stands_in scene t))) (h.index.notfile t ∙ f) (h.index.nocare t ∙ k)

      of_graph : (a n c : Bool) → is_acted g t ≡ a → is_notfile g t ≡ n → is_nocare g t ≡ c → counts g stands t ≡ (a || not (n || (c && not (is_source g stands (place g stands t)))))
      of_graph a n c e f k =
          ap (λ x. x || not (is_notfile g t || (is_nocare g t && not (is_source g stands (place g stands t))))) e
          ∙ ap₂ (λ x y. a || not (x || (y && not (is_source g stands (place g stands t))))) f k

      go : (a n c : Bool) → is_acted g t ≡ a → is_notfile g t ≡ n → is_nocare g t ≡ c → counts_in scene t ≡ counts g stands t
      go true n c e f k = in_parts true n c e f k ∙ sym (of_graph true n c e f k)
      go false true c e f k = in_parts false true c e f k ∙ sym (of_graph false true c e f k)
      go false false false e f k = in_parts false false false e f k ∙ sym (of_graph false false false e f k)
      go false false true e f k =
          in_parts false false true e f k ∙ stood t e k (known (h.index.notfile t ∙ f) (h.index.nocare t ∙ k)) ∙ twice_not (is_source g stands (place g stands t))
          ∙ sym (of_graph false false true e f k)

  filter_last : (xs : Value) (t : Text) → map (place g stands) (filter (counts g stands) (xs ++ t ∷ [])) ≡ map (place g stands) (filter (counts g stands) xs) ++ cond (counts g stands t) (place g stands t ∷ []) []
  filter_last [] t = go (counts g stands t)
    where
      go : (b : Bool) → map (place g stands) (cond b (t ∷ []) []) ≡ [] ++ cond b (place g stands t ∷ []) []
      go true = refl
      go false = refl
  filter_last (x ∷ xs) t = go (counts g stands x) (filter_last xs t)
    where
      go : (b : Bool) → map (place g stands) (filter (counts g stands) (xs ++ t ∷ [])) ≡ map (place g stands) (filter (counts g stands) xs) ++ cond (counts g stands t) (place g stands t ∷ []) []
          → map (place g stands) (cond b (x ∷ filter (counts g stands) (xs ++ t ∷ [])) (filter (counts g stands) (xs ++ t ∷ [])))
          ≡ map (place g stands) (cond b (x ∷ filter (counts g stands) xs) (filter (counts g stands) xs)) ++ cond (counts g stands t) (place g stands t ∷ []) []
      go true e = ap (λ (l : List Text). place g stands x ∷ l) e
      go false e = e

abbrev Paths : Graph → (Text → Bool) → Value → List Text → Type 0
Paths g stands met paths = paths ≡ map (place g stands) (filter (counts g stands) met)

-- a target that counts, and one that does not
pub path_more : (g : Graph) (scene : Scene) (met : Value) (i : ℕ) (t path : Text) (now next : List Text) (counted : Bool) → i < length met → t ≡ get_or met i t → counted ≡ counts_in scene t → counted ≡ true
    → (is_in scene.index.notfile t ≡ false → is_in scene.index.nocare t ≡ true → IsKnown scene t) → HasPath scene t path → next ≡ now ++ path ∷ []
    → ((stands : Text → Bool) → IsScene g stands scene → Paths g stands (take i met) now) → (stands : Text → Bool) → IsScene g stands scene → Paths g stands (take (i + 1) met) next
path_more g scene met i t path now next counted low is counts_is yes_counts known has pushes was stands h =
    pushes
    ∙ ap₂ (λ (l : List Text) (p : Text). l ++ p ∷ []) (was stands h) (has g stands h)
    ∙ ap (λ b. map (place g stands) (filter (counts g stands) (take i met)) ++ cond b (place g stands t ∷ []) []) (sym (sym (counts_same g stands scene h t known) ∙ sym counts_is ∙ yes_counts))
    ∙ sym (filter_last g stands scene h (take i met) t) ∙ ap (λ (l : Value). map (place g stands) (filter (counts g stands) l)) (taken met i t low is)

pub path_same : (g : Graph) (scene : Scene) (met : Value) (i : ℕ) (t : Text) (now : List Text) (counted : Bool) → i < length met → t ≡ get_or met i t → counted ≡ counts_in scene t → counted ≡ false
    → (is_in scene.index.notfile t ≡ false → is_in scene.index.nocare t ≡ true → IsKnown scene t)
    → ((stands : Text → Bool) → IsScene g stands scene → Paths g stands (take i met) now) → (stands : Text → Bool) → IsScene g stands scene → Paths g stands (take (i + 1) met) now
path_same g scene met i t now counted low is counts_is none known was stands h =
    was stands h ∙ sym (append-nil (map (place g stands) (filter (counts g stands) (take i met))))
    ∙ ap (λ b. map (place g stands) (filter (counts g stands) (take i met)) ++ cond b (place g stands t ∷ []) []) (sym (sym (counts_same g stands scene h t known) ∙ sym counts_is ∙ none))
    ∙ sym (filter_last g stands scene h (take i met) t) ∙ ap (λ (l : Value). map (place g stands) (filter (counts g stands) l)) (taken met i t low is)

pub spreads_to : (g : Graph) (scene : Scene) (list met : Value) (paths : List Text) → Meets g [] list met → ((stands : Text → Bool) → IsScene g stands scene → Paths g stands met paths)
    → (stands : Text → Bool) → IsScene g stands scene → SpreadsTo g stands list paths
spreads_to g scene list met paths meets are stands h = record { found = filter (counts g stands) met; spreads = record { met = met; meets = meets; counted = refl }; are = are stands h }
