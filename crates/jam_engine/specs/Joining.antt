-- How acts are joined by look-ups.
use Rattle.std.specs.Prelude.{◌≡◌, ◌+◌, ℕ, Bool, true, false, ◌&&◌, List, [], ◌∷◌, ◌++◌, Option, fold, filter, slice_get, unwrap_or, map as each, if◌then◌else◌}
use Rattle.std.specs.FinMap as map
use Rattle.std.specs.List.{AllByRecursion, find}
use Rattle.std.specs.Option.{option_map_or}
use Rattle.std.specs.Str.{bytes_eq}
use Rattle.jam_journal.specs.Tables.{Text}
use Rattle.jam_journal.specs.Scopes.{Value}
use Rattle.jam_scope.specs.Worlds.{World}
use Rattle.jam_graph.specs.declared.graph.Act.{Act}
use Rattle.jam_graph.specs.declared.graph.Graph.{Graph}
use Rattle.jam_engine.specs.declared.joining.Joined.{Joined}
use Rattle.jam_engine.specs.declared.scene.Scene.{Scene}
use Rattle.jam_engine.specs.Acts.{is_together_in, is_existing_in, are_alike, joins, once_if}
use Rattle.jam_engine.specs.Scenes.{IsKnown, is_there_in}

-- an act joins the first that it joins, with its sources behind, as often as they stand
abbrev pub put_plainly : World → List Act → Act → List Act
put_plainly w [] a = a ∷ []
put_plainly w (first ∷ more) a = if joins w first a then record first { sources = first.sources ++ a.sources } ∷ more else first ∷ put_plainly w more a

abbrev pub plainly_joined : World → List Act → List Act
plainly_joined w acts = fold (put_plainly w) [] acts

-- an act begins with this target
abbrev pub begins : Text → Value → Bool
begins target [] = false
begins target (first ∷ more) = bytes_eq first target

abbrev pub begins_with : Text → Act → Bool
begins_with target act = begins target act.targets

-- the places of the acts with `together` that begin with a target
abbrev pub together_at : World → ℕ → List Act → Text → List ℕ
together_at w place [] target = []
together_at w place (act ∷ acts) target =
    if is_together_in w act && begins_with target act then place ∷ together_at w (place + 1) acts target else together_at w (place + 1) acts target

-- what these acts have come to
pub record AreJoined (w : World) (before : List Act) (joined : Joined) : Type 0 where
  pub acts : joined.acts.items ≡ plainly_joined w before
  pub places : (target : Text) → unwrap_or (map.get joined.places target) [] ≡ together_at w 0 joined.acts.items target

-- the first of some places at which an act stands that is like another one
abbrev pub is_alike_at : List Act → Act → ℕ → Bool
is_alike_at acts act place = option_map_or (λ one. are_alike one act) (slice_get acts place) false

abbrev pub IsFirstAlike : List Act → List ℕ → Act → Option ℕ → Type 0
IsFirstAlike acts places act found = found ≡ find (is_alike_at acts act) places

-- the sources that are left to an act
abbrev pub there_if : Scene → Bool → Value → Value
there_if scene existing sources = if existing then filter (is_there_in scene) sources else sources

abbrev pub finished_by : World → Scene → Act → Act
finished_by w scene a = record a { sources = there_if scene (is_existing_in w a) (once_if (is_together_in w a) a.sources) }

-- each source of which an act with `existing` asks is known
abbrev pub IsKnownOf : World → Scene → Act → Type 0
IsKnownOf w scene a = is_existing_in w a ≡ true → AllByRecursion (IsKnown scene) (once_if (is_together_in w a) a.sources)

abbrev pub acts_by : Graph → Scene → List Act
acts_by g scene = each (finished_by g.world.now scene) (plainly_joined g.world.now g.acts)
