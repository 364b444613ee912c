-- What a scene says of texts.
use Rattle.std.specs.Prelude.{◌≡◌, Bool, true, false, not, ◌||◌, ◌&&◌, ◌⊎◌, is_some, List, Option, Some, None, map as each}
use Rattle.std.specs.FinMap as map
use Rattle.jam_journal.specs.Tables.{Text}
use Rattle.jam_journal.specs.Scopes.{Value}
use Rattle.jam_graph.specs.declared.graph.Graph.{Graph}
use Rattle.jam_engine.specs.declared.scene.Found.{Found}
use Rattle.jam_engine.specs.declared.scene.Scene.{Scene}
use Rattle.jam_engine.specs.Targets.{place}
use Rattle.jam_engine.specs.Tables.{is_in, IsScene}

-- a text was found to stand as a source
abbrev pub stands_by : Option Found → Bool
stands_by None = false
stands_by (Some found) = found.is_source

abbrev pub stands_in : Scene → Text → Bool
stands_in scene text = stands_by (map.get scene.found text)

-- it is made, or stands as a source
abbrev pub is_there_in : Scene → Text → Bool
is_there_in scene text = is_in scene.index.acted text || stands_in scene text

-- it counts where a list leads to it
abbrev pub counts_in : Scene → Text → Bool
counts_in scene text = is_in scene.index.acted text || (not (is_in scene.index.notfile text) && (not (is_in scene.index.nocare text) || stands_in scene text))

-- it is made, or was looked at
abbrev pub IsKnown : Scene → Text → Type 0
IsKnown scene text = (is_in scene.index.acted text ≡ true) ⊎ (is_some (map.get scene.found text) ≡ true)

-- in each graph of which this is found, this is the path of a text, and these are those of some texts
abbrev pub HasPath : Scene → Text → Text → Type 0
HasPath scene text path = (g : Graph) (stands : Text → Bool) → IsScene g stands scene → path ≡ place g stands text

abbrev pub HavePaths : Scene → Value → List Text → Type 0
HavePaths scene texts paths = (g : Graph) (stands : Text → Bool) → IsScene g stands scene → paths ≡ each (place g stands) texts
