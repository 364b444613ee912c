-- What the look-ups of a graph hold.
use Rattle.std.specs.Prelude.{◌≡◌, ℕ, ◌+◌, Bool, true, List, [], ◌∷◌, ◌++◌, Option, Some, None, is_some, unwrap_or, if◌then◌else◌}
use Rattle.std.specs.FinMap as map
use Rattle.std.specs.List.{Contains}
use Rattle.std.specs.Str.{bytes_eq}
use Rattle.b2_host.specs.Disks.{Disk}
use Rattle.jam_journal.specs.Tables.{Text, Names}
use Rattle.jam_journal.specs.Scopes.{Value}
use Rattle.jam_graph.specs.declared.graph.Act.{Act}
use Rattle.jam_graph.specs.declared.graph.Graph.{Graph}
use Rattle.jam_engine.specs.declared.index.Index.{Index}
use Rattle.jam_engine.specs.declared.scene.Found.{Found}
use Rattle.jam_engine.specs.declared.scene.Scene.{Scene}
use Rattle.jam_engine.specs.Targets.{is_target, is_acted, is_always, is_notfile, is_nocare, is_source, place, roots}
use Rattle.jam_engine.specs.Acts.{is_existing}

-- a set of texts has a text
abbrev pub is_in : Names Bool → Text → Bool
is_in set text = is_some (map.get set text)

-- the places of the pairs that begin with a text, of which the first has this place
abbrev pub places_in : ℕ → List (Text × Text) → Text → List ℕ
places_in place [] text = []
places_in place (pair ∷ pairs) text = if bytes_eq text pair.0 then place ∷ places_in (place + 1) pairs text else places_in (place + 1) pairs text

-- a place, as often as some targets have a text
abbrev pub times : ℕ → Text → Value → List ℕ
times place text [] = []
times place text (target ∷ targets) = if bytes_eq text target then place ∷ times place text targets else times place text targets

-- the same of the acts that make a text; an act that names it twice stands twice
abbrev pub acting : ℕ → List Act → Text → List ℕ
acting place [] text = []
acting place (act ∷ acts) text = times place text act.targets ++ acting (place + 1) acts text

-- a text has one number more, and others have what they had
abbrev pub HasOneMore : Text → ℕ → Names (List ℕ) → Names (List ℕ) → Type 0
HasOneMore text number before after =
    (other : Text) → unwrap_or (map.get after other) [] ≡ (if bytes_eq other text then unwrap_or (map.get before other) [] ++ number ∷ [] else unwrap_or (map.get before other) [])

-- the look-ups are those of a graph
pub record IsIndexOf (g : Graph) (index : Index) : Type 0 where
  pub targets : (t : Text) → is_in index.targets t ≡ is_target g t
  pub always : (t : Text) → is_in index.always t ≡ is_always g t
  pub notfile : (t : Text) → is_in index.notfile t ≡ is_notfile g t
  pub nocare : (t : Text) → is_in index.nocare t ≡ is_nocare g t
  pub acted : (t : Text) → is_in index.acted t ≡ is_acted g t
  pub depends : (t : Text) → unwrap_or (map.get index.depends t) [] ≡ places_in 0 g.depends t
  pub includes : (t : Text) → unwrap_or (map.get index.includes t) [] ≡ places_in 0 g.includes t

-- ---- what was seen of the files

-- at these paths a file stands, where the files are visible
abbrev pub Sees : Option Disk → (Text → Bool) → Type 0
Sees None stands = ⊥
Sees (Some disk) stands = (path : Text) → stands path ≡ is_some (disk.now path)

module _ (g : Graph) where
  -- an act asks whether its source stands
  abbrev pub Asks : Text → Type 0
  Asks text = (act : Act) × Contains g.acts act × (is_existing g act ≡ true) × Contains act.sources text

  -- what was found of a text: its path, and whether it stands as a source, where that is asked of it
  pub record IsFound (stands : Text → Bool) (text : Text) (found : Found) : Type 0 where
    pub path : found.path ≡ place g stands text
    pub nocare : is_nocare g text ≡ true → found.is_source ≡ is_source g stands found.path
    pub asked : Asks text → found.is_source ≡ is_source g stands found.path

  -- all that was found is so
  pub record IsScene (stands : Text → Bool) (scene : Scene) : Type 0 where
    pub index : IsIndexOf g scene.index
    pub roots : scene.roots ≡ roots g
    pub found : (text : Text) (one : Found) → map.get scene.found text ≡ Some one → IsFound stands text one
