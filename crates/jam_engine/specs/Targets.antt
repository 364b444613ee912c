-- What a graph says of a target, and where the target lies.
use Rattle.std.specs.Prelude.{Bool, true, false, not, ◌||◌, ◌&&◌, List, [], ◌∷◌, ◌++◌, codes, Option, Some, None, map as each, if◌then◌else◌}
use Rattle.std.specs.FinMap as map
use Rattle.std.specs.List.{list_any, find, filter_map}
use Rattle.std.specs.Option.{unwrap_or}
use Rattle.std.specs.Str.{bytes_eq}
use Rattle.b2_base.specs.Segments.{here, normal_of, path_from}
use Rattle.b2_base.specs.Below.{is_below}
use Rattle.jam_path.specs.Names.{path_of}
use Rattle.jam_journal.specs.Tables.{Text}
use Rattle.jam_journal.specs.Scopes.{Value, look_in}
use Rattle.jam_scope.specs.Texts.{first_roots}
use Rattle.jam_scope.specs.Worlds.{World}
use Rattle.jam_graph.specs.declared.graph.Act.{Act}
use Rattle.jam_graph.specs.declared.graph.Graph.{Graph}

abbrev pub has : Value → Text → Bool
has texts text = list_any (bytes_eq text) texts

-- a text that is empty counts as the directory itself
abbrev pub or_here : Text → Text
or_here [] = here
or_here (byte ∷ bytes) = byte ∷ bytes

-- a name without its grist
abbrev pub plain : Text → Text
plain target = or_here (path_of target)

-- ---- what a graph says

module _ (g : Graph) where
  abbrev pub is_target : Text → Bool
  is_target target = has g.targets target

  abbrev pub is_acted : Text → Bool
  is_acted target = list_any (λ (a : Act). has a.targets target) g.acts

  abbrev pub is_always : Text → Bool
  is_always target = has g.always target

  abbrev pub is_notfile : Text → Bool
  is_notfile target = has g.notfile target

  abbrev pub is_nocare : Text → Bool
  is_nocare target = has g.nocare target

  -- the second texts of the pairs with a first text, in order
  abbrev pub seconds : List (Text × Text) → Text → Value
  seconds pairs target = filter_map (λ p. if bytes_eq target p.0 then Some p.1 else None) pairs

  abbrev pub includes_of : Text → Value
  includes_of target = seconds g.includes target

  abbrev pub depends_of : Text → Value
  depends_of target = seconds g.depends target

-- ---- where a target lies, by a world

-- a variable of a target: its own value, also an empty one, else the global module's
abbrev pub value : World → Text → Text → Value
value w target name = unwrap_or (map.get w.own (target, name)) (look_in [] w.scopes name)

-- an empty element of OUTPUT_DIRS is no root
abbrev pub root_of : Text → Option Text
root_of [] = None
root_of (byte ∷ bytes) = Some (normal_of (byte ∷ bytes))

-- `bin`, `stage` and `dist`, then the others
abbrev pub roots_in : World → List Text
roots_in w = first_roots ++ filter_map root_of (look_in [] w.scopes (codes "OUTPUT_DIRS"))

-- below one of these roots
abbrev pub is_below_roots : List Text → Text → Bool
is_below_roots roots path = list_any (λ root. is_below path root) roots

-- where headers of a step with this first target are looked for
abbrev pub header_dirs_in : World → Text → List Text
header_dirs_in w target = each (λ dir. normal_of (or_here dir)) (value w target (codes "HDRS"))

module _ (roots : List Text) (stands : Text → Bool) where
  -- a path of a source: it lies below no root, and a file stands there
  abbrev pub is_source_of : Text → Bool
  is_source_of path = not (is_below_roots roots path) && stands path

  -- the path of a name in the first of some directories in which it is a source
  abbrev pub first_source : Value → Text → Option Text
  first_source dirs name = find is_source_of (each (λ dir. path_from (or_here dir) name) dirs)

module _ (w : World) (roots : List Text) (stands : Text → Bool) where
  -- a target that is not made lies in the first directory of SEARCH in which it is a source, else it is its name
  abbrev pub searched : Text → Text
  searched target = unwrap_or (first_source roots stands (value w target (codes "SEARCH")) (plain target)) (path_from here (plain target))

  abbrev pub unlocated : Bool → Text → Text
  unlocated true target = path_from (codes "bin") (plain target)
  unlocated false target = searched target

  abbrev pub placed_by : Value → Bool → Text → Text
  placed_by [] acted target = unlocated acted target
  placed_by (dir ∷ dirs) acted target = path_from (or_here dir) (plain target)

  -- an absolute name is its own path, whatever the directory is
  abbrev pub place_if : Bool → Text → Text
  place_if acted target = placed_by (value w target (codes "LOCATE")) acted target

-- ---- the same of a graph

module _ (g : Graph) where
  abbrev pub roots : List Text
  roots = roots_in g.world.now

  abbrev pub is_in_roots : Text → Bool
  is_in_roots path = is_below_roots roots path

  abbrev pub header_dirs : Text → List Text
  header_dirs target = header_dirs_in g.world.now target

  -- the files that stand at entry
  module _ (stands : Text → Bool) where
    abbrev pub is_source : Text → Bool
    is_source path = is_source_of roots stands path

    abbrev pub place : Text → Text
    place target = place_if g.world.now roots stands (is_acted g target) target

    -- a target that is made, or stands as a source
    abbrev pub is_there : Text → Bool
    is_there target = is_acted g target || is_source (place target)
