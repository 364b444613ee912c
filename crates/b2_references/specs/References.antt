-- What texts name: sources, values of dependency properties, and words of a request.
use Rattle.std.specs.Prelude.{ℕ, zero, suc, ◌==◌, Bool, false, not, ◌&&◌, List, [], ◌∷◌, ◌++◌, Option, Some, filter, map, length, position, slice_get, codes, if◌then◌else◌}
use Rattle.std.specs.List.{list_any, flat_map, filter_map}
use Rattle.std.specs.Option.{option_map_or, option_and_then}
use Rattle.std.specs.Str.{bytes_eq}
use Rattle.b2_base.specs.Segments.{is_rooted, path_from}
use Rattle.b2_property_texts.specs.Cuts.{cut_at}
use Rattle.b2_declared.specs.Gathering.{dir_of as dir_of_id}
use Rattle.b2_declared.specs.declared.whole.Declared.{Declared}
use Rattle.b2_references.specs.declared.meaning.Meaning.{Meaning}
use Rattle.b2_references.specs.declared.meaning.Meaning.TheVariants.{File, Targets, Nothing}
use Rattle.b2_references.specs.Names.{Name, first_names, name_of, is_target, dir_of}

-- the place of Jamroot's project
abbrev pub root : ℕ
root = 0

module _ (d : Declared) where
  -- ---- projects

  -- the place of the project of a directory
  unfoldable pub place_at : List ℕ → Option ℕ
  place_at dir = position (λ p. bytes_eq p.dir dir) d.places

  -- the place of the project of an id
  unfoldable pub place_with : List ℕ → Option ℕ
  place_with id = option_and_then place_at (dir_of_id d.ids id)

  abbrev pub builds_of : ℕ → List ℕ
  builds_of project = filter_map place_at (option_map_or (λ p. p.builds) (slice_get d.places project) [])

  abbrev pub is_explicit : ℕ → List ℕ → Bool
  is_explicit project name = option_map_or (λ p. list_any (bytes_eq name) p.explicit) (slice_get d.places project) false

  -- the projects that some projects stand for: each before those that its `build-project` calls name, and each once
  abbrev pub walked : ℕ → List ℕ → List ℕ → List ℕ
  walked zero seen next = seen
  walked (suc turns) seen [] = seen
  walked (suc turns) seen (project ∷ next) =
      if list_any (λ p. p == project) seen then walked turns seen next else walked turns (seen ++ project ∷ []) (builds_of project ++ next)

  -- a turn for the project itself and for each `build-project` call there is
  unfoldable pub projects_under : ℕ → List ℕ
  projects_under project = walked (suc (length (flat_map (λ p. p.builds) d.places))) [] (project ∷ [])

  -- the main targets of a project that no `explicit` names, in order
  unfoldable pub listed_targets : ℕ → List Name
  listed_targets project =
      first_names (map name_of (filter (λ t. t.project == project && not (is_explicit project t.name)) d.targets))

  -- what a project stands for: its main targets, then those of the projects that it builds
  unfoldable pub project_meaning : ℕ → Meaning
  project_meaning project = Targets (flat_map listed_targets (projects_under project))

  -- ---- references

  abbrev pub target_meaning : Name → Meaning
  target_meaning name = if is_target d name then Targets (name ∷ []) else Nothing

  -- the project that stands before `//`: nothing stands for Jamroot's, an id begins with a slash, all else is a directory
  abbrev pub project_before : List ℕ → List ℕ → Option ℕ
  project_before dir [] = Some root
  project_before dir (first ∷ rest) = if is_rooted (first ∷ rest) then place_with (first ∷ rest) else place_at (path_from dir (first ∷ rest))

  -- a reference, cut at its first `//`: a main target of a project
  unfoldable pub reference_meaning : List ℕ → List ℕ × List ℕ → Meaning
  reference_meaning dir parts = option_map_or (λ project. target_meaning (project, parts.1)) (project_before dir parts.0) Nothing

  -- an id by itself stands for its project
  unfoldable pub id_meaning : List ℕ → Meaning
  id_meaning id = option_map_or project_meaning (place_with id) Nothing

  -- a text without `//` names a main target of a project, or a file of its directory
  unfoldable pub target_or_file : ℕ → List ℕ → Meaning
  target_or_file project text = if is_target d (project, text) then Targets ((project, text) ∷ []) else File (path_from (dir_of d project) text)

  -- a source of a main target
  unfoldable pub source_meaning : ℕ → List ℕ → Meaning
  source_meaning project text = option_map_or (reference_meaning (dir_of d project)) (cut_at (codes "//") text) (target_or_file project text)

  -- a value without `//`: an id, or else what it names in Jamroot
  unfoldable pub plain_value_meaning : List ℕ → Meaning
  plain_value_meaning text = if is_rooted text then id_meaning text else target_or_file root text

  -- The value of a dependency property. Those of project files were made whole when they were read; that of a request names
  -- what it would name in Jamroot.
  unfoldable pub value_meaning : List ℕ → Meaning
  value_meaning text = option_map_or (reference_meaning (codes ".")) (cut_at (codes "//") text) (plain_value_meaning text)

  -- ---- words

  -- a directory of a loaded project; the empty word is none
  unfoldable pub directory_meaning : List ℕ → Meaning
  directory_meaning [] = Nothing
  directory_meaning (first ∷ rest) = option_map_or project_meaning (place_at (path_from (codes ".") (first ∷ rest))) Nothing

  -- a word without `//`: an id, or a main target of Jamroot, or else a directory
  unfoldable pub plain_word_meaning : List ℕ → Meaning
  plain_word_meaning word =
      if is_rooted word then id_meaning word else (if is_target d (root, word) then Targets ((root, word) ∷ []) else directory_meaning word)

  unfoldable pub word_meaning : List ℕ → Meaning
  word_meaning word = option_map_or (reference_meaning (codes ".")) (cut_at (codes "//") word) (plain_word_meaning word)
