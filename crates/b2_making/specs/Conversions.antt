-- What a main target of each kind makes.
use Rattle.std.specs.Prelude.{◌≡◌, ℕ, Bool, true, false, not, ◌||◌, List, [], ◌∷◌, ◌++◌, Option, Some, None, Ok, Err, filter, find, map, codes, if◌then◌else◌}
use Rattle.std.specs.Option.{option_map_or}
use Rattle.std.specs.Str.{bytes_eq}
use Rattle.b2_props.specs.Sets.{Pair}
use Rattle.b2_props.specs.Membership.{has}
use Rattle.b2_generators.specs.declared.generator.Generator.{Generator}
use Rattle.b2_generators.specs.Table.{FileType, type_of, first_suffix, generator_named}
use Rattle.b2_generators.specs.Chains.{IsChain, IsOnlyShortest, AreFirstTwo}
use Rattle.b2_plan.specs.declared.step.Step.{Step}
use Rattle.b2_virtual.specs.Paths.{dotted, source_tail, converted_tail, named_tail, located, IsPlaced}
use Rattle.b2_base.specs.Segments.{file_name}
use Rattle.b2_declaring_calls.specs.declared.declaration.Kind.{Kind}
use Rattle.b2_declaring_calls.specs.declared.declaration.Kind.TheVariants.{Exe, Lib, Obj, Alias, Make, Install}
use Rattle.b2_virtual.specs.declared.entry.Entry.{Entry}
use Rattle.b2_virtual.specs.declared.entry.Supply.{Supply}
use Rattle.b2_making.specs.declared.output.Output.{Output}
use Rattle.b2_making.specs.Faults.{no_chain, two_chains}
use Rattle.b2_making.specs.Acts.{Act, gives, and_then, for_each, for_all, InsideIf, Joins}
use Rattle.b2_making.specs.Contexts.{Context, Site}
use Rattle.b2_making.specs.Steps.{include_dirs, location_of, is_moved, runs}
use Rattle.b2_virtual.specs.Supplies.{is_of, is_header, is_library, entries_of, carried_of, libraries_of}

-- ---- chains

-- the ids of the generators that lead from a type to another
abbrev pub chains : {E : Type 0} → List Generator → List Pair → List ℕ → List ℕ → Act E (List (List ℕ))
chains generators set from to before (Ok (ids, after)) = IsOnlyShortest generators set from to ids × (after ≡ before)
chains generators set from to before (Err (no_chain a b)) = (a ≡ from) × (b ≡ to) × ((places : List ℕ) → ¬ IsChain generators set from to places)
chains generators set from to before (Err (two_chains a b first second)) = (a ≡ from) × (b ≡ to) × AreFirstTwo generators set from to first second
chains generators set from to before (Err fault) = ⊥

abbrev pub converted : List FileType → List ℕ → List ℕ → Output
converted types tail type = record { file_type = type; tail = converted_tail tail (first_suffix types type); moves = is_moved type }

-- the outputs of a generator's step: one of each type that it gives
abbrev pub outputs_of : List FileType → List Generator → List ℕ → List ℕ → List Output
outputs_of types generators id tail = map (converted types tail) (option_map_or (λ g. g.targets) (generator_named generators id) [])

-- the named output stands for the first output of its type
abbrev pub with_named : Output → List Output → List Output
with_named named [] = []
with_named named (output ∷ more) = if bytes_eq named.file_type output.file_type then named ∷ more else output ∷ with_named named more

abbrev pub naming : Option Output → List Output → List Output
naming None outputs = outputs
naming (Some named) outputs = with_named named outputs

-- the tail that a step's converted files get theirs from: that of its first input, else a spare one
abbrev pub first_tail : List ℕ → List Entry → List ℕ
first_tail spare [] = spare
first_tail spare (e ∷ more) = e.tail

abbrev pub quoted : List ℕ → List ℕ
quoted text = codes "\"" ++ text ++ codes "\""

-- ---- what the kinds make of

-- the tail of a name in the project's directory
abbrev pub own_tail : Site → List ℕ → List ℕ
own_tail s name = named_tail s.dir name

-- what `exe` and `lib` convert to objects: their sources but headers and libraries
abbrev pub to_convert : Site → List Entry
to_convert s = filter (λ e. not (is_header e || is_library e)) (entries_of s.sources)

-- the file of an `exe`
abbrev pub program : Site → Output
program s = record { file_type = codes "EXE"; tail = own_tail s s.name; moves = true }

-- whether a `lib` is a shared one, and the type of its file
abbrev pub is_shared : Site → Bool
is_shared s = has s.set (codes "link", codes "shared")

abbrev pub library_type : Site → List ℕ
library_type s = if is_shared s then codes "SHARED_LIB" else codes "STATIC_LIB"

-- the file of a `lib`
abbrev pub library_file : List FileType → Site → Output
library_file types s = record {
  file_type = library_type s;
  tail = own_tail s (codes "lib" ++ s.name ++ dotted (first_suffix types (library_type s)));
  moves = true;
}

-- the file of a `make`
abbrev pub named_file : List FileType → Site → Output
named_file types s = record { file_type = type_of types (own_tail s s.name); tail = own_tail s s.name; moves = true }

-- the step that copies an entry to a path
abbrev pub copy_step : Site → Entry → List ℕ → Step
copy_step s e path = record {
  name = codes "install.copy";
  text = codes "cp " ++ quoted e.path ++ codes " " ++ quoted path;
  outs = path ∷ [];
  ins = e.path ∷ s.order;
  dirs = include_dirs s.set;
  always = false;
  notfile = false;
}

module _ {E : Type 0} (c : Context E) where
  -- a step for each generator: the first takes the inputs, each later one all outputs of the one before; the last gives the named
  -- output, where there is one
  abbrev pub along : Site → Option Output → List ℕ → List (List ℕ) → List Entry → Act E (List Entry)
  along s named spare [] ins = gives ins
  along s named spare (id ∷ []) ins = runs c s id ins (naming named (outputs_of c.file_types c.generators id (first_tail spare ins)))
  along s named spare (id ∷ next ∷ more) ins =
      and_then (runs c s id ins (outputs_of c.file_types c.generators id (first_tail spare ins))) (λ made. along s named spare (next ∷ more) made)

  -- a source becomes objects
  abbrev pub to_objects : Site → Entry → Act E (List Entry)
  to_objects s e =
      and_then (chains c.generators s.set e.file_type (codes "OBJ")) (λ ids. and_then (along s None e.tail ids (e ∷ [])) (λ made. gives (filter (is_of (codes "OBJ")) made)))

  -- objects and libraries become the named output, which is the entry
  abbrev pub linked : Site → Output → List Entry → Act E (List Entry)
  linked s named ins =
      and_then (chains c.generators s.set (codes "OBJ") named.file_type) (λ ids.
      and_then (along s (Some named) named.tail ids ins) (λ made.
      gives (option_map_or (λ e. e ∷ []) (find (is_of named.file_type) made) [])))

  -- `obj`: its sources but the headers, as objects
  abbrev pub makes_objects : Site → Act E Supply
  makes_objects s =
      and_then (for_all (to_objects s) (filter (λ e. not (is_header e)) (entries_of s.sources))) (λ made. gives (record { entries = made; carried = [] }))

  -- what `exe` and `lib` convert becomes objects, and these the named output, with all libraries where they are inputs
  abbrev pub links : Site → Output → Bool → Act E (List Entry)
  links s named with_libraries =
      and_then (for_all (to_objects s) (to_convert s)) (λ made. linked s named (made ++ (if with_libraries then libraries_of s.parts else [])))

  -- `exe`: the objects, then all libraries, become a program
  abbrev pub makes_program : Site → Act E Supply
  makes_program s = and_then (links s (program s) true) (λ entries. gives (record { entries = entries; carried = [] }))

  -- `lib`: the objects, of a shared one with all libraries, become a library; all libraries are carried on
  abbrev pub makes_library : Site → Act E Supply
  makes_library s =
      and_then (links s (library_file c.file_types s) (is_shared s)) (λ entries. gives (record { entries = entries; carried = libraries_of s.parts }))

  -- `make`: its rule makes one file, which has the target's name, of all entries
  abbrev pub makes_file : Site → Act E Supply
  makes_file s =
      and_then (runs c s s.rule (entries_of s.parts) (named_file c.file_types s ∷ [])) (λ entries. gives (record { entries = entries; carried = [] }))

  -- `install`: each entry is copied to the location, else to the place of the target's name; a copy keeps its type
  abbrev pub copies_to : Site → List ℕ → List ℕ → Entry → Act E Entry
  copies_to s dir location e =
      and_then (InsideIf (IsPlaced c.roots dir location (file_name e.path)) (located dir location (file_name e.path))) (λ path.
      Joins (record { path = path; file_type = e.file_type; tail = source_tail path; is_made = true }) (copy_step s e path))

  abbrev pub copies_at : Site → Option (List ℕ) → Entry → Act E Entry
  copies_at s None e = copies_to s s.dir s.name e
  copies_at s (Some location) e = copies_to s (codes ".") location e

  abbrev pub makes_copies : Site → Act E Supply
  makes_copies s = and_then (for_each (copies_at s (location_of s.set)) (entries_of s.parts)) (λ entries. gives (record { entries = entries; carried = [] }))

  -- `alias`: what it needs, as it is
  abbrev pub passes_on : Site → Act E Supply
  passes_on s = gives (record { entries = entries_of s.parts; carried = carried_of s.parts })

  abbrev pub makes_kind : Kind → Site → Act E Supply
  makes_kind Obj s = makes_objects s
  makes_kind Exe s = makes_program s
  makes_kind Lib s = makes_library s
  makes_kind Alias s = passes_on s
  makes_kind Make s = makes_file s
  makes_kind Install s = makes_copies s

  abbrev pub makes : Site → Act E Supply
  makes s = makes_kind s.kind s
