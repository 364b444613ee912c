-- The modifiers of a name, and what they make of an element.
use Rattle.std.specs.Prelude.{ℕ, zero, suc, ◌+◌, ◌==◌, Bool, true, false, not, ◌&&◌, ◌||◌, List, [], ◌∷◌, ◌++◌, length, drop, map, Option, Some, None, is_some, Result, Ok, Err, if◌then◌else◌}
use Rattle.std.specs.Str.{str_to_ascii_uppercase, str_to_ascii_lowercase, bytes_eq}
use Rattle.b2_base.specs.declared.expand_fault.ExpandFault.{ExpandFault}
use Rattle.b2_base.specs.declared.expand_fault.ExpandFault.TheVariants as faults
use Rattle.jam_path.specs.Names.{parts_of, grist_text, path_text, begins_with, closes_with}
use Rattle.jam_path.specs.declared.name_parts.NameParts.{NameParts}
use Rattle.jam_expand.specs.declared.modifiers.PartChange.{PartChange}
use Rattle.jam_expand.specs.declared.modifiers.PartChange.TheVariants.{Keep, Select, Replace}
use Rattle.jam_expand.specs.declared.modifiers.Modifiers.{Modifiers}
use Rattle.jam_expand.specs.Cuts.{up_to}

abbrev pub no_modifiers : Modifiers
no_modifiers = record { grist = Keep; dir = Keep; base = Keep; suffix = Keep; member = Keep; parent = false; upper = false; lower = false; empty = None; glue = None; root = None }

-- A letter that stands alone: `G D B S M` select a part, and `P U L` stand so.
unfoldable pub alone : ℕ → Modifiers → Option Modifiers
alone letter modifiers =
    if letter == 71 then Some (record modifiers { grist = Select })
    else (if letter == 68 then Some (record modifiers { dir = Select })
    else (if letter == 66 then Some (record modifiers { base = Select })
    else (if letter == 83 then Some (record modifiers { suffix = Select })
    else (if letter == 77 then Some (record modifiers { member = Select })
    else (if letter == 80 then Some (record modifiers { parent = true })
    else (if letter == 85 then Some (record modifiers { upper = true })
    else (if letter == 76 then Some (record modifiers { lower = true })
    else None)))))))

-- A letter with a value: `G D B S M` replace a part, and `E J R` stand so.
unfoldable pub valued : ℕ → List ℕ → Modifiers → Option Modifiers
valued letter value modifiers =
    if letter == 71 then Some (record modifiers { grist = Replace value })
    else (if letter == 68 then Some (record modifiers { dir = Replace value })
    else (if letter == 66 then Some (record modifiers { base = Replace value })
    else (if letter == 83 then Some (record modifiers { suffix = Replace value })
    else (if letter == 77 then Some (record modifiers { member = Replace value })
    else (if letter == 69 then Some (record modifiers { empty = Some value })
    else (if letter == 74 then Some (record modifiers { glue = Some value })
    else (if letter == 82 then Some (record modifiers { root = Some value })
    else None)))))))

abbrev pub Modified : Type 0
Modified = Result Modifiers ExpandFault

-- the modifiers with one more, and what is read next, or the text from the bad one on
abbrev pub next_modifier : List ℕ → Option Modifiers → (Modifiers → Modified) → Modified
next_modifier text None next = Err (faults.BadModifier text)
next_modifier text (Some modifiers) next = next modifiers

-- the value after an `=`, up to the next `:` (58) or the end
abbrev pub value_at : List ℕ → List ℕ
value_at bytes = up_to (58 ∷ []) (drop 1 bytes)

-- one letter, with a value where `=` (61) follows; `next` reads on after so many further bytes
abbrev pub letter_at : ℕ → List ℕ → Modifiers → (ℕ → Modifiers → Modified) → Modified
letter_at letter bytes modifiers next =
    if begins_with 61 bytes
    then next_modifier (letter ∷ bytes) (valued letter (value_at bytes) modifiers) (next (length (value_at bytes) + 1))
    else next_modifier (letter ∷ bytes) (alone letter modifiers) (next 0)

-- The modifiers that a text adds, after some bytes that belong to a value and are skipped. A `:` divides.
unfoldable pub modified_after : ℕ → List ℕ → Modifiers → Modified
modified_after skipped [] modifiers = Ok modifiers
modified_after zero (byte ∷ bytes) modifiers =
    if byte == 58 then modified_after 0 bytes modifiers
    else letter_at byte bytes modifiers (λ skipped more. modified_after skipped bytes more)
modified_after (suc skipped) (byte ∷ bytes) modifiers = modified_after skipped bytes modifiers

-- the modifiers that stand in a text
abbrev pub modified : List ℕ → Modified
modified text = modified_after 0 text no_modifiers

abbrev pub is_select : PartChange → Bool
is_select Keep = false
is_select Select = true
is_select (Replace value) = false

abbrev pub is_keep : PartChange → Bool
is_keep Keep = true
is_keep Select = false
is_keep (Replace value) = false

-- a letter selects
abbrev pub selects : Modifiers → Bool
selects modifiers = is_select modifiers.grist || is_select modifiers.dir || is_select modifiers.base || is_select modifiers.suffix || is_select modifiers.member

-- one of `G D B S M P R` stands, so that elements are taken apart
abbrev pub takes_apart : Modifiers → Bool
takes_apart modifiers =
    not (is_keep modifiers.grist && is_keep modifiers.dir && is_keep modifiers.base && is_keep modifiers.suffix && is_keep modifiers.member)
    || modifiers.parent || is_some modifiers.root

-- a part stays unless others are selected; a replaced one has its value
abbrev pub picked : Bool → PartChange → List ℕ → List ℕ
picked others Keep text = if others then [] else text
picked others Select text = text
picked others (Replace value) text = value

-- the parts that stay; `P` empties base, suffix and member
abbrev pub picked_parts : Modifiers → NameParts → NameParts
picked_parts modifiers name = record {
  grist = picked (selects modifiers) modifiers.grist name.grist;
  dir = picked (selects modifiers) modifiers.dir name.dir;
  base = if modifiers.parent then [] else picked (selects modifiers) modifiers.base name.base;
  suffix = if modifiers.parent then [] else picked (selects modifiers) modifiers.suffix name.suffix;
  member = if modifiers.parent then [] else picked (selects modifiers) modifiers.member name.member;
}

-- `R` puts nothing before a name for an empty value, for `.` (46), or where the name begins with a slash (47)
abbrev pub is_rooted : List ℕ → List ℕ → Bool
is_rooted root name = not (bytes_eq root [] || bytes_eq root (46 ∷ []) || begins_with 47 name)

-- a value and a slash, which one that ends with a slash has already
abbrev pub folder_text : List ℕ → List ℕ
folder_text root = if closes_with 47 root then root else root ++ 47 ∷ []

-- what `R` puts before a name
abbrev pub root_text : Option (List ℕ) → List ℕ → List ℕ
root_text None name = []
root_text (Some root) name = if is_rooted root name then folder_text root else []

-- the parts joined, with the root between the grist and the name
abbrev pub rooted : Option (List ℕ) → NameParts → List ℕ
rooted root name = grist_text name.grist ++ root_text root (path_text name) ++ path_text name

-- `U`, then `L`
abbrev pub cased : Modifiers → List ℕ → List ℕ
cased modifiers text =
    let raised = if modifiers.upper then str_to_ascii_uppercase text else text in
    if modifiers.lower then str_to_ascii_lowercase raised else raised

-- what the modifiers make of one element
abbrev pub changed : Modifiers → List ℕ → List ℕ
changed modifiers text = cased modifiers (if takes_apart modifiers then rooted modifiers.root (picked_parts modifiers (parts_of text)) else text)

-- the value of `E` where the list is empty
abbrev pub filled : Option (List ℕ) → List (List ℕ) → List (List ℕ)
filled (Some value) [] = value ∷ []
filled (Some value) (text ∷ texts) = text ∷ texts
filled None texts = texts

-- the texts with the glue between them
abbrev pub glued_text : List ℕ → List (List ℕ) → List ℕ
glued_text glue [] = []
glued_text glue (text ∷ []) = text
glued_text glue (text ∷ next ∷ texts) = text ++ glue ++ glued_text glue (next ∷ texts)

-- `J` joins a list that is not empty
abbrev pub glued : Option (List ℕ) → List (List ℕ) → List (List ℕ)
glued None texts = texts
glued (Some glue) [] = []
glued (Some glue) (text ∷ texts) = glued_text glue (text ∷ texts) ∷ []

-- what modifiers make of a list: `E`, then each element, then `J`
abbrev pub edited : Modifiers → List (List ℕ) → List (List ℕ)
edited modifiers texts = glued modifiers.glue (map (changed modifiers) (filled modifiers.empty texts))
