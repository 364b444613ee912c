use Rattle.std.specs.Prelude.{◌≡◌, ◌≢◌, ℕ, ◌==◌, Bool, true, false, not, ◌&&◌, ◌||◌, List, [], ◌∷◌, ◌++◌, length, slice_index, if◌then◌else◌, ◌-◌}
use Rattle.std.specs.List.{list_any, before_first, after_first, before_last, after_last}
use Rattle.b2_base.specs.Segments.{file_name, without_suffix}
use Rattle.jam_path.specs.declared.name_parts.NameParts.{NameParts}

-- the sign occurs in the text
abbrev pub has : ℕ → List ℕ → Bool
has sign text = list_any (λ byte. byte == sign) text

-- the text begins with the sign; it ends with it
abbrev pub begins_with : ℕ → List ℕ → Bool
begins_with sign text = slice_index text 0 == sign

abbrev pub closes_with : ℕ → List ℕ → Bool
closes_with sign text = slice_index text (length text - 1) == sign

-- what stands before and after the first, and the last, such sign
abbrev pub before : ℕ → List ℕ → List ℕ
before sign = before_first (λ byte. byte == sign)

abbrev pub after : ℕ → List ℕ → List ℕ
after sign = after_first (λ byte. byte == sign)

abbrev pub before_end : ℕ → List ℕ → List ℕ
before_end sign = before_last (λ byte. byte == sign)

abbrev pub after_end : ℕ → List ℕ → List ℕ
after_end sign = after_last (λ byte. byte == sign)

-- a leading `<` (60) with a `>` (62) somewhere after it
abbrev pub has_grist : List ℕ → Bool
has_grist text = begins_with 60 text && has 62 text

-- the grist runs up to the first `>`, with both signs; the path is what stands after it
abbrev pub grist_of : List ℕ → List ℕ
grist_of text = if has_grist text then before 62 text ++ 62 ∷ [] else []

abbrev pub path_of : List ℕ → List ℕ
path_of text = if has_grist text then after 62 text else text

-- the root where nothing stands before the slash (47)
abbrev pub or_root : List ℕ → List ℕ
or_root [] = 47 ∷ []
or_root (byte ∷ bytes) = byte ∷ bytes

-- the directory stands before the last slash, and the file's name after it
abbrev pub dir_of : List ℕ → List ℕ
dir_of path = if has 47 path then or_root (before_end 47 path) else []

-- a `(` (40), and a `)` (41) at the end
abbrev pub has_member : List ℕ → Bool
has_member file = closes_with 41 file && has 40 file

-- the list without its last element
abbrev pub without_last : List ℕ → List ℕ
without_last [] = []
without_last (byte ∷ []) = []
without_last (byte ∷ next ∷ bytes) = byte ∷ without_last (next ∷ bytes)

-- the member stands between the first `(` and the `)` at the end; the stem stands before the `(`
abbrev pub member_of : List ℕ → List ℕ
member_of file = if has_member file then without_last (after 40 file) else []

abbrev pub stem_of : List ℕ → List ℕ
stem_of file = if has_member file then before 40 file else file

-- the suffix with its dot (46); what stands before it is the base
abbrev pub suffix_of : List ℕ → List ℕ
suffix_of stem = if has 46 stem then 46 ∷ after_end 46 stem else []

-- the five parts of a file name
abbrev pub parts_of : List ℕ → NameParts
parts_of text = record {
  grist = grist_of text;
  dir = dir_of (path_of text);
  base = without_suffix (stem_of (file_name (path_of text)));
  suffix = suffix_of (stem_of (file_name (path_of text)));
  member = member_of (file_name (path_of text));
}

abbrev pub is_empty : List ℕ → Bool
is_empty text = length text == 0

-- a grist that is not empty is put in `<` and `>`, unless it begins with `<`
abbrev pub grist_text : List ℕ → List ℕ
grist_text grist = if is_empty grist || begins_with 60 grist then grist else (60 ∷ grist) ++ 62 ∷ []

-- a slash between the directory and the base or suffix, unless one of the two sides is empty or the directory ends
-- with one
abbrev pub slash_text : NameParts → List ℕ
slash_text name =
    if not (is_empty name.dir) && not (closes_with 47 name.dir) && (not (is_empty name.base) || not (is_empty name.suffix)) then 47 ∷ [] else []

-- a member that is not empty is put in parentheses
abbrev pub member_text : List ℕ → List ℕ
member_text member = if is_empty member then [] else (40 ∷ member) ++ 41 ∷ []

-- what the parts make without the grist
abbrev pub path_text : NameParts → List ℕ
path_text name = name.dir ++ slash_text name ++ name.base ++ name.suffix ++ member_text name.member

-- the name that the parts make
abbrev pub joined : NameParts → List ℕ
joined name = grist_text name.grist ++ name.dir ++ slash_text name ++ name.base ++ name.suffix ++ member_text name.member

-- A name that joining its parts gives back: its last slash does not follow another one, something other than a member
-- stands after it, unless the directory is the root, and parentheses at its end are not empty.
pub record IsPlain (text : List ℕ) : Type 0 where
  pub single : has 47 (path_of text) ≡ true → closes_with 47 (before_end 47 (path_of text)) ≡ false
  pub named : has 47 (path_of text) ≡ true → before_end 47 (path_of text) ≢ [] → stem_of (file_name (path_of text)) ≢ []
  pub filled : has_member (file_name (path_of text)) ≡ true → member_of (file_name (path_of text)) ≢ []
