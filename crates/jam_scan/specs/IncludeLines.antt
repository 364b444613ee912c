-- Which lines of a file are includes, and what they include.
use Rattle.std.specs.Prelude.{◌≡◌, ◌≢◌, ℕ, ◌==◌, nat_lt, Bool, true, not, ◌&&◌, ◌||◌, List, [], ◌∷◌, ◌++◌, All, Option, Some, None, option_and_then, codes, length, take, drop, slice_index, if◌then◌else◌}
use Rattle.std.specs.List.{slice_split, prefix_len, before_first, list_any, list_all, filter_map}
use Rattle.std.specs.Str.{IsUtf8, is_utf8, bytes_eq}
use Rattle.b2_base.specs.Bytes.{HasNoZero, Lacks, line_feed}
use Rattle.b2_plan.specs.Sources.{Include}

-- the lines of a file, which is cut at each line feed
abbrev pub lines : List ℕ → List (List ℕ)
lines = slice_split (λ byte. byte == line_feed)

-- a blank: a space or a tab
abbrev pub is_blank : ℕ → Bool
is_blank byte = byte == 32 || byte == 9

-- the sign before a name: `"`, or `<`
abbrev pub opening : Bool → ℕ
opening quoted = if quoted then 34 else 60

-- the sign that ends a name: `"`, or `>`
abbrev pub closing : Bool → ℕ
closing quoted = if quoted then 34 else 62

-- A name is UTF-8, is not empty, and has no zero byte.
pub record IsName (name : List ℕ) : Type 0 where
  pub utf8 : IsUtf8 name
  pub not_empty : name ≢ []
  pub no_zero : HasNoZero name

-- The line is an include: blanks, `#`, blanks, `include`, blanks, and a name in quotes or angle brackets. The name ends at
-- the first closing sign, and what stands behind that sign does not count.
pub record IsIncludeLine (line : List ℕ) (include : Include) : Type 0 where
  pub before : List ℕ
  pub between : List ℕ
  pub behind : List ℕ
  pub rest : List ℕ
  pub line_is : line ≡ before ++ codes "#" ++ between ++ codes "include" ++ behind ++ opening include.1 ∷ include.0 ++ closing include.1 ∷ rest
  pub blanks : All (λ byte. is_blank byte ≡ true) (before ++ between ++ behind)
  pub name : IsName include.0
  pub ends : Lacks (closing include.1) include.0

-- ---- the same as a function

-- what follows the blanks at the front
abbrev pub after_blanks : List ℕ → List ℕ
after_blanks text = drop (prefix_len is_blank text) text

-- what follows a word, where the text begins with it
unfoldable pub after_word : List ℕ → List ℕ → Option (List ℕ)
after_word word text = if bytes_eq (take (length word) text) word then Some (drop (length word) text) else None

-- what stands before the first such sign, where there is one
unfoldable pub before_sign : ℕ → List ℕ → Option (List ℕ)
before_sign sign text = if list_any (λ byte. byte == sign) text then Some (before_first (λ byte. byte == sign) text) else None

-- whether a text is a name
unfoldable pub is_name : List ℕ → Bool
is_name name = is_utf8 name && not (bytes_eq name []) && list_all (λ byte. nat_lt 0 byte) name

-- the include of a name
unfoldable pub named : Bool → List ℕ → Option Include
named quoted name = if is_name name then Some (name, quoted) else None

-- the include whose name stands at the front, between its two signs
unfoldable pub enclosed : Bool → List ℕ → Option Include
enclosed quoted text = option_and_then (named quoted) (option_and_then (before_sign (closing quoted)) (after_word (opening quoted ∷ []) text))

-- the include at the front, by its first sign
abbrev pub include_at : List ℕ → Option Include
include_at text = enclosed (slice_index text 0 == opening true) text

-- what follows `#` and `include` with blanks around them
unfoldable pub after_directive : List ℕ → Option (List ℕ)
after_directive line = option_and_then (λ rest. after_word (codes "include") (after_blanks rest)) (after_word (codes "#") (after_blanks line))

-- the include of a line
unfoldable pub include_of : List ℕ → Option Include
include_of line = option_and_then (λ rest. include_at (after_blanks rest)) (after_directive line)

-- the includes of a file, in order
unfoldable pub includes_of : List ℕ → List Include
includes_of bytes = filter_map include_of (lines bytes)
