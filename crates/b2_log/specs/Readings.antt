-- What bytes begin with.
use Rattle.std.specs.Prelude.{◌≡◌, ◌≢◌, ℕ, ◌<◌, ◌≤◌, Bool, true, false, List, [], ◌∷◌, ◌++◌, length, Option}
use Rattle.std.specs.List.{AllByRecursion}
use Rattle.b2_log.specs.declared.line.Record.{Record}
use Rattle.b2_log.specs.declared.line.LogLine.{LogLine}
use Rattle.b2_log.specs.declared.line.LogLine.TheVariants as lines
use Rattle.b2_log.specs.declared.tag.Tag.{Tag}
use Rattle.b2_log.specs.declared.tag.Tag.TheVariants as tags
use Rattle.b2_log.specs.Lines.{tab, escaped, next_bytes, mark, tag_text, tag_of, line_end, log_bytes}
use Rattle.b2_base.specs.Bytes.{backslash}
use Rattle.b2_log.specs.Good.{IsText, IsPath, IsStamped, IsCounted, HasDigests, IsProper, IsGoodScan, IsGood}

-- The bytes begin with the spelling of x, which is so, and the rest follows.
pub record Begins {X : Type 0} (spell : X → List ℕ) (IsSo : X → Type 0) (bytes : List ℕ) (x : X) (rest : List ℕ) : Type 0 where
  pub so : IsSo x
  pub split : bytes ≡ spell x ++ rest

-- the bytes begin with the spelling of nothing that is so
abbrev pub BeginsNone : {X : Type 0} → (X → List ℕ) → (X → Type 0) → List ℕ → Type 0
BeginsNone {X} spell IsSo bytes = (x : X) (rest : List ℕ) → ¬ Begins spell IsSo bytes x rest

-- the bytes begin with nothing that can stand next in what is left of a field
abbrev pub HasNoNext : List ℕ → Type 0
HasNoNext bytes = (next : Option ℕ) (rest : List ℕ) → bytes ≢ next_bytes next ++ rest

-- no byte is written as a backslash and this sign
abbrev pub IsNoEscape : ℕ → Type 0
IsNoEscape sign = (sign ≢ backslash) × (sign ≢ 116) × (sign ≢ 110)

-- a byte that is written as it is, and is not zero
abbrev pub IsPlain : ℕ → Type 0
IsPlain byte = (0 < byte) × (escaped byte ≡ byte ∷ [])

-- a mark with the tab after it
abbrev pub mark_field : Bool → List ℕ
mark_field quoted = mark quoted ++ tab ∷ []

-- the bytes begin with no mark
pub record HasNoMark (bytes : List ℕ) : Type 0 where
  pub in_quotes : (rest : List ℕ) → bytes ≢ mark_field true ++ rest
  pub in_angles : (rest : List ℕ) → bytes ≢ mark_field false ++ rest

-- a tag with the tab after it
abbrev pub tag_field : Tag → List ℕ
tag_field tag = tag_text tag ++ tab ∷ []

-- the bytes begin with no tag
pub record HasNoTag (bytes : List ℕ) : Type 0 where
  pub plain : (rest : List ℕ) → bytes ≢ tag_field tags.Record ++ rest
  pub digested : (rest : List ℕ) → bytes ≢ tag_field tags.Digested ++ rest
  pub drop : (rest : List ℕ) → bytes ≢ tag_field tags.Drop ++ rest
  pub scan : (rest : List ℕ) → bytes ≢ tag_field tags.Scan ++ rest

-- a record as its fields are read: good, but that it may have no output, and that its inputs may stand in any order
pub record IsReadRecord (r : Record) : Type 0 where
  pub text : IsText r.text
  pub outs : IsCounted IsStamped r.outs
  pub ins : IsCounted IsStamped r.ins
  pub digests : HasDigests r r.digests

-- a line as its fields are read, before it is asked whether it is proper
abbrev pub IsRead : LogLine → Type 0
IsRead (lines.Record r) = IsReadRecord r
IsRead (lines.Drop outs) = IsCounted IsPath outs
IsRead (lines.Scan s) = IsGoodScan s

-- a line as its fields are read after this tag
pub record IsReadAs (tag : Tag) (line : LogLine) : Type 0 where
  pub fields : IsRead line
  pub tagged : tag_of line ≡ tag

-- a line is proper, and its end stands first in the bytes
pub record Ends (line : LogLine) (bytes after : List ℕ) : Type 0 where
  pub proper : IsProper line
  pub split : bytes ≡ line_end ++ after

-- The lines stand first in the bytes and are good, they have this length, and no longer prefix is made of good lines.
pub record IsReading (bytes : List ℕ) (lines : List LogLine) (good : ℕ) : Type 0 where
  pub rest : List ℕ
  pub split : bytes ≡ log_bytes lines ++ rest
  pub each : AllByRecursion IsGood lines
  pub measure : good ≡ length (log_bytes lines)
  pub longest : (others : List LogLine) (after : List ℕ) → AllByRecursion IsGood others → bytes ≡ log_bytes others ++ after → length (log_bytes others) ≤ good
