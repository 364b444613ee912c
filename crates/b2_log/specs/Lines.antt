-- How a line of the log is written.
use Rattle.std.specs.Prelude.{ℕ, ◌==◌, Bool, List, [], ◌∷◌, ◌++◌, length, codes, Option, Some, None, if◌then◌else◌}
use Rattle.std.specs.List.{flat_map, zip}
use Rattle.std.specs.Fmt.{decimal}
use Rattle.b2_base.specs.Bytes.{line_feed, backslash}
use Rattle.b2_log.specs.declared.line.Record.{Record}
use Rattle.b2_log.specs.declared.line.Digests.{Digests}
use Rattle.b2_log.specs.declared.line.LogLine.{LogLine}
use Rattle.b2_log.specs.declared.line.LogLine.TheVariants as lines
use Rattle.b2_log.specs.declared.tag.Tag.{Tag}
use Rattle.b2_log.specs.declared.tag.Tag.TheVariants as tags

abbrev pub tab : ℕ
tab = 9

-- a byte within a field: a backslash, a tab and a line feed are written `\\`, `\t` and `\n`, every other byte as it is
abbrev pub escaped : ℕ → List ℕ
escaped byte =
    if byte == backslash then backslash ∷ backslash ∷ []
    else (if byte == tab then backslash ∷ 116 ∷ []
    else (if byte == line_feed then backslash ∷ 110 ∷ []
    else byte ∷ []))

-- what can stand next in what is left of a field: a byte of it, or the tab at its end
abbrev pub next_bytes : Option ℕ → List ℕ
next_bytes None = tab ∷ []
next_bytes (Some byte) = escaped byte

-- a field, with the tab that divides it from the next one
unfoldable pub field : List ℕ → List ℕ
field text = flat_map escaped text ++ tab ∷ []

-- a number, in decimal without leading zeros
abbrev pub number : ℕ → List ℕ
number n = field (decimal n)

-- a path with its stamp
abbrev pub stamped : List ℕ × ℕ → List ℕ
stamped file = field file.0 ++ number file.1

-- a path with its stamp and its digest
abbrev pub digested : (List ℕ × ℕ) × List ℕ → List ℕ
digested file = stamped file.0 ++ field file.1

-- how an include was written: `q` for a name in quotes, `a` for one in angle brackets
abbrev pub mark : Bool → List ℕ
mark quoted = if quoted then codes "q" else codes "a"

-- an include: its mark and its name
abbrev pub included : List ℕ × Bool → List ℕ
included include = field (mark include.1) ++ field include.0

-- a list: how many there are, and then each of them
abbrev pub counted : {X : Type 0} → (X → List ℕ) → List X → List ℕ
counted spell xs = number (length xs) ++ flat_map spell xs

-- the outputs and the inputs of a record, by its digests: where it has some, each path has its own
abbrev pub file_fields : Record → Option Digests → List ℕ
file_fields r None = counted stamped r.outs ++ counted stamped r.ins
file_fields r (Some d) = counted digested (zip r.outs d.outs) ++ counted digested (zip r.ins d.ins)

-- the fields of a line, after its tag
abbrev pub fields_of : LogLine → List ℕ
fields_of (lines.Record r) = field r.text ++ file_fields r r.digests
fields_of (lines.Drop outs) = counted field outs
fields_of (lines.Scan s) = field s.path ++ number s.stamp ++ counted included s.includes

-- the tag of a record follows from its digests
abbrev pub record_tag : Option Digests → Tag
record_tag None = tags.Record
record_tag (Some d) = tags.Digested

-- the tag of a line
abbrev pub tag_of : LogLine → Tag
tag_of (lines.Record r) = record_tag r.digests
tag_of (lines.Drop outs) = tags.Drop
tag_of (lines.Scan s) = tags.Scan

-- the first field of a line, which tells its kind
abbrev pub tag_text : Tag → List ℕ
tag_text tags.Record = codes "+1"
tag_text tags.Digested = codes "+2"
tag_text tags.Drop = codes "-1"
tag_text tags.Scan = codes "s1"

-- the last field, which is a `.`, and the line feed
abbrev pub line_end : List ℕ
line_end = 46 ∷ line_feed ∷ []

-- a line: its tag, its fields, `.` and a line feed
abbrev pub spelling : LogLine → List ℕ
spelling line = field (tag_text (tag_of line)) ++ fields_of line ++ line_end

-- lines one after the other
abbrev pub log_bytes : List LogLine → List ℕ
log_bytes = flat_map spelling
