-- The good line that bytes begin with is the one whose tag, fields and end were read; where one lacks, there is none.
use Rattle.std.proofs.Common.{◌≡◌, ℕ, ◌<◌, cond, eqb, List, ◌++◌, length, refl, sym, ap, subst, ◌∙◌, append_assoc, length-append, arith}
use Rattle.std.specs.Prelude.{sum}
use Rattle.b2_log.specs.declared.line.LogLine.{LogLine}
use Rattle.b2_log.specs.declared.line.LogLine.TheVariants as lines
use Rattle.b2_log.specs.declared.tag.Tag.{Tag}
use Rattle.b2_log.specs.declared.tag.Tag.TheVariants as tags
use Rattle.b2_log.specs.Lines.{field, fields_of, tag_of, tag_text, line_end, spelling}
use Rattle.b2_log.specs.Good.{IsProper, IsGood}
use Rattle.b2_log.specs.Readings.{Begins, BeginsNone, HasNoTag, tag_field, IsRead, IsReadAs, Ends}
use Rattle.b2_log.proofs.FieldsHaveOneReading.{field_free}
use Rattle.b2_log.proofs.JoinedPartsHaveOneReading.{IsFree}
use Rattle.b2_log.proofs.LineFieldsHaveOneReading.{fields_are_free}

-- ---- what is asked of a line

pub read_of : (line : LogLine) → IsGood line → IsRead line
read_of (lines.Record r) good = record { text = good.text; outs = good.outs; ins = good.ins; digests = good.proper.digests }
read_of (lines.Drop outs) good = good.outs
read_of (lines.Scan s) good = good

pub good_of : (line : LogLine) → IsRead line → IsProper line → IsGood line
good_of (lines.Record r) is_read proper = record { text = is_read.text; outs = is_read.outs; ins = is_read.ins; proper = proper }
good_of (lines.Drop outs) is_read proper = record { outs = is_read; some_out = proper }
good_of (lines.Scan s) is_read proper = is_read

pub proper_of : (line : LogLine) → IsGood line → IsProper line
proper_of (lines.Record r) good = good.proper
proper_of (lines.Drop outs) good = good.some_out
proper_of (lines.Scan s) good = tt

-- ---- tags

-- the tag with this sum of bytes
abbrev tag_by_sum : ℕ → Tag
tag_by_sum n = cond (eqb n 92) tags.Record (cond (eqb n 93) tags.Digested (cond (eqb n 94) tags.Drop tags.Scan))

tag_back : (tag : Tag) → tag_by_sum (sum (tag_text tag)) ≡ tag
tag_back tags.Record = refl
tag_back tags.Digested = refl
tag_back tags.Drop = refl
tag_back tags.Scan = refl

tag_same : (a b : Tag) → tag_text a ≡ tag_text b → a ≡ b
tag_same a b e = sym (tag_back a) ∙ ap (λ (t : List ℕ). tag_by_sum (sum t)) e ∙ tag_back b

-- ---- lines

line_cut : (tag fields after : List ℕ) → (field tag ++ fields ++ line_end) ++ after ≡ field tag ++ (fields ++ (line_end ++ after))
line_cut tag fields after = simp append_assoc

-- the line that stands first has the tag that was read, and then its fields
record HasTag (tag : Tag) (rest : List ℕ) (line : LogLine) (after : List ℕ) : Type 0 where
  tagged : tag_of line ≡ tag
  fields : rest ≡ fields_of line ++ (line_end ++ after)

has_tag : (bytes : List ℕ) (tag : Tag) (rest : List ℕ) (line : LogLine) (after : List ℕ) → bytes ≡ field (tag_text tag) ++ rest → bytes ≡ spelling line ++ after → HasTag tag rest line after
has_tag bytes tag rest line after e split =
    let both = field_free (tag_text tag) (tag_text (tag_of line)) rest (fields_of line ++ (line_end ++ after)) (sym e ∙ split ∙ line_cut (tag_text (tag_of line)) (fields_of line) after) in
    record { tagged = sym (tag_same tag (tag_of line) both.0); fields = both.1 }

no_tag : (bytes : List ℕ) → HasNoTag bytes → (tag : Tag) (rest : List ℕ) → bytes ≡ tag_field tag ++ rest → ⊥
no_tag bytes none tags.Record = none.plain
no_tag bytes none tags.Digested = none.digested
no_tag bytes none tags.Drop = none.drop
no_tag bytes none tags.Scan = none.scan

tag_written : (tag : Tag) → field (tag_text tag) ≡ tag_field tag
unfolding field
tag_written tags.Record = refl
tag_written tags.Digested = refl
tag_written tags.Drop = refl
tag_written tags.Scan = refl

tag_is_read : (bytes : List ℕ) (tag : Tag) (rest : List ℕ) → bytes ≡ tag_field tag ++ rest → bytes ≡ field (tag_text tag) ++ rest
tag_is_read bytes tag rest e = e ∙ ap (λ (w : List ℕ). w ++ rest) (sym (tag_written tag))

pub line_tagless : (bytes : List ℕ) → HasNoTag bytes → BeginsNone spelling IsGood bytes
line_tagless bytes none line after b =
    no_tag bytes none (tag_of line) (fields_of line ++ (line_end ++ after)) (b.split ∙ line_cut (tag_text (tag_of line)) (fields_of line) after ∙ ap (λ (w : List ℕ). w ++ (fields_of line ++ (line_end ++ after))) (tag_written (tag_of line)))

pub line_fieldless : (bytes : List ℕ) (tag : Tag) (rest : List ℕ) → bytes ≡ tag_field tag ++ rest → BeginsNone fields_of (IsReadAs tag) rest → BeginsNone spelling IsGood bytes
line_fieldless bytes tag rest e none line after b =
    let h = has_tag bytes tag rest line after (tag_is_read bytes tag rest e) b.split in
    none line (line_end ++ after) (record { so = record { fields = read_of line b.so; tagged = h.tagged }; split = h.fields })

-- the line that stands first is the one whose fields were read
record IsThat (more : List ℕ) (read_line line : LogLine) (after : List ℕ) : Type 0 where
  same : read_line ≡ line
  ends : more ≡ line_end ++ after

is_that : (bytes : List ℕ) (tag : Tag) (rest : List ℕ) (read_line : LogLine) (more : List ℕ) (line : LogLine) (after : List ℕ) → bytes ≡ field (tag_text tag) ++ rest → Begins fields_of (IsReadAs tag) rest read_line more → Begins spelling IsGood bytes line after → IsThat more read_line line after
is_that bytes tag rest read_line more line after e p b =
    let h = has_tag bytes tag rest line after e b.split in
    let both = (fields_are_free tag).one read_line line more (line_end ++ after) p.so (record { fields = read_of line b.so; tagged = h.tagged }) (sym p.split ∙ h.fields) in
    record { same = both.0; ends = both.1 }

pub line_unended : (bytes : List ℕ) (tag : Tag) (rest : List ℕ) (line : LogLine) (more : List ℕ) → bytes ≡ tag_field tag ++ rest → Begins fields_of (IsReadAs tag) rest line more → ((after : List ℕ) → ¬ Ends line more after) → BeginsNone spelling IsGood bytes
line_unended bytes tag rest line more e p none other after b =
    let that = is_that bytes tag rest line more other after (tag_is_read bytes tag rest e) p b in
    none after (record { proper = subst IsProper (sym that.same) (proper_of other b.so); split = that.ends })

pub line_found : (bytes : List ℕ) (tag : Tag) (rest : List ℕ) (line : LogLine) (more after : List ℕ) → bytes ≡ tag_field tag ++ rest → Begins fields_of (IsReadAs tag) rest line more → Ends line more after → Begins spelling IsGood bytes line after
line_found bytes tag rest line more after e p ends = record {
  so = good_of line p.so.fields ends.proper;
  split = tag_is_read bytes tag rest e
      ∙ ap (λ (w : List ℕ). field (tag_text tag) ++ w) (p.split ∙ ap (λ (w : List ℕ). fields_of line ++ w) ends.split)
      ∙ ap (λ (t : Tag). field (tag_text t) ++ (fields_of line ++ (line_end ++ after))) (sym p.so.tagged)
      ∙ sym (line_cut (tag_text (tag_of line)) (fields_of line) after);
}

-- a line has bytes
pub line_long : (line : LogLine) → 0 < length (spelling line)
line_long line = omega (arith, length-append (field (tag_text (tag_of line)) ++ fields_of line) line_end)

pub line_shorter : (bytes : List ℕ) (line : LogLine) (rest : List ℕ) → Begins spelling IsGood bytes line rest → length rest < length bytes
line_shorter bytes line rest b = omega (arith, line_long line, ap length b.split, length-append (spelling line) rest)

-- lines are read in one way
pub line_is_free : IsFree spelling IsGood
line_is_free = record {
  one = λ x y u v p q e.
      let cut = line_cut (tag_text (tag_of x)) (fields_of x) u in
      let that = is_that (spelling x ++ u) (tag_of x) (fields_of x ++ (line_end ++ u)) x (line_end ++ u) y v cut (record { so = record { fields = read_of x p; tagged = refl }; split = refl }) (record { so = q; split = e }) in
      (that.same, after_same u v that.ends);
}
  where
    after_same : (u v : List ℕ) → line_end ++ u ≡ line_end ++ v → u ≡ v
    after_same u v e = cc
