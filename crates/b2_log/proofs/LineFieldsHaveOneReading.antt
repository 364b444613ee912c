-- What follows each tag is read in one way, and where a list, stamp or text is missing there, no such line is read.
use Rattle.std.proofs.Common.{◌≡◌, ℕ, Bool, List, ◌++◌, length, Option, Some, None, map, refl, ap, ◌∙◌}
use Rattle.std.specs.List.{zip}
use Rattle.std.proofs.lemmas.Slice.Zip.{firsts-zip, seconds-zip}
use Rattle.b2_log.specs.declared.line.Record.{Record}
use Rattle.b2_log.specs.declared.line.Digests.{Digests}
use Rattle.b2_log.specs.declared.line.LogLine.{LogLine}
use Rattle.b2_log.specs.declared.line.LogLine.TheVariants as lines
use Rattle.b2_log.specs.declared.tag.Tag.{Tag}
use Rattle.b2_log.specs.declared.tag.Tag.TheVariants as tags
use Rattle.b2_log.specs.Lines.{field, number, stamped, digested, included, counted, file_fields, fields_of, record_tag}
use Rattle.b2_log.specs.Good.{IsText, IsPath, IsNumber, IsStamped, IsDigested, IsIncluded, IsCounted, HasDigests}
use Rattle.b2_log.specs.Readings.{Begins, BeginsNone, IsReadRecord, IsReadAs}
use Rattle.b2_log.proofs.JoinedPartsHaveOneReading.{IsFree, both, AreBoth, both_is_free, both_found, both_firstless, both_secondless, IsMade, made_free, made_none, field_is_free, number_is_free, stamped_is_free, digested_is_free, included_is_free, counted_is_free}
use Rattle.b2_log.proofs.FilesAndDigestsPairUp.{zipped, unzipped_files, unzipped_digests}

-- ---- a text and two lists of one kind

abbrev step : {X : Type 0} → (X → List ℕ) → List ℕ × (List X × List X) → List ℕ
step spell = both field (both (counted spell) (counted spell))

abbrev IsStep : {X : Type 0} → (X → Type 0) → List ℕ × (List X × List X) → Type 0
IsStep IsSo = AreBoth IsText (AreBoth (IsCounted IsSo) (IsCounted IsSo))

abbrev lists : {X : Type 0} → (X → List ℕ) → List X × List X → List ℕ
lists spell = both (counted spell) (counted spell)

abbrev AreLists : {X : Type 0} → (X → Type 0) → List X × List X → Type 0
AreLists IsSo = AreBoth (IsCounted IsSo) (IsCounted IsSo)

lists_free : {X : Type 0} (spell : X → List ℕ) (IsSo : X → Type 0) → IsFree spell IsSo → IsFree (lists spell) (AreLists IsSo)
lists_free spell IsSo free =
    let list = counted_is_free spell IsSo free in
    both_is_free (counted spell) (IsCounted IsSo) (counted spell) (IsCounted IsSo) list list

step_free : {X : Type 0} (spell : X → List ℕ) (IsSo : X → Type 0) → IsFree spell IsSo → IsFree (step spell) (IsStep IsSo)
step_free spell IsSo free = both_is_free field IsText (lists spell) (AreLists IsSo) (field_is_free IsText) (lists_free spell IsSo free)

step_outless : {X : Type 0} (spell : X → List ℕ) (IsSo : X → Type 0) (bytes text middle : List ℕ) → Begins field IsText bytes text middle → BeginsNone (counted spell) (IsCounted IsSo) middle → BeginsNone (step spell) (IsStep IsSo) bytes
step_outless spell IsSo bytes text middle p none =
    both_secondless field IsText (lists spell) (AreLists IsSo) (field_is_free IsText) bytes text middle p
    (both_firstless (counted spell) (IsCounted IsSo) (counted spell) (IsCounted IsSo) middle none)

step_inless : {X : Type 0} (spell : X → List ℕ) (IsSo : X → Type 0) → IsFree spell IsSo → (bytes text middle : List ℕ) (outs : List X) (last : List ℕ) → Begins field IsText bytes text middle → Begins (counted spell) (IsCounted IsSo) middle outs last
    → BeginsNone (counted spell) (IsCounted IsSo) last → BeginsNone (step spell) (IsStep IsSo) bytes
step_inless spell IsSo free bytes text middle outs last p q none =
    both_secondless field IsText (lists spell) (AreLists IsSo) (field_is_free IsText) bytes text middle p
    (both_secondless (counted spell) (IsCounted IsSo) (counted spell) (IsCounted IsSo) (counted_is_free spell IsSo free) middle outs last q none)

step_found : {X : Type 0} (spell : X → List ℕ) (IsSo : X → Type 0) (bytes text middle : List ℕ) (outs : List X) (last : List ℕ) (ins : List X) (rest : List ℕ)
    → Begins field IsText bytes text middle → Begins (counted spell) (IsCounted IsSo) middle outs last → Begins (counted spell) (IsCounted IsSo) last ins rest → Begins (step spell) (IsStep IsSo) bytes (text, (outs, ins)) rest
step_found spell IsSo bytes text middle outs last ins rest p q r =
    both_found field IsText (lists spell) (AreLists IsSo) bytes text middle (outs, ins) rest p
    (both_found (counted spell) (IsCounted IsSo) (counted spell) (IsCounted IsSo) middle outs last ins rest q r)

-- ---- records without digests

abbrev plain_record : List ℕ × (List (List ℕ × ℕ) × List (List ℕ × ℕ)) → LogLine
plain_record s = lines.Record (record { text = s.0; outs = s.1.0; ins = s.1.1; digests = None })

plain_from : (r : Record) (d : Option Digests) → r.digests ≡ d → record_tag d ≡ tags.Record → IsReadRecord r → IsMade (step stamped) (IsStep IsStamped) fields_of plain_record (lines.Record r)
plain_from r None e tagged p = record {
  from = (r.text, (r.outs, r.ins));
  so = (p.text, (p.outs, p.ins));
  is = ap (λ (d : Option Digests). lines.Record (record { text = r.text; outs = r.outs; ins = r.ins; digests = d })) e;
  spelled = ap (λ (d : Option Digests). field r.text ++ file_fields r d) e;
}
plain_from r (Some d) e tagged p = absurd cc

plain_made : (line : LogLine) → IsReadAs tags.Record line → IsMade (step stamped) (IsStep IsStamped) fields_of plain_record line
plain_made (lines.Record r) p = plain_from r r.digests refl p.tagged p.fields
plain_made (lines.Drop outs) p = let e : tags.Drop ≡ tags.Record = p.tagged in absurd cc
plain_made (lines.Scan s) p = let e : tags.Scan ≡ tags.Record = p.tagged in absurd cc

abbrev plain_none : (bytes : List ℕ) → BeginsNone (step stamped) (IsStep IsStamped) bytes → BeginsNone fields_of (IsReadAs tags.Record) bytes
plain_none = made_none (step stamped) (IsStep IsStamped) fields_of (IsReadAs tags.Record) plain_record plain_made

pub record_outless : (bytes text middle : List ℕ) → Begins field IsText bytes text middle → BeginsNone (counted stamped) (IsCounted IsStamped) middle → BeginsNone fields_of (IsReadAs tags.Record) bytes
record_outless bytes text middle p none = plain_none bytes (step_outless stamped IsStamped bytes text middle p none)

pub record_inless : (bytes text middle : List ℕ) (outs : List (List ℕ × ℕ)) (last : List ℕ) → Begins field IsText bytes text middle → Begins (counted stamped) (IsCounted IsStamped) middle outs last
    → BeginsNone (counted stamped) (IsCounted IsStamped) last → BeginsNone fields_of (IsReadAs tags.Record) bytes
record_inless bytes text middle outs last p q none = plain_none bytes (step_inless stamped IsStamped stamped_is_free bytes text middle outs last p q none)

-- ---- records with digests

abbrev digested_record : List ℕ × (List ((List ℕ × ℕ) × List ℕ) × List ((List ℕ × ℕ) × List ℕ)) → LogLine
digested_record s = lines.Record (record {
  text = s.0;
  outs = map (λ p. p.0) s.1.0;
  ins = map (λ p. p.0) s.1.1;
  digests = Some (record { outs = map (λ p. p.1) s.1.0; ins = map (λ p. p.1) s.1.1 });
})

digested_from : (r : Record) (d : Option Digests) → r.digests ≡ d → record_tag d ≡ tags.Digested → IsReadRecord r → HasDigests r d → IsMade (step digested) (IsStep IsDigested) fields_of digested_record (lines.Record r)
digested_from r None e tagged p has = absurd cc
digested_from r (Some d) e tagged p has = record {
  from = (r.text, (zip r.outs d.outs, zip r.ins d.ins));
  so = (p.text, (zipped r.outs d.outs p.outs has.outs, zipped r.ins d.ins p.ins has.ins));
  is = ap (λ (o : Option Digests). lines.Record (record { text = r.text; outs = r.outs; ins = r.ins; digests = o })) e
      ∙ rw (firsts-zip r.outs d.outs has.outs.count, firsts-zip r.ins d.ins has.ins.count, seconds-zip r.outs d.outs has.outs.count, seconds-zip r.ins d.ins has.ins.count) refl;
  spelled = ap (λ (o : Option Digests). field r.text ++ file_fields r o) e;
}

digested_made : (line : LogLine) → IsReadAs tags.Digested line → IsMade (step digested) (IsStep IsDigested) fields_of digested_record line
digested_made (lines.Record r) p = digested_from r r.digests refl p.tagged p.fields p.fields.digests
digested_made (lines.Drop outs) p = let e : tags.Drop ≡ tags.Digested = p.tagged in absurd cc
digested_made (lines.Scan s) p = let e : tags.Scan ≡ tags.Digested = p.tagged in absurd cc

abbrev digested_none : (bytes : List ℕ) → BeginsNone (step digested) (IsStep IsDigested) bytes → BeginsNone fields_of (IsReadAs tags.Digested) bytes
digested_none = made_none (step digested) (IsStep IsDigested) fields_of (IsReadAs tags.Digested) digested_record digested_made

pub digested_outless : (bytes text middle : List ℕ) → Begins field IsText bytes text middle → BeginsNone (counted digested) (IsCounted IsDigested) middle → BeginsNone fields_of (IsReadAs tags.Digested) bytes
digested_outless bytes text middle p none = digested_none bytes (step_outless digested IsDigested bytes text middle p none)

pub digested_inless : (bytes text middle : List ℕ) (outs : List ((List ℕ × ℕ) × List ℕ)) (last : List ℕ) → Begins field IsText bytes text middle → Begins (counted digested) (IsCounted IsDigested) middle outs last
    → BeginsNone (counted digested) (IsCounted IsDigested) last → BeginsNone fields_of (IsReadAs tags.Digested) bytes
digested_inless bytes text middle outs last p q none = digested_none bytes (step_inless digested IsDigested digested_is_free bytes text middle outs last p q none)

pub digested_found : (bytes text middle : List ℕ) (outs : List (List ℕ × ℕ)) (out_digests : List (List ℕ)) (last : List ℕ) (ins : List (List ℕ × ℕ)) (in_digests : List (List ℕ)) (rest : List ℕ) → Begins field IsText bytes text middle
    → Begins (counted digested) (IsCounted IsDigested) middle (zip outs out_digests) last → length out_digests ≡ length outs → Begins (counted digested) (IsCounted IsDigested) last (zip ins in_digests) rest → length in_digests ≡ length ins
    → Begins fields_of (IsReadAs tags.Digested) bytes (lines.Record (record { text = text; outs = outs; ins = ins; digests = Some (record { outs = out_digests; ins = in_digests }) })) rest
digested_found bytes text middle outs out_digests last ins in_digests rest p q long r also =
    let found = step_found digested IsDigested bytes text middle (zip outs out_digests) last (zip ins in_digests) rest p q r in
    record {
      so = record {
        fields = record {
          text = p.so;
          outs = unzipped_files outs out_digests long q.so;
          ins = unzipped_files ins in_digests also r.so;
          digests = record { outs = unzipped_digests outs out_digests long q.so; ins = unzipped_digests ins in_digests also r.so };
        };
        tagged = refl;
      };
      split = found.split;
    }

-- ---- drops

drop_made : (line : LogLine) → IsReadAs tags.Drop line → IsMade (counted field) (IsCounted IsPath) fields_of lines.Drop line
drop_made (lines.Record r) p = not_drop r.digests p.tagged
  where
    not_drop : (d : Option Digests) → record_tag d ≡ tags.Drop → IsMade (counted field) (IsCounted IsPath) fields_of lines.Drop (lines.Record r)
    not_drop None e = absurd cc
    not_drop (Some d) e = absurd cc
drop_made (lines.Drop outs) p = record { from = outs; so = p.fields; is = refl; spelled = refl }
drop_made (lines.Scan s) p = let e : tags.Scan ≡ tags.Drop = p.tagged in absurd cc

-- ---- scans

abbrev scan_parts : (List ℕ × ℕ) × List (List ℕ × Bool) → List ℕ
scan_parts = both (both field number) (counted included)

abbrev AreScanParts : (List ℕ × ℕ) × List (List ℕ × Bool) → Type 0
AreScanParts = AreBoth (AreBoth IsPath IsNumber) (IsCounted IsIncluded)

abbrev scan_of : (List ℕ × ℕ) × List (List ℕ × Bool) → LogLine
scan_of p = lines.Scan (record { path = p.0.0; stamp = p.0.1; includes = p.1 })

scan_made : (line : LogLine) → IsReadAs tags.Scan line → IsMade scan_parts AreScanParts fields_of scan_of line
scan_made (lines.Record r) p = not_scan r.digests p.tagged
  where
    not_scan : (d : Option Digests) → record_tag d ≡ tags.Scan → IsMade scan_parts AreScanParts fields_of scan_of (lines.Record r)
    not_scan None e = absurd cc
    not_scan (Some d) e = absurd cc
scan_made (lines.Drop outs) p = let e : tags.Drop ≡ tags.Scan = p.tagged in absurd cc
scan_made (lines.Scan s) p = record { from = ((s.path, s.stamp), s.includes); so = ((p.fields.path, p.fields.stamp), p.fields.includes); is = refl; spelled = refl }

scan_none : (bytes : List ℕ) → BeginsNone scan_parts AreScanParts bytes → BeginsNone fields_of (IsReadAs tags.Scan) bytes
scan_none = made_none scan_parts AreScanParts fields_of (IsReadAs tags.Scan) scan_of scan_made

list_free : IsFree (counted included) (IsCounted IsIncluded)
list_free = counted_is_free included IsIncluded included_is_free

file_free : IsFree (both field number) (AreBoth IsPath IsNumber)
file_free = both_is_free field IsPath number IsNumber (field_is_free IsPath) number_is_free

pub scan_stampless : (bytes path middle : List ℕ) → Begins field IsPath bytes path middle → BeginsNone number IsNumber middle → BeginsNone fields_of (IsReadAs tags.Scan) bytes
scan_stampless bytes path middle p none =
    scan_none bytes (both_firstless (both field number) (AreBoth IsPath IsNumber) (counted included) (IsCounted IsIncluded) bytes (both_secondless field IsPath number IsNumber (field_is_free IsPath) bytes path middle p none))

pub scan_includeless : (bytes path middle : List ℕ) (stamp : ℕ) (last : List ℕ) → Begins field IsPath bytes path middle → Begins number IsNumber middle stamp last → BeginsNone (counted included) (IsCounted IsIncluded) last → BeginsNone fields_of (IsReadAs tags.Scan) bytes
scan_includeless bytes path middle stamp last p q none =
    scan_none bytes (both_secondless (both field number) (AreBoth IsPath IsNumber) (counted included) (IsCounted IsIncluded) file_free bytes (path, stamp) last (both_found field IsPath number IsNumber bytes path middle stamp last p q) none)

-- ---- the fields of any line

pub fields_are_free : (tag : Tag) → IsFree fields_of (IsReadAs tag)
fields_are_free tags.Record = made_free (step stamped) (IsStep IsStamped) fields_of (IsReadAs tags.Record) plain_record plain_made (step_free stamped IsStamped stamped_is_free)
fields_are_free tags.Digested = made_free (step digested) (IsStep IsDigested) fields_of (IsReadAs tags.Digested) digested_record digested_made (step_free digested IsDigested digested_is_free)
fields_are_free tags.Drop = made_free (counted field) (IsCounted IsPath) fields_of (IsReadAs tags.Drop) lines.Drop drop_made (counted_is_free field IsPath (field_is_free IsPath))
fields_are_free tags.Scan = made_free scan_parts AreScanParts fields_of (IsReadAs tags.Scan) scan_of scan_made (both_is_free (both field number) (AreBoth IsPath IsNumber) (counted included) (IsCounted IsIncluded) file_free list_free)
