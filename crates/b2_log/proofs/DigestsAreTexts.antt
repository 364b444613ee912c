-- Hex digits are ASCII and not zero; so where no text stands, or a field that is no digest, no digest is read.
use Rattle.std.proofs.Common.{◌≡◌, ℕ, ◌<◌, true, false, List, ◌++◌, length, get_or, sym, subst, ◌∙◌, inl, inr, arith}
use Rattle.std.proofs.lemmas.Str.{IsUtf8-from_ascii}
use Rattle.std.proofs.lemmas.Bool.{cases_lt}
use Rattle.std.proofs.lemmas.Bool.Decides.{leb_tells}
use Rattle.std.proofs.lemmas.List.{get_or_past}
use Rattle.b2_log.specs.Lines.{field}
use Rattle.b2_log.specs.Good.{IsText, IsHex, IsDigest}
use Rattle.b2_log.specs.Readings.{BeginsNone}
use Rattle.b2_log.proofs.FieldsHaveOneReading.{field_free}

record IsInRange (byte : ℕ) : Type 0 where
  low : 0 < byte
  high : byte < 128

hex_range : (byte : ℕ) → IsHex byte → IsInRange byte
hex_range byte e = elim (leb_tells 48 byte) [
  | inl a ↦ elim (leb_tells byte 57) [
    | inl b ↦ record { low = omega arith; high = omega arith }
    | inr b ↦ elim (leb_tells byte 102) [
      | inl c ↦ record { low = omega arith; high = omega arith }
      | inr c ↦ elim (leb_tells 97 byte) [
        | inl d ↦ absurd (let wrong : false ≡ true = rw (a.0, b.0, c.0, d.0) at e in cc)
        | inr d ↦ record { low = omega arith; high = omega arith }
      ]
    ]
  ]
  | inr a ↦ elim (leb_tells 97 byte) [
    | inl d ↦ record { low = omega arith; high = omega arith }
    | inr d ↦ absurd (let wrong : false ≡ true = rw (a.0, d.0) at e in cc)
  ]
]

pub digest_text : (digest : List ℕ) → IsDigest digest → IsText digest
digest_text digest p = record {
  utf8 = IsUtf8-from_ascii digest (λ k. elim (cases_lt k (length digest)) [
    | inl lt ↦ (hex_range (get_or digest k 0) (p.digits k 0 lt)).high
    | inr le ↦ rw (get_or_past digest k 0 le) (omega arith)
  ]);
  no_zero = λ k d lt. (hex_range (get_or digest k d) (p.digits k d lt)).low;
}

pub digest_untold : (bytes : List ℕ) → BeginsNone field IsText bytes → BeginsNone field IsDigest bytes
digest_untold bytes none digest v b = none digest v (record { so = digest_text digest b.so; split = b.split })

pub digest_refused : (bytes text rest : List ℕ) → bytes ≡ field text ++ rest → (IsDigest text → ⊥) → BeginsNone field IsDigest bytes
digest_refused bytes text rest e not_so digest v b = not_so (subst IsDigest (sym (field_free text digest rest v (sym e ∙ b.split)).0) b.so)
