-- Where the last texts of a list go, their size goes from its size: for lists that are cut back to a length.
use Rattle.std.proofs.Common.{◌≡◌, ℕ, ◌+◌, ◌-◌, ◌≤◌, min, take, drop, ap, ◌∙◌, arith}
use Rattle.std.proofs.lemmas.List.Sums.{sum_by-take-drop}
use Rattle.jam_journal.specs.Scopes.{Value}
use Rattle.jam_journal.specs.Sizes.{size_of, capped}

parts : (texts : Value) (count : ℕ) → size_of (take count texts) + size_of (drop count texts) ≡ size_of texts
parts texts count = sum_by-take-drop _ texts count

cut_by : (first rest all whole cut : ℕ) → first + rest ≡ all → whole ≡ min all 18446744073709551615 → (whole ≡ 18446744073709551615 → ⊥) → cut ≡ min (0 + rest) 18446744073709551615 → (cut ≤ whole) × (whole - cut ≡ min first 18446744073709551615)
cut_by first rest all whole cut e w small c = (omega arith, omega arith)

pub cut : (texts rest : Value) (count whole part : ℕ) → whole ≡ capped (size_of texts) → (whole ≡ 18446744073709551615 → ⊥) → rest ≡ drop count texts → part ≡ capped (0 + size_of rest) → (part ≤ whole) × (whole - part ≡ capped (size_of (take count texts)))
cut texts rest count whole part w small is p =
    cut_by (size_of (take count texts)) (size_of (drop count texts)) (size_of texts) whole part (parts texts count) w small (p ∙ ap (λ v. capped (0 + size_of v)) is)
