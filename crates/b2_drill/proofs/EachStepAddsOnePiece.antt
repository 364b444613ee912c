-- What is written or listed for one number more is one piece more.
use Rattle.std.proofs.Common.{◌≡◌, ◌≢◌, ◌+◌, ◌/◌, ℕ, zero, suc, List, [], ◌∷◌, ◌++◌, codes, refl, sym, ap, ◌∙◌, append_assoc, add-one}
use Rattle.b2_drill.specs.Drills.{line, source_name, target_name, sources_of, make_line, make_lines, first_edit, first_edits, round_of, rounds}

pub grows : {A : Type 0} (now before lead here piece next : List A) → before ≡ lead ++ here → now ≡ before ++ piece → next ≡ here ++ piece → now ≡ lead ++ next
grows now before lead here piece next e f g = f ∙ ap (λ t. t ++ piece) e ∙ append_assoc lead here piece ∙ ap (λ t. lead ++ t) (sym g)

pub lines_grow : (i : ℕ) → make_lines (i + 1) ≡ make_lines i ++ make_line i
unfolding make_lines
lines_grow i = rw add-one refl

pub edits_grow : (i : ℕ) → first_edits (i + 1) ≡ first_edits i ++ first_edit i ∷ []
unfolding first_edits
edits_grow i = rw add-one refl

pub rounds_grow : (n round : ℕ) → rounds n (round + 1) ≡ rounds n round ++ round_of n (round + 1)
unfolding rounds
rounds_grow n round = rw add-one refl

pub sources_of_later : (i : ℕ) → i ≢ 0 → sources_of i ≡ source_name i ++ codes " " ++ target_name (i / 2)
sources_of_later zero some = absurd (some refl)
sources_of_later (suc i) some = refl

-- the line that declares a target, from what is written at once
pub made_line : (digits sources made : List ℕ) → made ≡ codes "make t" ++ (digits ++ (codes " : " ++ (sources ++ line (codes " : @join ;")))) → made ≡ line (codes "make " ++ (codes "t" ++ digits) ++ codes " : " ++ sources ++ codes " : @join ;")
made_line digits sources made e = e ∙ sym (regrouped (codes "make t") digits (codes " : ") sources (codes " : @join ;") (10 ∷ []))
  where
    regrouped : (a b c d e f : List ℕ) → ((((a ++ b) ++ c) ++ d) ++ e) ++ f ≡ a ++ (b ++ (c ++ (d ++ (e ++ f))))
    regrouped a b c d e f = simp append_assoc
