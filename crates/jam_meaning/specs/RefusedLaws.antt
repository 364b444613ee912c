-- How what is refused in parts of an evaluation makes what is refused in the whole.
use Rattle.std.specs.Prelude.{◌≡◌, ℕ, ◌<◌, ◌≤◌, Option, Some, None, if◌then◌else◌}
use Rattle.std.proofs.Common.{refl, ap, ◌∙◌, arith, eq-eqb, ne_eqb}
use Rattle.jam_journal.specs.Tables.{Text}
use Rattle.jam_meaning.specs.Refused.{refused_here, Refuses, TookTurn}

-- the call that is named has this text, and no other call has one
pub here_named : (refused : Option (ℕ × Text)) (left : ℕ) (text : Text) → refused ≡ Some (left, text) → refused_here refused left ≡ Some text
here_named refused left text is = ap (λ r. refused_here r left) is ∙ ap (λ b. if b then Some text else None) (eq-eqb left left refl)

pub here_other : (refused : Option (ℕ × Text)) (at left : ℕ) (text : Text) → refused ≡ Some (at, text) → at < left → refused_here refused left ≡ None
here_other refused at left text is lower = ap (λ r. refused_here r left) is ∙ ap (λ b. if b then Some text else None) (ne_eqb at left (λ e. absurd (omega (arith, e, lower))))

-- in the first part nothing was refused, whatever the second part refused
pub refuses_first : (refused : Option (ℕ × Text)) (before middle after : ℕ) (text : Option Text) → after ≤ middle → TookTurn text middle after
    → Refuses refused before after text → Refuses refused before middle None
refuses_first refused before middle after None fell took is = λ left low high. is left (omega (arith, fell, low)) high
refuses_first refused before middle after (Some text) fell took is = λ left low high. here_other refused after left text is (omega (arith, took, low))

-- the second part refused what the whole did
pub refuses_second : (refused : Option (ℕ × Text)) (before middle after : ℕ) (text : Option Text) → middle ≤ before
    → Refuses refused before after text → Refuses refused middle after text
refuses_second refused before middle after None fell is = λ left low high. is left low (omega (arith, fell, high))
refuses_second refused before middle after (Some text) fell is = is
