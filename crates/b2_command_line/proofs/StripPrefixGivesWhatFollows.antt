-- What `strip_prefix` gives is what the definition says follows a lead in a word; for options and `--drill=`.
use Rattle.std.proofs.Common.{◌≡◌, ◌≢◌, ℕ, ◌==◌, Bool, cond, [], ◌∷◌, ◌++◌, Option, Some, None, refl, sym, ap, ap₂, ◌∙◌, ⊎_elim, option_map, drop, Bor}
use Rattle.std.proofs.lemmas.Bool.{cases_Bool, eqb-true, eq-eqb}
use Rattle.std.specs.Prelude.{MatchOption}
use Rattle.std.specs.Str.Pattern.{FindsTextPrefix, StripsPrefix}
use Rattle.b2_command_line.specs.Words.{Word, after_lead}

lead_self : (lead rest : Word) → after_lead lead (lead ++ rest) ≡ Some rest
unfolding after_lead
lead_self [] rest = refl
lead_self (byte ∷ lead) rest = ap (λ (b : Bool). cond b (after_lead lead (lead ++ rest)) None) (eq-eqb byte byte refl) ∙ lead_self lead rest

pub lead_found : (lead rest word : Word) → word ≡ lead ++ rest → after_lead lead word ≡ Some rest
lead_found lead rest word e = ap (after_lead lead) e ∙ lead_self lead rest

pub lead_none : (lead word : Word) → ((rest : Word) → word ≢ lead ++ rest) → after_lead lead word ≡ None
unfolding after_lead
lead_none [] word none = absurd (none word refl)
lead_none (byte ∷ lead) [] none = refl
lead_none (byte ∷ lead) (head ∷ word) none = ⊎_elim
    (λ h. ap (λ (b : Bool). cond b (after_lead lead word) None) h
    ∙ lead_none lead word (λ rest e. none rest (ap₂ (λ (x : ℕ) (xs : Word). x ∷ xs) (sym (eqb-true byte head h)) e)))
    (λ h. ap (λ (b : Bool). cond b (after_lead lead word) None) h)
    (cases_Bool (byte == head))

-- what `strip_prefix` gives
pub stripped : (lead text : Word) (o : Option (Bor Word)) → MatchOption o (FindsTextPrefix lead text None) (λ x. StripsPrefix (FindsTextPrefix lead) text x.now) → option_map (λ (x : Bor Word). x.now) o ≡ after_lead lead text
stripped lead text None h = sym (lead_none lead text h)
stripped lead text (Some x) h =
    ap (λ (t : Word). Some t) h.2 ∙ sym (lead_found lead (drop h.0 text) text h.1.1)
