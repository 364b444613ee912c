-- A name is a text where no byte of it is zero.
use Rattle.std.proofs.Common.{◌≡◌, ◌<◌, ◌↔◌, Bool, true, false, List, ℕ, IsTrue, nat_lt, refl, sym}
use Rattle.std.proofs.lemmas.Bool.{ltb-true, lt-ltb}
use Rattle.std.proofs.lemmas.List.Elements.{All-weaker}
use Rattle.std.proofs.lemmas.List.Sums.{AllPass-from_list_all, list_all-from_AllPass}
use Rattle.b2_base.specs.Bytes.{HasNoZero}
use Rattle.jam_scope.specs.Names.{is_text}

clean : (text : List ℕ) → is_text text ≡ true → HasNoZero text
clean text e = All-weaker (λ byte. nat_lt 0 byte ≡ true) (λ byte. 0 < byte) (λ byte. ltb-true 0 byte) text (AllPass-from_list_all (λ byte. nat_lt 0 byte) text e)

passes : (text : List ℕ) → HasNoZero text → is_text text ≡ true
passes text h = list_all-from_AllPass (λ byte. nat_lt 0 byte) text (All-weaker (λ byte. 0 < byte) (λ byte. nat_lt 0 byte ≡ true) (λ byte. lt-ltb 0 byte) text h)

-- an answer that is true exactly where no byte is zero
pub is_text_told : (text : List ℕ) (answer : Bool) → (IsTrue answer ↔ HasNoZero text) → answer ≡ is_text text
is_text_told text true h = sym (passes text (h.0 refl))
is_text_told text false h = go (is_text text) refl
  where
    go : (b : Bool) → is_text text ≡ b → false ≡ b
    go false e = refl
    go true e = h.1 (clean text e)
