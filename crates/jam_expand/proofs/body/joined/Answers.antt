use Rattle.std.proofs.Common.{◌≡◌, ◌∙◌, ◌++◌, ◌∷◌, [], List, ℕ, ap, ap₂, string_bytes}
use Rattle.jam_expand.proofs.BodyGoesWordByWord.{joined_more, joined_first}
use Rattle.jam_expand.proofs.body.joined.Goals as goal
use Rattle.jam_expand.proofs.body.joined.Goals.{then-place-gt0+in_ok-push_white, else-place-gt0}

pub loop-place-preserved : goal.loop-place-preserved
loop-place-preserved c =
    let texts = c.args.texts.now in
    let i = c.loop-place.place in
    let x = c.index-texts-place.result in
    let old = string_bytes c.loop-place.made in
    elim c.if-place-gt0.branch [
      | then-place-gt0+in_ok-push_white w ↦
          let before : string_bytes c.if-place-gt0.made ≡ old ++ 32 ∷ [] = ap string_bytes w.made-is ∙ w.in_ok-push_white.ensures.value in
          let made : string_bytes c.push_text.new.made ≡ (old ++ 32 ∷ []) ++ x = c.in_ok-push_text.ensures.value ∙ ap₂ (λ (a b : List ℕ). a ++ b) before c.as_str.ensures.value in
          record {
            written = made ∙ joined_more texts i x old c.loop-place-test.true w.if-place-gt0.true c.index-texts-place.is c.loop-place.invariant.written;
            no_zero = c.in_ok-push_text.ensures.no_zero;
          }
      | else-place-gt0 w ↦
          let made : string_bytes c.push_text.new.made ≡ old ++ x = c.in_ok-push_text.ensures.value ∙ ap₂ (λ (a b : List ℕ). a ++ b) (ap string_bytes w.made-is) c.as_str.ensures.value in
          record {
            written = made ∙ joined_first texts i x old c.loop-place-test.true w.if-place-gt0.false c.index-texts-place.is c.loop-place.invariant.written;
            no_zero = c.in_ok-push_text.ensures.no_zero;
          }
    ]
