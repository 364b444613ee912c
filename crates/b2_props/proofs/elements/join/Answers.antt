use Rattle.std.proofs.Common.{◌≡◌, ◌∙◌, ◌++◌, ◌∷◌, ◌<◌, [], List, ℕ, sym, ap, ap₂, subst, string_bytes, arith}
use Rattle.std.proofs.lemmas.List.Elements.{All-append}
use Rattle.std.proofs.lemmas.Str.{encode_ascii}
use Rattle.b2_base.specs.Bytes.{HasNoZero}
use Rattle.b2_props.proofs.ShownElementsGrowByOne.{join_more, join_first, no_zero_joined}
use Rattle.b2_props.proofs.elements.join.Goals as goal
use Rattle.b2_props.proofs.elements.join.Goals.{then-i-gt0+in_ok-push, else-i-gt0}

pub loop-i-preserved : goal.loop-i-preserved
loop-i-preserved c =
    let pieces = c.args.pieces.now in
    let i = c.loop-i.i in
    let x = c.index-pieces-i.result in
    let no_zero : HasNoZero x = c.as_str.ensures.no_zero in
    elim c.if-i-gt0.branch [
      | then-i-gt0+in_ok-push w ↦
          let before : string_bytes c.if-i-gt0.text ≡ string_bytes c.loop-i.text ++ 47 ∷ [] = ap string_bytes w.text-is ∙ w.in_ok-push.ensures.bytes ∙ ap (λ (bs : List ℕ). string_bytes c.loop-i.text ++ bs) (encode_ascii 47 (omega arith)) in
          let made : string_bytes c.push_str.new.self ≡ (string_bytes c.loop-i.text ++ 47 ∷ []) ++ x = c.in_ok-push_str.ensures.bytes ∙ ap₂ (λ (a b : List ℕ). a ++ b) before c.as_str.ensures.value in
          record {
            text = made ∙ join_more pieces i x (string_bytes c.loop-i.text) c.loop-i-test.true w.if-i-gt0.true c.index-pieces-i.is c.loop-i.invariant.text;
            no_zero = subst HasNoZero (sym made) (no_zero_joined (string_bytes c.loop-i.text) x c.loop-i.invariant.no_zero no_zero);
          }
      | else-i-gt0 w ↦
          let made : string_bytes c.push_str.new.self ≡ string_bytes c.loop-i.text ++ x = c.in_ok-push_str.ensures.bytes ∙ ap₂ (λ (a b : List ℕ). a ++ b) (ap string_bytes w.text-is) c.as_str.ensures.value in
          record {
            text = made ∙ join_first pieces i x (string_bytes c.loop-i.text) c.loop-i-test.true w.if-i-gt0.false c.index-pieces-i.is c.loop-i.invariant.text;
            no_zero = subst HasNoZero (sym made) (All-append (λ byte. 0 < byte) (string_bytes c.loop-i.text) x c.loop-i.invariant.no_zero no_zero);
          }
    ]
