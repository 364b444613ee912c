use Rattle.std.proofs.Common.{◌≡◌, length, sym, ap, cond, Some, None, subst, ◌∙◌}
use Rattle.std.proofs.lemmas.Bool.{eqb-true, eqb-false, both_ways}
use Rattle.std.proofs.lemmas.List.{nil_from_length}
use Rattle.b2_base.specs.Bytes.{HasNoZero}
use Rattle.jam_scan.specs.IncludeLines.{IsName}
use Rattle.jam_scan.proofs.PartsOfLinesAreRead.{name_not, name_so}
use Rattle.jam_scan.proofs.line.name_of.Goals as goal
use Rattle.jam_scan.proofs.line.name_of.Goals.{then-is_empty-via-then-is_empty, then-is_empty-via-else-is_empty+then-not-has_no_zero}

pub returns-in_default : goal.returns-in_default
returns-in_default c = sym (ap (λ b. cond b (Some c.args.bytes.now) None) (name_not c.args.bytes.now (λ n. c.in_default.ensures.cases.0 n.utf8)))

pub returns-then-is_empty : goal.returns-then-is_empty
returns-then-is_empty c =
    let bytes = c.args.bytes.now in
    let name = c.in-Ok.name.now in
    let same : name ≡ bytes = c.in-Ok.ensures.cases.0 in
    let no_name : IsName bytes → ⊥ = λ n. elim c.then-is_empty.branch [
      | then-is_empty-via-then-is_empty w ↦ n.not_empty (sym same ∙ nil_from_length name (eqb-true (length name) 0 (sym c.is_empty.ensures ∙ w.if-is_empty.true)))
      | then-is_empty-via-else-is_empty+then-not-has_no_zero w ↦ both_ways w.has_no_zero.result w.if-not-has_no_zero.true (w.has_no_zero.ensures.1 (subst HasNoZero (sym same) n.no_zero))
    ] in
    sym (ap (λ b. cond b (Some bytes) None) (name_not bytes no_name))

pub returns : goal.returns
returns c =
    let bytes = c.args.bytes.now in
    let name = c.in-Ok.name.now in
    let same : name ≡ bytes = c.in-Ok.ensures.cases.0 in
    let is_name_here : IsName bytes = record {
      utf8 = c.in-Ok.ensures.cases.1;
      not_empty = λ e. eqb-false (length name) 0 (sym c.is_empty.ensures ∙ c.if-is_empty.false) (ap length (same ∙ e));
      no_zero = subst HasNoZero same (c.has_no_zero.ensures.0 c.if-not-has_no_zero.false);
    } in
    ap Some same ∙ sym (ap (λ b. cond b (Some bytes) None) (name_so bytes is_name_here))
