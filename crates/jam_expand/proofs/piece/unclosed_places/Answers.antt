use Rattle.std.proofs.Common.{◌≡◌, ◌-◌, ◌++◌, ◌∷◌, [], ◌&&◌, cond, eqb, get_or, refl, arith}
use Rattle.jam_expand.proofs.ReadingBackFindsUnclosed.{spare_fits, read_back, kept_place, no_dollar, no_sign, is_sign, is_other}
use Rattle.jam_expand.proofs.piece.unclosed_places.Goals as goal
use Rattle.jam_expand.proofs.piece.unclosed_places.Goals.{then-opens+then-byte-eq36+in_ok-push, else-opens, else-opens-via-then-opens+else-byte-eq36, else-opens-via-else-opens, then-byte-eq40, else-byte-eq40}

pub spare_with-spare-requires : goal.spare_with-spare-requires
spare_with-spare-requires c = omega (arith, spare_fits c.args.bytes.now c.bytes.at c.bytes.places.items c.bytes.spare c.bytes.opens c.bytes.invariant)

pub bytes-preserved : goal.bytes-preserved
bytes-preserved c =
    let byte = get_or c.args.bytes.now (c.bytes.at - 1) 0 in
    let more : c.if-opens.places.items ≡ c.bytes.places.items ++ cond (c.bytes.opens && eqb byte 36) ((c.bytes.at - 1) ∷ []) [] =
    elim c.if-opens.branch [
      | then-opens+then-byte-eq36+in_ok-push w ↦ kept_place _ _ _ _ _ w.if-opens.true w.if-byte-eq36.true (rw w.places-is w.in_ok-push.ensures.items)
      | else-opens w ↦ elim w.else-opens.branch [
        | else-opens-via-then-opens+else-byte-eq36 w' ↦ no_dollar _ _ _ _ _ w'.if-opens.true w'.if-byte-eq36.false (rw w.places-is)
        | else-opens-via-else-opens w' ↦ no_sign _ _ _ _ _ w'.if-opens.false (rw w.places-is)
      ]
    ] in
    let now : c.if-byte-eq40.opens ≡ (eqb byte 40 && eqb c.bytes.spare 0) =
    elim c.if-byte-eq40.branch [ then-byte-eq40 w ↦ is_sign _ _ _ w.if-byte-eq40.true w.opens-is | else-byte-eq40 w ↦ is_other _ _ _ w.if-byte-eq40.false w.opens-is ] in
    read_back _ _ _ _ _ _ _ _ _ c.bytes.invariant c.bytes-test.true refl more c.spare_with-spare.ensures now
