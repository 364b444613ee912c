-- A path below a directory is what stands before names and a rest; when the rest is a name. For lists of names.
use Rattle.std.proofs.Common.{◌≡◌, ◌≢◌, ℕ, Bool, true, false, cond, not, eqb, ◌&&◌, List, [], ◌∷◌, ◌++◌, codes, refl, ap, sym, ◌∙◌, subst, append_assoc, ◌<◌}
use Rattle.std.specs.List.{AllByRecursion, join_with_byte, list_all}
use Rattle.std.specs.Str.{bytes_eq}
use Rattle.std.proofs.lemmas.Bool.{true≢false}
use Rattle.std.proofs.lemmas.Bool.Decides.{Decides-eqb}
use Rattle.std.proofs.lemmas.List.Folds.{list_all-append}
use Rattle.std.proofs.lemmas.Slice.Eq.{bytes_eq-Decides}
use Rattle.std.proofs.lemmas.List.Elements.{All-tail}
use Rattle.b2_base.specs.Bytes.{HasNoZero}
use Rattle.b2_base.specs.Segments.{is_rooted, written}
use Rattle.b2_base.specs.Normal.{IsNormal, IsUnder, parts}
use Rattle.b2_base.proofs.BeginningTellsWhatIsUnder.{IsPart, all_are, parts_written, cut_is}
use Rattle.b2_base.proofs.NormalMakesNormalForms.{IsWhole}
use Rattle.b2_files.specs.Names.{IsNameIn, lead_in}

-- ---- what stands before the names

-- a directory with parts
lead_other : (dir s : List ℕ) (ss : List (List ℕ)) → parts dir ≡ s ∷ ss → lead_in dir ≡ dir ++ codes "/"
lead_other dir s ss e = go (bytes_eq dir (codes ".")) refl (bytes_eq dir (codes "/")) refl
  where
    none : [] ≡ s ∷ ss → ⊥
    none h = cc

    go : (a : Bool) → bytes_eq dir (codes ".") ≡ a → (b : Bool) → bytes_eq dir (codes "/") ≡ b → cond a [] (cond b (codes "/") (dir ++ codes "/")) ≡ dir ++ codes "/"
    go true h b k = absurd (none (sym (ap parts ((bytes_eq-Decides dir (codes ".")).0 h)) ∙ e))
    go false h true k = absurd (none (sym (ap parts ((bytes_eq-Decides dir (codes "/")).0 k)) ∙ e))
    go false h false k = refl

join_on : (s : List ℕ) (ss : List (List ℕ)) (next : List ℕ) (more : List (List ℕ)) → join_with_byte 47 ((s ∷ ss) ++ next ∷ more) ≡ (join_with_byte 47 (s ∷ ss) ++ codes "/") ++ join_with_byte 47 (next ∷ more)
join_on s [] next more = sym (append_assoc s (codes "/") (join_with_byte 47 (next ∷ more)))
join_on s (t ∷ ss) next more =
    ap (λ r. s ++ 47 ∷ r) (join_on t ss next more)
    ∙ sym (append_assoc s (47 ∷ (join_with_byte 47 (t ∷ ss) ++ codes "/")) (join_with_byte 47 (next ∷ more)))
    ∙ ap (λ r. r ++ join_with_byte 47 (next ∷ more)) (sym (append_assoc s (47 ∷ join_with_byte 47 (t ∷ ss)) (codes "/")))

written_on : (r : Bool) (s : List ℕ) (ss : List (List ℕ)) (next : List ℕ) (more : List (List ℕ)) → written r ((s ∷ ss) ++ next ∷ more) ≡ (written r (s ∷ ss) ++ codes "/") ++ join_with_byte 47 (next ∷ more)
written_on true s ss next more = ap (λ t. 47 ∷ t) (join_on s ss next more)
written_on false s ss next more = join_on s ss next more

text_on : (r : Bool) (ds : List (List ℕ)) (dir next : List ℕ) (more : List (List ℕ)) → dir ≡ written r ds → parts dir ≡ ds → written r (ds ++ next ∷ more) ≡ lead_in dir ++ join_with_byte 47 (next ∷ more)
text_on true [] dir next more e k = ap (λ d. lead_in d ++ join_with_byte 47 (next ∷ more)) (sym e)
text_on false [] dir next more e k = ap (λ d. lead_in d ++ join_with_byte 47 (next ∷ more)) (sym e)
text_on r (s ∷ ss) dir next more e k =
    written_on r s ss next more
    ∙ ap (λ d. (d ++ codes "/") ++ join_with_byte 47 (next ∷ more)) (sym e)
    ∙ ap (λ l. l ++ join_with_byte 47 (next ∷ more)) (sym (lead_other dir s ss k))

-- a path is what stands before the names, and then its further parts
pub under_text : (path dir : List ℕ) → IsNormal path → IsNormal dir → (u : IsUnder path dir) → path ≡ lead_in dir ++ join_with_byte 47 (u.next ∷ u.more)
under_text path dir n m u =
    cut_is path n
    ∙ ap (λ r. written r (parts path)) u.rooted
    ∙ ap (written (is_rooted dir)) u.goes_on
    ∙ text_on (is_rooted dir) (parts dir) dir u.next u.more (cut_is dir m) refl

-- ---- names have no slash

abbrev pub has_no_slash : List ℕ → Bool
has_no_slash text = list_all (λ byte. not (eqb byte 47)) text

none_there : (b : ℕ) (rest t : Bool) → eqb b 47 ≡ t → b ≢ 47 → rest ≡ true → (not t && rest) ≡ true
none_there b rest true e other h = absurd (other ((Decides-eqb b 47).0 e))
none_there b rest false e other h = h

whole_has_none : (text : List ℕ) → IsWhole text → has_no_slash text ≡ true
whole_has_none [] w = refl
whole_has_none (b ∷ text) w = none_there b (has_no_slash text) (eqb b 47) refl w.0 (whole_has_none text w.1)

slash_within : (next s : List ℕ) (more : List (List ℕ)) → has_no_slash (join_with_byte 47 (next ∷ s ∷ more)) ≡ true → ⊥
slash_within next s more h = go (has_no_slash next) (sym (list_all-append (λ byte. not (eqb byte 47)) next (47 ∷ join_with_byte 47 (s ∷ more))) ∙ h)
  where
    go : (t : Bool) → (t && false) ≡ true → ⊥
    go true e = true≢false (sym e)
    go false e = true≢false (sym e)

each_part : (path : List ℕ) → IsNormal path → AllByRecursion IsPart (parts path)
each_part path n =
    let each = all_are n.ups n.names n.each in
    subst (AllByRecursion IsPart) (sym (ap parts n.text_is ∙ parts_written n.rooted _ each)) each

last_part : (ds : List (List ℕ)) (name : List ℕ) → AllByRecursion IsPart (ds ++ name ∷ []) → IsPart name
last_part [] name a = a.0
last_part (d ∷ ds) name a = last_part ds name a.1

-- ---- the name of a path in a directory

-- a path below the directory, whose rest has no slash
pub named : (path dir rest : List ℕ) → IsNormal path → IsNormal dir → IsUnder path dir → ((r : List ℕ) → path ≡ lead_in dir ++ r → rest ≡ r) → has_no_slash rest ≡ true → IsNameIn path dir rest × (path ≡ lead_in dir ++ rest)
named path dir rest n m u after whole = go u.more (u.goes_on) (after (join_with_byte 47 (u.next ∷ u.more)) (under_text path dir n m u)) (under_text path dir n m u)
  where
    go : (more : List (List ℕ)) → parts path ≡ parts dir ++ u.next ∷ more → rest ≡ join_with_byte 47 (u.next ∷ more) → path ≡ lead_in dir ++ join_with_byte 47 (u.next ∷ more) → IsNameIn path dir rest × (path ≡ lead_in dir ++ rest)
    go [] on e text = (
      subst (IsNameIn path dir) (sym e) (record { rooted = u.rooted; goes_on = on; not_above = u.not_above }),
      text ∙ ap (λ r. lead_in dir ++ r) (sym e),
    )
    go (s ∷ more) on e text = absurd (slash_within u.next s more (ap has_no_slash (sym e) ∙ whole))

-- a path whose rest has a slash
pub not_named : (path dir rest : List ℕ) → IsNormal path → IsNormal dir → ((r : List ℕ) → path ≡ lead_in dir ++ r → rest ≡ r) → has_no_slash rest ≡ false → (name : List ℕ) → IsNameIn path dir name → ⊥
not_named path dir rest n m after slash name i =
    let u : IsUnder path dir = record { next = name; more = []; rooted = i.rooted; goes_on = i.goes_on; not_above = i.not_above } in
    let e : rest ≡ name = after name (under_text path dir n m u) in
    let part : IsPart name = last_part (parts dir) name (subst (AllByRecursion IsPart) i.goes_on (each_part path n)) in
    true≢false (sym (ap has_no_slash e ∙ whole_has_none name part.whole) ∙ slash)

-- what follows the lead of a directory that is neither `.` nor the root
pub after_lead : (path dir rest mid end : List ℕ) → dir ≢ codes "." → dir ≢ codes "/" → ((r : List ℕ) → path ≡ dir ++ r → mid ≡ r) → ((r : List ℕ) → mid ≡ codes "/" ++ r → end ≡ r) → path ≡ lead_in dir ++ rest → end ≡ rest
after_lead path dir rest mid end here root first second e = go (bytes_eq dir (codes ".")) refl (bytes_eq dir (codes "/")) refl e
  where
    go : (a : Bool) → bytes_eq dir (codes ".") ≡ a → (b : Bool) → bytes_eq dir (codes "/") ≡ b → path ≡ cond a [] (cond b (codes "/") (dir ++ codes "/")) ++ rest → end ≡ rest
    go true h b k is = absurd (here ((bytes_eq-Decides dir (codes ".")).0 h))
    go false h true k is = absurd (root ((bytes_eq-Decides dir (codes "/")).0 k))
    go false h false k is = second rest (first (codes "/" ++ rest) (is ∙ append_assoc dir (codes "/") rest))

-- what no byte of a text is, no byte of its end is
pub none_zero : (lead rest : List ℕ) → HasNoZero (lead ++ rest) → HasNoZero rest
none_zero [] rest h = h
none_zero (b ∷ lead) rest h = none_zero lead rest (All-tail (λ byte. 0 < byte) b (lead ++ rest) h)
