-- A file is below an output root where its directory is an output directory, and only there: for searches.
use Rattle.std.proofs.Common.{◌≡◌, ◌≢◌, ◌⊎◌, ℕ, ◌+◌, Bool, true, false, cond, not, ◌&&◌, ◌||◌, List, [], ◌∷◌, ◌++◌, codes, length, All, refl, sym, ap, ap₂, ◌∙◌, inl, inr, ⊎_elim, append_assoc, append-nil, arith}
use Rattle.std.specs.Bool.{beq}
use Rattle.std.specs.Cmp.{booleans_Decides}
use Rattle.std.specs.List.{list_any}
use Rattle.std.specs.Str.{bytes_eq}
use Rattle.std.proofs.lemmas.Bool.{false≢true, cond-true, cond-false, cases_Bool}
use Rattle.std.proofs.lemmas.List.{length-append}
use Rattle.std.proofs.lemmas.List.Elements.{All-head, All-tail}
use Rattle.std.proofs.lemmas.Slice.Eq.{bytes_eq-Decides}
use Rattle.b2_base.specs.Segments.{is_rooted, is_up}
use Rattle.b2_base.specs.Normal.{parts, IsNormal}
use Rattle.b2_base.specs.Below.{after_parts, goes_below, is_below}
use Rattle.b2_base.proofs.BeginningTellsWhatIsUnder.{one_text}
use Rattle.b2_base.proofs.TestTellsWhatIsBelow.{after_itself}
use Rattle.b2_host.specs.Disks.{Folder}
use Rattle.b2_host.specs.Listings.{IsDirectlyIn}
use Rattle.jam_natives.specs.Globs.{is_output_dir}

abbrev Texts : Type 0
Texts = List (List ℕ)

after_nil : (r : Texts) → after_parts r [] ≡ []
after_nil [] = refl
after_nil (a ∷ r) = refl

same_either : (b : Bool) → ◌≡◌ {A = Texts} (cond b [] []) []
same_either true = refl
same_either false = refl

-- the segments of a root begin those of a directory, or those of a file in it do not go on after them either
abbrev Parted : Texts → Texts → List ℕ → Type 0
Parted r d name = (after_parts r d ≡ []) × (after_parts r (d ++ name ∷ []) ≡ []) × (d ≢ r)

abbrev Begun : Texts → Texts → Type 0
Begun r d = (rest : Texts) × (d ≡ r ++ rest)

begun_or_parted : (r d : Texts) (name : List ℕ) → Begun r d ⊎ Parted r d name
begun_or_parted [] d name = inl (d, refl)
begun_or_parted (a ∷ r) [] name = inr (refl, ap (λ (l : Texts). cond (bytes_eq a name) l []) (after_nil r) ∙ same_either (bytes_eq a name), λ e. cc)
begun_or_parted (a ∷ r) (b ∷ d) name =
    elim (cases_Bool (bytes_eq a b)) [
      | inl same ↦
          ⊎_elim
          (λ (begun : Begun r d). inl (begun.0, ap₂ ◌∷◌ (sym ((bytes_eq-Decides a b).0 same)) begun.1))
          (λ (parted : Parted r d name). inr (cond-true (bytes_eq a b) (after_parts r d) [] same ∙ parted.0, cond-true (bytes_eq a b) (after_parts r (d ++ name ∷ [])) [] same ∙ parted.1, λ e. parted.2 (let t = e in cc)))
          (begun_or_parted r d name)
      | inr other ↦
          inr (
            cond-false (bytes_eq a b) (after_parts r d) [] other,
            cond-false (bytes_eq a b) (after_parts r (d ++ name ∷ [])) [] other,
            λ e. (let head : b ≡ a = cc in false≢true (sym other ∙ (bytes_eq-Decides a b).1 (sym head))),
          )
    ]

and_false : (b : Bool) → (b && false) ≡ false
and_false true = refl
and_false false = refl

longer : (r : Texts) (n : List ℕ) (m : Texts) → r ≡ r ++ n ∷ m → ⊥
longer r n m e = absurd (omega (arith, ap length e, length-append r (n ∷ m)))

not_same : (dir root : List ℕ) → (dir ≡ root → ⊥) → bytes_eq dir root ≡ false
not_same dir root other =
    elim (cases_Bool (bytes_eq dir root)) [
      | inl same ↦ absurd (other ((bytes_eq-Decides dir root).0 same))
      | inr e ↦ e
    ]

module _ (path dir root name : List ℕ) (rooted : is_rooted path ≡ is_rooted dir) (goes_on : parts path ≡ parts dir ++ name ∷ []) (not_above : dir ≡ codes "." → is_up name ≡ false) (normal_dir : IsNormal dir) (normal_root : IsNormal root) where
  abbrev here : Bool
  here = bytes_eq root (codes ".")

  abbrev alike : Bool
  alike = beq (is_rooted dir) (is_rooted root)

  file_below : is_below path root ≡ (alike && goes_below here (after_parts (parts root) (parts dir ++ name ∷ [])))
  file_below =
      ap (λ b. beq b (is_rooted root) && goes_below here (after_parts (parts root) (parts path))) rooted
      ∙ ap (λ (segments : Texts). alike && goes_below here (after_parts (parts root) segments)) goes_on

  -- no segment of the directory after those of the root
  at_root : parts dir ≡ parts root → is_below path root ≡ (bytes_eq dir root || is_below dir root)
  at_root e =
      file_below ∙ ap (λ (l : Texts). alike && goes_below here l) (ap (λ (d : Texts). after_parts (parts root) (d ++ name ∷ [])) e ∙ after_itself (parts root) (name ∷ []))
      ∙ elim (cases_Bool alike) [
        | inl same ↦
            let dir_is : dir ≡ root = one_text dir root normal_dir normal_root ((booleans_Decides (is_rooted dir) (is_rooted root)).0 same) e in
            let one : bytes_eq dir root ≡ true = (bytes_eq-Decides dir root).1 dir_is in
            ap (λ b. b && not (here && is_up name)) same
            ∙ elim (cases_Bool here) [
              | inl dot ↦ ap (λ b. not (b && is_up name)) dot ∙ ap not (not_above (dir_is ∙ (bytes_eq-Decides root (codes ".")).0 dot))
              | inr elsewhere ↦ ap (λ b. not (b && is_up name)) elsewhere
            ]
            ∙ sym (ap (λ b. b || is_below dir root) one)
        | inr differ ↦
            let apart : bytes_eq dir root ≡ false =
            not_same dir root (λ same. false≢true (sym differ ∙ (booleans_Decides (is_rooted dir) (is_rooted root)).1 (ap is_rooted same)))
            in
            ap (λ b. b && not (here && is_up name)) differ
            ∙ sym (ap (λ b. b || is_below dir root) apart ∙ ap (λ b. b && goes_below here (after_parts (parts root) (parts dir))) differ)
      ]

  -- some segments of the directory after those of the root
  past_root : (n : List ℕ) (m : Texts) → parts dir ≡ parts root ++ n ∷ m → is_below path root ≡ (bytes_eq dir root || is_below dir root)
  past_root n m e =
      let file_rest = ap (λ (d : Texts). after_parts (parts root) (d ++ name ∷ [])) e ∙ ap (after_parts (parts root)) (append_assoc (parts root) (n ∷ m) (name ∷ [])) ∙ after_itself (parts root) ((n ∷ m) ++ name ∷ []) in
      let dir_rest = ap (after_parts (parts root)) e ∙ after_itself (parts root) (n ∷ m) in
      let apart : bytes_eq dir root ≡ false = not_same dir root (λ same. longer (parts root) n m (sym (ap parts same) ∙ e)) in
      file_below ∙ ap (λ (l : Texts). alike && goes_below here l) file_rest
      ∙ sym (ap (λ (l : Texts). alike && goes_below here l) dir_rest)
      ∙ sym (ap (λ b. b || is_below dir root) apart)

  elsewhere_too : Parted (parts root) (parts dir) name → is_below path root ≡ (bytes_eq dir root || is_below dir root)
  elsewhere_too parted =
      let apart : bytes_eq dir root ≡ false = not_same dir root (λ same. parted.2 (ap parts same)) in
      file_below ∙ ap (λ (l : Texts). alike && goes_below here l) parted.1
      ∙ sym (ap (λ (l : Texts). alike && goes_below here l) parted.0)
      ∙ sym (ap (λ b. b || is_below dir root) apart)

  by_rest : (rest : Texts) → parts dir ≡ parts root ++ rest → is_below path root ≡ (bytes_eq dir root || is_below dir root)
  by_rest [] e = at_root (e ∙ append-nil (parts root))
  by_rest (n ∷ m) e = past_root n m e

  one_root : is_below path root ≡ (bytes_eq dir root || is_below dir root)
  one_root = ⊎_elim (λ (b : Begun (parts root) (parts dir)). by_rest b.0 b.1) elsewhere_too (begun_or_parted (parts root) (parts dir) name)

pub hides_outputs : (folder : Folder) (roots : Texts) (dir name : List ℕ) → All IsNormal roots → IsNormal dir → (file : IsDirectlyIn folder dir name) → list_any (λ root. is_below file.path root) roots ≡ is_output_dir roots dir
hides_outputs folder [] dir name normal_roots normal_dir file = refl
hides_outputs folder (root ∷ roots) dir name normal_roots normal_dir file =
    ap₂ (λ a b. a || b)
    (one_root file.path dir root name file.rooted file.goes_on file.not_above normal_dir (All-head IsNormal root roots normal_roots))
    (hides_outputs folder roots dir name (All-tail IsNormal root roots normal_roots) normal_dir file)
