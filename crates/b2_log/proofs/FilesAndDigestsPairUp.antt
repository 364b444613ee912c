-- Files zipped with digests are good pairs just where both lists are good: for lists that are read or written.
use Rattle.std.proofs.Common.{◌≡◌, ℕ, ◌+◌, ◌<◌, List, [], ◌∷◌, ◌++◌, length, get_or, refl, sym, ap, subst, ◌∙◌, length-append, arith}
use Rattle.std.specs.List.{AllByRecursion, zip}
use Rattle.std.proofs.lemmas.Slice.Zip.{length-zip, get_or-zip}
use Rattle.b2_log.specs.Good.{IsStamped, IsDigest, IsDigested, IsCounted, AreDigests}
use Rattle.b2_log.specs.Lines.{digested}
use Rattle.b2_log.specs.Readings.{Begins}
use Rattle.b2_log.proofs.JoinedPartsHaveOneReading.{ReadSo, read_more}

-- ---- lists beside each other

pub zip_more : {A B : Type 0} (xs : List A) (ys : List B) (x : A) (y : B) → length ys ≡ length xs → zip (xs ++ x ∷ []) (ys ++ y ∷ []) ≡ zip xs ys ++ (x, y) ∷ []
zip_more [] [] x y e = refl
zip_more [] (b ∷ ys) x y e = absurd (omega arith)
zip_more (a ∷ xs) [] x y e = absurd (omega arith)
zip_more {A} {B} (a ∷ xs) (b ∷ ys) x y e = ap (λ (ps : List (A × B)). (a, b) ∷ ps) (zip_more xs ys x y (omega arith))

pub zip_long : {A B : Type 0} (xs : List A) (ys : List B) → length ys ≡ length xs → length (zip xs ys) ≡ length xs
zip_long [] ys e = refl
zip_long (a ∷ xs) [] e = absurd (omega arith)
zip_long (a ∷ xs) (b ∷ ys) e = let rest = zip_long xs ys (omega arith) in omega arith

each_zipped : (files : List (List ℕ × ℕ)) (digests : List (List ℕ)) → AllByRecursion IsStamped files → AllByRecursion IsDigest digests → AllByRecursion IsDigested (zip files digests)
each_zipped [] digests p q = tt
each_zipped (f ∷ files) [] p q = tt
each_zipped (f ∷ files) (d ∷ digests) p q = (record { named = p.0; digest = q.0 }, each_zipped files digests p.1 q.1)

pub zipped : (files : List (List ℕ × ℕ)) (digests : List (List ℕ)) → IsCounted IsStamped files → AreDigests files digests → IsCounted IsDigested (zip files digests)
zipped files digests p q = record { each = each_zipped files digests p.each q.each; count = subst (λ (n : ℕ). n < 18446744073709551616) (sym (zip_long files digests q.count)) p.count }

each_file : (files : List (List ℕ × ℕ)) (digests : List (List ℕ)) → length digests ≡ length files → AllByRecursion IsDigested (zip files digests) → AllByRecursion IsStamped files
each_file [] digests e p = tt
each_file (f ∷ files) [] e p = absurd (omega arith)
each_file (f ∷ files) (d ∷ digests) e p = (p.0.named, each_file files digests (omega arith) p.1)

each_digest : (files : List (List ℕ × ℕ)) (digests : List (List ℕ)) → length digests ≡ length files → AllByRecursion IsDigested (zip files digests) → AllByRecursion IsDigest digests
each_digest [] [] e p = tt
each_digest [] (d ∷ digests) e p = absurd (omega arith)
each_digest (f ∷ files) [] e p = tt
each_digest (f ∷ files) (d ∷ digests) e p = (p.0.digest, each_digest files digests (omega arith) p.1)

pub unzipped_files : (files : List (List ℕ × ℕ)) (digests : List (List ℕ)) → length digests ≡ length files → IsCounted IsDigested (zip files digests) → IsCounted IsStamped files
unzipped_files files digests e p = record { each = each_file files digests e p.each; count = subst (λ (n : ℕ). n < 18446744073709551616) (zip_long files digests e) p.count }

pub unzipped_digests : (files : List (List ℕ × ℕ)) (digests : List (List ℕ)) → length digests ≡ length files → IsCounted IsDigested (zip files digests) → AreDigests files digests
unzipped_digests files digests e p = record { count = e; each = each_digest files digests e p.each }

-- ---- lists that are read

-- the paths and the digests that were read, and what is left of the bytes
pub record ReadBoth (bytes : List ℕ) (files : List (List ℕ × ℕ)) (digests : List (List ℕ)) (rest : List ℕ) (i : ℕ) : Type 0 where
  pub read : ReadSo digested IsDigested bytes (zip files digests) rest i
  pub same : length digests ≡ length files

pub both_more : (bytes : List ℕ) (files more_files : List (List ℕ × ℕ)) (digests more_digests : List (List ℕ)) (rest : List ℕ) (i : ℕ) (file : List ℕ × ℕ) (digest after : List ℕ) → ReadBoth bytes files digests rest i → Begins digested IsDigested rest (file, digest) after
    → more_files ≡ files ++ file ∷ [] → more_digests ≡ digests ++ digest ∷ [] → ReadBoth bytes more_files more_digests after (i + 1)
both_more bytes files more_files digests more_digests rest i file digest after r b e f = record {
  read = subst (λ (ps : List ((List ℕ × ℕ) × List ℕ)). ReadSo digested IsDigested bytes ps after (i + 1)) (sym (zip_more files digests file digest r.same) ∙ ap (λ (xs : List (List ℕ × ℕ)). zip xs (digests ++ digest ∷ [])) (sym e) ∙ ap (λ (ys : List (List ℕ)). zip more_files ys) (sym f))
      (read_more digested IsDigested bytes (zip files digests) rest i (file, digest) after r.read b);
  same = omega (arith, r.same, ap length e, ap length f, length-append files (file ∷ []), length-append digests (digest ∷ []));
}

-- ---- lists that are written

-- the path and the stamp of a file with a digest are so
abbrev pub IsNamed : (List ℕ × ℕ) × List ℕ → Type 0
IsNamed file = IsStamped file.0

each_named : (files : List (List ℕ × ℕ)) (digests : List (List ℕ)) → length digests ≡ length files → AllByRecursion IsNamed (zip files digests) → AllByRecursion IsStamped files
each_named [] digests e p = tt
each_named (f ∷ files) [] e p = absurd (omega arith)
each_named (f ∷ files) (d ∷ digests) e p = (p.0, each_named files digests (omega arith) p.1)

pub named_files : (files : List (List ℕ × ℕ)) (digests : List (List ℕ)) → IsCounted IsNamed (zip files digests) → length digests ≡ length files → IsCounted IsStamped files
named_files files digests p e = record { each = each_named files digests e p.each; count = subst (λ (n : ℕ). n < 18446744073709551616) (zip_long files digests e) p.count }

pub pair_at : {A B : Type 0} (xs : List A) (ys : List B) (i : ℕ) (x : A) (y : B) → i < length (zip xs ys) → x ≡ get_or xs i x → y ≡ get_or ys i y → (x, y) ≡ get_or (zip xs ys) i (x, y)
pair_at {A} {B} xs ys i x y lt e f =
    let short : i < length xs = omega (arith, length-zip xs ys) in
    let also : i < length ys = omega (arith, length-zip xs ys) in
    ap (λ (a : A). (a, y)) e ∙ ap (λ (b : B). (get_or xs i x, b)) f ∙ sym (get_or-zip xs ys i (x, y) short also)
