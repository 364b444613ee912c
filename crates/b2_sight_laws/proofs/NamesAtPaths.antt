-- The names of a directory, found path by path.
use Rattle.std.proofs.Common.{◌≡◌, ◌⊎◌, inl, inr, Bool, true, false, List, [], ◌∷◌, ◌++◌, codes, Option, Some, None, refl, ap, sym, ◌∙◌, subst, arith}
use Rattle.std.specs.List.{Contains}
use Rattle.std.specs.Str.{bytes_eq}
use Rattle.std.proofs.lemmas.List.{append_cancel_left}
use Rattle.std.proofs.lemmas.Slice.Eq.{bytes_eq-Decides}
use Rattle.b2_base.specs.Segments.{is_rooted, is_up}
use Rattle.b2_base.specs.Normal.{parts}
use Rattle.b2_host.specs.Disks.{File, Folder, Disk, Past, IsConsistent}
use Rattle.b2_host.specs.Listings.{IsDirectlyIn, IsListed}
use Rattle.jam_journal.specs.Tables.{Text}
use Rattle.b2_sight_laws.proofs.PuttingKeepsListsRising.{Rises, rises_at, here_or_there, none_there, Placed, put}

abbrev Either : Type 0 → Type 0
Either P = P ⊎ (P → ⊥)

same_text : (x y : Text) → Either (x ≡ y)
same_text x y = go (bytes_eq x y) refl
  where
    go : (b : Bool) → bytes_eq x y ≡ b → Either (x ≡ y)
    go true e = inl ((bytes_eq-Decides x y).0 e)
    go false e = inr (λ h. let f = (bytes_eq-Decides x y).1 h in let clash : true ≡ false = sym f ∙ e in cc)

same_bool : (a b : Bool) → Either (a ≡ b)
same_bool true true = inl refl
same_bool true false = inr (λ h. let clash : true ≡ false = h in cc)
same_bool false true = inr (λ h. let clash : false ≡ true = h in cc)
same_bool false false = inl refl

-- the one text after a list of texts
record OneAfter (xs ys : List Text) : Type 0 where
  name : Text
  is : ys ≡ xs ++ name ∷ []

no_end : (name : Text) (xs : List Text) → [] ≡ xs ++ name ∷ [] → ⊥
no_end name [] e = let clash : [] ≡ name ∷ [] = e in cc
no_end name (x ∷ xs) e = let clash : [] ≡ x ∷ (xs ++ name ∷ []) = e in cc

cons_parts : (x y : Text) (xs ys : List Text) → x ∷ xs ≡ y ∷ ys → (x ≡ y) × (xs ≡ ys)
cons_parts x y xs ys e = (grind (arith, e), grind (arith, e))

one_after : (xs ys : List Text) → Either (OneAfter xs ys)
one_after [] [] = inr (λ o. no_end o.name [] o.is)
one_after [] (y ∷ []) = inl (record { name = y; is = refl })
one_after [] (y ∷ z ∷ ys) = inr (λ o. no_end_cons (cons_parts y o.name (z ∷ ys) [] o.is).1)
  where
    no_end_cons : z ∷ ys ≡ [] → ⊥
    no_end_cons e = let clash : z ∷ ys ≡ [] = e in cc
one_after (x ∷ xs) [] = inr (λ o. no_end o.name (x ∷ xs) o.is)
one_after (x ∷ xs) (y ∷ ys) = go (same_text y x) (one_after xs ys)
  where
    both : (x y : Text) → y ≡ x → (xs ys : List Text) → xs ≡ ys → y ∷ xs ≡ x ∷ ys
    both x y e xs ys f = let g : y ≡ x = e in let h : xs ≡ ys = f in cc

    go : Either (y ≡ x) → Either (OneAfter xs ys) → Either (OneAfter (x ∷ xs) (y ∷ ys))
    go (inl e) (inl o) = inl (record { name = o.name; is = both x y e ys (xs ++ o.name ∷ []) o.is })
    go (inl e) (inr never) = inr (λ o. never (record { name = o.name; is = (cons_parts y x ys (xs ++ o.name ∷ []) o.is).1 }))
    go (inr never) tail = inr (λ o. never (cons_parts y x ys (xs ++ o.name ∷ []) o.is).0)

module _ (folder : Folder) (dir : Text) where
  -- a file of that name stands directly in the directory, at this path
  record IsAt (path name : Text) : Type 0 where
    file : File
    visible : folder path ≡ Some file
    rooted : is_rooted path ≡ is_rooted dir
    goes_on : parts path ≡ parts dir ++ name ∷ []
    not_above : dir ≡ codes "." → is_up name ≡ false

  in_dir : (path name : Text) → IsAt path name → IsDirectlyIn folder dir name
  in_dir path name at = record { path = path; file = at.file; visible = at.visible; rooted = at.rooted; goes_on = at.goes_on; not_above = at.not_above }

  at_path : (name : Text) (in_it : IsDirectlyIn folder dir name) → IsAt in_it.path name
  at_path name in_it = record { file = in_it.file; visible = in_it.visible; rooted = in_it.rooted; goes_on = in_it.goes_on; not_above = in_it.not_above }

  -- a path has one name there
  one_name : (path name other : Text) → parts path ≡ parts dir ++ name ∷ [] → parts path ≡ parts dir ++ other ∷ [] → name ≡ other
  one_name path name other a b = (cons_parts name other [] [] (append_cancel_left (parts dir) (name ∷ []) (other ∷ []) (sym a ∙ b))).0

  -- the name of a path there, if it has one
  data NameAt (path : Text) : Type 0 where
    named : (name : Text) → IsAt path name → NameAt path
    nameless : ((name : Text) → IsAt path name → ⊥) → NameAt path

  by_up : (path name : Text) (file : File) → folder path ≡ Some file → is_rooted path ≡ is_rooted dir → parts path ≡ parts dir ++ name ∷ []
      → Either (dir ≡ codes ".") → (b : Bool) → is_up name ≡ b → NameAt path
  by_up path name file visible rooted goes_on dot false e =
      named name (record { file = file; visible = visible; rooted = rooted; goes_on = goes_on; not_above = λ _. e })
  by_up path name file visible rooted goes_on (inr other) true e =
      named name (record { file = file; visible = visible; rooted = rooted; goes_on = goes_on; not_above = λ h. absurd (other h) })
  by_up path name file visible rooted goes_on (inl dot) true e = nameless never
    where
      never : (other : Text) → IsAt path other → ⊥
      never other at = let clash : true ≡ false = sym e ∙ ap is_up (one_name path name other goes_on at.goes_on) ∙ at.not_above dot in cc

  by_parts : (path : Text) (file : File) → folder path ≡ Some file → is_rooted path ≡ is_rooted dir → Either (OneAfter (parts dir) (parts path)) → NameAt path
  by_parts path file visible rooted (inl o) = by_up path o.name file visible rooted o.is (same_text dir (codes ".")) (is_up o.name) refl
  by_parts path file visible rooted (inr never) = nameless (λ name at. never (record { name = name; is = at.goes_on }))

  by_root : (path : Text) (file : File) → folder path ≡ Some file → Either (is_rooted path ≡ is_rooted dir) → NameAt path
  by_root path file visible (inl rooted) = by_parts path file visible rooted (one_after (parts dir) (parts path))
  by_root path file visible (inr never) = nameless (λ name at. never at.rooted)

  by_file : (path : Text) (file : Option File) → folder path ≡ file → NameAt path
  by_file path None e = nameless (λ name at. let clash : None ≡ Some at.file = sym e ∙ at.visible in cc)
  by_file path (Some file) e = by_root path file e (same_bool (is_rooted path) (is_rooted dir))

  name_at : (path : Text) → NameAt path
  name_at path = by_file path (folder path) refl

  -- the names of the paths of a list
  record Gathered (past : List Past) : Type 0 where
    names : List Text
    rises : Rises names
    is_in : (name : Text) → Contains names name → IsDirectlyIn folder dir name
    found : (old : Past) → Contains past old → (name : Text) → IsAt old.path name → Contains names name

  gather_next : (old : Past) (past : List Past) → Gathered past → NameAt old.path → Gathered (old ∷ past)
  gather_next old past so_far (nameless never) = record {
    names = so_far.names;
    rises = so_far.rises;
    is_in = so_far.is_in;
    found = λ other c name at. go other name at (here_or_there old other past c);
  }
    where
      go : (other : Past) (name : Text) → IsAt other.path name → (old ≡ other) ⊎ Contains past other → Contains so_far.names name
      go other name at (inl e) = absurd (never name (subst (λ (p : Past). IsAt p.path name) (sym e) at))
      go other name at (inr c) = so_far.found other c name at
  gather_next old past so_far (named new at_new) = record {
    names = placed.all;
    rises = placed.rises;
    is_in = λ name c. in_it name (placed.to name c);
    found = λ other c name at. go other name at (here_or_there old other past c);
  }
    where
      placed : Placed new so_far.names
      placed = put new so_far.names so_far.rises

      in_it : (name : Text) → (new ≡ name) ⊎ Contains so_far.names name → IsDirectlyIn folder dir name
      in_it name (inl e) = subst (IsDirectlyIn folder dir) e (in_dir old.path new at_new)
      in_it name (inr c) = so_far.is_in name c

      go : (other : Past) (name : Text) → IsAt other.path name → (old ≡ other) ⊎ Contains past other → Contains placed.all name
      go other name at (inl e) = subst (Contains placed.all) (one_name old.path new name at_new.goes_on (subst (λ (p : Past). IsAt p.path name) (sym e) at).goes_on) placed.new
      go other name at (inr c) = placed.old name (so_far.found other c name at)

  gather : (past : List Past) → Gathered past
  gather [] = record { names = []; rises = tt; is_in = λ name c. absurd (none_there name c); found = λ old c. absurd (none_there old c) }
  gather (old ∷ past) = gather_next old past (gather past) (name_at old.path)

pub listed : (disk : Disk) → IsConsistent disk → (dir : Text) → (names : List Text) × IsListed disk.now dir names
listed disk consistent dir = (all.names, record { each = λ name. (all.is_in name, contained name); rising = rises_at all.names all.rises })
  where
    all : Gathered disk.now dir disk.past
    all = gather disk.now dir disk.past

    contained : (name : Text) → IsDirectlyIn disk.now dir name → Contains all.names name
    contained name in_it =
        all.found (record { path = in_it.path; file = in_it.file }) (consistent.stands in_it.path in_it.file in_it.visible) name (at_path disk.now dir name in_it)
