-- The names of the files directly in a directory of a consistent disk are listed.
use Rattle.std.proofs.Common.{◌≡◌, ◌⊎◌, inl, inr, Bool, true, false, ◌&&◌, cond, is_some, List, [], ◌∷◌, ◌++◌, codes, Option, Some, None, refl, ap, sym, ◌∙◌, subst, arith, nat_cmp}
use Rattle.std.specs.List.{Contains}
use Rattle.std.specs.Ordering.{ordering_reverse}
use Rattle.std.specs.Str.{bytes_eq}
use Rattle.std.specs.declared.cmp.Ordering.{Ordering}
use Rattle.std.specs.declared.cmp.Ordering.TheVariants as orders
use Rattle.std.specs.Cmp.Lexicographic.{slice_cmp}
use Rattle.std.proofs.lemmas.Cmp.{nat_list_cmp_total}
use Rattle.std.proofs.lemmas.Map.Lookups.{exact_bytes}
use Rattle.std.proofs.lemmas.Slice.Eq.{bytes_eq-Decides}
use Rattle.b2_base.specs.Bytes.{Before}
use Rattle.b2_base.specs.Segments.{is_rooted, is_up}
use Rattle.b2_base.specs.Normal.{parts}
use Rattle.b2_host.specs.Disks.{File, Folder, Disk, Past, IsConsistent}
use Rattle.b2_host.specs.Listings.{IsDirectlyIn, IsListed}
use Rattle.jam_journal.specs.Tables.{Text}
use Rattle.b2_sight_laws.proofs.PuttingKeepsListsRising.{Rises, here, there, here_or_there, none_there, rises_at}
use Rattle.b2_own_text.specs.Names.{one_after, unless_up, are_same, name_in, put_by, put, put_if, names_of, names_in}

-- ---- texts in byte order

-- these are the texts of a list that rises, with one more
record IsPut (x : Text) (xs all : List Text) : Type 0 where
  rises : Rises all
  to : (y : Text) → Contains all y → (x ≡ y) ⊎ Contains xs y
  new : Contains all x
  old : (y : Text) → Contains xs y → Contains all y

module _ (x y : Text) (ys : List Text) (rises : Rises (y ∷ ys)) where
  put_before : Before x y → IsPut x (y ∷ ys) (x ∷ y ∷ ys)
  put_before less = record {
    rises = (λ z c. below z (here_or_there y z ys c), rises);
    to = λ z c. here_or_there x z (y ∷ ys) c;
    new = here x (y ∷ ys);
    old = λ z c. there x z (y ∷ ys) c;
  }
    where
      below : (z : Text) → (y ≡ z) ⊎ Contains ys z → Before x z
      below z (inl e) = subst (Before x) e less
      below z (inr c) = nat_list_cmp_total.trans x y z less (rises.0 z c)

  put_same : x ≡ y → IsPut x (y ∷ ys) (y ∷ ys)
  put_same same = record { rises = rises; to = λ z c. inr c; new = subst (Contains (y ∷ ys)) (sym same) (here y ys); old = λ z c. c }

  put_after : (all : List Text) → Before y x → IsPut x ys all → IsPut x (y ∷ ys) (y ∷ all)
  put_after all less is = record {
    rises = (λ z c. below z (is.to z c), is.rises);
    to = λ z c. found z (here_or_there y z all c);
    new = there y x all is.new;
    old = λ z c. kept z (here_or_there y z ys c);
  }
    where
      below : (z : Text) → (x ≡ z) ⊎ Contains ys z → Before y z
      below z (inl e) = subst (Before y) e less
      below z (inr c) = rises.0 z c

      found : (z : Text) → (y ≡ z) ⊎ Contains all z → (x ≡ z) ⊎ Contains (y ∷ ys) z
      found z (inl e) = inr (subst (Contains (y ∷ ys)) e (here y ys))
      found z (inr c) = later (is.to z c)
        where
          later : (x ≡ z) ⊎ Contains ys z → (x ≡ z) ⊎ Contains (y ∷ ys) z
          later (inl e) = inl e
          later (inr d) = inr (there y z ys d)

      kept : (z : Text) → (y ≡ z) ⊎ Contains ys z → Contains (y ∷ all) z
      kept z (inl e) = subst (Contains (y ∷ all)) e (here y all)
      kept z (inr c) = there y z all (is.old z c)

  above : slice_cmp nat_cmp x y ≡ orders.Greater → Before y x
  above e = nat_list_cmp_total.antisymm y x ∙ ap ordering_reverse e

  put_there : (later : List Text) → IsPut x ys later → (order : Ordering) → slice_cmp nat_cmp x y ≡ order → IsPut x (y ∷ ys) (put_by order x y ys later)
  put_there later is orders.Less e = put_before e
  put_there later is orders.Equal e = put_same (exact_bytes x y e)
  put_there later is orders.Greater e = put_after later (above e) is

is_put : (x : Text) (xs : List Text) → Rises xs → IsPut x xs (put x xs)
is_put x [] rises = record {
  rises = ((λ y c. absurd (none_there y c)), tt);
  to = λ y c. here_or_there x y [] c;
  new = here x [];
  old = λ y c. absurd (none_there y c);
}
is_put x (y ∷ ys) rises = put_there x y ys rises (put x ys) (is_put x ys rises.1) (slice_cmp nat_cmp x y) refl

-- ---- the name of a path in a directory

after_is : (xs ys : List Text) (name : Text) → one_after xs ys ≡ Some name → ys ≡ xs ++ name ∷ []
after_is [] [] name e = cc
after_is [] (y ∷ []) name e = let same : y ≡ name = cc in ap (λ z. z ∷ []) same
after_is [] (y ∷ z ∷ ys) name e = cc
after_is (x ∷ xs) [] name e = cc
after_is (x ∷ xs) (y ∷ ys) name e = go (bytes_eq x y) refl (after_is xs ys name) e
  where
    both : (x y : Text) (xs ys : List Text) → x ≡ y → ys ≡ xs → y ∷ ys ≡ x ∷ xs
    both x y xs ys e f = let g : x ≡ y = e in let h : ys ≡ xs = f in cc

    go : (b : Bool) → bytes_eq x y ≡ b → (one_after xs ys ≡ Some name → ys ≡ xs ++ name ∷ []) → cond b (one_after xs ys) None ≡ Some name → y ∷ ys ≡ x ∷ (xs ++ name ∷ [])
    go true is rest e = both x y (xs ++ name ∷ []) ys ((bytes_eq-Decides x y).0 is) (rest e)
    go false is rest e = cc

one_is : (xs : List Text) (name : Text) → one_after xs (xs ++ name ∷ []) ≡ Some name
one_is [] name = refl
one_is (x ∷ xs) name = ap (λ b. cond b (one_after xs (xs ++ name ∷ [])) None) ((bytes_eq-Decides x x).1 refl) ∙ one_is xs name

-- what is known of a path with a name there
record IsIn (dir path name : Text) : Type 0 where
  rooted : is_rooted path ≡ is_rooted dir
  goes_on : parts path ≡ parts dir ++ name ∷ []
  not_above : dir ≡ codes "." → is_up name ≡ false

same_is : (a b : Bool) → are_same a b ≡ true → a ≡ b
same_is true b e = sym e
same_is false true e = cc
same_is false false e = refl

is_same : (a : Bool) → are_same a a ≡ true
is_same true = refl
is_same false = refl

up_is : (dir : Text) (found : Option Text) (name : Text) → unless_up dir found ≡ Some name → (found ≡ Some name) × (dir ≡ codes "." → is_up name ≡ false)
up_is dir None name e = cc
up_is dir (Some other) name e = go (bytes_eq dir (codes ".")) (is_up other) refl refl e
  where
    go : (a b : Bool) → bytes_eq dir (codes ".") ≡ a → is_up other ≡ b → cond (a && b) None (Some other) ≡ Some name → (Some other ≡ Some name) × (dir ≡ codes "." → is_up name ≡ false)
    go true true h k e = cc
    go true false h k e = (e, λ dot. let same : other ≡ name = cc in ap is_up (sym same) ∙ k)
    go false b h k e = (e, λ dot. let at : bytes_eq dir (codes ".") ≡ true = (bytes_eq-Decides dir (codes ".")).1 dot in let clash : true ≡ false = sym at ∙ h in cc)

name_is : (dir path name : Text) → name_in dir path ≡ Some name → IsIn dir path name
name_is dir path name e = go (are_same (is_rooted path) (is_rooted dir)) refl e
  where
    go : (b : Bool) → are_same (is_rooted path) (is_rooted dir) ≡ b → cond b (unless_up dir (one_after (parts dir) (parts path))) None ≡ Some name → IsIn dir path name
    go true is e =
        let h = up_is dir (one_after (parts dir) (parts path)) name e in
        record { rooted = same_is (is_rooted path) (is_rooted dir) is; goes_on = after_is (parts dir) (parts path) name h.0; not_above = h.1 }
    go false is e = cc

up_stays : (dir name : Text) → (dir ≡ codes "." → is_up name ≡ false) → unless_up dir (Some name) ≡ Some name
up_stays dir name not_above = go (bytes_eq dir (codes ".")) refl
  where
    go : (a : Bool) → bytes_eq dir (codes ".") ≡ a → cond (bytes_eq dir (codes ".") && is_up name) None (Some name) ≡ Some name
    go true h = ap (λ b. cond (bytes_eq dir (codes ".") && b) None (Some name)) (not_above ((bytes_eq-Decides dir (codes ".")).0 h)) ∙ ap (λ a. cond (a && false) None (Some name)) h
    go false h = ap (λ a. cond (a && is_up name) None (Some name)) h

is_named : (dir path name : Text) → IsIn dir path name → name_in dir path ≡ Some name
is_named dir path name is =
    ap (λ b. cond b (unless_up dir (one_after (parts dir) (parts path))) None) (ap (λ a. are_same a (is_rooted dir)) is.rooted ∙ is_same (is_rooted dir))
    ∙ ap (λ texts. unless_up dir (one_after (parts dir) texts)) is.goes_on ∙ ap (unless_up dir) (one_is (parts dir) name) ∙ up_stays dir name is.not_above

-- ---- the names of some paths

module _ (folder : Folder) (dir : Text) where
  -- these are the names of the paths of a list at which files stand
  record AreNames (past : List Past) (names : List Text) : Type 0 where
    rises : Rises names
    is_in : (name : Text) → Contains names name → IsDirectlyIn folder dir name
    found : (old : Past) → Contains past old → (file : File) → folder old.path ≡ Some file → (name : Text) → IsIn dir old.path name → Contains names name

  directly : (old : Past) (file : Option File) → folder old.path ≡ file → (name : Text) → cond (is_some file) (name_in dir old.path) None ≡ Some name → IsDirectlyIn folder dir name
  directly old None visible name e = cc
  directly old (Some file) visible name e =
      let is = name_is dir old.path name e in
      record { path = old.path; file = file; visible = visible; rooted = is.rooted; goes_on = is.goes_on; not_above = is.not_above }

  named_here : (old : Past) (file : File) (name : Text) → folder old.path ≡ Some file → IsIn dir old.path name → cond (is_some (folder old.path)) (name_in dir old.path) None ≡ Some name
  named_here old file name visible is = ap (λ f. cond (is_some f) (name_in dir old.path) None) visible ∙ is_named dir old.path name is

  one_more : (old : Past) (past : List Past) (names : List Text) (here : Option Text) → cond (is_some (folder old.path)) (name_in dir old.path) None ≡ here → AreNames past names
      → AreNames (old ∷ past) (put_if here names)
  one_more old past names None is so_far = record {
    rises = so_far.rises;
    is_in = so_far.is_in;
    found = λ other c file visible name h. go other file visible name h (here_or_there old other past c);
  }
    where
      go : (other : Past) (file : File) → folder other.path ≡ Some file → (name : Text) → IsIn dir other.path name → (old ≡ other) ⊎ Contains past other → Contains names name
      go other file visible name h (inl e) =
          let there : cond (is_some (folder old.path)) (name_in dir old.path) None ≡ Some name =
          ap (λ (p : Past). cond (is_some (folder p.path)) (name_in dir p.path) None) e ∙ named_here other file name visible h in
          let clash : None ≡ Some name = sym is ∙ there in cc
      go other file visible name h (inr c) = so_far.found other c file visible name h
  one_more old past names (Some new) is so_far = record {
    rises = all.rises;
    is_in = λ name c. in_it name (all.to name c);
    found = λ other c file visible name h. go other file visible name h (here_or_there old other past c);
  }
    where
      all : IsPut new names (put new names)
      all = is_put new names so_far.rises

      in_it : (name : Text) → (new ≡ name) ⊎ Contains names name → IsDirectlyIn folder dir name
      in_it name (inl e) = subst (IsDirectlyIn folder dir) e (directly old (folder old.path) refl new is)
      in_it name (inr c) = so_far.is_in name c

      go : (other : Past) (file : File) → folder other.path ≡ Some file → (name : Text) → IsIn dir other.path name → (old ≡ other) ⊎ Contains past other → Contains (put new names) name
      go other file visible name h (inl e) =
          let there : cond (is_some (folder old.path)) (name_in dir old.path) None ≡ Some name =
          ap (λ (p : Past). cond (is_some (folder p.path)) (name_in dir p.path) None) e ∙ named_here other file name visible h in
          let both : Some new ≡ Some name = sym is ∙ there in
          let same : new ≡ name = cc in subst (Contains (put new names)) same all.new
      go other file visible name h (inr c) = all.old name (so_far.found other c file visible name h)

  are_names : (past : List Past) → AreNames past (names_of folder dir past)
  are_names [] = record { rises = tt; is_in = λ name c. absurd (none_there name c); found = λ old c. absurd (none_there old c) }
  are_names (old ∷ past) = one_more old past (names_of folder dir past) (cond (is_some (folder old.path)) (name_in dir old.path) None) refl (are_names past)

pub names_hold : (disk : Disk) → IsConsistent disk → (dir : Text) → IsListed disk.now dir (names_in disk dir)
names_hold disk consistent dir = record { each = λ name. (all.is_in name, contained name); rising = rises_at (names_in disk dir) all.rises }
  where
    all : AreNames disk.now dir disk.past (names_of disk.now dir disk.past)
    all = are_names disk.now dir disk.past

    contained : (name : Text) → IsDirectlyIn disk.now dir name → Contains (names_in disk dir) name
    contained name in_it =
        all.found (record { path = in_it.path; file = in_it.file }) (consistent.stands in_it.path in_it.file in_it.visible) in_it.file in_it.visible name
        (record { rooted = in_it.rooted; goes_on = in_it.goes_on; not_above = in_it.not_above })
