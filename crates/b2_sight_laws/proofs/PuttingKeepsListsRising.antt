-- Texts put into a list that rises, each once.
use Rattle.std.proofs.Common.{◌≡◌, ℕ, zero, suc, ◌<◌, ◌⊎◌, inl, inr, List, [], ◌∷◌, length, get_or, refl, ap, sym, ◌∙◌, subst, arith, nat_cmp}
use Rattle.std.specs.List.{Contains}
use Rattle.std.specs.Ordering.{ordering_reverse}
use Rattle.std.specs.declared.cmp.Ordering.{Ordering}
use Rattle.std.specs.declared.cmp.Ordering.TheVariants as orders
use Rattle.std.specs.Cmp.Lexicographic.{slice_cmp}
use Rattle.std.proofs.lemmas.Cmp.{nat_list_cmp_total}
use Rattle.std.proofs.lemmas.Map.Lookups.{exact_bytes}
use Rattle.b2_base.specs.Bytes.{Before}
use Rattle.jam_journal.specs.Tables.{Text}

-- each text is below those after it
abbrev pub Rises : List Text → Type 0
Rises [] = Unit {0}
Rises (x ∷ xs) = ((y : Text) → Contains xs y → Before x y) × Rises xs

pub here : {X : Type 0} (x : X) (xs : List X) → Contains (x ∷ xs) x
here x xs = (zero, omega arith, refl)

pub there : {X : Type 0} (x y : X) (xs : List X) → Contains xs y → Contains (x ∷ xs) y
there x y xs (k, h, e) = (suc k, omega arith, e)

pub here_or_there : {X : Type 0} (x y : X) (xs : List X) → Contains (x ∷ xs) y → (x ≡ y) ⊎ Contains xs y
here_or_there x y xs (zero, h, e) = inl e
here_or_there x y xs (suc k, h, e) = inr (k, omega arith, e)

pub none_there : {X : Type 0} (y : X) → Contains {X = X} [] y → ⊥
none_there y (k, h, e) = omega arith

-- the places of a list that rises
pub rises_at : (xs : List Text) → Rises xs → (i j : ℕ) (d : Text) → i < j → j < length xs → Before (get_or xs i d) (get_or xs j d)
rises_at [] rises i j d less low = absurd (omega (arith, low))
rises_at (x ∷ xs) rises zero zero d less low = absurd (omega (arith, less))
rises_at (x ∷ xs) rises zero (suc j) d less low = rises.0 (get_or xs j d) (contained xs j d (omega (arith, low)))
  where
    contained : (xs : List Text) (j : ℕ) (d : Text) → j < length xs → Contains xs (get_or xs j d)
    contained [] j d low = absurd (omega (arith, low))
    contained (x ∷ xs) zero d low = here x xs
    contained (x ∷ xs) (suc j) d low = there x (get_or xs j d) xs (contained xs j d (omega (arith, low)))
rises_at (x ∷ xs) rises (suc i) zero d less low = absurd (omega (arith, less))
rises_at (x ∷ xs) rises (suc i) (suc j) d less low = rises_at xs rises.1 i j d (omega (arith, less)) (omega (arith, low))

-- the texts of a list that rises, with one more
pub record Placed (x : Text) (xs : List Text) : Type 0 where
  pub all : List Text
  pub rises : Rises all
  pub to : (y : Text) → Contains all y → (x ≡ y) ⊎ Contains xs y
  pub new : Contains all x
  pub old : (y : Text) → Contains xs y → Contains all y

above : (x y : Text) → slice_cmp nat_cmp x y ≡ orders.Greater → Before y x
above x y e = nat_list_cmp_total.antisymm y x ∙ ap ordering_reverse e

module _ (x y : Text) (ys : List Text) (rises : Rises (y ∷ ys)) where
  put_before : Before x y → Placed x (y ∷ ys)
  put_before less = record {
    all = x ∷ y ∷ ys;
    rises = (λ z c. below z (here_or_there y z ys c), rises);
    to = λ z c. here_or_there x z (y ∷ ys) c;
    new = here x (y ∷ ys);
    old = λ z c. there x z (y ∷ ys) c;
  }
    where
      below : (z : Text) → (y ≡ z) ⊎ Contains ys z → Before x z
      below z (inl e) = subst (Before x) e less
      below z (inr c) = nat_list_cmp_total.trans x y z less (rises.0 z c)

  put_at : x ≡ y → Placed x (y ∷ ys)
  put_at same = record {
    all = y ∷ ys;
    rises = rises;
    to = λ z c. inr c;
    new = subst (Contains (y ∷ ys)) (sym same) (here y ys);
    old = λ z c. c;
  }

  put_after : Before y x → Placed x ys → Placed x (y ∷ ys)
  put_after less placed = record {
    all = y ∷ placed.all;
    rises = (λ z c. below z (placed.to z c), placed.rises);
    to = λ z c. found z (here_or_there y z placed.all c);
    new = there y x placed.all placed.new;
    old = λ z c. kept z (here_or_there y z ys c);
  }
    where
      below : (z : Text) → (x ≡ z) ⊎ Contains ys z → Before y z
      below z (inl e) = subst (Before y) e less
      below z (inr c) = rises.0 z c

      found : (z : Text) → (y ≡ z) ⊎ Contains placed.all z → (x ≡ z) ⊎ Contains (y ∷ ys) z
      found z (inl e) = inr (subst (Contains (y ∷ ys)) e (here y ys))
      found z (inr c) = later (placed.to z c)
        where
          later : (x ≡ z) ⊎ Contains ys z → (x ≡ z) ⊎ Contains (y ∷ ys) z
          later (inl e) = inl e
          later (inr d) = inr (there y z ys d)

      kept : (z : Text) → (y ≡ z) ⊎ Contains ys z → Contains (y ∷ placed.all) z
      kept z (inl e) = subst (Contains (y ∷ placed.all)) e (here y placed.all)
      kept z (inr c) = there y z placed.all (placed.old z c)

  put_where : Placed x ys → (o : Ordering) → slice_cmp nat_cmp x y ≡ o → Placed x (y ∷ ys)
  put_where placed orders.Less e = put_before e
  put_where placed orders.Equal e = put_at (exact_bytes x y e)
  put_where placed orders.Greater e = put_after (above x y e) placed

pub put : (x : Text) (xs : List Text) → Rises xs → Placed x xs
put x [] rises = record {
  all = x ∷ [];
  rises = ((λ y c. absurd (none_there y c)), tt);
  to = λ y c. here_or_there x y [] c;
  new = here x [];
  old = λ y c. absurd (none_there y c);
}
put x (y ∷ ys) rises = put_where x y ys rises (put x ys rises.1) (slice_cmp nat_cmp x y) refl
