-- One byte further in a body the depth is still the number of open braces; at depth 0 a `}` ends the body.
use Rattle.std.proofs.Common.{◌≡◌, ℕ, ◌+◌, ◌-◌, ◌<◌, ◌≤◌, Bool, cond, ◌==◌, ◌⊎◌, inl, inr, List, [], ◌∷◌, ◌++◌, length, get_or, slice_range, ◌∙◌, ap, subst, arith, count_by}
use Rattle.std.proofs.lemmas.Bool.{cases_lt, ne_eqb}
use Rattle.std.proofs.lemmas.List.Sums.{sum_by-append}
use Rattle.jam_lexer.specs.Body.{count_of, IsMatched, IsBody}
use Rattle.jam_lexer.proofs.SlicesJoinAndStayTexts.{slice_none, slice_more}

pub count_by-append : (p : ℕ → Bool) (xs ys : List ℕ) → count_by p (xs ++ ys) ≡ count_by p xs + count_by p ys
count_by-append p xs ys = sum_by-append (λ b. cond (p b) 1 0) xs ys

count_none : (sign : ℕ) (bytes : List ℕ) (from : ℕ) → count_of sign bytes from from ≡ 0
count_none sign bytes from = ap (count_by (λ b. b == sign)) (slice_none bytes from)

pub count_more : (sign : ℕ) (bytes : List ℕ) (from at : ℕ) → from ≤ at → at < length bytes → count_of sign bytes from (at + 1) ≡ count_of sign bytes from at + cond (get_or bytes at 0 == sign) 1 0
count_more sign bytes from at order less =
    ap (count_by (λ b. b == sign)) (slice_more bytes from at order less)
    ∙ count_by-append (λ b. b == sign) (slice_range bytes from at) (get_or bytes at 0 ∷ [])
    ∙ omega arith

-- ---- one byte further in a body

-- so many braces are open here
pub record IsAtDepth (bytes : List ℕ) (from at depth : ℕ) : Type 0 where
  pub order : from ≤ at
  pub within : at ≤ length bytes
  pub matched : IsMatched bytes from at
  pub depth_is : depth + count_of 125 bytes from at ≡ count_of 123 bytes from at
  pub bound : depth ≤ at

pub depth_start : (bytes : List ℕ) (from : ℕ) → from ≤ length bytes → IsAtDepth bytes from from 0
depth_start bytes from within =
    record {
      order = omega arith;
      within = within;
      matched = λ k low high. let same : from ≡ k = omega arith in subst (λ k. count_of 125 bytes from k ≤ count_of 123 bytes from k) same (omega (arith, count_none 125 bytes from, count_none 123 bytes from));
      depth_is = omega (arith, count_none 125 bytes from, count_none 123 bytes from);
      bound = omega arith;
    }

matched_more : (bytes : List ℕ) (from at : ℕ) → IsMatched bytes from at → count_of 125 bytes from (at + 1) ≤ count_of 123 bytes from (at + 1) → IsMatched bytes from (at + 1)
matched_more bytes from at matched last k low high = go (cases_lt at k)
  where
    go : (at < k) ⊎ (k ≤ at) → count_of 125 bytes from k ≤ count_of 123 bytes from k
    go (inl less) = let same : at + 1 ≡ k = omega arith in subst (λ k. count_of 125 bytes from k ≤ count_of 123 bytes from k) same last
    go (inr more) = matched k low more

module _ (bytes : List ℕ) (from at depth : ℕ) (r : IsAtDepth bytes from at depth) (less : at < length bytes) where
  closed : count_of 125 bytes from (at + 1) ≡ count_of 125 bytes from at + cond (get_or bytes at 0 == 125) 1 0
  closed = count_more 125 bytes from at r.order less

  opened : count_of 123 bytes from (at + 1) ≡ count_of 123 bytes from at + cond (get_or bytes at 0 == 123) 1 0
  opened = count_more 123 bytes from at r.order less

  deeper : (to : ℕ) → to + count_of 125 bytes from (at + 1) ≡ count_of 123 bytes from (at + 1) → to ≤ at + 1 → IsAtDepth bytes from (at + 1) to
  deeper to depth_is bound =
      record {
        order = omega (arith, r.order);
        within = omega arith;
        matched = matched_more bytes from at r.matched (omega arith);
        depth_is = depth_is;
        bound = bound;
      }

  pub depth_open : get_or bytes at 0 ≡ 123 → IsAtDepth bytes from (at + 1) (depth + 1)
  depth_open is_open =
      let c : cond {A = ℕ} (get_or bytes at 0 == 125) 1 0 ≡ 0 = ap (λ b. cond {A = ℕ} (b == 125) 1 0) is_open in
      let o : cond {A = ℕ} (get_or bytes at 0 == 123) 1 0 ≡ 1 = ap (λ b. cond {A = ℕ} (b == 123) 1 0) is_open in
      deeper (depth + 1) (omega (arith, closed, opened, c, o, r.depth_is)) (omega (arith, r.bound))

  pub depth_close : get_or bytes at 0 ≡ 125 → (depth ≡ 0 → ⊥) → IsAtDepth bytes from (at + 1) (depth - 1)
  depth_close is_close some =
      let c : cond {A = ℕ} (get_or bytes at 0 == 125) 1 0 ≡ 1 = ap (λ b. cond {A = ℕ} (b == 125) 1 0) is_close in
      let o : cond {A = ℕ} (get_or bytes at 0 == 123) 1 0 ≡ 0 = ap (λ b. cond {A = ℕ} (b == 123) 1 0) is_close in
      deeper (depth - 1) (omega (arith, closed, opened, c, o, r.depth_is, some)) (omega (arith, r.bound))

  pub depth_other : (get_or bytes at 0 ≡ 123 → ⊥) → (get_or bytes at 0 ≡ 125 → ⊥) → IsAtDepth bytes from (at + 1) depth
  depth_other no_open no_close =
      let c : cond {A = ℕ} (get_or bytes at 0 == 125) 1 0 ≡ 0 = ap (λ t. cond {A = ℕ} t 1 0) (ne_eqb (get_or bytes at 0) 125 no_close) in
      let o : cond {A = ℕ} (get_or bytes at 0 == 123) 1 0 ≡ 0 = ap (λ t. cond {A = ℕ} t 1 0) (ne_eqb (get_or bytes at 0) 123 no_open) in
      deeper depth (omega (arith, closed, opened, c, o, r.depth_is)) (omega (arith, r.bound))

  pub body_here : get_or bytes at 0 ≡ 125 → depth ≡ 0 → IsBody bytes from at
  body_here is_close none = record { order = r.order; within = less; matched = r.matched; all_closed = omega (arith, r.depth_is, none); brace = is_close }
