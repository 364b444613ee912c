-- A walk through what was generated finds the first rows.
use Rattle.std.proofs.Common.{arith, ◌≡◌, ◌≤◌, ◌<◌, ◌==◌, ◌+◌, ℕ, Bool, true, false, cond, List, [], ◌∷◌, ◌++◌, Option, Some, None, length, reverse, refl, sym, ap, subst, ◌∙◌, append_assoc}
use Rattle.std.specs.List.{filter, flat_map}
use Rattle.std.specs.Option.{option_map_or}
use Rattle.std.proofs.lemmas.Bool.{eqb-true, eq-eqb, ltb-true, lt-ltb, le-ltb}
use Rattle.std.proofs.lemmas.Grind.{flat_map-append}
use Rattle.std.proofs.lemmas.List.{append-nil, reverse-append, reverse-reverse, length-append, length-reverse}
use Rattle.b2_generate.specs.Answers.{Row}
use Rattle.b2_generate.specs.Planning.{first_rows}
use Rattle.b2_generate.specs.declared.node.Node.{Node}
use Rattle.b2_request_plan.specs.declared.table.RowSearch.{RowSearch}
use Rattle.b2_generate.specs.Nodes.{entry_in, node_in, row_of}
use Rattle.b2_generate.specs.Places.{rows_at, is_before, children_at, children_left}
use Rattle.b2_request_plan.specs.TableRows.{has_row, with_row, found_rows, is_opened, turns_left, IsWalk, IsBegun, Opens}
use Rattle.b2_request_plan.proofs.RepeatedRowsAreLeftOut.{Within, within_left, within_right, within_both, fresh, fresh_skip, fresh_next, first_is_fresh, with_had, with_own}
use Rattle.b2_generate.proofs.OwnRowThenChildrensRows.{rows_none, rows_some, fewer, left_at}

-- the places from the front on that stand before another one
abbrev first_before : ℕ → List ℕ → List ℕ
first_before bound [] = []
first_before bound (place ∷ more) = cond (is_before bound place) (place ∷ first_before bound more) []

first_both : (low bound : ℕ) (places more : List ℕ) → low ≤ bound → first_before bound (filter (is_before low) places ++ more) ≡ filter (is_before low) places ++ first_before bound more
first_both low bound [] more less = refl
first_both low bound (place ∷ places) more less = go (is_before low place) refl (first_both low bound places more less)
  where
    go : (b : Bool) → is_before low place ≡ b → first_before bound (filter (is_before low) places ++ more) ≡ filter (is_before low) places ++ first_before bound more
        → first_before bound (cond b (place ∷ filter (is_before low) places) (filter (is_before low) places) ++ more) ≡ cond b (place ∷ filter (is_before low) places) (filter (is_before low) places) ++ first_before bound more
    go true e others =
        let lower : place < low = ltb-true place low e in
        ap (λ (c : Bool). cond c (place ∷ first_before bound (filter (is_before low) places ++ more)) []) (lt-ltb place bound (omega (arith, lower, less)))
        ∙ ap (λ xs. place ∷ xs) others
    go false e others = others

first_itself : (place : ℕ) (more : List ℕ) → first_before place (place ∷ more) ≡ []
first_itself place more = ap (λ (b : Bool). cond b (place ∷ first_before place more) []) (le-ltb place place (omega arith))

module _ (nodes : List Node) where
  abbrev rows_of : List ℕ → List Row
  rows_of places = flat_map (rows_at nodes) places

  -- What was found, and what is new of the places to be opened, is all of it. The rows of a place that was opened were found, or
  -- are those of the next places that stand before it: while a place is being opened, no other is next.
  pub record GoesOn (all : List Row) (opened : ℕ → Bool) (found : List Row) (next : List ℕ) : Type 0 where
    pub leads : found ++ fresh found (rows_of next) ≡ all
    pub done : (place : ℕ) → opened place ≡ true → Within (rows_at nodes place) (found ++ rows_of (first_before place next))

  begins : (opened : ℕ → Bool) (asked : List ℕ) → ((place : ℕ) → opened place ≡ false) → GoesOn (first_rows (rows_of asked)) opened [] asked
  begins opened asked none = record {
    leads = first_is_fresh (rows_of asked);
    done = λ place e. let not_opened : opened place ≡ false = none place in cc;
  }

  -- what lies within the rows that were found and those at some places, where those of the first place were found
  passed : (found rows : List Row) (bound place : ℕ) (more : List ℕ) → Within (rows_at nodes place) found → Within rows (found ++ rows_of (first_before bound (place ∷ more))) → Within rows (found ++ rows_of (first_before bound more))
  passed found rows bound place more had within row e = go (is_before bound place) (within row e)
    where
      go : (b : Bool) → has_row (found ++ rows_of (cond b (place ∷ first_before bound more) [])) row ≡ true → has_row (found ++ rows_of (first_before bound more)) row ≡ true
      go true f =
          within_both found (rows_at nodes place ++ rows_of (first_before bound more)) (found ++ rows_of (first_before bound more))
          (within_left found (rows_of (first_before bound more)))
          (within_both (rows_at nodes place) (rows_of (first_before bound more)) (found ++ rows_of (first_before bound more)) (λ r g. within_left found (rows_of (first_before bound more)) r (had r g))
          (within_right found (rows_of (first_before bound more))))
          row f
      go false f = within_left found (rows_of (first_before bound more)) row (subst (λ xs. has_row xs row ≡ true) (append-nil found) f)

  -- a place that was opened is passed by
  again : (all : List Row) (opened : ℕ → Bool) (found : List Row) (place : ℕ) (next : List ℕ) → opened place ≡ true → GoesOn all opened found (place ∷ next) → GoesOn all opened found next
  again all opened found place next was g = record {
    leads = ap (λ xs. found ++ xs) (sym (fresh_skip found (rows_at nodes place) (rows_of next) had)) ∙ g.leads;
    done = λ bound e. passed found (rows_at nodes bound) bound place next had (g.done bound e);
  }
    where
      had : Within (rows_at nodes place) found
      had row e = subst (λ xs. has_row xs row ≡ true) (ap (λ places. found ++ rows_of places) (first_itself place next) ∙ append-nil found) (g.done place was row e)

  -- a place is opened: its own rows were found or are found now, and its children come next
  opened_on : (all : List Row) (opened opened_then : ℕ → Bool) (found found_then own : List Row) (place : ℕ) (children next : List ℕ)
      → ((other : ℕ) → opened_then other ≡ cond (place == other) true (opened other)) → rows_at nodes place ≡ own ++ rows_of (filter (is_before place) children)
      → Within found found_then → Within own found_then → ((more : List Row) → found ++ fresh found (own ++ more) ≡ found_then ++ fresh found_then more)
      → GoesOn all opened found (place ∷ next) → GoesOn all opened_then found_then (filter (is_before place) children ++ next)
  opened_on all opened opened_then found found_then own place children next opens rows had there emits g = record {
    leads =
        ap (λ xs. found_then ++ fresh found_then xs) (flat_map-append (rows_at nodes) lower next)
        ∙ sym (emits (rows_of lower ++ rows_of next))
        ∙ ap (λ xs. found ++ fresh found xs) (sym (append_assoc own (rows_of lower) (rows_of next)) ∙ ap (λ xs. xs ++ rows_of next) (sym rows)) ∙ g.leads;
    done = λ bound e. cases bound (place == bound) refl (sym (opens bound) ∙ e);
  }
    where
      lower : List ℕ
      lower = filter (is_before place) children

      -- what lies within what is found now and the rows of the children
      held : (bound : ℕ) → place ≤ bound → found_then ++ rows_of (first_before bound (lower ++ next)) ≡ found_then ++ (rows_of lower ++ rows_of (first_before bound next))
      held bound less = ap (λ xs. found_then ++ rows_of xs) (first_both place bound children next less) ∙ ap (λ xs. found_then ++ xs) (flat_map-append (rows_at nodes) lower (first_before bound next))

      found_held : (more : List Row) → Within own (found_then ++ more)
      found_held more row e = within_left found_then more row (there row e)

      old_held : (more : List Row) → Within found (found_then ++ more)
      old_held more row e = within_left found_then more row (had row e)

      lower_held : (more : List Row) → Within (rows_of lower) (found_then ++ (rows_of lower ++ more))
      lower_held more row e = within_right found_then (rows_of lower ++ more) row (within_left (rows_of lower) more row e)

      more_held : (more : List Row) → Within more (found_then ++ (rows_of lower ++ more))
      more_held more row e = within_right found_then (rows_of lower ++ more) row (within_right (rows_of lower) more row e)

      own_held : (more : List Row) → Within (rows_at nodes place) (found_then ++ (rows_of lower ++ more))
      own_held more row e =
          within_both own (rows_of lower) (found_then ++ (rows_of lower ++ more)) (found_held (rows_of lower ++ more)) (lower_held more) row (subst (λ xs. has_row xs row ≡ true) rows e)

      later : (bound : ℕ) (b : Bool) → is_before bound place ≡ b → (row : Row) → has_row (found ++ rows_of (cond b (place ∷ first_before bound next) [])) row ≡ true
          → has_row (found_then ++ rows_of (first_before bound (lower ++ next))) row ≡ true
      later bound true e row f =
          let less : place < bound = ltb-true place bound e in
          let more : List Row = rows_of (first_before bound next) in
          subst (λ xs. has_row xs row ≡ true) (sym (held bound (omega (arith, less))))
          (within_both found (rows_at nodes place ++ more) (found_then ++ (rows_of lower ++ more)) (old_held (rows_of lower ++ more))
          (within_both (rows_at nodes place) more (found_then ++ (rows_of lower ++ more)) (own_held more) (more_held more)) row f)
      later bound false e row f = old_held (rows_of (first_before bound (lower ++ next))) row (subst (λ xs. has_row xs row ≡ true) (append-nil found) f)

      cases : (bound : ℕ) (b : Bool) → (place == bound) ≡ b → cond b true (opened bound) ≡ true → Within (rows_at nodes bound) (found_then ++ rows_of (first_before bound (lower ++ next)))
      cases bound true e was row f =
          let here : place ≡ bound = eqb-true place bound e in
          subst (λ xs. has_row xs row ≡ true) (sym (held bound (omega (arith, here))))
          (own_held (rows_of (first_before bound next)) row (subst (λ k. has_row (rows_at nodes k) row ≡ true) (sym here) f))
      cases bound false e was row f = later bound (is_before bound place) refl row (g.done bound was row f)

  -- what opening a place makes of a walk that goes on
  opens_on : (all : List Row) (opened opened_then : ℕ → Bool) (found : List Row) (place : ℕ) (next : List ℕ) → ((other : ℕ) → opened_then other ≡ cond (place == other) true (opened other))
      → GoesOn all opened found (place ∷ next) → (o : Option Node) → node_in nodes place ≡ o
      → GoesOn all opened_then (option_map_or (λ (n : Node). with_row found (row_of n)) o found) (option_map_or (λ (n : Node). filter (is_before place) n.children) o [] ++ next)
  opens_on all opened opened_then found place next opens g None e =
      opened_on all opened opened_then found found [] place [] next opens (rows_none nodes place e) (λ row f. f) (λ row f. cc) (λ more. refl) g
  opens_on all opened opened_then found place next opens g (Some n) e =
      opened_on all opened opened_then found (with_row found (row_of n)) (row_of n ∷ []) place n.children next opens (rows_some nodes place n e) (with_had found (row_of n)) (with_own found (row_of n))
      (fresh_next found (row_of n)) g

  -- ---- the walk

  pub record IsGoingOn (all : List Row) (walk : RowSearch) : Type 0 where
    pub known : IsWalk walk
    pub goes : GoesOn all (is_opened walk) (found_rows walk) (reverse walk.next.items)

  pub begun : (asked : List ℕ) (walk : RowSearch) → IsBegun asked walk → IsGoingOn (first_rows (flat_map (λ place. (entry_in nodes place).1.rows) asked)) walk
  begun asked walk b = record {
    known = b.known;
    goes =
        subst (λ next. GoesOn (first_rows (rows_of asked)) (is_opened walk) (found_rows walk) next) (sym (ap reverse b.next ∙ reverse-reverse asked))
        (subst (λ found. GoesOn (first_rows (rows_of asked)) (is_opened walk) found asked) (sym b.found) (begins (is_opened walk) asked b.opened));
  }

  -- a place more is opened
  same_opened : (all : List Row) (opened opened_then : ℕ → Bool) (found : List Row) (next : List ℕ) → ((other : ℕ) → opened_then other ≡ true → opened other ≡ true)
      → GoesOn all opened found next → GoesOn all opened_then found next
  same_opened all opened opened_then found next same g = record { leads = g.leads; done = λ place e. g.done place (same place e) }

  opened_before : (opened opened_then : ℕ → Bool) (place : ℕ) → opened place ≡ true → ((other : ℕ) → opened_then other ≡ cond (place == other) true (opened other)) → (other : ℕ) → opened_then other ≡ true → opened other ≡ true
  opened_before opened opened_then place was opens other e = go (place == other) refl (sym (opens other) ∙ e)
    where
      go : (b : Bool) → (place == other) ≡ b → cond b true (opened other) ≡ true → opened other ≡ true
      go true here f = ap opened (sym (eqb-true place other here)) ∙ was
      go false here f = f

  step : (all : List Row) (next : List ℕ) (popped new : RowSearch) (place : ℕ) → GoesOn all (is_opened popped) (found_rows popped) (place ∷ reverse popped.next.items) → Opens nodes place popped new
      → (b : Bool) → is_opened popped place ≡ b
      → GoesOn all (is_opened new) (cond b (found_rows popped) (option_map_or (λ n. with_row (found_rows popped) (row_of n)) (node_in nodes place) (found_rows popped)))
      (reverse (cond b popped.next.items (popped.next.items ++ reverse (children_at nodes place))))
  step all next popped new place g o true e =
      same_opened all (is_opened popped) (is_opened new) (found_rows popped) (reverse popped.next.items) (opened_before (is_opened popped) (is_opened new) place e o.opened)
      (again all (is_opened popped) (found_rows popped) place (reverse popped.next.items) e g)
  step all next popped new place g o false e =
      subst (λ xs. GoesOn all (is_opened new) (option_map_or (λ n. with_row (found_rows popped) (row_of n)) (node_in nodes place) (found_rows popped)) xs)
      (sym (reverse-append popped.next.items (reverse (children_at nodes place)) ∙ ap (λ xs. xs ++ reverse popped.next.items) (reverse-reverse (children_at nodes place))))
      (opens_on all (is_opened popped) (is_opened new) (found_rows popped) place (reverse popped.next.items) o.opened g (node_in nodes place) refl)

  pub goes_on : (all : List Row) (next : List ℕ) (popped new : RowSearch) (place : ℕ) → next ≡ popped.next.items ++ place ∷ [] → GoesOn all (is_opened popped) (found_rows popped) (reverse next) → IsWalk new
      → Opens nodes place popped new → IsGoingOn all new
  goes_on all next popped new place last g known o = record {
    known = known;
    goes =
        subst (λ xs. GoesOn all (is_opened new) (found_rows new) xs) (sym (ap reverse o.next))
        (subst (λ rows. GoesOn all (is_opened new) rows (reverse (cond (is_opened popped place) popped.next.items (popped.next.items ++ reverse (children_at nodes place))))) (sym o.found)
        (step all next popped new place (subst (λ xs. GoesOn all (is_opened popped) (found_rows popped) xs) (ap reverse last ∙ reverse-append popped.next.items (place ∷ [])) g) o (is_opened popped place) refl));
  }

  -- opening a place takes a turn at least
  pub fewer_turns : (next : List ℕ) (popped new : RowSearch) (place : ℕ) → next ≡ popped.next.items ++ place ∷ [] → Opens nodes place popped new → turns_left nodes new < length next + children_left (is_opened popped) nodes
  fewer_turns next popped new place last o = go (is_opened popped place) refl
    where
      more : (other : ℕ) → is_opened popped other ≡ true → is_opened new other ≡ true
      more other e = o.opened other ∙ kept (place == other)
        where
          kept : (b : Bool) → cond b true (is_opened popped other) ≡ true
          kept true = refl
          kept false = e

      now : is_opened new place ≡ true
      now = o.opened place ∙ ap (λ (b : Bool). cond b true (is_opened popped place)) (eq-eqb place place refl)

      long : length next ≡ length popped.next.items + 1
      long = ap length last ∙ length-append popped.next.items (place ∷ [])

      go : (b : Bool) → is_opened popped place ≡ b → turns_left nodes new < length next + children_left (is_opened popped) nodes
      go true e = omega (arith, long, fewer (is_opened popped) (is_opened new) nodes more, ap length (o.next ∙ ap (λ (b : Bool). cond b popped.next.items (popped.next.items ++ reverse (children_at nodes place))) e))
      go false e =
          omega (
            arith,
            long,
            left_at (is_opened popped) (is_opened new) nodes place more e now,
            ap length (o.next ∙ ap (λ (b : Bool). cond b popped.next.items (popped.next.items ++ reverse (children_at nodes place))) e),
            length-append popped.next.items (reverse (children_at nodes place)),
            length-reverse (children_at nodes place),
          )

  ends_with : (all : List Row) (opened : ℕ → Bool) (found : List Row) → GoesOn all opened found [] → found ≡ all
  ends_with all opened found g = sym (append-nil found) ∙ g.leads

  pub ended : (all : List Row) (walk : RowSearch) → walk.next.items ≡ [] → IsGoingOn all walk → found_rows walk ≡ all
  ended all walk none g = ends_with all (is_opened walk) (found_rows walk) (subst (λ next. GoesOn all (is_opened walk) (found_rows walk) next) (ap reverse none) g.goes)
