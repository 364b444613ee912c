-- As files are asked for one after another, those are listed that are missing.
use Rattle.std.proofs.Common.{◌≡◌, ◌∙◌, ◌↔◌, ◌⊎◌, inl, inr, ℕ, ◌+◌, ◌<◌, List, [], ◌∷◌, ◌++◌, length, take, get_or, Option, Some, sym, ap, subst}
use Rattle.std.specs.List.{Contains}
use Rattle.std.proofs.lemmas.List.{take_more}
use Rattle.std.proofs.lemmas.List.Elements.{Contains-push_cases, Contains-append_left, Contains-push}
use Rattle.b2_runs.proofs.FirstElementOrLater.{Contains_here, Contains_cases, Contains_nil}
use Rattle.b2_facts.specs.declared.file_facts.FileFacts.{FileFacts}
use Rattle.b2_facts.specs.Facts.{Knowledge, IsNumber, path_at, file_at}
use Rattle.b2_facts.specs.Growth.{Grows}
use Rattle.b2_facts.specs.Asks.{IsGivenBy, IsNotGivenBy, IsMissingAt}
use Rattle.b2_facts.proofs.ListsAtPlaces.{some_is, get_some}
use Rattle.b2_facts.proofs.FactsGrow.{grows_same, grows_then, given_stays, not_given_stays}
use Rattle.b2_reach.proofs.MembersAreAdded.{taken_more, taken_in}
use Rattle.b2_board.specs.declared.work.Work.{Work}
use Rattle.b2_board.specs.Boards.{work_at}
use Rattle.b2_endings.specs.Missing.{IsGivenOrListed, ListsMissing, IsPathOf, IsOfLacking, lacking_in}

-- ---- the first few of a list

taken_old : {X : Type 0} (xs : List X) (i : ℕ) (d x : X) → i < length xs → Contains (take i xs) x → Contains (take (i + 1) xs) x
taken_old xs i d x h c = subst (λ l. Contains l x) (sym (take_more xs i d h)) (Contains-append_left (take i xs) (get_or xs i d ∷ []) x c)

taken_new : {X : Type 0} (xs : List X) (i : ℕ) (d : X) → i < length xs → Contains (take (i + 1) xs) (get_or xs i d)
taken_new xs i d h = subst (λ l. Contains l (get_or xs i d)) (sym (take_more xs i d h)) (Contains-push (take i xs) (get_or xs i d))

-- what stands at a place is an element
pub at_index : {X : Type 0} (xs : List X) (i : ℕ) (d : X) → i < length xs → Contains xs (get_or xs i d)
at_index xs i d h = taken_in xs (i + 1) (get_or xs i d) (taken_new xs i d h)

only_one : {X : Type 0} (x y : X) → Contains (x ∷ []) y → x ≡ y
only_one x y c = elim (Contains_cases x y [] c) [ inl e ↦ e | inr d ↦ absurd (Contains_nil y d) ]

-- ---- as facts grow

-- the path of a number is the one that it had
path_was : (f g : Knowledge) (n : ℕ) (path : List ℕ) → Grows f g → IsNumber f n → path_at g n ≡ Some path → path_at f n ≡ Some path
path_was f g n path grows number at =
    let (was, was_at) = get_some f.paths n number.0 in
    was_at ∙ ap Some (some_is was path (sym (grows.paths n was was_at) ∙ at))

missing_grows : (f g : Knowledge) (path : List ℕ) → Grows f g → IsMissingAt f path → IsMissingAt g path
missing_grows f g path grows m =
    let (later, later_is, more) = grows.files m.number m.file m.is_file.file_is in
    record { number = m.number; file = later; is_file = record { path_is = grows.paths m.number path m.is_file.path_is; file_is = later_is }; not_given = not_given_stays m.file later more m.not_given }

-- what is given or listed stays so, as more is listed
so_grows : (f g : Knowledge) (before after : List (List ℕ)) (path : List ℕ) → Grows f g → ((p : List ℕ) → Contains before p → Contains after p)
    → IsGivenOrListed f before path → IsGivenOrListed g after path
so_grows f g before after path grows kept is =
    let (later, later_is, more) = grows.files is.number is.file is.is_file.file_is in
    record {
      number = is.number;
      file = later;
      is_file = record { path_is = grows.paths is.number path is.is_file.path_is; file_is = later_is };
      so = elim is.so [ inl given ↦ inl (given_stays is.file later more given) | inr listed ↦ inr (kept path listed) ];
    }

-- ---- lists compose

-- some paths were asked for, and then others
pub lists_then : (P Q R : List ℕ → Type 0) (g h : Knowledge) (a b c : List (List ℕ)) → Grows g h → ((path : List ℕ) → R path → P path ⊎ Q path)
    → ((path : List ℕ) → P path → R path) → ((path : List ℕ) → Q path → R path)
    → ListsMissing P g a b → ListsMissing Q h b c → ListsMissing R h a c
lists_then P Q R g h a b c grows either of_p of_q one two = record {
  kept = λ path among. two.kept path (one.kept path among);
  each = λ path among. elim (two.each path among) [
    | inl before ↦ elim (one.each path before) [ inl old ↦ inl old | inr new ↦ inr (of_p path new.0, missing_grows g h path grows new.1) ]
    | inr new ↦ inr (of_q path new.0, new.1)
  ];
  asked = λ path so. elim (either path so) [ inl p ↦ so_grows g h b c path grows two.kept (one.asked path p) | inr q ↦ two.asked path q ];
}

-- ---- one file

module _ (f g : Knowledge) (n : ℕ) (file : FileFacts) (before : List (List ℕ)) (grows : Grows f g) (is : file_at g n ≡ Some file) where
  -- it is given
  pub lists_given : IsGivenBy file → ListsMissing (IsPathOf f (n ∷ [])) g before before
  lists_given given = record {
    kept = λ path c. c;
    each = λ path c. inl c;
    asked = λ path asked.
        (let (m, among, at) = asked in
        record {
          number = n;
          file = file;
          is_file = record { path_is = grows.paths n path (subst (λ k. path_at f k ≡ Some path) (sym (only_one n m among)) at); file_is = is };
          so = inl given;
        });
  }

  -- it is missing, and its path is listed
  pub lists_missing : (name : List ℕ) (after : List (List ℕ)) → IsNumber f n → path_at g n ≡ Some name → after ≡ before ++ name ∷ [] → IsNotGivenBy file
      → ListsMissing (IsPathOf f (n ∷ [])) g before after
  lists_missing name after number named e none = subst (λ l. ListsMissing (IsPathOf f (n ∷ [])) g before l) (sym e) (record {
    kept = λ path c. Contains-append_left before (name ∷ []) path c;
    each = λ path c. elim (Contains-push_cases before name path c) [
      | inl old ↦ inl old
      | inr same ↦ (
          let at : path_at g n ≡ Some path = named ∙ ap Some same in
          inr ((n, Contains_here n [], path_was f g n path grows number at), record { number = n; file = file; is_file = record { path_is = at; file_is = is }; not_given = none }))
    ];
    asked = λ path asked.
        (let (m, among, at) = asked in
        let now : path_at g n ≡ Some path = grows.paths n path (subst (λ k. path_at f k ≡ Some path) (sym (only_one n m among)) at) in
        record {
          number = n;
          file = file;
          is_file = record { path_is = now; file_is = is };
          so = inr (subst (Contains (before ++ name ∷ [])) (some_is name path (sym named ∙ now)) (Contains-push before name));
        });
  })

-- ---- rounds of the loops

module _ (f g h : Knowledge) (i : ℕ) (a b c : List (List ℕ)) (before : Grows f g) (after : Grows g h) where
  -- a member more
  pub lists_member : (members : List ℕ) → i < length members → IsNumber f (get_or members i 0) → ListsMissing (IsPathOf f (take i members)) g a b
      → ListsMissing (IsPathOf g (get_or members i 0 ∷ [])) h b c
      → ListsMissing (IsPathOf f (take (i + 1) members)) h a c
  lists_member members low number = lists_then (IsPathOf f (take i members)) (IsPathOf g (get_or members i 0 ∷ [])) (IsPathOf f (take (i + 1) members)) g h a b c after
      (λ path r. let (n, among, at) = r in elim (taken_more members i 0 n low among) [
        | inl old ↦ inl (n, old, at)
        | inr e ↦ inr (n, subst (Contains (get_or members i 0 ∷ [])) e (Contains_here (get_or members i 0) []), before.paths n path at)
      ])
      (λ path p. let (n, among, at) = p in (n, taken_old members i 0 n low among, at))
      (λ path q. let (n, among, at) = q in
      (get_or members i 0, taken_new members i 0 low, path_was f g (get_or members i 0) path before number (subst (λ k. path_at g k ≡ Some path) (sym (only_one (get_or members i 0) n among)) at)))

  -- the members of a step more
  pub lists_step : (works : List (Option Work)) (steps : List ℕ) → i < length steps → ((k n : ℕ) → Contains (lacking_in (work_at works k)) n → IsNumber f n)
      → ListsMissing (IsOfLacking f works (take i steps)) g a b → ListsMissing (IsPathOf g (lacking_in (work_at works (get_or steps i 0)))) h b c → ListsMissing (IsOfLacking f works (take (i + 1) steps)) h a c
  lists_step works steps low numbered = lists_then (IsOfLacking f works (take i steps)) (IsPathOf g (lacking_in (work_at works (get_or steps i 0)))) (IsOfLacking f works (take (i + 1) steps)) g h a b c after
      (λ path r. let (k, among, of_step) = r in let (n, member, at) = of_step in elim (taken_more steps i 0 k low among) [
        | inl old ↦ inl (k, old, (n, member, at))
        | inr e ↦ inr (n, subst (λ j. Contains (lacking_in (work_at works j)) n) (sym e) member, before.paths n path at)
      ])
      (λ path p. let (k, among, of_step) = p in (k, taken_old steps i 0 k low among, of_step))
      (λ path q. let (n, member, at) = q in (get_or steps i 0, taken_new steps i 0 low, (n, member, path_was f g n path before (numbered (get_or steps i 0) n member) at)))

-- a path more, which got a number
pub lists_path : (f g h : Knowledge) (i n : ℕ) (name : List ℕ) (paths a b c : List (List ℕ)) → Grows f g → Grows g h → i < length paths
    → name ≡ get_or paths i name → path_at g n ≡ Some name
    → ListsMissing (Contains (take i paths)) f a b → ListsMissing (IsPathOf g (n ∷ [])) h b c → ListsMissing (Contains (take (i + 1) paths)) h a c
lists_path f g h i n name paths a b c before after low is at one two =
    lists_then (Contains (take i paths)) (IsPathOf g (n ∷ [])) (Contains (take (i + 1) paths)) f h a b c (grows_then f g h before after)
    (λ path r. elim (taken_more paths i name path low r) [
      | inl old ↦ inl old
      | inr e ↦ inr (n, Contains_here n [], subst (λ p. path_at g n ≡ Some p) (is ∙ e) at)
    ])
    (λ path p. taken_old paths i name path low p)
    (λ path q. let (m, among, named) = q in
    subst (Contains (take (i + 1) paths)) (sym is ∙ some_is name path (sym at ∙ subst (λ k. path_at g k ≡ Some path) (sym (only_one n m among)) named)) (taken_new paths i name low))
    one two

-- a list with the same elements
pub lists_same : (P : List ℕ → Type 0) (f : Knowledge) (before list after : List (List ℕ)) → ((path : List ℕ) → Contains after path ↔ Contains list path)
    → ListsMissing P f before list → ListsMissing P f before after
lists_same P f before list after same lists = record {
  kept = λ path c. (same path).1 (lists.kept path c);
  each = λ path c. lists.each path ((same path).0 c);
  asked = λ path p. so_grows f f list after path (grows_same f) (λ q c. (same q).1 c) (lists.asked path p);
}
