-- A request that takes items one after another asks for what they mean.
use Rattle.std.proofs.Common.{◌≡◌, ℕ, Bool, true, false, cond, ◌&&◌, List, [], ◌∷◌, ◌++◌, map, filter, Option, None, Some, is_some, option_map, refl, sym, ap, ◌∙◌, codes, option_and_then, append_assoc, arith}
use Rattle.std.proofs.lemmas.List.{append-nil}
use Rattle.std.specs.List.{filter_map}
use Rattle.b2_command_line.specs.declared.words.BuildOptions.{BuildOptions}
use Rattle.b2_command_line.specs.declared.words.Words.{Words}
use Rattle.b2_command_line.specs.Words.{Word, Item, with_jobs, with_all, with_quit, with_by, with_steps, with_table, with_explain, with_clean, free_word, jobs_in, by_in, word_in, is_all, is_quit, is_steps, is_table, is_explain, is_clean, first, at_most_one, stands, stand_once, build_options, jobs_meant, digest_meant, command_meant, command_asked, most_jobs, with_words, meant}
use Rattle.b2_command_line.proofs.OnlyDecimalsAreNumbers.{number_hyphen}
use Rattle.b2_command_line.proofs.RequestsReadLeftToRight.{Request, put, use_option, use_flag, with_word, after_dashes, requested}

abbrev pub take_item : Item → Request → Option Request
take_item (with_jobs value) r = use_option (codes "jobs") value r
take_item with_all r = use_flag (codes "all") r
take_item with_quit r = use_flag (codes "quit") r
take_item (with_by value) r = use_option (codes "by") value r
take_item with_steps r = use_flag (codes "steps") r
take_item with_table r = use_flag (codes "show") r
take_item with_explain r = use_flag (codes "explain") r
take_item with_clean r = use_flag (codes "clean") r
take_item (free_word word) r = Some (with_word word r)

abbrev pub take_items : List Item → Request → Option Request
take_items [] r = Some r
take_items (item ∷ rest) r = option_and_then (take_items rest) (take_item item r)

-- what a request asks for once it took the items
abbrev pub asked_after : Request → List Item → Option Words
asked_after r items = option_and_then requested (take_items items r)

-- the values of an option, of which one may have been given before
abbrev of_value : Option Word → List Word → List Word
of_value None values = values
of_value (Some v) values = v ∷ values

abbrev of_flag : Item → Option Word → List Item → List Item
of_flag item None items = items
of_flag item (Some v) items = item ∷ items

-- what the items mean after a request
abbrev pub meant_after : Request → List Item → Option Words
meant_after r items =
    meant (of_value (r.given (codes "jobs")) (filter_map jobs_in items)) (of_value (r.given (codes "by")) (filter_map by_in items))
    (of_flag with_all (r.given (codes "all")) (filter is_all items)) (of_flag with_quit (r.given (codes "quit")) (filter is_quit items))
    (of_flag with_steps (r.given (codes "steps")) (filter is_steps items)) (of_flag with_table (r.given (codes "show")) (filter is_table items))
    (of_flag with_explain (r.given (codes "explain")) (filter is_explain items)) (of_flag with_clean (r.given (codes "clean")) (filter is_clean items))
    (r.words ++ filter_map word_in items)

one_value : (o : Option Word) → at_most_one (of_value o []) ≡ true
one_value None = refl
one_value (Some v) = refl

one_flag : (item : Item) (o : Option Word) → at_most_one (of_flag item o []) ≡ true
one_flag item None = refl
one_flag item (Some v) = refl

first_value : (o : Option Word) → first (of_value o []) ≡ o
first_value None = refl
first_value (Some v) = refl

first_flag : (item : Item) (o : Option Word) → stands (of_flag item o []) ≡ is_some o
first_flag item None = refl
first_flag item (Some v) = refl

-- eight tests
abbrev all_of_eight : Bool → Bool → Bool → Bool → Bool → Bool → Bool → Bool → Bool
all_of_eight a b c d e f g h = a && (b && (c && (d && (e && (f && (g && h))))))

nothing_more : (r : Request) → meant_after r [] ≡ requested r
nothing_more r =
    let j = r.given (codes "jobs") in
    let b = r.given (codes "by") in
    let a = r.given (codes "all") in
    let q = r.given (codes "quit") in
    let s = r.given (codes "steps") in
    let t = r.given (codes "show") in
    let x = r.given (codes "explain") in
    let c = r.given (codes "clean") in
    λ i. cond (all_of_eight (one_value j i) (one_value b i) (one_flag with_all a i) (one_flag with_quit q i) (one_flag with_steps s i) (one_flag with_table t i)
    (one_flag with_explain x i) (one_flag with_clean c i))
    (option_map (with_words (append-nil r.words i))
    (command_asked (first_value j i) (first_value b i) (first_flag with_all a i) (first_flag with_quit q i) (first_flag with_steps s i) (first_flag with_table t i)
    (first_flag with_explain x i) (first_flag with_clean c i)))
    None

none_1 : {A : Type 0} (a : Bool) (x : Option A) → cond (a && false) x None ≡ None
none_1 true x = refl
none_1 false x = refl

none_2 : {A : Type 0} (a b : Bool) (x : Option A) → cond (a && (b && false)) x None ≡ None
none_2 true b x = none_1 b x
none_2 false b x = refl

none_3 : {A : Type 0} (a b c : Bool) (x : Option A) → cond (a && (b && (c && false))) x None ≡ None
none_3 true b c x = none_2 b c x
none_3 false b c x = refl

none_4 : {A : Type 0} (a b c d : Bool) (x : Option A) → cond (a && (b && (c && (d && false)))) x None ≡ None
none_4 true b c d x = none_3 b c d x
none_4 false b c d x = refl

none_5 : {A : Type 0} (a b c d e : Bool) (x : Option A) → cond (a && (b && (c && (d && (e && false))))) x None ≡ None
none_5 true b c d e x = none_4 b c d e x
none_5 false b c d e x = refl

none_6 : {A : Type 0} (a b c d e f : Bool) (x : Option A) → cond (a && (b && (c && (d && (e && (f && false)))))) x None ≡ None
none_6 true b c d e f x = none_5 b c d e f x
none_6 false b c d e f x = refl

none_7 : {A : Type 0} (a b c d e f g : Bool) (x : Option A) → cond (a && (b && (c && (d && (e && (f && (g && false))))))) x None ≡ None
none_7 true b c d e f g x = none_6 b c d e f g x
none_7 false b c d e f g x = refl

-- one more use of an option is refused where one was given before
used_more : (o : Option Word) (items : List Item) (s : Request) (after : Option Word → Option Words) → asked_after s items ≡ after None → ((u : Word) → after (Some u) ≡ None) →
    option_and_then requested (option_and_then (take_items items) (cond (is_some o) None (Some s))) ≡ after o
used_more None items s after fresh again = fresh
used_more (Some u) items s after fresh again = sym (again u)

module _ (items : List Item) (r : Request) where
  abbrev js : List Word
  js = of_value (r.given (codes "jobs")) (filter_map jobs_in items)

  abbrev bs : List Word
  bs = of_value (r.given (codes "by")) (filter_map by_in items)

  abbrev alls : List Item
  alls = of_flag with_all (r.given (codes "all")) (filter is_all items)

  abbrev qs : List Item
  qs = of_flag with_quit (r.given (codes "quit")) (filter is_quit items)

  abbrev ss : List Item
  ss = of_flag with_steps (r.given (codes "steps")) (filter is_steps items)

  abbrev ts : List Item
  ts = of_flag with_table (r.given (codes "show")) (filter is_table items)

  abbrev xs : List Item
  xs = of_flag with_explain (r.given (codes "explain")) (filter is_explain items)

  abbrev cs : List Item
  cs = of_flag with_clean (r.given (codes "clean")) (filter is_clean items)

  abbrev ws : List Word
  ws = r.words ++ filter_map word_in items

  jobs_taken : (v : Word) → asked_after (put (codes "jobs") v r) items ≡ meant_after (put (codes "jobs") v r) items → asked_after r (with_jobs v ∷ items) ≡ meant_after r (with_jobs v ∷ items)
  jobs_taken v more = used_more (r.given (codes "jobs")) items (put (codes "jobs") v r)
      (λ o. meant (of_value o (v ∷ filter_map jobs_in items)) bs alls qs ss ts xs cs ws) more (λ u. refl)

  by_taken : (v : Word) → asked_after (put (codes "by") v r) items ≡ meant_after (put (codes "by") v r) items → asked_after r (with_by v ∷ items) ≡ meant_after r (with_by v ∷ items)
  by_taken v more = used_more (r.given (codes "by")) items (put (codes "by") v r)
      (λ o. meant js (of_value o (v ∷ filter_map by_in items)) alls qs ss ts xs cs ws) more (λ u. none_1 (at_most_one js) _)

  all_taken : asked_after (put (codes "all") (codes "true") r) items ≡ meant_after (put (codes "all") (codes "true") r) items → asked_after r (with_all ∷ items) ≡ meant_after r (with_all ∷ items)
  all_taken more = used_more (r.given (codes "all")) items (put (codes "all") (codes "true") r)
      (λ o. meant js bs (of_flag with_all o (with_all ∷ filter is_all items)) qs ss ts xs cs ws) more (λ u. none_2 (at_most_one js) (at_most_one bs) _)

  quit_taken : asked_after (put (codes "quit") (codes "true") r) items ≡ meant_after (put (codes "quit") (codes "true") r) items → asked_after r (with_quit ∷ items) ≡ meant_after r (with_quit ∷ items)
  quit_taken more = used_more (r.given (codes "quit")) items (put (codes "quit") (codes "true") r)
      (λ o. meant js bs alls (of_flag with_quit o (with_quit ∷ filter is_quit items)) ss ts xs cs ws) more (λ u. none_3 (at_most_one js) (at_most_one bs) (at_most_one alls) _)

  steps_taken : asked_after (put (codes "steps") (codes "true") r) items ≡ meant_after (put (codes "steps") (codes "true") r) items → asked_after r (with_steps ∷ items) ≡ meant_after r (with_steps ∷ items)
  steps_taken more = used_more (r.given (codes "steps")) items (put (codes "steps") (codes "true") r)
      (λ o. meant js bs alls qs (of_flag with_steps o (with_steps ∷ filter is_steps items)) ts xs cs ws) more (λ u. none_4 (at_most_one js) (at_most_one bs) (at_most_one alls) (at_most_one qs) _)

  table_taken : asked_after (put (codes "show") (codes "true") r) items ≡ meant_after (put (codes "show") (codes "true") r) items → asked_after r (with_table ∷ items) ≡ meant_after r (with_table ∷ items)
  table_taken more = used_more (r.given (codes "show")) items (put (codes "show") (codes "true") r)
      (λ o. meant js bs alls qs ss (of_flag with_table o (with_table ∷ filter is_table items)) xs cs ws) more
      (λ u. none_5 (at_most_one js) (at_most_one bs) (at_most_one alls) (at_most_one qs) (at_most_one ss) _)

  explain_taken : asked_after (put (codes "explain") (codes "true") r) items ≡ meant_after (put (codes "explain") (codes "true") r) items → asked_after r (with_explain ∷ items) ≡ meant_after r (with_explain ∷ items)
  explain_taken more = used_more (r.given (codes "explain")) items (put (codes "explain") (codes "true") r)
      (λ o. meant js bs alls qs ss ts (of_flag with_explain o (with_explain ∷ filter is_explain items)) cs ws) more
      (λ u. none_6 (at_most_one js) (at_most_one bs) (at_most_one alls) (at_most_one qs) (at_most_one ss) (at_most_one ts) _)

  clean_taken : asked_after (put (codes "clean") (codes "true") r) items ≡ meant_after (put (codes "clean") (codes "true") r) items → asked_after r (with_clean ∷ items) ≡ meant_after r (with_clean ∷ items)
  clean_taken more = used_more (r.given (codes "clean")) items (put (codes "clean") (codes "true") r)
      (λ o. meant js bs alls qs ss ts xs (of_flag with_clean o (with_clean ∷ filter is_clean items)) ws) more
      (λ u. none_7 (at_most_one js) (at_most_one bs) (at_most_one alls) (at_most_one qs) (at_most_one ss) (at_most_one ts) (at_most_one xs) _)

  word_taken : (w : Word) → asked_after (with_word w r) items ≡ meant_after (with_word w r) items → asked_after r (free_word w ∷ items) ≡ meant_after r (free_word w ∷ items)
  word_taken w more = more ∙ ap (meant js bs alls qs ss ts xs cs) (append_assoc r.words (w ∷ []) (filter_map word_in items))

pub taken : (items : List Item) (r : Request) → asked_after r items ≡ meant_after r items
taken [] r = sym (nothing_more r)
taken (with_jobs v ∷ items) r = jobs_taken items r v (taken items (put (codes "jobs") v r))
taken (with_all ∷ items) r = all_taken items r (taken items (put (codes "all") (codes "true") r))
taken (with_quit ∷ items) r = quit_taken items r (taken items (put (codes "quit") (codes "true") r))
taken (with_by v ∷ items) r = by_taken items r v (taken items (put (codes "by") v r))
taken (with_steps ∷ items) r = steps_taken items r (taken items (put (codes "steps") (codes "true") r))
taken (with_table ∷ items) r = table_taken items r (taken items (put (codes "show") (codes "true") r))
taken (with_explain ∷ items) r = explain_taken items r (taken items (put (codes "explain") (codes "true") r))
taken (with_clean ∷ items) r = clean_taken items r (taken items (put (codes "clean") (codes "true") r))
taken (free_word w ∷ items) r = word_taken items r w (taken items (with_word w r))

pub take_more : (items more : List Item) (r : Request) → take_items (items ++ more) r ≡ option_and_then (take_items more) (take_items items r)
take_more [] more r = refl
take_more (item ∷ items) more r = by (take_item item r) (λ s. take_more items more s)
  where
    by : (o : Option Request) → ((s : Request) → take_items (items ++ more) s ≡ option_and_then (take_items more) (take_items items s)) →
        option_and_then (take_items (items ++ more)) o ≡ option_and_then (take_items more) (option_and_then (take_items items) o)
    by None each = refl
    by (Some s) each = each s

pub words_taken : (words : List Word) (r : Request) → take_items (map free_word words) r ≡ Some (after_dashes words r)
words_taken [] r = refl
words_taken (w ∷ words) r = words_taken words (with_word w r)

-- ---- values that an option cannot have

same_way : {A : Type 0} (b : Bool) (x : A) → cond b x x ≡ x
same_way true x = refl
same_way false x = refl

none_then : {A B : Type 0} (f : A → Option B) (o : Option A) → ((x : A) → f x ≡ None) → option_and_then f o ≡ None
none_then f None h = refl
none_then f (Some x) h = h x

module _ (d : ℕ) (more : Word) (r : Request) (items : List Item) where
  abbrev word : Word
  word = 45 ∷ d ∷ more

  abbrev jobs_list : List Word
  jobs_list = of_value (r.given (codes "jobs")) (filter_map jobs_in items)

  abbrev by_list : List Word
  by_list = of_value (r.given (codes "by")) (filter_map by_in items)

  abbrev all_list : List Item
  all_list = of_flag with_all (r.given (codes "all")) (filter is_all items)

  abbrev quit_list : List Item
  quit_list = of_flag with_quit (r.given (codes "quit")) (filter is_quit items)

  abbrev steps_list : List Item
  steps_list = of_flag with_steps (r.given (codes "steps")) (filter is_steps items)

  abbrev table_list : List Item
  table_list = of_flag with_table (r.given (codes "show")) (filter is_table items)

  abbrev explain_list : List Item
  explain_list = of_flag with_explain (r.given (codes "explain")) (filter is_explain items)

  abbrev clean_list : List Item
  clean_list = of_flag with_clean (r.given (codes "clean")) (filter is_clean items)

  abbrev word_list : List Word
  word_list = r.words ++ filter_map word_in items

  pub jobs_hyphen : meant_after r (with_jobs (45 ∷ d ∷ more) ∷ items) ≡ None
  jobs_hyphen = by (r.given (codes "jobs"))
    where
      by : (o : Option Word) → meant (of_value o (word ∷ filter_map jobs_in items)) by_list all_list quit_list steps_list table_list explain_list clean_list word_list ≡ None
      by (Some u) = refl
      by None =
          ap (λ (n : Option ℕ). cond (stand_once (word ∷ filter_map jobs_in items) by_list all_list quit_list steps_list table_list explain_list clean_list)
          (option_map (with_words word_list) (option_and_then (λ (options : BuildOptions). command_meant options (stands steps_list) (stands table_list) (stands explain_list) (stands clean_list))
          (option_and_then (λ (count : ℕ). option_map (build_options count (stands all_list) (stands quit_list)) (digest_meant (first by_list))) n))) None)
          (number_hyphen most_jobs (d ∷ more) (omega arith))
          ∙ same_way (stand_once (word ∷ filter_map jobs_in items) by_list all_list quit_list steps_list table_list explain_list clean_list) None

  pub by_hyphen : meant_after r (with_by (45 ∷ d ∷ more) ∷ items) ≡ None
  by_hyphen = by (r.given (codes "by"))
    where
      by : (o : Option Word) → meant jobs_list (of_value o (word ∷ filter_map by_in items)) all_list quit_list steps_list table_list explain_list clean_list word_list ≡ None
      by (Some u) = none_1 (at_most_one jobs_list) _
      by None =
          ap (λ (o : Option BuildOptions). cond (stand_once jobs_list (word ∷ filter_map by_in items) all_list quit_list steps_list table_list explain_list clean_list)
          (option_map (with_words word_list) (option_and_then (λ (options : BuildOptions). command_meant options (stands steps_list) (stands table_list) (stands explain_list) (stands clean_list)) o)) None)
          (none_then (λ (count : ℕ). option_map (build_options count (stands all_list) (stands quit_list)) (digest_meant (Some word))) (jobs_meant (first jobs_list)) (λ count. refl))
          ∙ same_way (stand_once jobs_list (word ∷ filter_map by_in items) all_list quit_list steps_list table_list explain_list clean_list) None
