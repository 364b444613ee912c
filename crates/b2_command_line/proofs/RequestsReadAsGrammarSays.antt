-- What clap is shown to read is what the grammar gives, but for groups with an `n`.
use Rattle.std.proofs.Common.{◌≡◌, ℕ, Bool, true, false, cond, not, ◌&&◌, ◌||◌, ◌==◌, List, [], ◌∷◌, ◌++◌, map, Option, None, Some, is_some, option_map, refl, sym, ap, ap₂, ◌∙◌, subst, ⊎_elim, codes, option_and_then, true≢false}
use Rattle.std.proofs.lemmas.Bool.{cases_Bool, eqb-true}
use Rattle.std.specs.Option.{option_map_or}
use Rattle.std.specs.List.{before_first}
use Rattle.std.specs.Str.{bytes_eq}
use Rattle.b2_command_line.specs.declared.words.Words.{Words}
use Rattle.b2_command_line.specs.Words.{Word, Item, with_jobs, with_all, with_quit, with_by, with_steps, with_table, with_explain, with_clean, free_word, Next, by_shape, jobs_value, by_value, Said, says, says_first, jobs_said, group_said, by_said, flag_said, long_said, option_said, after_hyphen, word_said, items, is_equals, value_in, meaning, build_reading}
use Rattle.b2_command_line.specs.Grouped.{has_n, is_grouped, any_grouped}
use Rattle.b2_command_line.proofs.RequestsReadLeftToRight.{Request, Point, nothing, use_option, use_flag, with_word, free_point, jobs_in_group, letters, by_read, flag_read, long_read, option_read, word_read, value_read, read_from, read_all, after_dashes, requested}
use Rattle.b2_command_line.proofs.ItemsAskWhatTheyMean.{take_item, take_items, asked_after, meant_after, taken, take_more, words_taken, jobs_hyphen, by_hyphen}
use Rattle.b2_command_line.proofs.EachWordHasItsShape.{dashes, long, short, plain, kind_of_word}

none_then : {A B : Type 0} (f : A → Option B) (o : Option A) → ((x : A) → f x ≡ None) → option_and_then f o ≡ None
none_then f None h = refl
none_then f (Some x) h = h x

then_map : {A B C : Type 0} (f : B → Option C) (g : A → B) (o : Option A) → option_and_then f (option_map g o) ≡ option_and_then (λ (x : A). f (g x)) o
then_map f g None = refl
then_map f g (Some x) = refl

same_then : {A B : Type 0} (f g : A → Option B) (o : Option A) → ((x : A) → f x ≡ g x) → option_and_then f o ≡ option_and_then g o
same_then f g None h = refl
same_then f g (Some x) h = h x

same_way : {A : Type 0} (b : Bool) (x : A) → cond b x x ≡ x
same_way true x = refl
same_way false x = refl

itself : (o : Option Request) → option_and_then (take_items []) o ≡ o
itself None = refl
itself (Some r) = refl

-- ---- one word

-- the request after what a word says
abbrev said_request : Request → Said → Option Point
said_request r g = option_map (λ (s : Request). (s, g.1)) (take_items g.0 r)

abbrev put_said : Request → Option Said → Option Point
put_said r o = option_and_then (said_request r) o

abbrev said_more : Item → Said → Said
said_more item more = (item ∷ more.0, more.1)

one_use : (o : Option Request) → option_map free_point o ≡ option_map free_point (option_and_then (take_items []) o)
one_use o = ap (option_map free_point) (sym (itself o))

-- a letter that is a flag, and those after it
first_flag : (item : Item) (rest : Word) (r : Request) (o : Option Request) → take_item item r ≡ o → ((s : Request) → letters rest s ≡ put_said s (group_said rest)) →
    option_and_then (letters rest) o ≡ put_said r (says_first item (group_said rest))
first_flag item rest r None e more = sym (then_map (said_request r) (said_more item) (group_said rest)
    ∙ none_then (λ (g : Said). said_request r (said_more item g)) (group_said rest) (λ g. ap (λ (o : Option Request). option_map (λ (s : Request). (s, g.1)) (option_and_then (take_items g.0) o)) e))
first_flag item rest r (Some s) e more = more s ∙ sym (then_map (said_request r) (said_more item) (group_said rest)
    ∙ same_then (λ (g : Said). said_request r (said_more item g)) (said_request s) (group_said rest) (λ g. ap (λ (o : Option Request). option_map (λ (s : Request). (s, g.1)) (option_and_then (take_items g.0) o)) e))

jobs_agrees : (rest : Word) (r : Request) → jobs_in_group rest r ≡ put_said r (Some (jobs_said rest))
jobs_agrees [] r = refl
jobs_agrees (byte ∷ rest) r = one_use (use_option (codes "jobs") (cond (byte == 61) rest (byte ∷ rest)) r)

abbrev letters_by : ℕ → Word → Request → Bool → Bool → Bool → Bool → Option Point
letters_by c rest r a q n j =
    cond a (option_and_then (letters rest) (use_flag (codes "all") r))
    (cond q (option_and_then (letters rest) (use_flag (codes "quit") r))
    (cond n (option_and_then (letters rest) (use_flag (codes "steps") r))
    (cond j (jobs_in_group rest r) None)))

abbrev group_by : Word → Bool → Bool → Bool → Option Said
group_by rest a q j = cond a (says_first with_all (group_said rest)) (cond q (says_first with_quit (group_said rest)) (cond j (Some (jobs_said rest)) None))

abbrev n_by : Word → Bool → Bool → Bool
n_by rest n j = cond n true (cond j false (has_n rest))

false_true : {A : Type 0} → true ≡ false → A
false_true e = absurd (true≢false e)

group_agrees : (text : Word) (r : Request) → has_n text ≡ false → letters text r ≡ put_said r (group_said text)
unfolding letters group_said has_n
group_agrees [] r none = refl
group_agrees (c ∷ rest) r none =
    let Goal : ℕ → Type 0 = λ x. has_n (x ∷ rest) ≡ false → letters (x ∷ rest) r ≡ put_said r (group_said (x ∷ rest)) in
    ⊎_elim
    (λ a. subst Goal (sym (eqb-true c 97 a)) (λ h. first_flag with_all rest r (use_flag (codes "all") r) refl (λ s. group_agrees rest s h)) none)
    (λ a. ⊎_elim
    (λ q. subst Goal (sym (eqb-true c 113 q)) (λ h. first_flag with_quit rest r (use_flag (codes "quit") r) refl (λ s. group_agrees rest s h)) none)
    (λ q. ⊎_elim
    (λ n. false_true (sym (ap (λ (b : Bool). n_by rest b (c == 106)) n) ∙ none))
    (λ n. ⊎_elim
    (λ j. subst Goal (sym (eqb-true c 106 j)) (λ h. jobs_agrees rest r) none)
    (λ j. (λ i. letters_by c rest r (a i) (q i) (n i) (j i)) ∙ sym (λ i. put_said r (group_by rest (a i) (q i) (j i))))
    (cases_Bool (c == 106)))
    (cases_Bool (c == 110)))
    (cases_Bool (c == 113)))
    (cases_Bool (c == 97))

-- a group with an `n` says nothing
group_none : (text : Word) → has_n text ≡ true → group_said text ≡ None
unfolding group_said has_n
group_none [] some = false_true (sym some)
group_none (c ∷ rest) some =
    let Goal : ℕ → Type 0 = λ x. has_n (x ∷ rest) ≡ true → group_said (x ∷ rest) ≡ None in
    ⊎_elim
    (λ a. subst Goal (sym (eqb-true c 97 a)) (λ h. ap (says_first with_all) (group_none rest h)) some)
    (λ a. ⊎_elim
    (λ q. subst Goal (sym (eqb-true c 113 q)) (λ h. ap (says_first with_quit) (group_none rest h)) some)
    (λ q. ⊎_elim
    (λ j. subst Goal (sym (eqb-true c 106 j)) (λ h. false_true (sym h)) some)
    (λ j. (λ i. group_by rest (a i) (q i) (j i)))
    (cases_Bool (c == 106)))
    (cases_Bool (c == 113)))
    (cases_Bool (c == 97))

by_agrees : (value : Option Word) (r : Request) → by_read value r ≡ put_said r (by_said value)
by_agrees (Some v) r = one_use (use_option (codes "by") v r)
by_agrees None r = refl

show_agrees : (value : Option Word) (r : Request) → flag_read (codes "show") value r ≡ put_said r (flag_said with_table value)
show_agrees (Some v) r = refl
show_agrees None r = one_use (use_flag (codes "show") r)

explain_agrees : (value : Option Word) (r : Request) → flag_read (codes "explain") value r ≡ put_said r (flag_said with_explain value)
explain_agrees (Some v) r = refl
explain_agrees None r = one_use (use_flag (codes "explain") r)

clean_agrees : (value : Option Word) (r : Request) → flag_read (codes "clean") value r ≡ put_said r (flag_said with_clean value)
clean_agrees (Some v) r = refl
clean_agrees None r = one_use (use_flag (codes "clean") r)

long_by : (value : Option Word) (r : Request) (by show explain clean : Bool)
    → cond by (by_read value r) (cond show (flag_read (codes "show") value r) (cond explain (flag_read (codes "explain") value r) (cond clean (flag_read (codes "clean") value r) None)))
    ≡ put_said r (cond by (by_said value) (cond show (flag_said with_table value) (cond explain (flag_said with_explain value) (cond clean (flag_said with_clean value) None))))
long_by value r true show explain clean = by_agrees value r
long_by value r false true explain clean = show_agrees value r
long_by value r false false true clean = explain_agrees value r
long_by value r false false false true = clean_agrees value r
long_by value r false false false false = refl

-- what follows the hyphen of an option: a group is no `-n` and has no `n`
abbrev option_by : Word → Bool → Bool → Option Said
option_by (d ∷ rest) hyphen n = cond hyphen (long_said (before_first is_equals rest) (value_in rest)) (cond n (Some (says with_steps)) (group_said (d ∷ rest)))
option_by [] hyphen n = None

and_false : (b : Bool) → (b && false) ≡ false
and_false true = refl
and_false false = refl

and_true : (b : Bool) → (b && true) ≡ b
and_true true = refl
and_true false = refl

steps_then : (o : Option Request) → option_and_then (letters []) o ≡ option_map free_point (option_and_then (take_items []) o)
unfolding letters
steps_then None = refl
steps_then (Some s) = refl

-- one letter
letter_agrees : (d : ℕ) (r : Request) → (d == 45) ≡ false → letters (d ∷ []) r ≡ put_said r (option_said (d ∷ []))
unfolding letters has_n
letter_agrees d r other = ⊎_elim
    (λ n. subst (λ (x : ℕ). letters (x ∷ []) r ≡ put_said r (option_said (x ∷ []))) (sym (eqb-true d 110 n)) (steps_then (use_flag (codes "steps") r)))
    (λ n. group_agrees (d ∷ []) r (ap (λ (b : Bool). cond b true (cond (d == 106) false false)) n ∙ same_way (d == 106) false)
    ∙ sym (ap₂ (λ (h b : Bool). put_said r (option_by (d ∷ []) h b)) other (and_true (d == 110) ∙ n)))
    (cases_Bool (d == 110))

-- the words that are not grouped
option_agrees : (d : ℕ) (rest : Word) (r : Request) → is_grouped (45 ∷ d ∷ rest) ≡ false → option_read (d ∷ rest) r ≡ put_said r (option_said (d ∷ rest))
option_agrees d rest r apart = ⊎_elim
    (λ h. ap (λ (b : Bool). cond b (long_read (before_first is_equals rest) (value_in rest) r) (letters (d ∷ rest) r)) h
    ∙ long_by (value_in rest) r (bytes_eq (codes "by") (before_first is_equals rest)) (bytes_eq (codes "show") (before_first is_equals rest))
    (bytes_eq (codes "explain") (before_first is_equals rest)) (bytes_eq (codes "clean") (before_first is_equals rest))
    ∙ sym (ap (λ (b : Bool). put_said r (option_by (d ∷ rest) b (bytes_eq (d ∷ rest) (codes "n")))) h))
    (λ h. ap (λ (b : Bool). cond b (long_read (before_first is_equals rest) (value_in rest) r) (letters (d ∷ rest) r)) h ∙ by rest h apart)
    (cases_Bool (d == 45))
  where
    by : (rest : Word) → (d == 45) ≡ false → is_grouped (45 ∷ d ∷ rest) ≡ false → letters (d ∷ rest) r ≡ put_said r (option_said (d ∷ rest))
    by [] h apart = letter_agrees d r h
    by (next ∷ more) h apart =
        group_agrees (d ∷ next ∷ more) r (sym (ap (λ (b : Bool). not b && has_n (d ∷ next ∷ more)) h) ∙ apart)
        ∙ sym (ap₂ (λ (x b : Bool). put_said r (option_by (d ∷ next ∷ more) x b)) h (and_false (d == 110)))

-- what is known of a word by its shape
word_agrees : (w : Word) (r : Request) → is_grouped w ≡ false → word_read w r ≡ put_said r (word_said w)
word_agrees [] r apart = refl
word_agrees (c ∷ []) r apart = refl
word_agrees (c ∷ d ∷ rest) r apart = ⊎_elim
    (λ h. subst (λ (x : ℕ). is_grouped (x ∷ d ∷ rest) ≡ false → word_read (x ∷ d ∷ rest) r ≡ put_said r (word_said (x ∷ d ∷ rest))) (sym (eqb-true c 45 h))
    (λ apart. option_agrees d rest r apart) apart)
    (λ h. plain_agrees (c ∷ d ∷ rest) (ap (λ (b : Bool). cond b (Some (d ∷ rest)) None) h))
    (cases_Bool (c == 45))
  where
    plain_agrees : (w : Word) → after_hyphen w ≡ None → word_read w r ≡ put_said r (word_said w)
    plain_agrees w e =
        ap (λ (o : Option Word). option_map_or (λ (text : Word). option_read text r) o (Some (with_word w r, by_shape))) e
        ∙ sym (ap (λ (o : Option Word). put_said r (option_map_or option_said o (Some (says (free_word w))))) e)

-- a grouped word says nothing
grouped_none : (w : Word) → is_grouped w ≡ true → word_said w ≡ None
grouped_none [] some = false_true (sym some)
grouped_none (c ∷ []) some = false_true (sym some)
grouped_none (c ∷ d ∷ []) some = false_true (sym some)
grouped_none (c ∷ d ∷ next ∷ rest) some =
    by (c == 45) (d == 45) refl refl some
  where
    by : (b h : Bool) → (c == 45) ≡ b → (d == 45) ≡ h → (b && (not h && has_n (d ∷ next ∷ rest))) ≡ true → word_said (c ∷ d ∷ next ∷ rest) ≡ None
    by false h p q some = false_true (sym some)
    by true true p q some = false_true (sym some)
    by true false p q some =
        ap (λ (b : Bool). option_map_or option_said (cond b (Some (d ∷ next ∷ rest)) None) (Some (says (free_word (c ∷ d ∷ next ∷ rest))))) p
        ∙ ap₂ (option_by (d ∷ next ∷ rest)) q (and_false (d == 110))
        ∙ group_none (d ∷ next ∷ rest) some

plain_apart : (w : Word) → after_hyphen w ≡ None → is_grouped w ≡ false
plain_apart [] e = refl
plain_apart (c ∷ []) e = refl
plain_apart (c ∷ d ∷ []) e = refl
plain_apart (c ∷ d ∷ next ∷ rest) e = by (c == 45) e
  where
    by : (b : Bool) → cond b (Some (d ∷ next ∷ rest)) None ≡ None → (b && (not (d == 45) && has_n (d ∷ next ∷ rest))) ≡ false
    by true e = absurd cc
    by false e = refl

-- ---- the words

-- what the items of the words ask for, after a request
abbrev asked_by : Next → List Word → Request → Option Words
asked_by next words r = option_and_then (asked_after r) (items next words)

-- what clap reads of the words, where none is grouped
abbrev read_by : Next → List Word → Request → Option Words
read_by next words r = cond (any_grouped words) None (option_and_then requested (read_from words (r, next)))

abbrev Linked : Next → List Word → Type 0
Linked next words = (r : Request) → read_by next words r ≡ asked_by next words r

record AllLinked (words : List Word) : Type 0 where
  shape : Linked by_shape words
  jobs : Linked jobs_value words
  by : Linked by_value words

linked_as : (words : List Word) → AllLinked words → (next : Next) → Linked next words
linked_as words linked by_shape = linked.shape
linked_as words linked jobs_value = linked.jobs
linked_as words linked by_value = linked.by

-- an item, and the words after it
item_then : (rest : List Word) (item : Item) (r : Request) (o : Option Request) → take_item item r ≡ o → Linked by_shape rest →
    cond (any_grouped rest) None (option_and_then requested (option_and_then (λ (s : Request). read_from rest (s, by_shape)) o))
    ≡ option_and_then (asked_after r) (option_map (λ (more : List Item). item ∷ more) (items by_shape rest))
item_then rest item r None e linked = same_way (any_grouped rest) None ∙ sym (then_map (asked_after r) (λ (more : List Item). item ∷ more) (items by_shape rest)
    ∙ none_then (λ (more : List Item). asked_after r (item ∷ more)) (items by_shape rest) (λ more. ap (λ (o : Option Request). option_and_then requested (option_and_then (take_items more) o)) e))
item_then rest item r (Some s) e linked = linked s ∙ sym (then_map (asked_after r) (λ (more : List Item). item ∷ more) (items by_shape rest)
    ∙ same_then (λ (more : List Item). asked_after r (item ∷ more)) (asked_after s) (items by_shape rest) (λ more. ap (λ (o : Option Request). option_and_then requested (option_and_then (take_items more) o)) e))

-- what a word says, and the words after it
said_then : (rest : List Word) (its : List Item) (next : Next) (r : Request) (o : Option Request) → take_items its r ≡ o → Linked next rest →
    cond (any_grouped rest) None (option_and_then requested (option_and_then (read_from rest) (option_map (λ (s : Request). (s, next)) o)))
    ≡ option_and_then (asked_after r) (option_map (λ (more : List Item). its ++ more) (items next rest))
said_then rest its next r None e linked = same_way (any_grouped rest) None ∙ sym (then_map (asked_after r) (λ (more : List Item). its ++ more) (items next rest)
    ∙ none_then (λ (more : List Item). asked_after r (its ++ more)) (items next rest) (λ more. ap (option_and_then requested) (take_more its more r ∙ ap (option_and_then (take_items more)) e)))
said_then rest its next r (Some s) e linked = linked s ∙ sym (then_map (asked_after r) (λ (more : List Item). its ++ more) (items next rest)
    ∙ same_then (λ (more : List Item). asked_after r (its ++ more)) (asked_after s) (items next rest) (λ more. ap (option_and_then requested) (take_more its more r ∙ ap (option_and_then (take_items more)) e)))

word_then : (rest : List Word) (r : Request) (said : Option Said) → AllLinked rest →
    cond (any_grouped rest) None (option_and_then requested (option_and_then (read_from rest) (put_said r said)))
    ≡ option_and_then (asked_after r) (option_and_then (λ (g : Said). option_map (λ (more : List Item). g.0 ++ more) (items g.1 rest)) said)
word_then rest r None linked = same_way (any_grouped rest) None
word_then rest r (Some g) linked = said_then rest g.0 g.1 r (take_items g.0 r) refl (linked_as rest linked g.1)

-- the tests of a word by its shape
abbrev left_by : Word → List Word → Request → Bool → Bool → Option Point → Option Words
left_by w rest r ends grouped o = cond (cond ends false (grouped || any_grouped rest)) None (option_and_then requested (cond ends (Some (after_dashes rest r)) (option_and_then (read_from rest) o)))

abbrev right_by : Word → List Word → Request → Bool → Option Said → Option Words
right_by w rest r ends said = option_and_then (asked_after r) (cond ends (Some (map free_word rest)) (option_and_then (λ (g : Said). option_map (λ (more : List Item). g.0 ++ more) (items g.1 rest)) said))

shape_linked : (w : Word) (rest : List Word) → AllLinked rest → Linked by_shape (w ∷ rest)
unfolding read_from items any_grouped
shape_linked w rest linked r = by (bytes_eq w (codes "--")) (is_grouped w) refl refl
  where
    by : (ends grouped : Bool) → bytes_eq w (codes "--") ≡ ends → is_grouped w ≡ grouped →
        left_by w rest r (bytes_eq w (codes "--")) (is_grouped w) (word_read w r) ≡ right_by w rest r (bytes_eq w (codes "--")) (word_said w)
    by true grouped p q =
        ap (λ (b : Bool). left_by w rest r b (is_grouped w) (word_read w r)) p
        ∙ sym (ap (option_and_then requested) (words_taken rest r))
        ∙ sym (ap (λ (b : Bool). right_by w rest r b (word_said w)) p)
    by false true p q =
        ap₂ (λ (b g : Bool). left_by w rest r b g (word_read w r)) p q
        ∙ sym (ap₂ (right_by w rest r) p (grouped_none w q))
    by false false p q =
        ap₂ (λ (b g : Bool). left_by w rest r b g (word_read w r)) p q
        ∙ ap (left_by w rest r false false) (word_agrees w r q)
        ∙ word_then rest r (word_said w) linked
        ∙ sym (ap (λ (b : Bool). right_by w rest r b (word_said w)) p)

-- a word where an option waits for its value
module _ (id : Word) (make : Word → Item) (takes : (w : Word) (r : Request) → take_item (make w) r ≡ use_option id w r)
    (refused : (d : ℕ) (more : Word) (r : Request) (rest : List Item) → meant_after r (make (45 ∷ d ∷ more) ∷ rest) ≡ None) where
  abbrev waits_left : Word → List Word → Request → Option Words
  waits_left w rest r =
      cond (any_grouped (w ∷ rest)) None (option_and_then requested (option_and_then (λ (s : Request). read_from rest (s, by_shape)) (value_read id w r)))

  abbrev waits_right : Word → List Word → Request → Option Words
  waits_right w rest r = option_and_then (asked_after r) (option_map (λ (more : List Item). make w ∷ more) (items by_shape rest))

  hyphen_linked : (d : ℕ) (more : Word) (rest : List Word) (r : Request) → waits_left (45 ∷ d ∷ more) rest r ≡ waits_right (45 ∷ d ∷ more) rest r
  hyphen_linked d more rest r = same_way (any_grouped ((45 ∷ d ∷ more) ∷ rest)) None
      ∙ sym (then_map (asked_after r) (λ (after : List Item). make (45 ∷ d ∷ more) ∷ after) (items by_shape rest)
      ∙ none_then (λ (after : List Item). asked_after r (make (45 ∷ d ∷ more) ∷ after)) (items by_shape rest) (λ after. taken (make (45 ∷ d ∷ more) ∷ after) r ∙ refused d more r after))

  plain_linked : (w : Word) (rest : List Word) (r : Request) → bytes_eq w (codes "--") ≡ false → after_hyphen w ≡ None → Linked by_shape rest → waits_left w rest r ≡ waits_right w rest r
  unfolding any_grouped
  plain_linked w rest r a n linked =
      (λ i. cond (cond (a i) false (plain_apart w n i || any_grouped rest)) None
      (option_and_then requested (option_and_then (λ (s : Request). read_from rest (s, by_shape)) (cond (is_some (n i)) None (use_option id w r)))))
      ∙ item_then rest (make w) r (use_option id w r) (takes w r) linked

  waits_linked : (w : Word) (rest : List Word) (r : Request) → Linked by_shape rest → waits_left w rest r ≡ waits_right w rest r
  waits_linked w rest r linked =
      let Goal : Word → Type 0 = λ x. waits_left x rest r ≡ waits_right x rest r in
      elim (kind_of_word w) [
        | dashes e ↦ subst Goal (sym e) (hyphen_linked 45 [] rest r)
        | long x xs e ↦ subst Goal (sym e) (hyphen_linked 45 (x ∷ xs) rest r)
        | short d more one e ↦ subst Goal (sym e) (hyphen_linked d more rest r)
        | plain a b c n ↦ plain_linked w rest r a n linked
      ]

all_linked : (words : List Word) → AllLinked words
unfolding read_from items any_grouped
all_linked [] = record { shape = λ r. refl; jobs = λ r. refl; by = λ r. refl }
all_linked (w ∷ rest) =
    let later = all_linked rest in
    record {
      shape = shape_linked w rest later;
      jobs = λ r. waits_linked (codes "jobs") with_jobs (λ w r. refl) (λ d more r after. jobs_hyphen d more r after) w rest r later.shape;
      by = λ r. waits_linked (codes "by") with_by (λ w r. refl) (λ d more r after. by_hyphen d more r after) w rest r later.shape;
    }

-- what the grammar gives
meant_is : (words : List Word) → asked_by by_shape words nothing ≡ build_reading words
unfolding meaning
meant_is words = same_then (asked_after nothing) meaning (items by_shape words) (λ its. taken its nothing)

pub build_read : (words : List Word) → any_grouped words ≡ false → option_and_then requested (read_all words) ≡ build_reading words
build_read words e =
    sym (ap (λ (b : Bool). cond b None (option_and_then requested (read_all words))) e)
    ∙ (all_linked words).shape nothing ∙ meant_is words

pub build_grouped : (words : List Word) → any_grouped words ≡ true → build_reading words ≡ None
build_grouped words e =
    sym (meant_is words) ∙ sym ((all_linked words).shape nothing)
    ∙ ap (λ (b : Bool). cond b None (option_and_then requested (read_all words))) e
