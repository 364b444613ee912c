-- clap's reading of a group of letters is that of a request.
use Rattle.std.proofs.Common.{◌≡◌, ◌≢◌, ℕ, ◌<◌, ◌≤◌, Bool, true, false, cond, ◌||◌, ◌==◌, List, [], ◌∷◌, length, Option, None, Some, refl, sym, ap₂, ◌∙◌, subst, ⊎_elim, ◌⊎◌, codes, MatchOption, option_and_then, option_map, slice_get, drop, arith, ne_eqb, true≢false}
use Rattle.std.proofs.lemmas.Bool.{cases_Bool, eqb-true, eq-eqb}
use Rattle.std.specs.Str.{chars}
use Rattle.std.specs.Option.{option_map_or}
use Rattle.std.specs.Char.{encode_utf8}
use Rattle.clap.specs.Words.{Rule, Row, Text}
use Rattle.clap.specs.Walk.{Held, Outcome, done, waits, arg_by_short, attached_value, bundle_met, bundle_step, option_met, settled_rows}
use Rattle.clap.specs.Faults.{settle_fault, flags_fault, bundle_step_fault, option_fault, short_fault}
use Rattle.clap.specs.Kinds.{Kinds, or_else}
use Rattle.clap.specs.declared.error.kind.ErrorKind.TheVariants as kind
use Rattle.b2_command_line.specs.Words.{by_shape, jobs_value, by_value}
use Rattle.b2_command_line.proofs.RequestsReadLeftToRight.{Request, Point, free_point, letters, jobs_in_group, use_flag, use_option}
use Rattle.b2_command_line.proofs.RowsShowTheRequest.{Shows, Uses, ar, qr, nr, jr, rules, not_nil, all_step, quit_step, steps_step, jobs_step}

abbrev pub held : List Row → Option (Text × List Text) → Held
held rows pending = record { rows = rows; pending = pending; skip = 0 }

-- the first character of a text that is not empty: its first byte, or none below 128
abbrev pub HasFirst : ℕ → Text → Type 0
HasFirst c rest = (x : ℕ) × (slice_get (chars (c ∷ rest)) 0 ≡ Some x) × ((x ≡ c) ⊎ ((128 ≤ x) × (128 ≤ c)))

-- each byte below 128 is a character
abbrev pub IsClean : Text → Type 0
IsClean [] = Unit {0}
IsClean (c ∷ rest) = HasFirst c rest × (c < 128 → IsClean rest)

first_a : (rest : Text) → slice_get (chars (97 ∷ rest)) 0 ≡ Some 97
unfolding chars
first_a [] = refl
first_a (b ∷ bs) = refl

first_q : (rest : Text) → slice_get (chars (113 ∷ rest)) 0 ≡ Some 113
unfolding chars
first_q [] = refl
first_q (b ∷ bs) = refl

first_n : (rest : Text) → slice_get (chars (110 ∷ rest)) 0 ≡ Some 110
unfolding chars
first_n [] = refl
first_n (b ∷ bs) = refl

first_j : (rest : Text) → slice_get (chars (106 ∷ rest)) 0 ≡ Some 106
unfolding chars
first_j [] = refl
first_j (b ∷ bs) = refl

pub or_else_stops : (a b : Kinds) → a ≢ [] → or_else a b ≢ []
or_else_stops [] b h = absurd (h refl)
or_else_stops (k ∷ ks) b h = h

abbrev pub settle : List Row → Option (Text × List Text) → Kinds
settle rows pending = settle_fault rules false (held rows pending)

abbrev pub settled_at : List Row → Option (Text × List Text) → List Row
settled_at rows pending = settled_rows rules pending rows

-- what is pending passes, and with it the rows show the request
pub record Ready (r : Request) (rows : List Row) (pending : Option (Text × List Text)) : Type 0 where
  pub passes : settle rows pending ≡ []
  pub shows : Shows r (settled_at rows pending)

abbrev pub WaitsFor : Text → Request → Held × Outcome → Type 0
WaitsFor id r met = (rows : List Row) × (met ≡ (held rows (Some (id, [])), waits id)) × Shows r rows

abbrev pub After : Point → Held × Outcome → Type 0
After (r, jobs_value) met = WaitsFor (codes "jobs") r met
After (r, by_value) met = WaitsFor (codes "by") r met
After (r, by_shape) met = (rows : List Row) × (pending : Option (Text × List Text)) × (met ≡ (held rows pending, done)) × Ready r rows pending

abbrev pub Agrees : Option Point → Kinds → Held × Outcome → Type 0
Agrees answer fault met = MatchOption answer (fault ≢ []) (λ g. (fault ≡ []) × After g met)

abbrev pub GroupAgrees : Text → List Row → Option (Text × List Text) → Outcome → Option Point → Type 0
GroupAgrees flags rows pending so_far answer =
    Agrees answer (flags_fault rules false (length flags) flags 0 (held rows pending)) (bundle_met rules (length flags) flags 0 so_far (held rows pending))

abbrev Later : Text → Type 0
Later rest = (r : Request) (rows : List Row) (pending : Option (Text × List Text)) → Ready r rows pending → GroupAgrees rest rows pending done (letters rest r)

pub ready_now : (r : Request) (rows : List Row) → Shows r rows → Ready r rows None
ready_now r rows s = record { passes = refl; shows = s }

-- a flag, and the letters after it
flag_then : (rest : Text) → Later rest → (o : Option Request) (S U : Kinds) (rows : List Row) → S ≡ [] → Uses o U rows →
    Agrees (option_and_then (letters rest) o) (or_else (or_else S U) (flags_fault rules false (length rest) rest 0 (held rows None)))
    (bundle_met rules (length rest) rest 0 done (held rows None))
flag_then rest later None S U rows e h = or_else_stops _ _ (subst (λ (k : Kinds). or_else k U ≢ []) (sym e) h)
flag_then rest later (Some r) S U rows e h =
    subst (λ (k : Kinds). Agrees (letters rest r) (or_else k (flags_fault rules false (length rest) rest 0 (held rows None))) (bundle_met rules (length rest) rest 0 done (held rows None)))
    (sym (ap₂ or_else e h.0)) (later r rows None (ready_now r rows h.1))

-- an option with its value, or a flag that is a word of its own
pub used_then : (o : Option Request) (S U : Kinds) (rows : List Row) (met : Held × Outcome) → S ≡ [] → Uses o U rows → met ≡ (held rows None, done) →
    Agrees (option_map free_point o) (or_else S U) met
used_then None S U rows met e h m = subst (λ (k : Kinds). or_else k U ≢ []) (sym e) h
used_then (Some s) S U rows met e h m = (ap₂ or_else e h.0, (rows, None, m, ready_now s rows h.1))

attached : (x : ℕ) (xs : Text) → attached_value (x ∷ xs) ≡ Some (cond (x == 61) xs (x ∷ xs))
attached x xs = by (x == 61)
  where
    by : (b : Bool) → option_map_or (λ (v : Text). Some v) (cond b (Some xs) None) (Some (x ∷ xs)) ≡ Some (cond b xs (x ∷ xs))
    by true = refl
    by false = refl

abbrev short_by : Bool → Bool → Bool → Bool → Option Rule
short_by j a q n = cond (j || false) (Some jr) (cond (a || false) (Some ar) (cond (q || false) (Some qr) (cond (n || false) (Some nr) None)))

no_short : (x : ℕ) → x ≢ 97 → x ≢ 113 → x ≢ 110 → x ≢ 106 → arg_by_short rules x ≡ None
no_short x a q n j =
    let is_j : (106 == x) ≡ false = ne_eqb 106 x (λ e. j (sym e)) in
    let is_a : (97 == x) ≡ false = ne_eqb 97 x (λ e. a (sym e)) in
    let is_q : (113 == x) ≡ false = ne_eqb 113 x (λ e. q (sym e)) in
    let is_n : (110 == x) ≡ false = ne_eqb 110 x (λ e. n (sym e)) in
    (λ i. short_by (is_j i) (is_a i) (is_q i) (is_n i))

module _ (rest : Text) (later : Later rest) (so_far : Outcome) (r : Request) (rows : List Row) (pending : Option (Text × List Text)) (ready : Ready r rows pending) where
  abbrev fault_at : ℕ → Option ℕ → Kinds
  fault_at c o = bundle_step_fault rules false o (c ∷ rest) 0 (held rows pending) (flags_fault rules false (length rest))

  abbrev met_at : ℕ → Option ℕ → Held × Outcome
  met_at c o = bundle_step rules o (c ∷ rest) 0 so_far (held rows pending) (bundle_met rules (length rest))

  abbrev FlagAgrees : Text → ℕ → Option ℕ → Type 0
  FlagAgrees id c o = Agrees (option_and_then (letters rest) (use_flag id r)) (fault_at c o) (met_at c o)

  letter_a : FlagAgrees (codes "all") 97 (slice_get (chars (97 ∷ rest)) 0)
  unfolding encode_utf8
  letter_a = subst (λ (o : Option ℕ). FlagAgrees (codes "all") 97 o) (sym (first_a rest))
      (flag_then rest later (use_flag (codes "all") r) _ _ _ ready.passes (all_step r (settled_at rows pending) ready.shows))

  letter_q : FlagAgrees (codes "quit") 113 (slice_get (chars (113 ∷ rest)) 0)
  unfolding encode_utf8
  letter_q = subst (λ (o : Option ℕ). FlagAgrees (codes "quit") 113 o) (sym (first_q rest))
      (flag_then rest later (use_flag (codes "quit") r) _ _ _ ready.passes (quit_step r (settled_at rows pending) ready.shows))

  letter_n : FlagAgrees (codes "steps") 110 (slice_get (chars (110 ∷ rest)) 0)
  unfolding encode_utf8
  letter_n = subst (λ (o : Option ℕ). FlagAgrees (codes "steps") 110 o) (sym (first_n rest))
      (flag_then rest later (use_flag (codes "steps") r) _ _ _ ready.passes (steps_step r (settled_at rows pending) ready.shows))

abbrev fault_with : ℕ → Text → List Row → Option (Text × List Text) → Option ℕ → Kinds
fault_with c rest rows pending o = bundle_step_fault rules false o (c ∷ rest) 0 (held rows pending) (flags_fault rules false (length rest))

module _ (so_far : Outcome) (r : Request) (rows : List Row) (pending : Option (Text × List Text)) (ready : Ready r rows pending) where
  abbrev fault_of_j : Text → Option ℕ → Kinds
  fault_of_j rest o = bundle_step_fault rules false o (106 ∷ rest) 0 (held rows pending) (flags_fault rules false (length rest))

  abbrev met_of_j : Text → Option ℕ → Held × Outcome
  met_of_j rest o = bundle_step rules o (106 ∷ rest) 0 so_far (held rows pending) (bundle_met rules (length rest))

  letter_j : (rest : Text) → Agrees (jobs_in_group rest r) (fault_of_j rest (slice_get (chars (106 ∷ rest)) 0)) (met_of_j rest (slice_get (chars (106 ∷ rest)) 0))
  unfolding encode_utf8
  letter_j [] = subst (λ (o : Option ℕ). Agrees (Some (r, jobs_value)) (fault_of_j [] o) (met_of_j [] o)) (sym (first_j []))
      (ready.passes, (settled_at rows pending, refl, ready.shows))
  letter_j (x ∷ xs) = subst (λ (o : Option ℕ). Agrees (jobs_in_group (x ∷ xs) r) (fault_of_j (x ∷ xs) o) (met_of_j (x ∷ xs) o)) (sym (first_j (x ∷ xs)))
      (subst (λ (v : Option Text). Agrees (jobs_in_group (x ∷ xs) r) (option_fault rules false jr v (held rows pending)) (option_met rules jr v (held rows pending))) (sym (attached x xs))
      (used_then (use_option (codes "jobs") (cond (x == 61) xs (x ∷ xs)) r) _ _ _ _ ready.passes (jobs_step r (settled_at rows pending) ready.shows (cond (x == 61) xs (x ∷ xs))) refl))

-- a letter that names nothing
letter_none : (c : ℕ) (rest : Text) (rows : List Row) (pending : Option (Text × List Text)) → HasFirst c rest → c ≢ 97 → c ≢ 113 → c ≢ 110 → c ≢ 106 →
    fault_with c rest rows pending (slice_get (chars (c ∷ rest)) 0) ≢ []
letter_none c rest rows pending first a q n j =
    let x = first.0 in
    let other : (m : ℕ) → m < 128 → c ≢ m → x ≢ m = λ m small ne e. ⊎_elim (λ same. ne (sym same ∙ e)) (λ high. let bad : 128 ≤ m = subst (λ (k : ℕ). 128 ≤ k) e high.0 in omega (arith, bad, small)) first.2 in
    subst (λ (o : Option ℕ). fault_with c rest rows pending o ≢ []) (sym first.1)
    (subst (λ (o : Option Rule). short_fault rules false o (drop (length (encode_utf8 x)) (c ∷ rest)) (held rows pending) (flags_fault rules false (length rest) (drop (length (encode_utf8 x)) (c ∷ rest)) 0) ≢ [])
    (sym (no_short x (other 97 (omega arith) a) (other 113 (omega arith) q) (other 110 (omega arith) n) (other 106 (omega arith) j))) (not_nil kind.UnknownArgument [] _ refl))

apart : (a b : ℕ) → (a == b) ≡ false → a ≢ b
apart a b e h = true≢false (sym (eq-eqb a b h) ∙ e)

abbrev group_by : ℕ → Text → Request → Bool → Bool → Bool → Bool → Option Point
group_by c rest r a q n j =
    cond a (option_and_then (letters rest) (use_flag (codes "all") r))
    (cond q (option_and_then (letters rest) (use_flag (codes "quit") r))
    (cond n (option_and_then (letters rest) (use_flag (codes "steps") r))
    (cond j (jobs_in_group rest r) None)))

-- one letter, and those after it
pub letter : (c : ℕ) (rest : Text) → HasFirst c rest → (c < 128 → Later rest) → (so_far : Outcome) (r : Request) (rows : List Row) (pending : Option (Text × List Text)) → Ready r rows pending →
    GroupAgrees (c ∷ rest) rows pending so_far (letters (c ∷ rest) r)
unfolding bundle_met flags_fault letters
letter c rest first later so_far r rows pending ready =
    let Goal : ℕ → Type 0 = λ x. GroupAgrees (x ∷ rest) rows pending so_far (letters (x ∷ rest) r) in
    ⊎_elim
    (λ a. let is = eqb-true c 97 a in subst Goal (sym is) (letter_a rest (later (omega (arith, is))) so_far r rows pending ready))
    (λ a. ⊎_elim
    (λ q. let is = eqb-true c 113 q in subst Goal (sym is) (letter_q rest (later (omega (arith, is))) so_far r rows pending ready))
    (λ q. ⊎_elim
    (λ n. let is = eqb-true c 110 n in subst Goal (sym is) (letter_n rest (later (omega (arith, is))) so_far r rows pending ready))
    (λ n. ⊎_elim
    (λ j. subst Goal (sym (eqb-true c 106 j)) (letter_j so_far r rows pending ready rest))
    (λ j. subst (λ (o : Option Point). Agrees o (flags_fault rules false (length (c ∷ rest)) (c ∷ rest) 0 (held rows pending)) (bundle_met rules (length (c ∷ rest)) (c ∷ rest) 0 so_far (held rows pending)))
    (sym (λ i. group_by c rest r (a i) (q i) (n i) (j i)))
    (letter_none c rest rows pending first (apart c 97 a) (apart c 113 q) (apart c 110 n) (apart c 106 j)))
    (cases_Bool (c == 106)))
    (cases_Bool (c == 110)))
    (cases_Bool (c == 113)))
    (cases_Bool (c == 97))

pub group_agrees : (flags : Text) → IsClean flags → (r : Request) (rows : List Row) (pending : Option (Text × List Text)) → Ready r rows pending →
    GroupAgrees flags rows pending done (letters flags r)
unfolding bundle_met flags_fault letters
group_agrees [] clean r rows pending ready = (refl, (rows, pending, refl, ready))
group_agrees (c ∷ rest) clean r rows pending ready = letter c rest clean.0 (λ small r rows pending ready. group_agrees rest (clean.1 small) r rows pending ready) done r rows pending ready

-- a group fails where what is pending does
pub group_fails : (c : ℕ) (rest : Text) → HasFirst c rest → (rows : List Row) (pending : Option (Text × List Text)) → settle rows pending ≢ [] →
    flags_fault rules false (length (c ∷ rest)) (c ∷ rest) 0 (held rows pending) ≢ []
unfolding flags_fault encode_utf8
group_fails c rest first rows pending bad =
    let Goal : ℕ → Type 0 = λ x. flags_fault rules false (length (x ∷ rest)) (x ∷ rest) 0 (held rows pending) ≢ [] in
    ⊎_elim
    (λ a. subst Goal (sym (eqb-true c 97 a)) (subst (λ (o : Option ℕ). fault_with 97 rest rows pending o ≢ []) (sym (first_a rest)) (or_else_stops _ _ (or_else_stops _ _ bad))))
    (λ a. ⊎_elim
    (λ q. subst Goal (sym (eqb-true c 113 q)) (subst (λ (o : Option ℕ). fault_with 113 rest rows pending o ≢ []) (sym (first_q rest)) (or_else_stops _ _ (or_else_stops _ _ bad))))
    (λ q. ⊎_elim
    (λ n. subst Goal (sym (eqb-true c 110 n)) (subst (λ (o : Option ℕ). fault_with 110 rest rows pending o ≢ []) (sym (first_n rest)) (or_else_stops _ _ (or_else_stops _ _ bad))))
    (λ n. ⊎_elim
    (λ j. subst Goal (sym (eqb-true c 106 j)) (subst (λ (o : Option ℕ). fault_with 106 rest rows pending o ≢ []) (sym (first_j rest)) (option_fails rest)))
    (λ j. letter_none c rest rows pending first (apart c 97 a) (apart c 113 q) (apart c 110 n) (apart c 106 j))
    (cases_Bool (c == 106)))
    (cases_Bool (c == 110)))
    (cases_Bool (c == 113)))
    (cases_Bool (c == 97))
  where
    option_fails : (flags : Text) → option_fault rules false jr (attached_value flags) (held rows pending) ≢ []
    option_fails [] = bad
    option_fails (x ∷ xs) = subst (λ (v : Option Text). option_fault rules false jr v (held rows pending) ≢ []) (sym (attached x xs)) (or_else_stops _ _ bad)
