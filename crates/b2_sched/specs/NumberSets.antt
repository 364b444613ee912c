use Rattle.std.specs.Prelude.{◌≡◌, ℕ, ◌+◌, ◌*◌, ◌/◌, ◌<◌, ◌≤◌, Bool, true, false, List, length, slice_index_or}

-- the flag of a number is set
abbrev pub Has : List Bool → ℕ → Type 0
Has flags i = slice_index_or flags i false ≡ true

-- no flag is set
abbrev pub HasNone : List Bool → Type 0
HasNone flags = (i : ℕ) → Has flags i → ⊥

-- the lowest number whose flag is set
pub record IsLeast (flags : List Bool) (i : ℕ) : Type 0 where
  pub has : Has flags i
  pub within : i < length flags
  pub least : (k : ℕ) → k < i → Has flags k → ⊥

-- no flag is set from one place up to another
abbrev pub NoneIn : List Bool → ℕ → ℕ → Type 0
NoneIn flags from to = (k : ℕ) → from ≤ k → k < to → Has flags k → ⊥

-- the first flag that is set from one place up to another
pub record IsFirstIn (flags : List Bool) (from to i : ℕ) : Type 0 where
  pub above : from ≤ i
  pub below : i < to
  pub within : i < length flags
  pub has : Has flags i
  pub first : (k : ℕ) → from ≤ k → k < i → Has flags k → ⊥

-- each upper flag tells whether one of the 64 flags below it is set
pub record IsIndexed (lower upper : List Bool) : Type 0 where
  pub covers : length lower ≤ 64 * length upper
  pub meant : 64 * length upper < length lower + 64
  pub over : (i : ℕ) → Has lower i → Has upper (i / 64)
  pub under : (k : ℕ) → Has upper k → NoneIn lower (64 * k) (64 * k + 64) → ⊥
