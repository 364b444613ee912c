use Rattle.std.specs.Prelude.{◌≡◌, ℕ, nat_lt, nat_le, Bool, true, ◌&&◌, List, [], ◌∷◌, ◌++◌, length, map, take, slice_index_or}
use Rattle.b2_files.specs.declared.contents.Content.{Content}
use Rattle.b2_files.specs.declared.contents.Content.TheVariants as contents
use Rattle.b2_files.specs.declared.contents.Contents.{Contents}

-- the buffers, the one that grows at last
abbrev pub buffers_of : Contents → List (List ℕ)
buffers_of all = map (λ buffer. buffer.items) all.settled.items ++ all.growing.items ∷ []

-- the bytes of a content
abbrev pub bytes_in : List (List ℕ) → Content → List ℕ
bytes_in buffers (contents.Whole bytes) = bytes.value.items
bytes_in buffers (contents.Part buffer len) = take len (slice_index_or buffers buffer [])

-- the bytes lie within their buffer
abbrev pub is_within : List (List ℕ) → Content → Bool
is_within buffers (contents.Whole bytes) = true
is_within buffers (contents.Part buffer len) = nat_lt buffer (length buffers) && nat_le len (length (slice_index_or buffers buffer []))

-- Each content that lay within the buffers does so again, and has the same bytes.
pub record Keeps (before after : List (List ℕ)) : Type 0 where
  pub bytes : (content : Content) → is_within before content ≡ true → bytes_in after content ≡ bytes_in before content
  pub within : (content : Content) → is_within before content ≡ true → is_within after content ≡ true
