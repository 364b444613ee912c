-- Texts with glue between them, as they are put together.
use Rattle.std.specs.Prelude.{◌≡◌, ℕ, ◌≤◌, List, length, string_bytes}
use Rattle.b2_base.specs.Bytes.{HasNoZero}
use Rattle.jam_expand.specs.Limits.{limit}
use Rattle.jam_expand.specs.declared.glue.GluedText.{GluedText}

-- The length is that of the whole text, which is kept as long as it is not above the limit.
pub record IsGlued (held : GluedText) (text : List ℕ) : Type 0 where
  pub len_is : held.len ≡ length text
  pub text_is : length text ≤ limit → string_bytes held.text ≡ text
  pub no_zero : HasNoZero (string_bytes held.text)
