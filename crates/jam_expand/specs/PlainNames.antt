-- Names that are read as such.
use Rattle.std.specs.Prelude.{◌≢◌, ℕ, List, All}

-- none of the signs `$ ( ) : [`
pub record IsNameByte (byte : ℕ) : Type 0 where
  pub dollar : byte ≢ 36
  pub opening : byte ≢ 40
  pub closing : byte ≢ 41
  pub colon : byte ≢ 58
  pub bracket : byte ≢ 91

abbrev pub IsPlainName : List ℕ → Type 0
IsPlainName = All IsNameByte
