-- The digests of files.
use Rattle.std.specs.Prelude.{ℕ, List}
use Rattle.sha2.specs.Sha256.{sha256}
use Rattle.b2_base.specs.Hexadecimals.{hexadecimal}

-- the digest of bytes: their SHA-256 as 64 lower-case hexadecimal digits
abbrev pub digest_of : List ℕ → List ℕ
digest_of bytes = hexadecimal (sha256 bytes)
