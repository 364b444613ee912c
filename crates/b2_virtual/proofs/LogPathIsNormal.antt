-- The path of the log is in normal form, and is neither the folder itself nor the root.
use Rattle.std.proofs.Common.{◌≢◌, [], ◌∷◌, codes, false, refl, arith}
use Rattle.b2_base.specs.Normal.{IsName, IsNormal}
use Rattle.b2_host.specs.FileCalls.{log_path}

name_bin : IsName (codes "bin")
name_bin = record { shown = refl; name = refl; whole = ((λ e. absurd (omega (arith, e))), ((λ e. absurd (omega (arith, e))), ((λ e. absurd (omega (arith, e))), tt))) }

name_log : IsName (codes "b2.log")
name_log = record { shown = refl; name = refl; whole = ((λ e. absurd (omega (arith, e))), ((λ e. absurd (omega (arith, e))), ((λ e. absurd (omega (arith, e))), ((λ e. absurd (omega (arith, e))), ((λ e. absurd (omega (arith, e))), ((λ e. absurd (omega (arith, e))), tt)))))) }

pub normal_log : IsNormal log_path
normal_log = record { rooted = false; ups = 0; names = codes "bin" ∷ codes "b2.log" ∷ []; text_is = refl; at_root = λ _. refl; each = (name_bin, (name_log, tt)) }

pub log_not_here : log_path ≢ codes "."
log_not_here e = cc

pub log_not_root : log_path ≢ codes "/"
log_not_root e = cc
