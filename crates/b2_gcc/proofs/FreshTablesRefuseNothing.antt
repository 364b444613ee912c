-- Features, types and generators of the toolset are all taken where nothing else was declared, found by evaluation.
use Rattle.std.proofs.Common.{◌≡◌, false, [], None, refl}
use Rattle.b2_gcc.specs.Tables.{features, composites, file_types, generators}
use Rattle.b2_gcc.specs.TableDeclarations.{toolset_fault, are_types_refused, are_generators_refused}

-- nothing of the toolset is refused where nothing else is there

pub features_fresh : toolset_fault [] ≡ None
unfolding features composites
features_fresh = refl

pub types_fresh : are_types_refused [] file_types ≡ false
unfolding file_types
types_fresh = refl

pub generators_fresh : are_generators_refused (record { types = file_types; generators = [] }) generators ≡ false
unfolding file_types generators
generators_fresh = refl
