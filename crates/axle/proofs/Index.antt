-- What C is told of an index loses nothing: 0 never stands for none. Assumes nothing.
use Rattle.std.proofs.Common.{ℕ, ◌≡◌, refl}
use Rattle.std.specs.Prelude.{Option, Some, None, eqb, if◌then◌else◌}
use Rattle.axle.specs.Interface.{has_index, index_or_zero}

-- the index that the two numbers say
abbrev index_said : (has index : ℕ) → Option ℕ
index_said has index = if eqb has 0 then None else Some index

pub index_told : (o : Option ℕ) → index_said (has_index o) (index_or_zero o) ≡ o
index_told None = refl
index_told (Some i) = refl
