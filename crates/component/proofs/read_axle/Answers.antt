-- `component::read_axle` meets its contract: a number in the range of tag 1 has a kind. Assumes nothing.
use Rattle.std.proofs.lemmas.Bool.{some_since}
use Rattle.grid.proofs.AxisLaws.{not_in_range}
use Rattle.component.proofs.read_axle.Goals as goal

pub unwrap-requires : goal.unwrap-requires
unwrap-requires c = some_since _ _ _ c.from_number.ensures (λ outside. not_in_range _ _ outside c.in_ok-kind.ensures.in_range)
