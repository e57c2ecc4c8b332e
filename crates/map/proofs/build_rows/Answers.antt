-- `map::build_rows` meets its contract. Assumes nothing.
use Rattle.std.proofs.Common.{◌≡◌, ◌+◌, ◌*◌, refl, rules, arith}
use native.Mathlib.Nat.{zero-mul}
use Rattle.grid.proofs.Filling.{none_joined, one_joined}
use Rattle.map.proofs.Copying.{stretch_size, stretch_is}
use Rattle.map.proofs.build_rows.Goals as goal

pub loop-speed-init : goal.loop-speed-init
loop-speed-init c = rw zero-mul (none_joined _ _ _ _ (stretch_size _ _ _ _ c.requires.from) _)

pub loop-speed-preserved : goal.loop-speed-preserved
loop-speed-preserved c =
    let next : (c.loop-speed.speed + 1) * c.args.size ≡ c.loop-speed.speed * c.args.size + c.args.size = omega arith in
    let written = rw (stretch_is c.args.from.now c.args.step c.args.size _ c.loop-speed.speed refl) at c.build_row.ensures in
    rw next (one_joined _ _ _ _ (stretch_size _ _ _ _ c.requires.from) _ _ _ _ c.loop-speed.invariant c.loop-speed-test.true refl _ written (search rules))
