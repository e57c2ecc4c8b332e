-- `component::rows_length` meets its contract: the product fits 64 bits. Assumes nothing.
use Rattle.std.proofs.Common.{◌*◌, ◌≤◌, arith, refl}
use Rattle.std.proofs.Math.Nat.{mul-le-mul}
use Rattle.component.proofs.rows_length.Goals as goal

pub overflow_mul-result-2 : goal.overflow_mul-result-2
overflow_mul-result-2 c =
    let few : 4 * c.number.result ≤ 4 * 65535 = omega arith in
    rw c.from.ensures (omega (arith, mul-le-mul few c.requires))

pub returns : goal.returns
returns c = rw (c.from.ensures, c.number.ensures) refl
