-- Standard entries are never above 10,000,000. Assumes nothing.
use Prim.Native.Nat.{ℕ, ◌+◌, ◌-◌, ◌*◌, ◌≤◌, ◌<◌}
use native.Mathlib.Omega.{arith}
use native.Mathlib.Nat.{mul-le-mul, le_refl}
use mathlib.Core.Path.{refl}
use Rattle.arith.specs.Quotient.{quotient_up_law, quotient_up_least}
use Rattle.loss.specs.Standard.{line_of, standard_entry}
use Rattle.loss.proofs.Lines.{line_facts}
use Rattle.loss.proofs.Values.{standard_entry_is}

bounded : (e t0 r ratio torque : ℕ) → 95 ≤ e → e ≤ 98 → t0 ≤ 90 → r ≤ 5 → ratio ≤ 20000 → torque ≤ 50000 → e * t0 * 1000 + e * 20 * ratio + 1000 * r * torque ≤ 10000000 * (10 * e)
bounded e t0 r ratio torque a b c d f g =
    omega (arith, mul-le-mul b c, mul-le-mul (mul-le-mul b (le_refl 20)) f, mul-le-mul (mul-le-mul (le_refl 1000) d) g)

pub standard_most : (number ratio torque : ℕ) → 1 ≤ number → number ≤ 5 → ratio ≤ 20000 → torque ≤ 50000 → standard_entry number ratio torque ≤ 10000000
standard_most number ratio torque h k f g =
    let l = line_of number in
    let facts = line_facts number h k in
    let some : 0 < l.efficiency = omega (arith, facts.lowest) in
    let ten : 0 < 10 * l.efficiency = omega arith in
    rw (standard_entry_is number ratio torque l refl some, facts.always)
    (quotient_up_least (quotient_up_law _ (10 * l.efficiency) ten) 10000000
    (bounded l.efficiency l.t0 (100 - l.efficiency) ratio torque facts.lowest facts.highest facts.drag (omega (arith, facts.lowest)) f g))
