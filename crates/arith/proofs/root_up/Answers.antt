-- `arith::root_up` meets its contract. Assumes nothing.
use Rattle.std.proofs.Common.{◌≡◌, ℕ, ◌+◌, ◌*◌, ◌≤◌, Bool, true, false, ltb, refl, arith}
use borrow.Author.Tests.{ltb-true, ltb-false}
use Rattle.arith.specs.Root.{root_up}
use Rattle.arith.proofs.Roots.{one_above_near, near_itself}
use Rattle.arith.proofs.root_up.Goals as goal

-- by the test of the square
near_or_next : (n near : ℕ) (t : Bool) → ltb (near * near) n ≡ t → n ≤ near * near + 2 * near + 1 → near * near + 2 ≤ n + 2 * near → near + mir.Val.bool_byte t ≡ root_up n
near_or_next n near true e a b = one_above_near n near (ltb-true _ _ e) a
near_or_next n near false e a b = let same = near_itself n near (ltb-false _ _ e) b in omega (arith, same)

pub returns-then-square-n : goal.returns-then-square-n
returns-then-square-n c = rw c.from.ensures (near_or_next _ _ _ refl c.if-n-square.true c.if-square-n.true)
