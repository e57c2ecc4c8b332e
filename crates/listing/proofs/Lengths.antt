-- How long the texts are. Assumes nothing.
use Prim.Native.Nat.{ℕ, zero, suc, ◌+◌, ◌*◌, ◌/◌, ◌≤◌, ◌<◌}
use mathlib.Core.Path.{◌≡◌}
use mathlib.Core.Bool.{true}
use mathlib.Core.List.{List}
use native.Mathlib.Nat.{suc-mul, mul-le-mul}
use native.Mathlib.Omega.{arith}
use lib.ListN.{length, get_or, length-append}
use Rattle.refusal.specs.Outcome.{Told}
use Rattle.grid.proofs.Points.{row_within}
use Rattle.grid.specs.declared.Grid.{Grid}
use Rattle.grid.specs.Map.{valid_map}
use Rattle.grid.proofs.Map.{map_facts}
use Rattle.listing.specs.Listing.{header, line, row, rows, line_at, row_of_speed, listing, refusal_line}
use Rattle.buffer.specs.Digits.{decimal, hundredths}
use Rattle.grid.specs.Lists.{joined}
use Rattle.buffer.proofs.Digits.{length_decimal, count_most, length_hundredths}

pub length_line : (speed torque loss : ℕ) → length (line speed torque loss) ≡ length (decimal speed) + length (decimal torque) + length (hundredths loss) + 3
unfolding line
length_line speed torque loss = simp length-append (omega arith)

pub length_listing : (grid : Grid) (entries : List ℕ) → length (listing grid entries) ≡ 18 + length (rows grid.speeds.numbers grid.speeds.count grid.torques.numbers grid.torques.count entries)
unfolding listing header
length_listing grid entries = simp length-append (omega arith)

pub length_refusal_line : (t : Told) → length (refusal_line t) ≡ 13 + length (decimal t.number) + length (decimal t.place)
unfolding refusal_line
length_refusal_line t = simp length-append (omega arith)

-- ---- the longest
pub joined_most : (text : ℕ → List ℕ) (most count : ℕ) → ((j : ℕ) → j < count → length (text j) ≤ most) → length (joined text count) ≤ count * most
unfolding joined
joined_most text most zero h = omega arith
joined_most text most (suc count) h =
    simp (length-append, suc-mul) (omega (arith, joined_most text most count (λ j l. h j (omega arith)), h count (omega arith)))

-- `3000,50000,100000.00` and a line feed
pub line_most : (speed torque loss : ℕ) → speed ≤ 3000 → torque ≤ 50000 → loss ≤ 10000000 → length (line speed torque loss) ≤ 21
line_most speed torque loss a b d =
    let s = count_most 3 speed (omega arith) in
    let t = count_most 4 torque (omega arith) in
    let e = count_most 5 (loss / 100) (omega arith) in
    omega (arith, length_line speed torque loss, length_hundredths loss, length_decimal speed, length_decimal torque)

-- the listing of a map takes at most 43,026 bytes
pub listing_most : (grid : Grid) (entries : List ℕ) → valid_map grid entries ≡ true → length (listing grid entries) ≤ 43026
unfolding rows row
listing_most grid entries e =
    let map = map_facts grid entries e in
    let speeds = grid.speeds.numbers in
    let torques = grid.torques.numbers in
    let m = grid.speeds.count in
    let n = grid.torques.count in
    let each : (i : ℕ) → i < m → (j : ℕ) → j < n → length (line_at (get_or speeds i 0) torques entries (i * n) j) ≤ 21 =
    λ i h j l. line_most _ _ _ (map.axes.speeds.ranges i h).1 (map.axes.torques.ranges j l).1 (map.small (i * n + j) (omega (arith, row_within i m n h))) in
    let all : length (joined (row_of_speed speeds torques n entries) m) ≤ m * (n * 21) =
    joined_most (row_of_speed speeds torques n entries) (n * 21) m (λ i h. joined_most (line_at (get_or speeds i 0) torques entries (i * n)) 21 n (each i h)) in
    let widest : n * 21 ≤ 1344 = omega (arith, map.axes.torques.at_most) in
    omega (arith, length_listing grid entries, all, mul-le-mul map.axes.speeds.at_most widest)
