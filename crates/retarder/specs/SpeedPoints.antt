-- Document 02, C-17, with source document 002, 5.1.6.2.1: the speed points of a retarder that is tested as a stand-alone unit.
use Rattle.std.specs.Prelude.{ℕ, ◌+◌, ◌*◌, true, List, [], ◌∷◌, ◌≡◌, refl, ltb, get_or}
use Rattle.grid.specs.Every.{every}

-- in rpm
abbrev pub speed_points : List ℕ
speed_points =
    200
    ∷ 400
    ∷ 600
    ∷ 900
    ∷ 1200
    ∷ 1600
    ∷ 2000
    ∷ 2500
    ∷ 3000
    ∷ 3500
    ∷ 4000
    ∷ 4500
    ∷ 5000
    ∷ []

-- each is above the one before, tested once over all
pub speed_points_rise : every (λ i. ltb (get_or speed_points i 0) (get_or speed_points (i + 1) 0)) 12 ≡ true
unfolding every
speed_points_rise = refl

-- a retarder speed is in ten-thousandths of rpm
abbrev pub units_per_rpm : ℕ
units_per_rpm = 10000

-- speed point i, from 0, as a retarder speed
abbrev pub speed_point : (i : ℕ) → ℕ
speed_point i = units_per_rpm * get_or speed_points i 0
