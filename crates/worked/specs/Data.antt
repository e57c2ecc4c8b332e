-- The data files of examples/, byte by byte, a line for each field and each row.
use Rattle.std.specs.Prelude.{ℕ, List, [], ◌∷◌}

-- standard.axle, document 01's example of "The map program": SR at ratio 3.000, speeds 100 and 200, torques 0 and 1,000
abbrev pub standard_data : List ℕ
standard_data =
    1 ∷ 0 ∷ 1 ∷ 1
    ∷ 2 ∷ 0 ∷ 1 ∷ 1
    ∷ 3 ∷ 0 ∷ 2 ∷ 0x0B ∷ 0xB8
    ∷ 4 ∷ 0 ∷ 4 ∷ 0 ∷ 0x64 ∷ 0 ∷ 0xC8
    ∷ 5 ∷ 0 ∷ 4 ∷ 0 ∷ 0 ∷ 3 ∷ 0xE8
    ∷ []

-- measured.axle: ratio 3.000, speeds 100 and 200, torques 1,000 and 3,000; sensors of 10,000 Nm and 40,000 Nm, each with c 100, k 1,000 and no other influence
abbrev pub measured_data : List ℕ
measured_data =
    1 ∷ 0 ∷ 1 ∷ 2
    ∷ 2 ∷ 0 ∷ 1 ∷ 1
    ∷ 3 ∷ 0 ∷ 2 ∷ 0x0B ∷ 0xB8
    ∷ 4 ∷ 0 ∷ 4 ∷ 0 ∷ 0x64 ∷ 0 ∷ 0xC8
    ∷ 5 ∷ 0 ∷ 4 ∷ 3 ∷ 0xE8 ∷ 0x0B ∷ 0xB8
    ∷ 6 ∷ 0 ∷ 0x12 ∷ 0x27 ∷ 0x10 ∷ 0 ∷ 0 ∷ 0 ∷ 0 ∷ 0 ∷ 0x64 ∷ 3 ∷ 0xE8 ∷ 0 ∷ 0 ∷ 0 ∷ 0 ∷ 0 ∷ 0 ∷ 0 ∷ 0x0A
    ∷ 7 ∷ 0 ∷ 0x12 ∷ 0x9C ∷ 0x40 ∷ 0 ∷ 0 ∷ 0 ∷ 0 ∷ 0 ∷ 0x64 ∷ 3 ∷ 0xE8 ∷ 0 ∷ 0 ∷ 0 ∷ 0 ∷ 0 ∷ 0 ∷ 0 ∷ 0x0A
    ∷ 8 ∷ 0 ∷ 0x20
    ∷ 0 ∷ 0 ∷ 0x84 ∷ 0xD0 ∷ 0 ∷ 1 ∷ 0x86 ∷ 0xA0
    ∷ 0 ∷ 1 ∷ 0xAD ∷ 0xB0 ∷ 0 ∷ 4 ∷ 0x93 ∷ 0xE0
    ∷ 0 ∷ 0 ∷ 0x84 ∷ 0xD0 ∷ 0 ∷ 1 ∷ 0x86 ∷ 0xA0
    ∷ 0 ∷ 1 ∷ 0xAD ∷ 0xB0 ∷ 0 ∷ 4 ∷ 0x93 ∷ 0xE0
    ∷ []

-- half-shafts.axle: the same axes and ratio with an output sensor on each half shaft, 30,000 Nm left and 15,000 Nm right; a row is input, left and right
abbrev pub half_shafts_data : List ℕ
half_shafts_data =
    1 ∷ 0 ∷ 1 ∷ 3
    ∷ 2 ∷ 0 ∷ 1 ∷ 1
    ∷ 3 ∷ 0 ∷ 2 ∷ 0x0B ∷ 0xB8
    ∷ 4 ∷ 0 ∷ 4 ∷ 0 ∷ 0x64 ∷ 0 ∷ 0xC8
    ∷ 5 ∷ 0 ∷ 4 ∷ 3 ∷ 0xE8 ∷ 0x0B ∷ 0xB8
    ∷ 6 ∷ 0 ∷ 0x12 ∷ 0x27 ∷ 0x10 ∷ 0 ∷ 0 ∷ 0 ∷ 0 ∷ 0 ∷ 0x64 ∷ 3 ∷ 0xE8 ∷ 0 ∷ 0 ∷ 0 ∷ 0 ∷ 0 ∷ 0 ∷ 0 ∷ 0x0A
    ∷ 7 ∷ 0 ∷ 0x12 ∷ 0x75 ∷ 0x30 ∷ 0 ∷ 0 ∷ 0 ∷ 0 ∷ 0 ∷ 0x64 ∷ 3 ∷ 0xE8 ∷ 0 ∷ 0 ∷ 0 ∷ 0 ∷ 0 ∷ 0 ∷ 0 ∷ 0x0A
    ∷ 9 ∷ 0 ∷ 0x12 ∷ 0x3A ∷ 0x98 ∷ 0 ∷ 0 ∷ 0 ∷ 0 ∷ 0 ∷ 0x64 ∷ 3 ∷ 0xE8 ∷ 0 ∷ 0 ∷ 0 ∷ 0 ∷ 0 ∷ 0 ∷ 0 ∷ 0x0A
    ∷ 0x0A ∷ 0 ∷ 0x30
    ∷ 0 ∷ 0 ∷ 0x84 ∷ 0xD0 ∷ 0 ∷ 0 ∷ 0xEA ∷ 0x60 ∷ 0 ∷ 0 ∷ 0x9C ∷ 0x40
    ∷ 0 ∷ 1 ∷ 0x8E ∷ 0x70 ∷ 0 ∷ 3 ∷ 0x0D ∷ 0x40 ∷ 0 ∷ 1 ∷ 0x86 ∷ 0xA0
    ∷ 0 ∷ 0 ∷ 0x86 ∷ 0xC4 ∷ 0 ∷ 0 ∷ 0x88 ∷ 0xB8 ∷ 0 ∷ 0 ∷ 0xFE ∷ 0xB0
    ∷ 0 ∷ 1 ∷ 0xAD ∷ 0xB0 ∷ 0 ∷ 1 ∷ 0xD4 ∷ 0xC0 ∷ 0 ∷ 2 ∷ 0xBF ∷ 0x20
    ∷ []

-- refused.axle: measured.axle with an input torque of 999.99 Nm in the second and the fourth row, whose loss is under zero
abbrev pub refused_data : List ℕ
refused_data =
    1 ∷ 0 ∷ 1 ∷ 2
    ∷ 2 ∷ 0 ∷ 1 ∷ 1
    ∷ 3 ∷ 0 ∷ 2 ∷ 0x0B ∷ 0xB8
    ∷ 4 ∷ 0 ∷ 4 ∷ 0 ∷ 0x64 ∷ 0 ∷ 0xC8
    ∷ 5 ∷ 0 ∷ 4 ∷ 3 ∷ 0xE8 ∷ 0x0B ∷ 0xB8
    ∷ 6 ∷ 0 ∷ 0x12 ∷ 0x27 ∷ 0x10 ∷ 0 ∷ 0 ∷ 0 ∷ 0 ∷ 0 ∷ 0x64 ∷ 3 ∷ 0xE8 ∷ 0 ∷ 0 ∷ 0 ∷ 0 ∷ 0 ∷ 0 ∷ 0 ∷ 0x0A
    ∷ 7 ∷ 0 ∷ 0x12 ∷ 0x9C ∷ 0x40 ∷ 0 ∷ 0 ∷ 0 ∷ 0 ∷ 0 ∷ 0x64 ∷ 3 ∷ 0xE8 ∷ 0 ∷ 0 ∷ 0 ∷ 0 ∷ 0 ∷ 0 ∷ 0 ∷ 0x0A
    ∷ 8 ∷ 0 ∷ 0x20
    ∷ 0 ∷ 0 ∷ 0x84 ∷ 0xD0 ∷ 0 ∷ 1 ∷ 0x86 ∷ 0xA0
    ∷ 0 ∷ 1 ∷ 0x86 ∷ 0x9F ∷ 0 ∷ 4 ∷ 0x93 ∷ 0xE0
    ∷ 0 ∷ 0 ∷ 0x84 ∷ 0xD0 ∷ 0 ∷ 1 ∷ 0x86 ∷ 0xA0
    ∷ 0 ∷ 1 ∷ 0x86 ∷ 0x9F ∷ 0 ∷ 4 ∷ 0x93 ∷ 0xE0
    ∷ []
