-- Exact entries and two fractions around each, less than a millionth of a hundredth of Nm apart. The fractions are what `reference/exact-entries` prints: they come from the second implementation and not from these definitions.
use Rattle.std.specs.Prelude.{ℕ, List, [], ◌∷◌}
use Rattle.arith.specs.Fraction.{◌over◌}
use Rattle.sensor.specs.declared.Sensor.{Sensor}
use Rattle.loss.specs.Measured.{Output}
use Rattle.loss.specs.Exact.{Exact, cut, exact_standard, exact_measured}

-- the exact entry lies between low and high, in ten-millionths of a hundredth of Nm
pub record ExactCase : Type 0 where
  pub exact : Exact
  pub low : ℕ
  pub high : ℕ

abbrev pub Bracketed : ExactCase → Type 0
Bracketed c = (cut c.exact).AtOrBelow (c.low over 10000000) × (cut c.exact).AtOrAbove (c.high over 10000000)

abbrev pub AllBracketed : List ExactCase → Type 0
AllBracketed [] = Unit {0}
AllBracketed (c ∷ cs) = Bracketed c × AllBracketed cs

-- N, w, z, c, k, s, p, d and R, as tags 6, 7 and 9 have them
abbrev pub sensor : (N w z c k s p d R : ℕ) → Sensor
sensor N w z c k s p d R = record {
  nominal = N;
  sensitivity = w;
  zero = z;
  calibration = c;
  advancement = k;
  parasitic = s;
  share = p;
  difference = d;
  span = R;
}

-- with c 100 and k 1,000 alone
abbrev pub calibrated : ℕ → Sensor
calibrated N = sensor N 0 0 100 1000 0 0 0 10

-- an output sensor and its torque
abbrev pub measured_output : Sensor → ℕ → Output
measured_output sensor torque = record { sensor = sensor; torque = torque }

abbrev pub measured_case : (ratio : ℕ) (input_sensor : Sensor) (input : ℕ) (outputs : List Output) (low high : ℕ) → ExactCase
measured_case ratio input_sensor input outputs low high =
    record { exact = exact_measured (record { ratio = ratio; sensor = input_sensor; input = input; outputs = outputs }); low = low; high = high }

abbrev pub standard_case : (line ratio torque low high : ℕ) → ExactCase
standard_case line ratio torque low high = record { exact = exact_standard line ratio torque; low = low; high = high }

-- Rows with every influence of every sensor at work and no part a whole number of grains. With one output the root is above an allowance of 1 Nm times
-- the ratio (the first three) and of 5 % (the next two), and below it in the sixth; with two outputs above the first (two), above 5 % (two) and below (one).
-- Then two standard losses of each line, none a whole number of hundredths. Then those of document 01, "Reckoned by hand", with the allowance of
-- document 02, C-13, whose exact entries are whole, and one with two outputs whose root is.
abbrev pub exact_cases : List ExactCase
exact_cases =
    measured_case 1637 (sensor 2909 603 328 2331 6236 704 596 286 84) 174285 (measured_output (sensor 3201 512 415 1658 4441 2609 264 368 47) 284363 ∷ []) 13626605310 13626605311
    ∷ measured_case 3083 (sensor 1984 688 176 2529 7026 2126 87 259 58) 177826 (measured_output (sensor 8124 971 811 198 1899 418 376 221 73) 546965 ∷ []) 15886175248 15886175249
    ∷ measured_case 7219 (sensor 4568 443 82 278 6139 276 238 211 35) 269803 (measured_output (sensor 22156 617 137 283 3819 611 315 366 89) 1946113 ∷ []) 19883568255 19883568256
    ∷ measured_case 2731 (sensor 3085 139 598 2367 6579 1309 419 397 15) 273252 (measured_output (sensor 9639 936 366 427 1066 1506 436 166 38) 731985 ∷ []) 156517179731 156517179732
    ∷ measured_case 4571 (sensor 3497 283 904 2306 6204 1474 404 244 27) 263742 (measured_output (sensor 21179 426 497 1298 4769 1821 488 327 45) 1182409 ∷ []) 254665272858 254665272859
    ∷ measured_case 13367 (sensor 2666 958 737 638 6056 205 365 157 51) 237724 (measured_output (sensor 35147 264 358 444 6799 412 615 85 44) 3125992 ∷ []) 516647080000 516647080000
    ∷ measured_case 1483 (sensor 3076 335 83 2007 5284 2417 171 404 25) 184198 (measured_output (sensor 1808 6994 7484 2563 5072 1774 457 71 54) 119694 ∷ measured_output (sensor 2639 812 1628 979 1345 1353 307 364 92) 152171 ∷ []) 18785187972 18785187973
    ∷ measured_case 5279 (sensor 3226 282 126 1016 5315 468 293 149 13) 173273 (measured_output (sensor 6296 6234 2029 359 2034 452 493 106 76) 390851 ∷ measured_output (sensor 9682 633 299 819 5365 661 305 228 68) 522156 ∷ []) 22376368282 22376368283
    ∷ measured_case 3275 (sensor 3554 256 161 834 4008 119 712 441 33) 244606 (measured_output (sensor 6806 884 918 2221 5421 411 712 107 36) 478624 ∷ measured_output (sensor 5855 892 471 2057 4449 1653 343 298 54) 311825 ∷ []) 112720686948 112720686949
    ∷ measured_case 9767 (sensor 2292 687 424 1631 5223 342 513 356 75) 177412 (measured_output (sensor 14762 345 167 3825 7996 714 423 368 28) 759273 ∷ measured_output (sensor 10084 435 1125 705 1998 1686 276 163 43) 949174 ∷ []) 256674725887 256674725888
    ∷ measured_case 14629 (sensor 3129 175 257 246 3611 156 688 205 57) 234605 (measured_output (sensor 19126 2768 1245 2071 6922 427 397 186 97) 1235207 ∷ measured_output (sensor 26945 533 302 1575 7281 678 218 271 52) 2141826 ∷ []) 550035450000 550035450000
    ∷ standard_case 1 2641 613 135330204081 135330204082
    ∷ standard_case 1 13859 41387 1191812653061 1191812653062
    ∷ standard_case 2 1379 2749 222121666666 222121666667
    ∷ standard_case 2 5739 19211 995238333333 995238333334
    ∷ standard_case 3 3087 7351 448031666666 448031666667
    ∷ standard_case 3 9463 33497 1664968333333 1664968333334
    ∷ standard_case 4 4113 953 181734226804 181734226805
    ∷ standard_case 4 17923 26731 1255191958762 1255191958763
    ∷ standard_case 5 6281 4787 467567368421 467567368422
    ∷ standard_case 5 7517 48731 2805129473684 2805129473685
    ∷ measured_case 3000 (calibrated 10000) 110000 (measured_output (calibrated 40000) 300000 ∷ []) 300000000000 300000000000
    ∷ measured_case 3000 (calibrated 10000) 102000 (measured_output (calibrated 40000) 300000 ∷ []) 67000000000 67000000000
    ∷ measured_case 3000 (calibrated 10000) 100000 (measured_output (calibrated 40000) 300000 ∷ []) 7000000000 7000000000
    ∷ measured_case 3000 (calibrated 10000) 102000 (measured_output (calibrated 30000) 200000 ∷ measured_output (calibrated 15000) 100000 ∷ []) 66000000000 66000000000
    ∷ []
