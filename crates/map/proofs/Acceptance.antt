-- A build is accepted exactly when no refusal applies: the statements of specs/Acceptance. Assumes nothing.
use Prim.Native.Nat.{ℕ, ◌<◌}
use mathlib.Core.Path.{◌≡◌, refl, sym}
use mathlib.Core.Logic.{⊎_elim}
use native.Mathlib.Omega.{arith}
use borrow.Author.Tests.{leb-true, leb-false, le-leb, lt-leb}
use lib.Dec.{leb}
use lib.ListN.{length}
use Rattle.refusal.specs.Outcome.{Told, accepted, refused}
use Rattle.refusal.proofs.Steps.{never, same_value, then_accepted, then_refused, test_accepted, test_refused, placed_accepted}
use Rattle.refusal.proofs.First.{first_all, first_of, first_refused, first_found}
use Rattle.component.specs.Component.{Component, Kind, standard, measured, component}
use Rattle.layout.proofs.Theorems.{sound, complete, refused_means, refused_only_then}
use Rattle.map.specs.Build.{points, torque_count, check, check_of_kind, speed_check, rows_check, map_of, build}
use Rattle.rows.proofs.Acceptance.{row_right, row_accepted, row_wrong, row_refused}
use Rattle.map.specs.Acceptance.{PointRules, PointFault, AllRowsRight, FirstWrongRow, map_of_numbers, Sound, Complete, in_data, too_few, in_row, Refused, RefusedOnlyThen}

-- ---- the row of a point
kind_right : (c : Component) (kind : Kind) (i j : ℕ) → check_of_kind c i j kind ≡ accepted tt → PointRules c i j kind
unfolding check_of_kind
kind_right c standard i j e = tt
kind_right c (measured input outputs rows) i j e = row_right _ _ (placed_accepted _ _ tt e)

kind_accepted : (c : Component) (kind : Kind) (i j : ℕ) → PointRules c i j kind → check_of_kind c i j kind ≡ accepted tt
unfolding check_of_kind
kind_accepted c standard i j r = refl
kind_accepted c (measured input outputs rows) i j r = rw (row_accepted _ _ r)

kind_wrong : (c : Component) (kind : Kind) (i j : ℕ) (told : Told) → check_of_kind c i j kind ≡ refused told → PointFault c i j kind told
unfolding check_of_kind
kind_wrong c standard i j told e = never told tt (sym e)
kind_wrong c (measured input outputs rows) i j told e = row_wrong _ _ _ told e

kind_refused : (c : Component) (kind : Kind) (i j : ℕ) (told : Told) → PointFault c i j kind told → check_of_kind c i j kind ≡ refused told
unfolding check_of_kind
kind_refused c standard i j told f = absurd f
kind_refused c (measured input outputs rows) i j told f = row_refused _ _ _ told f

-- ---- all rows
speed_right : (c : Component) (i : ℕ) → speed_check c i ≡ accepted tt → (j : ℕ) → j < torque_count c → PointRules c i j c.kind
unfolding speed_check check
speed_right c i e j h = kind_right c c.kind i j (first_all _ 0 (torque_count c) e j (omega arith) (omega arith))

pub rows_right : (c : Component) → rows_check c ≡ accepted tt → AllRowsRight c
unfolding rows_check
rows_right c e i j h l = speed_right c i (first_all (speed_check c) 0 (length c.speeds) e i (omega arith) (omega arith)) j l

pub rows_accepted : (c : Component) → AllRowsRight c → rows_check c ≡ accepted tt
unfolding rows_check speed_check check
rows_accepted c r = first_of _ (length c.speeds) (λ i h. first_of _ (torque_count c) (λ j l. kind_accepted c c.kind i j (r i j h l)))

pub rows_wrong : (c : Component) (told : Told) → rows_check c ≡ refused told → FirstWrongRow c told
unfolding rows_check speed_check check
rows_wrong c told e =
    let s = first_found (speed_check c) 0 (length c.speeds) told e in
    let w = first_found (check c s.at) 0 (torque_count c) told s.here in
    record {
      speed = s.at;
      torque = w.at;
      speed_in = omega (arith, s.below);
      torque_in = omega (arith, w.below);
      earlier_speeds = λ i j h l. speed_right c i (s.passed i (omega arith) h) j l;
      earlier_torques = λ j h. kind_right c c.kind s.at j (w.passed j (omega arith) h);
      wrong = kind_wrong c c.kind s.at w.at told w.here;
    }

pub rows_refused : (c : Component) (told : Told) → FirstWrongRow c told → rows_check c ≡ refused told
unfolding rows_check speed_check check
rows_refused c told w =
    first_refused _ (length c.speeds) w.speed told w.speed_in
    (λ i h. first_of _ (torque_count c) (λ j l. kind_accepted c c.kind i j (w.earlier_speeds i j h l)))
    (first_refused _ (torque_count c) w.torque told w.torque_in (λ j h. kind_accepted c c.kind w.speed j (w.earlier_torques j h))
    (kind_refused c c.kind w.speed w.torque told w.wrong))

-- ---- the build
pub build_sound : Sound
unfolding build map_of
build_sound bytes lent m are_bytes e =
    let a = then_accepted (component bytes) _ m e in
    let c = a.0 in
    let b = test_accepted (leb (points c) lent) 11 (points c) _ m a.2 in
    let d = then_accepted (rows_check c) _ m b.1 in
    let s = sound bytes c are_bytes a.1 in
    (c, record { rules = s.0; laid_out = s.1; room = leb-true _ _ b.0; rows = rows_right c d.1 }, sym (same_value (map_of_numbers c) m d.2))

pub build_complete : Complete
unfolding build map_of
build_complete bytes lent c a =
    let read : component bytes ≡ accepted c = rw a.laid_out at (complete c a.rules) in
    rw (read, le-leb _ _ a.room, rows_accepted c a.rows)

pub build_refused : Refused
unfolding build map_of
build_refused bytes lent told are_bytes e =
    ⊎_elim
    (λ h. in_data (refused_means bytes told are_bytes h))
    (λ h.
    let c = h.0 in
    let s = sound bytes c are_bytes h.1 in
    ⊎_elim
    (λ b. too_few c s.0 s.1 (leb-false _ _ b.0) b.1)
    (λ b.
    ⊎_elim
    (λ w. in_row c s.0 s.1 (leb-true _ _ b.0) (rows_wrong c told w))
    (λ w. never told (map_of_numbers c) (sym w.2))
    (then_refused (rows_check c) _ told b.1))
    (test_refused (leb (points c) lent) 11 (points c) _ told h.2))
    (then_refused (component bytes) _ told e)

pub build_refused_only_then : RefusedOnlyThen
unfolding build map_of
build_refused_only_then bytes lent told (in_data f) = rw (refused_only_then bytes told f)
build_refused_only_then bytes lent told (too_few c rules laid few e) =
    let read : component bytes ≡ accepted c = rw laid at (complete c rules) in
    rw (e, read, lt-leb _ _ few)
build_refused_only_then bytes lent told (in_row c rules laid room w) =
    let read : component bytes ≡ accepted c = rw laid at (complete c rules) in
    rw (read, le-leb _ _ room, rows_refused c told w)
