-- A grid from its parts: the numbers of each axis and their count.
use Rattle.std.specs.Prelude.{ℕ, List}
use Rattle.grid.specs.declared.Grid.{Grid}

abbrev pub grid_of : (speeds : List ℕ) (speed_count : ℕ) (torques : List ℕ) (torque_count : ℕ) → Grid
grid_of speeds speed_count torques torque_count =
    record {
      speeds = record { numbers = speeds; count = speed_count };
      torques = record { numbers = torques; count = torque_count };
    }
