-- What is made of what was read is made of the input. Assumes nothing.
use Rattle.std.proofs.Common.{ℕ, List, take, Option, Some, None}
use Rattle.std.proofs.lemmas.List.{take-take}
use native.Mathlib.Omega.{arith}
use Rattle.report.specs.Report.{ProgramWrites}
use Rattle.lossmap.specs.Input.{IsInput, Outputs}

pub made_of_input : (bytes : Option (List ℕ)) (read entries_before entries_after text_before text_after : List ℕ) (n : ℕ)
    → IsInput bytes 32768 read → ProgramWrites (take 32768 read) entries_before entries_after text_before text_after n
    → Outputs bytes entries_before entries_after text_before text_after n
made_of_input None read entries_before entries_after text_before text_after n is writes = tt
made_of_input (Some bytes) read entries_before entries_after text_before text_after n is writes =
    rw (← take-take 32768 32768 bytes (omega arith), ← is) writes
