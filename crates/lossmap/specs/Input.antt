-- What reading the input promises, and what is made of it.
use Rattle.std.specs.Prelude.{◌≡◌, ℕ, List, take, ⊤, Option, Some, None}
use Rattle.report.specs.Report.{ProgramWrites}

-- What was read of an input whose bytes are known: all of them, or as many as there is room for. So a read that fails is not taken for the end.
abbrev pub IsInput : Option (List ℕ) → (room : ℕ) → List ℕ → Type 0
IsInput None room read = ⊤
IsInput (Some bytes) room read = read ≡ take room bytes

-- What is made of an input whose bytes are known: what the program writes for the first 32,768 of them.
abbrev pub Outputs : Option (List ℕ) → (entries_before entries_after text_before text_after : List ℕ) → ℕ → Type 0
Outputs None entries_before entries_after text_before text_after n = ⊤
Outputs (Some bytes) entries_before entries_after text_before text_after n = ProgramWrites (take 32768 bytes) entries_before entries_after text_before text_after n
