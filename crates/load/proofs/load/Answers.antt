-- `load::load` meets its contract. Assumes nothing.
use Rattle.std.proofs.Common.{◌∙◌, sym, refl, arith, rules, length-take}
use Rattle.std.proofs.lemmas.Result.{err_from_is_err_and}
use Rattle.load.proofs.Loading.{refused_loads, wrong_rows, runs_not_whole, run_count_within, first_run_within, rows_within, axes_refused, entries_refused, entries_written}
use Rattle.load.proofs.load.Goals as goal

pub returns-in_err-runs : goal.returns-in_err-runs
returns-in_err-runs c =
    let p = err_from_is_err_and c.from_residual.result c.from_residual.ensures.1 in
    rw (p.1, p.2) (refused_loads _ _ _ _ (wrong_rows _ _ _ c.in_err-runs.ensures) refl)

pub returns-then-not-whole_runs : goal.returns-then-not-whole_runs
returns-then-not-whole_runs c =
    let a = c.in_ok-runs.ensures in
    refused_loads _ _ _ _ (runs_not_whole _ _ _ a _ (sym (c.whole_runs.ensures a.rows a.counted) ∙ c.if-not-whole_runs.true)) refl

pub shared_ref_as_front-speeds : goal.shared_ref_as_front-speeds
shared_ref_as_front-speeds c =
    let a = c.in_ok-runs.ensures in
    let full = sym (c.whole_runs.ensures a.rows a.counted) ∙ c.if-not-whole_runs.false in
    (run_count_within _ _ _ a (search rules) full).1

pub shared_ref_as_front-torques : goal.shared_ref_as_front-torques
shared_ref_as_front-torques c =
    let a = c.in_ok-runs.ensures in
    let full = sym (c.whole_runs.ensures a.rows a.counted) ∙ c.if-not-whole_runs.false in
    (first_run_within _ _ _ a (search rules) full).1

pub grid_of-requires-clause-speeds : goal.grid_of-requires-clause-speeds
grid_of-requires-clause-speeds c =
    let a = c.in_ok-runs.ensures in
    let full = sym (c.whole_runs.ensures a.rows a.counted) ∙ c.if-not-whole_runs.false in
    let within = run_count_within _ _ _ a (search rules) full in
    let long = length-take c.in_ok-runs.runs.run_count c.in_ok-runs.runs.speeds in
    (omega (arith, long, within, a.counted.speed_places), omega (arith, long, within))

pub grid_of-requires-clause-torques : goal.grid_of-requires-clause-torques
grid_of-requires-clause-torques c =
    let a = c.in_ok-runs.ensures in
    let full = sym (c.whole_runs.ensures a.rows a.counted) ∙ c.if-not-whole_runs.false in
    let within = first_run_within _ _ _ a (search rules) full in
    let long = length-take c.in_ok-runs.runs.first_run c.in_ok-runs.runs.torques in
    (omega (arith, long, within, a.counted.torque_places), omega (arith, long, within))

pub returns-in_err-grid : goal.returns-in_err-grid
returns-in_err-grid c =
    let a = c.in_ok-runs.ensures in
    let full = sym (c.whole_runs.ensures a.rows a.counted) ∙ c.if-not-whole_runs.false in
    let p = err_from_is_err_and c.from_residual-in_err-grid.result c.from_residual-in_err-grid.ensures.1 in
    rw (p.1, p.2) (refused_loads _ _ _ _ (axes_refused _ _ _ a (search rules) full _ _ c.in_err-grid.ensures) refl)

pub slice_bounds-losses-end : goal.slice_bounds-losses-end
slice_bounds-losses-end c =
    let a = c.in_ok-runs.ensures in
    let full = sym (c.whole_runs.ensures a.rows a.counted) ∙ c.if-not-whole_runs.false in
    omega (arith, rows_within _ _ _ a (search rules) full)

pub slice_bounds-write_entries-end : goal.slice_bounds-write_entries-end
slice_bounds-write_entries-end c =
    let a = c.in_ok-runs.ensures in
    let full = sym (c.whole_runs.ensures a.rows a.counted) ∙ c.if-not-whole_runs.false in
    omega (arith, length-take c.in_ok-runs.runs.row_count c.read_rows.new.losses, rows_within _ _ _ a (search rules) full)

pub returns-in_err-write_entries : goal.returns-in_err-write_entries
returns-in_err-write_entries c =
    let a = c.in_ok-runs.ensures in
    let full = sym (c.whole_runs.ensures a.rows a.counted) ∙ c.if-not-whole_runs.false in
    let p = err_from_is_err_and c.from_residual-in_err-write_entries.result c.from_residual-in_err-write_entries.ensures.1 in
    rw (p.1, p.2) (entries_refused _ _ _ a (search rules) full _ c.in_ok-grid.ensures _ _ _ c.in_err-write_entries.ensures)

pub returns : goal.returns
returns c =
    let a = c.in_ok-runs.ensures in
    let full = sym (c.whole_runs.ensures a.rows a.counted) ∙ c.if-not-whole_runs.false in
    entries_written _ _ _ a (search rules) full _ c.in_ok-grid.ensures _ _ c.in_ok-write_entries.ensures
