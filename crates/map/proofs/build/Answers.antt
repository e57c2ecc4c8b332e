-- `map::build` meets its contract. Assumes nothing.
use Rattle.std.proofs.Common.{sym}
use Rattle.std.proofs.lemmas.Result.{err_from_is_err_and}
use Rattle.layout.proofs.Theorems.{sound}
use Rattle.map.proofs.ReadData.{read_refused, built_refused, built}
use Rattle.map.proofs.build.Goals as goal

pub returns-in_err-component : goal.returns-in_err-component
returns-in_err-component c =
    let p = err_from_is_err_and c.from_residual.result c.from_residual.ensures.1 in
    rw (p.1, p.2) (read_refused _ _ _ c.in_err-component.ensures.outcome)

pub build_entries-requires-clause-rules : goal.build_entries-requires-clause-rules
build_entries-requires-clause-rules c = (sound c.args.data.now _ (λ i h. (c.type_inv.data i).fits) (sym c.in_ok-component.ensures.outcome)).0

pub returns-in_err-build_entries : goal.returns-in_err-build_entries
returns-in_err-build_entries c =
    let p = err_from_is_err_and c.from_residual-in_err-build_entries.result c.from_residual-in_err-build_entries.ensures.1 in
    rw (p.1, p.2) (built_refused _ _ _ c.in_ok-component.ensures.outcome _ _ c.in_err-build_entries.ensures)

pub returns : goal.returns
returns c = built _ _ _ c.in_ok-component.ensures.outcome _ c.in_ok-component.ensures.counts c.in_ok-build_entries.ensures
