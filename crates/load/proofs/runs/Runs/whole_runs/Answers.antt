-- `load::runs::Runs::whole_runs` meets its contract. Assumes nothing.
use Rattle.load.proofs.Loading.{whole_runs_is}
use Rattle.load.proofs.runs.Runs.whole_runs.Goals as goal

pub returns : goal.returns
returns c = λ rows k. whole_runs_is rows _ k
