-- `loss::loss_uncertainty` meets its contract: each square fits, for it is within the sum of all. Assumes nothing.
use Rattle.std.proofs.Common.{rules, tests, ◌*◌, ◌^◌, ◌∙◌, arith, ap}
use Rattle.std.proofs.lemmas.Iterator.{YieldsList-from_slice, YieldsList-from_map}
use Rattle.std.proofs.lemmas.Iterator.Adapters.{serves_from_places}
use Rattle.std.proofs.lemmas.Iterator.Consumers.{sum_by_from_yields_List, fits_by_from_yields_list}
use Rattle.arith.specs.Root.{root_up}
use Rattle.loss.specs.Measured.{loss_uncertainty}
use Rattle.loss.proofs.Parts.{squares_are, square_within}
use Rattle.loss.proofs.loss_uncertainty.Goals as goal

pub sum-requires-clause-can : goal.sum-requires-clause-can
sum-requires-clause-can c =
    (tt, serves_from_places (YieldsList-from_slice c.args.parts.now cc) (λ x q k. search (rules, tests)) (λ x k l e. let h = square_within c.args.parts.now k x.now l e in search (rules, arith)))

pub sum-requires-clause-fits : goal.sum-requires-clause-fits
sum-requires-clause-fits c =
    fits_by_from_yields_list (λ v. v * v) c.args.parts.now c.map.result (2 ^ 64) (YieldsList-from_map _ (λ v. v * v) (YieldsList-from_slice c.args.parts.now cc) c.map.ensures.closure (λ x r q k. search (rules, tests))) (rw (squares_are c.args.parts.now) c.requires)

pub returns : goal.returns
unfolding loss_uncertainty
returns c =
    let squares = sum_by_from_yields_List (λ v. v * v) c.args.parts.now c.map.result _ c.sum.ensures.ran (YieldsList-from_map _ (λ v. v * v) (YieldsList-from_slice c.args.parts.now cc) c.map.ensures.closure (λ x r q k. search (rules, tests))) in
    c.root_up.ensures ∙ ap root_up (squares ∙ squares_are c.args.parts.now)
