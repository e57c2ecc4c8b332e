-- `lookup::ScaledAxis::nearest` meets its contract. Assumes nothing.
use Rattle.std.proofs.Common.{◌+◌, ◌<◌, length, arith}
use Rattle.lookup.proofs.Axes.{Rising, neighbour_in}
use Rattle.lookup.proofs.Nearness.{lower_is_nearest, upper_is_nearest}
use Rattle.lookup.proofs.ScaledAxis.nearest.Goals as goal
use Rattle.lookup.proofs.ScaledAxis.nearest.Goals.{After-neighbour-i}

rising : (c : After-neighbour-i) → Rising c.args.self.now.numbers.now
rising c = record { two = c.args.self.now.two; rises = c.args.self.now.rising }

-- both neighbours are there
there : (c : After-neighbour-i) → c.neighbour-i.result + 1 < length c.args.self.now.numbers.now
there c = rw c.neighbour-i.ensures (neighbour_in _ c.args.self.now.scale c.args.v (rising c))

pub bounds-self-i : goal.bounds-self-i
bounds-self-i c = omega (arith, there (goal.at.bounds-self-i c).After-neighbour-i)

pub overflow_add-upper : goal.overflow_add-upper
overflow_add-upper c = omega (arith, there (goal.at.overflow_add-upper c).After-neighbour-i, c.args.self.now.few)

pub bounds-self-i-2 : goal.bounds-self-i-2
bounds-self-i-2 c = there (goal.at.bounds-self-i-2 c).After-neighbour-i

pub returns-then-distance : goal.returns-then-distance
returns-then-distance c =
    let axis = rising (goal.at.returns-then-distance c).After-neighbour-i in
    let nearer = c.if-distance.true in
    rw c.neighbour-i.ensures (upper_is_nearest _ axis _ c.args.v c.args.self.now.positive (rw (← c.neighbour-i.ensures, ← c.distance.ensures, ← c.distance-2.ensures) nearer))

pub returns-else-distance : goal.returns-else-distance
returns-else-distance c =
    let axis = rising (goal.at.returns-else-distance c).After-neighbour-i in
    let nearer = c.if-distance.false in
    rw c.neighbour-i.ensures (lower_is_nearest _ axis _ c.args.v c.args.self.now.positive (rw (← c.neighbour-i.ensures, ← c.distance.ensures, ← c.distance-2.ensures) nearer))

pub offset_bounds-self-i : goal.offset_bounds-self-i
offset_bounds-self-i c = omega (arith, there (goal.at.offset_bounds-self-i c).After-neighbour-i, c.args.self.now.few)

pub offset_bounds-self-i-2 : goal.offset_bounds-self-i-2
offset_bounds-self-i-2 c = omega (arith, there (goal.at.offset_bounds-self-i-2 c).After-neighbour-i, c.args.self.now.few)
