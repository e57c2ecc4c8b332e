-- What the answers of a build and of a load are for C, and what holds of the maps that they leave there. Assumes nothing.
use Rattle.std.proofs.Common.{ℕ, ◌≡◌, ◌∙◌, ap, true, List, arith, Result, Ok, Err, IfOk}
use Rattle.refusal.specs.Outcome.{Outcome}
use Rattle.refusal.proofs.Numbers.{number_between}
use Rattle.refusal.specs.declared.Refusal.{Refusal}
use Rattle.grid.specs.Map.{valid_map}
use Rattle.grid.specs.declared.Grid.{Grid}
use Rattle.grid.specs.LossMap.{LossMap, LeavesMap}
use Rattle.layout.specs.Rules.{AreBytes}
use Rattle.map.specs.Answers.{Builds}
use Rattle.load.specs.Answers.{Loads}
use Rattle.accuracy.specs.Demand.{Accurate}
use Rattle.accuracy.proofs.Demand.{demand3}
use Rattle.axle.specs.Interface.{has_index, index_or_zero, index_of}
use Rattle.axle.specs.Build.{refusal_in, place_in, index_in, speeds_in, torques_in, AxesOf, BuiltOf, LoadedOf, MapForC, BuildsForC, LoadsForC}
use Rattle.axle.specs.declared.AxleBuilt.{AxleBuilt}
use Rattle.axle.specs.declared.AxleAxes.{AxleAxes}

map_for_c : (o : Outcome LossMap) (before after : List ℕ) (r : Result Grid Refusal) (refusal place : ℕ) (axes : Grid) → AxesOf r refusal place axes → LeavesMap o before after r
    → MapForC o before after refusal place axes
map_for_c o before after (Ok grid) refusal place axes (refusal_is, place_is, same) l = rw (refusal_is, place_is, same) (record {
  refusal_is = ap refusal_in l.outcome;
  place_is = ap place_in l.outcome;
  speeds = ap speeds_in l.outcome;
  torques = ap torques_in l.outcome;
  counts = (l.counts.speeds, l.counts.torques);
  entries = l.written;
})
map_for_c o before after (Err x) refusal place axes (refusal_is, place_is, speeds, torques) l = record {
  refusal_is = refusal_is ∙ ap refusal_in l.outcome;
  place_is = place_is ∙ ap place_in l.outcome;
  speeds = rw speeds (ap speeds_in l.outcome);
  torques = rw torques (ap torques_in l.outcome);
  counts = (omega (arith, speeds), omega (arith, torques));
  entries = l.written;
}

index_for_c : (o : Outcome LossMap) (before after : List ℕ) (r : Result Grid Refusal) → LeavesMap o before after r → index_of r ≡ index_in o
index_for_c o before after (Ok grid) l = ap index_in l.outcome
index_for_c o before after (Err x) l = ap index_in l.outcome

-- what holds of the map that is left, where there is one
of_map : (P : Grid → Type 0) (r : Result Grid Refusal) (refusal place : ℕ) (axes : Grid) → AxesOf r refusal place axes → IfOk r P → refusal ≡ 0 → P axes
of_map P (Ok grid) refusal place axes (_, _, same) holds none = rw same holds
of_map P (Err x) refusal place axes (refusal_is, _, _, _) holds none = absurd (omega (arith, (number_between x).0, refusal_is, none))

module _ (bytes before after : List ℕ) (are_bytes : AreBytes bytes) where
  accurate : (r : Result Grid Refusal) → Builds bytes before after r → IfOk r (λ grid. Accurate bytes grid after)
  accurate (Ok grid) b = demand3 bytes before after are_bytes grid b
  accurate (Err x) b = tt

  pub builds_for_c : (r : Result Grid Refusal) (built : AxleBuilt) → BuiltOf r built → Builds bytes before after r → BuildsForC bytes before after built
  builds_for_c r built (same, has, index) b =
      let index_is = index_for_c _ before after r b in
      record {
        answer = map_for_c _ before after r _ _ _ same b;
        has_index = has ∙ ap has_index index_is;
        index = index ∙ ap index_or_zero index_is;
        accurate = of_map (λ grid. Accurate bytes grid after) r _ _ _ same (accurate r b);
      }

pub loads_for_c : (text before after : List ℕ) (r : Result Grid Refusal) (loaded : AxleAxes) → LoadedOf r loaded → Loads text before after r → LoadsForC text before after loaded
loads_for_c text before after r loaded same l = record {
  answer = map_for_c _ before after r _ _ _ same l.leaves;
  map = of_map (λ grid. valid_map grid after ≡ true) r _ _ _ same l.map;
}
