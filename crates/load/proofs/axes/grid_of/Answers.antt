-- `load::axes::grid_of` meets its contract. Assumes nothing.
use Rattle.std.proofs.Common.{◌≡◌, ◌∙◌, true, sym, arith}
use Rattle.std.proofs.lemmas.Bool.{and_parts}
use Rattle.grid.specs.Axis.{◌to◌}
use Rattle.load.specs.Load.{all_within}
use Rattle.load.proofs.AxesMade.{valid_is, step_is, as_long, small_numbers, out_of_range, not_rising, above_step}
use Rattle.load.proofs.axes.grid_of.Goals as goal

pub returns-then-not-axes_within : goal.returns-then-not-axes_within
returns-then-not-axes_within c = λ m lent speeds torques.
    out_of_range _ _ m lent speeds torques (sym c.axes_within.ensures ∙ c.if-not-axes_within.true)

pub axis_of-requires : goal.axis_of-requires
axis_of-requires c =
    let within = and_parts _ _ (sym c.axes_within.ensures ∙ c.if-not-axes_within.false) in
    (omega arith, (c.requires.speeds.1, small_numbers (1 to 3000) _ (omega arith) within.0))

pub axis_of-requires-2 : goal.axis_of-requires-2
axis_of-requires-2 c =
    let within : (all_within (1 to 3000) c.args.speeds.now ≡ true) × (all_within (0 to 50000) c.args.torques.now ≡ true) = and_parts _ _ (sym c.axes_within.ensures ∙ c.if-not-axes_within.false) in
    (omega arith, (c.requires.torques.1, small_numbers (0 to 50000) _ (omega arith) within.1))

pub returns-then-not-axes_valid : goal.returns-then-not-axes_valid
returns-then-not-axes_valid c = λ m lent speeds torques.
    let all = sym c.axes_within.ensures ∙ c.if-not-axes_within.false in
    let within = and_parts _ _ all in
    let speeds_rise = valid_is (1 to 3000) _ _ c.axis_of.ensures c.requires.speeds.0 c.requires.speeds.1 within.0 in
    let torques_rise = valid_is (0 to 50000) _ _ c.axis_of-2.ensures c.requires.torques.0 c.requires.torques.1 within.1 in
    not_rising _ _ m lent speeds torques all (rw (← speeds_rise, ← torques_rise) (sym c.axes_valid.ensures ∙ c.if-not-axes_valid.true))

pub returns-then-not-first_step_holds : goal.returns-then-not-first_step_holds
returns-then-not-first_step_holds c = λ m lent speeds torques.
    let all = sym c.axes_within.ensures ∙ c.if-not-axes_within.false in
    let within = and_parts _ _ all in
    let speeds_rise = valid_is (1 to 3000) _ _ c.axis_of.ensures c.requires.speeds.0 c.requires.speeds.1 within.0 in
    let torques_rise = valid_is (0 to 50000) _ _ c.axis_of-2.ensures c.requires.torques.0 c.requires.torques.1 within.1 in
    let step = step_is (0 to 50000) _ _ c.axis_of-2.ensures c.requires.torques.0 c.requires.torques.1 in
    above_step _ _ m lent speeds torques all (rw (← speeds_rise, ← torques_rise) (sym c.axes_valid.ensures ∙ c.if-not-axes_valid.false)) (sym step ∙ sym c.first_step_holds.ensures ∙ c.if-not-first_step_holds.true)

pub returns : goal.returns
returns c =
    let all = sym c.axes_within.ensures ∙ c.if-not-axes_within.false in
    let within = and_parts _ _ all in
    let speeds_rise = valid_is (1 to 3000) _ _ c.axis_of.ensures c.requires.speeds.0 c.requires.speeds.1 within.0 in
    let torques_rise = valid_is (0 to 50000) _ _ c.axis_of-2.ensures c.requires.torques.0 c.requires.torques.1 within.1 in
    let step = step_is (0 to 50000) _ _ c.axis_of-2.ensures c.requires.torques.0 c.requires.torques.1 in
    record {
      speeds_are = c.axis_of.ensures.numbers;
      torques_are = c.axis_of-2.ensures.numbers;
      counts = record {
        speeds = omega (arith, c.axis_of.ensures.count, c.requires.speeds);
        torques = omega (arith, c.axis_of-2.ensures.count, c.requires.torques);
        speeds_length = as_long (1 to 3000) _ _ c.axis_of.ensures c.requires.speeds.0 c.requires.speeds.1;
        torques_length = as_long (0 to 50000) _ _ c.axis_of-2.ensures c.requires.torques.0 c.requires.torques.1;
      };
      in_ranges = within;
      rise = and_parts _ _ (rw (← speeds_rise, ← torques_rise) (sym c.axes_valid.ensures ∙ c.if-not-axes_valid.false));
      step = sym step ∙ sym c.first_step_holds.ensures ∙ c.if-not-first_step_holds.false;
    }
