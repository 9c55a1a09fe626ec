-- The laws at their limits.
use Rattle.endpoint.proofs.EndLaws.{refused_changes_nothing, others_stay, one_place_each, clock_runs_on, numbers_in_turn, always_sound}
use Rattle.endpoint.proofs.Reaching.{limits_met}
use Rattle.endpoint.proofs.laws.endpoint_limits.Goals as goal

pub returns : goal.returns
returns c = record {
  refused = refused_changes_nothing;
  others = others_stay;
  peers = one_place_each;
  clock = clock_runs_on;
  numbers = numbers_in_turn;
  sound = always_sound;
  met = limits_met;
}
