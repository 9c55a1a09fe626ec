-- The places below are enrolled.
use Rattle.std.proofs.Common.{◌≡◌}
use Rattle.endpoint.specs.Ends.{new_end}
use Rattle.endpoint.specs.Views.{end_says}
use Rattle.bridge.specs.Deliveries.{enrolled}
use Rattle.bridge.proofs.deliveries.surrounded.Given as goal

abbrev pub invariant-loop-place : goal.invariant-loop-place
invariant-loop-place g l = end_says g.B.ArrivalBook.seen l.endpoint ≡ enrolled l.place (new_end 0)
