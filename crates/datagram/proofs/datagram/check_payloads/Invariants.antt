use Rattle.std.proofs.Common.{◌≡◌, ◌||◌}
use Rattle.datagram.specs.Results.{map_ok}
use Rattle.datagram.specs.Datagrams.{some_deserves}
use Rattle.datagram.specs.Places.{payloads_ahead}
use Rattle.datagram.specs.Views.{place_says}
use Rattle.datagram.proofs.datagram.check_payloads.Given as goal

-- what is left gives the answer, along with what was found
abbrev pub invariant-loop-payload : goal.invariant-loop-payload
invariant-loop-payload l = map_ok some_deserves (payloads_ahead (place_says l.initial.reader)) ≡ map_ok (λ ps. l.deserving || some_deserves ps) (payloads_ahead (place_says l.reader))

abbrev pub decreases-loop-payload : goal.decreases-loop-payload
decreases-loop-payload l = l.reader.left
