use Rattle.std.proofs.Common.{◌≡◌}
use Rattle.datagram.specs.Places.{entries_meet_end}
use Rattle.datagram.specs.Views.{entries_in}
use Rattle.datagram.proofs.structure.nack.Nack.meets_end.Given as goal

abbrev pub invariant-loop : goal.invariant-loop
invariant-loop l = entries_meet_end (entries_in l.self) ≡ entries_meet_end (entries_in l.initial.self)

abbrev pub decreases-loop : goal.decreases-loop
decreases-loop l = l.self.left
