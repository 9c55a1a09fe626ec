-- The invariant: the slots so far are kept or emptied, the others are as they were.
use Rattle.std.proofs.Common.{◌≡◌, ◌++◌, map, take, drop}
use Rattle.arrivals.specs.Slots.{keep_near}
use Rattle.arrivals.proofs.list.slots.forget_far.Given as goal

abbrev pub invariant-loop-slot : goal.invariant-loop-slot
invariant-loop-slot l = l.slot-items ≡ map (keep_near 24 l.newest.value) (take l.slot-index l.initial.slot-items) ++ drop l.slot-index l.initial.slot-items
