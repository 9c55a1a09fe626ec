use Rattle.std.specs.Fmt.{IsPlainFormatter}
use Rattle.datagram.specs.Views.{payloads_say}
use Rattle.callsheet.proofs.Pieces.{Ahead}
use Rattle.callsheet.proofs.lines.write_payloads.Given as goal

abbrev pub invariant-loop-payload : goal.invariant-loop-payload
invariant-loop-payload g l =
    (goal.iterator-loop-payload g).can_next l.payload-iterator
    × (goal.iterator-loop-payload g).is_finite l.payload-iterator
    × (IsPlainFormatter l.initial.f → Ahead g.W.Write.write_str_gives l.initial.f l.front (payloads_say l.initial.payloads) l.f (payloads_say l.payload-iterator))
