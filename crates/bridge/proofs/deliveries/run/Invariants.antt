-- A run's invariant: what the buffer will be does not change, nor does its length, and the datagrams that are left lie in the rest.
use Rattle.std.proofs.Common.{◌≡◌}
use Rattle.endpoint.specs.Views.{end_says}
use Rattle.bridge.specs.Deliveries.{datagrams, surrounded}
use Rattle.bridge.proofs.DeliveryLaws.{becomes, Left}
use Rattle.bridge.proofs.deliveries.run.Given as goal

abbrev pub invariant-loop-i : goal.invariant-loop-i
invariant-loop-i g l =
    (becomes g.B.ArrivalBook.depth (end_says g.B.ArrivalBook.seen l.endpoint) l.senders (datagrams l.sizes l.octets) l.i l.answers
    ≡ becomes g.B.ArrivalBook.depth surrounded l.senders (datagrams l.sizes l.octets) 0 l.initial.answers)
    × Left l.sizes (datagrams l.sizes l.octets) l.i l.rest
