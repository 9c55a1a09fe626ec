-- A run's invariant: what the buffer will be does not change, nor does its length.
use Rattle.std.proofs.Common.{◌≡◌}
use Rattle.arrivals.specs.Meaning.{new_book}
use Rattle.bridge.proofs.RunLaws.{becomes}
use Rattle.bridge.proofs.books.run.Given as goal

abbrev pub invariant-loop-i : goal.invariant-loop-i
invariant-loop-i g l =
    becomes g.B.ArrivalBook.depth (g.B.ArrivalBook.seen l.book) l.places l.numbers l.i l.judgements
    ≡ becomes g.B.ArrivalBook.depth new_book l.places l.numbers 0 l.initial.judgements
