use Rattle.std.proofs.Common.{length}
use Rattle.rehearsal.specs.Ahead.{IsPassed}
use Rattle.rehearsal.proofs.lines.Lines.next.Given as goal

abbrev pub invariant-loop-line : goal.invariant-loop-line
invariant-loop-line l = IsPassed l.initial.self l.self

abbrev pub decreases-loop-line : goal.decreases-loop-line
decreases-loop-line l = length l.self.rest.now
