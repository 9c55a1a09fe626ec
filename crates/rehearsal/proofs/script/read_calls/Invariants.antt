use Rattle.std.proofs.Common.{◌≡◌, ◌≤◌, length, map, vec_items}
use Rattle.trunk.specs.Views.{turn_says}
use Rattle.rehearsal.specs.Ahead.{ahead, size}
use Rattle.rehearsal.specs.Scripts.{calls_in}
use Rattle.rehearsal.proofs.CallByCall.{behind_calls}
use Rattle.rehearsal.proofs.script.read_calls.Given as goal

-- what is left to read, behind what is read, gives the whole
abbrev pub invariant-loop-lines : goal.invariant-loop-lines
invariant-loop-lines l = record {
  calls : behind_calls (record { asked = map turn_says (vec_items l.turns); lines = vec_items l.lines }) (calls_in (ahead l.ahead)) ≡ calls_in (ahead l.initial.ahead);
  size : size l.ahead ≤ size l.initial.ahead;
}

abbrev pub decreases-loop-lines : goal.decreases-loop-lines
decreases-loop-lines l = length l.ahead.rest.now
