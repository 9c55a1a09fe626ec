use Rattle.std.proofs.Common.{◌≡◌, map, Ok}
use Rattle.endpoint.specs.Parts.{echo_says, Adds}
use Rattle.endpoint.proofs.echoes.add_echoes.Given as goal

abbrev pub invariant-loop-echo : goal.invariant-loop-echo
invariant-loop-echo l = (l.writer.buffer.ghost_name ≡ l.initial.writer.buffer.ghost_name) × Adds (map echo_says l.yielded) l.initial.writer (Ok tt) l.writer
