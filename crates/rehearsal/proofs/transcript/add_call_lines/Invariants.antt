use Rattle.std.proofs.Common.{◌≡◌, ◌++◌, map, string_bytes}
use Rattle.trunk.specs.Views.{turn_says, entry_says}
use Rattle.rehearsal.specs.Transcript.{call_lines}
use Rattle.rehearsal.proofs.Pieces.{lines_ahead}
use Rattle.rehearsal.proofs.transcript.add_call_lines.Given as goal

abbrev pub invariant-loop-i : goal.invariant-loop-i
invariant-loop-i l =
    string_bytes l.text ++ lines_ahead l.i-iterator ≡ string_bytes l.initial.text ++ call_lines 1 (map turn_says l.turns) (map entry_says l.entries)
