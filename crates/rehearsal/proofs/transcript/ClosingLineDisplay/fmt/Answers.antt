use Rattle.std.proofs.Common.{rules}
use Rattle.std.proofs.Output.{has_written_append, has_written_of_eq}
use Rattle.rehearsal.proofs.Pieces.{closing_pieces}
use Rattle.rehearsal.proofs.transcript.ClosingLineDisplay.fmt.Goals as goal

pub returns-clause-writes : goal.returns-clause-writes
returns-clause-writes g c = λ plain ok.
    let first = c.write.ensures.writes plain (search rules) in
    has_written_of_eq _ _ _ _ _ (closing_pieces _ _ _ _ _ _ _ _ c.side_name-side.ensures)
    (has_written_append _ _ _ _ _ _ first (c.writeln.ensures.writes first.plain ok))
