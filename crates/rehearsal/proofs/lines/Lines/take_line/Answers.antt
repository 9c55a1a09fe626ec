use Rattle.std.proofs.Common.{rules, refl}
use Rattle.rehearsal.proofs.LineByLine.{off}
use Rattle.rehearsal.proofs.lines.Lines.take_line.Goals as goal

pub returns : goal.returns
returns c = off _ _ _ (search rules) refl c.cut.ensures.front c.cut.ensures.back
