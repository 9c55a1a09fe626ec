use Rattle.std.proofs.Common.{rules}
use Rattle.rehearsal.proofs.Shapes.{few_enrol, many_enrol}
use Rattle.rehearsal.proofs.order.read_enrol.Goals as goal
use Rattle.rehearsal.proofs.order.read_enrol.Goals.{in_default-via-then-words-lt4, in_default-via-else-words-lt4+else-words-lt5}

pub returns-in_default : goal.returns-in_default
returns-in_default c =
    elim c.in_default.branch [
      | in_default-via-then-words-lt4 w ↦ search (rules, few_enrol)
      | in_default-via-else-words-lt4+else-words-lt5 w ↦ search (rules, many_enrol)
    ]
