use Rattle.rehearsal.proofs.Shapes.{no_hear}
use Rattle.rehearsal.proofs.order.read_hear.Goals as goal

pub returns-in_default : goal.returns-in_default
returns-in_default c = no_hear c.args.words.now c.in_default.len_below
