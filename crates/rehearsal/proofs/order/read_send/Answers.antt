use Rattle.rehearsal.proofs.Shapes.{no_send}
use Rattle.rehearsal.proofs.order.read_send.Goals as goal

pub returns-in_default : goal.returns-in_default
returns-in_default c = no_send c.args.words.now c.in_default.len_below
