use Rattle.rehearsal.proofs.Shapes.{no_turn}
use Rattle.rehearsal.proofs.order.read_turn.Goals as goal

pub returns-in_default : goal.returns-in_default
returns-in_default c = no_turn c.args.words.now c.in_default.len_below
