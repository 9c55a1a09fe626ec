use Rattle.std.proofs.Common.{arith}
use Rattle.rehearsal.proofs.Shapes.{few_setup, many_setup}
use Rattle.rehearsal.proofs.order.read_setup.Goals as goal

pub returns-in_default : goal.returns-in_default
returns-in_default c = few_setup c.args.name.now c.args.line c.args.words.now c.in_default.len_below

pub returns-in_default-2 : goal.returns-in_default-2
returns-in_default-2 c = many_setup c.args.name.now c.args.line c.args.words.now (omega arith)
