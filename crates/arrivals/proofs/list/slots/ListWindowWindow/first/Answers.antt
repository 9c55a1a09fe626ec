-- A list of one number is what a blank place becomes.
use Rattle.std.proofs.Common.{arith}
use Rattle.arrivals.specs.ListLaws.{list_first, tidy_first}
use Rattle.arrivals.proofs.list.slots.ListWindowWindow.first.Goals as goal

pub invariant_of-result : goal.invariant_of-result
invariant_of-result c = record { ok = tidy_first 24 c.args.number.value c.put.result (omega arith) c.args.number.in_range c.put.ensures }

pub returns : goal.returns
returns c = list_first 24 c.args.number.value c.put.result c.args.number.in_range c.put.ensures
