-- The search finds a number just where it is held.
use Rattle.std.proofs.Common.{◌∙◌}
use Rattle.arrivals.specs.ListLaws.{held_found}
use Rattle.arrivals.proofs.list.slots.ListWindowWindow.holds.Goals as goal

pub returns : goal.returns
returns c = c.is_some.ensures ∙ held_found c.args.number c.args.self.now.slots c.find.result c.find.ensures.first
