-- The list with one number more, and that there is a slot for it.
use Rattle.std.proofs.Common.{inr, arith}
use Rattle.arrivals.specs.ListLaws.{absent_behind, behind_room, tidy_put, list_behind}
use Rattle.arrivals.proofs.list.slots.ListWindowWindow.plus.Goals as goal

pub put-requires : goal.put-requires
put-requires c =
    let self = c.args.self in
    let n = c.args.number in
    let absent = absent_behind 24 self.newest.value self.slots n.value (omega arith) self.ok n.in_range c.requires.fresh c.requires.behind in
    behind_room 24 self.newest.value self.slots n.value (omega arith) self.ok n.in_range absent.0 absent.1

pub invariant_of-result : goal.invariant_of-result
invariant_of-result c =
    let self = c.args.self in
    let n = c.args.number in
    let absent = absent_behind 24 self.newest.value self.slots n.value (omega arith) self.ok n.in_range c.requires.fresh c.requires.behind in
    record { ok = tidy_put 24 self.newest.value n.value self.slots c.put.result self.ok.0 n.in_range c.put.ensures absent.0 self.ok.2 self.ok.3 absent.1 (inr self.ok.1) }

pub returns : goal.returns
returns c =
    let self = c.args.self in
    let n = c.args.number in
    let absent = absent_behind 24 self.newest.value self.slots n.value (omega arith) self.ok n.in_range c.requires.fresh c.requires.behind in
    list_behind 24 self.newest.value self.slots n.value (omega arith) self.ok n.in_range c.put.result c.put.ensures c.requires.behind absent.0
