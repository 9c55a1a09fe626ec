use Rattle.std.proofs.Common.{map, drop, vec_items}
use Rattle.trunk.specs.Parties.{trunk_says}
use Rattle.trunk.specs.Runs.{setting_says}
use Rattle.trunk.specs.Views.{entry_says, turn_says}
use Rattle.trunk.proofs.Running.{Goes}
use Rattle.trunk.proofs.runs.run.Given as goal

abbrev pub invariant-loop-turn : goal.invariant-loop-turn
invariant-loop-turn g l =
    Goes (setting_says g.L.ArrivalBook.depth g.R.ArrivalBook.depth l.fn.setting) (map turn_says l.turns) (map turn_says (drop l.turn-index l.turns))
    (trunk_says g.L.ArrivalBook.seen g.R.ArrivalBook.seen l.trunk) (map entry_says (vec_items l.log))
