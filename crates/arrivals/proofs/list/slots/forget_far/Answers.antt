-- What is kept, slot by slot.
use Rattle.std.proofs.Common.{◌<◌, length, get_or, set, ap, ◌∙◌, rules}
use Rattle.std.proofs.lemmas.List.{take_all, drop_all}
use Rattle.std.proofs.lemmas.List.Edits.{map_over_more}
use Rattle.arrivals.specs.Slots.{keep_near}
use Rattle.arrivals.proofs.list.slots.forget_far.Goals as goal

pub loop-slot-preserved : goal.loop-slot-preserved
loop-slot-preserved c =
    let xs = c.args.slots in
    let ys = c.loop-slot.slot-items in
    let i = c.loop-slot.slot-index in
    let within : i < length xs = search rules in
    ap (set ys i) c.keep_near.ensures
    ∙ map_over_more (keep_near 24 c.args.newest.value) xs ys i _ within c.loop-slot.invariant (ap (get_or ys i) c.slot-item.is)

pub returns : goal.returns
returns c = search (rules, take_all, drop_all)
