-- The list with a number ahead as its newest, and that there is a slot for it.
use Rattle.std.proofs.Common.{◌≡◌, ℕ, ◌+◌, cond, eqb, map, ap, ◌∙◌, arith}
use Rattle.arrivals.specs.Slots.{times, keep_near}
use Rattle.arrivals.specs.ListLaws.{ahead_room, tidy_ahead, list_moved}
use Rattle.arrivals.proofs.list.slots.ListWindowWindow.moved_to.Goals as goal

pub put-requires : goal.put-requires
put-requires c =
    let self = c.args.self in
    let n = c.args.number in
    rw c.forget_far-kept.ensures (ahead_room 24 self.newest.value self.slots n.value (omega arith) self.ok n.in_range (omega arith) c.requires)

-- what `put` leaves, over the slots as they were
moved : (c : goal.After-put) → (k : ℕ) → times k c.put.result ≡ cond (eqb c.args.number.value k) 1 0 + times k (map (keep_near 24 c.args.number.value) c.args.self.slots)
moved c k = c.put.ensures k ∙ ap (λ xs. cond (eqb c.args.number.value k) 1 0 + times k xs) c.forget_far-kept.ensures

pub invariant_of-result : goal.invariant_of-result
invariant_of-result c =
    let self = c.args.self in
    let n = c.args.number in
    record { ok = tidy_ahead 24 self.newest.value self.slots n.value (omega arith) self.ok n.in_range c.put.result (moved c) (omega arith) c.requires }

pub returns : goal.returns
returns c =
    let self = c.args.self in
    let n = c.args.number in
    list_moved 24 self.newest.value self.slots n.value (omega arith) self.ok n.in_range c.put.result
    (λ k. c.put.ensures k ∙ ap (λ xs. cond (eqb n.value k) 1 0 + times k xs) c.forget_far-kept.ensures) (omega arith) c.requires
