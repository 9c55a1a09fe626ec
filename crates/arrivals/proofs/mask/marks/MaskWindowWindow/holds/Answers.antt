-- A number is held where it is behind by less than the depth, and the bit at its lag is set.
use Rattle.std.proofs.Common.{sym, ap, ◌∙◌}
use Rattle.std.proofs.lemmas.Bool.{le-ltb}
use Rattle.arrivals.specs.Masks.{bit}
use Rattle.arrivals.specs.BitLaws.{bit_test}
use Rattle.arrivals.specs.WindowLaws.{marked_in, marked_far}
use Rattle.arrivals.proofs.mask.marks.MaskWindowWindow.holds.Goals as goal

pub returns-then-lag-lt-DEPTH : goal.returns-then-lag-lt-DEPTH
returns-then-lag-lt-DEPTH c =
    let self = c.args.self.now in
    let lag = c.steps_up-lag.ensures in
    bit_test self.bits c.steps_up-lag.result ∙ ap (bit self.bits) lag
    ∙ sym (marked_in 64 self.newest.value (bit self.bits) c.args.number.value c.args.number.in_range (rw lag at c.if-lag-lt-DEPTH.true))

pub returns-else-lag-lt-DEPTH : goal.returns-else-lag-lt-DEPTH
returns-else-lag-lt-DEPTH c =
    let self = c.args.self.now in
    le-ltb c.steps_up-lag.result 64 c.if-lag-lt-DEPTH.false
    ∙ sym (marked_far 64 self.newest.value (bit self.bits) c.args.number.value (rw c.steps_up-lag.ensures at c.if-lag-lt-DEPTH.false))
