-- One more bit set.
use Rattle.std.proofs.Common.{◌||◌, eqb, ap, ◌∙◌, arith}
use mathlib.Core.Bool.{or_comm}
use Rattle.arrivals.specs.Masks.{bit}
use Rattle.arrivals.specs.WindowLaws.{window_near, window_behind}
use Rattle.arrivals.specs.BitLaws.{bit_or_lem, bit_set, or_odd}
use Rattle.arrivals.proofs.mask.marks.MaskWindowWindow.plus.Goals as goal

pub overflow_shl-result : goal.overflow_shl-result
overflow_shl-result c =
    let self = c.args.self in
    let n = c.args.number in
    rw c.steps_up-lag.ensures (window_near 64 self.newest.value (bit self.bits) n.value (omega arith) (omega arith) self.newest.in_range n.in_range c.requires.fresh c.requires.behind)

pub invariant_of-result : goal.invariant_of-result
invariant_of-result c = record { odd = or_odd c.args.self.bits _ c.args.self.odd }

pub returns : goal.returns
returns c =
    let self = c.args.self in
    let h = self.newest in
    let n = c.args.number in
    let near = window_near 64 h.value (bit self.bits) n.value (omega arith) (omega arith) h.in_range n.in_range c.requires.fresh c.requires.behind in
    let lag = c.steps_up-lag.ensures in
    window_behind 64 h.value (bit self.bits) n.value (omega arith) (omega arith) h.in_range n.in_range c.requires.behind near _
    (λ j below. bit_or_lem self.bits _ j ∙ ap (λ v. bit self.bits j || v) (bit_set c.steps_up-lag.result j (rw lag near) below ∙ ap (eqb j) lag) ∙ or_comm (bit self.bits j) _)
