-- Subtraction that wraps at 32 bits, masked to 24, counts the steps up.
use Rattle.std.proofs.Common.{arith}
use Rattle.arrivals.specs.Steps.{masked_up}
use Rattle.arrivals.proofs.number.Number.steps_up.Goals as goal

pub returns : goal.returns
returns c =
    let high = c.args.self.in_range in
    let low = c.args.low.in_range in
    masked_up c.args.self.value c.args.low.value (omega arith) (omega arith)
