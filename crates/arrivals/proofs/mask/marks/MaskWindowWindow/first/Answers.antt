-- One bit is what a blank place becomes.
use Rattle.std.proofs.Common.{refl, arith}
use Rattle.arrivals.specs.Masks.{bit}
use Rattle.arrivals.specs.WindowLaws.{window_first}
use Rattle.arrivals.specs.BitLaws.{bit_odd, bit_one}
use Rattle.arrivals.proofs.mask.marks.MaskWindowWindow.first.Goals as goal

pub returns : goal.returns
returns c = window_first 64 c.args.number.value (bit 1) (omega arith) c.args.number.in_range (bit_odd 1 refl) (λ j p _. bit_one j p)
