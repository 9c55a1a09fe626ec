use Rattle.std.proofs.Common.{rules}
use Rattle.std.proofs.Output.{has_written_append, has_written_of_eq}
use Rattle.rehearsal.proofs.Pieces.{pairs_more}
use Rattle.rehearsal.proofs.hex.PairsDisplay.fmt.Goals as goal

pub loop-octet-preserved : goal.loop-octet-preserved
loop-octet-preserved g c = λ plain.
    has_written_of_eq _ _ _ _ _ (pairs_more c.args.self.now.0.now c.loop-octet.octet-index c.loop-octet-test.true (search rules))
    (has_written_append _ _ _ _ _ _ (c.loop-octet.invariant plain) (search rules))
