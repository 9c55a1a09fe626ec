use Rattle.std.proofs.Common.{rules}
use Rattle.rehearsal.proofs.Pairs.{pairs_step}
use Rattle.rehearsal.proofs.word.read_octets.Goals as goal

pub loop-rest-preserved : goal.loop-rest-preserved
loop-rest-preserved c = search (rules, pairs_step)
