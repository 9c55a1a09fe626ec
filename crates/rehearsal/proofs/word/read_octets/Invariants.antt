use Rattle.std.proofs.Common.{◌≡◌, length, vec_items}
use Rattle.rehearsal.proofs.Pairs.{behind_done}
use Rattle.rehearsal.specs.Reading.{pairs_in}
use Rattle.rehearsal.proofs.word.read_octets.Given as goal

-- what is left to read, behind what is read, gives the whole
abbrev pub invariant-loop-rest : goal.invariant-loop-rest
invariant-loop-rest l = behind_done (vec_items l.octets) (pairs_in l.rest) ≡ pairs_in l.fn.word

abbrev pub decreases-loop-rest : goal.decreases-loop-rest
decreases-loop-rest l = length l.rest
