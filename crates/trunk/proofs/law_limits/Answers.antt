-- The law at its limits.
use Rattle.trunk.proofs.Lawful.{changes_keep_the_law}
use Rattle.trunk.proofs.Refuting.{each_part_refutes}
use Rattle.trunk.proofs.Rehearsed.{sixteen_calls}
use Rattle.trunk.proofs.Theorem.{in_time_keep_the_law, keep_the_law, log_tells_truly}
use Rattle.trunk.proofs.law_limits.Goals as goal

pub returns : goal.returns
returns c = record {
  two_ends = keep_the_law;
  in_time = in_time_keep_the_law;
  log = log_tells_truly;
  changes = changes_keep_the_law;
  refuted = each_part_refutes;
  rehearsed = sixteen_calls;
}
