use Rattle.std.proofs.Common.{refl}
use Rattle.writer.proofs.Octets.{octets_are_written}
use Rattle.writer.proofs.Runs.{what_fits_is_written}
use Rattle.writer.proofs.Trips.{round_trip}
use Rattle.writer.proofs.example.nack_of_one.Goals as goal

pub returns : goal.returns
returns c = record { octets = refl; back = round_trip; plain = octets_are_written; complete = what_fits_is_written }
