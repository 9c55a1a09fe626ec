-- What the views of the code say: each names parts of the caller's octets, and stands for a value of the definitions. Assumes nothing.
use Rattle.capture.specs.declared.record.Record.{Record}
use Rattle.capture.specs.declared.records.Records as view
use Rattle.capture.specs.Records.{Sent, Place, place_of}

abbrev pub record_says : Record → Sent
record_says r = record { address = r.address; port = r.port; seconds = r.seconds; datagram = r.datagram.now }

abbrev pub place_says : view.Records → Place
place_says r = place_of r.rest.now r.before
