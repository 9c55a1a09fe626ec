-- What the list book's windows mean.
use Rattle.arrivals.specs.Meaning.{Seen, upto}
use Rattle.arrivals.specs.Slots.{held}
use Rattle.arrivals.specs.declared.list.ListWindow.{ListWindow}

abbrev pub list_seen : ListWindow → Seen
list_seen s = upto s.newest.value (held s.slots)
