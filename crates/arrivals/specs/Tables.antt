-- What the places of a table mean, by what their windows mean.
use Rattle.std.specs.Prelude.{Some, None, Option}
use Rattle.arrivals.specs.Meaning.{Seen, blank}

abbrev pub place_seen : {W : Type 0} → (W → Seen) → Option W → Seen
place_seen seen None = blank
place_seen seen (Some w) = seen w
