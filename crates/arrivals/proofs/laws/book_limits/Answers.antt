-- The laws at their limits.
use Rattle.arrivals.proofs.HistoryLaws.{places_apart, numbers_sound}
use Rattle.arrivals.proofs.MemoryLaws.{remembers}
use Rattle.arrivals.proofs.laws.book_limits.Goals as goal

pub returns : goal.returns
returns c = record { places = places_apart; numbers = numbers_sound; memory = remembers }
