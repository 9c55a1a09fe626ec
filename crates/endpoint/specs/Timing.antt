-- The timers, the last time, and how many numbers may be given. Assumes nothing.
use Rattle.std.specs.Prelude.{ℕ, Bool, nat_le, nat_lt}
use Rattle.endpoint.specs.declared.timers.Timers.{Timers}
use Rattle.endpoint.specs.Ends.{Neighbour}

abbrev pub standing_timers : Timers
standing_timers = record { first = 1000; later = 3000; tries = 4; silence = 30000; rest = 6000 }

-- the timers of a neighbour: all have the standing ones
abbrev pub timers_of : Neighbour → Timers
timers_of n = standing_timers

abbrev pub is_time : ℕ → Bool
is_time time = nat_le time 281474976710655

-- question 12, of how many numbers were given: whether one more may be. The calls are defined for any such question, `below`; this one stands
abbrev pub numbers_left : ℕ → Bool
numbers_left given = nat_lt given 8388608
