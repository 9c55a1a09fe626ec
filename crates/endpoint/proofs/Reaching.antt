-- Calls that reach the limits of an outstanding message.
use Rattle.std.proofs.Common.{ℕ, true, List, [], ◌∷◌, length, replicate, refl}
use Rattle.endpoint.specs.declared.peer.Role.TheVariants.{Slave}
use Rattle.endpoint.specs.Calls.{Call, enrols, sends, ticks}
use Rattle.endpoint.specs.Enrols.{enrol}
use Rattle.endpoint.specs.Examples.{right}
use Rattle.endpoint.specs.Laws.{ComesAbout, LimitsMet}
use Rattle.endpoint.specs.Sends.{send_within}
use Rattle.endpoint.specs.Ticks.{tick_within}
use Rattle.endpoint.proofs.Moving.{limits}

abbrev sending : List ℕ → List Call → List Call
sending body more = enrols 0 0 right Slave ∷ (sends 0 0 true body 1024 ∷ more)

-- one call message without data, and one with as many octets as a body has room for
abbrev least : List ℕ
least = 0x02 ∷ 0x00 ∷ 0x00 ∷ 0x00 ∷ 0x00 ∷ []

abbrev most : List ℕ
most = 0x02 ∷ 0x00 ∷ 0x00 ∷ 0x01 ∷ 0xF6 ∷ replicate 502 0

reaches_tries : ComesAbout (λ m. m.transmissions) 4
unfolding enrol send_within tick_within
reaches_tries = (sending least (ticks 0 1000 1024 ∷ ticks 0 4000 1024 ∷ ticks 0 7000 1024 ∷ []), refl)

reaches_smallest : ComesAbout (λ m. length m.octets) 10
unfolding enrol send_within
reaches_smallest = (sending least [], refl)

reaches_largest : ComesAbout (λ m. length m.octets) 512
unfolding enrol send_within
reaches_largest = (sending most [], refl)

pub limits_met : LimitsMet limits
limits_met = record {
  numbers = λ start. refl;
  given = λ n. refl;
  last_time = λ time. refl;
  timers = λ n. refl;
  tries = reaches_tries;
  smallest = reaches_smallest;
  largest = reaches_largest;
}
