-- A datagram with the Ack of one number. Assumes nothing.
use Rattle.std.specs.Prelude.{ℕ, false, List, [], ◌∷◌, Ok, Err, Result}
use Rattle.datagram.specs.Structures.{ack}
use Rattle.writer.specs.Bodies.{under_no_call}
use Rattle.writer.specs.Runs.{Written}
use Rattle.writer.specs.Values.{Part, part_of}
use Rattle.writer.specs.declared.refusal.Refusal.{Refusal}

abbrev pub ack_of_one : ℕ → List Part
ack_of_one of = part_of (under_no_call (ack (of ∷ []))) ∷ []

-- where it was answered to have k octets, they stand at the front of the buffer, and read as that Ack
abbrev pub Acknowledges : List ℕ → ℕ → ℕ → Result ℕ Refusal → List ℕ → Type 0
Acknowledges b n of (Ok k) b' = Written b n false (ack_of_one of) k b'
Acknowledges b n of (Err f) b' = Unit {0}
