-- A run of sixteen calls on two ends, and what it comes to by the definitions. Assumes nothing.
use Rattle.std.specs.Prelude.{◌≡◌, ℕ, true, false, ◌⊎◌, List, [], ◌∷◌, length, Some, None, Err, Result}
use Rattle.endpoint.specs.declared.peer.Peer.{Peer}
use Rattle.endpoint.specs.declared.peer.Role.TheVariants.{Master, Slave}
use Rattle.endpoint.specs.declared.refusal.Refusal.{Refusal}
use Rattle.endpoint.specs.declared.refusal.Refusal.TheVariants.{StillOutstanding}
use Rattle.endpoint.specs.Calls as calls
use Rattle.endpoint.specs.Timing.{numbers_left}
use Rattle.trunk.specs.Acts.{Octets, acknowledged, Side, left, right, sent_again, gave_up, kept_alive, let_be, aside, sends, ticks, arrives, History}
use Rattle.trunk.specs.Law.{Law}
use Rattle.trunk.specs.Refuted.{deed, body_with, said, datagram_with}
use Rattle.trunk.specs.Runs.{turn}
use Rattle.trunk.specs.Two.{Setting, Sound, Turn, Log, run, newly, Proper, history_of}

-- the left end is 10.0.0.1 and starts at 5, the right end is 10.0.0.2 and starts at the last number
abbrev pub peer_of : Side → Peer
peer_of left = record { address = 10 ∷ 0 ∷ 0 ∷ 1 ∷ []; port = 2517 }
peer_of right = record { address = 10 ∷ 0 ∷ 0 ∷ 2 ∷ []; port = 2517 }

abbrev pub start_of : Side → ℕ
start_of left = 5
start_of right = 16777215

abbrev pub depth_of : Side → ℕ
depth_of left = 64
depth_of right = 24

abbrev pub setting : Setting
setting = record { peer = peer_of; start = start_of; depth = depth_of; below = numbers_left }

-- the right end's Acks of number 5, under its first two numbers
abbrev pub first_ack : Octets
first_ack = 0x00 ∷ 0xFF ∷ 0xFF ∷ 0xFF ∷ 0x00 ∷ 0x08 ∷ 0x00 ∷ 0x00 ∷ 0x00 ∷ 0x04 ∷ 0x02 ∷ 0x00 ∷ 0x00 ∷ 0x05 ∷ []

abbrev pub second_ack : Octets
second_ack = 0x00 ∷ 0x00 ∷ 0x00 ∷ 0x00 ∷ 0x00 ∷ 0x08 ∷ 0x00 ∷ 0x00 ∷ 0x00 ∷ 0x04 ∷ 0x02 ∷ 0x00 ∷ 0x00 ∷ 0x05 ∷ []

-- and its I-Am-Alive under the third
abbrev pub i_am_alive : Octets
i_am_alive = 0x00 ∷ 0x00 ∷ 0x00 ∷ 0x01 ∷ 0x00 ∷ 0x06 ∷ 0x00 ∷ 0x00 ∷ 0x00 ∷ 0x04 ∷ 0x00 ∷ 0x00 ∷ 0x00 ∷ 0x01 ∷ []

-- a send is resent before its Ack came, and both copies arrive; a send in between is refused, for the first is outstanding; the Acks arrive in
-- reverse, and settle it once; a second send is never answered, and is given up after four transmissions
abbrev pub sixteen : List Turn
sixteen =
    turn left (calls.enrols 0 0 (peer_of right) Slave) 0
    ∷ turn right (calls.enrols 3 0 (peer_of left) Master) 0
    ∷ turn left (calls.sends 0 0 true (body_with 0x09) 1024) 0
    ∷ turn left (calls.ticks 0 1000 1024) 0
    ∷ turn right (calls.arrives 1001 (peer_of left) (datagram_with 5 0x09) 1024) 3
    ∷ turn right (calls.arrives 1002 (peer_of left) (datagram_with 5 0x09) 1024) 2
    ∷ turn left (calls.sends 0 1003 true (body_with 0x08) 1024) 0
    ∷ turn left (calls.arrives 1003 (peer_of right) second_ack 1024) 5
    ∷ turn left (calls.arrives 1004 (peer_of right) first_ack 1024) 4
    ∷ turn left (calls.sends 0 2000 true (body_with 0x08) 1024) 0
    ∷ turn left (calls.ticks 0 2999 1024) 0
    ∷ turn left (calls.ticks 0 3000 1024) 0
    ∷ turn left (calls.ticks 0 6000 1024) 0
    ∷ turn left (calls.ticks 0 9000 1024) 0
    ∷ turn left (calls.ticks 0 12000 1024) 0
    ∷ turn right (calls.ticks 3 12000 1024) 0
    ∷ []

-- the newest first
abbrev pub expected : History
expected =
    deed right (ticks 12000 (kept_alive i_am_alive))
    ∷ deed left (ticks 12000 gave_up)
    ∷ deed left (ticks 9000 (sent_again (datagram_with 6 0x08)))
    ∷ deed left (ticks 6000 (sent_again (datagram_with 6 0x08)))
    ∷ deed left (ticks 3000 (sent_again (datagram_with 6 0x08)))
    ∷ deed left (ticks 2999 let_be)
    ∷ deed left (sends true 2000 (body_with 0x08) (datagram_with 6 0x08))
    ∷ deed left (arrives 4 true [] None None)
    ∷ deed left (arrives 5 true [] (Some acknowledged) None)
    ∷ deed left (aside false)
    ∷ deed right (arrives 2 false [] None (Some second_ack))
    ∷ deed right (arrives 3 true (said 0x09 ∷ []) None (Some first_ack))
    ∷ deed left (ticks 1000 (sent_again (datagram_with 5 0x09)))
    ∷ deed left (sends true 0 (body_with 0x09) (datagram_with 5 0x09))
    ∷ deed right (aside false)
    ∷ deed left (aside false)
    ∷ []

-- entry i of a log has the answer x
abbrev pub Answers : Log → ℕ → Result calls.Answer Refusal → Type 0
Answers [] i x = ⊥
Answers (e ∷ l) i x = ((i ≡ length l) × (x ≡ e.answer)) ⊎ Answers l i x

pub record SixteenCalls (tries gap : ℕ) : Type 0 where
  pub set_up : Sound setting
  pub proper : Proper setting (newly setting) sixteen
  pub comes_to : history_of setting sixteen ≡ expected
  pub refused : Answers (run setting (newly setting) sixteen).log 6 (Err StillOutstanding)
  pub lawful : Law tries gap expected
