-- A message from its sending to its end, in every way, and a neighbour that falls silent. Assumes nothing.
use Rattle.std.specs.Prelude.{◌≡◌, ℕ, true, List, [], ◌∷◌, ◌++◌, replicate, Some, None, Ok, Err, Option, Result}
use Rattle.datagram.specs.Layout.{header_octets, payload_octets, alive_octets}
use Rattle.datagram.specs.Results.{map_ok}
use Rattle.datagram.specs.Structures.{call_message}
use Rattle.endpoint.specs.declared.answer.Outcome.TheVariants.{Acknowledged}
use Rattle.endpoint.specs.declared.answer.Sent.{Sent}
use Rattle.endpoint.specs.declared.answer.Ticked.TheVariants.{Resent, Unanswered, Silent, KeptAlive, Idle}
use Rattle.endpoint.specs.declared.peer.Peer.{Peer}
use Rattle.endpoint.specs.declared.peer.Role.TheVariants.{Master, Slave}
use Rattle.endpoint.specs.declared.refusal.Refusal.{Refusal}
use Rattle.endpoint.specs.declared.refusal.Refusal.TheVariants.{BodySize, StillOutstanding, ReplyTooLong}
use Rattle.endpoint.specs.Arrives.{Arrival, arrive}
use Rattle.endpoint.specs.Ends.{End, new_end}
use Rattle.endpoint.specs.Enrols.{enrol}
use Rattle.endpoint.specs.Sends.{send}
use Rattle.endpoint.specs.Ticks.{tick}

-- two neighbours, 10.0.0.1 and 10.0.0.2, both at port 1720
abbrev pub left : Peer
left = record { address = 10 ∷ 0 ∷ 0 ∷ 1 ∷ []; port = 1720 }

abbrev pub right : Peer
right = record { address = 10 ∷ 0 ∷ 0 ∷ 2 ∷ []; port = 1720 }

-- a call message of two octets under the call reference 1
abbrev pub body : List ℕ
body = 0x02 ∷ 0x00 ∷ 0x01 ∷ 0x00 ∷ 0x02 ∷ 0xAB ∷ 0xCD ∷ []

-- one of so many octets: 5 more in all
abbrev pub body_of : ℕ → List ℕ
body_of n = payload_octets 1 1 (replicate n 7)

-- the datagram of the first under the number 16,777,215, an Ack wanted
abbrev pub message : List ℕ
message = 0x01 ∷ 0xFF ∷ 0xFF ∷ 0xFF ∷ 0x00 ∷ body

-- the left end's last number before the wrap comes first; it has the right one at place 0, and is a slave there
abbrev pub ready : End
ready = (enrol (new_end 16777215) 0 0 right Slave).after

abbrev pub waiting : End
waiting = (send ready 0 0 true body 1024).after

abbrev pub ticked : ℕ → End → End
ticked time e = (tick e 0 time 1024).after

abbrev pub tries : End
tries = ticked 7000 (ticked 4000 (ticked 1000 waiting))

abbrev pub again : Sent
again = record { number = 16777215; size = 12 }

-- the right end starts with 0 and has the left one at place 5
abbrev pub listening : End
listening = (enrol (new_end 0) 5 0 left Master).after

-- number 0 with one payload, an Ack of 16,777,215
abbrev pub ack_of_last : List ℕ
ack_of_last = 0x00 ∷ 0x00 ∷ 0x00 ∷ 0x00 ∷ 0x00 ∷ 0x08 ∷ 0x00 ∷ 0x00 ∷ 0x00 ∷ 0x04 ∷ 0x02 ∷ 0xFF ∷ 0xFF ∷ 0xFF ∷ []

-- number 9, an Ack wanted, with one I-Am-Alive that wants a reply and has a cookie of so many octets: 14 more in all
abbrev pub asking : ℕ → List ℕ
asking n = header_octets 9 true 0 ++ payload_octets 3 0 (alive_octets 0 true (replicate n 7))

abbrev pub replied : ℕ → Result (Option Sent) Refusal
replied n = map_ok (λ (a : Arrival). a.reply) (arrive 64 listening 0 left (asking n) 1024).answer

pub record Examples : Type 0 where
  -- sent, and the next number is 0
  pub sends : (send ready 0 0 true body 1024).wrote ≡ message
  pub answers : (send ready 0 0 true body 1024).answer ≡ Ok again
  pub wraps : waiting.next ≡ 0
  pub one_at_a_time : (send waiting 0 0 true body 1024).answer ≡ Err StillOutstanding
  -- a body of 507 octets is sent, and one of 508 is refused
  pub longest_body : (send ready 0 0 true (body_of 502) 1024).answer ≡ Ok (record { number = 16777215; size = 512 })
  pub too_long_body : (send ready 0 0 true (body_of 503) 1024).answer ≡ Err BodySize
  -- sent again and given up
  pub before_the_first : (tick waiting 0 999 1024).answer ≡ Ok Idle
  pub first : (tick waiting 0 1000 1024).answer ≡ Ok (Resent again)
  pub first_octets : (tick waiting 0 1000 1024).wrote ≡ message
  pub second : (tick (ticked 1000 waiting) 0 4000 1024).answer ≡ Ok (Resent again)
  pub second_octets : (tick (ticked 1000 waiting) 0 4000 1024).wrote ≡ message
  pub third : (tick (ticked 4000 (ticked 1000 waiting)) 0 7000 1024).answer ≡ Ok (Resent again)
  pub third_octets : (tick (ticked 4000 (ticked 1000 waiting)) 0 7000 1024).wrote ≡ message
  pub before_the_end : (tick tries 0 9999 1024).answer ≡ Ok Idle
  pub gives_up : (tick tries 0 10000 1024).answer ≡ Ok (Unanswered 16777215)
  -- or received, and acknowledged
  pub arrives : (arrive 64 listening 40 left message 1024).answer ≡ Ok (record {
    fresh = true;
    payloads = record { crv = 1; offset = 10; octets = 0xAB ∷ 0xCD ∷ []; content = call_message (0xAB ∷ 0xCD ∷ []) } ∷ [];
    settled = None;
    reply = Some (record { number = 0; size = 14 });
  })
  pub replies : (arrive 64 listening 40 left message 1024).wrote ≡ ack_of_last
  pub settles : (arrive 24 waiting 80 right ack_of_last 1024).answer ≡ Ok (record {
    fresh = true;
    payloads = [];
    settled = Some (record { number = 16777215; outcome = Acknowledged });
    reply = None;
  })
  -- a neighbour that was heard 29,999 ago is not silent, and 30,000 ago it is
  pub not_yet_silent : (tick ready 0 29999 1024).answer ≡ Ok Idle
  pub silent : (tick ready 0 30000 1024).answer ≡ Ok Silent
  -- a master lets the line rest for 5,999, and after 6,000 it keeps it alive
  pub at_rest : (tick listening 5 5999 1024).answer ≡ Ok Idle
  pub kept_alive : (tick listening 5 6000 1024).answer ≡ Ok (KeptAlive (record { number = 0; size = 14 }))
  -- 1,015 octets are replied to with 1,024, and 1,016 would need one more
  pub longest_reply : replied 1001 ≡ Ok (Some (record { number = 0; size = 1024 }))
  pub too_long_reply : replied 1002 ≡ Err ReplyTooLong
