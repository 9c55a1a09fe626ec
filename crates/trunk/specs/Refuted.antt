-- For each part of the law a short history that this part refutes. Assumes nothing.
use Rattle.std.specs.Prelude.{ℕ, true, [], ◌∷◌, Some, None}
use Rattle.trunk.specs.Acts.{Octets, Said, acknowledged, Side, left, right, sent_again, gave_up, let_be, Act, sends, ticks, arrives, Deed, History}
use Rattle.trunk.specs.Law.{Once, Whole, After, InOrder, Few, Single, Settled}

abbrev pub deed : Side → Act → Deed
deed s a = record { side = s; act = a }

-- a body of one call message with the CRV 1 and one octet x, its payloads, and its datagram under the number n that wants an Ack
abbrev pub body_with : ℕ → Octets
body_with x = 0x02 ∷ 0x00 ∷ 0x01 ∷ 0x00 ∷ 0x01 ∷ x ∷ []

abbrev pub said : ℕ → Said
said x = record { type = 1; crv = 1; octets = x ∷ [] }

abbrev pub datagram_with : ℕ → ℕ → Octets
datagram_with n x = 0x01 ∷ 0x00 ∷ 0x00 ∷ n ∷ 0x00 ∷ body_with x

-- the left end sends it, resends it, gives it up, waits, and gets its Ack from the datagram of entry k; the right end hands it out
abbrev pub sends_now : ℕ → ℕ → Deed
sends_now n x = deed left (sends true 0 (body_with x) (datagram_with n x))

abbrev pub resends_at : ℕ → Deed
resends_at t = deed left (ticks t (sent_again (datagram_with 0 0x09)))

abbrev pub gives_up_at : ℕ → Deed
gives_up_at t = deed left (ticks t gave_up)

abbrev pub waits_at : ℕ → Deed
waits_at t = deed left (ticks t let_be)

abbrev pub acknowledged_by : ℕ → Deed
acknowledged_by k = deed left (arrives k true [] (Some acknowledged) None)

abbrev pub hands_out_of : ℕ → ℕ → Deed
hands_out_of k x = deed right (arrives k true (said x ∷ []) None None)

-- the newest entry stands first
abbrev pub handed_out_twice : History
handed_out_twice = hands_out_of 0 0x09 ∷ hands_out_of 0 0x09 ∷ sends_now 0 0x09 ∷ []

abbrev pub never_sent : History
never_sent = hands_out_of 0 0x09 ∷ sends_now 0 0x08 ∷ []

abbrev pub acknowledged_first : History
acknowledged_first = hands_out_of 0 0x09 ∷ acknowledged_by 0 ∷ sends_now 0 0x09 ∷ []

abbrev pub handed_out_in_reverse : History
handed_out_in_reverse = hands_out_of 0 0x09 ∷ hands_out_of 2 0x08 ∷ acknowledged_by 2 ∷ sends_now 1 0x08 ∷ acknowledged_by 0 ∷ sends_now 0 0x09 ∷ []

abbrev pub five_times_on_the_line : History
five_times_on_the_line = resends_at 10000 ∷ resends_at 7000 ∷ resends_at 4000 ∷ resends_at 1000 ∷ sends_now 0 0x09 ∷ []

abbrev pub given_up_twice : History
given_up_twice = gives_up_at 13000 ∷ gives_up_at 10000 ∷ sends_now 0 0x09 ∷ []

abbrev pub left_outstanding : History
left_outstanding = waits_at 12000 ∷ waits_at 9000 ∷ waits_at 6000 ∷ waits_at 3000 ∷ sends_now 0 0x09 ∷ []

pub record EachPartRefutes (tries gap : ℕ) : Type 0 where
  pub once : Once handed_out_twice → ⊥
  pub whole : Whole never_sent → ⊥
  pub after : After acknowledged_first → ⊥
  pub in_order : InOrder handed_out_in_reverse → ⊥
  pub few : Few tries five_times_on_the_line → ⊥
  pub single : Single given_up_twice → ⊥
  pub settled : Settled tries gap left_outstanding → ⊥
