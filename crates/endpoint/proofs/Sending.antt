-- A send, by the parts in which the code asks and acts.
use Rattle.std.proofs.Common.{◌≡◌, ℕ, ◌+◌, ◌-◌, ◌%◌, Bool, true, false, List, ◌++◌, length, take, drop, set, Ok, Err, Result, sym, refl, ap, ◌∙◌, arith}
use Rattle.std.proofs.Math.Seq.{take-append_seam}
use Rattle.datagram.specs.Layout.{header_octets}
use Rattle.endpoint.specs.declared.refusal.Refusal.{Refusal}
use Rattle.endpoint.specs.Ends.{Neighbour, held, End, site_at, at_time, numbered}
use Rattle.endpoint.specs.Sends.{send_asks, awaiting, awaits, send_places, send_within, send}
use Rattle.endpoint.specs.Steps.{Does, first_no, refused, passes}
use Rattle.endpoint.specs.Timing.{numbers_left}
use Rattle.endpoint.proofs.Passing.{answers, says_no, says_yes}
use Rattle.datagram.specs.Bodies.{body_payloads}
use Rattle.writer.specs.Bodies.{how_many, headed}

-- the end that keeps a message, by its parts
pub kept : (e : End) (place time number : ℕ) (d : List ℕ) (n n' : Neighbour) → site_at e place ≡ held n → held n' ≡ awaiting number time d (held n)
    → record { book = e.book; latest = e.latest; given = e.given; next = e.next; places = set e.places place (held n') } ≡ awaits e place time number d
kept e place time number d n n' there h =
    let places : set e.places place (held n') ≡ set e.places place (awaiting number time d (site_at e place)) = ap (set e.places place) (h ∙ ap (awaiting number time d) (sym there)) in
    rw places refl

module _ (e : End) (place time : ℕ) (wants_ack : Bool) (body : List ℕ) (room : ℕ) where
  abbrev Asked : Result ℕ Refusal → Type 0
  Asked r = r ≡ passes (first_no (send_asks numbers_left e place time wants_ack body room)) (how_many (body_payloads body))

  pub refused_send : (r : Refusal) → Asked (Err r) → send e place time wants_ack body room ≡ refused r e
  unfolding send_within
  refused_send r h = rw (says_no _ (how_many (body_payloads body)) r h) refl

  -- the datagram that the code writes
  abbrev pub message : (number payloads : ℕ) → List ℕ
  message number payloads = header_octets number wants_ack (payloads - 1) ++ body

  pub same_message : (number payloads : ℕ) → Asked (Ok payloads) → number ≡ e.next → message number payloads ≡ headed e.next wants_ack body
  same_message number payloads h n = rw (n, answers _ (how_many (body_payloads body)) payloads h) refl

  size_of : (number payloads : ℕ) → 5 + length body ≡ length (message number payloads)
  size_of number payloads = omega arith

  pub sent : (number payloads : ℕ) → Asked (Ok payloads) → number ≡ e.next → (e' : End) → e' ≡ numbered (at_time e time (send_places e place time wants_ack (headed e.next wants_ack body)))
      → (size : ℕ) → size ≡ 5 + length body → (b b' : List ℕ) → b' ≡ message number payloads ++ drop (5 + length body) b
      → Does (send e place time wants_ack body room) (Ok (record { number = number; size = size })) e' b b'
  unfolding send_within
  sent number payloads h n e' leaves size is b b' wrote =
      rw (says_yes _ (how_many (body_payloads body)) payloads h) (record {
        answers = rw (n, is, size_of e.next (how_many (body_payloads body))) refl;
        leaves = leaves;
        writes = rw (wrote, n, answers _ (how_many (body_payloads body)) payloads h, size_of e.next (how_many (body_payloads body))) refl;
      })

  -- the front of the buffer is the datagram that is kept
  pub front : (number payloads size : ℕ) → size ≡ 5 + length body → (b b' : List ℕ) → b' ≡ message number payloads ++ drop (5 + length body) b → take size b' ≡ message number payloads
  front number payloads size is b b' wrote = rw (wrote, is, size_of number payloads) (take-append_seam (message number payloads) _)

  -- the end behind it, by its parts
  module _ (number next given : ℕ) (d : List ℕ) (n : number ≡ e.next) (turned : next ≡ (e.next + 1) % 16777216) (counted : given ≡ e.given + 1) where
    abbrev between : End
    between = record { book = e.book; latest = time; given = given; next = next; places = e.places }

    pub with_ack : wants_ack ≡ true → awaits between place time number d ≡ numbered (at_time e time (send_places e place time wants_ack d))
    with_ack w = rw (w, n, turned, counted) refl

    pub without_ack : wants_ack ≡ false → between ≡ numbered (at_time e time (send_places e place time wants_ack d))
    without_ack w = rw (w, turned, counted) refl
