-- An arrival, by the parts in which the code asks and acts.
use Rattle.std.proofs.Common.{◌≡◌, ℕ, Bool, cond, List, [], ◌∷◌, ◌++◌, length, drop, set, Ok, Err, Option, Result, sym, refl, ap, ◌∙◌}
use Rattle.arrivals.specs.Meaning.{Book, judged, noted, is_fresh}
use Rattle.datagram.specs.declared.fault.Fault.{Fault}
use Rattle.datagram.specs.Datagrams.{Datagram, read}
use Rattle.datagram.specs.Payloads.{Payload}
use Rattle.datagram.specs.Structures.{Content}
use Rattle.endpoint.specs.declared.answer.Sent.{Sent}
use Rattle.endpoint.specs.declared.answer.Settled.{Settled}
use Rattle.endpoint.specs.declared.peer.Peer.{Peer}
use Rattle.endpoint.specs.declared.refusal.Refusal.{Refusal}
use Rattle.endpoint.specs.declared.refusal.Refusal.TheVariants.{Unreadable}
use Rattle.endpoint.specs.Arrives.{sender_place, said_by, or_blank, arrive_asks, arrive_acts, settles, handed_out, hearing, heard_at, arrive_within, arrive}
use Rattle.endpoint.specs.Asking.{sender_asks, reply_asks}
use Rattle.endpoint.specs.Ends.{Neighbour, held, End, site_at, outstanding_at}
use Rattle.endpoint.specs.Replies.{reply_to, reply_octets, reply_sent, replying}
use Rattle.endpoint.specs.Steps.{Does, Question, ask_read, first_no, refused, passes}
use Rattle.endpoint.specs.Timing.{numbers_left}
use Rattle.endpoint.proofs.Passing.{answers, says_no, says_yes, still_no, asked_on}

-- the end that has heard, by its parts
pub hears : (depth : ℕ) (e : End) (place time number : ℕ) (s : Option Settled) (n n' : Neighbour) (book : Book) → book ≡ noted depth e.book place number
    → site_at e place ≡ held n → held n' ≡ heard_at time s (held n)
    → record { book = book; latest = time; given = e.given; next = e.next; places = set e.places place (held n') } ≡ hearing depth e place time number s
hears depth e place time number s n n' book b there h =
    let places : set e.places place (held n') ≡ set e.places place (heard_at time s (site_at e place)) = ap (set e.places place) (h ∙ ap (heard_at time s) (sym there)) in
    rw (b, places) refl

module _ (depth : ℕ) (e : End) (time : ℕ) (sender : Peer) (d : List ℕ) (room : ℕ) where
  abbrev place : ℕ
  place = sender_place e sender

  abbrev first_asks : List Question
  first_asks = sender_asks e time sender room

  abbrev last_asks : Datagram → List Question
  last_asks g = reply_asks depth e place g.number (reply_to g)

  abbrev fresh : Datagram → Bool
  fresh g = is_fresh (judged depth e.book place g.number)

  -- a no before the datagram is read
  pub refused_unread : (p : ℕ) (r : Refusal) → Err r ≡ passes (first_no first_asks) p → arrive depth e time sender d room ≡ refused r e
  unfolding arrive_within
  refused_unread p r h = rw (still_no first_asks (ask_read (read d) ∷ last_asks (said_by d)) r (says_no _ p r h)) refl

  module _ (p : ℕ) (passed : Ok p ≡ passes (first_no first_asks) place) where
    asks : first_no (arrive_asks numbers_left depth e time sender d room) ≡ first_no (ask_read (read d) ∷ last_asks (said_by d))
    asks = asked_on first_asks (ask_read (read d) ∷ last_asks (said_by d)) (says_yes _ place p passed)

    -- a fault of the datagram
    pub refused_faulty : (f : Fault) → read d ≡ Err f → arrive depth e time sender d room ≡ refused (Unreadable f) e
    unfolding arrive_within
    refused_faulty f h = rw (asks, h) refl

    module _ (g : Datagram) (is : read d ≡ Ok g) where
      later : first_no (arrive_asks numbers_left depth e time sender d room) ≡ first_no (last_asks g)
      later = asks ∙ ap (λ (x : Result Datagram Fault). first_no (ask_read x ∷ last_asks (or_blank x))) is

      -- a no behind it
      pub refused_read : (r : Refusal) (b : Bool) → Err r ≡ passes (first_no (last_asks g)) b → arrive depth e time sender d room ≡ refused r e
      unfolding arrive_within
      refused_read r b h = rw (later, says_no _ b r h) refl

      pub accepted : (b : Bool) → Ok b ≡ passes (first_no (last_asks g)) (fresh g) → arrive depth e time sender d room ≡ arrive_acts depth e place time (fresh g) g
      unfolding arrive_within
      accepted b h = rw (later, says_yes _ (fresh g) b h, is) refl

      -- what is done then, where the code kept the place and the reply
      module _ (cs : List Content) (to : cs ≡ reply_to g) where
        abbrev Passed : Result Bool Refusal → Type 0
        Passed r = r ≡ passes (first_no (reply_asks depth e p g.number cs)) (is_fresh (judged depth e.book p g.number))

        same_place : p ≡ place
        same_place = answers (first_no first_asks) place p passed

        as_defined : (r : Result Bool Refusal) → Passed r → r ≡ passes (first_no (last_asks g)) (fresh g)
        as_defined r h = rw (same_place, to) at h

        pub refused_late : (r : Refusal) → Passed (Err r) → arrive depth e time sender d room ≡ refused r e
        refused_late r h = refused_read r (fresh g) (as_defined (Err r) h)

        pub arrived : (f : Bool) → Passed (Ok f) → (s : Option Settled) → s ≡ settles f (outstanding_at (site_at e p)) g.payloads
            → (e1 e2 : End) → e1 ≡ hearing depth e p time g.number s → e2 ≡ replying cs e1
            → (o : Option Sent) → o ≡ reply_sent e1.next cs → (b b' : List ℕ) → b' ≡ reply_octets e1.next cs ++ drop (length (reply_octets e1.next cs)) b
            → (ms : List Payload) → ms ≡ cond f (handed_out g.payloads) []
            → Does (arrive depth e time sender d room) (Ok (record { fresh = f; payloads = ms; settled = s; reply = o })) e2 b b'
        arrived f h s settled e1 e2 heard replied o sent b b' wrote ms handed =
            let is_fresh = answers (first_no (last_asks g)) (fresh g) f (as_defined (Ok f) h) in
            rw (accepted f (as_defined (Ok f) h)) (record {
              answers = rw (handed, sent, heard, settled, to, same_place, is_fresh) refl;
              leaves = rw (replied, heard, settled, to, same_place, is_fresh) refl;
              writes = rw (wrote, heard, to) refl;
            })
