-- What two ends do towards each other, and the terms in which their law speaks of it. Assumes nothing.
use Rattle.std.specs.Prelude.{◌≡◌, ℕ, suc, ◌+◌, ◌<◌, ◌≤◌, Bool, true, false, ◌⊎◌, List, [], ◌∷◌, map, length, Some, None, Option, Result}
use Rattle.datagram.specs.declared.fault.Fault.{Fault}
use Rattle.datagram.specs.Payloads.{Payload}
use Rattle.datagram.specs.Results.{map_ok}
use Rattle.datagram.specs.Structures.{type_of}
use Rattle.datagram.specs.Bodies.{body_payloads}

abbrev pub Octets : Type 0
Octets = List ℕ

-- a payload by its type, CRV and data, wherever it stands in a datagram
pub record Said : Type 0 where
  pub type : ℕ
  pub crv : ℕ
  pub octets : Octets

abbrev pub said_by : Payload → Said
said_by p = record { type = type_of p.content; crv = p.crv; octets = p.octets }

-- the payloads of a body, or its first fault
unfoldable pub said_in : Octets → Result (List Said) Fault
said_in b = map_ok (map said_by) (body_payloads b)

-- what becomes of a send that wants an Ack
pub data Outcome : Type 0 where
  acknowledged : Outcome
  rejected : (reason : ℕ) → Outcome
  unanswered : Outcome

-- the two ends
pub data Side : Type 0 where
  left right : Side

abbrev pub other : Side → Side
other left = right
other right = left

abbrev pub same : Side → Side → Bool
same left left = true
same left right = false
same right left = false
same right right = true

-- what an accepted tick of the other end's place did
pub data Ticked : Type 0 where
  sent_again : Octets → Ticked
  gave_up : Ticked
  kept_alive : Octets → Ticked
  let_be : Ticked

-- what one call of an end was between the two
pub data Act : Type 0 where
  -- refused, or nothing between the two; it may have given one of the end's numbers
  aside : (gave : Bool) → Act
  -- an accepted send for the other end's place: its body, and the datagram written
  sends : (want : Bool) (time : ℕ) (body datagram : Octets) → Act
  ticks : (time : ℕ) → Ticked → Act
  -- an accepted arrival under the other end's address: the entry that wrote the datagram given to it, whether the book found it fresh,
  -- the payloads handed out, the outcome answered, and the reply written
  arrives : (from : ℕ) (fresh : Bool) (handed : List Said) (outcome : Option Outcome) (reply : Option Octets) → Act

pub record Deed : Type 0 where
  pub side : Side
  pub act : Act

-- one deed for each entry of a log, the newest first
abbrev pub History : Type 0
History = List Deed

-- entry i, counted from 0 for the oldest, is the end s doing a
abbrev pub Does : History → ℕ → Side → Act → Type 0
Does [] i s a = ⊥
Does (d ∷ h) i s a = ((i ≡ length h) × (s ≡ d.side) × (a ≡ d.act)) ⊎ Does h i s a

-- the datagram that an act wrote for the other end
abbrev pub wrote : Act → Option Octets
wrote (aside g) = None
wrote (sends w t b d) = Some d
wrote (ticks t (sent_again d)) = Some d
wrote (ticks t gave_up) = None
wrote (ticks t (kept_alive d)) = Some d
wrote (ticks t let_be) = None
wrote (arrives k f ps o r) = r

-- entry k is the end s writing the datagram d for the other end
abbrev pub Wrote : History → ℕ → Side → Octets → Type 0
Wrote h k s d = (a : Act) × Does h k s a × (wrote a ≡ Some d)

-- entry i is a send of s that wants an Ack
abbrev pub Asks : History → Side → ℕ → Type 0
Asks h s i = (t : ℕ) × (b : Octets) × (d : Octets) × Does h i s (sends true t b d)

-- what happens at k belongs to the send i: it is the newest earlier one that wants an Ack
abbrev pub Belongs : History → Side → ℕ → ℕ → Type 0
Belongs h s i k = Asks h s i × (i < k) × ((j : ℕ) → Asks h s j → j < k → j ≤ i)

-- entry k resends the send i
abbrev pub Resends : History → Side → ℕ → ℕ → Type 0
Resends h s i k = (t : ℕ) × (d : Octets) × Does h k s (ticks t (sent_again d)) × Belongs h s i k

-- the send i goes on the line at entry k: in its own call, or in a resend
pub data OnLine (h : History) (s : Side) (i k : ℕ) : Type 0 where
  own : (want : Bool) (t : ℕ) (b d : Octets) → Does h i s (sends want t b d) → k ≡ i → OnLine h s i k
  more : Resends h s i k → OnLine h s i k

-- the send i has gone on the line n times, the last time at entry k
pub data Lines (h : History) (s : Side) (i : ℕ) : ℕ → ℕ → Type 0 where
  first : {n k : ℕ} (want : Bool) (t : ℕ) (b d : Octets) → Does h i s (sends want t b d) → k ≡ i → n ≡ 1 → Lines h s i n k
  next : {n k : ℕ} (m j : ℕ) → Lines h s i m j → j < k → Resends h s i k → n ≡ suc m → Lines h s i n k

-- entry j of the other end hands out the send i of s: it was given one of the send's datagrams, and answers payloads
abbrev pub HandsOut : History → Side → ℕ → ℕ → Type 0
HandsOut h s i j =
    (k : ℕ) × OnLine h s i k × (f : Bool) × (p : Said) × (ps : List Said) × (o : Option Outcome) × (r : Option Octets)
    × Does h j (other s) (arrives k f (p ∷ ps) o r)

-- entry k of s answers that the outcome of its send i is o
pub data Ends (h : History) (s : Side) (i k : ℕ) (o : Outcome) : Type 0 where
  by_tick : (t : ℕ) → Does h k s (ticks t gave_up) → o ≡ unanswered → Belongs h s i k → Ends h s i k o
  by_arrival : (m : ℕ) (f : Bool) (ps : List Said) (r : Option Octets) → Does h k s (arrives m f ps (Some o) r) → Belongs h s i k → Ends h s i k o

-- n accepted ticks have followed the send i, each at least `gap` after the one before and the first as long after the send; the last was
-- entry k, at the time t
pub data Waited (gap : ℕ) (h : History) (s : Side) (i : ℕ) : ℕ → ℕ → ℕ → Type 0 where
  start : {n k t : ℕ} (b d : Octets) → Does h i s (sends true t b d) → k ≡ i → n ≡ 0 → Waited gap h s i n k t
  then : {n k t : ℕ} (m j u : ℕ) (v : Ticked) → Waited gap h s i m j u → j < k → Does h k s (ticks t v) → u + gap ≤ t → n ≡ suc m → Waited gap h s i n k t
