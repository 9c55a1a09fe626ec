-- What one call changes of what an end has of the other end: seven changes, and the histories that they lead to. Assumes nothing.
use Rattle.std.specs.Prelude.{◌≡◌, ℕ, ◌+◌, ◌%◌, ◌<◌, ◌≤◌, Bool, true, false, cond, ◌⊎◌, List, [], ◌∷◌, Some, None, Ok, Option}
use Rattle.arrivals.specs.declared.book.Judgement.TheVariants.{Fresh, Again}
use Rattle.arrivals.specs.Meaning.{Seen, blank, judged_at, noted_at}
use Rattle.trunk.specs.Acts.{Octets, Said, said_in, Outcome, acknowledged, Side, other, Ticked, sent_again, gave_up, kept_alive, let_be, Act, aside, sends, ticks, arrives, History, Wrote}
use Rattle.trunk.specs.Timely.{Timely}
use Rattle.trunk.specs.Law.{Law}

-- a message that waits for its Ack
pub record Waiting : Type 0 where
  pub number : ℕ
  pub times : ℕ
  pub due : ℕ
  pub octets : Octets

-- how long until the first resend, how long until each later step, and how often a send may go on the line
pub record Pace : Type 0 where
  pub first : ℕ
  pub later : ℕ
  pub tries : ℕ

-- what matters of a datagram to the end that reads it: its number, whether it wants an Ack, what it hands out if it is fresh, and what it
-- says of a number
pub record Heard : Type 0 where
  pub number : ℕ
  pub asks : Bool
  pub hands : List Said
  pub decides : ℕ → Option Outcome

-- what an end has of the other end: what waits, what its book has seen; with its next number and latest time
pub record View : Type 0 where
  pub out : Option Waiting
  pub seen : Seen
  pub next : ℕ
  pub latest : ℕ

abbrev pub bump : Bool → ℕ → ℕ
bump gave n = cond gave ((n + 1) % 16777216) n

-- only what is fresh settles what waits
abbrev pub settles : Bool → Option Waiting → Heard → Option Outcome
settles fresh None g = None
settles fresh (Some m) g = cond fresh (g.decides m.number) None

abbrev pub keep_unless : Option Outcome → Option Waiting → Option Waiting
keep_unless None m = m
keep_unless (Some o) m = None

-- nothing is acknowledged, or only what a datagram says of itself
abbrev pub Nothing : ℕ → Type 0
Nothing n = ⊥

abbrev pub Itself : Heard → ℕ → Type 0
Itself g n = (n ≡ g.number) × (g.asks ≡ true)

-- d is heard as g, numbered n, and acknowledges only such numbers
pub record Numbered (hear : Octets → Option Heard) (d : Octets) (n : ℕ) (acks : ℕ → Type 0) (g : Heard) : Type 0 where
  pub reads : hear d ≡ Some g
  pub number : g.number ≡ n
  pub acknowledges : (m : ℕ) → g.decides m ≡ Some acknowledged → acks m

-- the datagram of a send hands out the body's payloads, which are some
pub record Carries (hear : Octets → Option Heard) (d : Octets) (n : ℕ) (want : Bool) (b : Octets) : Type 0 where
  pub heard : Heard
  pub numbered : Numbered hear d n Nothing heard
  pub asks : heard.asks ≡ want
  pub hands : said_in b ≡ Ok heard.hands
  pub some : heard.hands ≡ [] → ⊥

-- any other datagram hands out nothing and wants no Ack
pub record Bare (hear : Octets → Option Heard) (d : Octets) (n : ℕ) (acks : ℕ → Type 0) : Type 0 where
  pub heard : Heard
  pub numbered : Numbered hear d n acks heard
  pub asks : heard.asks ≡ false
  pub hands : heard.hands ≡ []

module _ (hear : Octets → Option Heard) (τ : Pace) (depth : ℕ) where
  -- the end s does a, after the history h, and its view v becomes v'
  pub data Goes (h : History) (s : Side) (v : View) (a : Act) (v' : View) : Type 0 where
    goes_aside : (b : Bool) → a ≡ aside b
        → v'.out ≡ v.out → v'.seen ≡ v.seen → v'.next ≡ bump b v.next → v.latest ≤ v'.latest → Goes h s v a v'
    goes_telling : (t : ℕ) (b d : Octets) → a ≡ sends false t b d → Carries hear d v.next false b
        → v'.out ≡ v.out → v'.seen ≡ v.seen → v'.next ≡ bump true v.next → v.latest ≤ v'.latest → Goes h s v a v'
    goes_asking : (t : ℕ) (b d : Octets) → a ≡ sends true t b d → Carries hear d v.next true b → v.out ≡ None
        → v'.out ≡ Some (record { number = v.next; times = 1; due = t + τ.first; octets = d })
        → v'.seen ≡ v.seen → v'.next ≡ bump true v.next → v.latest ≤ t → v'.latest ≡ t → Goes h s v a v'
    goes_resending : (t : ℕ) (m : Waiting) → a ≡ ticks t (sent_again m.octets) → v.out ≡ Some m → m.due ≤ t → m.times < τ.tries
        → v'.out ≡ Some (record { number = m.number; times = m.times + 1; due = t + τ.later; octets = m.octets })
        → v'.seen ≡ v.seen → v'.next ≡ v.next → v.latest ≤ t → v'.latest ≡ t → Goes h s v a v'
    goes_giving_up : (t : ℕ) (m : Waiting) → a ≡ ticks t gave_up → v.out ≡ Some m → v'.out ≡ None
        → v'.seen ≡ v.seen → v'.next ≡ v.next → v.latest ≤ v'.latest → Goes h s v a v'
    -- nothing is due; an I-Am-Alive may be written
    goes_waiting : (t : ℕ) (b : Bool) (x : Ticked) → a ≡ ticks t x
        → ((b ≡ false) × (x ≡ let_be)) ⊎ ((b ≡ true) × (d : Octets) × (x ≡ kept_alive d) × Bare hear d v.next Nothing)
        → ((m : Waiting) → v.out ≡ Some m → t < m.due) → v'.out ≡ v.out → v'.seen ≡ v.seen → v'.next ≡ bump b v.next
        → v.latest ≤ t → v'.latest ≡ t → Goes h s v a v'
    -- a datagram of the other end is taken in, whether fresh or again; a reply may be written
    goes_arriving : (k : ℕ) (d : Octets) (g : Heard) (f : Bool) (r : Option Octets) (b : Bool)
        → a ≡ arrives k f (cond f g.hands []) (settles f v.out g) r
        → Wrote h k (other s) d → hear d ≡ Some g → judged_at depth v.seen g.number ≡ cond f Fresh Again
        → v'.out ≡ keep_unless (settles f v.out g) v.out
        → v'.seen ≡ noted_at depth v.seen g.number
        → ((b ≡ false) × (r ≡ None)) ⊎ ((b ≡ true) × (d' : Octets) × (r ≡ Some d') × Bare hear d' v.next (Itself g))
        → v'.next ≡ bump b v.next → v.latest ≤ v'.latest → Goes h s v a v'

-- an arrival is timely
abbrev pub TimelyAct : History → Side → Act → Type 0
TimelyAct h y a = (k : ℕ) (f : Bool) (ps : List Said) (o : Option Outcome) (r : Option Octets) → a ≡ arrives k f ps o r → Timely h y k

-- histories and views that two new ends can reach by such changes
pub data Reached (hear : Octets → Option Heard) (τ : Pace) (start depth : Side → ℕ) : History → (Side → View) → Type 0 where
  begun : {h : History} {v : Side → View} → h ≡ []
      → ((s : Side) → (v s).out ≡ None) → ((s : Side) → (v s).seen ≡ blank) → ((s : Side) → (v s).next ≡ start s) → Reached hear τ start depth h v
  went_on : {h' : History} {v' : Side → View} (h : History) (v : Side → View) (y : Side) (a : Act) → Reached hear τ start depth h v
      → h' ≡ record { side = y; act = a } ∷ h → v' (other y) ≡ v (other y)
      → Goes hear τ (depth y) h y (v y) a (v' y) → TimelyAct h y a → Reached hear τ start depth h' v'

-- whatever reads datagrams, every such history keeps the law
abbrev pub ChangesKeepTheLaw : Type 0
ChangesKeepTheLaw =
    (hear : Octets → Option Heard) (τ : Pace) (start depth : Side → ℕ) → 1 ≤ τ.tries → τ.first ≤ τ.later
    → ((s : Side) → start s < 16777216) → ((s : Side) → 1 ≤ depth s) → ((s : Side) → depth s ≤ 4096)
    → (h : History) (v : Side → View) → Reached hear τ start depth h v → Law τ.tries τ.later h
