-- The law of two ends, part by part. Each part is for both ends as the sender s. Assumes nothing.
use Rattle.std.specs.Prelude.{◌≡◌, ℕ, ◌<◌, ◌≤◌, Bool, List, ◌∷◌, Ok, Option}
use Rattle.trunk.specs.Acts.{Octets, Said, said_in, Outcome, acknowledged, Side, other, sends, arrives, History, Does, Wrote, OnLine, Lines, HandsOut, Ends, Waited}

-- no send is handed out twice
abbrev pub Once : History → Type 0
Once h = (s : Side) (i j k : ℕ) → HandsOut h s i j → HandsOut h s i k → j ≡ k

-- what an arrival hands out is, in order, all the payloads of one earlier send of the other end, whose datagram it was given
abbrev pub Whole : History → Type 0
Whole h =
    (s : Side) (j k : ℕ) (f : Bool) (p : Said) (ps : List Said) (o : Option Outcome) (r : Option Octets)
    → Does h j (other s) (arrives k f (p ∷ ps) o r)
    → (i : ℕ) × (w : Bool) × (t : ℕ) × (b : Octets) × (d : Octets)
    × Does h i s (sends w t b d) × OnLine h s i k × Wrote h k s d × (i < j) × (said_in b ≡ Ok (p ∷ ps))

-- a send is reported acknowledged only after it was handed out
abbrev pub After : History → Type 0
After h = (s : Side) (i k : ℕ) → Ends h s i k acknowledged → (j : ℕ) × HandsOut h s i j × (j < k)

-- of two acknowledged sends, the later was handed out later
abbrev pub InOrder : History → Type 0
InOrder h =
    (s : Side) (i i' k k' j j' : ℕ) → Ends h s i k acknowledged → Ends h s i' k' acknowledged → i < i'
    → HandsOut h s i j → HandsOut h s i' j' → j < j'

-- a send goes on the line at most so many times
abbrev pub Few : ℕ → History → Type 0
Few tries h = (s : Side) (i n k : ℕ) → Lines h s i n k → n ≤ tries

-- a send gets at most one outcome
abbrev pub Single : History → Type 0
Single h = (s : Side) (i k k' : ℕ) (o o' : Outcome) → Ends h s i k o → Ends h s i k' o' → (k ≡ k') × (o ≡ o')

-- after so many ticks, each so long after the one before, a send has its outcome
abbrev pub Settled : ℕ → ℕ → History → Type 0
Settled tries gap h = (s : Side) (i k t : ℕ) → Waited gap h s i tries k t → (m : ℕ) × (o : Outcome) × Ends h s i m o × (m ≤ k)

pub record Law (tries gap : ℕ) (h : History) : Type 0 where
  pub once : Once h
  pub whole : Whole h
  pub after : After h
  pub in_order : InOrder h
  pub few : Few tries h
  pub single : Single h
  pub settled : Settled tries gap h
