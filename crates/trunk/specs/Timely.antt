-- The premise on the line, for ends whose numbers wrap: what arrives between the two was numbered less than half the numbers ago. Assumes nothing.
use Rattle.std.specs.Prelude.{◌≡◌, ℕ, ◌+◌, ◌≤◌, Bool, true, false, cond, ◌&&◌, ◌⊎◌, List, [], ◌∷◌, length, Some, None, Option, nat_lt}
use Rattle.trunk.specs.Acts.{Octets, Said, Outcome, Side, other, same, sent_again, gave_up, kept_alive, let_be, Act, aside, sends, ticks, arrives, History, Does, Resends}

-- whether an act gave one of its end's numbers
abbrev pub takes : Act → Bool
takes (aside g) = g
takes (sends w t b d) = true
takes (ticks t (sent_again d)) = false
takes (ticks t gave_up) = false
takes (ticks t (kept_alive d)) = true
takes (ticks t let_be) = false
takes (arrives k f ps o None) = false
takes (arrives k f ps o (Some d)) = true

-- how many numbers s has given
abbrev pub given : History → Side → ℕ
given [] s = 0
given (d ∷ h) s = given h s + cond (same s d.side && takes d.act) 1 0

-- how many it had given before entry i: the index of the number given there, which does not wrap
abbrev pub index : History → Side → ℕ → ℕ
index [] s i = 0
index (d ∷ h) s i = cond (nat_lt i (length h)) (index h s i) (given h s)

-- entry i of s gave a number
abbrev pub Taken : History → Side → ℕ → Type 0
Taken h s i = (a : Act) × Does h i s a × (takes a ≡ true)

-- the datagram of entry k was numbered at entry i: there, or before it was resent
abbrev pub Root : History → Side → ℕ → ℕ → Type 0
Root h s i k = Taken h s i × ((k ≡ i) ⊎ Resends h s i k)

-- entry j of the other end was given a datagram of s that was numbered at entry i
abbrev pub Got : History → Side → ℕ → ℕ → Bool → Type 0
Got h s j i f =
    (k : ℕ) × (ps : List Said) × (o : Option Outcome) × (r : Option Octets) × Does h j (other s) (arrives k f ps o r) × Root h s i k

-- g is the index of a number of s that was found fresh
abbrev pub FoundFresh : History → Side → ℕ → Type 0
FoundFresh h s g = (j : ℕ) × (i : ℕ) × Got h s j i true × (g ≡ index h s i)

-- for an arrival at y of the datagram that s wrote at entry k: s has given few numbers since that datagram's own, and since the newest of its
-- numbers that was found fresh; and y has given few since that datagram was numbered
abbrev pub TimelyFrom : History → Side → Side → ℕ → Type 0
TimelyFrom h s y k =
    (i : ℕ) → Root h s i k
    → (given h s ≤ index h s i + 8388608)
    × ((H : ℕ) → FoundFresh h s H → ((x : ℕ) → FoundFresh h s x → x ≤ H) → given h s ≤ H + 8388608)
    × (given h y ≤ index h y i + 8388608)

abbrev pub Timely : History → Side → ℕ → Type 0
Timely h y k = TimelyFrom h (other y) y k
