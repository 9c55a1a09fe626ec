-- A place that is kept as marks, by how far a number is behind the newest.
use Rattle.std.specs.Prelude.{ℕ, Bool, ◌&&◌, nat_le, nat_lt}
use Rattle.arrivals.specs.Meaning.{steps_up, Seen, upto}

-- the mark j, below the depth, stands for the number that is behind the newest by j
unfoldable pub marked : ℕ → ℕ → (ℕ → Bool) → ℕ → Bool
marked depth newest mark k = nat_le k 16777215 && (nat_lt (steps_up newest k) depth && mark (steps_up newest k))

unfoldable pub window : ℕ → ℕ → (ℕ → Bool) → Seen
window depth newest mark = upto newest (marked depth newest mark)
