-- Where fresh ends, seen from a book that has noted one number at place 0.
use Rattle.std.specs.Prelude.{◌≡◌, ℕ, ◌+◌, ◌-◌}
use Rattle.arrivals.specs.Meaning.{Book, judged, noted, new_book}
use Rattle.arrivals.specs.declared.book.Judgement.TheVariants.{Fresh, Old}

abbrev pub once : ℕ → ℕ → Book
once depth n = noted depth new_book 0 n

-- newest 5: n is ahead, and the number after n is not
abbrev pub HalfEdge : ℕ → ℕ → Type 0
HalfEdge depth n = (judged depth (once depth 5) 0 n ≡ Fresh) × (judged depth (once depth 5) 0 (n + 1) ≡ Old)

-- newest 100: n, not noted, is within the depth, and the number before n is not
abbrev pub DepthEdge : ℕ → ℕ → Type 0
DepthEdge depth n = (judged depth (once depth 100) 0 n ≡ Fresh) × (judged depth (once depth 100) 0 (n - 1) ≡ Old)
