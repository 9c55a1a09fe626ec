-- Runs of judge-and-note, as they are written into a buffer.
use Rattle.std.specs.Prelude.{◌≡◌, ℕ, min, List, [], ◌∷◌, length}
use Rattle.arrivals.specs.Meaning.{Book, judged, noted}
use Rattle.arrivals.specs.declared.book.Judgement.{Judgement}
use Rattle.arrivals.specs.declared.book.Judgement.TheVariants.{Fresh, Again, Old}

-- the octet that a judgement is written as
abbrev pub code : Judgement → ℕ
code Fresh = 0
code Again = 1
code Old = 2

-- a buffer after a run: an octet for each place and number while all three last, and the rest as it was
abbrev pub filled : ℕ → Book → List ℕ → List ℕ → List ℕ → List ℕ
filled depth book [] numbers buffer = buffer
filled depth book (p ∷ places) [] buffer = buffer
filled depth book (p ∷ places) (n ∷ numbers) [] = []
filled depth book (p ∷ places) (n ∷ numbers) (b ∷ buffer) = code (judged depth book p n) ∷ filled depth (noted depth book p n) places numbers buffer

-- what a run comes to: how far it went, and what the buffer holds after
pub record Ran (depth : ℕ) (book : Book) (places numbers before : List ℕ) (answer : ℕ) (later : List ℕ) : Type 0 where
  pub counts : answer ≡ min (min (length places) (length numbers)) (length before)
  pub writes : later ≡ filled depth book places numbers before
