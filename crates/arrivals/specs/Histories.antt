-- Laws of whole histories of notes from a new book, at any depth.
use Rattle.std.specs.Prelude.{◌≡◌, ℕ, ◌+◌, ◌<◌, ◌≤◌, cond, List, [], ◌∷◌, ◌==◌, ◌≢◌, nat_eq, nat_lt}
use Rattle.arrivals.specs.Meaning.{Seen, Book, Sound, blank, upto, steps_up, judged, noted, new_book}
use Rattle.arrivals.specs.declared.book.Judgement.TheVariants.{Fresh, Again, Old}

-- a note, by its place and its number
abbrev pub Note : Type 0
Note = ℕ × ℕ

-- a book after notes
abbrev pub after : ℕ → Book → List Note → Book
after depth book [] = book
after depth book (e ∷ es) = after depth (noted depth book e.0 e.1) es

-- the notes at one place
abbrev pub only_at : ℕ → List Note → List Note
only_at place [] = []
only_at place (e ∷ es) = cond (e.0 == place) (e ∷ only_at place es) (only_at place es)

-- notes at one place never change another, and a book has so many places
pub record PlacesApart (places : ℕ) : Type 0 where
  pub elsewhere : (depth : ℕ) (book : Book) (place n q : ℕ) → (q ≢ place) → noted depth book place n q ≡ book q
  pub alone : (depth : ℕ) (book : Book) (es : List Note) (place : ℕ) → after depth book es place ≡ after depth book (only_at place es) place
  pub beyond : (depth : ℕ) (es : List Note) (place : ℕ) → places ≤ place → after depth new_book es place ≡ blank
  pub within : (depth place n : ℕ) → place < places → n < 16777216 → noted depth new_book place n place ≡ upto n (λ k. nat_eq k n)

-- every set holds its newest number, and besides only numbers behind that by less than the depth; and there are so many numbers
pub record NumbersSound (numbers : ℕ) : Type 0 where
  pub sound : (depth : ℕ) (es : List Note) → Sound depth (after depth new_book es)
  pub beyond : (depth : ℕ) (es : List Note) (place n : ℕ) → numbers ≤ n → judged depth (after depth new_book es) place n ≡ Old
  pub within : (depth place n : ℕ) → place < 32 → n < numbers → judged depth new_book place n ≡ Fresh

-- how many steps lead from a number up to the newest of a place
abbrev pub lag : Seen → ℕ → ℕ
lag blank n = 0
lag (upto h s) n = steps_up h n

-- by how many steps the newest number of a place goes up from one moment to the next
abbrev pub rise : Seen → Seen → ℕ
rise blank later = 0
rise (upto h s) blank = 0
rise (upto h s) (upto g t) = steps_up g h

-- by how many steps it goes up in a whole history. A sum of rises, so it does not wrap
abbrev pub climb : ℕ → Book → ℕ → List Note → ℕ
climb depth book place [] = 0
climb depth book place (e ∷ es) = rise (book place) (noted depth book e.0 e.1 place) + climb depth (noted depth book e.0 e.1) place es

-- how far the newest number of a place is past n once a history has followed
abbrev pub distance : ℕ → Book → ℕ → ℕ → List Note → ℕ
distance depth book place n es = lag (book place) n + climb depth book place es

-- a number once noted is never fresh again while the newest is past it by at most so many steps: it is again within the depth, and old beyond.
-- One step more, and it can be fresh again, at every depth
pub record Remembers (memory : ℕ) : Type 0 where
  pub known : (depth : ℕ) → 1 ≤ depth → depth ≤ 4096 → (es fs : List Note) (place n : ℕ) (book : Book)
      → judged depth (after depth new_book es) place n ≡ Fresh → book ≡ noted depth (after depth new_book es) place n
      → distance depth book place n fs ≤ memory
      → judged depth (after depth book fs) place n ≡ cond (nat_lt (distance depth book place n fs) depth) Again Old
  pub forgotten : (depth : ℕ) → (fs : List Note) × (distance depth (noted depth new_book 0 0) 0 0 fs ≡ memory + 1)
      × (judged depth (after depth (noted depth new_book 0 0) fs) 0 0 ≡ Fresh)
