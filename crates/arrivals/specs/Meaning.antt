-- What an arrival book means, whatever keeps it. Numbers run from 0 to 16,777,215 and wrap; places run from 0 to 31.
use Rattle.std.specs.Prelude.{◌≡◌, ℕ, ◌+◌, ◌-◌, ◌%◌, ◌<◌, Bool, true, false, cond, not, ◌&&◌, ◌||◌, ◌⊎◌, ◌==◌, ◌≢◌, nat_eq, nat_le, nat_lt}
use Rattle.arrivals.specs.declared.book.Judgement.{Judgement}
use Rattle.arrivals.specs.declared.book.Judgement.TheVariants.{Fresh, Again, Old}

-- how many steps lead from b up to a: (a − b) mod 16,777,216
unfoldable pub steps_up : ℕ → ℕ → ℕ
steps_up a b = (a + (16777216 - b % 16777216)) % 16777216

-- n is ahead of h
unfoldable pub ahead : ℕ → ℕ → Bool
ahead n h = nat_le 1 (steps_up n h) && nat_le (steps_up n h) 8388607

-- n is behind h: neither ahead of it nor equal to it. It is behind by steps_up h n
unfoldable pub behind : ℕ → ℕ → Bool
behind n h = not (ahead n h) && not (n == h)

-- n is behind h by less than the depth
unfoldable pub near : ℕ → ℕ → ℕ → Bool
near depth n h = behind n h && nat_lt (steps_up h n) depth

-- what a place has seen: nothing, or a newest number with the set of the noted numbers, given by its test
pub data Seen : Type 0 where
  blank : Seen
  upto : ℕ → (ℕ → Bool) → Seen

-- what a book has seen, place by place
abbrev pub Book : Type 0
Book = ℕ → Seen

unfoldable pub new_book : Book
new_book = λ place. blank

-- a number from 0 to 16,777,215, judged at a place
unfoldable pub judged_number : ℕ → Seen → ℕ → Judgement
judged_number depth blank n = Fresh
judged_number depth (upto h s) n = cond (ahead n h || (near depth n h && not (s n))) Fresh (cond (s n) Again Old)

-- any number, judged at a place
unfoldable pub judged_at : ℕ → Seen → ℕ → Judgement
judged_at depth seen n = cond (nat_le n 16777215) (judged_number depth seen n) Old

-- any number, judged at any place of a book
unfoldable pub judged : ℕ → Book → ℕ → ℕ → Judgement
judged depth book place n = cond (nat_le place 31) (judged_at depth (book place) n) Old

abbrev pub is_fresh : Judgement → Bool
is_fresh Fresh = true
is_fresh Again = false
is_fresh Old = false

-- a place with one fresh number more: at a blank place, or ahead, it becomes the newest, and of the earlier numbers only the near ones stay
unfoldable pub with_fresh : ℕ → Seen → ℕ → Seen
with_fresh depth blank n = upto n (λ k. nat_eq k n)
with_fresh depth (upto h s) n = cond (ahead n h) (upto n (λ k. (k == n) || (s k && near depth k n))) (upto h (λ k. (k == n) || s k))

-- any number, noted at a place: what is not fresh changes nothing
unfoldable pub noted_at : ℕ → Seen → ℕ → Seen
noted_at depth seen n = cond (is_fresh (judged_at depth seen n)) (with_fresh depth seen n) seen

-- any number, noted at any place of a book: no other place changes
unfoldable pub noted : ℕ → Book → ℕ → ℕ → Book
noted depth book place n = λ q. cond (nat_le place 31 && q == place) (noted_at depth (book q) n) (book q)

-- what holds of a place of every book: its set holds the newest number, and all its others are behind that by less than the depth
abbrev pub SoundAt : ℕ → Seen → Type 0
SoundAt depth blank = Unit {0}
SoundAt depth (upto h s) = (h < 16777216) × (s h ≡ true) × ((k : ℕ) → s k ≡ true → (k < 16777216) × ((k ≡ h) ⊎ (near depth k h ≡ true)))

abbrev pub Sound : ℕ → Book → Type 0
Sound depth book = (place : ℕ) → SoundAt depth (book place)

-- what judging a number and noting it if fresh comes to, for every book
pub record JudgedAndNoted (depth : ℕ) (before : Book) (place n : ℕ) (answer : Judgement) (later : Book) : Type 0 where
  pub judges : answer ≡ judged depth before place n
  pub notes : later ≡ noted depth before place n
  -- straight after, the number is not fresh
  pub known : is_fresh (judged depth later place n) ≡ false
  pub elsewhere : (q : ℕ) → (q ≢ place) → later q ≡ before q
