-- Judging and noting in a book that is kept place by place.
use Rattle.std.proofs.Common.{◌≡◌, ℕ, zero, suc, ◌<◌, ◌≤◌, false, cond, ◌&&◌, leb, ◌⊎◌, List, length, Some, None, Option, get_or, set, replicate, sym, refl, ap, ◌∙◌, ⊎_elim, arith, get_or-set_other, get_or-set_same}
use mathlib.Core.Path.{fun_ext}
use mathlib.Core.Bool.{false≢true, and-false}
use Rattle.std.proofs.lemmas.Bool.{cases_eq, cases_lt, le-leb, lt-leb, eq-eqb, ne_eqb}
use Rattle.arrivals.specs.Meaning.{judged, judged_at, judged_number, noted, noted_at, with_fresh, is_fresh, Seen, Book, SoundAt}
use Rattle.arrivals.specs.Tables.{place_seen}
use Rattle.arrivals.specs.declared.book.Judgement.{Judgement}
use Rattle.arrivals.specs.declared.book.Judgement.TheVariants.{Fresh, Again, Old}

pub not_fresh : (j : Judgement) → (j ≡ Fresh → ⊥) → is_fresh j ≡ false
not_fresh Fresh ne = absurd (ne refl)
not_fresh Again ne = refl
not_fresh Old ne = refl

-- at one place
module _ (d : ℕ) (s : Seen) (n : ℕ) where
  pub judged_number_lem : n ≤ 16777215 → judged_at d s n ≡ judged_number d s n
  unfolding judged_at
  judged_number_lem low = simp (le-leb n 16777215 low)

  pub judged_high : 16777215 < n → judged_at d s n ≡ Old
  unfolding judged_at
  judged_high high = simp (lt-leb n 16777215 high)

  -- what is fresh is a number
  pub fresh_number : judged_at d s n ≡ Fresh → (n < 16777216) × (judged_number d s n ≡ Fresh)
  fresh_number f =
      ⊎_elim
      (λ (high : 16777215 < n). absurd (false≢true (ap is_fresh (sym (judged_high high) ∙ f))))
      (λ (low : n ≤ 16777215). (omega arith, sym (judged_number_lem low) ∙ f))
      (cases_lt 16777215 n)

  pub noted_fresh : judged_at d s n ≡ Fresh → noted_at d s n ≡ with_fresh d s n
  unfolding noted_at
  noted_fresh f = simp f

  pub noted_none : (judged_at d s n ≡ Fresh → ⊥) → noted_at d s n ≡ s
  unfolding noted_at
  noted_none ne = simp (not_fresh (judged_at d s n) ne)

-- in a book
module _ (d : ℕ) (b : Book) (p n : ℕ) where
  pub judged_out : 32 ≤ p → judged d b p n ≡ Old
  unfolding judged
  judged_out far = simp (lt-leb p 31 (omega arith))

  pub judged_in : p < 32 → judged d b p n ≡ judged_at d (b p) n
  unfolding judged
  judged_in within = simp (le-leb p 31 (omega arith))

  pub judged_outside : (32 ≤ p) ⊎ (16777215 < n) → judged d b p n ≡ Old
  judged_outside out =
      ⊎_elim
      (λ (within : p < 32). ⊎_elim judged_out (λ high. judged_in within ∙ judged_high d (b p) n high) out)
      judged_out
      (cases_lt p 32)

  pub judged_inside : p < 32 → n < 16777216 → judged d b p n ≡ judged_number d (b p) n
  judged_inside within low = judged_in within ∙ judged_number_lem d (b p) n (omega arith)

  pub fresh_place : judged d b p n ≡ Fresh → (p < 32) × (judged_at d (b p) n ≡ Fresh)
  fresh_place f =
      ⊎_elim
      (λ (within : p < 32). (within, sym (judged_in within) ∙ f))
      (λ (far : 32 ≤ p). absurd (false≢true (ap is_fresh (sym (judged_out far) ∙ f))))
      (cases_lt p 32)

  pub noted_out : 32 ≤ p → noted d b p n ≡ b
  unfolding noted
  noted_out far = fun_ext (λ q. simp (lt-leb p 31 (omega arith)))

  pub noted_here : p < 32 → noted d b p n p ≡ noted_at d (b p) n
  unfolding noted
  noted_here within = simp (le-leb p 31 (omega arith), eq-eqb p p refl)

  pub noted_elsewhere : (q : ℕ) → (q ≡ p → ⊥) → noted d b p n q ≡ b q
  unfolding noted
  noted_elsewhere q other =
      ap (λ t. cond t (noted_at d (b q) n) (b q)) (ap (λ t. leb p 31 && t) (ne_eqb q p other) ∙ and-false (leb p 31))

-- in a list of places
module _ {P : Type 0} (d : ℕ) (seen : P → Seen) (empty : P) (ps : List P) (p n : ℕ) (v : P) where
  pub noted_one : p < length ps → p < 32 → seen v ≡ noted_at d (seen (get_or ps p empty)) n
      → ◌≡◌ {A = Book} (λ q. seen (get_or (set ps p v) q empty)) (noted d (λ q. seen (get_or ps q empty)) p n)
  noted_one within low e = fun_ext (λ q. ⊎_elim
      (λ same. ap (λ i. seen (get_or (set ps p v) i empty)) same ∙ ap seen (get_or-set_same ps p v empty within) ∙ e
      ∙ sym (ap (noted d (λ i. seen (get_or ps i empty)) p n) same ∙ noted_here d (λ i. seen (get_or ps i empty)) p n low))
      (λ other. ap seen (get_or-set_other ps p q v empty other) ∙ sym (noted_elsewhere d (λ i. seen (get_or ps i empty)) p n q other))
      (cases_eq q p))

-- a list of equal elements
pub get_d_same : {P : Type 0} (k i : ℕ) (a : P) → get_or (replicate k a) i a ≡ a
get_d_same zero i a = refl
get_d_same (suc k) zero a = refl
get_d_same (suc k) (suc i) a = get_d_same k i a

-- places are sound where their windows are
pub place_sound : {W : Type 0} (d : ℕ) (seen : W → Seen) → ((w : W) → SoundAt d (seen w)) → (p : Option W) → SoundAt d (place_seen seen p)
place_sound d seen sound None = tt
place_sound d seen sound (Some w) = sound w
