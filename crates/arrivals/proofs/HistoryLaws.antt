-- Whole histories of notes, from the definitions alone.
use Rattle.std.proofs.Common.{◌≡◌, ℕ, ◌<◌, ◌≤◌, true, false, cond, ◌&&◌, eqb, leb, ◌⊎◌, List, [], ◌∷◌, sym, refl, ap, ◌∙◌, subst, inl, inr, ⊎_elim, arith}
use mathlib.Core.Path.{fun_ext}
use mathlib.Core.Bool.{false≢true}
use Rattle.std.proofs.lemmas.Bool.{cases_eq, cases_lt, cases_Bool, eq-eqb, ne_eqb, eqb-true, or_cases, and_parts, or_left, or_right}
use Rattle.arrivals.specs.Meaning.{ahead, near, judged, judged_at, judged_number, noted, noted_at, with_fresh, new_book, is_fresh, Seen, Book, blank, upto, SoundAt, Sound}
use Rattle.arrivals.specs.Histories.{Note, after, only_at, PlacesApart, NumbersSound}
use Rattle.arrivals.specs.declared.book.Judgement.{Judgement}
use Rattle.arrivals.specs.declared.book.Judgement.TheVariants.{Fresh, Again, Old}
use Rattle.arrivals.specs.Steps.{up_self, ahead_none}
use Rattle.arrivals.specs.Judging.{again_held, is_near, noted_ahead, noted_behind}
use Rattle.arrivals.proofs.PlaceLaws.{not_fresh, judged_number_lem, judged_high, fresh_number, noted_fresh, noted_none, judged_in, judged_out, judged_outside, noted_out, noted_here, noted_elsewhere}

-- a judgement is fresh or not
pub fresh_or_not : (j : Judgement) → (j ≡ Fresh) ⊎ (j ≡ Fresh → ⊥)
fresh_or_not Fresh = inl refl
fresh_or_not Again = inr (λ e. let z : ◌≡◌ {A = ℕ} 0 1 = cc in omega arith)
fresh_or_not Old = inr (λ e. let z : ◌≡◌ {A = ℕ} 0 1 = cc in omega arith)

pub not_itself_ahead : (n : ℕ) → n < 16777216 → ahead n n ≡ false
not_itself_ahead n nn = ahead_none n n (rw (up_self n nn) (omega arith))

-- a place stays sound
sound_fresh : (d : ℕ) (s : Seen) (n : ℕ) → n < 16777216 → SoundAt d s → judged_number d s n ≡ Fresh → SoundAt d (with_fresh d s n)
unfolding with_fresh
sound_fresh d blank n nn ok f =
    (nn, eq-eqb n n refl, λ k e. let same = eqb-true k n e in (omega arith, inl same))
sound_fresh d (upto h s) n nn ok f =
    ⊎_elim
    (λ (a : ahead n h ≡ true). subst (SoundAt d) (sym (noted_ahead d h s n a)) (
      nn,
      or_left (eqb n n) _ (eq-eqb n n refl),
      λ k e. ⊎_elim
          (λ (t : eqb k n ≡ true). let same = eqb-true k n t in (omega arith, inl same))
          (λ (t : (s k && near d k n) ≡ true). let both = and_parts (s k) (near d k n) t in ((ok.2 k both.0).0, inr both.1))
          (or_cases (eqb k n) (s k && near d k n) e),
    ))
    (λ (a : ahead n h ≡ false). subst (SoundAt d) (sym (noted_behind d h s n a)) (
      ok.0,
      or_right (eqb h n) (s h) ok.1,
      λ k e. ⊎_elim
          (λ (t : eqb k n ≡ true). let same = eqb-true k n t in
          (omega arith, inr (ap (λ v. near d v h) same ∙ (is_near d h s n (ap is_fresh f) a).1)))
          (λ (t : s k ≡ true). ok.2 k t)
          (or_cases (eqb k n) (s k) e),
    ))
    (cases_Bool (ahead n h))

sound_noted : (d : ℕ) (s : Seen) (n : ℕ) → SoundAt d s → SoundAt d (noted_at d s n)
sound_noted d s n ok =
    ⊎_elim
    (λ f. let is = fresh_number d s n f in subst (SoundAt d) (sym (noted_fresh d s n f)) (sound_fresh d s n is.0 ok is.1))
    (λ ne. subst (SoundAt d) (sym (noted_none d s n ne)) ok)
    (fresh_or_not (judged_at d s n))

-- what a note leaves at a place: the place as it was, or the place with the number noted
module _ (d : ℕ) (b : Book) (p n q : ℕ) (P : Seen → Type 0) where
  pub by_place : P (b q) → (q ≡ p → p < 32 → P (noted_at d (b q) n)) → P (noted d b p n q)
  by_place old new =
      ⊎_elim
      (λ (same : q ≡ p). ⊎_elim
      (λ (within : p < 32). subst (λ i. P (noted d b p n i)) (sym same) (subst P (sym (noted_here d b p n within)) (subst (λ i. P (noted_at d (b i) n)) same (new same within))))
      (λ (far : 32 ≤ p). subst (λ c. P (c q)) (sym (noted_out d b p n far)) old)
      (cases_lt p 32))
      (λ (other : q ≡ p → ⊥). subst P (sym (noted_elsewhere d b p n q other)) old)
      (cases_eq q p)

pub sound_after : (d : ℕ) (b : Book) (es : List Note) → Sound d b → Sound d (after d b es)
sound_after d b [] ok = ok
sound_after d b (e ∷ es) ok = sound_after d (noted d b e.0 e.1) es (λ q. by_place d b e.0 e.1 q (SoundAt d) (ok q) (λ _ _. sound_noted d (b q) e.1 (ok q)))

pub sound_new : (d : ℕ) → Sound d new_book
unfolding new_book
sound_new d place = tt

new_blank : (place : ℕ) → new_book place ≡ blank
unfolding new_book
new_blank place = refl

-- notes at one place, and another
beyond_blank : (d : ℕ) (b : Book) (es : List Note) (q : ℕ) → 32 ≤ q → b q ≡ blank → after d b es q ≡ blank
beyond_blank d b [] q far e = e
beyond_blank d b (x ∷ es) q far e =
    beyond_blank d (noted d b x.0 x.1) es q far (by_place d b x.0 x.1 q (λ s. s ≡ blank) e (λ same within. absurd (omega arith)))

same_noted : (d : ℕ) (b c : Book) (p n q : ℕ) → b q ≡ c q → noted d b p n q ≡ noted d c p n q
unfolding noted
same_noted d b c p n q e = ap (λ s. cond (leb p 31 && eqb q p) (noted_at d s n) s) e

only_here : (d : ℕ) (es : List Note) (b c : Book) (q : ℕ) → b q ≡ c q → after d b es q ≡ after d c (only_at q es) q
only_here d [] b c q e = e
only_here d (x ∷ es) b c q e =
    ⊎_elim
    (λ (here : x.0 ≡ q). only_here d es (noted d b x.0 x.1) (noted d c x.0 x.1) q (same_noted d b c x.0 x.1 q e)
    ∙ sym (ap (λ t. after d c (cond t (x ∷ only_at q es) (only_at q es)) q) (eq-eqb x.0 q here)))
    (λ (other : x.0 ≡ q → ⊥). only_here d es (noted d b x.0 x.1) c q (noted_elsewhere d b x.0 x.1 q (λ same. other (sym same)) ∙ e)
    ∙ sym (ap (λ t. after d c (cond t (x ∷ only_at q es) (only_at q es)) q) (ne_eqb x.0 q other)))
    (cases_eq x.0 q)

first_note : (d p n : ℕ) → p < 32 → n < 16777216 → noted d new_book p n p ≡ upto n (λ k. eqb k n)
unfolding new_book judged_number with_fresh
first_note d p n pp nn = noted_here d new_book p n pp ∙ noted_fresh d blank n (judged_number_lem d blank n (omega arith))

pub places_apart : PlacesApart 32
places_apart = record {
  elsewhere = λ d b p n q other. noted_elsewhere d b p n q other;
  alone = λ d b es q. only_here d es b b q refl;
  beyond = λ d es q far. beyond_blank d new_book es q far (new_blank q);
  within = λ d p n pp nn. first_note d p n pp nn;
}

-- the numbers
high_old : (d : ℕ) (b : Book) (p n : ℕ) → 16777216 ≤ n → judged d b p n ≡ Old
high_old d b p n high =
    ⊎_elim
    (λ (within : p < 32). judged_in d b p n within ∙ judged_high d (b p) n (omega arith))
    (λ (far : 32 ≤ p). judged_out d b p n far)
    (cases_lt p 32)

new_fresh : (d p n : ℕ) → p < 32 → n < 16777216 → judged d new_book p n ≡ Fresh
unfolding new_book judged_number
new_fresh d p n pp nn = judged_in d new_book p n pp ∙ judged_number_lem d blank n (omega arith)

pub numbers_sound : NumbersSound 16777216
numbers_sound = record {
  sound = λ d es. sound_after d new_book es (sound_new d);
  beyond = λ d es p n high. high_old d (after d new_book es) p n high;
  within = λ d p n pp nn. new_fresh d p n pp nn;
}

-- a number is not fresh just after it was noted
again_noted : (d : ℕ) (s : Seen) (n : ℕ) → n < 16777216 → judged_number d (with_fresh d s n) n ≡ Again
unfolding with_fresh
again_noted d blank n nn = again_held d n (λ k. eqb k n) n (not_itself_ahead n nn) (eq-eqb n n refl)
again_noted d (upto h s) n nn =
    ⊎_elim
    (λ (a : ahead n h ≡ true). ap (λ v. judged_number d v n) (noted_ahead d h s n a) ∙ again_held d n _ n (not_itself_ahead n nn) (or_left (eqb n n) _ (eq-eqb n n refl)))
    (λ (a : ahead n h ≡ false). ap (λ v. judged_number d v n) (noted_behind d h s n a) ∙ again_held d h _ n a (or_left (eqb n n) _ (eq-eqb n n refl)))
    (cases_Bool (ahead n h))

not_fresh_at : (d : ℕ) (s : Seen) (n : ℕ) → is_fresh (judged_at d (noted_at d s n) n) ≡ false
not_fresh_at d s n =
    ⊎_elim
    (λ (f : judged_at d s n ≡ Fresh). let nn = (fresh_number d s n f).0 in
    ap is_fresh (ap (λ v. judged_at d v n) (noted_fresh d s n f) ∙ judged_number_lem d (with_fresh d s n) n (omega arith) ∙ again_noted d s n nn))
    (λ (ne : judged_at d s n ≡ Fresh → ⊥). ap (λ v. is_fresh (judged_at d v n)) (noted_none d s n ne) ∙ not_fresh (judged_at d s n) ne)
    (fresh_or_not (judged_at d s n))

pub not_fresh_noted : (d : ℕ) (b : Book) (p n : ℕ) → is_fresh (judged d (noted d b p n) p n) ≡ false
not_fresh_noted d b p n =
    ⊎_elim
    (λ (within : p < 32). ap is_fresh (judged_in d (noted d b p n) p n within ∙ ap (λ v. judged_at d v n) (noted_here d b p n within)) ∙ not_fresh_at d (b p) n)
    (λ (far : 32 ≤ p). ap is_fresh (judged_out d (noted d b p n) p n far))
    (cases_lt p 32)

-- what is not fresh changes no book
pub unchanged : (d : ℕ) (b : Book) (p n : ℕ) → (judged d b p n ≡ Fresh → ⊥) → noted d b p n ≡ b
unchanged d b p n ne = fun_ext (λ q. by_place d b p n q (λ s. s ≡ b q) refl
    (λ same within. noted_none d (b q) n (λ f. ne (judged_in d b p n within ∙ ap (λ i. judged_at d (b i) n) (sym same) ∙ f))))

-- what is past the last place or the last number changes nothing
pub outside_unchanged : (d : ℕ) (b : Book) (p n : ℕ) → (32 ≤ p) ⊎ (16777215 < n) → noted d b p n ≡ b
outside_unchanged d b p n out = unchanged d b p n (λ f. false≢true (ap is_fresh (sym (judged_outside d b p n out) ∙ f)))
