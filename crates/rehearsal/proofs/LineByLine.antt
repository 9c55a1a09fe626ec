-- The lines of a text, taken off one by one. Assumes nothing.
use Rattle.std.proofs.Common.{◌≡◌, ℕ, ◌+◌, ◌<◌, ◌≤◌, Bool, true, false, cond, not, [], ◌∷◌, length, suc, take, drop, eqb, arith, refl, sym, ap, ◌∙◌}
use Rattle.std.proofs.lemmas.List.{length-drop}
use Rattle.std.specs.List.{onto_first, position_or_len}
use Rattle.rehearsal.specs.declared.lines.Lines.{Lines}
use Rattle.rehearsal.specs.Ahead.{IsOff}
use Rattle.rehearsal.specs.Reading.{before, behind}
use Rattle.rehearsal.specs.Scripts.{lines_in, worded}
use Rattle.rehearsal.specs.Words.{Text}

otherwise : {X : Type 0} (b : Bool) (u v : X) → b ≡ false → cond b u v ≡ v
otherwise true u v e = cc
otherwise false u v e = refl

one_on : (b : Bool) (n : ℕ) → b ≡ false → cond (not b) (1 + n) 0 ≡ suc n
one_on true n e = cc
one_on false n e = omega arith

-- what stands before the first sign, and behind it, of a text that begins with another
before_more : (sign x : ℕ) (xs : Text) → eqb x sign ≡ false → before sign (x ∷ xs) ≡ x ∷ before sign xs
before_more sign x xs e = ap (λ n. take n (x ∷ xs)) (one_on _ (position_or_len (λ y. eqb y sign) xs) e)

behind_more : (sign x : ℕ) (xs : Text) → eqb x sign ≡ false → behind sign (x ∷ xs) ≡ behind sign xs
behind_more sign x xs e =
    let n : ℕ = position_or_len (λ y. eqb y sign) xs in
    let more : suc n + 1 ≡ suc (n + 1) = omega arith in
    ap (λ n. drop (n + 1) (x ∷ xs)) (one_on _ n e) ∙ ap (λ k. drop k (x ∷ xs)) more

-- so the lines of a text are what stands before its first newline, and the lines of what stands behind
First : Text → Type 0
First d = lines_in d ≡ before 0x0A d ∷ lines_in (behind 0x0A d)

first_then : (x : ℕ) (xs : Text) (b : Bool) → eqb x 0x0A ≡ b → (0 < length xs → First xs) → First (x ∷ xs)
unfolding First
first_then x xs true e more = rw e refl
first_then x [] false e more = rw e refl
first_then x (y ∷ ys) false e more =
    let on : lines_in (x ∷ y ∷ ys) ≡ onto_first x (lines_in (y ∷ ys)) = otherwise (eqb x 0x0A) _ _ e in
    on ∙ ap (onto_first x) (more (omega arith))
    ∙ ap (λ t. t ∷ lines_in (behind 0x0A (y ∷ ys))) (sym (before_more 0x0A x (y ∷ ys) e))
    ∙ ap (λ t. before 0x0A (x ∷ y ∷ ys) ∷ lines_in t) (sym (behind_more 0x0A x (y ∷ ys) e))

first_line : (d : Text) → 0 < length d → First d
first_line [] h = absurd (omega arith)
first_line (x ∷ xs) h = first_then x xs (eqb x 0x0A) refl (first_line xs)

behind_shorter : (sign : ℕ) (d : Text) → 0 < length d → length (behind sign d) + 1 ≤ length d
behind_shorter sign d h = simp length-drop (omega arith)

pub off : (s t : Lines) (line : Text) → 0 < length s.rest.now → t.before ≡ s.before + 1 → line ≡ before 0x0A s.rest.now → t.rest.now ≡ behind 0x0A s.rest.now → IsOff s t line
unfolding First
off s t line some one front rest =
    let first : lines_in s.rest.now ≡ line ∷ lines_in t.rest.now = rw (front, rest) (first_line s.rest.now some) in
    let fewer : length t.rest.now + 1 ≤ length s.rest.now = rw rest (behind_shorter 0x0A s.rest.now some) in
    let long : length (lines_in s.rest.now) ≡ suc (length (lines_in t.rest.now)) = ap length first in
    record {
      ahead = ap (worded s.before) first ∙ rw (← one) refl;
      total = omega arith;
      size = omega arith;
      fewer = fewer;
    }
