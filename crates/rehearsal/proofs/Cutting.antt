-- What a cut of a text at its first sign is, by where `position` finds the sign. Assumes nothing.
use Rattle.std.proofs.Common.{◌≡◌, ℕ, ◌+◌, ◌-◌, ◌≤◌, cond, true, false, [], length, take, drop, Some, None, Option, eqb, ltb, arith, length-drop, sym, Bool, refl}
use borrow.Author.Tests.{ltb-false}
use Rattle.std.proofs.lemmas.List.{take_all, drop_all}
use Rattle.std.specs.List.{position_or_len}
use Rattle.rehearsal.specs.Reading.{before, behind}
use Rattle.rehearsal.specs.Words.{Text}

-- where the sign was found, and where not
abbrev pub found_at : ℕ → Text → Option ℕ
found_at sign t = cond (ltb (position_or_len (λ x. eqb x sign) t) (length t)) (Some (position_or_len (λ x. eqb x sign) t)) None

pub record CutAt (sign : ℕ) (t : Text) (i : ℕ) : Type 0 where
  pub front : take i t ≡ before sign t
  pub back : drop (i + 1) t ≡ behind sign t

pub record Uncut (sign : ℕ) (t : Text) : Type 0 where
  pub front : t ≡ before sign t
  pub back : [] ≡ behind sign t

found_there : (b : Bool) (n i : ℕ) → Some i ≡ cond b (Some n) None → i ≡ n
found_there true n i h = cc
found_there false n i h = cc

found_nowhere : (b : Bool) (n : ℕ) → None ≡ cond b (Some n) None → b ≡ false
found_nowhere true n h = cc
found_nowhere false n h = refl

pub cut_at : (sign : ℕ) (t : Text) (i : ℕ) → Some i ≡ found_at sign t → CutAt sign t i
cut_at sign t i h =
    let e : i ≡ position_or_len (λ x. eqb x sign) t = found_there _ _ _ h in
    record { front = rw e refl; back = rw e refl }

pub uncut : (sign : ℕ) (t : Text) → None ≡ found_at sign t → Uncut sign t
uncut sign t h =
    let n : ℕ = position_or_len (λ x. eqb x sign) t in
    let past : length t ≤ n = ltb-false _ _ (found_nowhere _ _ h) in
    record { front = sym (take_all n t past); back = sym (drop_all (n + 1) t (omega arith)) }

-- a slice from k on, as code makes it
pub all_behind : (t : Text) (k : ℕ) → take (length t - k) (drop k t) ≡ drop k t
all_behind t k = take_all (length t - k) (drop k t) (simp length-drop (omega arith))
