-- What `parse` reads of digits is the number that they stand for. Assumes nothing.
use Rattle.std.proofs.Common.{◌≡◌, ℕ, ◌^◌, ◌<◌, true, length, Some, None, Ok, Err, Result, rules, arith}
use Rattle.std.proofs.lemmas.Grind.{common_steps}
use Rattle.std.proofs.lemmas.Str.Parse.{IsNumeralModel, numerals_by_fold, parse_digits}
use Rattle.std.proofs.lemmas.Bool.Decides.{nat_tests}
use Rattle.std.proofs.lemmas.Fmt.{IsAscii-from_digits}
use Rattle.std.proofs.lemmas.Str.{IsUtf8-from_ascii}
use Rattle.std.specs.List.{list_all}
use Rattle.std.specs.Result.{OkIff, MatchResult, result_ok}
use Rattle.std.specs.Str.{IsAscii, IsUtf8}
use Rattle.std.specs.Str.Parse.{ParsesUnsigned}
use denote.Ref.{Bor}
use Rattle.rehearsal.specs.Reading.{is_digit, value_behind, value, number_in}
use Rattle.rehearsal.specs.Words.{Text}

own : IsNumeralModel (λ ds. list_all is_digit ds ≡ true) (value_behind 0)
own = numerals_by_fold _ (search rules) value_behind (search rules)

read_so : {E : Type 0} (w : Text) (r : Result ℕ E) → list_all is_digit w ≡ true → OkIff r ((0 < length w) × (value w < 2 ^ 64)) (value w) → result_ok r ≡ number_in w
read_so w (Ok x) d h = grind (arith, common_steps, nat_tests)
read_so w (Err e) d h = grind (arith, common_steps, nat_tests)

pub number_read : {E : Type 0} (w : Text) (r : Result ℕ E) → list_all is_digit w ≡ true → ParsesUnsigned 64 10 w r → result_ok r ≡ number_in w
number_read w r d h = read_so w r d (parse_digits own 64 w r h d)

-- digits are text
digits_are_ascii : (w : Text) → list_all is_digit w ≡ true → IsAscii w
digits_are_ascii w d = IsAscii-from_digits w (own.to w d)

pub digits_are_text : {A E : Type 0} (P : A → Type 0) (Q : E → Type 0) (w : Text) (r : Result A E) → list_all is_digit w ≡ true → MatchResult r P (λ e. (¬ (IsUtf8 w)) × Q e)
    → result_ok r ≡ None → ⊥
digits_are_text P Q w (Ok x) d h e = cc
digits_are_text P Q w (Err x) d h e = h.0 (IsUtf8-from_ascii w (digits_are_ascii w d))

pub text_is : {E : Type 0} (Q : E → Type 0) (w : Text) (r : Result (Bor Text) E) (x : Bor Text) → MatchResult r (λ s. (s.now ≡ w) × IsUtf8 w) Q → result_ok r ≡ Some x → x.now ≡ w
text_is Q w (Ok y) x h e = let same : y ≡ x = cc in rw (← same) h.0
text_is Q w (Err y) x h e = cc
