-- How numbers and octets are written. Assumes nothing.
use Rattle.std.specs.Prelude.{ℕ, ◌+◌, ◌/◌, ◌%◌, cond, List, [], ◌∷◌, codes, decimal, nat_lt, flat_map}
use Rattle.trunk.specs.Acts.{Octets}

-- the octets of a word, or of a text of several
abbrev pub Text : Type 0
Text = List ℕ

-- a hexadecimal digit, with small letters: 48 is `0`, and 97 is `a`
abbrev pub digit_text : ℕ → ℕ
digit_text n = cond (nat_lt n 10) (48 + n) (87 + n)

abbrev pub pair : ℕ → Text
pair x = digit_text (x / 16) ∷ digit_text (x % 16) ∷ []

-- a pair of digits for each octet
abbrev pub pairs : Octets → Text
pairs xs = flat_map pair xs

-- where there may be none
abbrev pub pairs_or_none : Octets → Text
pairs_or_none [] = codes "-"
pairs_or_none (x ∷ xs) = pairs (x ∷ xs)

-- a word behind another
abbrev pub then : Text → Text
then w = 0x20 ∷ w

abbrev pub then_number : ℕ → Text
then_number n = then (decimal n)
