-- What was written piece by piece is the text that the definitions make. Assumes nothing.
use Rattle.std.proofs.Common.{◌≡◌, ℕ, ◌+◌, ◌-◌, ◌^◌, ◌<◌, false, List, [], ◌∷◌, ◌++◌, length, get_or, take, map, codes, decimal, append_assoc, ⊎_elim, refl, subst, None, Option}
use Rattle.std.proofs.lemmas.Fmt.{hex_byte}
use Rattle.std.proofs.lemmas.List.{take_more, flat_map_more}
use Rattle.std.proofs.lemmas.Slice.Zip.{either_empty_from_Zip}
use Rattle.std.proofs.iter.Yields.{fronts}
use Rattle.std.proofs.lemmas.Iterator.{zips}
use Rattle.std.specs.Fmt.{padded_integral, format_spec, digits}
use Rattle.std.specs.Iterator.Adapters.{enumerate_steps, enumerate_source, enumerate_count, zip_first, zip_second}
use Rattle.std.specs.Slice.Iter.{iter_rest}
use Rattle.std.specs.declared.iter.Enumerate.{Enumerate}
use Rattle.std.specs.declared.iter.Zip.{Zip}
use Rattle.std.specs.declared.slice.Iter.{Iter}
use denote.Ref.{Bor}
use Rattle.trunk.specs.declared.call.Turn.{Turn}
use Rattle.trunk.specs.declared.log.Entry.{Entry}
use Rattle.trunk.specs.Acts.{Octets}
use Rattle.trunk.specs.Views.{Ask, turn_says, entry_says}
use Rattle.rehearsal.specs.Transcript.{call_lines, tallied}
use Rattle.rehearsal.specs.Words.{Text, pair, pairs}

-- one octet more, as std writes it
pub pairs_more : (xs : Octets) (i : ℕ) → i < length xs → get_or xs i 0 < 256
    → pairs (take i xs) ++ padded_integral (format_spec 32 0 4 2 (2 ^ 64 - 1)) false [] (digits 16 false (get_or xs i 0)) ≡ pairs (take (i + 1) xs)
pairs_more xs i h small = rw (hex_byte false (get_or xs i 0) small, take_more xs i 0 h) (flat_map_more pair [] (take i xs) (get_or xs i 0))

-- the two halves in which a closing line is written
pub closing_pieces : (v w : Text) (a b c d e f : ℕ) → v ≡ w
    → (v ++ (codes " sent " ++ (decimal a ++ (codes " resent " ++ (decimal b ++ (codes " handed " ++ decimal c))))))
    ++ (codes " acknowledged " ++ (decimal d ++ (codes " rejected " ++ (decimal e ++ (codes " unanswered " ++ (decimal f ++ codes "\n"))))))
    ≡ w
    ++ (tallied (codes "sent") a ++ (tallied (codes "resent") b ++ (tallied (codes "handed") c
    ++ (tallied (codes "acknowledged") d ++ (tallied (codes "rejected") e ++ (tallied (codes "unanswered") f ++ codes "\n"))))))
closing_pieces v w a b c d e f same = rw same (simp append_assoc)

-- the lines that are still to be written
abbrev pub lines_ahead : Enumerate (Zip (Iter Turn) (Iter Entry)) → Text
lines_ahead s =
    call_lines (enumerate_count s + 1) (map turn_says (iter_rest (zip_first (enumerate_source s)))) (map entry_says (iter_rest (zip_second (enumerate_source s))))

no_calls_ahead : (n : ℕ) (asked : List Ask) → call_lines n asked [] ≡ []
no_calls_ahead n [] = refl
no_calls_ahead n (a ∷ asked) = refl

pub no_lines_ahead : (s t : Enumerate (Zip (Iter Turn) (Iter Entry))) (r : Option (ℕ × (Bor Turn × Bor Entry))) → r ≡ None
    → enumerate_steps (zips fronts fronts) s r t → lines_ahead s ≡ []
no_lines_ahead s t r e h =
    let none : enumerate_steps (zips fronts fronts) s None t = subst (λ o. enumerate_steps (zips fronts fronts) s o t) e h in
    ⊎_elim
    (λ (l : iter_rest (zip_first (enumerate_source s)) ≡ []). rw l refl)
    (λ (l : iter_rest (zip_second (enumerate_source s)) ≡ []). rw l (no_calls_ahead (enumerate_count s + 1) (map turn_says (iter_rest (zip_first (enumerate_source s))))))
    (either_empty_from_Zip (enumerate_source s) (enumerate_source t) None refl none.0)
