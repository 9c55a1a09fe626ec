-- Octets that are read pair by pair. Assumes nothing.
use Rattle.std.proofs.Common.{◌≡◌, ℕ, ◌-◌, ◌≤◌, [], ◌∷◌, ◌++◌, length, get_or, take, drop, Some, None, Option, append_assoc, refl, ap, arith}
use Rattle.std.proofs.lemmas.List.{take_all}
use Rattle.trunk.specs.Acts.{Octets}
use Rattle.rehearsal.specs.Reading.{in_front, octet_in, pairs_in}
use Rattle.rehearsal.specs.Words.{Text}

abbrev pub behind_done : Octets → Option Octets → Option Octets
behind_done done (Some xs) = Some (done ++ xs)
behind_done done None = None

step_on : (done : Octets) (x : ℕ) (more : Option Octets) → behind_done (done ++ x ∷ []) more ≡ behind_done done (in_front (Some x) more)
step_on done x None = refl
step_on done x (Some xs) = ap Some (append_assoc done (x ∷ []) xs)

-- one pair more, as code takes it off a slice
pub pairs_step : (done : Octets) (rest : Text) (x : ℕ) → 2 ≤ length rest → Some x ≡ octet_in (get_or rest 0 0) (get_or rest 1 0)
    → behind_done (done ++ x ∷ []) (pairs_in (take (length rest - 2) (drop 2 rest))) ≡ behind_done done (pairs_in rest)
pairs_step done [] x long h = absurd (omega arith)
pairs_step done (h ∷ []) x long e = absurd (omega arith)
pairs_step done (h ∷ l ∷ more) x long e =
    let all : take (length (h ∷ l ∷ more) - 2) more ≡ more = take_all (length (h ∷ l ∷ more) - 2) more (omega arith) in
    rw (all, ← e) (step_on done x (pairs_in more))
