-- An answer `Ok` tells which questions were passed on the way to it. Assumes nothing.
use Rattle.std.proofs.Common.{◌≡◌, ℕ, Bool, true, false, Ok, Err, Result, refl, arith}
use Rattle.datagram.specs.Results.{map_ok, and_then, ask}

pub clash : {X Y : Type 0} {x : X} {y : Y} → ◌≡◌ {A = Result X Y} (Err y) (Ok x) → ⊥
clash e = let z : ◌≡◌ {A = ℕ} 0 1 = cc in omega arith

-- an answer Ok came past a question, past a step, or out of a step
pub passed : {X E : Type 0} (b : Bool) (f : E) (r : Result X E) (x : X) → ask b f r ≡ Ok x → (b ≡ true) × (r ≡ Ok x)
passed true f r x e = (refl, e)
passed false f r x e = absurd (clash e)

pub bound : {X Y E : Type 0} (r : Result X E) (f : X → Result Y E) (y : Y) → and_then r f ≡ Ok y → (x : X) × (r ≡ Ok x) × (f x ≡ Ok y)
bound (Ok x) f y e = (x, refl, e)
bound (Err g) f y e = absurd (clash e)

pub mapped_back : {X Y E : Type 0} (f : X → Y) (r : Result X E) (y : Y) → map_ok f r ≡ Ok y → (x : X) × (r ≡ Ok x) × (f x ≡ y)
mapped_back f (Ok x) y e = (x, refl, cc)
mapped_back f (Err g) y e = absurd (clash e)
