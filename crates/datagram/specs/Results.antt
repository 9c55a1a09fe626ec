-- A result carried on: what becomes of its `Ok`, and a question that may turn it to `Err`. Assumes nothing.
use Rattle.std.specs.Prelude.{Bool, cond, Ok, Err, Result}

abbrev pub map_ok : {X Y E : Type 0} → (X → Y) → Result X E → Result Y E
map_ok f (Ok x) = Ok (f x)
map_ok f (Err e) = Err e

abbrev pub map_err : {X D E : Type 0} → (D → E) → Result X D → Result X E
map_err f (Ok x) = Ok x
map_err f (Err e) = Err (f e)

abbrev pub and_then : {X Y E : Type 0} → Result X E → (X → Result Y E) → Result Y E
and_then (Ok x) f = f x
and_then (Err e) f = Err e

-- a question: where its answer is no, that refusal, and otherwise what comes after
abbrev pub ask : {X E : Type 0} → Bool → E → Result X E → Result X E
ask passed refusal after = cond passed after (Err refusal)
