-- Places that may be empty.
use Rattle.std.specs.Prelude.{Bool, false, Some, None, Option}

-- whether some record stands at a place, and it is under the key: of an empty place, false
abbrev pub some_under : {R K : Type 0} → (R → K → Bool) → Option R → K → Bool
some_under under (Some r) key = under r key
some_under under None key = false
