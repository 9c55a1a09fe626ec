-- The number of each refusal, and a refusal by its parts. Assumes nothing.
use Rattle.std.specs.Prelude.{ℕ}
use Rattle.writer.specs.declared.refusal.Found.{Found}
use Rattle.writer.specs.declared.refusal.Found.TheVariants.{NoRoom, TypeNotWritten, OutsideField, NotClosable}
use Rattle.writer.specs.declared.refusal.Layer.TheVariants as layer
use Rattle.writer.specs.declared.refusal.Refusal.{Refusal}

abbrev pub number_of : Found → ℕ
number_of NoRoom = 30
number_of TypeNotWritten = 31
number_of OutsideField = 32
number_of NotClosable = 33

-- what was found with the mark at an offset
abbrev pub refused_at : ℕ → Found → Refusal
refused_at mark f = record { found = f; layer = layer.Writer; offset = mark }
