-- The number of each question that a record must pass. Assumes nothing.
use Rattle.std.specs.Prelude.{ℕ, Bool, true, false}
use Rattle.capture.specs.declared.stop.Question.{Question}
use Rattle.capture.specs.declared.stop.Question.TheVariants.{HoldsRecord, IsDatagram, AmongFirst}
use Rattle.capture.specs.declared.stop.Stop.{Stop}

abbrev pub number_of : Question → ℕ
number_of HoldsRecord = 40
number_of IsDatagram = 41
number_of AmongFirst = 42

-- whether octets to come may turn the answer no
abbrev pub turnable : Question → Bool
turnable HoldsRecord = true
turnable IsDatagram = false
turnable AmongFirst = false

-- the answer no to a question, of a record
abbrev pub stop : Question → ℕ → Stop
stop q n = record { question = q; «record» = n }
