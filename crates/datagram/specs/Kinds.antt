-- The types of payload that have a meaning here. Assumes nothing.
use Rattle.std.specs.Prelude.{ℕ, Bool, true, false, cond, Ok, Err, Result, ◌==◌}
use Rattle.datagram.specs.declared.kind.Kind.{Kind}
use Rattle.datagram.specs.declared.kind.Kind.TheVariants.{CallMessage, IAmAlive, Ack, Nack, NonStandard}
use Rattle.datagram.specs.declared.kind.UnsupportedType.{UnsupportedType}

abbrev pub number_of : Kind → ℕ
number_of CallMessage = 1
number_of IAmAlive = 3
number_of Ack = 4
number_of Nack = 5
number_of NonStandard = 6

-- the kind of a type, or the type itself, which has no meaning here
abbrev pub kind_of : ℕ → Result Kind UnsupportedType
kind_of t =
    cond (t == 1) (Ok CallMessage)
    (cond (t == 3) (Ok IAmAlive)
    (cond (t == 4) (Ok Ack)
    (cond (t == 5) (Ok Nack)
    (cond (t == 6) (Ok NonStandard)
    (Err (record { 0 = t }))))))

-- whether a payload of that type is something other than an Ack or a Nack, so that an Ack may be asked for
abbrev pub deserving_kind : Kind → Bool
deserving_kind CallMessage = true
deserving_kind IAmAlive = true
deserving_kind Ack = false
deserving_kind Nack = false
deserving_kind NonStandard = true
