-- The number, the layer and the offset of each refusal. Assumes nothing.
use Rattle.std.specs.Prelude.{ℕ}
use Rattle.datagram.specs.declared.fault.Layer as part
use Rattle.datagram.specs.declared.fault.Layer.TheVariants as at
use Rattle.datagram.specs.Faults as fault
use Rattle.endpoint.specs.declared.refusal.Layer.{Layer}
use Rattle.endpoint.specs.declared.refusal.Layer.TheVariants as layer
use Rattle.endpoint.specs.declared.refusal.Refusal.{Refusal}
use Rattle.endpoint.specs.declared.refusal.Refusal.TheVariants.{StartTooHigh, NoSuchPlace, TimeTooHigh, ClockRanBack, PlaceHeld, PeerEnrolled, PlaceVacant, BufferTooShort, BodySize, NotOnlyMessages, StillOutstanding, NumbersSpent, SenderUnknown, TooOld, ReplyTooLong, Unreadable}

abbrev pub number_of : Refusal → ℕ
number_of StartTooHigh = 1
number_of NoSuchPlace = 2
number_of TimeTooHigh = 3
number_of ClockRanBack = 4
number_of PlaceHeld = 5
number_of PeerEnrolled = 6
number_of PlaceVacant = 7
number_of BufferTooShort = 8
number_of BodySize = 9
number_of NotOnlyMessages = 10
number_of StillOutstanding = 11
number_of NumbersSpent = 12
number_of SenderUnknown = 13
number_of TooOld = 14
number_of ReplyTooLong = 15
number_of (Unreadable f) = fault.number_of f.question

abbrev pub layer_of_part : part.Layer → Layer
layer_of_part at.Datagram = layer.Datagram
layer_of_part at.Payload = layer.Payload
layer_of_part at.Structure = layer.Structure

abbrev pub layer_of : Refusal → Layer
layer_of StartTooHigh = layer.End
layer_of NoSuchPlace = layer.End
layer_of TimeTooHigh = layer.End
layer_of ClockRanBack = layer.End
layer_of PlaceHeld = layer.End
layer_of PeerEnrolled = layer.End
layer_of PlaceVacant = layer.End
layer_of BufferTooShort = layer.End
layer_of BodySize = layer.End
layer_of NotOnlyMessages = layer.End
layer_of StillOutstanding = layer.End
layer_of NumbersSpent = layer.End
layer_of SenderUnknown = layer.End
layer_of TooOld = layer.End
layer_of ReplyTooLong = layer.End
layer_of (Unreadable f) = layer_of_part f.layer

abbrev pub offset_of : Refusal → ℕ
offset_of StartTooHigh = 0
offset_of NoSuchPlace = 0
offset_of TimeTooHigh = 0
offset_of ClockRanBack = 0
offset_of PlaceHeld = 0
offset_of PeerEnrolled = 0
offset_of PlaceVacant = 0
offset_of BufferTooShort = 0
offset_of BodySize = 0
offset_of NotOnlyMessages = 0
offset_of StillOutstanding = 0
offset_of NumbersSpent = 0
offset_of SenderUnknown = 0
offset_of TooOld = 0
offset_of ReplyTooLong = 0
offset_of (Unreadable f) = f.offset
