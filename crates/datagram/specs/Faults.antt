-- The number of each question, and a fault by its parts. Assumes nothing.
use Rattle.std.specs.Prelude.{ℕ}
use Rattle.datagram.specs.declared.fault.Question.{Question}
use Rattle.datagram.specs.declared.fault.Question.TheVariants.{AtMostMaximum, HoldsHeader, VersionZero, HoldsPayloadHeader, HoldsPayloadData, HoldsFixedPart, CountsMeetEnd, EndsWithLastPayload, AckIsDeserved}
use Rattle.datagram.specs.declared.fault.Layer.{Layer}
use Rattle.datagram.specs.declared.fault.Layer.TheVariants as layer
use Rattle.datagram.specs.declared.fault.Fault.{Fault}

abbrev pub number_of : Question → ℕ
number_of AtMostMaximum = 20
number_of HoldsHeader = 21
number_of VersionZero = 22
number_of HoldsPayloadHeader = 23
number_of HoldsPayloadData = 24
number_of HoldsFixedPart = 25
number_of CountsMeetEnd = 26
number_of EndsWithLastPayload = 27
number_of AckIsDeserved = 28

-- the layer at which a question is put
abbrev pub layer_of : Question → Layer
layer_of AtMostMaximum = layer.Datagram
layer_of HoldsHeader = layer.Datagram
layer_of VersionZero = layer.Datagram
layer_of HoldsPayloadHeader = layer.Payload
layer_of HoldsPayloadData = layer.Payload
layer_of HoldsFixedPart = layer.Structure
layer_of CountsMeetEnd = layer.Structure
layer_of EndsWithLastPayload = layer.Datagram
layer_of AckIsDeserved = layer.Datagram

-- the answer no to a question, at a layer and an offset
abbrev pub no : Question → Layer → ℕ → Fault
no q l o = record { question = q; layer = l; offset = o }

-- a fault as the outside sees it: the question's number, the layer, the offset
abbrev pub numbered : Fault → ℕ × Layer × ℕ
numbered f = (number_of f.question, f.layer, f.offset)
