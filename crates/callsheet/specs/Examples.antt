-- Three captures, and their sheets to the octet. Assumes nothing.
use Rattle.std.specs.Prelude.{◌≡◌, ℕ, List, [], ◌∷◌, codes}
use Rattle.callsheet.specs.Text.{sheet_text}

-- a call message of 10.0.0.7, and a datagram that is too short
abbrev pub two_records_octets : List ℕ
two_records_octets =
    0x18 ∷ 0x00 ∷ 0x01 ∷ 0x00 ∷ 0x0A ∷ 0x00 ∷ 0x00 ∷ 0x07 ∷ 0xB8 ∷ 0x06 ∷ 0x3C ∷ 0x00 ∷ 0x00 ∷ 0x00 ∷ 0x01 ∷ 0x00 ∷ 0x00 ∷ 0x05 ∷ 0x00 ∷ 0x02 ∷ 0x00 ∷ 0x01 ∷ 0x00 ∷ 0x02 ∷ 0xAB ∷ 0xCD
    ∷ 0x0F ∷ 0x00 ∷ 0x01 ∷ 0x00 ∷ 0x0A ∷ 0x00 ∷ 0x00 ∷ 0x07 ∷ 0xB8 ∷ 0x06 ∷ 0x3D ∷ 0x00 ∷ 0x00 ∷ 0x00 ∷ 0x00 ∷ 0x00 ∷ 0x00 ∷ []

pub record Examples : Type 0 where
  pub two_records : sheet_text two_records_octets ≡ codes "rec sec from num type call len\n1 60 10.0.0.7:1720 5 1 1 2\n2 61 10.0.0.7:1720 fault 21 3\n"
  pub half_a_length : sheet_text (0x18 ∷ []) ≡ codes "rec sec from num type call len\nstop 40 1\n"
  pub no_octets : sheet_text [] ≡ codes "rec sec from num type call len\n"
