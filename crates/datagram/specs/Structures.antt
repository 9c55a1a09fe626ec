-- What the data of a payload holds, by the payload's type, or the question that it fails. Assumes nothing.
use Rattle.std.specs.Prelude.{ℕ, zero, suc, ◌+◌, ◌*◌, Bool, cond, ◌&&◌, List, [], ◌∷◌, length, take, drop, Some, None, Ok, Option, Result, ◌==◌, nat_le}
use Rattle.std.specs.List.{find, list_any}
use Rattle.std.specs.Option.{option_map}
use Rattle.datagram.specs.declared.fault.Question.TheVariants.{HoldsFixedPart, CountsMeetEnd}
use Rattle.datagram.specs.declared.fault.Layer.TheVariants as layer
use Rattle.datagram.specs.declared.fault.Fault.{Fault}
use Rattle.datagram.specs.Faults.{no}
use Rattle.datagram.specs.Layout.{octet, be16, be24, validity_field, cookie_length, reply_wanted, inner_count, entry_end, oid_length}
use Rattle.datagram.specs.Results.{map_ok, ask}

pub record Alive : Type 0 where
  pub validity : ℕ
  pub wants_reply : Bool
  pub cookie : Option (List ℕ)

-- an entry of a Nack
pub record Entry : Type 0 where
  pub number : ℕ
  pub reason : ℕ
  pub octets : List ℕ

pub record NonStandard : Type 0 where
  pub oid : List ℕ
  pub free : List ℕ

pub data Content : Type 0 where
  call_message : List ℕ → Content
  i_am_alive : Alive → Content
  ack : List ℕ → Content
  nack : List Entry → Content
  non_standard : NonStandard → Content
  unsupported : ℕ → List ℕ → Content

abbrev pub type_of : Content → ℕ
type_of (call_message d) = 1
type_of (i_am_alive a) = 3
type_of (ack ns) = 4
type_of (nack es) = 5
type_of (non_standard s) = 6
type_of (unsupported t d) = t

-- the two faults of a structure, at the first octet of the data
abbrev pub too_short : ℕ → Fault
too_short at = no HoldsFixedPart layer.Structure at

abbrev pub miscounts : ℕ → Fault
miscounts at = no CountsMeetEnd layer.Structure at

-- a cookie of length 0 is an absent one
abbrev pub cookie_of : List ℕ → Option (List ℕ)
cookie_of [] = None
cookie_of (x ∷ xs) = Some (x ∷ xs)

abbrev pub alive_of : List ℕ → ℕ → Result Alive Fault
alive_of s at =
    ask (nat_le 4 (length s)) (too_short at)
    (ask (length s == 4 + cookie_length s) (miscounts at)
    (Ok (record { validity = validity_field s; wants_reply = reply_wanted s; cookie = cookie_of (drop 4 s) })))

-- numbers of three octets each
abbrev pub numbers : List ℕ → List ℕ
numbers (a ∷ b ∷ c ∷ ns) = (a * 65536 + b * 256 + c) ∷ numbers ns
numbers (a ∷ b ∷ []) = []
numbers (a ∷ []) = []
numbers [] = []

abbrev pub ack_of : List ℕ → ℕ → Result (List ℕ) Fault
ack_of s at =
    ask (nat_le 1 (length s)) (too_short at)
    (ask (length s == 1 + 3 * inner_count s) (miscounts at)
    (Ok (numbers (drop 1 s))))

-- whether an Ack of these numbers names n
abbrev pub among : ℕ → List ℕ → Bool
among n ms = list_any (λ m. m == n) ms

abbrev pub entry_of : List ℕ → Entry
entry_of e = record { number = be24 e 0; reason = be16 e 3; octets = take (octet e 5) (drop 6 e) }

-- the entries of a Nack, as far as they are whole
abbrev pub entries : ℕ → List ℕ → List Entry
entries zero d = []
entries (suc n) d = cond (nat_le (entry_end d) (length d)) (entry_of d ∷ entries n (drop (entry_end d) d)) []

-- whether so many entries are whole, and the last one ends with the octets
abbrev pub meet_end : ℕ → List ℕ → Bool
meet_end zero d = length d == 0
meet_end (suc n) d = nat_le (entry_end d) (length d) && meet_end n (drop (entry_end d) d)

abbrev pub nack_of : List ℕ → ℕ → Result (List Entry) Fault
nack_of s at =
    ask (nat_le 1 (length s)) (too_short at)
    (ask (meet_end (inner_count s) (drop 1 s)) (miscounts at)
    (Ok (entries (inner_count s) (drop 1 s))))

-- the reason that a Nack gives for n: that of its first entry with this number
abbrev pub reason_for : ℕ → List Entry → Option ℕ
reason_for n es = option_map (λ e. e.reason) (find (λ e. e.number == n) es)

abbrev pub non_standard_of : List ℕ → ℕ → Result NonStandard Fault
non_standard_of s at =
    ask (nat_le 2 (length s)) (too_short at)
    (ask (nat_le (2 + oid_length s) (length s)) (miscounts at)
    (Ok (record { oid = take (oid_length s) (drop 2 s); free = drop (2 + oid_length s) s })))

-- the data of a payload of type t, whose first octet has the offset `at`
abbrev pub content_of : ℕ → List ℕ → ℕ → Result Content Fault
content_of t d at =
    cond (t == 1) (Ok (call_message d))
    (cond (t == 3) (map_ok i_am_alive (alive_of d at))
    (cond (t == 4) (map_ok ack (ack_of d at))
    (cond (t == 5) (map_ok nack (nack_of d at))
    (cond (t == 6) (map_ok non_standard (non_standard_of d at))
    (Ok (unsupported t d))))))
