-- Where the fields of a datagram stand: each as a function of the octets that it is read from, and below them the octets that they are written as. Assumes nothing.
use Rattle.std.specs.Prelude.{ℕ, ◌+◌, ◌*◌, ◌/◌, ◌%◌, Bool, cond, List, [], ◌∷◌, ◌++◌, length, take, drop, ◌==◌, slice_index}

-- big-endian numbers of one, two and three octets
abbrev pub octet : List ℕ → ℕ → ℕ
octet d i = slice_index d i

abbrev pub be16 : List ℕ → ℕ → ℕ
be16 d i = octet d i * 256 + octet d (i + 1)

abbrev pub be24 : List ℕ → ℕ → ℕ
be24 d i = octet d i * 65536 + octet d (i + 1) * 256 + octet d (i + 2)

abbrev pub octets16 : ℕ → List ℕ
octets16 n = n / 256 ∷ (n % 256 ∷ [])

abbrev pub octets24 : ℕ → List ℕ
octets24 n = n / 65536 ∷ (n / 256 % 256 ∷ (n % 256 ∷ []))

abbrev pub odd : ℕ → Bool
odd n = n % 2 == 1

abbrev pub flag : Bool → ℕ
flag b = cond b 1 0

-- the header of a datagram: version (4 bits), reserved (3), A (1); number (24); COUNT (8)
abbrev pub version : List ℕ → ℕ
version d = octet d 0 / 16

abbrev pub ack_wanted : List ℕ → Bool
ack_wanted d = odd (octet d 0)

abbrev pub number_field : List ℕ → ℕ
number_field d = be24 d 1

abbrev pub count_field : List ℕ → ℕ
count_field d = octet d 4

abbrev pub header_octets : ℕ → Bool → ℕ → List ℕ
header_octets number a count = flag a ∷ (octets24 number ++ (count ∷ []))

-- a payload, from its first octet on: type (7), reserved (1); CRV (16); LENGTH (16); so many octets of data
abbrev pub type_field : List ℕ → ℕ
type_field p = octet p 0 / 2

abbrev pub crv_field : List ℕ → ℕ
crv_field p = be16 p 1

abbrev pub length_field : List ℕ → ℕ
length_field p = be16 p 3

abbrev pub payload_data : List ℕ → List ℕ
payload_data p = take (length_field p) (drop 5 p)

abbrev pub payload_octets : ℕ → ℕ → List ℕ → List ℕ
payload_octets type crv x = 2 * type ∷ (octets16 crv ++ (octets16 (length x) ++ x))

-- an I-Am-Alive: validity (16), cookie length (15), P (1), the cookie
abbrev pub validity_field : List ℕ → ℕ
validity_field s = be16 s 0

abbrev pub cookie_length : List ℕ → ℕ
cookie_length s = be16 s 2 / 2

abbrev pub reply_wanted : List ℕ → Bool
reply_wanted s = odd (be16 s 2)

abbrev pub alive_octets : ℕ → Bool → List ℕ → List ℕ
alive_octets validity p cookie = octets16 validity ++ (octets16 (2 * length cookie + flag p) ++ cookie)

-- an Ack or a Nack: count (7), reserved (1), then that many numbers or entries
abbrev pub inner_count : List ℕ → ℕ
inner_count s = octet s 0 / 2

abbrev pub counted_octets : ℕ → List ℕ → List ℕ
counted_octets count x = 2 * count ∷ x

-- an entry of a Nack, from its first octet on: number (24), reason (16), length (8), so many octets of data
abbrev pub entry_end : List ℕ → ℕ
entry_end e = 6 + octet e 5

abbrev pub entry_octets : ℕ → ℕ → List ℕ → List ℕ
entry_octets number reason x = octets24 number ++ (octets16 reason ++ (length x ∷ x))

-- a non-standard payload: OID length (16), the OID, then free data
abbrev pub oid_length : List ℕ → ℕ
oid_length s = be16 s 0

abbrev pub non_standard_octets : List ℕ → List ℕ → List ℕ
non_standard_octets oid free = octets16 (length oid) ++ (oid ++ free)
