-- What is written within its fields are octets. Assumes nothing.
use Rattle.std.proofs.Common.{◌≡◌, ℕ, ◌+◌, ◌-◌, ◌*◌, ◌/◌, ◌%◌, ◌<◌, Bool, true, false, not, ltb, List, [], ◌∷◌, ◌++◌, map, length, Some, None, Option, refl, ◌∙◌, arith}
use Rattle.std.specs.List.{flat_map}
use Rattle.std.proofs.lemmas.List.{length-map}
use Rattle.std.proofs.lemmas.List.Folds.{list_all-append}
use Rattle.std.proofs.lemmas.Bool.{lt-ltb, ltb-true, and_parts, and_from}
use Rattle.datagram.specs.Layout.{octets16, octets24, flag}
use Rattle.datagram.specs.Structures.{Entry, Content, call_message, i_am_alive, ack, nack, non_standard, unsupported, type_of}
use Rattle.writer.specs.Octets.{is_octet, are_octets, plain, plain_item, OctetsAreWritten}
use Rattle.writer.specs.Values.{Item, part_of, part_octets, body_octets, cookie_octets, octets_of_entry, data_of, every, is_number, is_field16, entry_within, cookie_within, supported_type, content_within, within}

-- wrapped, so that the list can be left out where it shows
record Octal (l : List ℕ) : Type 0 where
  is : are_octets l ≡ true

nil : Octal []
nil = record { is = refl }

one : {l : List ℕ} (n : ℕ) → n < 256 → Octal l → Octal (n ∷ l)
one {l} n h e = record { is = and_from (is_octet n) (are_octets l) (lt-ltb n 256 h) e.is }

both : {k l : List ℕ} → Octal k → Octal l → Octal (k ++ l)
both {k} {l} e f = record { is = list_all-append is_octet k l ∙ and_from _ _ e.is f.is }

two16 : (n : ℕ) → n < 65536 → Octal (octets16 n)
two16 n h = one (n / 256) (omega arith) (one (n % 256) (omega arith) nil)

three24 : (n : ℕ) → n < 16777216 → Octal (octets24 n)
three24 n h = one (n / 65536) (omega arith) (one (n / 256 % 256) (omega arith) (one (n % 256) (omega arith) nil))

flagged : (b : Bool) → flag b < 2
flagged true = omega arith
flagged false = omega arith

-- the elements of a list, each written as octets
joined_octets : {X : Type 0} (f : X → List ℕ) (ok fine : X → Bool) (xs : List X) → ((x : X) → ok x ≡ true → fine x ≡ true → Octal (f x)) → every ok xs ≡ true → every fine xs ≡ true → Octal (flat_map f xs)
joined_octets f ok fine [] each e g = nil
joined_octets f ok fine (x ∷ xs) each e g =
    let p = and_parts (ok x) (every ok xs) e in
    let q = and_parts (fine x) (every fine xs) g in
    both (each x p.0 q.0) (joined_octets f ok fine xs each p.1 q.1)

every_true : {X : Type 0} (xs : List X) → every (λ _. true) xs ≡ true
every_true [] = refl
every_true (x ∷ xs) = every_true xs

entry_octets_lem : (e : Entry) → entry_within e ≡ true → are_octets e.octets ≡ true → Octal (octets_of_entry e)
entry_octets_lem e w o =
    let p = and_parts (is_number e.number) _ w in
    let q = and_parts (is_field16 e.reason) (ltb (length e.octets) 256) p.1 in
    both (three24 e.number (ltb-true _ _ p.0)) (both (two16 e.reason (ltb-true _ _ q.0)) (one (length e.octets) (ltb-true _ _ q.1) (record { is = o })))

cookie_short : (c : Option (List ℕ)) → cookie_within c ≡ true → length (cookie_octets c) < 32768
cookie_short None h = omega arith
cookie_short (Some c) h = ltb-true (length c) 32768 (and_parts (ltb 0 (length c)) (ltb (length c) 32768) h).1

data_octets : (c : Content) → content_within c ≡ true → plain c ≡ true → Octal (data_of c)
data_octets (call_message x) w o = record { is = o }
data_octets (i_am_alive a) w o =
    let p = and_parts (is_field16 a.validity) (cookie_within a.cookie) w in
    let n = cookie_short a.cookie p.1 in
    let b = flagged a.wants_reply in
    both (two16 a.validity (ltb-true _ _ p.0)) (both (two16 (2 * length (cookie_octets a.cookie) + flag a.wants_reply) (omega arith)) (record { is = o }))
data_octets (ack ns) w o =
    let p = and_parts (ltb (length ns) 128) (every is_number ns) w in
    let n = ltb-true (length ns) 128 p.0 in
    one (2 * length ns) (omega arith) (joined_octets octets24 is_number (λ _. true) ns (λ k h _. three24 k (ltb-true k 16777216 h)) p.1 (every_true ns))
data_octets (nack es) w o =
    let p = and_parts (ltb (length es) 128) (every entry_within es) w in
    let n = ltb-true (length es) 128 p.0 in
    one (2 * length es) (omega arith) (joined_octets octets_of_entry entry_within (λ e. are_octets e.octets) es entry_octets_lem p.1 o)
data_octets (non_standard s) w o =
    let q = and_parts (are_octets s.oid) (are_octets s.free) o in
    both (two16 (length s.oid) (ltb-true _ _ w)) (both {k = s.oid} {l = s.free} (record { is = q.0 }) (record { is = q.1 }))
data_octets (unsupported t x) w o = record { is = o }

small_type : (c : Content) → content_within c ≡ true → type_of c < 128
small_type (call_message x) w = omega arith
small_type (i_am_alive a) w = omega arith
small_type (ack ns) w = omega arith
small_type (nack es) w = omega arith
small_type (non_standard s) w = omega arith
small_type (unsupported t x) w = ltb-true t 128 (and_parts (ltb t 128) (not (supported_type t)) w).0

item_octets : (i : Item) → within i ≡ true → plain_item i ≡ true → Octal (part_octets (part_of i))
item_octets i w o =
    let p = and_parts (is_field16 i.crv) _ w in
    let q = and_parts (is_field16 (length (data_of i.content))) (content_within i.content) p.1 in
    let t = small_type i.content q.1 in
    one (2 * type_of i.content) (omega arith) (both (two16 i.crv (ltb-true _ _ p.0)) (both (two16 (length (data_of i.content)) (ltb-true _ _ q.0)) (data_octets i.content q.1 o)))

items_octets : (is : List Item) → every within is ≡ true → every plain_item is ≡ true → Octal (body_octets (map part_of is))
items_octets [] w o = nil
items_octets (i ∷ is) w o =
    let p = and_parts (within i) (every within is) w in
    let q = and_parts (plain_item i) (every plain_item is) o in
    both (item_octets i p.0 q.0) (items_octets is p.1 q.1)

pub octets_are_written : OctetsAreWritten
octets_are_written v r o =
    let many = length-map v.items part_of in
    let few = r.few in
    let b = flagged v.wants_ack in
    (one (flag v.wants_ack) (omega arith) (both (three24 v.number r.number) (one (length (map part_of v.items) - 1) (omega arith) (items_octets v.items r.items o)))).is
