-- What was written is read back, structure by structure. Assumes nothing.
use Rattle.std.proofs.Common.{◌≡◌, ℕ, ◌+◌, ◌*◌, ◌/◌, ◌%◌, Bool, true, false, not, ◌||◌, eqb, ltb, leb, List, [], ◌∷◌, ◌++◌, map, length, drop, Some, None, Ok, Option, refl, ap, ◌∙◌, arith}
use Rattle.std.specs.List.{flat_map}
use Rattle.std.proofs.lemmas.List.{length-append, take_at, drop_at}
use Rattle.std.proofs.lemmas.Bool.{eq-eqb, le-leb, and_parts}
use Rattle.datagram.specs.Layout.{octets16, octets24, flag, odd, payload_octets}
use Rattle.datagram.specs.Payloads.{payload_at}
use Rattle.datagram.specs.Results.{map_ok}
use Rattle.datagram.specs.Structures.{Alive, NonStandard, Entry, Content, call_message, i_am_alive, ack, nack, non_standard, unsupported, type_of, numbers, entries, meet_end, entry_of, cookie_of, alive_of, ack_of, nack_of, non_standard_of, content_of}
use Rattle.writer.specs.Bodies.{Readable, AllOf, under_no_call}
use Rattle.writer.specs.Values.{Item, Part, cookie_octets, octets_of_entry, data_of, part_of, part_octets, placed_at, every, cookie_within, content_within, is_field16, supported_type, within}

back16 : (n : ℕ) → n / 256 * 256 + n % 256 ≡ n
back16 n = omega arith

pub back24 : (n : ℕ) → n / 65536 * 65536 + n / 256 % 256 * 256 + n % 256 ≡ n
back24 n = omega arith

half : (n : ℕ) → 2 * n / 2 ≡ n
half n = omega arith

half_flag : (n : ℕ) (b : Bool) → (2 * n + flag b) / 2 ≡ n
half_flag n true = omega arith
half_flag n false = omega arith

low_flag : (n : ℕ) (b : Bool) → odd (2 * n + flag b) ≡ b
low_flag n true = eq-eqb _ 1 (omega arith)
low_flag n false = let e : (2 * n + 0) % 2 ≡ 0 = omega arith in ap (λ k. eqb k 1) e

-- the numbers of an Ack
numbers_back : (ns : List ℕ) → numbers (flat_map octets24 ns) ≡ ns
numbers_back [] = refl
numbers_back (n ∷ ns) = rw (back24 n, numbers_back ns) refl

pub numbers_long : (ns : List ℕ) → length (flat_map octets24 ns) ≡ 3 * length ns
numbers_long [] = refl
numbers_long (n ∷ ns) = let h = numbers_long ns in omega arith

ack_back : (ns : List ℕ) (at : ℕ) → ack_of (data_of (ack ns)) at ≡ Ok ns
ack_back ns at =
    let e : length (data_of (ack ns)) ≡ 1 + 3 * (2 * length ns / 2) = omega (arith, numbers_long ns) in
    rw (le-leb 1 (length (data_of (ack ns))) (omega arith), eq-eqb _ _ e, numbers_back ns) refl

-- the entries of a Nack
entry_long : (e : Entry) → length (octets_of_entry e) ≡ 6 + length e.octets
entry_long e = omega arith

entry_back : (e : Entry) (more : List ℕ) → entry_of (octets_of_entry e ++ more) ≡ e
entry_back e more = rw (back24 e.number, back16 e.reason, take_at e.octets more _ refl) refl

entry_past : (e : Entry) (more : List ℕ) → drop (6 + length e.octets) (octets_of_entry e ++ more) ≡ more
entry_past e more = drop_at (octets_of_entry e) more _ (entry_long e)

entry_whole : (e : Entry) (more : List ℕ) → leb (6 + length e.octets) (length (octets_of_entry e ++ more)) ≡ true
entry_whole e more = le-leb _ _ (omega (arith, length-append e.octets more))

entries_meet : (es : List Entry) → meet_end (length es) (flat_map octets_of_entry es) ≡ true
entries_meet [] = refl
entries_meet (e ∷ es) = rw (entry_whole e (flat_map octets_of_entry es), entry_past e (flat_map octets_of_entry es)) (entries_meet es)

entries_back : (es : List Entry) → entries (length es) (flat_map octets_of_entry es) ≡ es
entries_back [] = refl
entries_back (e ∷ es) =
    rw (entry_whole e (flat_map octets_of_entry es), entry_past e (flat_map octets_of_entry es), entries_back es)
    (ap (λ x. x ∷ es) (entry_back e (flat_map octets_of_entry es)))

nack_back : (es : List Entry) (at : ℕ) → nack_of (data_of (nack es)) at ≡ Ok es
nack_back es at = rw (le-leb 1 (length (data_of (nack es))) (omega arith), half (length es), entries_meet es, entries_back es) refl

-- a cookie that is there is not empty
pub cookie_back : (c : Option (List ℕ)) → cookie_within c ≡ true → cookie_of (cookie_octets c) ≡ c
cookie_back None h = refl
cookie_back (Some []) h = let z : ◌≡◌ {A = ℕ} 0 1 = cc in absurd (omega arith)
cookie_back (Some (x ∷ c)) h = refl

alive_back : (a : Alive) (at : ℕ) → cookie_within a.cookie ≡ true → alive_of (data_of (i_am_alive a)) at ≡ Ok a
alive_back a at within =
    let n = length (cookie_octets a.cookie) in
    let s = data_of (i_am_alive a) in
    let e : eqb (length s) (4 + n) ≡ true = eq-eqb _ _ (omega arith) in
    rw (le-leb 4 (length s) (omega arith), back16 (2 * n + flag a.wants_reply), half_flag n a.wants_reply, e, low_flag n a.wants_reply, back16 a.validity, cookie_back a.cookie within) refl

non_standard_back : (s : NonStandard) (at : ℕ) → non_standard_of (data_of (non_standard s)) at ≡ Ok s
non_standard_back s at =
    let n = length s.oid in
    let d = data_of (non_standard s) in
    let e : leb (2 + n) (length d) ≡ true = le-leb _ _ (omega (arith, length-append s.oid s.free)) in
    let b : drop (2 + n) d ≡ s.free = drop_at (octets16 n ++ s.oid) s.free (2 + n) (omega arith) in
    rw (le-leb 2 (length d) (omega arith), back16 n, e, b, take_at s.oid s.free n refl) refl

-- a type that is not supported is none of those that have a meaning
not_any : (a b c d e : Bool) → not (a || (b || (c || (d || e)))) ≡ true → (a ≡ false) × (b ≡ false) × (c ≡ false) × (d ≡ false) × (e ≡ false)
not_any false false false false false h = (refl, refl, refl, refl, refl)
not_any true b c d e h = let z : ◌≡◌ {A = ℕ} 0 1 = cc in absurd (omega arith)
not_any false true c d e h = let z : ◌≡◌ {A = ℕ} 0 1 = cc in absurd (omega arith)
not_any false false true d e h = let z : ◌≡◌ {A = ℕ} 0 1 = cc in absurd (omega arith)
not_any false false false true e h = let z : ◌≡◌ {A = ℕ} 0 1 = cc in absurd (omega arith)
not_any false false false false true h = let z : ◌≡◌ {A = ℕ} 0 1 = cc in absurd (omega arith)

unsupported_back : (t : ℕ) (x : List ℕ) (at : ℕ) → not (supported_type t) ≡ true → content_of t x at ≡ Ok (unsupported t x)
unsupported_back t x at h =
    let n = not_any (eqb t 1) (eqb t 3) (eqb t 4) (eqb t 5) (eqb t 6) h in
    rw (n.0, n.1, n.2, n.3, n.4) refl

content_back : (c : Content) (at : ℕ) → content_within c ≡ true → content_of (type_of c) (data_of c) at ≡ Ok c
content_back (call_message x) at h = refl
content_back (i_am_alive a) at h = rw (alive_back a at (and_parts (is_field16 a.validity) (cookie_within a.cookie) h).1) refl
content_back (ack ns) at h = rw (ack_back ns at) refl
content_back (nack es) at h = rw (nack_back es at) refl
content_back (non_standard s) at h = rw (non_standard_back s at) refl
content_back (unsupported t x) at h = unsupported_back t x at (and_parts (ltb t 128) (not (supported_type t)) h).1

content_in_lem : (i : Item) → within i ≡ true → content_within i.content ≡ true
content_in_lem i h = (and_parts (is_field16 (length (data_of i.content))) (content_within i.content) (and_parts (is_field16 i.crv) _ h).1).1

pub item_readable : (i : Item) → within i ≡ true → Readable (part_of i)
item_readable i h at = content_back i.content at (content_in_lem i h)

pub items_readable : (is : List Item) → every within is ≡ true → AllOf Readable (map part_of is)
items_readable [] h = tt
items_readable (i ∷ is) h = let p = and_parts (within i) (every within is) h in (item_readable i p.0, items_readable is p.1)

pub contents_readable : (cs : List Content) → every content_within cs ≡ true → AllOf Readable (map part_of (map under_no_call cs))
contents_readable [] h = tt
contents_readable (c ∷ cs) h = let p = and_parts (content_within c) (every content_within cs) h in (λ at. content_back c at p.0, contents_readable cs p.1)

-- a payload under its header, whatever follows it
framed_back : (t c : ℕ) (x more : List ℕ) (at : ℕ) → payload_at (payload_octets t c x ++ more) at ≡ map_ok (λ k. record { crv = c; offset = at + 5; octets = x; content = k }) (content_of t x (at + 5))
framed_back t c x more at =
    let n = length x in
    let d = payload_octets t c x ++ more in
    let e : leb (5 + n) (length d) ≡ true = le-leb _ _ (omega (arith, length-append x more)) in
    rw (le-leb 5 (length d) (omega arith), back16 n, e, take_at x more n refl, half t, back16 c) refl

pub part_back : (p : Part) (more : List ℕ) (at : ℕ) → Readable p → payload_at (part_octets p ++ more) at ≡ Ok (placed_at at p)
part_back p more at h = framed_back (type_of p.content) p.crv p.octets more at ∙ ap (map_ok _) (h (at + 5))
