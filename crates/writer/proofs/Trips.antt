-- A body under a header reads as the body does, and what was written reads back. Assumes nothing.
use Rattle.std.proofs.Common.{◌≡◌, ℕ, zero, suc, ◌+◌, ◌-◌, ◌<◌, ◌≤◌, Bool, true, false, not, ◌||◌, List, [], ◌∷◌, ◌++◌, map, length, drop, Ok, Result, refl, ap, ◌∙◌, subst, arith}
use Rattle.std.proofs.lemmas.List.{length-append, length-drop, length-map, drop-drop, drop_at}
use Rattle.std.proofs.lemmas.Bool.{le-leb}
use Rattle.datagram.specs.declared.fault.Fault.{Fault}
use Rattle.datagram.specs.declared.header.Header.{Header}
use Rattle.datagram.specs.Datagrams.{header_of, payloads_from, some_deserves, datagram_of, read}
use Rattle.datagram.specs.Layout.{header_octets}
use Rattle.datagram.specs.Payloads.{Payload, past, payload_at}
use Rattle.datagram.specs.Results.{map_ok, and_then, ask}
use Rattle.datagram.proofs.Bodies.{payload_lies}
use Rattle.datagram.proofs.Passing.{bound, mapped_back}
use Rattle.datagram.specs.Bodies.{body_from, body_payloads}
use Rattle.writer.specs.Bodies.{how_many, headed, HeaderAndBodyRead, BodyIsNotEmpty, Readable, AllOf, BodyReadsBack, WrittenReadsBack, ReplyReadsBack, CallForLifeReadsBack, RoundTrip, under_no_call, replied, calling}
use Rattle.writer.specs.Values.{Item, Value, Part, part_of, part_octets, body_octets, datagram_octets, written, datagram, placed_from, placed, item_of, value_of, InRange}
use Rattle.writer.proofs.Written.{back24, part_back, items_readable, contents_readable}

-- nothing is left of the datagram
payloads_end : (d : List ℕ) (at : ℕ) (ps : List Payload) → length (drop at d) ≤ 0 → [] ≡ ps → payloads_from (length ps) d at ≡ Ok ps
payloads_end d at ps none e =
    let over : length d ≤ at = omega (arith, length-drop at d) in
    rw (← e, le-leb (length d) at over) refl

payloads_step : (n : ℕ) (d b : List ℕ) (at : ℕ) (p : Payload) (qs : List Payload) → b ≡ drop at d → payload_at b at ≡ Ok p → payloads_from n d (past p) ≡ Ok qs → payloads_from (suc n) d at ≡ Ok (p ∷ qs)
payloads_step n d b at p qs is e later = rw (← is, e, later) refl

-- payloads read until nothing is left are as many payloads of the datagram
payloads_of_body : (n : ℕ) (d b : List ℕ) (at : ℕ) (ps : List Payload) → b ≡ drop at d → length b ≤ n → body_from n b at ≡ Ok ps → payloads_from (length ps) d at ≡ Ok ps
payloads_of_body zero d b at ps is short e = payloads_end d at ps (omega (arith, ap length is)) cc
payloads_of_body (suc n) d [] at ps is short e = payloads_end d at ps (omega (arith, ap length is)) cc
payloads_of_body (suc n) d (x ∷ b) at ps is short e =
    let k = bound (payload_at (x ∷ b) at) _ ps e in
    let p = k.0 in
    let l = payload_lies (x ∷ b) at p k.1 in
    let size = 5 + length p.octets in
    let m = mapped_back _ (body_from n (drop size (x ∷ b)) (past p)) ps k.2 in
    let to : at + size ≡ past p = omega arith in
    let rest : drop size (x ∷ b) ≡ drop (past p) d = ap (drop size) is ∙ drop-drop size at d ∙ ap (λ j. drop j d) to in
    let less : length (drop size (x ∷ b)) ≤ n = omega (arith, length-drop size (x ∷ b)) in
    let later = payloads_of_body n d (drop size (x ∷ b)) (past p) m.0 rest less m.1 in
    subst (λ qs. payloads_from (length qs) d at ≡ Ok qs) m.2 (payloads_step (length m.0) d (x ∷ b) at p m.0 is k.1 later)

header_back : (n : ℕ) (a : Bool) (c : ℕ) (b : List ℕ) → length b ≤ 1019 → header_of (header_octets n a c ++ b) ≡ Ok (record { number = n; wants_ack = a; payloads = c + 1 })
header_back n true c b short = rw (le-leb (length (header_octets n true c ++ b)) 1024 (omega arith), le-leb 5 (length (header_octets n true c ++ b)) (omega arith), back24 n) refl
header_back n false c b short = rw (le-leb (length (header_octets n false c ++ b)) 1024 (omega arith), le-leb 5 (length (header_octets n false c ++ b)) (omega arith), back24 n) refl

asked : {X : Type 0} (a d : Bool) (f : Fault) (r : Result X Fault) → (a ≡ true → d ≡ true) → ask (not a || d) f r ≡ r
asked false d f r h = refl
asked true d f r h = rw (h refl) refl

body_not_empty : BodyIsNotEmpty
body_not_empty [] long e = omega arith
body_not_empty (x ∷ b) long e =
    let k = bound (payload_at (x ∷ b) 5) _ [] e in
    let m = mapped_back _ _ [] k.2 in
    let z : ◌≡◌ {A = ℕ} 0 1 = cc m.2 in omega arith

some_payload : (b : List ℕ) (ps : List Payload) → 0 < length b → body_payloads b ≡ Ok ps → 0 < length ps
some_payload b [] long e = absurd (body_not_empty b long e)
some_payload b (p ∷ ps) long e = omega arith

-- a header, then octets of which so many payloads are read
read_payloads : (n : ℕ) (a : Bool) (c : ℕ) (b : List ℕ) (ps : List Payload) → length b ≤ 1019 → c + 1 ≡ length ps → payloads_from (length ps) (header_octets n a c ++ b) 5 ≡ Ok ps
    → (a ≡ true → some_deserves ps ≡ true) → read (header_octets n a c ++ b) ≡ Ok (datagram n a ps)
read_payloads n a c b ps short count payloads deserved =
    let d = header_octets n a c ++ b in
    let h : Header = record { number = n; wants_ack = a; payloads = c + 1 } in
    ap (λ r. and_then r (λ k. and_then (payloads_from k.payloads d 5) (datagram_of k))) (header_back n a c b short)
    ∙ ap (λ r. and_then r (datagram_of h)) (ap (λ k. payloads_from k d 5) count ∙ payloads)
    ∙ asked a (some_deserves ps) _ _ deserved

header_and_body : HeaderAndBodyRead
header_and_body n a b ps long short e deserved =
    let c = length ps - 1 in
    let some = some_payload b ps long e in
    let payloads = payloads_of_body (length b) (header_octets n a c ++ b) b 5 ps refl (omega arith) e in
    ap (λ r. read (header_octets n a (how_many r - 1) ++ b)) e ∙ read_payloads n a c b ps short (omega arith) payloads deserved

part_long : (p : Part) → length (part_octets p) ≡ 5 + length p.octets
part_long p = omega arith

body_from_lem : (n : ℕ) (ps : List Part) (at : ℕ) → AllOf Readable ps → length (body_octets ps) ≤ n → body_from n (body_octets ps) at ≡ Ok (placed_from at ps)
body_from_lem zero [] at all short = refl
body_from_lem (suc n) [] at all short = refl
body_from_lem zero (p ∷ ps) at all short = absurd (omega arith)
body_from_lem (suc n) (p ∷ ps) at all short =
    let more = body_octets ps in
    let size = 5 + length p.octets in
    let rest : drop size (part_octets p ++ more) ≡ more = drop_at (part_octets p) more size (part_long p) in
    let less : length more ≤ n = omega (arith, length-append (part_octets p) more) in
    rw (part_back p more at all.0, rest, body_from_lem n ps (at + 5 + length p.octets) all.1 less) refl

body_back : BodyReadsBack
body_back ps all = body_from_lem _ ps 5 all (omega arith)

as_many : (ps : List Part) (at : ℕ) → length (placed_from at ps) ≡ length ps
as_many [] at = refl
as_many (p ∷ ps) at = ap suc (as_many ps (at + 5 + length p.octets))

some_octets : (ps : List Part) → 0 < length ps → 0 < length (body_octets ps)
some_octets [] some = omega arith
some_octets (p ∷ ps) some = omega arith

-- parts under a header that counts them
pub parts_read : (n : ℕ) (a : Bool) (ps : List Part) → AllOf Readable ps → 0 < length ps → length (body_octets ps) ≤ 1019 → (a ≡ true → some_deserves (placed_from 5 ps) ≡ true)
    → read (datagram_octets n a ps) ≡ Ok (datagram n a (placed_from 5 ps))
parts_read n a ps all some short deserved =
    let b = body_octets ps in
    let e = body_back ps all in
    let same : datagram_octets n a ps ≡ headed n a b = rw (e, as_many ps 5) refl in
    ap read same ∙ header_and_body n a b (placed_from 5 ps) (some_octets ps some) short e deserved

items_back : (is : List Item) (at : ℕ) → map item_of (placed_from at (map part_of is)) ≡ is
items_back [] at = refl
items_back (i ∷ is) at = ap (λ l. i ∷ l) (items_back is (at + 5 + length (part_of i).octets))

datagram_back : (v : Value) → InRange v → read (written v) ≡ Ok (placed v)
datagram_back v r =
    let ps = map part_of v.items in
    let many = length-map v.items part_of in
    let all = items_readable v.items r.items in
    let size = r.size in
    let some = r.some in
    parts_read v.number v.wants_ack ps all (omega arith) (omega arith) r.deserved

written_back : WrittenReadsBack
written_back v r =
    let e = datagram_back v r in
    let s : value_of (placed v) ≡ v = ap (λ is. record { number = v.number; wants_ack = v.wants_ack; items = is }) (items_back v.items 5) in
    record { as_placed = e; as_value = ap (map_ok value_of) e ∙ ap (λ x. Ok x) s }

no_wish : {P : Type 0} → false ≡ true → P
no_wish e = let z : ◌≡◌ {A = ℕ} 0 1 = cc in absurd (omega arith)

reply_back : ReplyReadsBack
reply_back n s cookies within some size =
    let cs = replied s cookies in
    let ps = map part_of (map under_no_call cs) in
    let many = length-map cs under_no_call in
    let more = length-map (map under_no_call cs) part_of in
    parts_read n false ps (contents_readable cs within) (omega arith) (omega arith) no_wish

call_back : CallForLifeReadsBack
call_back n = parts_read n false (map part_of (calling n).items) (items_readable (calling n).items refl) (omega arith) (omega arith) no_wish

pub round_trip : RoundTrip
round_trip = record { header_and_body = header_and_body; body_not_empty = body_not_empty; body = body_back; datagram = written_back; reply = reply_back; call_for_life = call_back }
