-- What is written call by call is the datagram of the payloads that were accepted. Assumes nothing.
use Rattle.std.proofs.Common.{◌≡◌, ℕ, ◌+◌, ◌-◌, ◌*◌, ◌<◌, ◌≤◌, min, Bool, true, false, cond, not, ◌&&◌, ◌||◌, eqb, ltb, leb, List, [], ◌∷◌, ◌++◌, map, length, take, drop, set, None, Ok, Err, Result, sym, refl, ap, ◌∙◌, subst, arith}
use Rattle.std.proofs.Math.Bool.{or-false, or_assoc}
use Rattle.std.proofs.lemmas.List.{append_assoc, append-nil, length-append, length_push, flat_map_more, length-map, drop-drop, take-append-drop}
use Rattle.std.proofs.lemmas.Bool.{leb-true, le-leb, ltb-true, lt-ltb, eqb-true, and_parts, and_from}
use Rattle.datagram.specs.declared.fault.Fault.{Fault}
use Rattle.datagram.specs.Datagrams.{some_deserves, read}
use Rattle.datagram.specs.Layout.{header_octets, cookie_length, inner_count, oid_length}
use Rattle.datagram.specs.Payloads.{deserving}
use Rattle.datagram.specs.Results.{map_ok, ask}
use Rattle.datagram.specs.Structures.{Content, call_message, i_am_alive, ack, nack, non_standard, unsupported, type_of, meet_end, alive_of, ack_of, nack_of, non_standard_of, content_of}
use Rattle.datagram.proofs.Accepted.{type_kept}
use Rattle.datagram.proofs.Passing.{clash, mapped_back}
use Rattle.writer.specs.declared.refusal.Found.TheVariants.{NotClosable}
use Rattle.writer.specs.declared.refusal.Refusal.{Refusal}
use Rattle.writer.specs.declared.writer.Writer.{Writer}
use Rattle.writer.specs.Bodies.{Readable, AllOf}
use Rattle.writer.specs.Drafts.{Draft, draft_says, fresh, first_of, unless, with_header, with_count, against_opening, against_payload, against_closing, is_open, fits, closable, deserving_type, reads_and, reserved_clear, well_formed, grown, Addition, item, typed, open_of, payload_of, add_of, close_of, after, Does, done, size}
use Rattle.writer.specs.Refusals.{refused_at}
use Rattle.writer.specs.Runs.{content_in, part_added, add_all, if_accepted, accepted, Holds, Closed, WhatIsClosedReads, is_written, WhatFitsIsWritten, ReadsAs, Run, Written}
use Rattle.writer.specs.Values.{Item, Part, part_of, part_octets, body_octets, datagram_octets, placed_from, every, within, data_of}
use Rattle.writer.proofs.Answering.{clear_of, passes, took}
use Rattle.writer.proofs.Trips.{parts_read}
use Rattle.writer.proofs.Written.{item_readable}

-- data that is read at one place is read so at any other
asks_elsewhere : {X : Type 0} (b c : Bool) (f g f' g' : Fault) (x y : X) → ask b f (ask c g (Ok x)) ≡ Ok y → ask b f' (ask c g' (Ok x)) ≡ Ok y
asks_elsewhere true true f g f' g' x y e = e
asks_elsewhere true false f g f' g' x y e = absurd (clash e)
asks_elsewhere false c f g f' g' x y e = absurd (clash e)

maps_elsewhere : {X : Type 0} (make : X → Content) (r s : Result X Fault) (c : Content) → ((x : X) → r ≡ Ok x → s ≡ Ok x) → map_ok make r ≡ Ok c → map_ok make s ≡ Ok c
maps_elsewhere make r s c on e = let m = mapped_back make r c e in ap (map_ok make) (on m.0 m.1) ∙ ap (λ x. Ok x) m.2

either_elsewhere : (b : Bool) (r s r' s' : Result Content Fault) (c : Content) → (r ≡ Ok c → r' ≡ Ok c) → (s ≡ Ok c → s' ≡ Ok c) → cond b r s ≡ Ok c → cond b r' s' ≡ Ok c
either_elsewhere true r s r' s' c f g e = f e
either_elsewhere false r s r' s' c f g e = g e

reads_elsewhere : (t : ℕ) (x : List ℕ) (at to : ℕ) (c : Content) → content_of t x at ≡ Ok c → content_of t x to ≡ Ok c
reads_elsewhere t x at to c =
    either_elsewhere (eqb t 1) _ _ _ _ c (λ e. e)
    (either_elsewhere (eqb t 3) _ _ _ _ c (maps_elsewhere i_am_alive (alive_of x at) (alive_of x to) c (λ y. asks_elsewhere (leb 4 (length x)) (eqb (length x) (4 + cookie_length x)) _ _ _ _ _ y))
    (either_elsewhere (eqb t 4) _ _ _ _ c (maps_elsewhere ack (ack_of x at) (ack_of x to) c (λ y. asks_elsewhere (leb 1 (length x)) (eqb (length x) (1 + 3 * inner_count x)) _ _ _ _ _ y))
    (either_elsewhere (eqb t 5) _ _ _ _ c (maps_elsewhere nack (nack_of x at) (nack_of x to) c (λ y. asks_elsewhere (leb 1 (length x)) (meet_end (inner_count x) (drop 1 x)) _ _ _ _ _ y))
    (either_elsewhere (eqb t 6) _ _ _ _ c (maps_elsewhere non_standard (non_standard_of x at) (non_standard_of x to) c (λ y. asks_elsewhere (leb 2 (length x)) (leb (2 + oid_length x) (length x)) _ _ _ _ _ y))
    (λ e. e)))))

-- well-formed data is readable, and keeps its type
read_in : (r : Result Content Fault) (b : Bool) (other : Content) → reads_and r b ≡ true → r ≡ Ok (content_in r other)
read_in (Ok c) b other e = refl
read_in (Err f) b other e = let z : ◌≡◌ {A = ℕ} 0 1 = cc in absurd (omega arith)

typed_type : (t c : ℕ) (x : List ℕ) → well_formed t x ≡ true → type_of (part_added (typed t c x)).content ≡ t
typed_type t c x e = type_kept t x 0 _ (read_in (content_of t x 0) (reserved_clear t x) (unsupported t x) e)

typed_readable : (t c : ℕ) (x : List ℕ) → well_formed t x ≡ true → Readable (part_added (typed t c x))
typed_readable t c x e at =
    let k = (part_added (typed t c x)).content in
    ap (λ s. content_of s x at) (typed_type t c x e) ∙ reads_elsewhere t x 0 at k (read_in (content_of t x 0) (reserved_clear t x) (unsupported t x) e)

-- a payload that is readable deserves an Ack by its type
never_made : {X : Type 0} (make : X → Content) (r : Result X Fault) (t : ℕ) (x : List ℕ) → ((z : X) → make z ≡ unsupported t x → ⊥) → map_ok make r ≡ Ok (unsupported t x) → ⊥
never_made make r t x differs e = let m = mapped_back make r (unsupported t x) e in differs m.0 m.2

not_ack : (t : ℕ) (x y : List ℕ) → content_of t y 0 ≡ Ok (unsupported t x) → eqb t 4 ≡ true → ⊥
not_ack t x y e h =
    let f : map_ok ack (ack_of y 0) ≡ Ok (unsupported t x) = ap (λ s. content_of s y 0) (sym (eqb-true t 4 h)) ∙ e in
    never_made ack (ack_of y 0) t x (λ z q. let k : ◌≡◌ {A = ℕ} 0 1 = cc in omega arith) f

not_nack : (t : ℕ) (x y : List ℕ) → content_of t y 0 ≡ Ok (unsupported t x) → eqb t 5 ≡ true → ⊥
not_nack t x y e h =
    let f : map_ok nack (nack_of y 0) ≡ Ok (unsupported t x) = ap (λ s. content_of s y 0) (sym (eqb-true t 5 h)) ∙ e in
    never_made nack (nack_of y 0) t x (λ z q. let k : ◌≡◌ {A = ℕ} 0 1 = cc in omega arith) f

neither : (b c : Bool) → (b ≡ true → ⊥) → (c ≡ true → ⊥) → not (b || c) ≡ true
neither false false f g = refl
neither true c f g = absurd (f refl)
neither false true f g = absurd (g refl)

worth : (c : Content) (y : List ℕ) → content_of (type_of c) y 0 ≡ Ok c → deserving_type (type_of c) ≡ deserving c
worth (call_message x) y e = refl
worth (i_am_alive a) y e = refl
worth (ack ns) y e = refl
worth (nack es) y e = refl
worth (non_standard s) y e = refl
worth (unsupported t x) y e = neither (eqb t 4) (eqb t 5) (not_ack t x y e) (not_nack t x y e)

worth_push : (ps : List Part) (p : Part) (at : ℕ) → some_deserves (placed_from at (ps ++ p ∷ [])) ≡ (some_deserves (placed_from at ps) || deserving p.content)
worth_push [] p at = or-false (deserving p.content)
worth_push (q ∷ ps) p at =
    let to = at + 5 + length q.octets in
    ap (λ b. deserving q.content || b) (worth_push ps p to) ∙ sym (or_assoc (deserving q.content) (some_deserves (placed_from to ps)) (deserving p.content))

all_push : (ps : List Part) (p : Part) → AllOf Readable ps → Readable p → AllOf Readable (ps ++ p ∷ [])
all_push [] p all h = (h, tt)
all_push (q ∷ ps) p all h = (all.0, all_push ps p all.1 h)

pub open_holds : (d e : Draft) (n : ℕ) (a : Bool) → d.room ≤ 1024 → open_of d n a ≡ Ok e → Holds n a [] e
open_holds d e n a small h =
    let t = took (against_opening d.marks d.room n) _ e h in
    let k = clear_of (eqb d.marks.mark 0 && leb 5 d.room) _ _ t.0 in
    let fit = leb-true 5 d.room (and_parts (eqb d.marks.mark 0) (leb 5 d.room) k.0).1 in
    subst (Holds n a []) t.1 (record { filled = refl; mark = refl; count = refl; asked = refl; deserved = refl; unclosed = refl; fitting = fit; small = small; readable = tt })

part_holds : (d e : Draft) (n : ℕ) (a : Bool) (ps : List Part) (p : Part) (inside : Bool) → Holds n a ps d → Readable p → payload_of d (type_of p.content) p.crv p.octets inside ≡ Ok e → Holds n a (ps ++ p ∷ []) e
part_holds d e n a ps p inside k r h =
    let x = part_octets p in
    let t = took (against_payload d.marks d.room (type_of p.content) (length p.octets) inside) _ e h in
    let fit = (passes d.marks d.room (type_of p.content) (length p.octets) inside t.0).1 in
    let body : body_octets ps ++ x ≡ body_octets (ps ++ p ∷ []) = flat_map_more part_octets [] ps p in
    let long = length-append (body_octets ps) x in
    let more : length (body_octets ps ++ x) ≡ length (body_octets (ps ++ p ∷ [])) = ap length body in
    let m = k.mark in
    let s = k.small in
    subst (Holds n a (ps ++ p ∷ [])) t.1 (record {
      filled = ap (λ l. l ++ x) k.filled ∙ ap (λ l. header_octets n a 0 ++ l) body;
      mark = omega arith;
      count = ap (λ j. j + 1) k.count ∙ sym (length_push ps p);
      asked = k.asked;
      deserved = ap (λ b. b || deserving_type (type_of p.content)) k.deserved ∙ ap (λ b. some_deserves (placed_from 5 ps) || b) (worth p.content p.octets (r 0)) ∙ sym (worth_push ps p 5);
      unclosed = k.unclosed;
      fitting = omega arith;
      small = s;
      readable = all_push ps p k.readable r;
    })

pub add_holds : (d e : Draft) (n : ℕ) (a : Bool) (ps : List Part) (x : Addition) → Holds n a ps d → add_of d x ≡ Ok e → Holds n a (ps ++ part_added x ∷ []) e
add_holds d e n a ps (item i) k h =
    let t = took (against_payload d.marks d.room (type_of i.content) (length (data_of i.content)) (within i)) _ e h in
    let in' = (passes d.marks d.room (type_of i.content) (length (data_of i.content)) (within i) t.0).0 in
    part_holds d e n a ps (part_of i) (within i) k (item_readable i in') h
add_holds d e n a ps (typed s c x) k h =
    let t = took (against_payload d.marks d.room s (length x) (well_formed s x)) _ e h in
    let in' = (passes d.marks d.room s (length x) (well_formed s x) t.0).0 in
    let same = typed_type s c x in' in
    part_holds d e n a ps (part_added (typed s c x)) (well_formed s x) k (typed_readable s c x in') (ap (λ y. payload_of d y c x (well_formed s x)) same ∙ h)

-- a refused addition adds nothing
step_holds : (d : Draft) (n : ℕ) (a : Bool) (ps : List Part) (x : Addition) (r : Result Draft Refusal) → add_of d x ≡ r → Holds n a ps d → Holds n a (ps ++ if_accepted r (part_added x) []) (after d r)
step_holds d n a ps x (Ok e) is k = add_holds d e n a ps x k is
step_holds d n a ps x (Err f) is k = subst (λ l. Holds n a l d) (sym (append-nil ps)) k

if_accepted_lem : {X : Type 0} (r : Result X Refusal) (p : Part) (ps : List Part) → if_accepted r p [] ++ ps ≡ if_accepted r p ps
if_accepted_lem (Ok e) p ps = refl
if_accepted_lem (Err f) p ps = refl

all_hold : (xs : List Addition) (d : Draft) (n : ℕ) (a : Bool) (ps : List Part) → Holds n a ps d → Holds n a (ps ++ accepted d xs) (add_all d xs)
all_hold [] d n a ps k = subst (λ l. Holds n a l d) (sym (append-nil ps)) k
all_hold (x ∷ xs) d n a ps k =
    let r = add_of d x in
    let e = after d r in
    let one = if_accepted r (part_added x) [] in
    let same : (ps ++ one) ++ accepted e xs ≡ ps ++ if_accepted r (part_added x) (accepted e xs) = append_assoc ps one (accepted e xs) ∙ ap (λ l. ps ++ l) (if_accepted_lem r (part_added x) (accepted e xs)) in
    subst (λ l. Holds n a l (add_all e xs)) same (all_hold xs e n a (ps ++ one) (step_holds d n a ps x r refl k))

deserved_by : (a w v : Bool) → (not a || w) ≡ true → w ≡ v → a ≡ true → v ≡ true
deserved_by true w v h e i = sym e ∙ h
deserved_by false w v h e i = let z : ◌≡◌ {A = ℕ} 0 1 = cc in absurd (omega arith)

pub close_holds : (d e : Draft) (n : ℕ) (a : Bool) (ps : List Part) → Holds n a ps d → close_of d ≡ Ok e → Closed n a ps e
close_holds d e n a ps k h =
    let m = d.marks in
    let t = took (against_closing m d.room) _ e h in
    let c = clear_of (closable m d.room) _ _ t.0 in
    let o = and_parts (is_open m d.room) _ c.0 in
    let q = and_parts (ltb 0 m.count) (not m.asked || m.deserved) o.1 in
    let some = ltb-true 0 m.count q.0 in
    let count = k.count in
    let mark = k.mark in
    let fit = k.fitting in
    let small = k.small in
    let octets = datagram_octets n a ps in
    let filled : set d.filled 4 (m.count - 1) ≡ octets = ap (λ l. set l 4 (m.count - 1)) k.filled ∙ ap (λ j. header_octets n a (j - 1) ++ body_octets ps) count in
    let asks : a ≡ true → some_deserves (placed_from 5 ps) ≡ true = λ i. deserved_by m.asked m.deserved _ q.1 k.deserved (k.asked ∙ i) in
    let long : m.mark ≡ length octets = omega arith in
    subst (Closed n a ps) t.1 (record {
      filled = filled;
      mark = long ∙ ap length (sym filled);
      reads = ap read filled ∙ parts_read n a ps k.readable (omega arith) (omega arith) asks;
    })

pub what_is_closed_reads : WhatIsClosedReads
what_is_closed_reads d e f n a xs small o c = close_holds (add_all e xs) f n a (accepted e xs) (all_hold xs e n a [] (open_holds d e n a small o)) c

-- what fits is written
body_long : (ps : List Part) → 5 * length ps ≤ length (body_octets ps)
body_long [] = omega arith
body_long (p ∷ ps) = let h = body_long ps in omega (arith, length-append (part_octets p) (body_octets ps))

held_open : (d : Draft) (n : ℕ) (a : Bool) (ps : List Part) → Holds n a ps d → is_open d.marks d.room ≡ true
held_open d n a ps k =
    let m = k.mark in
    let f = k.fitting in
    and_from _ _ (le-leb 5 (min d.marks.mark d.room) (omega arith)) (ap not k.unclosed)

pub opens : (d : Draft) (n : ℕ) (a : Bool) → d.marks ≡ fresh → 5 ≤ d.room → n < 16777216 → open_of d n a ≡ Ok (with_header d n a)
opens d n a new room number = rw (new, le-leb 5 d.room room, lt-ltb n 16777216 number) refl

pub adds : (d : Draft) (n : ℕ) (a : Bool) (ps : List Part) (i : Item) → Holds n a ps d → within i ≡ true → is_written i ≡ true → d.marks.mark + 5 + length (data_of i.content) ≤ d.room
    → add_of d (item i) ≡ Ok (grown d (type_of i.content) (part_octets (part_of i)))
adds d n a ps i k values type room =
    let m = k.mark in
    let c = k.count in
    let s = k.small in
    let few : d.marks.count < 203 = omega (arith, body_long ps) in
    let fit : fits d.marks d.room (length (data_of i.content)) ≡ true = and_from _ _ (held_open d n a ps k) (and_from _ _ (lt-ltb d.marks.count 203 few) (le-leb (d.marks.mark + 5 + length (data_of i.content)) d.room room)) in
    rw (fit, type, values) refl

all_taken : (is : List Item) (d : Draft) (n : ℕ) (a : Bool) (ps : List Part) → Holds n a ps d → every within is ≡ true → every is_written is ≡ true → d.marks.mark + length (body_octets (map part_of is)) ≤ d.room
    → accepted d (map item is) ≡ map part_of is
all_taken [] d n a ps k values types room = refl
all_taken (i ∷ is) d n a ps k values types room =
    let v = and_parts (within i) (every within is) values in
    let t = and_parts (is_written i) (every is_written is) types in
    let x = part_octets (part_of i) in
    let e = grown d (type_of i.content) x in
    let long = length-append x (body_octets (map part_of is)) in
    let h = adds d n a ps i k v.0 t.0 (omega arith) in
    let later = all_taken is e n a (ps ++ part_of i ∷ []) (add_holds d e n a ps (item i) k h) v.1 t.1 (omega arith) in
    ap (λ r. if_accepted r (part_of i) (accepted (after d r) (map item is))) h ∙ ap (λ l. part_of i ∷ l) later

asked_well : (a w v : Bool) → (a ≡ true → v ≡ true) → w ≡ v → (not a || w) ≡ true
asked_well true w v h e = e ∙ h refl
asked_well false w v h e = refl

pub closes : (d : Draft) (n : ℕ) (a : Bool) (ps : List Part) → Holds n a ps d → 0 < length ps → (a ≡ true → some_deserves (placed_from 5 ps) ≡ true) → close_of d ≡ Ok (with_count d)
closes d n a ps k some deserved =
    let c = k.count in
    let asks : d.marks.asked ≡ true → some_deserves (placed_from 5 ps) ≡ true = λ q. deserved (sym k.asked ∙ q) in
    let can : closable d.marks d.room ≡ true = and_from _ _ (held_open d n a ps k) (and_from _ _ (lt-ltb 0 d.marks.count (omega arith)) (asked_well d.marks.asked d.marks.deserved _ asks k.deserved)) in
    ap (λ b. unless (first_of b (refused_at d.marks.mark NotClosable) None) (with_count d)) can

pub what_fits_is_written : WhatFitsIsWritten
what_fits_is_written d v new small r types fits' =
    let n = v.number in
    let a = v.wants_ack in
    let ps = map part_of v.items in
    let many = length-map v.items part_of in
    let some = r.some in
    let e = with_header d n a in
    let o = opens d n a new (omega arith) r.number in
    let k = open_holds d e n a small o in
    let f = add_all e (map item v.items) in
    let all = all_taken v.items e n a [] k r.items types (omega arith) in
    let h : Holds n a ps f = subst (λ l. Holds n a l f) all (all_hold (map item v.items) e n a [] k) in
    let c = closes f n a ps h (omega arith) r.deserved in
    record { opened = e; closed = with_count f; opens = o; closes = c; is = close_holds f (with_count f) n a ps h c }

-- the same of one call of the code
planned : {X : Type 0} (d e : Draft) (r : Result Draft Refusal) (answer : Draft → X) (x : X) → Ok x ≡ map_ok answer r → e ≡ after d r → (r ≡ Ok e) × (x ≡ answer e)
planned d e (Ok y) answer x g l = (ap (λ z. Ok z) (sym l), same) where
  same : x ≡ answer e
  same = let k : x ≡ answer y = cc in k ∙ ap answer (sym l)
planned d e (Err f) answer x g l = absurd (clash (sym g))

pub reads_as : (w w' : Writer) (k : ℕ) → Does w (close_of (draft_says w)) size (Ok k) w' → ReadsAs w (Ok k) w'
reads_as w w' k does n a ps h =
    let p = planned (draft_says w) (draft_says w') (close_of (draft_says w)) size k does.gives does.leaves in
    let c = close_holds (draft_says w) (draft_says w') n a ps h p.0 in
    ap (λ j. read (take j w'.buffer.now)) p.1 ∙ c.reads

-- a writer over a caller's octets, from its opening on
kept_past : (m n : ℕ) (b b' : List ℕ) → m ≤ n → drop m b ≡ drop m b' → drop n b ≡ drop n b'
kept_past m n b b' le e =
    let k : m + (n - m) ≡ n = omega arith in
    ap (λ j. drop j b) (sym k) ∙ sym (drop-drop (n - m) m b) ∙ ap (drop (n - m)) e ∙ drop-drop (n - m) m b' ∙ ap (λ j. drop j b') k

pub run_open : (n : ℕ) (a : Bool) (w w' : Writer) → Does w (open_of (draft_says w) n a) done (Ok tt) w' → Run w.buffer.now n a [] w'
run_open n a w w' does =
    let p = planned (draft_says w) (draft_says w') (open_of (draft_says w) n a) done tt does.gives does.leaves in
    record { holds = open_holds (draft_says w) (draft_says w') n a (omega arith) p.0; beyond = does.beyond }

pub run_add : {b : List ℕ} {n : ℕ} {a : Bool} {ps : List Part} (x : Addition) (w w' : Writer) → Run b n a ps w → Does w (add_of (draft_says w) x) done (Ok tt) w' → Run b n a (ps ++ part_added x ∷ []) w'
run_add {b} {n} {a} {ps} x w w' r does =
    let p = planned (draft_says w) (draft_says w') (add_of (draft_says w) x) done tt does.gives does.leaves in
    let h = add_holds (draft_says w) (draft_says w') n a ps x r.holds p.0 in
    let m = r.holds.mark in
    let m' = h.mark in
    let body = ap length (flat_map_more part_octets [] ps (part_added x)) in
    let le : w.marks.mark ≤ w'.marks.mark = omega (arith, length-append (body_octets ps) (part_octets (part_added x))) in
    record { holds = h; beyond = does.beyond ∙ kept_past w.marks.mark w'.marks.mark w.buffer.now b le r.beyond }

pub run_close : {b : List ℕ} {n : ℕ} {a : Bool} {ps : List Part} (k : ℕ) (w w' : Writer) → Run b n a ps w → Does w (close_of (draft_says w)) size (Ok k) w' → Written b n a ps k w'.buffer.now
run_close {b} {n} {a} {ps} k w w' r does =
    let p = planned (draft_says w) (draft_says w') (close_of (draft_says w)) size k does.gives does.leaves in
    let c = close_holds (draft_says w) (draft_says w') n a ps r.holds p.0 in
    let t = took (against_closing w.marks _) _ (draft_says w') p.0 in
    let same : w.marks.mark ≡ w'.marks.mark = ap (λ y. y.marks.mark) t.1 in
    let behind : drop w'.marks.mark w'.buffer.now ≡ drop w'.marks.mark b = does.beyond ∙ kept_past w.marks.mark w'.marks.mark w.buffer.now b (omega arith) r.beyond in
    let whole : w'.buffer.now ≡ datagram_octets n a ps ++ drop w'.marks.mark b = sym (take-append-drop w'.marks.mark w'.buffer.now) ∙ ap (λ l. l ++ drop w'.marks.mark w'.buffer.now) c.filled ∙ ap (λ l. datagram_octets n a ps ++ l) behind in
    record {
      size = p.1 ∙ c.mark ∙ ap length c.filled;
      buffer = whole ∙ ap (λ j. datagram_octets n a ps ++ drop j b) (sym p.1);
      reads = ap read (sym c.filled) ∙ c.reads;
    }
