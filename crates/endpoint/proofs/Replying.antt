-- What a datagram that was read is replied with lies within its fields. Assumes nothing.
use Rattle.std.proofs.Common.{◌≡◌, ℕ, zero, suc, ◌+◌, ◌<◌, ◌≤◌, Bool, true, false, cond, not, ◌||◌, leb, eqb, List, [], ◌∷◌, ◌++◌, map, length, drop, slice_index_or, Fits, w8, Some, None, Ok, Option, Result, sym, refl, ap, ◌∙◌, subst, arith}
use Rattle.std.proofs.Math.Facts.{Fits-lt-pow}
use Rattle.std.proofs.lemmas.Bool.{lt-ltb, leb-true, and_from}
use Rattle.std.proofs.lemmas.List.{length-drop, length-take, map-append}
use Rattle.std.proofs.lemmas.List.Folds.{list_all-append}
use Rattle.datagram.specs.declared.fault.Fault.{Fault}
use Rattle.datagram.specs.declared.header.Header.{Header}
use Rattle.datagram.specs.Datagrams.{Datagram, header_fields, header_of, payloads_from, some_deserves, datagram_of, read}
use Rattle.datagram.specs.Layout.{version, type_field, length_field, payload_data, number_field, cookie_length}
use Rattle.datagram.specs.Payloads.{Payload, past, payload_at}
use Rattle.datagram.specs.Structures.{Alive, Content, call_message, i_am_alive, ack, nack, non_standard, unsupported, cookie_of, alive_of, content_of}
use Rattle.datagram.proofs.Accepted.{type_kept}
use Rattle.datagram.proofs.Passing.{passed, bound, mapped_back}
use Rattle.writer.specs.Bodies.{settled, living}
use Rattle.writer.specs.Values.{every, cookie_within, content_within}
use Rattle.endpoint.specs.Replies.{cookie_asked, cookies_asked, settling, first_unsupported, reply_to}

abbrev Within : List Content → Type 0
Within cs = every content_within cs ≡ true

both_within : (cs ds : List Content) → Within cs → Within ds → Within (cs ++ ds)
both_within cs ds e f = list_all-append content_within cs ds ∙ and_from _ _ e f

cookie_fits : (x : List ℕ) → length x < 32768 → cookie_within (cookie_of x) ≡ true
cookie_fits [] short = refl
cookie_fits (o ∷ x) short = and_from _ _ (lt-ltb 0 (length (o ∷ x)) (omega arith)) (lt-ltb (length (o ∷ x)) 32768 short)

alive_fits : (s : List ℕ) (at : ℕ) (a : Alive) → length s ≤ 1024 → alive_of s at ≡ Ok a → cookie_within a.cookie ≡ true
alive_fits s at a short e =
    let first = passed (leb 4 (length s)) _ _ a e in
    let second = passed (eqb (length s) (4 + cookie_length s)) _ _ a first.1 in
    let made : cookie_of (drop 4 s) ≡ a.cookie = let k = second.1 in cc in
    ap cookie_within (sym made) ∙ cookie_fits (drop 4 s) (omega (arith, length-drop 4 s))

echo_fits : (t : ℕ) (x : List ℕ) (at : ℕ) (c : Content) → length x ≤ 1024 → content_of t x at ≡ Ok c → Within (map living (cookie_asked c))
echo_fits t x at (call_message y) short e = refl
echo_fits t x at (ack ns) short e = refl
echo_fits t x at (nack es) short e = refl
echo_fits t x at (non_standard s) short e = refl
echo_fits t x at (unsupported k y) short e = refl
echo_fits t x at (i_am_alive a) short e = asked a.wants_reply
  where
    fits : cookie_within a.cookie ≡ true
    fits =
        let three = type_kept t x at (i_am_alive a) e in
        let m = mapped_back i_am_alive (alive_of x at) (i_am_alive a) (ap (λ k. content_of k x at) three ∙ e) in
        let same : m.0.cookie ≡ a.cookie = let k = m.2 in cc in
        ap cookie_within (sym same) ∙ alive_fits x at m.0 short m.1

    asked : (b : Bool) → Within (map living (cond b (a.cookie ∷ []) []))
    asked true = and_from _ _ (and_from _ _ refl fits) refl
    asked false = refl

payload_fits : (d : List ℕ) (at : ℕ) (p : Payload) → length d ≤ 1024 → payload_at d at ≡ Ok p → Within (map living (cookie_asked p.content))
payload_fits d at p short e =
    let first = passed (leb 5 (length d)) _ _ p e in
    let second = passed (leb (5 + length_field d) (length d)) _ _ p first.1 in
    let m = mapped_back _ (content_of (type_field d) (payload_data d) (at + 5)) p second.1 in
    let is : m.0 ≡ p.content = ap (λ x. x.content) m.2 in
    let less : length (payload_data d) ≤ 1024 = omega (arith, length-take (length_field d) (drop 5 d), length-drop 5 d) in
    subst (λ c. Within (map living (cookie_asked c))) is (echo_fits (type_field d) (payload_data d) (at + 5) m.0 less m.1)

echoes_fit : (n : ℕ) (d : List ℕ) (at : ℕ) (ps : List Payload) → length d ≤ 1024 → payloads_from n d at ≡ Ok ps → Within (map living (cookies_asked ps))
echoes_fit zero d at ps short e =
    let k = passed (leb (length d) at) _ (Ok []) ps e in
    let none : [] ≡ ps = let f = k.1 in cc in
    subst (λ qs. Within (map living (cookies_asked qs))) none refl
echoes_fit (suc n) d at ps short e =
    let k = bound (payload_at (drop at d) at) _ ps e in
    let m = mapped_back _ (payloads_from n d (past k.0)) ps k.2 in
    let less : length (drop at d) ≤ 1024 = omega (arith, length-drop at d) in
    let here = payload_fits (drop at d) at k.0 less k.1 in
    let later = echoes_fit n d (past k.0) m.0 short m.1 in
    let all : Within (map living (cookies_asked (k.0 ∷ m.0))) = subst Within (sym (map-append living (cookie_asked k.0.content) (cookies_asked m.0))) (both_within (map living (cookie_asked k.0.content)) (map living (cookies_asked m.0)) here later) in
    subst (λ qs. Within (map living (cookies_asked qs))) m.2 all

settled_fits : (n : ℕ) (a : Bool) (o : Option ℕ) → n < 16777216 → Within (settled (settling n a o))
settled_fits n a (Some t) small = rw (lt-ltb n 16777216 small) refl
settled_fits n true None small = rw (lt-ltb n 16777216 small) refl
settled_fits n false None small = refl

ok_is : {X E : Type 0} (x y : X) → ◌≡◌ {A = Result X E} (Ok x) (Ok y) → x ≡ y
ok_is x y e = cc

made : (h : Header) (ps : List Payload) (g : Datagram) → datagram_of h ps ≡ Ok g → record { number = h.number; wants_ack = h.wants_ack; payloads = ps } ≡ g
made h ps g e = ok_is {E = Fault} (record { number = h.number; wants_ack = h.wants_ack; payloads = ps }) g (passed (not h.wants_ack || some_deserves ps) _ _ g e).1

-- what a datagram was read from
record ReadFrom (d : List ℕ) (g : Datagram) : Type 0 where
  count : ℕ
  short : length d ≤ 1024
  number : g.number ≡ number_field d
  payloads : payloads_from count d 5 ≡ Ok g.payloads

read_from : (d : List ℕ) (g : Datagram) → read d ≡ Ok g → ReadFrom d g
read_from d g e =
    let h = bound (header_of d) _ g e in
    let ps = bound (payloads_from h.0.payloads d 5) (datagram_of h.0) g h.2 in
    let first = passed (leb (length d) 1024) _ _ h.0 h.1 in
    let second = passed (leb 5 (length d)) _ _ h.0 first.1 in
    let third = passed (eqb (version d) 0) _ _ h.0 second.1 in
    let fields = ok_is {E = Fault} (header_fields d) h.0 third.1 in
    let is = made h.0 ps.0 g ps.2 in
    record {
      count = h.0.payloads;
      short = leb-true (length d) 1024 first.0;
      number = ap (λ x. x.number) (sym is) ∙ ap (λ x. x.number) (sym fields);
      payloads = ps.1 ∙ ap (λ x. Ok x.payloads) is;
    }

-- what the checker knows of a caller's octets
abbrev pub Octets : List ℕ → Type 0
Octets d = (i : ℕ) → Fits w8 (slice_index_or d i 0)

pub number_small : (d : List ℕ) (g : Datagram) → Octets d → read d ≡ Ok g → g.number < 16777216
number_small d g octets e =
    let number = (read_from d g e).number in
    let below : (i : ℕ) → slice_index_or d i 0 < 256 = λ i. Fits-lt-pow (octets i) in
    omega (arith, below 1, below 2, below 3)

pub reply_within : (d : List ℕ) (g : Datagram) → g.number < 16777216 → read d ≡ Ok g → every content_within (reply_to g) ≡ true
reply_within d g small e =
    let r = read_from d g e in
    both_within (settled (settling g.number g.wants_ack (first_unsupported g.payloads))) (map living (cookies_asked g.payloads))
    (settled_fits g.number g.wants_ack (first_unsupported g.payloads) small) (echoes_fit r.count d 5 g.payloads r.short r.payloads)
