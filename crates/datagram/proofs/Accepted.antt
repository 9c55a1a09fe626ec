-- A datagram that passes every question: what it is read as, and how its payloads lie. Assumes nothing.
use Rattle.std.proofs.Common.{◌≡◌, ℕ, zero, suc, ◌+◌, ◌≤◌, Bool, true, false, cond, not, ◌||◌, eqb, leb, ◌⊎◌, List, [], ◌∷◌, length, take, drop, Ok, Result, sym, refl, ap, ◌∙◌, subst, inl, inr, arith}
use Rattle.std.proofs.lemmas.List.{length-drop, length-take-le, drop-drop}
use Rattle.std.proofs.lemmas.Bool.{leb-true, eqb-true}
use Rattle.datagram.specs.declared.fault.Fault.{Fault}
use Rattle.datagram.specs.declared.header.Header.{Header}
use Rattle.datagram.specs.Datagrams.{header_fields, header_of, payloads_from, some_deserves, datagram_of, read}
use Rattle.datagram.specs.Laws.{Lies, EndToEnd, PayloadsLieEndToEnd}
use Rattle.datagram.specs.Layout.{version, type_field, length_field, payload_data}
use Rattle.datagram.specs.Payloads.{Payload, past, payload_at}
use Rattle.datagram.specs.Places.{sound_from}
use Rattle.datagram.specs.Results.{map_ok}
use Rattle.datagram.specs.Structures.{Content, type_of, call_message, i_am_alive, ack, nack, non_standard, unsupported, alive_of, ack_of, nack_of, non_standard_of, content_of}
use Rattle.datagram.proofs.Passing.{passed, bound, mapped_back}

-- what is read without a fault is all that there is before a fault
all_sound : (n : ℕ) (d : List ℕ) (at : ℕ) (ps : List Payload) → payloads_from n d at ≡ Ok ps → sound_from n d at ≡ ps
all_sound zero d at ps e = let k = (passed (leb (length d) at) _ (Ok []) ps e).1 in cc
all_sound (suc n) d at ps e =
    let k = bound (payload_at (drop at d) at) _ ps e in
    let m = mapped_back _ (payloads_from n d (past k.0)) ps k.2 in
    rw k.1 (ap (λ qs. k.0 ∷ qs) (all_sound n d (past k.0) m.0 m.1) ∙ m.2)

accepts_so : (d : List ℕ) (h : Header) (ps : List Payload) → Ok h ≡ header_of d → payloads_from h.payloads d 5 ≡ Ok ps → (not h.wants_ack || some_deserves ps) ≡ true
    → Ok (record { number = h.number; wants_ack = h.wants_ack; payloads = ps }) ≡ read d
accepts_so d h ps eh eps ok = rw (← eh, eps, ok) refl

-- b says whether some payload deserves an Ack, and the test of the code that it is not wanted in vain
pub worth : (a b : Bool) → ((a ≡ true) × (b ≡ true)) ⊎ (a ≡ false) → (not a || b) ≡ true
worth a b (inl w) = rw (w.0, w.1) refl
worth a b (inr w) = rw w refl

pub accepts : (d : List ℕ) (h : Header) (b : Bool) → Ok h ≡ header_of d → Ok b ≡ map_ok some_deserves (payloads_from h.payloads d 5) → (not h.wants_ack || b) ≡ true
    → Ok (record { number = h.number; wants_ack = h.wants_ack; payloads = sound_from h.payloads d 5 }) ≡ read d
accepts d h b eh eb ok =
    let k = mapped_back some_deserves (payloads_from h.payloads d 5) b (sym eb) in
    ap (λ ps. Ok (record { number = h.number; wants_ack = h.wants_ack; payloads = ps })) (all_sound h.payloads d 5 k.0 k.1)
    ∙ accepts_so d h k.0 eh k.1 (ap (λ x. not h.wants_ack || x) k.2 ∙ ok)

-- a payload's content keeps its type
abbrev Branch : Bool → Result Content Fault → Result Content Fault → Content → Type 0
Branch b r s c = ((b ≡ true) × (r ≡ Ok c)) ⊎ ((b ≡ false) × (s ≡ Ok c))

either : (b : Bool) (r s : Result Content Fault) (c : Content) → cond b r s ≡ Ok c → Branch b r s c
either true r s c e = inl (refl, e)
either false r s c e = inr (refl, e)

is_type : {X : Type 0} (t k : ℕ) (make : X → Content) (r : Result X Fault) (c : Content) → ((x : X) → type_of (make x) ≡ k) → eqb t k ≡ true → map_ok make r ≡ Ok c → type_of c ≡ t
is_type t k make r c typed same e =
    let m = mapped_back make r c e in
    ap type_of (sym m.2) ∙ typed m.0 ∙ sym (eqb-true t k same)

pub type_kept : (t : ℕ) (x : List ℕ) (at : ℕ) (c : Content) → content_of t x at ≡ Ok c → type_of c ≡ t
type_kept t x at c e = one (either (eqb t 1) (Ok (call_message x)) from3 c e)
  where
    from6 : Result Content Fault
    from6 = cond (eqb t 6) (map_ok non_standard (non_standard_of x at)) (Ok (unsupported t x))

    from5 : Result Content Fault
    from5 = cond (eqb t 5) (map_ok nack (nack_of x at)) from6

    from4 : Result Content Fault
    from4 = cond (eqb t 4) (map_ok ack (ack_of x at)) from5

    from3 : Result Content Fault
    from3 = cond (eqb t 3) (map_ok i_am_alive (alive_of x at)) from4

    six : Branch (eqb t 6) (map_ok non_standard (non_standard_of x at)) (Ok (unsupported t x)) c → type_of c ≡ t
    six (inl w) = is_type t 6 non_standard _ c (λ _. refl) w.0 w.1
    six (inr w) = let f = w.1 in let same : c ≡ unsupported t x = cc in ap type_of same

    five : Branch (eqb t 5) (map_ok nack (nack_of x at)) from6 c → type_of c ≡ t
    five (inl w) = is_type t 5 nack _ c (λ _. refl) w.0 w.1
    five (inr w) = six (either (eqb t 6) _ _ c w.1)

    four : Branch (eqb t 4) (map_ok ack (ack_of x at)) from5 c → type_of c ≡ t
    four (inl w) = is_type t 4 ack _ c (λ _. refl) w.0 w.1
    four (inr w) = five (either (eqb t 5) _ _ c w.1)

    three : Branch (eqb t 3) (map_ok i_am_alive (alive_of x at)) from4 c → type_of c ≡ t
    three (inl w) = is_type t 3 i_am_alive _ c (λ _. refl) w.0 w.1
    three (inr w) = four (either (eqb t 4) _ _ c w.1)

    one : Branch (eqb t 1) (Ok (call_message x)) from3 c → type_of c ≡ t
    one (inl w) = is_type t 1 call_message (Ok x) c (λ _. refl) w.0 w.1
    one (inr w) = three (either (eqb t 3) _ _ c w.1)

-- a payload lies where it is read
lies : (d : List ℕ) (at : ℕ) (p : Payload) → at ≤ length d → payload_at (drop at d) at ≡ Ok p → Lies d at p × (past p ≤ length d)
lies d at p within e =
    let q = drop at d in
    let first = passed (leb 5 (length q)) _ _ p e in
    let second = passed (leb (5 + length_field q) (length q)) _ _ p first.1 in
    let m = mapped_back _ (content_of (type_field q) (payload_data q) (at + 5)) p second.1 in
    let is = m.2 in
    let whole = leb-true _ _ second.0 in
    let fits : length_field q ≤ length (drop 5 q) = omega (arith, length-drop 5 q) in
    let octets : p.octets ≡ payload_data q = sym (ap (λ x. x.octets) is) in
    let offset : p.offset ≡ at + 5 = sym (ap (λ x. x.offset) is) in
    let size : length p.octets ≡ length_field q = ap length octets ∙ length-take-le (length_field q) (drop 5 q) fits in
    let left = length-drop at d in (
      record {
        offset = offset;
        view = octets ∙ ap (take (length_field q)) (drop-drop 5 at d ∙ ap (λ o. drop o d) (sym offset));
        whole = size;
        type = ap (λ x. type_of x.content) (sym is) ∙ type_kept (type_field q) (payload_data q) (at + 5) m.0 m.1;
        crv = sym (ap (λ x. x.crv) is);
        content = ap (λ x. content_of (type_field q) x p.offset) octets ∙ ap (content_of (type_field q) (payload_data q)) offset ∙ m.1 ∙ ap (λ x. Ok x.content) is;
      },
      omega arith,
    )

tile : (n : ℕ) (d : List ℕ) (at : ℕ) (ps : List Payload) → at ≤ length d → payloads_from n d at ≡ Ok ps → EndToEnd d at ps × (length ps ≡ n)
tile zero d at ps within e =
    let k = passed (leb (length d) at) _ (Ok []) ps e in
    let none : [] ≡ ps = let f = k.1 in cc in
    let over = leb-true (length d) at k.0 in
    let met : at ≡ length d = omega arith in
    subst (λ qs. EndToEnd d at qs × (length qs ≡ 0)) none (met, refl)
tile (suc n) d at ps within e =
    let k = bound (payload_at (drop at d) at) _ ps e in
    let p = k.0 in
    let m = mapped_back _ (payloads_from n d (past p)) ps k.2 in
    let l = lies d at p within k.1 in
    let rest = tile n d (past p) m.0 l.1 m.1 in
    subst (λ qs. EndToEnd d at qs × (length qs ≡ suc n)) m.2 ((l.0, rest.0), ap suc rest.1)

pub payloads_lie_end_to_end : (d : List ℕ) → PayloadsLieEndToEnd d
payloads_lie_end_to_end d g e =
    let k = bound (header_of d) _ g e in
    let h = k.0 in
    let small = passed (leb (length d) 1024) _ _ h k.1 in
    let long = passed (leb 5 (length d)) _ _ h small.1 in
    let zeroth = passed (eqb (version d) 0) _ _ h long.1 in
    let fields : header_fields d ≡ h = let f = zeroth.1 in cc in
    let m = bound (payloads_from h.payloads d 5) (datagram_of h) g k.2 in
    let last = passed (not h.wants_ack || some_deserves m.0) _ _ g m.2 in
    let is : record { number = h.number; wants_ack = h.wants_ack; payloads = m.0 } ≡ g = let f = last.1 in cc in
    let all = tile h.payloads d 5 m.0 (leb-true 5 (length d) long.0) m.1 in
    record {
      size = leb-true (length d) 1024 small.0;
      number = sym (ap (λ x. x.number) is) ∙ sym (ap (λ x. x.number) fields);
      wants_ack = sym (ap (λ x. x.wants_ack) is) ∙ sym (ap (λ x. x.wants_ack) fields);
      count = ap (λ x. length x.payloads) (sym is) ∙ all.1 ∙ sym (ap (λ x. x.payloads) fields);
      payloads = subst (λ x. EndToEnd d 5 x.payloads) is all.0;
    }
