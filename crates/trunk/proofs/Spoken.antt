-- What an end hears in what the other end writes: a send's datagram, an I-Am-Alive, and a reply.
use Rattle.std.proofs.Common.{◌≡◌, ℕ, ◌<◌, ◌≤◌, Bool, true, false, not, eqb, List, [], ◌∷◌, ◌++◌, map, length, Some, None, Ok, Option, sym, refl, ap, ◌∙◌, inl, inr, arith}
use Rattle.std.specs.Option.{option_map}
use Rattle.std.proofs.lemmas.Bool.{cases_Bool, false≢true, and_parts, and_from, eqb-true, leb-true}
use Rattle.datagram.specs.Datagrams.{Datagram, some_deserves, read}
use Rattle.datagram.specs.Payloads.{Payload}
use Rattle.datagram.specs.Results.{map_ok}
use Rattle.datagram.specs.Structures.{Content, call_message, i_am_alive, ack, nack, non_standard, unsupported}
use Rattle.datagram.specs.Bodies.{body_payloads}
use Rattle.writer.specs.Bodies.{headed, Settling, acknowledging, rejecting, nothing, settled, living, replied, reply, calling, under_no_call}
use Rattle.writer.specs.Values.{datagram, written, placed, placed_from, part_of, every, content_within}
use Rattle.writer.proofs.Trips.{round_trip}
use Rattle.endpoint.specs.Arrives.{handed_out}
use Rattle.endpoint.specs.Replies.{or_else, first_unsupported, settling, cookies_asked, reply_to, outcome_in, decided}
use Rattle.endpoint.specs.Sends.{is_message, is_plain, is_body_size}
use Rattle.endpoint.proofs.Replying.{reply_within}
use Rattle.trunk.specs.Acts.{Octets, said_by, said_in, Outcome, acknowledged, rejected}
use Rattle.trunk.specs.Changes.{Nothing, Itself, Carries, Bare}
use Rattle.trunk.specs.Two.{outcome_of}
use Rattle.trunk.proofs.Alone.{none_some}
use Rattle.trunk.proofs.Hearing.{heard_as, or_nothing, heard_in}

hears : (d : Octets) (g : Datagram) → read d ≡ Ok g → heard_in d ≡ Some (heard_as g)
hears d g e = ap or_nothing e

-- payloads that may be sent are all handed out, deserve an Ack, and say nothing of any number
message_handed : (p : Payload) (ps : List Payload) → is_message p.content ≡ true → handed_out (p ∷ ps) ≡ p ∷ handed_out ps
message_handed p ps e = rw e

message_silent : (n : ℕ) (c : Content) → is_message c ≡ true → outcome_in n c ≡ None
message_silent n (call_message x) e = refl
message_silent n (i_am_alive a) e = absurd (false≢true e)
message_silent n (ack ns) e = absurd (false≢true e)
message_silent n (nack es) e = absurd (false≢true e)
message_silent n (non_standard s) e = refl
message_silent n (unsupported t x) e = absurd (false≢true e)

plain_message : (b : List ℕ) (p : Payload) (ps : List Payload) → every (is_plain b) (p ∷ ps) ≡ true → (is_message p.content ≡ true) × (every (is_plain b) ps ≡ true)
plain_message b p ps e = let k = and_parts _ _ e in ((and_parts _ _ k.0).0, k.1)

all_handed : (b : List ℕ) (ps : List Payload) → every (is_plain b) ps ≡ true → handed_out ps ≡ ps
all_handed b [] e = refl
all_handed b (p ∷ ps) e =
    let k = plain_message b p ps e in
    message_handed p ps k.0 ∙ ap {B = List Payload} (λ r. p ∷ r) (all_handed b ps k.1)

all_silent : (b : List ℕ) (n : ℕ) (ps : List Payload) → every (is_plain b) ps ≡ true → decided n ps ≡ None
all_silent b n [] e = refl
all_silent b n (p ∷ ps) e =
    let k = plain_message b p ps e in
    ap (λ o. or_else o (decided n ps)) (message_silent n p.content k.0) ∙ all_silent b n ps k.1

message_deserves : (c : Content) (ps : List Payload) (crv at : ℕ) (x : List ℕ) → is_message c ≡ true → some_deserves (record { crv = crv; offset = at; octets = x; content = c } ∷ ps) ≡ true
message_deserves (call_message y) ps crv at x e = refl
message_deserves (i_am_alive a) ps crv at x e = refl
message_deserves (ack ns) ps crv at x e = absurd (false≢true e)
message_deserves (nack es) ps crv at x e = absurd (false≢true e)
message_deserves (non_standard s) ps crv at x e = refl
message_deserves (unsupported t y) ps crv at x e = refl

all_deserve : (b : List ℕ) (ps : List Payload) → every (is_plain b) ps ≡ true → (ps ≡ [] → ⊥) → some_deserves ps ≡ true
all_deserve b [] e n = absurd (n refl)
all_deserve b (p ∷ ps) e n = message_deserves p.content ps p.crv p.offset p.octets (plain_message b p ps e).0

map_nil : (ps : List Payload) → map said_by ps ≡ [] → ps ≡ []
map_nil [] e = refl
map_nil (p ∷ ps) e = let z : ◌≡◌ {A = ℕ} 0 1 = cc in absurd (omega arith)

said_in_lem : (b : List ℕ) (ps : List Payload) → body_payloads b ≡ Ok ps → said_in b ≡ Ok (map said_by ps)
unfolding said_in
said_in_lem b ps e = ap (map_ok (map said_by)) e

-- 1. the datagram of a send
pub send_heard : (n : ℕ) (want : Bool) (b : List ℕ) (ps : List Payload) → is_body_size (length b) ≡ true → body_payloads b ≡ Ok ps → every (is_plain b) ps ≡ true
    → Carries heard_in (headed n want b) n want b
send_heard n want b ps size e plain =
    let k = and_parts _ _ size in
    let least = leb-true 1 (length b) k.0 in
    let most = leb-true (length b) 507 k.1 in
    let some : ps ≡ [] → ⊥ = λ z. round_trip.body_not_empty b (omega arith) (e ∙ ap Ok z) in
    record {
      heard = heard_as (datagram n want ps);
      numbered = record {
        reads = hears (headed n want b) (datagram n want ps) (round_trip.header_and_body n want b ps (omega arith) (omega arith) e (λ w. all_deserve b ps plain some));
        number = refl;
        acknowledges = λ m x. none_some (option_map outcome_of (decided m ps)) acknowledged (ap (option_map outcome_of) (all_silent b m ps plain)) x;
      };
      asks = refl;
      hands = said_in_lem b ps e ∙ ap (λ qs. Ok (map said_by qs)) (sym (all_handed b ps plain));
      some = λ z. some (map_nil ps (ap (map said_by) (sym (all_handed b ps plain)) ∙ z));
    }

-- 2. an I-Am-Alive
pub alive_heard : (n : ℕ) → Bare heard_in (written (calling n)) n Nothing
alive_heard n =
    record {
      heard = heard_as (placed (calling n));
      numbered = record {
        reads = hears (written (calling n)) (placed (calling n)) (round_trip.call_for_life n);
        number = refl;
        acknowledges = λ m x. none_some None acknowledged refl x;
      };
      asks = refl;
      hands = refl;
    }

-- a reply hands out nothing
every_both : {X : Type 0} (f : X → Bool) (xs ys : List X) → every f xs ≡ true → every f ys ≡ true → every f (xs ++ ys) ≡ true
every_both f [] ys p q = q
every_both f (x ∷ xs) ys p q = let k = and_parts _ _ p in and_from _ _ k.0 (every_both f xs ys k.1 q)

abbrev no_message : Content → Bool
no_message c = not (is_message c)

abbrev laid : ℕ → List Content → List Payload
laid at cs = placed_from at (map part_of (map under_no_call cs))

none_handed : (cs : List Content) (at : ℕ) → every no_message cs ≡ true → handed_out (laid at cs) ≡ []
none_handed [] at e = refl
none_handed (c ∷ cs) at e =
    let k = and_parts _ _ e in
    elim (cases_Bool (is_message c)) [
      | inl y ↦ absurd (false≢true (ap not (sym y) ∙ k.0))
      | inr y ↦ rw y (none_handed cs _ k.1)
    ]

living_none : (cookies : List (Option (List ℕ))) → every no_message (map living cookies) ≡ true
living_none [] = refl
living_none (c ∷ cs) = living_none cs

settled_none : (s : Settling) → every no_message (settled s) ≡ true
settled_none (acknowledging n) = refl
settled_none (rejecting n r x) = refl
settled_none nothing = refl

-- and acknowledges only what it answers
living_silent : (m : ℕ) (cookies : List (Option (List ℕ))) (at : ℕ) → decided m (laid at (map living cookies)) ≡ None
living_silent m [] at = refl
living_silent m (c ∷ cs) at = living_silent m cs _

rejected_not : (o : Option Outcome) (r : ℕ) → o ≡ Some (rejected r) → o ≡ Some acknowledged → ⊥
rejected_not o r p q = let z : ◌≡◌ {A = ℕ} 0 1 = cc in omega arith

settled_says : (m at : ℕ) (s : Settling) (cookies : List (Option (List ℕ))) → option_map outcome_of (decided m (laid at (replied s cookies))) ≡ Some acknowledged → s ≡ acknowledging m
settled_says m at nothing cookies e =
    absurd (none_some (option_map outcome_of (decided m (laid at (map living cookies)))) acknowledged (ap (option_map outcome_of) (living_silent m cookies at)) e)
settled_says m at (acknowledging n) cookies e =
    elim (cases_Bool (eqb n m)) [
      | inl y ↦ ap acknowledging (eqb-true n m y)
      | inr y ↦ absurd (none_some (option_map outcome_of (decided m (laid at (replied (acknowledging n) cookies)))) acknowledged
          (rw y (ap (option_map outcome_of) (living_silent m cookies _))) e)
    ]
settled_says m at (rejecting n r x) cookies e =
    elim (cases_Bool (eqb n m)) [
      | inl y ↦ absurd (rejected_not (option_map outcome_of (decided m (laid at (replied (rejecting n r x) cookies)))) r (rw y refl) e)
      | inr y ↦ absurd (none_some (option_map outcome_of (decided m (laid at (replied (rejecting n r x) cookies)))) acknowledged
          (rw y (ap (option_map outcome_of) (living_silent m cookies _))) e)
    ]

settling_says : (m n : ℕ) (want : Bool) (u : Option ℕ) → settling n want u ≡ acknowledging m → (m ≡ n) × (want ≡ true)
settling_says m n want (Some t) e = let z : ◌≡◌ {A = ℕ} 0 1 = cc in absurd (omega arith)
settling_says m n true None e = (cc, refl)
settling_says m n false None e = let z : ◌≡◌ {A = ℕ} 0 1 = cc in absurd (omega arith)

-- 3. a reply
pub reply_heard : (n : ℕ) (d : Octets) (g : Datagram) → read d ≡ Ok g → g.number < 16777216 → 0 < length (reply_to g)
    → length (written (reply n (reply_to g))) ≤ 1024 → Bare heard_in (written (reply n (reply_to g))) n (Itself (heard_as g))
reply_heard n d g e small some fits =
    let s : Settling = settling g.number g.wants_ack (first_unsupported g.payloads) in
    let cookies : List (Option (List ℕ)) = cookies_asked g.payloads in
    let within : every content_within (replied s cookies) ≡ true = reply_within d g small e in
    record {
      heard = heard_as (placed (reply n (reply_to g)));
      numbered = record {
        reads = hears (written (reply n (reply_to g))) (placed (reply n (reply_to g))) (round_trip.reply n s cookies within some fits);
        number = refl;
        acknowledges = λ m x. settling_says m g.number g.wants_ack (first_unsupported g.payloads) (settled_says m 5 s cookies x);
      };
      asks = refl;
      hands = ap (map said_by) (none_handed (reply_to g) 5 (every_both no_message (settled s) (map living cookies) (settled_none s) (living_none cookies)));
    }
