-- One step of a body, and what it leaves to come. Assumes nothing.
use Rattle.std.proofs.Common.{◌≡◌, ℕ, zero, suc, ◌+◌, ◌<◌, ◌≤◌, leb, List, [], ◌∷◌, length, drop, Some, None, Ok, Err, Option, Result, sym, refl, ap, ◌∙◌, arith}
use Rattle.std.proofs.lemmas.Bool.{leb-true}
use Rattle.std.proofs.lemmas.List.{length-drop, length-take-le, drop-drop}
use Rattle.std.specs.Iterator.{YieldsFirstBy}
use Rattle.std.specs.Option.{option_map, option_flatten}
use Rattle.std.specs.Result.{result_ok}
use Rattle.datagram.specs.declared.fault.Fault.{Fault}
use Rattle.datagram.specs.declared.payload.Payload as payload
use Rattle.datagram.specs.Bodies.{body_from}
use Rattle.datagram.specs.Layout.{type_field, length_field, payload_data}
use Rattle.datagram.specs.Payloads.{Payload, past, payload_at}
use Rattle.datagram.specs.Places.{Rest, next_of, next_in, moved_in, rest_after, rest_payloads, unless_fault, sound_body_from, sound_rest}
use Rattle.datagram.specs.Results.{map_ok, and_then}
use Rattle.datagram.specs.Structures.{content_of}
use Rattle.datagram.specs.Views.{payload_says}
use Rattle.datagram.proofs.Passing.{passed, mapped_back}
use Rattle.datagram.proofs.Places.{some_back, none_back, err_back}
use Rattle.datagram.proofs.Taking.{Gives, viewed}

-- a payload that is read stands behind its header, and is whole
pub payload_lies : (d : List ℕ) (at : ℕ) (p : Payload) → payload_at d at ≡ Ok p → (p.offset ≡ at + 5) × (5 + length p.octets ≤ length d)
payload_lies d at p e =
    let first = passed (leb 5 (length d)) _ _ p e in
    let second = passed (leb (5 + length_field d) (length d)) _ _ p first.1 in
    let m = mapped_back _ (content_of (type_field d) (payload_data d) (at + 5)) p second.1 in
    let whole = leb-true _ _ second.0 in
    let fits : length_field d ≤ length (drop 5 d) = omega (arith, length-drop 5 d) in
    let size : length p.octets ≡ length_field d = sym (ap (λ x. length x.octets) m.2) ∙ length-take-le (length_field d) (drop 5 d) fits in
    (sym (ap (λ x. x.offset) m.2), omega arith)

abbrev rest : List ℕ → ℕ → Rest
rest b at = record { octets = b; from = at }

pub next_in_gives : (b : List ℕ) (at : ℕ) (p : Payload) → 1 ≤ length b → Ok p ≡ payload_at b at → Ok (Some p) ≡ next_of b at
next_in_gives [] at p some e = absurd (omega arith)
next_in_gives (x ∷ b) at p some e = ap (map_ok Some) e

some_of : (b : List ℕ) (at : ℕ) (p : Payload) → Ok (Some p) ≡ next_of b at → payload_at b at ≡ Ok p
some_of [] at p e = let z : ◌≡◌ {A = ℕ} 0 1 = cc in absurd (omega arith)
some_of (x ∷ b) at p e = some_back p (payload_at (x ∷ b) at) e

-- a place in a body that was moved past the payload at it
pub next_in_moves : (d : List ℕ) (at to : ℕ) (p : Payload) → Ok (Some p) ≡ next_of (drop at d) (at + 5) → to + 5 ≡ past p → rest (drop to d) (to + 5) ≡ rest_after (rest (drop at d) (at + 5))
next_in_moves d at to p e is =
    let l = payload_lies (drop at d) (at + 5) p (some_of (drop at d) (at + 5) p e) in
    let there : at + (5 + length p.octets) ≡ to = omega arith in
    let left : drop (5 + length p.octets) (drop at d) ≡ drop to d = drop-drop (5 + length p.octets) at d ∙ ap (λ j. drop j d) there in
    rw (← left, is) (ap (moved_in (rest (drop at d) (at + 5))) e)

-- reading on does not depend on how often it may go on, where that is enough
along : {X : Type 0} (r : Result Payload Fault) (f g : Payload → Result X Fault) → ((p : Payload) → f p ≡ g p) → and_then r f ≡ and_then r g
along (Ok p) f g same = same p
along (Err e) f g same = refl

along_sound : (r : Result Payload Fault) (f g : Payload → List Payload) → ((p : Payload) → f p ≡ g p) → unless_fault r f ≡ unless_fault r g
along_sound (Ok p) f g same = same p
along_sound (Err e) f g same = refl

enough : (n m : ℕ) (b : List ℕ) (at : ℕ) → length b ≤ n → length b ≤ m → body_from n b at ≡ body_from m b at
enough zero zero b at k l = refl
enough zero (suc m) [] at k l = refl
enough zero (suc m) (x ∷ b) at k l = absurd (omega arith)
enough (suc n) zero [] at k l = refl
enough (suc n) zero (x ∷ b) at k l = absurd (omega arith)
enough (suc n) (suc m) [] at k l = refl
enough (suc n) (suc m) (x ∷ b) at k l =
    along (payload_at (x ∷ b) at) _ _ (λ p.
    let shorter = length-drop (5 + length p.octets) (x ∷ b) in
    ap (map_ok (λ ps. p ∷ ps)) (enough n m (drop (5 + length p.octets) (x ∷ b)) (past p) (omega arith) (omega arith)))

enough_sound : (n m : ℕ) (b : List ℕ) (at : ℕ) → length b ≤ n → length b ≤ m → sound_body_from n b at ≡ sound_body_from m b at
enough_sound zero zero b at k l = refl
enough_sound zero (suc m) [] at k l = refl
enough_sound zero (suc m) (x ∷ b) at k l = absurd (omega arith)
enough_sound (suc n) zero [] at k l = refl
enough_sound (suc n) zero (x ∷ b) at k l = absurd (omega arith)
enough_sound (suc n) (suc m) [] at k l = refl
enough_sound (suc n) (suc m) (x ∷ b) at k l =
    along_sound (payload_at (x ∷ b) at) _ _ (λ p.
    let shorter = length-drop (5 + length p.octets) (x ∷ b) in
    ap (λ ps. p ∷ ps) (enough_sound n m (drop (5 + length p.octets) (x ∷ b)) (past p) (omega arith) (omega arith)))

abbrev behind : List ℕ → Payload → Rest
behind b p = rest (drop (5 + length p.octets) b) (past p)

-- the payloads to come are the next one and those behind it
payloads_more : (b : List ℕ) (at : ℕ) (p : Payload) → Ok (Some p) ≡ next_of b at → rest_payloads (rest b at) ≡ map_ok (λ ps. p ∷ ps) (rest_payloads (behind b p))
payloads_more [] at p e = let z : ◌≡◌ {A = ℕ} 0 1 = cc in absurd (omega arith)
payloads_more (x ∷ b) at p e =
    let shorter = length-drop (5 + length p.octets) (x ∷ b) in
    rw (some_of (x ∷ b) at p e) (ap (map_ok (λ ps. p ∷ ps)) (enough (length b) _ (drop (5 + length p.octets) (x ∷ b)) (past p) (omega arith) (omega arith)))

sound_more : (b : List ℕ) (at : ℕ) (p : Payload) → Ok (Some p) ≡ next_of b at → sound_rest (rest b at) ≡ p ∷ sound_rest (behind b p)
sound_more [] at p e = let z : ◌≡◌ {A = ℕ} 0 1 = cc in absurd (omega arith)
sound_more (x ∷ b) at p e =
    let shorter = length-drop (5 + length p.octets) (x ∷ b) in
    rw (some_of (x ∷ b) at p e) (ap (λ ps. p ∷ ps) (enough_sound (length b) _ (drop (5 + length p.octets) (x ∷ b)) (past p) (omega arith) (omega arith)))

ends : (b : List ℕ) (at : ℕ) → Ok None ≡ next_of b at → b ≡ []
ends [] at e = refl
ends (x ∷ b) at e = absurd (none_back (payload_at (x ∷ b) at) e)

payloads_stop : (b : List ℕ) (at : ℕ) (f : Fault) → Err f ≡ next_of b at → rest_payloads (rest b at) ≡ Err f
payloads_stop [] at f e = let z : ◌≡◌ {A = ℕ} 0 1 = cc in absurd (omega arith)
payloads_stop (x ∷ b) at f e = rw (err_back f (payload_at (x ∷ b) at) e) refl

sound_stops : (b : List ℕ) (at : ℕ) (f : Fault) → Err f ≡ next_of b at → sound_rest (rest b at) ≡ []
sound_stops [] at f e = refl
sound_stops (x ∷ b) at f e = rw (err_back f (payload_at (x ∷ b) at) e) refl

-- a step that gave a payload, or none, took it from those that come before any fault
takes_payload : (R Q : Rest) (o : Option Payload) → Ok o ≡ next_in R → Q ≡ rest_after R → Gives (sound_rest R) o (sound_rest Q)
takes_payload R Q (Some p) e q =
    let there : Q ≡ behind R.octets p = q ∙ ap (moved_in R) (sym e) in
    rw (sound_more R.octets R.from p e, there) refl
takes_payload R Q None e q =
    let there : Q ≡ R = q ∙ ap (moved_in R) (sym e) in
    let none : sound_rest R ≡ [] = ap (λ b. sound_rest (rest b R.from)) (ends R.octets R.from e) in
    rw (there, none) (refl, refl)

takes_nothing : (R Q : Rest) (f : Fault) → Err f ≡ next_in R → Q ≡ rest_after R → Gives (sound_rest R) None (sound_rest Q)
takes_nothing R Q f e q =
    let there : Q ≡ R = q ∙ ap (moved_in R) (sym e) in
    rw (there, sound_stops R.octets R.from f e) (refl, refl)

-- the same, where the step gives a view of the payload
pub takes_payload_view : (R Q : Rest) (r : Result (Option payload.Payload) Fault) → map_ok (option_map payload_says) r ≡ next_in R → Q ≡ rest_after R
    → YieldsFirstBy payload_says (λ l. l) (sound_rest R) (option_flatten (result_ok r)) (sound_rest Q)
takes_payload_view R Q (Ok o) e q = viewed payload_says o _ _ (takes_payload R Q (option_map payload_says o) e q)
takes_payload_view R Q (Err f) e q = takes_nothing R Q f e q

-- reading a whole body: what is read, if nothing of the rest is at fault
abbrev pub ReadsAs : Result (List Payload) Fault → List Payload → Rest → Type 0
ReadsAs r ps R = r ≡ map_ok (λ _. ps) (rest_payloads R)

one_more : (p : Payload) (ps : List Payload) (r : Result (List Payload) Fault) → r ≡ map_ok (λ _. ps) r → map_ok (λ qs. p ∷ qs) r ≡ map_ok (λ _. p ∷ ps) (map_ok (λ qs. p ∷ qs) r)
one_more p ps (Ok qs) e = let same : qs ≡ ps = cc in ap (λ l. Ok (p ∷ l)) same
one_more p ps (Err f) e = refl

first_sound : (r : Result Payload Fault) (f : Payload → Result (List Payload) Fault) (g : Payload → List Payload) → ((p : Payload) → f p ≡ map_ok (λ _. g p) (f p))
    → and_then r (λ p. map_ok (λ ps. p ∷ ps) (f p)) ≡ map_ok (λ _. unless_fault r (λ p. p ∷ g p)) (and_then r (λ p. map_ok (λ ps. p ∷ ps) (f p)))
first_sound (Ok p) f g later = one_more p (g p) (f p) (later p)
first_sound (Err e) f g later = refl

all_sound : (n : ℕ) (b : List ℕ) (at : ℕ) → body_from n b at ≡ map_ok (λ _. sound_body_from n b at) (body_from n b at)
all_sound zero b at = refl
all_sound (suc n) [] at = refl
all_sound (suc n) (x ∷ b) at = first_sound (payload_at (x ∷ b) at) _ _ (λ p. all_sound n (drop (5 + length p.octets) (x ∷ b)) (past p))

pub reads_first : (R : Rest) → ReadsAs (rest_payloads R) (sound_rest R) R
reads_first R = all_sound (length R.octets) R.octets R.from

skipped : {X Y : Type 0} (p : X) (y : Y) (r : Result (List X) Fault) → map_ok (λ _. y) (map_ok (λ ps. p ∷ ps) r) ≡ map_ok (λ _. y) r
skipped p y (Ok ps) = refl
skipped p y (Err f) = refl

pub reads_on : (r : Result (List Payload) Fault) (ps : List Payload) (R Q : Rest) (p : Payload) → Ok (Some p) ≡ next_in R → Q ≡ rest_after R → ReadsAs r ps R → ReadsAs r ps Q
reads_on r ps R Q p e q so =
    let there : Q ≡ behind R.octets p = q ∙ ap (moved_in R) (sym e) in
    so ∙ ap (map_ok (λ _. ps)) (payloads_more R.octets R.from p e) ∙ skipped p ps _ ∙ ap (λ S. map_ok (λ _. ps) (rest_payloads S)) (sym there)

pub fewer_left : (R Q : Rest) (p : Payload) → Ok (Some p) ≡ next_in R → Q ≡ rest_after R → length (sound_rest Q) < length (sound_rest R)
fewer_left R Q p e q =
    let there : Q ≡ behind R.octets p = q ∙ ap (moved_in R) (sym e) in
    rw (sound_more R.octets R.from p e, there) (omega arith)

pub reads_fault : (r : Result (List Payload) Fault) (ps : List Payload) (R : Rest) (f : Fault) → Err f ≡ next_in R → ReadsAs r ps R → r ≡ Err f
reads_fault r ps R f e so = so ∙ ap (map_ok (λ _. ps)) (payloads_stop R.octets R.from f e)
