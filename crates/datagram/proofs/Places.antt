-- One step of a reader, and what it leaves to come. Assumes nothing.
use Rattle.std.proofs.Common.{◌≡◌, ℕ, zero, suc, ◌-◌, ◌<◌, Bool, true, false, cond, ◌||◌, leb, List, [], ◌∷◌, length, drop, Some, None, Ok, Err, Option, Result, sym, refl, ap, ◌∙◌, arith}
use Rattle.datagram.specs.declared.fault.Fault.{Fault}
use Rattle.datagram.specs.Datagrams.{payloads_from, some_deserves}
use Rattle.std.specs.Iterator.{YieldsFirstBy}
use Rattle.std.specs.Option.{option_map, option_flatten}
use Rattle.std.specs.Result.{result_ok}
use Rattle.datagram.specs.declared.payload.Payload as payload
use Rattle.datagram.specs.Views.{payload_says}
use Rattle.datagram.proofs.Taking.{Gives, viewed}
use Rattle.datagram.specs.Payloads.{Payload, past, payload_at, deserves_ack}
use Rattle.datagram.specs.Places.{Place, place, next_at, moved, place_after, payloads_ahead, sound_from, sound_ahead}
use Rattle.datagram.specs.Results.{map_ok}

next_more : (d : List ℕ) (at n : ℕ) → 0 < n → next_at (place d at n) ≡ map_ok Some (payload_at (drop at d) at)
next_more d at zero h = absurd (omega arith)
next_more d at (suc n) h = refl

pub next_gives : (d : List ℕ) (at n : ℕ) (p : Payload) → 0 < n → Ok p ≡ payload_at (drop at d) at → Ok (Some p) ≡ next_at (place d at n)
next_gives d at n p h e = ap (map_ok Some) e ∙ sym (next_more d at n h)

pub next_refuses : (d : List ℕ) (at n : ℕ) (f : Fault) → 0 < n → Err f ≡ payload_at (drop at d) at → Err f ≡ next_at (place d at n)
next_refuses d at n f h e = ap (map_ok Some) e ∙ sym (next_more d at n h)

pub next_moves : (d : List ℕ) (at n : ℕ) (p : Payload) → Ok (Some p) ≡ next_at (place d at n) → place d (past p) (n - 1) ≡ place_after (place d at n)
next_moves d at n p e = ap (moved (place d at n)) e

pub next_stays : (d : List ℕ) (at n : ℕ) (f : Fault) → Err f ≡ next_at (place d at n) → place d at n ≡ place_after (place d at n)
next_stays d at n f e = ap (moved (place d at n)) e

pub some_back : (p : Payload) (r : Result Payload Fault) → Ok (Some p) ≡ map_ok Some r → r ≡ Ok p
some_back p (Ok q) e = cc
some_back p (Err f) e = let z : ◌≡◌ {A = ℕ} 0 1 = cc in absurd (omega arith)

pub err_back : (f : Fault) (r : Result Payload Fault) → Err f ≡ map_ok Some r → r ≡ Err f
err_back f (Ok q) e = let z : ◌≡◌ {A = ℕ} 0 1 = cc in absurd (omega arith)
err_back f (Err g) e = cc

pub none_back : (r : Result Payload Fault) → Ok None ≡ map_ok Some r → ⊥
none_back (Ok q) e = let z : ◌≡◌ {A = ℕ} 0 1 = cc in omega arith
none_back (Err g) e = let z : ◌≡◌ {A = ℕ} 0 1 = cc in omega arith

no_more : (b : Bool) (f : Fault) (p : Payload) → Ok (Some p) ≡ cond b (Ok None) (Err f) → ⊥
no_more true f p e = let z : ◌≡◌ {A = ℕ} 0 1 = cc in omega arith
no_more false f p e = let z : ◌≡◌ {A = ℕ} 0 1 = cc in omega arith

over_so : (b : Bool) (f g : Fault) → ◌≡◌ {A = Result (Option Payload) Fault} (Err g) (cond b (Ok None) (Err f)) → ◌≡◌ {A = Result (List Payload) Fault} (cond b (Ok []) (Err f)) (Err g)
over_so true f g e = let z : ◌≡◌ {A = ℕ} 0 1 = cc in absurd (omega arith)
over_so false f g e = cc

-- the payloads to come are the next one and those after it
ahead_more : (d : List ℕ) (at n : ℕ) (p : Payload) → Ok (Some p) ≡ next_at (place d at n) → payloads_from n d at ≡ map_ok (λ ps. p ∷ ps) (payloads_from (n - 1) d (past p))
ahead_more d at zero p e = absurd (no_more (leb (length d) at) _ p e)
ahead_more d at (suc n) p e =
    let k : suc n - 1 ≡ n = omega arith in
    rw (some_back p (payload_at (drop at d) at) e, k) refl

ahead_refused : (d : List ℕ) (at n : ℕ) (f : Fault) → Err f ≡ next_at (place d at n) → payloads_from n d at ≡ Err f
ahead_refused d at zero f e = over_so (leb (length d) at) _ f e
ahead_refused d at (suc n) f e = rw (err_back f (payload_at (drop at d) at) e) refl

pub refuses : (P : Place) (f : Fault) → Err f ≡ next_at P → payloads_ahead P ≡ Err f
refuses P f e = ahead_refused P.octets P.from P.left f e

both : (b : Bool) (p : Payload) (r : Result (List Payload) Fault) → map_ok (λ ps. b || some_deserves ps) (map_ok (λ ps. p ∷ ps) r) ≡ map_ok (λ ps. (b || deserves_ack p) || some_deserves ps) r
both true p (Ok ps) = refl
both false p (Ok ps) = refl
both true p (Err f) = refl
both false p (Err f) = refl

-- a payload more was looked at for whether it deserves an Ack
pub again : (P Q : Place) (r : Result Bool Fault) (b b' : Bool) (p : Payload) → Ok (Some p) ≡ next_at P → Q ≡ place_after P → b' ≡ (b || deserves_ack p) → r ≡ map_ok (λ ps. b || some_deserves ps) (payloads_ahead P)
    → r ≡ map_ok (λ ps. b' || some_deserves ps) (payloads_ahead Q)
again P Q r b b' p e q eb inv =
    let next = ahead_more P.octets P.from P.left p e in
    let there : place P.octets (past p) (P.left - 1) ≡ place_after P = next_moves P.octets P.from P.left p e in
    inv ∙ ap (map_ok (λ ps. b || some_deserves ps)) next ∙ both b p _ ∙ rw (q, ← there, eb) refl

sound_more : (d : List ℕ) (at n : ℕ) (p : Payload) → Ok (Some p) ≡ next_at (place d at n) → sound_from n d at ≡ p ∷ sound_from (n - 1) d (past p)
sound_more d at zero p e = absurd (no_more (leb (length d) at) _ p e)
sound_more d at (suc n) p e =
    let k : suc n - 1 ≡ n = omega arith in
    rw (some_back p (payload_at (drop at d) at) e, k) refl

sound_ends : (d : List ℕ) (at n : ℕ) → Ok None ≡ next_at (place d at n) → sound_from n d at ≡ []
sound_ends d at zero e = refl
sound_ends d at (suc n) e = absurd (none_back (payload_at (drop at d) at) e)

sound_stops : (d : List ℕ) (at n : ℕ) (f : Fault) → Err f ≡ next_at (place d at n) → sound_from n d at ≡ []
sound_stops d at zero f e = refl
sound_stops d at (suc n) f e = rw (err_back f (payload_at (drop at d) at) e) refl

-- a step that gave a payload, or none, took it from those that come before any fault
pub takes_payload : (P Q : Place) (o : Option Payload) → Ok o ≡ next_at P → Q ≡ place_after P → Gives (sound_ahead P) o (sound_ahead Q)
takes_payload P Q (Some p) e q =
    let more = sound_more P.octets P.from P.left p e in
    let there : Q ≡ place P.octets (past p) (P.left - 1) = q ∙ sym (next_moves P.octets P.from P.left p e) in
    rw (more, there) refl
takes_payload P Q None e q =
    let none = sound_ends P.octets P.from P.left e in
    let there : Q ≡ P = q ∙ ap (moved P) (sym e) in
    rw (there, none) (refl, refl)

pub takes_nothing : (P Q : Place) (f : Fault) → Err f ≡ next_at P → Q ≡ place_after P → Gives (sound_ahead P) None (sound_ahead Q)
takes_nothing P Q f e q =
    let none = sound_stops P.octets P.from P.left f e in
    let there : Q ≡ P = q ∙ ap (moved P) (sym e) in
    rw (there, none) (refl, refl)

-- the same, where the step gives a view of the payload
pub takes_view : (P Q : Place) (r : Result (Option payload.Payload) Fault) → map_ok (option_map payload_says) r ≡ next_at P → Q ≡ place_after P
    → YieldsFirstBy payload_says (λ l. l) (sound_ahead P) (option_flatten (result_ok r)) (sound_ahead Q)
takes_view P Q (Ok o) e q = viewed payload_says o _ _ (takes_payload P Q (option_map payload_says o) e q)
takes_view P Q (Err f) e q = takes_nothing P Q f e q
