-- What stands whole in a window is read alike, whatever octets follow the window. Assumes nothing.
use Rattle.std.proofs.Common.{◌≡◌, ℕ, ◌+◌, ◌<◌, ◌≤◌, Bool, true, false, cond, not, eqb, ltb, leb, List, [], ◌∷◌, ◌++◌, length, take, drop, Some, None, Ok, Err, Option, Result, sym, refl, ap, ◌∙◌, append-nil, arith, length-append, length-drop}
use Rattle.std.proofs.lemmas.List.{drop-append-le, take-append-le}
use Rattle.std.proofs.lemmas.Bool.{le-leb, leb-true, leb-false, eqb-true}
use Rattle.std.proofs.lemmas.Bool.Decides.{nat_tests}
use Rattle.std.specs.Option.{ok_or}
use Rattle.datagram.specs.Results.{map_ok, ask}
use Rattle.capture.specs.declared.stop.Question.TheVariants.{HoldsRecord, IsDatagram, AmongFirst}
use Rattle.capture.specs.declared.stop.Stop.{Stop}
use Rattle.capture.specs.Layout.{body_length, record_end, record_body}
use Rattle.capture.specs.Records.{Sent, sent_of, is_datagram, Place, place_of, record_at, next_at, moved, place_after}
use Rattle.capture.specs.Stops.{stop, turnable}

-- a place in the whole capture, where octets follow the window
abbrev pub followed : Place → List ℕ → Place
followed p tail = place_of (p.octets ++ tail) p.before

-- an answer that no octet to come can turn
abbrev settled : Result (Option Sent) Stop → Bool
settled (Ok (Some s)) = true
settled (Ok None) = false
settled (Err e) = not (turnable e.question)

length_same : (d tail : List ℕ) → 2 ≤ length d → body_length (d ++ tail) ≡ body_length d
length_same [] tail h = absurd (omega arith)
length_same (a ∷ []) tail h = absurd (omega arith)
length_same (a ∷ b ∷ xs) tail h = refl

body_same : (d tail : List ℕ) → record_end d ≤ length d → record_body (d ++ tail) ≡ record_body d
body_same d tail whole =
    let n = body_length d in
    ap (λ m. take m (drop 2 (d ++ tail))) (length_same d tail (omega arith))
    ∙ ap (take n) (drop-append-le 2 d tail (omega arith))
    ∙ take-append-le n (drop 2 d) tail (omega (arith, length-drop 2 d))

record_same : (d tail : List ℕ) (k : ℕ) → record_end d ≤ length d → record_at (d ++ tail) k ≡ record_at d k
record_same d tail k whole =
    let field = length_same d tail (omega arith) in
    let longer : record_end (d ++ tail) ≤ length (d ++ tail) = omega (arith, length-append d tail) in
    rw (le-leb (record_end d) (length d) whole, le-leb (record_end (d ++ tail)) (length (d ++ tail)) longer, body_same d tail whole) refl

some_longer : (d tail : List ℕ) → eqb (length d) 0 ≡ false → eqb (length (d ++ tail)) 0 ≡ false
some_longer d tail h = let l = length-append d tail in grind (arith, nat_tests)

-- where octets are missing, the answer may turn
short_open : (d : List ℕ) (k : ℕ) → leb (record_end d) (length d) ≡ false → settled (map_ok Some (record_at d k)) ≡ false
short_open d k h = rw h refl

next_same_at : (a b c : Bool) (d tail : List ℕ) (k : ℕ) → eqb (length d) 0 ≡ a → ltb k 999999 ≡ b → leb (record_end d) (length d) ≡ c → settled (next_at (place_of d k)) ≡ true → next_at (place_of (d ++ tail) k) ≡ next_at (place_of d k)
next_same_at true b c d tail k ea eb ec h = let z : ◌≡◌ {A = Bool} false true = rw ea at h in absurd (cc)
next_same_at false false c d tail k ea eb ec h = rw (ea, some_longer d tail ea, eb) refl
next_same_at false true false d tail k ea eb ec h =
    let z : ◌≡◌ {A = Bool} false true = sym (short_open d (k + 1) ec) ∙ rw (ea, eb) at h in
    absurd (cc)
next_same_at false true true d tail k ea eb ec h = rw (ea, some_longer d tail ea, eb) (ap (map_ok Some) (record_same d tail (k + 1) (leb-true (record_end d) (length d) ec)))

next_same : (p : Place) (tail : List ℕ) → settled (next_at p) ≡ true → next_at (followed p tail) ≡ next_at p
next_same p tail h = next_same_at _ _ _ p.octets tail p.before refl refl refl h

pub record_follows : (p : Place) (tail : List ℕ) (s : Sent) → Ok (Some s) ≡ next_at p → Ok (Some s) ≡ next_at (followed p tail)
record_follows p tail s e = e ∙ sym (next_same p tail (ap settled (sym e)))

pub stop_follows : (p : Place) (tail : List ℕ) (s : Stop) → Err s ≡ next_at p → turnable s.question ≡ false → Err s ≡ next_at (followed p tail)
stop_follows p tail s e is = e ∙ sym (next_same p tail (ap settled (sym e) ∙ ap not is))

-- a record that is given is whole, and what is left behind it is followed by the same octets
some_whole : (a b c : Bool) (d : List ℕ) (s : Sent) (e f : Stop) (r : Result Sent Stop) → leb (record_end d) (length d) ≡ c → Ok (Some s) ≡ cond a (Ok None) (ask b e (map_ok Some (ask c f r))) → record_end d ≤ length d
some_whole true b c d s e f r is h = absurd (cc)
some_whole false false c d s e f r is h = absurd (cc)
some_whole false true false d s e f r is h = absurd (cc)
some_whole false true true d s e f r is h = leb-true (record_end d) (length d) is

rest_same : (d tail : List ℕ) → record_end d ≤ length d → drop (record_end d) d ++ tail ≡ drop (record_end (d ++ tail)) (d ++ tail)
rest_same d tail whole =
    sym (drop-append-le (record_end d) d tail whole) ∙ ap (λ n. drop (2 + n) (d ++ tail)) (sym (length_same d tail (omega arith)))

pub place_follows : (p : Place) (tail : List ℕ) (s : Sent) → Ok (Some s) ≡ next_at p → followed (place_after p) tail ≡ place_after (followed p tail)
place_follows p tail s e =
    let d = p.octets in
    let whole = some_whole (eqb (length d) 0) (ltb p.before 999999) (leb (record_end d) (length d)) d s _ _ _ refl e in
    ap (λ r. followed (moved p r) tail) (sym e)
    ∙ ap (λ l. place_of l (p.before + 1)) (rest_same d tail whole)
    ∙ ap (moved (followed p tail)) (record_follows p tail s e)

pub no_tail : (p : Place) (tail : List ℕ) → tail ≡ [] → followed p tail ≡ p
no_tail p tail none = ap (λ l. place_of l p.before) (ap (λ l. p.octets ++ l) none ∙ append-nil p.octets)

-- where no record is given and octets to come may turn that, less than a record is there
none_empty : (a b : Bool) (d : List ℕ) (e : Stop) (r : Result Sent Stop) → eqb (length d) 0 ≡ a → Ok None ≡ cond a (Ok None) (ask b e (map_ok Some r)) → length d ≡ 0
none_empty true b d e r is h = eqb-true (length d) 0 is
none_empty false false d e r is h = absurd (cc)
none_empty false true d e (Ok s) is h = absurd (cc)
none_empty false true d e (Err s) is h = absurd (cc)

pub none_short : (p : Place) → Ok None ≡ next_at p → length p.octets < record_end p.octets
none_short p e = omega (arith, none_empty (eqb (length p.octets) 0) (ltb p.before 999999) p.octets _ _ refl e)

stop_short : (a b c g : Bool) (d body : List ℕ) (k : ℕ) (s : Stop) → leb (record_end d) (length d) ≡ c
    → Err s ≡ cond a (Ok None) (ask b (stop AmongFirst 1000000) (map_ok Some (ask c (stop HoldsRecord k) (ok_or (cond g (Some (sent_of body)) None) (stop IsDatagram k)))))
    → turnable s.question ≡ true → length d < record_end d
stop_short true b c g d body k s is h t = absurd (cc)
stop_short false false c g d body k s is h t = let q : s ≡ stop AmongFirst 1000000 = cc in let f : false ≡ true = ap (λ x. turnable x.question) (sym q) ∙ t in absurd (cc)
stop_short false true false g d body k s is h t = leb-false (record_end d) (length d) is
stop_short false true true true d body k s is h t = absurd (cc)
stop_short false true true false d body k s is h t = let q : s ≡ stop IsDatagram k = cc in let f : false ≡ true = ap (λ x. turnable x.question) (sym q) ∙ t in absurd (cc)

pub turnable_short : (p : Place) (s : Stop) → Err s ≡ next_at p → turnable s.question ≡ true → length p.octets < record_end p.octets
turnable_short p s e t =
    let d = p.octets in
    stop_short (eqb (length d) 0) (ltb p.before 999999) (leb (record_end d) (length d)) (is_datagram (record_body d)) d (record_body d) (p.before + 1) s refl e t
