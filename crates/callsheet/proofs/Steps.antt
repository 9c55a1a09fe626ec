-- One step through the records of a window, and what it leaves to come. Assumes nothing.
use Rattle.std.proofs.Common.{◌≡◌, ℕ, zero, suc, ◌+◌, ◌-◌, ◌<◌, Bool, true, false, cond, not, ◌||◌, eqb, ltb, List, [], ◌++◌, length, Some, None, Ok, Err, Option, Result, sym, refl, ap, ◌∙◌, subst, append_assoc, append-nil, arith}
use Rattle.std.proofs.lemmas.Bool.{ltb-true}
use Rattle.datagram.specs.Results.{map_ok, ask}
use Rattle.capture.specs.declared.stop.Stop.{Stop}
use Rattle.capture.specs.Records.{Sent, Place, Capture, next_at, moved, place_after, with, capture_for}
use Rattle.capture.specs.Stops.{turnable}
use Rattle.callsheet.specs.Text.{record_text, record_texts, stop_text, capture_text}
use Rattle.callsheet.specs.Windows.{Window, window, preceded, stepped, window_for, window_at}

-- where a record is given, it is among the first 999,999, and the place moves on by one
some_few : (a b : Bool) (n : ℕ) (s : Sent) (e : Stop) (r : Result Sent Stop) → ltb n 999999 ≡ b → Ok (Some s) ≡ cond a (Ok None) (ask b e (map_ok Some r)) → n < 999999
some_few true b n s e r is h = absurd (cc)
some_few false false n s e r is h = absurd (cc)
some_few false true n s e r is h = ltb-true n 999999 is

pub few : (p : Place) (s : Sent) → Ok (Some s) ≡ next_at p → p.before < 999999
few p s e = some_few (eqb (length p.octets) 0) (ltb p.before 999999) p.before s _ _ refl e

pub counted : (p q : Place) (s : Sent) → Ok (Some s) ≡ next_at p → q ≡ place_after p → q.before ≡ p.before + 1
counted p q s e m = ap (λ x. x.before) m ∙ ap (λ r. (moved p r).before) (sym e)

-- how many records more may be read, before and after one
allowed : (p q : Place) (s : Sent) → Ok (Some s) ≡ next_at p → q ≡ place_after p → 999999 - p.before ≡ suc (999999 - q.before)
allowed p q s e m =
    let less = few p s e in
    let next = counted p q s e m in
    omega arith

-- the lines from a place on, to the end of the capture
abbrev pub lines_from : Place → List ℕ
lines_from p = capture_text (p.before + 1) (capture_for (999999 - p.before) p)

capture_more : (k : ℕ) (p : Place) → capture_for (suc k) p ≡ with (next_at p) (capture_for k (place_after p))
unfolding capture_for
capture_more k p = refl

-- a place at which there is no record, whatever may be read behind it
capture_over : (k : ℕ) (p : Place) (r : Result (Option Sent) Stop) (c : Capture) → r ≡ next_at p → ((x : Capture) → with r x ≡ c) → capture_for k p ≡ c
unfolding capture_for
capture_over zero p r c e over = rw (← e) (over _)
capture_over (suc k) p r c e over = rw (← e) (over _)

pub lines_step : (p q : Place) (s : Sent) → Ok (Some s) ≡ next_at p → q ≡ place_after p → lines_from p ≡ record_text (p.before + 1) s ++ lines_from q
lines_step p q s e m =
    let n = p.before + 1 in
    let j = 999999 - q.before in
    let rest = capture_for j q in
    ap (λ i. capture_text n (capture_for i p)) (allowed p q s e m)
    ∙ ap (capture_text n) (capture_more j p ∙ ap (λ r. with r (capture_for j (place_after p))) (sym e) ∙ ap (λ x. with (Ok (Some s)) (capture_for j x)) (sym m))
    ∙ append_assoc (record_text n s) (record_texts (n + 1) rest.records) _
    ∙ ap (λ i. record_text n s ++ capture_text (i + 1) rest) (sym (counted p q s e m))

pub lines_none : (p : Place) → Ok None ≡ next_at p → lines_from p ≡ []
lines_none p e = ap (capture_text (p.before + 1)) (capture_over (999999 - p.before) p (Ok None) _ e (λ _. refl))

pub lines_stop : (p : Place) (s : Stop) → Err s ≡ next_at p → lines_from p ≡ stop_text s
lines_stop p s e = ap (capture_text (p.before + 1)) (capture_over (999999 - p.before) p (Err s) _ e (λ _. refl))

-- the same for a window
window_more : (last : Bool) (k : ℕ) (p : Place) → window_for last (suc k) p ≡ stepped last p (next_at p) (window_for last k (place_after p))
unfolding window_for
window_more last k p = refl

window_over : (last : Bool) (k : ℕ) (p : Place) (r : Result (Option Sent) Stop) (w : Window) → r ≡ next_at p → ((x : Window) → stepped last p r x ≡ w) → window_for last k p ≡ w
unfolding window_for
window_over last zero p r w e over = rw (← e) (over _)
window_over last (suc k) p r w e over = rw (← e) (over _)

pub window_step : (last : Bool) (p q : Place) (s : Sent) → Ok (Some s) ≡ next_at p → q ≡ place_after p → window_at last p ≡ preceded (record_text (p.before + 1) s) (window_at last q)
window_step last p q s e m =
    let j = 999999 - q.before in
    ap (λ i. window_for last i p) (allowed p q s e m)
    ∙ window_more last j p
    ∙ ap (λ r. stepped last p r (window_for last j (place_after p))) (sym e)
    ∙ ap (λ x. preceded (record_text (p.before + 1) s) (window_for last j x)) (sym m)

pub window_none : (last : Bool) (p : Place) → Ok None ≡ next_at p → window_at last p ≡ window [] (not last) p
window_none last p e = window_over last (999999 - p.before) p (Ok None) _ e (λ _. refl)

pub window_stop : (last : Bool) (p : Place) (s : Stop) → Err s ≡ next_at p → window_at last p ≡ cond (last || not (turnable s.question)) (window (stop_text s) false p) (window [] true p)
window_stop last p s e = window_over last (999999 - p.before) p (Err s) _ e (λ _. refl)

-- what holds of a window where no record is given, and of a record's lines before a window of which it holds, holds of each window
pub by_steps : (last : Bool) (P : Place → Window → Type 0)
    → ((p : Place) (s : Sent) → Ok (Some s) ≡ next_at p → P (place_after p) (window_at last (place_after p)) → P p (preceded (record_text (p.before + 1) s) (window_at last (place_after p))))
    → ((p : Place) → Ok None ≡ next_at p → P p (window [] (not last) p))
    → ((p : Place) (s : Stop) → Err s ≡ next_at p → P p (cond (last || not (turnable s.question)) (window (stop_text s) false p) (window [] true p)))
    → (p : Place) → P p (window_at last p)
by_steps last P some none stop p = steps _ p (next_at p) refl refl
  where
    steps : (k : ℕ) (p : Place) (r : Result (Option Sent) Stop) → k ≡ 999999 - p.before → r ≡ next_at p → P p (window_at last p)
    steps zero p (Ok (Some s)) is e = let less = few p s e in absurd (omega arith)
    steps (suc k) p (Ok (Some s)) is e =
        let next = counted p (place_after p) s e refl in
        subst (P p) (sym (window_step last p (place_after p) s e refl)) (some p s e (steps k (place_after p) (next_at (place_after p)) (omega arith) refl))
    steps k p (Ok None) is e = subst (P p) (sym (window_none last p e)) (none p e)
    steps k p (Err s) is e = subst (P p) (sym (window_stop last p s e)) (stop p s e)

-- What the code adds at a step, held to the window.

pub adds_record : (last : Bool) (t t' : List ℕ) (p q : Place) (s : Sent) (n : ℕ) → Ok (Some s) ≡ next_at p → q ≡ place_after p → n ≡ q.before → t' ≡ t ++ record_text n s → preceded t (window_at last p) ≡ preceded t' (window_at last q)
adds_record last t t' p q s n e m c a =
    let w = window_at last q in
    let number : p.before + 1 ≡ n = sym (c ∙ counted p q s e m) in
    ap (preceded t) (window_step last p q s e m ∙ ap (λ i. preceded (record_text i s) w) number)
    ∙ ap (λ u. window u w.more w.place) (sym (append_assoc t (record_text n s) w.text))
    ∙ ap (λ u. preceded u w) (sym a)

-- where no record is given, the place stays
stays : (p q : Place) (r : Result (Option Sent) Stop) → r ≡ next_at p → q ≡ place_after p → moved p r ≡ p → p ≡ q
stays p q r e m same = sym same ∙ ap (moved p) e ∙ sym m

pub adds_nothing : (last : Bool) (t : List ℕ) (p q : Place) → Ok None ≡ next_at p → q ≡ place_after p → preceded t (window_at last p) ≡ window t (not last) q
adds_nothing last t p q e m =
    ap (preceded t) (window_none last p e) ∙ ap (λ u. window u (not last) p) (append-nil t) ∙ ap (window t (not last)) (stays p q (Ok None) e m refl)

stop_text_lem : (b : Bool) (last : Bool) (p : Place) (s : Stop) → Err s ≡ next_at p → (last || not (turnable s.question)) ≡ b → window_at last p ≡ cond b (window (stop_text s) false p) (window [] true p)
stop_text_lem b last p s e is = window_stop last p s e ∙ ap (λ x. cond x (window (stop_text s) false p) (window [] true p)) is

pub adds_stop : (last : Bool) (t t' : List ℕ) (p q : Place) (s : Stop) → (last || not (turnable s.question)) ≡ true → Err s ≡ next_at p → q ≡ place_after p → t' ≡ t ++ stop_text s → preceded t (window_at last p) ≡ window t' false q
adds_stop last t t' p q s settled e m a =
    ap (preceded t) (stop_text_lem true last p s e settled) ∙ ap (λ x. window x false p) (sym a) ∙ ap (window t' false) (stays p q (Err s) e m refl)

pub waits : (last : Bool) (t : List ℕ) (p q : Place) (s : Stop) → (last || not (turnable s.question)) ≡ false → Err s ≡ next_at p → q ≡ place_after p → preceded t (window_at last p) ≡ window t true q
waits last t p q s open' e m =
    ap (preceded t) (stop_text_lem false last p s e open') ∙ ap (λ x. window x true p) (append-nil t) ∙ ap (window t true) (stays p q (Err s) e m refl)
