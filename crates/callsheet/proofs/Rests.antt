-- What a window leaves of its octets is an end of them. Assumes nothing.
use Rattle.std.proofs.Common.{◌≡◌, ℕ, zero, suc, ◌+◌, ◌-◌, ◌≤◌, Bool, true, false, cond, not, ◌||◌, List, [], ◌∷◌, length, drop, Some, None, Ok, Err, Option, Result, sym, refl, ap, ◌∙◌, subst, arith, length-drop}
use Rattle.std.proofs.lemmas.List.{drop-drop}
use Rattle.capture.specs.declared.stop.Stop.{Stop}
use Rattle.capture.specs.Records.{Sent, Place, place_of, next_at, moved, place_after}
use Rattle.capture.specs.Stops.{turnable}
use Rattle.callsheet.specs.Text.{stop_text}
use Rattle.callsheet.specs.Windows.{Window, window, preceded, window_at}
use Rattle.callsheet.proofs.Steps.{by_steps}

pub record IsRest (d r : List ℕ) : Type 0 where
  pub fits : length r ≤ length d
  pub rest : drop (length d - length r) d ≡ r

drop_none : (n : ℕ) (d : List ℕ) → n ≡ 0 → drop n d ≡ d
drop_none n d is = ap (λ m. drop m d) is

whole : (d : List ℕ) → IsRest d d
whole d = record { fits = omega arith; rest = drop_none _ d (omega arith) }

drop_rest : (n : ℕ) (d : List ℕ) → drop (length d - length (drop n d)) d ≡ drop n d
drop_rest zero d = drop_none _ d (omega arith)
drop_rest (suc n) [] = refl
drop_rest (suc n) (x ∷ d) =
    let m = length d - length (drop n d) in
    let is : length (x ∷ d) - length (drop n d) ≡ suc m = omega (arith, length-drop n d) in
    ap (λ k. drop k (x ∷ d)) is ∙ drop_rest n d

is_rest_drop : (n : ℕ) (d : List ℕ) → IsRest d (drop n d)
is_rest_drop n d = record { fits = omega (arith, length-drop n d); rest = drop_rest n d }

further : (d r s : List ℕ) → IsRest d r → IsRest r s → IsRest d s
further d r s x y =
    let fits : length s ≤ length d = omega (arith, x.fits, y.fits) in
    let m = length d - length r in
    let n = length r - length s in
    let is : length d - length s ≡ m + n = omega (arith, x.fits, y.fits) in
    record { fits = fits; rest = ap (λ k. drop k d) is ∙ sym (drop-drop n m d) ∙ ap (drop n) x.rest ∙ y.rest }

abbrev Leaves : Place → Window → Type 0
Leaves p w = IsRest p.octets w.place.octets

stop_leaves : (b : Bool) (p : Place) (t : List ℕ) → Leaves p (cond b (window t false p) (window [] true p))
stop_leaves true p t = whole p.octets
stop_leaves false p t = whole p.octets

moved_leaves : (p : Place) (r : Result (Option Sent) Stop) → IsRest p.octets (moved p r).octets
moved_leaves p (Ok (Some s)) = is_rest_drop _ p.octets
moved_leaves p (Ok None) = whole p.octets
moved_leaves p (Err e) = whole p.octets

leaves : (last : Bool) (p : Place) → Leaves p (window_at last p)
leaves last = by_steps last Leaves
    (λ p s e h. further p.octets (place_after p).octets (window_at last (place_after p)).place.octets (moved_leaves p (next_at p)) h)
    (λ p e. whole p.octets)
    (λ p s e. stop_leaves (last || not (turnable s.question)) p (stop_text s))

pub window_leaves : (last : Bool) (p q : Place) (t : List ℕ) (more : Bool) → window_at last p ≡ window t more q → IsRest p.octets q.octets
window_leaves last p q t more e = subst (Leaves p) e (leaves last p)

-- a window whose lines were put behind no text
pub read_from : (last : Bool) (t t' d s : List ℕ) (k : ℕ) (q : Place) (more : Bool) → t ≡ [] → s ≡ d → preceded t (window_at last (place_of s k)) ≡ window t' more q → window_at last (place_of d k) ≡ window t' more q
read_from last t t' d s k q more none same h = ap (λ u. window_at last (place_of u k)) (sym same) ∙ ap (λ u. preceded u (window_at last (place_of s k))) (sym none) ∙ h
