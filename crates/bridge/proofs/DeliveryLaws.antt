-- One turn of a run of deliveries, and its end.
use Rattle.std.proofs.Common.{◌≡◌, ℕ, zero, suc, ◌+◌, ◌<◌, ◌≤◌, min, ◌⊎◌, List, [], ◌∷◌, ◌++◌, length, get_or, take, drop, set, refl, sym, ap, ◌∙◌, inl, inr, ⊎_elim, add-one, arith, Result, length-drop, take-append-drop, drop-cons}
use Rattle.std.proofs.lemmas.Bool.{cases_lt, le-leb, lt-leb}
use Rattle.std.proofs.lemmas.List.{drop_all}
use Rattle.endpoint.specs.declared.peer.Peer.{Peer}
use Rattle.endpoint.specs.declared.refusal.Refusal.{Refusal}
use Rattle.endpoint.specs.Arrives.{Arrival, arrive}
use Rattle.endpoint.specs.Ends.{End}
use Rattle.endpoint.specs.Steps.{Does}
use Rattle.bridge.specs.Deliveries.{neighbour, code, datagrams, arrives, answered}

-- the buffer as it will be: what is written so far, and what the run makes of the rest
abbrev pub becomes : ℕ → End → List ℕ → List (List ℕ) → ℕ → List ℕ → List ℕ
becomes d e senders ds i buffer = take i buffer ++ answered d e (drop i senders) (drop i ds) (drop i buffer)

-- an arrival from the neighbour of a number, with room for any reply
pub arrived : (d : ℕ) (e e' : End) (sender room : ℕ) (peer : Peer) (g : List ℕ) (r : Result Arrival Refusal) (b b' : List ℕ) → peer ≡ neighbour sender → room ≡ 1024
    → Does (arrive d e 0 peer g room) r e' b b' → (e' ≡ (arrives d e sender g).after) × (r ≡ (arrives d e sender g).answer)
arrived d e e' sender room peer g r b b' from enough does =
    let same : arrive d e 0 peer g room ≡ arrives d e sender g = ap (λ p. arrive d e 0 p g room) from ∙ ap (arrive d e 0 (neighbour sender) g) enough in
    (does.leaves ∙ ap (λ s. s.after) same, does.answers ∙ ap (λ s. s.answer) same)

-- one turn leaves that as it is
turn : (d : ℕ) (e : End) (senders : List ℕ) (ds : List (List ℕ)) (buffer : List ℕ) (i : ℕ) → i < length senders → i < length ds → i < length buffer
    → becomes d (arrives d e (get_or senders i 0) (get_or ds i [])).after senders ds (suc i) (set buffer i (code (arrives d e (get_or senders i 0) (get_or ds i [])).answer)) ≡ becomes d e senders ds i buffer
turn d e [] ds buffer i p q r = absurd (omega arith)
turn d e (x ∷ senders) [] buffer i p q r = absurd (omega arith)
turn d e (x ∷ senders) (n ∷ ds) [] i p q r = absurd (omega arith)
turn d e (x ∷ senders) (n ∷ ds) (b ∷ buffer) zero p q r = refl
turn d e (x ∷ senders) (n ∷ ds) (b ∷ buffer) (suc i) p q r =
    ap (λ rest. b ∷ rest) (turn d e senders ds buffer i (omega arith) (omega arith) (omega arith))

pub turned : (d : ℕ) (e e' : End) (senders : List ℕ) (ds : List (List ℕ)) (g : List ℕ) (buffer : List ℕ) (i o : ℕ) → i < length senders → i < length ds → i < length buffer
    → g ≡ get_or ds i [] → e' ≡ (arrives d e (get_or senders i 0) g).after → o ≡ code (arrives d e (get_or senders i 0) g).answer
    → becomes d e' senders ds (i + 1) (set buffer i o) ≡ becomes d e senders ds i buffer
turned d e e' senders ds g buffer i o p q r is after answer =
    let sender = get_or senders i 0 in
    let step = arrives d e sender (get_or ds i []) in
    ap (λ x. becomes d x senders ds (i + 1) (set buffer i o)) (after ∙ ap (λ y. (arrives d e sender y).after) is)
    ∙ ap (λ v. becomes d step.after senders ds (i + 1) (set buffer i v)) (answer ∙ ap (λ y. code (arrives d e sender y).answer) is)
    ∙ ap (λ k. becomes d step.after senders ds k (set buffer i (code step.answer))) (add-one i)
    ∙ turn d e senders ds buffer i p q r

-- a run that has nothing left writes nothing
over : (d : ℕ) (e : End) (senders : List ℕ) (ds : List (List ℕ)) (buffer : List ℕ) → (length senders ≤ 0) ⊎ ((length ds ≤ 0) ⊎ (length buffer ≤ 0)) → answered d e senders ds buffer ≡ buffer
over d e [] ds buffer none = refl
over d e (p ∷ senders) [] buffer none = refl
over d e (p ∷ senders) (n ∷ ds) [] none = refl
over d e (p ∷ senders) (n ∷ ds) (b ∷ buffer) none = absurd (⊎_elim (λ a. omega arith) (⊎_elim (λ a. omega arith) (λ a. omega arith)) none)

-- at the end it is the buffer
pub end : (d : ℕ) (e : End) (senders : List ℕ) (ds : List (List ℕ)) (buffer : List ℕ) (i : ℕ) → min (min (length senders) (length ds)) (length buffer) ≤ i
    → becomes d e senders ds i buffer ≡ buffer
end d e senders ds buffer i far =
    ap (λ rest. take i buffer ++ rest) (over d e (drop i senders) (drop i ds) (drop i buffer)
    (⊎_elim
    (λ (a : i < length senders). inr (⊎_elim
    (λ (b : i < length ds). inr (simp length-drop (omega arith)))
    (λ (b : length ds ≤ i). inl (simp length-drop (omega arith)))
    (cases_lt i (length ds))))
    (λ (a : length senders ≤ i). inl (simp length-drop (omega arith)))
    (cases_lt i (length senders))))
    ∙ take-append-drop i buffer

-- what is left of the datagrams after i of them lies in what is left of the octets
pub record Left (sizes : List ℕ) (ds : List (List ℕ)) (i : ℕ) (rest : List ℕ) : Type 0 where
  pub lies : datagrams (drop i sizes) rest ≡ drop i ds
  pub passed : i ≤ length ds

-- there is one more where the octets hold it whole
pub record Next (sizes : List ℕ) (ds : List (List ℕ)) (i : ℕ) (datagram later : List ℕ) : Type 0 where
  pub some : i < length ds
  pub is : datagram ≡ get_or ds i []
  pub left : Left sizes ds (i + 1) later

headed : {X : Type 0} (d x : X) (xs ys : List X) (i : ℕ) → x ∷ xs ≡ drop i ys → (i < length ys) × (x ≡ get_or ys i d) × (xs ≡ drop (suc i) ys)
headed d x xs [] zero e = absurd (omega (arith, ap length e))
headed d x xs [] (suc i) e = absurd (omega (arith, ap length e))
headed d x xs (y ∷ ys) zero e = (omega arith, ap (λ l. get_or l 0 d) e, ap (drop 1) e)
headed d x xs (y ∷ ys) (suc i) e = let h = headed d x xs ys i e in (omega (arith, h.0), h.1, h.2)

pub whole : (sizes : List ℕ) (ds : List (List ℕ)) (i : ℕ) (rest datagram later : List ℕ) → Left sizes ds i rest → i < length sizes → get_or sizes i 0 ≤ length rest
    → datagram ≡ take (get_or sizes i 0) rest → later ≡ drop (get_or sizes i 0) rest → Next sizes ds i datagram later
whole sizes ds i rest datagram later left more fits front back =
    let size = get_or sizes i 0 in
    let cut : datagrams (drop i sizes) rest ≡ take size rest ∷ datagrams (drop (suc i) sizes) (drop size rest) =
    rw (drop-cons sizes i 0 more, le-leb size (length rest) fits) refl in
    let h = headed [] (take size rest) (datagrams (drop (suc i) sizes) (drop size rest)) ds i (sym cut ∙ left.lies) in
    record {
      some = h.0;
      is = front ∙ h.1;
      left = record { lies = ap (λ k. datagrams (drop k sizes) later) (add-one i) ∙ ap (datagrams (drop (suc i) sizes)) back ∙ h.2 ∙ ap (λ k. drop k ds) (sym (add-one i)); passed = omega (arith, h.0) };
    }

-- and none where they do not
pub short : (sizes : List ℕ) (ds : List (List ℕ)) (i : ℕ) (rest : List ℕ) → Left sizes ds i rest → i < length sizes → length rest < get_or sizes i 0 → length ds ≡ i
short sizes ds i rest left more cut_short =
    let size = get_or sizes i 0 in
    let cut : datagrams (drop i sizes) rest ≡ [] =
    rw (drop-cons sizes i 0 more, lt-leb size (length rest) cut_short) refl in
    let none : 0 ≡ length (drop i ds) = ap length (sym cut ∙ left.lies) in
    omega (arith, length-drop i ds, none, left.passed)

-- nor after the last size
last : (sizes : List ℕ) (ds : List (List ℕ)) (i : ℕ) (rest : List ℕ) → Left sizes ds i rest → length sizes ≤ i → length ds ≡ i
last sizes ds i rest left none =
    let cut : datagrams (drop i sizes) rest ≡ [] = rw (drop_all i sizes none) refl in
    let none : 0 ≡ length (drop i ds) = ap length (sym cut ∙ left.lies) in
    omega (arith, length-drop i ds, none, left.passed)

-- so a run that went as far as the three slices went as far as the datagrams
pub as_far : (sizes : List ℕ) (ds : List (List ℕ)) (i : ℕ) (rest : List ℕ) (senders buffer : ℕ) → Left sizes ds i rest → i ≡ min (min senders (length sizes)) buffer
    → i ≡ min (min senders (length ds)) buffer
as_far sizes ds i rest senders buffer left far = ⊎_elim
    (λ (a : i < length sizes). omega (arith, far, left.passed, a))
    (λ (a : length sizes ≤ i). omega (arith, far, last sizes ds i rest left a))
    (cases_lt i (length sizes))
