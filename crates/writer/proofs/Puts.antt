-- Octets put at the mark, one piece behind the other. Assumes nothing.
use Rattle.std.proofs.Common.{◌≡◌, ℕ, ◌+◌, ◌*◌, ◌<◌, ◌≤◌, Bool, List, [], ◌∷◌, ◌++◌, length, get_or, take, drop, sym, refl, ap, ◌∙◌, subst, arith}
use Rattle.std.specs.List.{flat_map}
use Rattle.std.proofs.lemmas.List.Folds.{length-flat_map-take}
use Rattle.std.proofs.lemmas.List.{length-append, append_assoc, drop-drop, take_more, flat_map_more}
use Rattle.datagram.specs.Layout.{octets16, payload_octets}
use Rattle.datagram.specs.declared.kind.Kind.{Kind}
use Rattle.datagram.specs.declared.kind.Kind.TheVariants.{CallMessage, IAmAlive, Ack, Nack, NonStandard}
use Rattle.writer.specs.declared.marks.Begun.{Begun}
use Rattle.writer.specs.declared.marks.Marks.{Marks}
use Rattle.writer.specs.Drafts.{draft_of, deserving_type, moved_by, counted, grown}
use Rattle.datagram.specs.Kinds.{number_of, deserving_kind}
use Rattle.writer.specs.Pieces.{Put, Puts, Grows}

abbrev moved_to : Marks → ℕ → Marks
moved_to m k = record { mark = k; count = m.count; asked = m.asked; deserved = m.deserved; closed = m.closed }

pub two_puts : {b x b₁ y b₂ : List ℕ} {m m₁ m₂ : Marks} → Put b m x b₁ m₁ → Put b₁ m₁ y b₂ m₂ → Put b m (x ++ y) b₂ m₂
two_puts {b} {x} {b₁} {y} {b₂} {m} {m₁} {m₂} p q =
    let n : m.mark + length (x ++ y) ≡ m.mark + length x + length y = omega (arith, length-append x y) in
    let at : m₁.mark ≡ m.mark + length x = ap (λ k. k.mark) p.moves in
    let f : take (m.mark + length x + length y) b₂ ≡ take (m.mark + length x) b₁ ++ y = rw at at q.fills in
    let g : drop (m.mark + length x + length y) b₂ ≡ drop (m.mark + length x + length y) b₁ = rw at at q.rest in
    record {
      moves = q.moves ∙ ap (λ k. moved_by k (length y)) p.moves ∙ ap (moved_to m) (sym n);
      fills = ap (λ k. take k b₂) n ∙ f ∙ ap (λ l. l ++ y) p.fills ∙ append_assoc (take m.mark b) x y;
      rest = ap (λ k. drop k b₂) n ∙ g ∙ sym (drop-drop (length y) (m.mark + length x) b₁) ∙ ap (drop (length y)) p.rest ∙ drop-drop (length y) (m.mark + length x) b ∙ ap (λ k. drop k b) (sym n);
      long = q.long ∙ p.long;
    }

-- a piece whose octets are known by another name, and one behind it
headed_put : {b h k b₁ x b₂ : List ℕ} {m m₁ m₂ : Marks} → h ≡ k → Put b m h b₁ m₁ → Put b₁ m₁ x b₂ m₂ → Put b m (k ++ x) b₂ m₂
headed_put {b} {x = x} {b₂ = b₂} {m = m} {m₂ = m₂} e p q = subst (λ l. Put b m (l ++ x) b₂ m₂) e (two_puts p q)

-- the header of a payload, and then its data
pub payload_put : {b h b₁ x b₂ : List ℕ} {m m₁ m₂ : Marks} (t c n : ℕ) → h ≡ 2 * t ∷ (octets16 c ++ octets16 n) → n ≡ length x → Put b m h b₁ m₁ → Put b₁ m₁ x b₂ m₂ → Put b m (payload_octets t c x) b₂ m₂
payload_put {x = x} t c n head size p q = headed_put (head ∙ ap (λ j. 2 * t ∷ (octets16 c ++ octets16 j)) size) p q

pub payload_puts : {b h b₁ x b₂ y b₃ z b₄ : List ℕ} {m m₁ m₂ m₃ m₄ : Marks} (t c n : ℕ) → h ≡ 2 * t ∷ (octets16 c ++ octets16 n) → n ≡ length x + length y + length z
    → Put b m h b₁ m₁ → Put b₁ m₁ x b₂ m₂ → Put b₂ m₂ y b₃ m₃ → Put b₃ m₃ z b₄ m₄ → Put b m (payload_octets t c (x ++ (y ++ z))) b₄ m₄
payload_puts {x = x} {y = y} {z = z} t c n head size p q r s =
    payload_put t c n head (omega (arith, length-append x (y ++ z), length-append y z)) p (two_puts q (two_puts r s))

deserving_same : (k : Kind) → deserving_kind k ≡ deserving_type (number_of k)
deserving_same CallMessage = refl
deserving_same IAmAlive = refl
deserving_same Ack = refl
deserving_same Nack = refl
deserving_same NonStandard = refl

-- the payload that was begun is finished
pub grows_by : {b b₀ x b₁ b' : List ℕ} {m m₀ m₁ m' : Marks} (k : Kind) (w : Bool) → b₀ ≡ b → m₀ ≡ m → Put b₀ m₀ x b₁ m₁ → b' ≡ b₁ → m' ≡ counted m₁ w → w ≡ deserving_kind k → Grows b m (number_of k) x b' m'
grows_by {b} {b₀} {x} {b₁} {b'} {m} {m₀} {m₁} {m'} k w over start p left fin worth =
    let t = number_of k in
    let e : m' ≡ counted (moved_by m₀ (length x)) (deserving_type t) = fin ∙ ap (λ j. counted j w) p.moves ∙ ap (counted (moved_by m₀ (length x))) (worth ∙ deserving_same k) in
    let f : draft_of b₁ (counted (moved_by m₀ (length x)) (deserving_type t)) ≡ grown (draft_of b₀ m₀) t x = rw (p.fills, p.long) refl in
    let at : m'.mark ≡ m₀.mark + length x = ap (λ j. j.mark) e in
    record {
      leaves = ap (λ l. draft_of l m') left ∙ ap (draft_of b₁) e ∙ f ∙ ap (λ l. grown (draft_of l m₀) t x) over ∙ ap (λ j. grown (draft_of b j) t x) start;
      beyond = ap (drop m'.mark) left ∙ ap (λ j. drop j b₁) at ∙ p.rest ∙ ap (drop (m₀.mark + length x)) over ∙ ap (λ j. drop j b) (sym at);
    }

-- the octets of each element, in order
puts_more : {X : Type 0} {b b₁ b₂ : List ℕ} {m m₁ m₂ : Marks} (f : X → List ℕ) (xs : List X) (i : ℕ) (e : X) → e ≡ get_or xs i e → i < length xs → Put b m (flat_map f (take i xs)) b₁ m₁ → Put b₁ m₁ (f e) b₂ m₂ → Put b m (flat_map f (take (i + 1) xs)) b₂ m₂
puts_more {b = b} {b₂ = b₂} {m = m} {m₂ = m₂} f xs i e is h p q =
    let more : take i xs ++ e ∷ [] ≡ take (i + 1) xs = ap (λ x. take i xs ++ x ∷ []) is ∙ sym (take_more xs i e h) in
    subst (λ l. Put b m l b₂ m₂) (flat_map_more f [] (take i xs) e ∙ ap (flat_map f) more) (two_puts p q)

-- the same of the guard
puts_both : {x y z : List ℕ} {g g₁ g₂ : Begun} → Puts g x g₁ → Puts g₁ y g₂ → Put g.buffer.now g.marks.now z g₂.buffer.now g₂.marks.now → Puts g z g₂
puts_both p q put = record { same_buffer = q.same_buffer ∙ p.same_buffer; same_marks = q.same_marks ∙ p.same_marks; same_before = q.same_before ∙ p.same_before; put = put }

pub guard_puts_headed : {h k x : List ℕ} {g g₁ g₂ : Begun} → h ≡ k → Puts g h g₁ → Puts g₁ x g₂ → Puts g (k ++ x) g₂
guard_puts_headed e p q = puts_both p q (headed_put e p.put q.put)

pub guard_puts_more : {X : Type 0} {g g₁ g₂ : Begun} (f : X → List ℕ) (xs : List X) (i : ℕ) (e : X) → e ≡ get_or xs i e → i < length xs → Puts g (flat_map f (take i xs)) g₁ → Puts g₁ (f e) g₂ → Puts g (flat_map f (take (i + 1) xs)) g₂
guard_puts_more f xs i e is h p q = puts_both p q (puts_more f xs i e is h p.put q.put)

-- where all elements have room, the next one has
pub next_fits : {X : Type 0} {b b₁ : List ℕ} {m m₁ : Marks} (f : X → List ℕ) (xs : List X) (i : ℕ) (e : X) → e ≡ get_or xs i e → i < length xs → Put b m (flat_map f (take i xs)) b₁ m₁ → m.mark + length (flat_map f xs) ≤ length b → m₁.mark + length (f e) ≤ length b₁
next_fits f xs i e is h p room =
    let at = ap (λ k. k.mark) p.moves in
    let same = ap (λ x. length (f x)) is in
    omega (arith, p.long, length-flat_map-take f xs i e h)
