-- What a call answers, by what was found against it. Assumes nothing.
use Rattle.std.proofs.Common.{◌≡◌, ℕ, ◌+◌, ◌-◌, ◌<◌, ◌≤◌, min, Bool, true, false, not, ◌&&◌, ltb, leb, List, length, take, drop, set, Some, None, Ok, Err, Option, Result, sym, refl, ap, ◌∙◌, arith}
use Rattle.std.proofs.Math.Seq.{take-set-lt}
use Rattle.std.proofs.lemmas.List.{length-set, drop-set-lt}
use Rattle.std.proofs.lemmas.Bool.{leb-true, leb-false, lt-leb, lt-ltb, and_parts}
use Rattle.std.specs.List.{flat_map}
use Rattle.datagram.specs.Layout.{payload_octets, counted_octets}
use Rattle.datagram.proofs.Passing.{clash}
use Rattle.datagram.specs.Structures.{Content, type_of}
use Rattle.datagram.specs.declared.kind.Kind.{Kind}
use Rattle.datagram.specs.declared.kind.Kind.TheVariants.{CallMessage, IAmAlive, Ack, Nack, NonStandard}
use Rattle.writer.specs.declared.marks.Marks.{Marks}
use Rattle.writer.specs.declared.refusal.Found.TheVariants.{NoRoom, TypeNotWritten, OutsideField}
use Rattle.writer.specs.declared.refusal.Refusal.{Refusal}
use Rattle.writer.specs.declared.writer.Writer.{Writer}
use Rattle.writer.specs.Drafts.{draft_of, draft_says, first_of, unless, is_open, fits, against_payload, against_closing, item, add_of, closable, closed_marks, close_of, Does, done, size}
use Rattle.writer.specs.Counted.{Counts}
use Rattle.datagram.specs.Kinds.{number_of}
use Rattle.writer.specs.Pieces.{Measures, Grows, against_data}
use Rattle.writer.specs.Refusals.{refused_at}
use Rattle.writer.specs.Values.{Item, supported_type, data_of, every, content_within, within}

-- past every question
pub clear_of : (b : Bool) (f : Refusal) (o : Option Refusal) → first_of b f o ≡ None → (b ≡ true) × (o ≡ None)
clear_of true f o e = (refl, e)
clear_of false f o e = let z : ◌≡◌ {A = ℕ} 0 1 = cc in absurd (omega arith)

-- what there is against a payload, by whether it fits and whether its values do
abbrev answer_to : Marks → ℕ → Bool → Bool → Option Refusal
answer_to m t fit inside = first_of fit (refused_at m.mark NoRoom) (first_of (supported_type t) (refused_at m.mark TypeNotWritten) (first_of inside (refused_at m.mark OutsideField) None))

fit_parts : (m : Marks) (room n : ℕ) → fits m room n ≡ true → m.mark + 5 + n ≤ room
fit_parts m room n e =
    let d = and_parts (is_open m room) _ e in
    let f = and_parts (ltb m.count 203) (leb (m.mark + 5 + n) room) d.1 in
    leb-true _ _ f.1

pub passes : (m : Marks) (room t n : ℕ) (inside : Bool) → against_payload m room t n inside ≡ None → (inside ≡ true) × (m.mark + 5 + n ≤ room)
passes m room t n inside e =
    let a = clear_of (fits m room n) (refused_at m.mark NoRoom) _ e in
    let b = clear_of (supported_type t) (refused_at m.mark TypeNotWritten) _ a.1 in
    let c = clear_of inside (refused_at m.mark OutsideField) None b.1 in
    (c.0, fit_parts m room n a.0)

-- a size counts only as far as it may fit
fits_same : (m : Marks) (room n k : ℕ) → room ≤ 1024 → Measures n k → fits m room n ≡ fits m room k
fits_same m room n k small e = ap (λ b. is_open m room && (ltb m.count 203 && b)) (by_cases (leb n 1024) refl) where
  by_cases : (b : Bool) → leb n 1024 ≡ b → leb (m.mark + 5 + n) room ≡ leb (m.mark + 5 + k) room
  by_cases true h = let le = leb-true n 1024 h in let same : n ≡ k = omega arith in ap (λ j. leb (m.mark + 5 + j) room) same
  by_cases false h = let lt = leb-false n 1024 h in lt-leb (m.mark + 5 + n) room (omega arith) ∙ sym (lt-leb (m.mark + 5 + k) room (omega arith))

-- where a payload fits, its CRV and its length lie within their fields
within_same : (b : Bool) (m : Marks) (room : ℕ) (i : Item) → room ≤ 1024 → i.crv < 65536 → fits m room (length (data_of i.content)) ≡ b
    → answer_to m (type_of i.content) b (content_within i.content) ≡ answer_to m (type_of i.content) b (within i)
within_same false m room i small crv e = refl
within_same true m room i small crv e =
    let n = length (data_of i.content) in
    let fit = fit_parts m room n e in
    let same : content_within i.content ≡ within i = rw (lt-ltb i.crv 65536 crv, lt-ltb n 65536 (omega arith)) refl in
    ap (answer_to m (type_of i.content) true) same

-- what there is against adding an item
abbrev pub against_item : Writer → Item → Option Refusal
against_item w i = against_payload w.marks (min 1024 (length w.buffer.now)) (type_of i.content) (length (data_of i.content)) (within i)

pub item_asked : (w : Writer) (i : Item) (n : ℕ) (inside : Bool) (o : Option Refusal) → o ≡ against_payload w.marks (min 1024 (length w.buffer.now)) (type_of i.content) n inside
    → i.crv < 65536 → Measures n (length (data_of i.content)) → inside ≡ content_within i.content → o ≡ against_item w i
item_asked w i n inside o asked crv size is =
    let m = w.marks in
    let room = min 1024 (length w.buffer.now) in
    let t = type_of i.content in
    let k = length (data_of i.content) in
    let small : room ≤ 1024 = omega arith in
    asked
    ∙ ap (λ b. answer_to m t b inside) (fits_same m room n k small size)
    ∙ ap (answer_to m t (fits m room k)) is
    ∙ within_same (fits m room k) m room i small crv refl

-- what a check answers
pub took : {X : Type 0} (o : Option Refusal) (x e : X) → unless o x ≡ Ok e → (o ≡ None) × (x ≡ e)
took None x e h = (refl, cc)
took (Some f) x e h = absurd (clash h)

pub refused : {X : Type 0} (o : Option Refusal) (x : X) (f : Refusal) → unless o x ≡ Err f → o ≡ Some f
refused None x f h = absurd (clash (sym h))
refused (Some g) x f h = cc

pub item_refused : (w : Writer) (i : Item) (f : Refusal) → against_item w i ≡ Some f → Does w (add_of (draft_says w) (item i)) done (Err f) w
item_refused w i f found = rw found (record { gives = refl; leaves = refl; beyond = refl })

pub item_added : (w w' : Writer) (i : Item) → against_item w i ≡ None
    → Grows w.buffer.now w.marks (type_of i.content) (payload_octets (type_of i.content) i.crv (data_of i.content)) w'.buffer.now w'.marks → Does w (add_of (draft_says w) (item i)) done (Ok tt) w'
item_added w w' i none g = rw none (record { gives = refl; leaves = g.leaves; beyond = g.beyond })

-- a kind is a type that is written
supported : (k : Kind) → supported_type (number_of k) ≡ true
supported CallMessage = refl
supported IAmAlive = refl
supported Ack = refl
supported Nack = refl
supported NonStandard = refl

-- the same of a payload that counts elements
module _ {X : Type 0} {k : Kind} {f : X → List ℕ} {ok : X → Bool} {es : List X} {x : Content} (counts : Counts k f ok es x) (w : Writer) (crv n : ℕ) (inside : Bool) (r : Result (Unit {0}) Refusal)
    (asked : r ≡ unless (against_data w.marks (min 1024 (length w.buffer.now)) n inside) tt) (small : crv < 65536) (size : Measures n (1 + length (flat_map f es))) (is : inside ≡ (ltb (length es) 128 && every ok es)) where
  added : Item
  added = record { crv = crv; content = x }

  counted_asked : r ≡ unless (against_item w added) tt
  unfolding added
  counted_asked =
      let room = min 1024 (length w.buffer.now) in
      let written : supported_type (type_of x) ≡ true = ap supported_type counts.kind ∙ supported k in
      let same : against_payload w.marks room (type_of x) n inside ≡ against_data w.marks room n inside = rw written refl in
      let long : Measures n (length (data_of x)) = omega (arith, size, ap length counts.«data») in
      asked ∙ ap (λ o. unless o tt) (item_asked w added n inside _ (sym same) small long (is ∙ sym counts.within))

  pub counted_refused : (e : Refusal) → r ≡ Err e → Does w (add_of (draft_says w) (item (record { crv = crv; content = x }))) done (Err e) w
  unfolding added
  counted_refused e was = item_refused w added e (refused (against_item w added) tt e (sym counted_asked ∙ was))

  pub counted_added : (w' : Writer) (u : Unit {0}) → r ≡ Ok u → Grows w.buffer.now w.marks (number_of k) (payload_octets (number_of k) crv (counted_octets (length es) (flat_map f es))) w'.buffer.now w'.marks
      → Does w (add_of (draft_says w) (item (record { crv = crv; content = x }))) done (Ok tt) w'
  unfolding added
  counted_added w' u was grows =
      item_added w w' added (took (against_item w added) tt u (sym counted_asked ∙ was)).0 (rw (counts.kind, counts.«data») grows)

-- COUNT is written
-- there is a header where a datagram is closed
closing_headed : (m : Marks) (room : ℕ) → against_closing m room ≡ None → 5 ≤ m.mark
closing_headed m room e =
    let a = clear_of (closable m room) _ _ e in
    let b = and_parts (is_open m room) _ a.0 in
    let c = and_parts (leb 5 (min m.mark room)) (not m.closed) b.0 in
    let d = leb-true 5 (min m.mark room) c.0 in
    omega arith

pub closed_so : (w w' : Writer) (k n : ℕ) → against_closing w.marks (min 1024 (length w.buffer.now)) ≡ None → w'.marks ≡ closed_marks w.marks → k ≡ w.marks.count → w'.buffer.now ≡ set w.buffer.now 4 (k - 1) → n ≡ w'.marks.mark
    → Does w (close_of (draft_says w)) size (Ok n) w'
closed_so w w' k n none marks count buffer is =
    let b = w.buffer.now in
    let m = w.marks in
    let mark : w'.marks.mark ≡ m.mark = ap (λ x. x.mark) marks in
    let long = closing_headed m _ none in
    let made : draft_of (set b 4 (k - 1)) (closed_marks m) ≡ record { marks = closed_marks m; filled = set (take m.mark b) 4 (m.count - 1); room = min 1024 (length b) } = rw (count, take-set-lt m.mark b 4 (m.count - 1) (omega arith), length-set b 4 (m.count - 1)) refl in
    let left : draft_says w' ≡ draft_of (set b 4 (k - 1)) (closed_marks m) = ap (λ x. draft_of x w'.marks) buffer ∙ ap (draft_of (set b 4 (k - 1))) marks in
    let kept : drop m.mark (set b 4 (k - 1)) ≡ drop m.mark b = drop-set-lt m.mark b 4 (k - 1) (omega arith) in
    let past : drop w'.marks.mark w'.buffer.now ≡ drop w'.marks.mark b = ap (λ j. drop j w'.buffer.now) mark ∙ ap (drop m.mark) buffer ∙ kept ∙ ap (λ j. drop j b) (sym mark) in
    rw none (record { gives = ap (λ j. Ok j) (is ∙ mark); leaves = left ∙ made; beyond = past })
