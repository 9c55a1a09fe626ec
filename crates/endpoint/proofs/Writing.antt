-- A writer whose calls cannot be refused, as all that is added has room. Assumes nothing.
use Rattle.std.proofs.Common.{◌≡◌, ℕ, ◌+◌, ◌<◌, ◌≤◌, true, false, leb, List, [], ◌∷◌, ◌++◌, map, length, drop, Ok, Err, Result, sym, refl, ap, ◌∙◌, subst, arith}
use Rattle.std.proofs.lemmas.Bool.{lt-ltb, leb-true, and_parts, and_from}
use Rattle.std.proofs.lemmas.List.{map-append, append_assoc, append-nil, length-append, length-map}
use Rattle.std.proofs.lemmas.List.Folds.{list_all-append}
use Rattle.datagram.specs.Results.{map_ok}
use Rattle.datagram.proofs.Passing.{clash}
use Rattle.datagram.specs.Structures.{Content, Alive, i_am_alive, type_of}
use Rattle.writer.specs.declared.refusal.Refusal.{Refusal}
use Rattle.writer.specs.declared.writer.Writer.{Writer}
use Rattle.writer.specs.Bodies.{under_no_call, reply}
use Rattle.writer.specs.Drafts.{Draft, draft_says, fresh, grown, with_header, with_count, item, open_of, add_of, close_of, after, Does, done, size}
use Rattle.writer.specs.Runs.{Run}
use Rattle.writer.specs.Values.{part_of, part_octets, data_of, every, content_within, cookie_within, supported_type, within, written, plainly, is_field16}
use Rattle.writer.proofs.Runs.{opens, adds, closes, run_open, run_add, run_close}
use Rattle.writer.proofs.Written.{cookie_back}
use Rattle.endpoint.specs.Parts.{parts, octets_in, Writable, Holding, Adds, Wrote}
use Rattle.endpoint.specs.Replies.{is_empty, reply_octets}
use Rattle.endpoint.proofs.Sizes.{octets_append, reply_fits}

no_wish : {P : Type 0} → false ≡ true → P
no_wish e = let z : ◌≡◌ {A = ℕ} 0 1 = cc in absurd (omega arith)

-- a call that was accepted answers so, and leaves as much room
accepted_so : {X : Type 0} (w w' : Writer) (plan : Result Draft Refusal) (answer : Draft → X) (r : Result X Refusal) (e : Draft) → Does w plan answer r w' → plan ≡ Ok e → (r ≡ Ok (answer e)) × (draft_says w' ≡ e)
accepted_so w w' plan answer r e does is = (does.gives ∙ ap (map_ok answer) is, does.leaves ∙ ap (after (draft_says w)) is)

pub open_holds : (w w' : Writer) (n : ℕ) (r : Result (Unit {0}) Refusal) → w.marks ≡ fresh → 1024 ≤ length w.buffer.now → n < 16777216 → Does w (open_of (draft_says w) n false) done r w' → (r ≡ Ok tt) × Holding w.buffer.now n [] w'
open_holds w w' n r new long small does =
    let d = draft_says w in
    let o = accepted_so w w' (open_of d n false) done r (with_header d n false) does (opens d n false new (omega arith) small) in
    let kept = ap (λ e. e.room) o.1 in
    (o.0, record { run = run_open n false w w' (subst (λ q. Does w (open_of d n false) done q w') o.0 does); room = kept ∙ (omega arith) })

last_within : (ds : List Content) (c : Content) → every content_within (ds ++ c ∷ []) ≡ true → content_within c ≡ true
last_within ds c h =
    let two = and_parts (every content_within ds) _ (sym (list_all-append content_within ds (c ∷ [])) ∙ h) in
    (and_parts (content_within c) true two.1).0

pub add_holds : (c : Content) (w w' : Writer) (r : Result (Unit {0}) Refusal) → supported_type (type_of c) ≡ true → Does w (add_of (draft_says w) (item (under_no_call c))) done r w' → Adds (c ∷ []) w r w'
add_holds c w w' r type does b n ds h can =
    let d = draft_says w in
    let i = under_no_call c in
    let x = part_octets (part_of i) in
    let mark = h.run.holds.mark in
    let room = h.room in
    let most = can.room in
    let long : octets_in (ds ++ c ∷ []) ≡ octets_in ds + (5 + length (data_of c)) = omega (arith, octets_append ds (c ∷ []), length-append x []) in
    let inside : within i ≡ true = and_from _ _ refl (and_from _ _ (lt-ltb (length (data_of c)) 65536 (omega arith)) (last_within ds c can.inside)) in
    let a = accepted_so w w' (add_of d (item i)) done r (grown d (type_of c) x) does (adds d n false (parts ds) i h.run.holds inside type (omega arith)) in
    let run = run_add (item i) w w' h.run (subst (λ q. Does w (add_of d (item i)) done q w') a.0 does) in
    let same : parts ds ++ part_of i ∷ [] ≡ parts (ds ++ c ∷ []) = sym (ap (map part_of) (map-append under_no_call ds (c ∷ [])) ∙ map-append part_of (map under_no_call ds) (i ∷ [])) in
    (a.0, record { run = subst (λ ps. Run b n false ps w') same run; room = ap (λ e. e.room) a.1 ∙ room })

pub close_wrote : (b : List ℕ) (n : ℕ) (cs : List Content) (w w' : Writer) (r : Result ℕ Refusal) → Holding b n cs w → 0 < length cs → Does w (close_of (draft_says w)) size r w' → Wrote (written (reply n cs)) r b w'.buffer.now
close_wrote b n cs w w' r h some does =
    let d = draft_says w in
    let many : length (parts cs) ≡ length cs = length-map (map under_no_call cs) part_of ∙ length-map cs under_no_call in
    let a = accepted_so w w' (close_of d) size r (with_count d) does (closes d n false (parts cs) h.run.holds (omega arith) no_wish) in
    let k = run_close d.marks.mark w w' h.run (subst (λ q. Does w (close_of d) size q w') a.0 does) in
    record { answers = a.0 ∙ ap (λ j. Ok j) k.size; buffer = k.buffer ∙ ap (λ j. written (reply n cs) ++ drop j b) k.size }

writable_front : (cs es : List Content) → Writable (cs ++ es) → Writable cs
writable_front cs es can =
    let room = can.room in
    record {
      inside = (and_parts (every content_within cs) _ (sym (list_all-append content_within cs es) ∙ can.inside)).0;
      room = omega (arith, octets_append cs es);
    }

pub adds_none : (w : Writer) → Adds [] w (Ok tt) w
adds_none w b n ds h can = (refl, subst (λ cs. Holding b n cs w) (sym (append-nil ds)) h)

pub adds_then : (cs es : List Content) (w v w' : Writer) (r : Result (Unit {0}) Refusal) → Adds cs w (Ok tt) v → Adds es v r w' → Adds (cs ++ es) w r w'
adds_then cs es w v w' r first second b n ds h can =
    let same = append_assoc ds cs es in
    let all : Writable ((ds ++ cs) ++ es) = subst Writable (sym same) can in
    let k = second b n (ds ++ cs) (first b n ds h (writable_front (ds ++ cs) es all)).1 all in
    (k.0, subst (λ xs. Holding b n xs w') same k.1)

-- a refusal cannot be
pub never_refused : (cs es : List Content) (w w' : Writer) (r : Result (Unit {0}) Refusal) (f : Refusal) (b : List ℕ) (n : ℕ) (ds : List Content) → Adds cs w r w' → r ≡ Err f → Holding b n ds w → Writable (ds ++ (cs ++ es)) → ⊥
never_refused cs es w w' r f b n ds adds is h can =
    let all : Writable ((ds ++ cs) ++ es) = subst Writable (sym (append_assoc ds cs es)) can in
    clash (sym is ∙ (adds b n ds h (writable_front (ds ++ cs) es all)).0)

-- a cookie that is there is not empty
pub alive_adds : (a : Alive) (w w' : Writer) (r : Result (Unit {0}) Refusal) → Does w (add_of (draft_says w) (item (under_no_call (i_am_alive (plainly a))))) done r w' → Adds (i_am_alive a ∷ []) w r w'
alive_adds a w w' r does b n ds h can =
    let cookie = (and_parts (is_field16 a.validity) (cookie_within a.cookie) (last_within ds (i_am_alive a) can.inside)).1 in
    let same : plainly a ≡ a = ap (λ c. record { validity = a.validity; wants_reply = a.wants_reply; cookie = c }) (cookie_back a.cookie cookie) in
    add_holds (i_am_alive a) w w' r refl (subst (λ x. Does w (add_of (draft_says w) (item (under_no_call (i_am_alive x)))) done r w') same does) b n ds h can

pub reply_writable : (n : ℕ) (cs : List Content) → every content_within cs ≡ true → leb (length (reply_octets n cs)) 1024 ≡ true → Writable cs
reply_writable n cs inside fits = record { inside = inside; room = leb-true (5 + octets_in cs) 1024 (sym (reply_fits n cs) ∙ fits) }

some_contents : (cs : List Content) → is_empty cs ≡ false → 0 < length cs
some_contents [] e = no_wish (sym e)
some_contents (c ∷ cs) e = omega arith

-- the octets of a reply that is not empty
pub reply_written : (n : ℕ) (cs : List Content) → is_empty cs ≡ false → reply_octets n cs ≡ written (reply n cs)
reply_written n [] e = no_wish (sym e)
reply_written n (c ∷ cs) e = refl

pub reply_wrote : (b : List ℕ) (n : ℕ) (cs : List Content) (w w' : Writer) (r : Result ℕ Refusal) → Holding b n cs w → is_empty cs ≡ false → Does w (close_of (draft_says w)) size r w' → Wrote (reply_octets n cs) r b w'.buffer.now
reply_wrote b n cs w w' r h some does = subst (λ x. Wrote x r b w'.buffer.now) (sym (reply_written n cs some)) (close_wrote b n cs w w' r h (some_contents cs some) does)
