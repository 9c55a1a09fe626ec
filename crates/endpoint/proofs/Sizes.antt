-- How many octets a reply has. Assumes nothing.
use Rattle.std.proofs.Common.{◌≡◌, ℕ, ◌+◌, min, Bool, true, false, leb, List, [], ◌∷◌, ◌++◌, length, refl, ap, ◌∙◌, arith}
use Rattle.std.proofs.lemmas.Bool.{leb-true, leb-false, le-leb, lt-leb}
use Rattle.std.proofs.lemmas.List.{length-append}
use Rattle.std.specs.List.{fold}
use Rattle.datagram.specs.Structures.{Content}
use Rattle.writer.specs.Bodies.{under_no_call, reply}
use Rattle.writer.specs.Values.{part_of, part_octets, body_octets, written}
use Rattle.endpoint.specs.Parts.{parts, octets_in}
use Rattle.endpoint.specs.Replies.{reply_octets}

pub octets_append : (cs ds : List Content) → octets_in (cs ++ ds) ≡ octets_in cs + octets_in ds
octets_append [] ds = omega arith
octets_append (c ∷ cs) ds =
    let x = part_octets (part_of (under_no_call c)) in
    omega (arith, length-append x (body_octets (parts (cs ++ ds))), length-append x (body_octets (parts cs)), octets_append cs ds)

-- a reply's octets are its header's and its contents'
pub reply_long : (n : ℕ) (c : Content) (cs : List Content) → length (written (reply n (c ∷ cs))) ≡ 5 + octets_in (c ∷ cs)
reply_long n c cs = omega arith

pub reply_fits : (n : ℕ) (cs : List Content) → leb (length (reply_octets n cs)) 1024 ≡ leb (5 + octets_in cs) 1024
reply_fits n [] = refl
reply_fits n (c ∷ cs) = ap (λ k. leb k 1024) (reply_long n c cs)

-- a sum that stops at a bound far above, counted on
capped : (a k : ℕ) → leb (min 18446744073709551615 a + k) 1024 ≡ leb (a + k) 1024
capped a k = by_cases (leb (a + k) 1024) refl
  where
    by_cases : (b : Bool) → leb (a + k) 1024 ≡ b → leb (min 18446744073709551615 a + k) 1024 ≡ b
    by_cases true e = let le = leb-true (a + k) 1024 e in le-leb _ 1024 (omega arith)
    by_cases false e = let lt = leb-false (a + k) 1024 e in lt-leb _ 1024 (omega arith)

abbrev pub add_size : ℕ → Content → ℕ
add_size a c = min 18446744073709551615 (a + octets_in (c ∷ []))

pub sizes_fit : (cs : List Content) (a : ℕ) → leb (fold add_size a cs) 1024 ≡ leb (a + octets_in cs) 1024
sizes_fit [] a = let none : a ≡ a + 0 = omega arith in ap (λ k. leb k 1024) none
sizes_fit (c ∷ cs) a =
    let x = part_octets (part_of (under_no_call c)) in
    let more : (a + octets_in (c ∷ [])) + octets_in cs ≡ a + octets_in (c ∷ cs) = omega (arith, length-append x (body_octets (parts cs)), length-append x []) in
    sizes_fit cs (add_size a c) ∙ capped (a + octets_in (c ∷ [])) (octets_in cs) ∙ ap (λ k. leb k 1024) more
