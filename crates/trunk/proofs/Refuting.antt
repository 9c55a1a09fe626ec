-- Each part of the law refutes its bad history.
use Rattle.std.proofs.Common.{◌≡◌, ℕ, ◌<◌, ◌≤◌, true, ◌⊎◌, List, [], ◌∷◌, get_or, None, Ok, sym, refl, ap, ◌∙◌, inl, inr, arith, lit<, lit≤}
use Rattle.std.proofs.lemmas.Bool.{false≢true, true≢false}
use Rattle.trunk.specs.Acts.{Octets, Said, said_in, Outcome, unanswered, left, right, let_be, Act, sends, arrives, History, Does, Asks, Belongs, own, first, next, HandsOut, Ends, by_tick, by_arrival, start, then}
use Rattle.trunk.specs.Law.{Once, Whole, After, InOrder, Few, Single, Settled}
use Rattle.trunk.specs.Refuted.{body_with, said, datagram_with, handed_out_twice, never_sent, acknowledged_first, handed_out_in_reverse, five_times_on_the_line, given_up_twice, left_outstanding, EachPartRefutes}
use Rattle.trunk.proofs.Both.{is_send, is_left}
use Rattle.trunk.proofs.Alone.{is_end}

-- the deeds of these histories, and sends that hand out
abbrev nine : Octets
nine = body_with 0x09

abbrev eight : Octets
eight = body_with 0x08

hands_nine : (h : History) (j : ℕ) → Does h 0 left (sends true 0 nine (datagram_with 0 0x09))
    → Does h j right (arrives 0 true (said 0x09 ∷ []) None None) → HandsOut h left 0 j
hands_nine h j S D = (0, own true 0 nine (datagram_with 0 0x09) S refl, true, said 0x09, [], None, None, D)

once_refutes : Once handed_out_twice → ⊥
once_refutes l =
    let sent : Does handed_out_twice 0 left (sends true 0 nine (datagram_with 0 0x09)) = inr (inr (inl (refl, refl, refl))) in
    let e : ◌≡◌ {A = ℕ} 1 2 = l left 0 1 2
    (hands_nine handed_out_twice 1 sent (inr (inl (refl, refl, refl))))
    (hands_nine handed_out_twice 2 sent (inl (refl, refl, refl))) in
    omega arith

said_eight : said_in eight ≡ Ok (said 0x08 ∷ [])
unfolding said_in
said_eight = refl

abbrev first_octet : List Said → ℕ
first_octet [] = 0
first_octet (p ∷ ps) = get_or p.octets 0 0

whole_refutes : Whole never_sent → ⊥
whole_refutes l =
    let r = l left 1 0 true (said 0x09) [] None None (inl (refl, refl, refl)) in
    elim r.5 [
      | inl x ↦ true≢false (ap is_left x.1)
      | inr y ↦ elim y [
        | inl x ↦ let e = x.2 in
            let b : r.3 ≡ eight = cc in
            let q = sym r.9 ∙ ap said_in b ∙ said_eight in
            let z : said 0x09 ∷ [] ≡ said 0x08 ∷ [] = cc in
            let y : ◌≡◌ {A = ℕ} 9 8 = ap first_octet z in
            omega arith
        | inr z ↦ z
      ]
    ]

after_refutes : After acknowledged_first → ⊥
after_refutes l =
    let r = l left 0 1 (by_arrival 0 true [] None (inr (inl (refl, refl, refl)))
    ((0, nine, datagram_with 0 0x09, inr (inr (inl (refl, refl, refl)))), lit< tt, λ j a m. omega arith)) in
    let lt = r.2 in
    elim r.1.7 [
      | inl x ↦ (let e = x.0 in omega arith)
      | inr y ↦ elim y [ inl x ↦ false≢true (ap is_left x.1) | inr z ↦ elim z [ inl x ↦ false≢true (ap is_left x.1) | inr u ↦ u ] ]
    ]

-- of two sends, entries 0 and 2
reverse_asks : (j : ℕ) → Asks handed_out_in_reverse left j → (j ≡ 2) ⊎ (j ≡ 0)
reverse_asks j a =
    elim a.3 [
      | inl x ↦ absurd (true≢false (ap is_left x.1))
      | inr b ↦ elim b [
        | inl x ↦ absurd (true≢false (ap is_left x.1))
        | inr c ↦ elim c [
          | inl x ↦ absurd (true≢false (ap is_send x.2))
          | inr d ↦ elim d [
            | inl x ↦ inl x.0
            | inr e ↦ elim e [ inl x ↦ absurd (true≢false (ap is_send x.2)) | inr f ↦ elim f [ inl x ↦ inr x.0 | inr z ↦ absurd z ] ]
          ]
        ]
      ]
    ]

in_order_refutes : InOrder handed_out_in_reverse → ⊥
in_order_refutes l =
    let first-send : Does handed_out_in_reverse 0 left (sends true 0 nine (datagram_with 0 0x09)) = inr (inr (inr (inr (inr (inl (refl, refl, refl)))))) in
    let second-send : Does handed_out_in_reverse 2 left (sends true 0 eight (datagram_with 1 0x08)) = inr (inr (inr (inl (refl, refl, refl)))) in
    let n : 5 < 4 = l left 0 2 1 3 5 4
    (by_arrival 0 true [] None (inr (inr (inr (inr (inl (refl, refl, refl))))))
    ((0, nine, datagram_with 0 0x09, first-send), lit< tt, λ j a m. elim (reverse_asks j a) [ inl e ↦ omega arith | inr e ↦ omega arith ]))
    (by_arrival 2 true [] None (inr (inr (inl (refl, refl, refl))))
    ((0, eight, datagram_with 1 0x08, second-send), lit< tt, λ j a m. elim (reverse_asks j a) [ inl e ↦ omega arith | inr e ↦ omega arith ]))
    (lit< tt)
    (hands_nine handed_out_in_reverse 5 first-send (inl (refl, refl, refl)))
    (2, own true 0 eight (datagram_with 1 0x08) second-send refl, true, said 0x08, [], None, None, inr (inl (refl, refl, refl))) in
    omega arith

-- of one send, entry 0
five_asks : (j : ℕ) → Asks five_times_on_the_line left j → j ≡ 0
five_asks j a =
    elim a.3 [
      | inl x ↦ absurd (true≢false (ap is_send x.2))
      | inr b ↦ elim b [
        | inl x ↦ absurd (true≢false (ap is_send x.2))
        | inr c ↦ elim c [
          | inl x ↦ absurd (true≢false (ap is_send x.2))
          | inr d ↦ elim d [
            | inl x ↦ absurd (true≢false (ap is_send x.2))
            | inr e ↦ elim e [ inl x ↦ x.0 | inr z ↦ absurd z ]
          ]
        ]
      ]
    ]

five_belongs : (k : ℕ) → 0 < k → Belongs five_times_on_the_line left 0 k
five_belongs k l = (
  (0, nine, datagram_with 0 0x09, inr (inr (inr (inr (inl (refl, refl, refl)))))),
  l,
  λ j a m. let e = five_asks j a in omega arith,
)

few_refutes : Few 4 five_times_on_the_line → ⊥
few_refutes l =
    let d : Octets = datagram_with 0 0x09 in
    let n : 5 ≤ 4 = l left 0 5 4
    (next 4 3
    (next 3 2
    (next 2 1
    (next 1 0
    (first true 0 nine d (inr (inr (inr (inr (inl (refl, refl, refl)))))) refl refl)
    (lit< tt) (1000, d, inr (inr (inr (inl (refl, refl, refl)))), five_belongs 1 (lit< tt)) refl)
    (lit< tt) (4000, d, inr (inr (inl (refl, refl, refl))), five_belongs 2 (lit< tt)) refl)
    (lit< tt) (7000, d, inr (inl (refl, refl, refl)), five_belongs 3 (lit< tt)) refl)
    (lit< tt) (10000, d, inl (refl, refl, refl), five_belongs 4 (lit< tt)) refl) in
    omega arith

given_up_belongs : (k : ℕ) → 0 < k → Belongs given_up_twice left 0 k
given_up_belongs k l = (
  (0, nine, datagram_with 0 0x09, inr (inr (inl (refl, refl, refl)))),
  l,
  λ j a m. elim a.3 [
    | inl x ↦ absurd (true≢false (ap is_send x.2))
    | inr b ↦ elim b [ inl x ↦ absurd (true≢false (ap is_send x.2)) | inr c ↦ elim c [ inl x ↦ (let e = x.0 in omega arith) | inr z ↦ absurd z ] ]
  ],
)

single_refutes : Single given_up_twice → ⊥
single_refutes l =
    let r = l left 0 1 2 unanswered unanswered
    (by_tick 10000 (inr (inl (refl, refl, refl))) refl (given_up_belongs 1 (lit< tt)))
    (by_tick 13000 (inl (refl, refl, refl)) refl (given_up_belongs 2 (lit< tt))) in
    let e : ◌≡◌ {A = ℕ} 1 2 = r.0 in
    omega arith

none_ends : (k : ℕ) (a : Act) → is_end a ≡ true → Does left_outstanding k left a → ⊥
none_ends k a t D =
    elim D [
      | inl x ↦ true≢false (sym t ∙ ap is_end x.2)
      | inr b ↦ elim b [
        | inl x ↦ true≢false (sym t ∙ ap is_end x.2)
        | inr c ↦ elim c [
          | inl x ↦ true≢false (sym t ∙ ap is_end x.2)
          | inr d ↦ elim d [
            | inl x ↦ true≢false (sym t ∙ ap is_end x.2)
            | inr e ↦ elim e [ inl x ↦ true≢false (sym t ∙ ap is_end x.2) | inr z ↦ z ]
          ]
        ]
      ]
    ]

not_ended : (i k : ℕ) (o : Outcome) → Ends left_outstanding left i k o → ⊥
not_ended i k o (by_tick t D e B) = none_ends k _ refl D
not_ended i k o (by_arrival m f ps r D B) = none_ends k _ refl D

settled_refutes : Settled 4 3000 left_outstanding → ⊥
settled_refutes l =
    let r = l left 0 4 12000
    (then 3 3 9000 let_be
    (then 2 2 6000 let_be
    (then 1 1 3000 let_be
    (then 0 0 0 let_be
    (start nine (datagram_with 0 0x09) (inr (inr (inr (inr (inl (refl, refl, refl)))))) refl refl)
    (lit< tt) (inr (inr (inr (inl (refl, refl, refl))))) (lit≤ tt) refl)
    (lit< tt) (inr (inr (inl (refl, refl, refl)))) (lit≤ tt) refl)
    (lit< tt) (inr (inl (refl, refl, refl))) (lit≤ tt) refl)
    (lit< tt) (inl (refl, refl, refl)) (lit≤ tt) refl) in
    not_ended 0 r.0 r.1 r.2

pub each_part_refutes : EachPartRefutes 4 3000
each_part_refutes =
    record {
      once = once_refutes;
      whole = whole_refutes;
      after = after_refutes;
      in_order = in_order_refutes;
      few = few_refutes;
      single = single_refutes;
      settled = settled_refutes;
    }
