-- What is taken out of a datagram's payloads, as searches of a list. Assumes nothing.
use Rattle.std.proofs.Common.{◌≡◌, ℕ, Bool, true, false, cond, List, [], ◌∷◌, ◌++◌, map, Some, None, Option, refl, ap}
use Rattle.std.specs.List.{filter, filter_map, slice_get, cons_option}
use Rattle.datagram.specs.Payloads.{Payload}
use Rattle.datagram.specs.Structures.{Content, call_message, i_am_alive, ack, nack, non_standard, unsupported}
use Rattle.writer.specs.Bodies.{living}
use Rattle.endpoint.specs.Arrives.{handed_out}
use Rattle.endpoint.specs.Parts.{echoed}
use Rattle.endpoint.specs.Replies.{or_else, unsupported_in, first_unsupported, cookie_asked, cookies_asked, outcome_in, decided}
use Rattle.endpoint.specs.Sends.{is_message}

first_or : {X : Type 0} (o : Option X) (xs : List X) → or_else o (slice_get xs 0) ≡ slice_get (cons_option o xs) 0
first_or None xs = refl
first_or (Some x) xs = refl

pub decided_first : (n : ℕ) (ps : List Payload) → decided n ps ≡ slice_get (filter_map (λ p. outcome_in n p.content) ps) 0
decided_first n [] = refl
decided_first n (p ∷ ps) = rw (decided_first n ps) (first_or (outcome_in n p.content) (filter_map (λ q. outcome_in n q.content) ps))

pub unsupported_first : (ps : List Payload) → first_unsupported ps ≡ slice_get (filter_map (λ p. unsupported_in p.content) ps) 0
unsupported_first [] = refl
unsupported_first (p ∷ ps) = rw (unsupported_first ps) (first_or (unsupported_in p.content) (filter_map (λ q. unsupported_in q.content) ps))

pub handed_filter : (ps : List Payload) → handed_out ps ≡ filter (λ p. is_message p.content) ps
handed_filter [] = refl
handed_filter (p ∷ ps) = rw (handed_filter ps) refl

one_echo : (c : Content) (es : List Content) (ks : List (Option (List ℕ))) → map living ks ≡ es → map living (cookie_asked c ++ ks) ≡ cons_option (echoed c) es
one_echo (call_message x) es ks e = e
one_echo (i_am_alive a) es ks e = asked a.wants_reply
  where
    asked : (b : Bool) → map living (cond b (a.cookie ∷ []) [] ++ ks) ≡ cons_option (cond b (Some (living a.cookie)) None) es
    asked true = ap (λ l. living a.cookie ∷ l) e
    asked false = e
one_echo (ack ns) es ks e = e
one_echo (nack ns) es ks e = e
one_echo (non_standard s) es ks e = e
one_echo (unsupported t x) es ks e = e

pub echoes_filter : (ps : List Payload) → map living (cookies_asked ps) ≡ filter_map (λ p. echoed p.content) ps
echoes_filter [] = refl
echoes_filter (p ∷ ps) = one_echo p.content (filter_map (λ q. echoed q.content) ps) (cookies_asked ps) (echoes_filter ps)
