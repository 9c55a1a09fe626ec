-- What the words of a script are. Assumes nothing.
use Rattle.std.specs.Prelude.{ℕ, ◌+◌, ◌-◌, ◌*◌, Bool, true, false, cond, not, ◌&&◌, List, [], ◌∷◌, length, filter, map, Some, None, codes, Option, ◌==◌, nat_le}
use Rattle.std.specs.List.{before_first, after_first, list_all, slice_split}
use Rattle.std.specs.Str.{bytes_eq}
use denote.Ref.{Bor}
use Rattle.endpoint.specs.declared.peer.Peer.{Peer}
use Rattle.endpoint.specs.declared.peer.Role.{Role}
use Rattle.endpoint.specs.declared.peer.Role.TheVariants.{Master, Slave}
use Rattle.trunk.specs.Acts.{Octets, Side, left, right}
use Rattle.rehearsal.specs.declared.word.Book.{Book}
use Rattle.rehearsal.specs.declared.word.Book.TheVariants as book
use Rattle.rehearsal.specs.Words.{Text}

-- what stands before the first such sign, or all, and what behind it, or nothing
abbrev pub before : ℕ → Text → Text
before sign t = before_first (λ x. x == sign) t

abbrev pub behind : ℕ → Text → Text
behind sign t = after_first (λ x. x == sign) t

abbrev pub is_empty : Text → Bool
is_empty t = length t == 0

-- the words that references lead to
abbrev pub texts : List (Bor Text) → List Text
texts ws = map (λ w. w.now) ws

-- the words of a line: what spaces part, before the comment
abbrev pub words_in : Text → List Text
words_in line = filter (λ w. not (is_empty w)) (slice_split (λ x. x == 0x20) (before 0x23 line))

-- a digit from `0` to `9`
abbrev pub is_digit : ℕ → Bool
is_digit x = nat_le 48 x && nat_le x 57

-- the number that digits stand for, behind those that stand for n
abbrev pub value_behind : ℕ → Text → ℕ
value_behind n [] = n
value_behind n (x ∷ xs) = value_behind (n * 10 + (x - 48)) xs

abbrev pub value : Text → ℕ
value w = value_behind 0 w

abbrev pub is_number : Text → Bool
is_number w = not (is_empty w) && list_all is_digit w

abbrev pub number_up_to : ℕ → Text → Option ℕ
number_up_to most w = cond (is_number w && nat_le (value w) most) (Some (value w)) None

abbrev pub number_in : Text → Option ℕ
number_in w = number_up_to 18446744073709551615 w

-- four numbers up to 255 with points between, a colon, a number up to 65535
abbrev pub peer_of : Option ℕ → Option ℕ → Option ℕ → Option ℕ → Option ℕ → Option Peer
peer_of (Some a) (Some b) (Some c) (Some d) (Some port) = Some (record { address = a ∷ b ∷ c ∷ d ∷ []; port = port })
peer_of _ _ _ _ _ = None

abbrev pub peer_in : Text → Option Peer
peer_in w =
    let r1 : Text = behind 0x2E w in
    let r2 : Text = behind 0x2E r1 in
    let r3 : Text = behind 0x2E r2 in
    peer_of (number_up_to 255 (before 0x2E w)) (number_up_to 255 (before 0x2E r1)) (number_up_to 255 (before 0x2E r2)) (number_up_to 255 (before 0x3A r3)) (number_up_to 65535 (behind 0x3A r3))

abbrev pub role_in : Text → Option Role
role_in w = cond (bytes_eq w (codes "master")) (Some Master) (cond (bytes_eq w (codes "slave")) (Some Slave) None)

abbrev pub side_in : Text → Option Side
side_in w = cond (bytes_eq w (codes "left")) (Some left) (cond (bytes_eq w (codes "right")) (Some right) None)

abbrev pub book_in : Text → Option Book
book_in w = cond (bytes_eq w (codes "mask")) (Some book.Mask) (cond (bytes_eq w (codes "list")) (Some book.List) None)

abbrev pub want_in : Text → Option Bool
want_in w = cond (bytes_eq w (codes "ack")) (Some true) (cond (bytes_eq w (codes "plain")) (Some false) None)

-- a hexadecimal digit: 97 is `a`, and 65 is `A`
abbrev pub digit_in : ℕ → Option ℕ
digit_in x =
    cond (is_digit x) (Some (x - 48))
    (cond (nat_le 97 x && nat_le x 102) (Some (x - 87))
    (cond (nat_le 65 x && nat_le x 70) (Some (x - 55)) None))

-- an octet by its two digits
abbrev pub octet_of : Option ℕ → Option ℕ → Option ℕ
octet_of (Some h) (Some l) = Some (h * 16 + l)
octet_of _ _ = None

abbrev pub octet_in : ℕ → ℕ → Option ℕ
octet_in h l = octet_of (digit_in h) (digit_in l)

abbrev pub in_front : Option ℕ → Option Octets → Option Octets
in_front (Some x) (Some xs) = Some (x ∷ xs)
in_front _ _ = None

abbrev pub pairs_in : Text → Option Octets
pairs_in [] = Some []
pairs_in (h ∷ []) = None
pairs_in (h ∷ l ∷ more) = in_front (octet_in h l) (pairs_in more)

abbrev pub octets_in : Text → Option Octets
octets_in w = cond (bytes_eq w (codes "-")) (Some []) (pairs_in w)
