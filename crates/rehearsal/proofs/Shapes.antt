-- Lines with too few words, or too many. Assumes nothing.
use Rattle.std.proofs.Common.{◌≡◌, ℕ, ◌<◌, List, [], ◌∷◌, length, None, arith, refl}
use Rattle.rehearsal.specs.Reading.{texts}
use Rattle.rehearsal.specs.Orders.{enrol_in, send_in, hear_in, turn_in, setup_in}
use Rattle.rehearsal.specs.Words.{Text}
use denote.Ref.{Bor}

pub no_hear : (ws : List (Bor Text)) → length ws < 3 → None ≡ hear_in (texts ws)
no_hear [] h = refl
no_hear (a ∷ []) h = refl
no_hear (a ∷ b ∷ []) h = refl
no_hear (a ∷ b ∷ c ∷ ws) h = absurd (omega arith)

pub no_send : (ws : List (Bor Text)) → length ws < 4 → None ≡ send_in (texts ws)
no_send [] h = refl
no_send (a ∷ []) h = refl
no_send (a ∷ b ∷ []) h = refl
no_send (a ∷ b ∷ c ∷ []) h = refl
no_send (a ∷ b ∷ c ∷ d ∷ ws) h = absurd (omega arith)

pub few_enrol : (ws : List (Bor Text)) → length ws < 4 → None ≡ enrol_in (texts ws)
few_enrol [] h = refl
few_enrol (a ∷ []) h = refl
few_enrol (a ∷ b ∷ []) h = refl
few_enrol (a ∷ b ∷ c ∷ []) h = refl
few_enrol (a ∷ b ∷ c ∷ d ∷ ws) h = absurd (omega arith)

pub many_enrol : (ws : List (Bor Text)) → 4 < length ws → None ≡ enrol_in (texts ws)
many_enrol [] h = absurd (omega arith)
many_enrol (a ∷ []) h = absurd (omega arith)
many_enrol (a ∷ b ∷ []) h = absurd (omega arith)
many_enrol (a ∷ b ∷ c ∷ []) h = absurd (omega arith)
many_enrol (a ∷ b ∷ c ∷ d ∷ []) h = absurd (omega arith)
many_enrol (a ∷ b ∷ c ∷ d ∷ e ∷ ws) h = refl

pub few_setup : (name : Text) (line : ℕ) (ws : List (Bor Text)) → length ws < 4 → None ≡ setup_in name line (texts ws)
few_setup name line [] h = refl
few_setup name line (a ∷ []) h = refl
few_setup name line (a ∷ b ∷ []) h = refl
few_setup name line (a ∷ b ∷ c ∷ []) h = refl
few_setup name line (a ∷ b ∷ c ∷ d ∷ ws) h = absurd (omega arith)

pub many_setup : (name : Text) (line : ℕ) (ws : List (Bor Text)) → 4 < length ws → None ≡ setup_in name line (texts ws)
many_setup name line [] h = absurd (omega arith)
many_setup name line (a ∷ []) h = absurd (omega arith)
many_setup name line (a ∷ b ∷ []) h = absurd (omega arith)
many_setup name line (a ∷ b ∷ c ∷ []) h = absurd (omega arith)
many_setup name line (a ∷ b ∷ c ∷ d ∷ []) h = absurd (omega arith)
many_setup name line (a ∷ b ∷ c ∷ d ∷ e ∷ ws) h = refl

pub no_turn : (ws : List (Bor Text)) → length ws < 2 → None ≡ turn_in (texts ws)
no_turn [] h = refl
no_turn (a ∷ []) h = refl
no_turn (a ∷ b ∷ ws) h = absurd (omega arith)
