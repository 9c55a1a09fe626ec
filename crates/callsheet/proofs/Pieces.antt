-- What was written piece by piece is the text that the definitions make. Assumes nothing.
use Rattle.std.proofs.Common.{◌≡◌, ℕ, List, [], ◌∷◌, ◌++◌, length, codes, decimal, sym, ap, ◌∙◌, append_assoc, append-nil, Result, OnOk}
use Rattle.std.proofs.lemmas.Result.{on_ok_weaker}
use Rattle.std.specs.Fmt.{HasWritten}
use Rattle.std.specs.declared.fmt.Formatter.{Formatter}
use Rattle.datagram.specs.Payloads.{Payload}
use Rattle.datagram.specs.Structures.{type_of}
use Rattle.callsheet.specs.Text.{payload_lines}

-- from f to g some of the lines of ps were written, and those of qs are still to come
pub record Ahead {W : Type 0} (took : W → List ℕ → W → Type 0) (f : Formatter W) (front : List ℕ) (ps : List Payload) (g : Formatter W) (qs : List Payload) : Type 0 where
  pub written : List ℕ
  pub wrote : HasWritten took f written g
  pub all : written ++ payload_lines front qs ≡ payload_lines front ps

-- what std writes of one line, with its numbers k, v and l of type, CRV and LENGTH
pub line_more : (front w : List ℕ) (k v l : ℕ) (ps : List Payload) {qs rs : List Payload} (p : Payload) → qs ≡ p ∷ rs → k ≡ type_of p.content → v ≡ p.crv → l ≡ length p.octets
    → w ++ payload_lines front qs ≡ payload_lines front ps
    → (w ++ (front ++ (decimal k ++ (codes " " ++ (decimal v ++ (codes " " ++ (decimal l ++ codes "\n"))))))) ++ payload_lines front rs ≡ payload_lines front ps
line_more front w k v l ps {qs} {rs} p t ik iv il h = rw (ik, iv, il) (simp append_assoc (simp append_assoc at (ap (λ xs. w ++ payload_lines front xs) (sym t) ∙ h)))

pub no_more_lines : (front w : List ℕ) (ps : List Payload) {qs : List Payload} → qs ≡ [] → w ++ payload_lines front qs ≡ payload_lines front ps → w ≡ payload_lines front ps
no_more_lines front w ps {qs} t h = sym (append-nil w) ∙ ap (λ xs. w ++ payload_lines front xs) (sym t) ∙ h

-- one piece was added, and then, where there was memory, another
pub further_on_ok : {T E : Type 0} (r : Result T E) (t t₁ t₂ a b : List ℕ) → t₁ ≡ t ++ a → OnOk r (t₂ ≡ t₁ ++ b) → OnOk r (t₂ ≡ t ++ (a ++ b))
further_on_ok r t t₁ t₂ a b x y = on_ok_weaker r (λ e. e ∙ ap (λ u. u ++ b) x ∙ append_assoc t a b) y
