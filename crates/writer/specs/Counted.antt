-- What an Ack and a Nack count. Assumes nothing.
use Rattle.std.specs.Prelude.{◌≡◌, ℕ, Bool, ◌&&◌, List, map, length, nat_lt}
use Rattle.std.specs.List.{flat_map}
use Rattle.std.proofs.Common.{refl, ap, ◌∙◌}
use Rattle.std.proofs.lemmas.List.{length-map}
use Rattle.std.proofs.lemmas.List.Folds.{flat_map-map, list_all-map}
use Rattle.datagram.specs.declared.structure.nack.Entry.{Entry}
use Rattle.datagram.specs.Layout.{octets24, counted_octets}
use Rattle.datagram.specs.Structures.{Content, ack, nack, type_of}
use Rattle.datagram.specs.Views.{entry_says}
use Rattle.datagram.specs.declared.kind.Kind.{Kind}
use Rattle.datagram.specs.declared.kind.Kind.TheVariants as kind
use Rattle.datagram.specs.Kinds.{number_of}
use Rattle.writer.specs.Pieces.{said_octets, said_within}
use Rattle.writer.specs.Values.{octets_of_entry, entry_within, every, is_number, data_of, content_within}

-- a content that counts elements with these octets, each within its fields or not, and goes in a payload of a kind
pub record Counts {X : Type 0} (k : Kind) (octets : X → List ℕ) (inside : X → Bool) (xs : List X) (c : Content) : Type 0 where
  pub kind : type_of c ≡ number_of k
  pub «data» : data_of c ≡ counted_octets (length xs) (flat_map octets xs)
  pub within : content_within c ≡ (nat_lt (length xs) 128 && every inside xs)

pub ack_counts : (ns : List ℕ) → Counts kind.Ack octets24 is_number ns (ack ns)
ack_counts ns = record { kind = refl; «data» = refl; within = refl }

pub nack_counts : (es : List Entry) → Counts kind.Nack said_octets said_within es (nack (map entry_says es))
nack_counts es = record {
  kind = refl;
  «data» = ap (λ n. counted_octets n (flat_map octets_of_entry (map entry_says es))) (length-map es entry_says) ∙ ap (counted_octets (length es)) (flat_map-map octets_of_entry entry_says es);
  within = ap (λ n. nat_lt n 128 && every entry_within (map entry_says es)) (length-map es entry_says) ∙ ap (λ b. nat_lt (length es) 128 && b) (list_all-map entry_within entry_says es);
}
