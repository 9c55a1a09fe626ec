-- Pieces put at the mark, one behind the other, and the entries of a Nack as the code holds them. Assumes nothing.
use Rattle.std.specs.Prelude.{◌≡◌, ℕ, ◌+◌, min, Bool, List, ◌++◌, length, take, drop, None, Option}
use Rattle.datagram.specs.declared.structure.nack.Entry.{Entry}
use Rattle.datagram.specs.Views.{entry_says}
use Rattle.writer.specs.declared.marks.Begun.{Begun}
use Rattle.writer.specs.declared.marks.Marks.{Marks}
use Rattle.writer.specs.declared.refusal.Found.TheVariants.{NoRoom, OutsideField}
use Rattle.writer.specs.declared.refusal.Refusal.{Refusal}
use Rattle.writer.specs.Drafts.{moved_by, draft_of, grown, first_of, fits}
use Rattle.writer.specs.Refusals.{refused_at}
use Rattle.writer.specs.Values.{octets_of_entry, entry_within}

-- octets written at the mark
pub record Put (b : List ℕ) (m : Marks) (x b' : List ℕ) (m' : Marks) : Type 0 where
  pub moves : m' ≡ moved_by m (length x)
  pub fills : take (m.mark + length x) b' ≡ take m.mark b ++ x
  pub rest : drop (m.mark + length x) b' ≡ drop (m.mark + length x) b
  pub long : length b' ≡ length b

-- octets put by the guard of a payload, which stays over the same buffer and marks, and has the same marks to put back
pub record Puts (g : Begun) (x : List ℕ) (g' : Begun) : Type 0 where
  pub same_buffer : g'.buffer.ghost_name ≡ g.buffer.ghost_name
  pub same_marks : g'.marks.ghost_name ≡ g.marks.ghost_name
  pub same_before : g'.before ≡ g.before
  pub put : Put g.buffer.now g.marks.now x g'.buffer.now g'.marks.now

-- a size that is exact wherever it fits a datagram
abbrev pub Measures : ℕ → ℕ → Type 0
Measures n size = min 1025 n ≡ min 1025 size

abbrev pub said_octets : Entry → List ℕ
said_octets e = octets_of_entry (entry_says e)

abbrev pub said_within : Entry → Bool
said_within e = entry_within (entry_says e)

-- what there is against a payload with n octets of data, of a type that is written
abbrev pub against_data : Marks → ℕ → ℕ → Bool → Option Refusal
against_data m room n inside =
    first_of (fits m room n) (refused_at m.mark NoRoom)
    (first_of inside (refused_at m.mark OutsideField) None)

-- a payload of type t was added with all its octets x, and no octet behind it changed
pub record Grows (b : List ℕ) (m : Marks) (t : ℕ) (x b' : List ℕ) (m' : Marks) : Type 0 where
  pub leaves : draft_of b' m' ≡ grown (draft_of b m) t x
  pub beyond : drop m'.mark b' ≡ drop m'.mark b
