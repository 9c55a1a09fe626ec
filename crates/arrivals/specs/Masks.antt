-- What the mask book's windows mean.
use Rattle.std.specs.Prelude.{ℕ, ◌/◌, ◌%◌, ◌^◌, Bool, ◌==◌}
use Rattle.arrivals.specs.Meaning.{Seen}
use Rattle.arrivals.specs.Windows.{window}
use Rattle.arrivals.specs.declared.mask.MaskWindow.{MaskWindow}

unfoldable pub bit : ℕ → ℕ → Bool
bit bits j = bits / 2 ^ j % 2 == 1

abbrev pub mask_seen : MaskWindow → Seen
mask_seen m = window 64 m.newest.value (bit m.bits)
