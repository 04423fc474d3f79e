-- The values that are kept. This project's own.
use Rattle.std.specs.Prelude.{ℕ, List, [], ◌∷◌, ◌++◌, map}
use Rattle.check_samples.specs.Slot.{before_of}
use Rattle.check_samples.specs.declared.values.Values.{Values}

-- what they were before the present time.
abbrev pub kept_before : Values → List (List ℕ)
kept_before values = map (before_of values.times) values.slots.items

-- what they were before the present time, and behind them what is put together of their parts.
abbrev pub all_before : Values → List (List ℕ)
all_before values = kept_before values ++ (values.joined.items ∷ [])

-- what they are at the present time, without what is put together of their parts.
abbrev pub all_now : Values → List (List ℕ)
all_now values = map (λ slot. slot.digits.items) values.slots.items

-- how many bits each has.
abbrev pub all_widths : Values → List ℕ
all_widths values = map (λ slot. slot.width) values.slots.items
