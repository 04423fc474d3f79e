-- The lines so far, and those that are left, are all lines; and the text begins with what it was.
use Rattle.std.proofs.Common.{◌≡◌, ◌++◌}
use Rattle.std.specs.Prelude.{flat_map}
use Rattle.tl_text.specs.Text.{BeginsWith}
use Rattle.check_bins.specs.Text.{bin_line}
use Rattle.check_bins.proofs.counts.Counts.append_lines.Given as goal

abbrev pub invariant-loop-bin : goal.invariant-loop-bin
invariant-loop-bin l =
    (l.text.items ++ flat_map (bin_line l.ports) l.bin-iterator
    ≡ l.initial.text.items ++ flat_map (bin_line l.ports) l.self.counts.entries)
    × BeginsWith l.initial.text.items l.text.items
