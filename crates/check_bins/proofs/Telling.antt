-- The text of counts: its head line, and those of all bins.
use Rattle.std.proofs.Common.{◌≡◌, ◌∙◌, ℕ, List, ◌++◌, ap, append_assoc}
use Rattle.std.specs.Prelude.{codes, flat_map, Result, Ok, Err, OnErr, OnOk}
use Rattle.std.specs.BTreeMap.{IsOrdered}
use Rattle.check_bins.specs.declared.bin.Bin.{Bin}
use Rattle.check_bins.specs.declared.counts.Counts.{Counts}
use Rattle.check_bins.specs.Counting.{AreCounted, bin_cmp}
use Rattle.check_bins.specs.Text.{TellsCoverage, bin_line}

-- what holds, holds if there is an error
pub on_err : {T E : Type 0} {P : Type 0} (r : Result T E) → P → OnErr r P
on_err (Ok done) holds = tt
on_err (Err fault) holds = holds

pub counts_told : {E : Type 0} (counts : Counts) (all : List Bin) (ports : ℕ) (old mid new : List ℕ)
    (r : Result (Unit {0}) E) → AreCounted counts all → mid ≡ old ++ codes "coverage 2\n"
    → OnOk r (new ≡ mid ++ flat_map (bin_line ports) counts.counts.entries) → OnOk r (IsOrdered bin_cmp counts.counts)
    → OnOk r (TellsCoverage ports all old new)
counts_told counts all ports old mid new (Err fault) counted head told ordered = tt
counts_told counts all ports old mid new (Ok done) counted head told ordered = record {
  entries = counts.counts.entries;
  is = told
      ∙ ap (λ (t : List ℕ). t ++ flat_map (bin_line ports) counts.counts.entries) head
      ∙ append_assoc old (codes "coverage 2\n") (flat_map (bin_line ports) counts.counts.entries);
  sorted = ordered;
  some = counts.some;
  counts = counted;
}
