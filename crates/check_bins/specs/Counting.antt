-- How often bins occur. This project's own.
use Rattle.std.specs.Prelude.{◌≡◌, ℕ, ◌+◌, ◌^◌, ◌-◌, if◌then◌else◌, min, List, [], ◌∷◌, unwrap_or}
use Rattle.std.specs.Ordering.{is_eq}
use Rattle.std.specs.BTreeMap.{get}
use Rattle.std.specs.declared.cmp.Ordering.{Ordering}
use Rattle.check_bins.specs.contracts.bin.BinOrd.TheImpl as bin_ord
use Rattle.check_bins.specs.declared.bin.Bin.{Bin}
use Rattle.check_bins.specs.declared.counts.Counts.{Counts}

-- the order of bins
unfoldable pub bin_cmp : Bin → Bin → Ordering
bin_cmp = (bin_ord.ghosts).cmp

-- how often a bin is among these
abbrev pub how_often : Bin → List Bin → ℕ
how_often bin [] = 0
how_often bin (other ∷ rest) = if is_eq (bin_cmp other bin) then how_often bin rest + 1 else how_often bin rest

-- the count of a bin
abbrev pub count_of : Counts → Bin → ℕ
count_of counts bin = unwrap_or (get bin_cmp counts.counts bin) 0

-- a count stops there
abbrev pub capped : ℕ → ℕ
capped count = min count (2 ^ 64 - 1)

-- these bins were counted: of each bin that occurred so often before, how often it occurred then
abbrev pub Adds : Counts → Counts → List Bin → Type 0
Adds old new bins =
    (bin : Bin) (before : ℕ) → count_of old bin ≡ capped before
    → count_of new bin ≡ capped (before + how_often bin bins)

-- so often each bin occurred that is among these, up to 2 ^ 64 - 1
abbrev pub AreCounted : Counts → List Bin → Type 0
AreCounted counts all = (bin : Bin) → count_of counts bin ≡ capped (how_often bin all)
