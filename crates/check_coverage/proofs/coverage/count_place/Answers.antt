-- The range, and its ends.
use Rattle.std.proofs.Common.{List, false, true, [], ◌∷◌, ◌++◌, Option, sym, subst}
use Rattle.std.specs.Prelude.{OnOk, if◌then◌else◌}
use Rattle.check_bins.specs.declared.bin.Bin.{Bin}
use Rattle.check_bins.specs.declared.bin.Bin.TheVariants as bin
use Rattle.check_coverage.specs.declared.ranges.RangePlace.{RangePlace}
use Rattle.check_coverage.specs.Bins.{place_bins}
use Rattle.check_bins.specs.Counting.{Adds}
use Rattle.check_bins.proofs.Counted.{adds_ok}
use Rattle.check_coverage.proofs.coverage.count_place.Goals as goal

pub returns-in_ok-add_if-in-Some : goal.returns-in_ok-add_if-in-Some
returns-in_ok-add_if-in-Some c =
    let place = c.in-Some.place in
    let port = c.args.port in
    let range : List Bin = bin.Range port place.number ∷ [] in
    let first : List Bin = if place.has_first then bin.Edge port place.number false ∷ [] else [] in
    let last : List Bin = if place.has_last then bin.Edge port place.number true ∷ [] else [] in
    subst (λ (o : Option RangePlace). OnOk c.add_if-in-Some.result
    (Adds c.args.counts.now c.add_if-in-Some.new.self (place_bins port o))) (sym c.in-Some.is)
    (adds_ok c.args.counts.now c.add.new.self c.add_if-in-Some.new.self range (first ++ last) c.add_if-in-Some.result
    c.in_ok-add-in-Some.ensures
    (adds_ok c.add.new.self c.add_if.new.self c.add_if-in-Some.new.self first last c.add_if-in-Some.result
    c.in_ok-add_if-in-Some.ensures c.add_if-in-Some.ensures))
