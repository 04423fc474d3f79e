-- No master so far has the source.
use Rattle.std.proofs.Common.{◌≡◌, drop}
use Rattle.check_rows.specs.PortNumbers.{source_among}
use Rattle.check_rows.proofs.port_numbers.PortNumbers.source.Given as goal

abbrev pub invariant-loop-place : goal.invariant-loop-place
invariant-loop-place l =
    source_among (drop l.place-index l.fn.self.places.items) l.here ≡ source_among l.fn.self.places.items l.here
