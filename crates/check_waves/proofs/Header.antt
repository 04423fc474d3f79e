-- The lines that are written beside rows: the header has the columns' names.
use Rattle.std.proofs.Common.{◌≡◌, refl}
use Rattle.check_rows.specs.Column.{header_line}
use Rattle.check_waves.specs.Out.{cut_line}
use Rattle.check_waves.specs.declared.engine.TheConstants.{CUT, HEADER}

pub header_is : HEADER.now ≡ header_line
header_is = refl

pub cut_is : CUT.now ≡ cut_line
cut_is = refl
