-- The table has the number of each.
use Rattle.std.proofs.Common.{◌∙◌, slice_index, ap}
use Rattle.check_rows.proofs.Digits.{code_at}
use Rattle.check_rows.specs.declared.digit.TheConstants.{CODES}
use Rattle.check_rows.proofs.digit.digit_code.Goals as goal

pub returns : goal.returns
returns c = ap (slice_index CODES) c.from.ensures ∙ code_at c.args.digit c.ranges.digit.fits
