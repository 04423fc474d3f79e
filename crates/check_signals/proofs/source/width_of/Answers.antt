-- Before the first signal the width is 0, as if none had the identifier.
use Rattle.std.proofs.Common.{map}
use Rattle.check_vcd.specs.Header.{var_view}
use Rattle.check_signals.proofs.WidthLemmas.{from-zero}
use Rattle.check_signals.proofs.source.width_of.Goals as goal

pub loop-var-init : goal.loop-var-init
loop-var-init c = from-zero (map var_view c.args.vars.now) c.args.code.now
