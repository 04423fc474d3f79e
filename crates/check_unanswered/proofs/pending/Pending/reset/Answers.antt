-- Both tables are cleared.
use Rattle.std.proofs.Common.{arith}
use Rattle.std.proofs.lemmas.Grind.{common_steps}
use Rattle.check_unanswered.proofs.Kept.{holds_reset}
use Rattle.check_unanswered.proofs.pending.Pending.reset.Goals as goal

pub returns : goal.returns
returns c plan later rows layout holds =
    holds_reset plan later rows c.args.self.now _ layout holds (grind (arith, common_steps))
