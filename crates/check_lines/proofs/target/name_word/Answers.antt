use Rattle.std.proofs.Common.{◌∙◌}
use Rattle.check_lines.proofs.Naming.{named, unnamed}
use Rattle.check_lines.proofs.target.name_word.Goals as goal

pub returns-in-Ok : goal.returns-in-Ok
returns-in-Ok c = c.word.ensures ∙ named c.in-Ok.op c.args.opcode c.args.param c.in-Ok.ensures.ok

pub returns-in-Err : goal.returns-in-Err
returns-in-Err c = unnamed c.args.opcode c.args.param (λ op is. let read = c.in-Err.ensures.all op is in absurd (cc))
