-- What was written so far, appended to what there was.
use Rattle.std.proofs.Common.{codes}
use Rattle.std.specs.Fmt.{decimal}
use Rattle.std.proofs.lemmas.Result.{on_ok_weaker}
use Rattle.check_lines.proofs.Joined.{two_fields}
use Rattle.check_lines.proofs.left.push_began.Goals as goal

pub returns-clause-ok : goal.returns-clause-ok
returns-clause-ok c =
    let began = c.args.began.now in
    on_ok_weaker c.push_field-2.result
    (two_fields c.args.text.now.items (codes " requests without reply, the first: line ") (decimal began.line)
    (codes ", time ") (decimal began.time) _ _ c.in_ok-push_field.ensures.ok)
    c.push_field-2.ensures.ok
