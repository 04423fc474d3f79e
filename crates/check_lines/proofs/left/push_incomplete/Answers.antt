-- What was written so far, appended to what there was.
use Rattle.std.proofs.Common.{[], ◌∷◌, codes}
use Rattle.std.specs.Fmt.{decimal}
use Rattle.check_lines.specs.Verdict.{asked_text, began_text, incomplete_line, owner_text}
use Rattle.check_lines.proofs.Joined.{field_and_four}
use Rattle.check_lines.proofs.left.push_incomplete.Goals as goal

pub returns-clause-ok : goal.returns-clause-ok
unfolding incomplete_line
returns-clause-ok c =
    let left = c.args.left.now in
    field_and_four c.args.text.now.items (codes "incomplete: ") (decimal left.requests) (began_text left.first.began)
    (owner_text left.first.origin) (asked_text left.first.began.beat) (10 ∷ []) _ _ _ _ _
    c.in_ok-push_field.ensures.ok c.in_ok-push_began.ensures.ok c.in_ok-push_owner.ensures.ok
    c.in_ok-push_asked.ensures.ok c.in_ok-push.ensures.items
