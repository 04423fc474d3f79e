use Rattle.std.proofs.Common.{◌≡◌, ◌∙◌, ℕ, List, ◌++◌, codes, ap}
use Rattle.std.proofs.lemmas.List.{append_assoc}
use Rattle.std.proofs.lemmas.Result.{IfOk-equal}
use Rattle.check_lines.specs.Reply.{pattern_text}
use Rattle.check_lines.specs.Verdict.{wrong_text}
use Rattle.check_lines.proofs.verdict.push_wrong_reply.Goals as goal

joined : (text a one b other first : List ℕ) → first ≡ text ++ a ++ one
    → first ++ b ++ other ≡ text ++ (a ++ one ++ b ++ other)
joined text a one b other first is = ap (λ l. l ++ b ++ other) is ∙ simp append_assoc

pub returns-clause-ok : goal.returns-clause-ok
unfolding wrong_text
returns-clause-ok c =
    IfOk-equal c.push_words_and_reply-2.result c.push_words_and_reply-2.new.text.items _ _ c.push_words_and_reply-2.ensures.ok
    (joined c.args.text.now.items (codes "wrong reply: expected ") (pattern_text c.args.expected.now)
    (codes ", captured ") (pattern_text c.args.captured.now) c.push_words_and_reply.new.text.items
    c.in_ok-push_words_and_reply.ensures.ok)
