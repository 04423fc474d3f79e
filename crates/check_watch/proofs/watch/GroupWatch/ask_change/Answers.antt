-- What a beat of a request does.
use Rattle.std.proofs.Common.{◌∙◌, ap, sym}
use Rattle.check_beats.specs.State.{Under}
use Rattle.check_watch.proofs.Changes.{ask_begins, ask_goes_on, ask_has_source, under_is}
use Rattle.check_watch.proofs.watch.GroupWatch.ask_change.Goals as goal

pub returns-then-not-begins_ask-clause-change : goal.returns-then-not-begins_ask-clause-change
returns-then-not-begins_ask-clause-change c plan past known lanes keeps lawful =
    ask_goes_on plan past c.args.link known lanes c.args.beat.now lawful (λ none.
    let under = under_is plan past c.args.self.now c.args.link keeps in
    let begins = c.begins_ask.ensures.1
    (ap (λ (u : Under). u.asking) (c.link.ensures ∙ under) ∙ none) in
    let goes_on = c.if-not-begins_ask.true in absurd (cc))

pub returns-in-Some-clause-change : goal.returns-in-Some-clause-change
returns-in-Some-clause-change c plan past known lanes keeps lawful =
    let under = under_is plan past c.args.self.now c.args.link keeps in
    ask_begins plan past c.args.link known lanes c.args.beat.now lawful c.args.self.now c.in-Some.origin keeps.suits
    (sym (ap (λ (u : Under). u.asking) (c.link.ensures ∙ under)) ∙ c.begins_ask.ensures.0 c.if-not-begins_ask.false)
    c.in-Some.ensures.some

pub returns-in-None-clause-change : goal.returns-in-None-clause-change
returns-in-None-clause-change c plan past known lanes keeps lawful =
    absurd (ask_has_source plan past c.args.link known lanes c.args.beat.now lawful c.args.self.now keeps.suits
    c.in-None.ensures.none)
