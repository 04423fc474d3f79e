use Rattle.std.proofs.Common.{◌≡◌, ◌∙◌, List, ◌++◌, length, map, take, drop, ap}
use Rattle.std.proofs.lemmas.List.{take_at, length-map}
use Rattle.tl_types.specs.Request.{Request}
use Rattle.check_contests.specs.Contests.{Accepted, due_of, slave_accepting, entry_accepting}
use Rattle.check_contests.proofs.Beside.{kept_then}
use Rattle.check_contests.proofs.contests.Contests.accept.Goals as goal

pub returns-clause-kept : goal.returns-clause-kept
returns-clause-kept c =
    let slave = c.args.slave.now in
    let kept = c.args.self.now in
    let sent = c.args.sent.now in
    let ask = c.ask-ask.result.now in
    let after = c.serve.new.slave in
    let left = c.hide_new.new.kept in
    let before : c.reserve.new.self.items ≡ kept = c.in_ok-reserve.ensures.items ∙ c.self.view_is in
    let mapped : left ≡ map (entry_accepting after sent.ask) kept =
    c.hide_new.ensures ∙ ap (map (entry_accepting after ask)) (c.as_mut_slice.ensures.value ∙ before)
    ∙ ap (λ (x : Request). map (entry_accepting after x) kept) c.ask-ask.ensures in
    let long : length left ≡ c.reserve.new.self.len =
    ap length c.hide_new.ensures ∙ length-map c.as_mut_slice.result.now (entry_accepting after ask)
    ∙ c.as_mut_slice.ensures.len in
    let items = take c.reserve.new.self.len (left ++ drop (length left) c.reserve.new.self.items) in
    let served : after ≡ slave_accepting slave kept sent =
    c.in_ok-serve.ensures.after
    ∙ ap (λ (es : List Accepted). slave_accepting slave es sent) (c.as_slice.ensures.value ∙ before) in
    let due : c.serve.new.due ≡ due_of slave kept sent =
    c.in_ok-serve.ensures.due ∙ ap (λ (es : List Accepted). due_of slave es sent) (c.as_slice.ensures.value ∙ before) in
    kept_then slave after kept items c.push_reserved.new.self.items c.args.wide c.args.index sent c.copy.result
    c.serve.new.due served
    (take_at left (drop (length left) c.reserve.new.self.items) c.reserve.new.self.len long ∙ mapped)
    due (c.copy.ensures ∙ c.ask-ask.ensures) c.push_reserved.ensures.items
