use Rattle.std.proofs.Common.{arith, ◌≡◌, ◌∙◌, ◌+◌, ◌-◌, ◌%◌, ◌^◌, ◌≤◌, true, take, drop, refl, ap}
use Rattle.tl_types.specs.Operation.{reply_op_of, reply_carries_bytes}
use Rattle.tl_ops.specs.Store.{Store, legal, window, shown}
use Rattle.tl_ops.proofs.Kept.{StandsIn-from_legal, small_from_legal, FitsWords-from_aligned, window_read, answered}
use Rattle.tl_ops.proofs.bank.Bank.answer_legal.Goals as goal

pub tell-requires-clause-fits : goal.tell-requires-clause-fits
tell-requires-clause-fits c =
    let ask = c.args.ask.now in
    let legal_here : legal c.args.self.now ask ≡ true = c.requires in
    let stands = StandsIn-from_legal c.args.self.now ask legal_here in
    let from : c.self.inside.base ≤ ask.address =
    omega (arith, stands.from, ap (λ (s : Store). s.base) c.self.view_is) in
    rw (c.first_lane.ensures, c.address.ensures)
    (FitsWords-from_aligned c.self.inside.base ask.address ask.size
    (small_from_legal c.args.self.now ask legal_here) from stands.aligned)

pub returns-then-carries_bytes : goal.returns-then-carries_bytes
returns-then-carries_bytes c =
    let ask = c.args.ask.now in
    let inside = c.self.inside in
    let legal_here : legal c.args.self.now ask ≡ true = c.requires in
    let start = inside.base % 8 + (ask.address - inside.base) in
    let made = rw (c.first_lane.ensures, c.address.ensures) at c.tell.ensures in
    let window_is = window_read inside.kind inside.base inside.len inside.lanes ask c.self.invariant
    (ap (λ (s : Store). legal s ask) c.self.view_is ∙ legal_here) in
    let carries : reply_carries_bytes (reply_op_of ask.op) ≡ true =
    rw (← c.op.ensures, ← c.reply_op.ensures, ← c.carries_bytes.ensures) c.if-carries_bytes.true in
    let shows : window c.args.self.now ask ≡ shown (reply_op_of ask.op) (window c.args.self.now ask) =
    rw carries refl in
    answered c.args.self.now ask c.tell.new.answer (take (2 ^ ask.size) (drop start inside.lanes)) legal_here made
    (window_is ∙ ap (λ (s : Store). window s ask) c.self.view_is ∙ shows)
