use Rattle.std.proofs.Common.{ap}
use Rattle.check_beats.specs.State.{AskBegun, ask_begun}
use Rattle.check_beats.proofs.asking.Asking.so_far.Goals as goal

pub op_of-requires : goal.op_of-requires
op_of-requires c =
    let i = c.self.inside in
    let begun : AskBegun = record { first = c.in-Some.first; beats = i.beats; bytes = i.bytes; spoiled = i.marks } in
    (c.self.invariant.of begun (ap (λ f. ask_begun f i.beats i.bytes i.marks) c.in-Some.is)).formed

pub new-requires : goal.new-requires
new-requires c =
    let i = c.self.inside in
    let begun : AskBegun = record { first = c.in-Some.first; beats = i.beats; bytes = i.bytes; spoiled = i.marks } in
    (c.self.invariant.of begun (ap (λ f. ask_begun f i.beats i.bytes i.marks) c.in-Some.is)).formed.in_limit
