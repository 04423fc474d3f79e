-- The cell of the identifier was put, or its entry at its bytes.
use Rattle.std.proofs.Common.{refl}
use Rattle.check_vcd.proofs.CodeLemmas.{put-cell, put-hashed}
use Rattle.check_vcd.proofs.codes.Codes.put.Goals as goal

pub returns-in-Some : goal.returns-in-Some
returns-in-Some c = λ other.
    put-cell c.args.self.now.short.items c.in-Some.place c.args.coded c.args.code.now other _ c.in-Some.ensures.some
    c.in-Some.ensures.inside

pub returns : goal.returns
returns c = λ other.
    let copy = c.in_ok-from_slice.field-0 in
    let same = c.in_ok-from_slice.ensures.items in
    let none = c.in_default.ensures.none refl in
    rw same at (put-hashed (λ k. k.items) c.args.self.now.short.items copy.items c.args.self.now.known c.insert.new.self
    c.args.coded (rw (← same) at none) c.in_ok-insert.ensures.updates other)
