use Rattle.std.proofs.Common.{◌≡◌, ◌/◌, ◌≤◌, [], ◌∷◌, ◌++◌, length, arith}
use Rattle.check_memory.proofs.Sheets.{filled_sheet}
use Rattle.check_memory.proofs.slots.make_room.Goals as goal

pub returns-clause-filled : goal.returns-clause-filled
returns-clause-filled c =
    let sheets = c.args.sheets.now.items in
    let pushed : c.push.new.self.items ≡ sheets ++ c.in_ok-sheet.sheet ∷ [] = c.in_ok-push.ensures.items in
    let full : length sheets ≤ c.args.used / 8 = omega (arith, c.if-used-len.false, c.len.ensures) in
    rw pushed (filled_sheet c.args.used sheets c.in_ok-sheet.sheet c.args.known c.requires c.in_ok-sheet.ensures full)
