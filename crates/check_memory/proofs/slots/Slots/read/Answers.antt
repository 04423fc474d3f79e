use Rattle.std.proofs.Common.{◌∙◌, ◌/◌, ◌<◌, length, take, drop, get_or, ap, arith, rules}
use Rattle.check_memory.specs.Paged.{Paged, blank_slot}
use Rattle.check_memory.proofs.Sheets.{in_sheets, in_numbers, sheet_long, slot_window}
use Rattle.check_memory.proofs.slots.Slots.read.Goals as goal

pub index-sheet-requires : goal.index-sheet-requires
index-sheet-requires c =
    let inside = c.self.inside in
    let below : c.args.at / 8 < length inside.sheets.items =
    in_sheets (length inside.numbers.items) inside.sheets.items inside.known c.args.at c.self.invariant
    (in_numbers inside.numbers.items inside.sheets.items inside.known c.args.self.now c.args.at c.self.view_is
    c.requires.at) in
    search rules

pub read-requires-clause-inside : goal.read-requires-clause-inside
read-requires-clause-inside c =
    let inside = c.self.inside in
    let below = in_numbers inside.numbers.items inside.sheets.items inside.known c.args.self.now c.args.at
    c.self.view_is c.requires.at in
    omega (
      arith,
      sheet_long inside.numbers.items inside.sheets.items inside.known c.args.at c.index-sheet.result.now
          c.self.invariant below c.index-sheet.ensures,
      c.place_of.ensures,
      c.requires.inside,
    )

pub returns : goal.returns
returns c =
    let inside = c.self.inside in
    let numbers = inside.numbers.items in
    let sheets = inside.sheets.items in
    let at = c.args.at in
    let width = c.args.width in
    let below = in_numbers numbers sheets inside.known c.args.self.now at c.self.view_is c.requires.at in
    c.read.ensures
    ∙ slot_window numbers sheets inside.known at c.args.start width c.place_of.result c.index-sheet.result.now
    c.self.invariant below c.requires.inside c.index-sheet.ensures c.place_of.ensures
    ∙ ap (λ (p : Paged). take width (drop c.args.start (get_or p.slots at blank_slot).page)) c.self.view_is
