use Rattle.std.proofs.Common.{◌∙◌, ◌+◌, ◌/◌, ◌<◌, ◌≤◌, List, length, set, get_or, ℕ, Some, ap, arith, rules}
use Rattle.std.proofs.lemmas.List.{length-map}
use Rattle.check_memory.specs.Known.{known, replaced}
use Rattle.check_memory.specs.Paged.{Slot, Paged, blank_slot}
use Rattle.check_memory.proofs.Sheets.{in_sheets, in_numbers, sheet_long, made_in, slots_written, filled_written}
use Rattle.check_memory.proofs.slots.Slots.load.Goals as goal

pub index_mut-sheet-requires : goal.index_mut-sheet-requires
index_mut-sheet-requires c =
    let inside = c.self.inside in
    let below : c.args.at / 8 < length inside.sheets.items =
    in_sheets (length inside.numbers.items) inside.sheets.items inside.known c.args.at c.self.invariant
    (in_numbers inside.numbers.items inside.sheets.items inside.known c.args.self.now c.args.at c.self.view_is
    c.requires.at) in
    search rules

pub load-requires-clause-inside : goal.load-requires-clause-inside
load-requires-clause-inside c =
    let inside = c.self.inside in
    let below = in_numbers inside.numbers.items inside.sheets.items inside.known c.args.self.now c.args.at
    c.self.view_is c.requires.at in
    omega (
      arith,
      sheet_long inside.numbers.items inside.sheets.items inside.known c.args.at c.index_mut-sheet.result.now
          c.self.invariant below c.index_mut-sheet.ensures.value,
      c.place_of.ensures,
      c.requires.inside,
    )

pub load-requires-clause-limit : goal.load-requires-clause-limit
load-requires-clause-limit c =
    let inside = c.self.inside in
    let below = in_numbers inside.numbers.items inside.sheets.items inside.known c.args.self.now c.args.at
    c.self.view_is c.requires.at in
    omega (
      arith,
      sheet_long inside.numbers.items inside.sheets.items inside.known c.args.at c.index_mut-sheet.result.now
          c.self.invariant below c.index_mut-sheet.ensures.value,
      c.place_of.ensures,
      c.requires.inside,
    )

-- what stands in the sheet afterwards, and how long it is
counted : (start : ℕ) (bytes : List ℕ) → start + length bytes ≤ 256 → start + length (known bytes) ≤ 256
counted start bytes inside = omega (arith, inside, length-map bytes (λ byte. Some byte))

pub invariant_of-self : goal.invariant_of-self
invariant_of-self c =
    let inside = c.self.inside in
    let numbers = inside.numbers.items in
    let sheets = inside.sheets.items in
    let below = in_numbers numbers sheets inside.known c.args.self.now c.args.at c.self.view_is c.requires.at in
    filled_written (length numbers) sheets inside.known c.args.at c.args.start c.load.new.self (known c.args.bytes.now)
    c.self.invariant below (counted c.args.start c.args.bytes.now c.requires.inside)
    (made_in numbers sheets inside.known c.args.at c.args.start c.place_of.result c.index_mut-sheet.result.now
    c.load.new.self (known c.args.bytes.now) c.self.invariant below c.index_mut-sheet.ensures.value c.place_of.ensures
    c.load.ensures.after)

pub returns : goal.returns
returns c =
    let inside = c.self.inside in
    let numbers = inside.numbers.items in
    let sheets = inside.sheets.items in
    let at = c.args.at in
    let below = in_numbers numbers sheets inside.known c.args.self.now at c.self.view_is c.requires.at in
    let shown : List Slot → Paged = λ slots. record { slots = slots; known = inside.known } in
    ap shown (slots_written numbers sheets inside.known at c.args.start c.load.new.self (known c.args.bytes.now)
    c.self.invariant below (counted c.args.start c.args.bytes.now c.requires.inside)
    (made_in numbers sheets inside.known at c.args.start c.place_of.result c.index_mut-sheet.result.now
    c.load.new.self (known c.args.bytes.now) c.self.invariant below c.index_mut-sheet.ensures.value c.place_of.ensures
    c.load.ensures.after))
    ∙ ap (λ (p : Paged). record {
      slots = set p.slots at (record {
        number = (get_or p.slots at blank_slot).number;
        page = replaced (get_or p.slots at blank_slot).page c.args.start (known c.args.bytes.now);
      });
      known = p.known;
    }) c.self.view_is
