use Rattle.std.proofs.Common.{◌≡◌, ◌∙◌, ◌+◌, ◌*◌, ◌/◌, ◌%◌, ◌<◌, ◌≤◌, List, length, drop, set, get_or, Option, ℕ, Bool, [], sym, ap, arith, rules}
use Rattle.std.proofs.lemmas.List.{length-drop}
use Rattle.check_memory.specs.Known.{replaced}
use Rattle.check_memory.specs.Cells.{forgotten}
use Rattle.check_memory.specs.Paged.{Slot, Paged, blank_slot, slots_of, AreFilled}
use Rattle.check_memory.proofs.Forgotten.{marked, marked-take, length-marked}
use Rattle.check_memory.proofs.Sheets.{in_sheets, in_numbers, sheet_long, slot_long, slot_window, made_in, slots_written, filled_written}
use Rattle.check_memory.proofs.slots.Slots.forget.Goals as goal

pub index_mut-sheet-requires : goal.index_mut-sheet-requires
index_mut-sheet-requires c =
    let inside = c.self.inside in
    let below : c.args.at / 8 < length inside.sheets.items =
    in_sheets (length inside.numbers.items) inside.sheets.items inside.known c.args.at c.self.invariant
    (in_numbers inside.numbers.items inside.sheets.items inside.known c.args.self.now c.args.at c.self.view_is
    c.requires.at) in
    search rules

pub forget-requires-clause-inside : goal.forget-requires-clause-inside
forget-requires-clause-inside c =
    let inside = c.self.inside in
    let below = in_numbers inside.numbers.items inside.sheets.items inside.known c.args.self.now c.args.at
    c.self.view_is c.requires.at in
    omega (
      arith,
      sheet_long inside.numbers.items inside.sheets.items inside.known c.args.at c.index_mut-sheet.result.now
          c.self.invariant below c.index_mut-sheet.ensures.value,
      c.place_of.ensures,
      c.requires.inside,
    )

pub forget-requires-clause-limit : goal.forget-requires-clause-limit
forget-requires-clause-limit c =
    let inside = c.self.inside in
    let below = in_numbers inside.numbers.items inside.sheets.items inside.known c.args.self.now c.args.at
    c.self.view_is c.requires.at in
    omega (
      arith,
      sheet_long inside.numbers.items inside.sheets.items inside.known c.args.at c.index_mut-sheet.result.now
          c.self.invariant below c.index_mut-sheet.ensures.value,
      c.place_of.ensures,
      c.requires.inside,
    )

-- the cells that are written are as many as the flags
counted : (numbers : List ℕ) (sheets : List (List (Option ℕ))) (shows : Bool) (at start : ℕ) (flags : List Bool)
    → AreFilled (length numbers) sheets shows → at < length numbers → start + length flags ≤ 256
    → start + length (marked flags (drop start (get_or (slots_of numbers sheets) at blank_slot).page)) ≤ 256
counted numbers sheets shows at start flags filled below inside =
    let page = (get_or (slots_of numbers sheets) at blank_slot).page in
    omega (
      arith,
      inside,
      length-marked flags (drop start page)
          (omega (arith, inside, slot_long numbers sheets shows at filled below, length-drop start page)),
    )

made : (numbers : List ℕ) (sheets : List (List (Option ℕ))) (shows : Bool) (at start place : ℕ) (flags : List Bool)
    (sheet new : List (Option ℕ)) → AreFilled (length numbers) sheets shows → at < length numbers
    → start + length flags ≤ 256 → sheet ≡ get_or sheets (at / 8) sheet → place ≡ 256 * (at % 8) + start
    → new ≡ forgotten flags place sheet
    → new ≡ replaced (get_or sheets (at / 8) []) (256 * (at % 8) + start)
    (marked flags (drop start (get_or (slots_of numbers sheets) at blank_slot).page))
made numbers sheets shows at start place flags sheet new filled below inside read is after =
    let page = (get_or (slots_of numbers sheets) at blank_slot).page in
    made_in numbers sheets shows at start place sheet new (marked flags (drop start page)) filled below read is
    (after ∙ ap (replaced sheet place) (sym (marked-take flags (drop place sheet))
    ∙ ap (marked flags) (slot_window numbers sheets shows at start (length flags) place sheet filled below inside read is)
    ∙ marked-take flags (drop start page)))

pub invariant_of-self : goal.invariant_of-self
invariant_of-self c =
    let inside = c.self.inside in
    let numbers = inside.numbers.items in
    let sheets = inside.sheets.items in
    let at = c.args.at in
    let start = c.args.start in
    let flags = c.args.flags.now in
    let below = in_numbers numbers sheets inside.known c.args.self.now at c.self.view_is c.requires.at in
    filled_written (length numbers) sheets inside.known at start c.forget.new.self
    (marked flags (drop start (get_or (slots_of numbers sheets) at blank_slot).page)) c.self.invariant below
    (counted numbers sheets inside.known at start flags c.self.invariant below c.requires.inside)
    (made numbers sheets inside.known at start c.place_of.result flags c.index_mut-sheet.result.now c.forget.new.self
    c.self.invariant below c.requires.inside c.index_mut-sheet.ensures.value c.place_of.ensures c.forget.ensures.after)

pub returns : goal.returns
returns c =
    let inside = c.self.inside in
    let numbers = inside.numbers.items in
    let sheets = inside.sheets.items in
    let at = c.args.at in
    let start = c.args.start in
    let flags = c.args.flags.now in
    let below = in_numbers numbers sheets inside.known c.args.self.now at c.self.view_is c.requires.at in
    let shown : List Slot → Paged = λ slots. record { slots = slots; known = inside.known } in
    ap shown (slots_written numbers sheets inside.known at start c.forget.new.self
    (marked flags (drop start (get_or (slots_of numbers sheets) at blank_slot).page)) c.self.invariant below
    (counted numbers sheets inside.known at start flags c.self.invariant below c.requires.inside)
    (made numbers sheets inside.known at start c.place_of.result flags c.index_mut-sheet.result.now c.forget.new.self
    c.self.invariant below c.requires.inside c.index_mut-sheet.ensures.value c.place_of.ensures c.forget.ensures.after))
    ∙ ap (λ (p : Paged). record {
      slots = set p.slots at (record {
        number = (get_or p.slots at blank_slot).number;
        page = forgotten flags start (get_or p.slots at blank_slot).page;
      });
      known = p.known;
    }) c.self.view_is
