use Rattle.std.proofs.Common.{◌≡◌, ◌∙◌, ◌+◌, ◌*◌, ◌/◌, ◌%◌, ◌^◌, ◌<◌, ◌≤◌, List, length, take, drop, set, get_or, Option, ℕ, Bool, [], sym, ap, arith, rules}
use Rattle.std.proofs.lemmas.List.{length-take-le, length-drop}
use Rattle.check_memory.specs.Known.{replaced}
use Rattle.check_memory.specs.Cells.{new_cells}
use Rattle.check_memory.specs.Pattern.{shown_cells}
use Rattle.check_memory.specs.Paged.{Slot, Paged, blank_slot, slots_of, AreFilled}
use Rattle.check_memory.proofs.PagePlaces.{length-new_cells}
use Rattle.check_memory.proofs.Sheets.{in_sheets, in_numbers, sheet_long, slot_long, slot_window, made_in, slots_written, filled_written}
use Rattle.tl_types.specs.Operation.{reply_op_of}
use Rattle.tl_types.specs.declared.operation.AskOp.{AskOp}
use Rattle.tl_ops.specs.declared.kind.Kind.{Kind}
use Rattle.check_memory.proofs.slots.Slots.serve.Goals as goal

pub index_mut-sheet-requires : goal.index_mut-sheet-requires
index_mut-sheet-requires c =
    let inside = c.self.inside in
    let below : c.args.at / 8 < length inside.sheets.items =
    in_sheets (length inside.numbers.items) inside.sheets.items inside.known c.args.at c.self.invariant
    (in_numbers inside.numbers.items inside.sheets.items inside.known c.args.self.now c.args.at c.self.view_is
    c.requires.at) in
    search rules

pub serve-requires-clause-inside : goal.serve-requires-clause-inside
serve-requires-clause-inside c =
    let inside = c.self.inside in
    let below = in_numbers inside.numbers.items inside.sheets.items inside.known c.args.self.now c.args.at
    c.self.view_is c.requires.at in
    omega (
      arith,
      sheet_long inside.numbers.items inside.sheets.items inside.known c.args.at c.index_mut-sheet.result.now
          c.self.invariant below c.index_mut-sheet.ensures.value,
      c.place_of.ensures,
      c.requires.inside,
    )

-- the window of the request in its page, and what it leaves there
abbrev window : List ℕ → List (List (Option ℕ)) → ℕ → ℕ → ℕ → List (Option ℕ)
window numbers sheets at start width = take width (drop start (get_or (slots_of numbers sheets) at blank_slot).page)

counted : (numbers : List ℕ) (sheets : List (List (Option ℕ))) (shows : Bool) (at start width : ℕ) (kind : Kind)
    (op : AskOp) (given : List (Option ℕ)) → AreFilled (length numbers) sheets shows → at < length numbers
    → start + width ≤ 256 → length given ≡ width
    → start + length (new_cells kind op (window numbers sheets at start width) given) ≤ 256
counted numbers sheets shows at start width kind op given filled below inside long =
    let page = (get_or (slots_of numbers sheets) at blank_slot).page in
    let wide : length (take width (drop start page)) ≡ width =
    length-take-le width (drop start page)
    (omega (arith, inside, slot_long numbers sheets shows at filled below, length-drop start page)) in
    omega (arith, inside, wide, length-new_cells kind op (take width (drop start page)) given (long ∙ sym wide))

made : (numbers : List ℕ) (sheets : List (List (Option ℕ))) (shows : Bool) (at start place width : ℕ) (kind : Kind)
    (op : AskOp) (given sheet new : List (Option ℕ)) → AreFilled (length numbers) sheets shows → at < length numbers
    → start + width ≤ 256 → sheet ≡ get_or sheets (at / 8) sheet → place ≡ 256 * (at % 8) + start
    → new ≡ replaced sheet place (new_cells kind op (take width (drop place sheet)) given)
    → new ≡ replaced (get_or sheets (at / 8) []) (256 * (at % 8) + start)
    (new_cells kind op (window numbers sheets at start width) given)
made numbers sheets shows at start place width kind op given sheet new filled below inside read is after =
    made_in numbers sheets shows at start place sheet new
    (new_cells kind op (window numbers sheets at start width) given) filled below read is
    (after ∙ ap (λ old. replaced sheet place (new_cells kind op old given))
    (slot_window numbers sheets shows at start width place sheet filled below inside read is))

pub invariant_of-self : goal.invariant_of-self
invariant_of-self c =
    let inside = c.self.inside in
    let numbers = inside.numbers.items in
    let sheets = inside.sheets.items in
    let at = c.args.at in
    let start = c.args.start in
    let ask = c.args.ask.now in
    let below = in_numbers numbers sheets inside.known c.args.self.now at c.self.view_is c.requires.at in
    filled_written (length numbers) sheets inside.known at start c.serve.new.self
    (new_cells c.args.kind ask.op (window numbers sheets at start (2 ^ ask.size)) ask.bytes) c.self.invariant below
    (counted numbers sheets inside.known at start (2 ^ ask.size) c.args.kind ask.op ask.bytes c.self.invariant below
    c.requires.inside c.requires.counted)
    (made numbers sheets inside.known at start c.place_of.result (2 ^ ask.size) c.args.kind ask.op ask.bytes
    c.index_mut-sheet.result.now c.serve.new.self c.self.invariant below c.requires.inside
    c.index_mut-sheet.ensures.value c.place_of.ensures c.serve.ensures.after)

pub returns-clause-after : goal.returns-clause-after
returns-clause-after c =
    let inside = c.self.inside in
    let numbers = inside.numbers.items in
    let sheets = inside.sheets.items in
    let at = c.args.at in
    let start = c.args.start in
    let ask = c.args.ask.now in
    let below = in_numbers numbers sheets inside.known c.args.self.now at c.self.view_is c.requires.at in
    let shown : List Slot → Paged = λ slots. record { slots = slots; known = inside.known } in
    ap shown (slots_written numbers sheets inside.known at start c.serve.new.self
    (new_cells c.args.kind ask.op (window numbers sheets at start (2 ^ ask.size)) ask.bytes) c.self.invariant below
    (counted numbers sheets inside.known at start (2 ^ ask.size) c.args.kind ask.op ask.bytes c.self.invariant below
    c.requires.inside c.requires.counted)
    (made numbers sheets inside.known at start c.place_of.result (2 ^ ask.size) c.args.kind ask.op ask.bytes
    c.index_mut-sheet.result.now c.serve.new.self c.self.invariant below c.requires.inside
    c.index_mut-sheet.ensures.value c.place_of.ensures c.serve.ensures.after))
    ∙ ap (λ (p : Paged). record {
      slots = set p.slots at (record {
        number = (get_or p.slots at blank_slot).number;
        page = replaced (get_or p.slots at blank_slot).page start
            (new_cells c.args.kind ask.op (take (2 ^ ask.size) (drop start (get_or p.slots at blank_slot).page))
            ask.bytes);
      });
      known = p.known;
    }) c.self.view_is

pub returns-clause-shown : goal.returns-clause-shown
returns-clause-shown c =
    let inside = c.self.inside in
    let numbers = inside.numbers.items in
    let sheets = inside.sheets.items in
    let at = c.args.at in
    let ask = c.args.ask.now in
    let below = in_numbers numbers sheets inside.known c.args.self.now at c.self.view_is c.requires.at in
    c.serve.ensures.shown
    ∙ ap (shown_cells (reply_op_of ask.op)) (slot_window numbers sheets inside.known at c.args.start (2 ^ ask.size)
    c.place_of.result c.index_mut-sheet.result.now c.self.invariant below c.requires.inside
    c.index_mut-sheet.ensures.value c.place_of.ensures
    ∙ ap (λ (p : Paged). take (2 ^ ask.size) (drop c.args.start (get_or p.slots at blank_slot).page)) c.self.view_is)
