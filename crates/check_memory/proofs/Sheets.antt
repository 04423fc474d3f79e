-- Pages in sheets, and what a change of one leaves.
use Rattle.std.proofs.Common.{◌≡◌, ◌∙◌, ◌⊎◌, inl, inr, ⊎_elim, ℕ, ◌+◌, ◌*◌, ◌/◌, ◌%◌, ◌<◌, ◌≤◌, Bool, List, [], ◌∷◌, ◌++◌, length, take, drop, set, get_or, replicate, Option, None, sym, ap, arith}
use Rattle.std.proofs.lemmas.List.{ext_get_or, length-take-le, length-drop, length-append, length-set, length-replicate, get_or-take, get_or-drop, get_or-set_same, get_or-set_other, get_or_default, get_or_append_left, get_or_push, get_or_past, take-replicate, drop-replicate}
use Rattle.std.proofs.lemmas.List.FromFn.{length-map-range_with_len, get_or-map-range_with_len}
use Rattle.std.proofs.lemmas.List.Elements.{All-get_or, All-set, All-push}
use Rattle.std.proofs.lemmas.Bool.{cases_eq, cases_lt}
use Rattle.check_memory.specs.Known.{replaced}
use Rattle.check_memory.specs.Place.{fill_of}
use Rattle.check_memory.specs.Paged.{Slot, Paged, blank_slot, page_at, slots_of, AreFilled}
use Rattle.check_memory.proofs.Replaced.{length-replaced, get_or-replaced_in, get_or-replaced_out, replaced_by_places}

-- ---- a part of a list

-- a window of a part is one of the whole
pub window_in_part : (cells : List (Option ℕ)) (from count start width : ℕ) → start + width ≤ count
    → from + count ≤ length cells
    → take width (drop start (take count (drop from cells))) ≡ take width (drop (from + start) cells)
window_in_part cells from count start width inside within =
    let part = take count (drop from cells) in
    let long : length part ≡ count =
    length-take-le count (drop from cells) (omega (arith, within, length-drop from cells)) in
    let left : length (take width (drop start part)) ≡ width =
    length-take-le width (drop start part) (omega (arith, inside, long, length-drop start part)) in
    let right : length (take width (drop (from + start) cells)) ≡ width =
    length-take-le width (drop (from + start) cells)
    (omega (arith, inside, within, length-drop (from + start) cells)) in
    ext_get_or None _ _ (left ∙ sym right) (λ k below.
    let small : k < width = omega (arith, below, left) in
    let place : from + (start + k) ≡ from + start + k = omega arith in
    get_or-take width (drop start part) k None small ∙ get_or-drop start part k None
    ∙ get_or-take count (drop from cells) (start + k) None (omega (arith, small, inside))
    ∙ get_or-drop from cells (start + k) None ∙ ap (λ i. get_or cells i None) place
    ∙ sym (get_or-take width (drop (from + start) cells) k None small ∙ get_or-drop (from + start) cells k None))

-- a part in which cells are written
part_here : (cells new : List (Option ℕ)) (from count start : ℕ) → start + length new ≤ count
    → from + count ≤ length cells
    → take count (drop from (replaced cells (from + start) new)) ≡ replaced (take count (drop from cells)) start new
part_here cells new from count start inside within =
    let left = replaced cells (from + start) new in
    let room : from + start + length new ≤ length cells = omega (arith, inside, within) in
    let same : length left ≡ length cells = length-replaced cells new (from + start) room in
    let old : length (take count (drop from cells)) ≡ count =
    length-take-le count (drop from cells) (omega (arith, within, length-drop from cells)) in
    let made : length (take count (drop from left)) ≡ count =
    length-take-le count (drop from left) (omega (arith, within, same, length-drop from left)) in
    replaced_by_places (take count (drop from cells)) (take count (drop from left)) new start
    (omega (arith, inside, old)) (made ∙ sym old)
    (λ j below.
    let place : from + (start + j) ≡ from + start + j = omega arith in
    get_or-take count (drop from left) (start + j) None (omega (arith, below, inside))
    ∙ get_or-drop from left (start + j) None ∙ ap (λ i. get_or left i None) place
    ∙ get_or-replaced_in cells new (from + start) j room below)
    (λ place beside. ⊎_elim
    (λ (small : place < count).
    get_or-take count (drop from left) place None small ∙ get_or-drop from left place None
    ∙ get_or-replaced_out cells new (from + start) (from + place) room
    (⊎_elim (λ before. inl (omega (arith, before))) (λ past. inr (omega (arith, past))) beside)
    ∙ sym (get_or-take count (drop from cells) place None small ∙ get_or-drop from cells place None))
    (λ (large : count ≤ place).
    get_or_past (take count (drop from left)) place None (omega (arith, large, made))
    ∙ sym (get_or_past (take count (drop from cells)) place None (omega (arith, large, old))))
    (cases_lt place count))

-- a part beside the one in which cells are written
part_there : (cells new : List (Option ℕ)) (from count at : ℕ) → at + length new ≤ length cells
    → from + count ≤ length cells → (from + count ≤ at) ⊎ (at + length new ≤ from)
    → take count (drop from (replaced cells at new)) ≡ take count (drop from cells)
part_there cells new from count at room within beside =
    let left = replaced cells at new in
    let same : length left ≡ length cells = length-replaced cells new at room in
    let old : length (take count (drop from cells)) ≡ count =
    length-take-le count (drop from cells) (omega (arith, within, length-drop from cells)) in
    let made : length (take count (drop from left)) ≡ count =
    length-take-le count (drop from left) (omega (arith, within, same, length-drop from left)) in
    ext_get_or None _ _ (made ∙ sym old) (λ k below.
    let small : k < count = omega (arith, below, made) in
    get_or-take count (drop from left) k None small ∙ get_or-drop from left k None
    ∙ get_or-replaced_out cells new at (from + k) room
    (⊎_elim (λ before. inl (omega (arith, before, small))) (λ past. inr (omega (arith, past))) beside)
    ∙ sym (get_or-take count (drop from cells) k None small ∙ get_or-drop from cells k None))

-- ---- pages in sheets

pub in_sheets : (used : ℕ) (sheets : List (List (Option ℕ))) (known : Bool) (at : ℕ) → AreFilled used sheets known
    → at < used → at / 8 < length sheets
in_sheets used sheets known at filled below = omega (arith, filled.room, below)

pub whole_sheet : (used : ℕ) (sheets : List (List (Option ℕ))) (known : Bool) (at : ℕ) → AreFilled used sheets known
    → at < used → length (get_or sheets (at / 8) []) ≡ 2048
whole_sheet used sheets known at filled below =
    All-get_or (λ (sheet : List (Option ℕ)). length sheet ≡ 2048) sheets (at / 8) []
    (in_sheets used sheets known at filled below) filled.whole

-- a window of a page, in its sheet
pub page_window : (used : ℕ) (sheets : List (List (Option ℕ))) (known : Bool) (at start width : ℕ)
    → AreFilled used sheets known → at < used → start + width ≤ 256
    → take width (drop start (page_at sheets at))
    ≡ take width (drop (256 * (at % 8) + start) (get_or sheets (at / 8) []))
page_window used sheets known at start width filled below inside =
    window_in_part (get_or sheets (at / 8) []) (256 * (at % 8)) 256 start width inside
    (omega (arith, whole_sheet used sheets known at filled below))

page_here : (used : ℕ) (sheets : List (List (Option ℕ))) (known : Bool) (at start : ℕ) (new cells : List (Option ℕ))
    → AreFilled used sheets known → at < used → start + length cells ≤ 256
    → new ≡ replaced (get_or sheets (at / 8) []) (256 * (at % 8) + start) cells
    → page_at (set sheets (at / 8) new) at ≡ replaced (page_at sheets at) start cells
page_here used sheets known at start new cells filled below inside made =
    ap (λ sheet. take 256 (drop (256 * (at % 8)) sheet))
    (get_or-set_same sheets (at / 8) new [] (in_sheets used sheets known at filled below) ∙ made)
    ∙ part_here (get_or sheets (at / 8) []) cells (256 * (at % 8)) 256 start inside
    (omega (arith, whole_sheet used sheets known at filled below))

page_there : (used : ℕ) (sheets : List (List (Option ℕ))) (known : Bool) (at start : ℕ) (new cells : List (Option ℕ))
    (i : ℕ) → AreFilled used sheets known → at < used → start + length cells ≤ 256
    → new ≡ replaced (get_or sheets (at / 8) []) (256 * (at % 8) + start) cells → (i ≡ at → ⊥)
    → page_at (set sheets (at / 8) new) i ≡ page_at sheets i
page_there used sheets known at start new cells i filled below inside made apart =
    ⊎_elim
    (λ (same : i / 8 ≡ at / 8).
    let whole = whole_sheet used sheets known at filled below in
    let beside : (256 * (i % 8) + 256 ≤ 256 * (at % 8) + start)
    ⊎ (256 * (at % 8) + start + length cells ≤ 256 * (i % 8)) =
    ⊎_elim (λ before. inl (omega (arith, before)))
    (λ from. inr (omega (arith, from, inside, apart, same))) (cases_lt (i % 8) (at % 8)) in
    ap (λ sheet. take 256 (drop (256 * (i % 8)) sheet))
    (ap (λ k. get_or (set sheets (at / 8) new) k []) same
    ∙ get_or-set_same sheets (at / 8) new [] (in_sheets used sheets known at filled below) ∙ made)
    ∙ part_there (get_or sheets (at / 8) []) cells (256 * (i % 8)) 256 (256 * (at % 8) + start)
    (omega (arith, whole, inside)) (omega (arith, whole)) beside
    ∙ ap (λ k. take 256 (drop (256 * (i % 8)) (get_or sheets k []))) (sym same))
    (λ other. ap (λ sheet. take 256 (drop (256 * (i % 8)) sheet))
    (get_or-set_other sheets (at / 8) (i / 8) new [] other))
    (cases_eq (i / 8) (at / 8))

-- ---- the pages that sheets show

pub length-slots_of : (numbers : List ℕ) (sheets : List (List (Option ℕ)))
    → length (slots_of numbers sheets) ≡ length numbers
unfolding slots_of
length-slots_of numbers sheets =
    length-map-range_with_len (λ at. record { number = get_or numbers at 0; page = page_at sheets at }) 0
    (length numbers)

pub get_or-slots_of : (numbers : List ℕ) (sheets : List (List (Option ℕ))) (at : ℕ) → at < length numbers
    → get_or (slots_of numbers sheets) at blank_slot ≡ record { number = get_or numbers at 0; page = page_at sheets at }
unfolding slots_of
get_or-slots_of numbers sheets at below =
    get_or-map-range_with_len (λ at. record { number = get_or numbers at 0; page = page_at sheets at }) 0
    (length numbers) at at blank_slot below (omega arith)

-- slots that are told place by place
slots_by_places : (numbers : List ℕ) (sheets : List (List (Option ℕ))) (slots : List Slot)
    → length slots ≡ length numbers
    → ((i : ℕ) → i < length numbers
    → get_or slots i blank_slot ≡ record { number = get_or numbers i 0; page = page_at sheets i })
    → slots_of numbers sheets ≡ slots
slots_by_places numbers sheets slots long are =
    ext_get_or blank_slot (slots_of numbers sheets) slots (length-slots_of numbers sheets ∙ sym long) (λ i below.
    let small : i < length numbers = omega (arith, below, length-slots_of numbers sheets) in
    get_or-slots_of numbers sheets i small ∙ sym (are i small))

-- cells written in a page
pub slots_written : (numbers : List ℕ) (sheets : List (List (Option ℕ))) (known : Bool) (at start : ℕ)
    (new cells : List (Option ℕ)) → AreFilled (length numbers) sheets known → at < length numbers
    → start + length cells ≤ 256 → new ≡ replaced (get_or sheets (at / 8) []) (256 * (at % 8) + start) cells
    → slots_of numbers (set sheets (at / 8) new)
    ≡ set (slots_of numbers sheets) at (record {
      number = (get_or (slots_of numbers sheets) at blank_slot).number;
      page = replaced (get_or (slots_of numbers sheets) at blank_slot).page start cells;
    })
slots_written numbers sheets known at start new cells filled below inside made =
    let slots = slots_of numbers sheets in
    let used = length numbers in
    let slot : Slot = record {
      number = (get_or slots at blank_slot).number;
      page = replaced (get_or slots at blank_slot).page start cells;
    } in
    let was = get_or-slots_of numbers sheets at below in
    slots_by_places numbers (set sheets (at / 8) new) (set slots at slot)
    (length-set slots at slot ∙ length-slots_of numbers sheets)
    (λ i small. ⊎_elim
    (λ same.
    ap (λ k. get_or (set slots at slot) k blank_slot) same
    ∙ get_or-set_same slots at slot blank_slot (omega (arith, below, length-slots_of numbers sheets))
    ∙ ap (λ (s : Slot). record { number = s.number; page = replaced s.page start cells }) was
    ∙ ap (λ page. record { number = get_or numbers at 0; page = page })
    (sym (page_here used sheets known at start new cells filled below inside made))
    ∙ ap (λ k. record { number = get_or numbers k 0; page = page_at (set sheets (at / 8) new) k }) (sym same))
    (λ apart.
    get_or-set_other slots at i slot blank_slot apart ∙ get_or-slots_of numbers sheets i small
    ∙ ap (λ page. record { number = get_or numbers i 0; page = page })
    (sym (page_there used sheets known at start new cells i filled below inside made apart)))
    (cases_eq i at))

pub filled_written : (used : ℕ) (sheets : List (List (Option ℕ))) (known : Bool) (at start : ℕ)
    (new cells : List (Option ℕ)) → AreFilled used sheets known → at < used → start + length cells ≤ 256
    → new ≡ replaced (get_or sheets (at / 8) []) (256 * (at % 8) + start) cells
    → AreFilled used (set sheets (at / 8) new) known
filled_written used sheets known at start new cells filled below inside made = record {
  whole = All-set (λ (s : List (Option ℕ)). length s ≡ 2048) sheets (at / 8) new long filled.whole;
  room = omega (arith, filled.room, length-set sheets (at / 8) new);
  fresh = λ i past small.
      page_there used sheets known at start new cells i filled below inside made (λ same. absurd (omega (arith, same, past, below)))
      ∙ filled.fresh i past (omega (arith, small, length-set sheets (at / 8) new));
}
  where
    long : length new ≡ 2048
    long = let whole = whole_sheet used sheets known at filled below in
        ap length made
        ∙ length-replaced (get_or sheets (at / 8) []) cells (256 * (at % 8) + start) (omega (arith, whole, inside)) ∙ whole

-- ---- a page more

pub slots_same : (numbers : List ℕ) (sheets sheets' : List (List (Option ℕ)))
    → ((at : ℕ) → at < length numbers → page_at sheets' at ≡ page_at sheets at)
    → slots_of numbers sheets' ≡ slots_of numbers sheets
slots_same numbers sheets sheets' same =
    slots_by_places numbers sheets' (slots_of numbers sheets) (length-slots_of numbers sheets) (λ i small.
    get_or-slots_of numbers sheets i small
    ∙ ap (λ page. record { number = get_or numbers i 0; page = page }) (sym (same i small)))

pub slots_more : (numbers : List ℕ) (sheets sheets' : List (List (Option ℕ))) (known : Bool) (number : ℕ)
    → AreFilled (length numbers) sheets' known
    → ((at : ℕ) → at < length numbers → page_at sheets' at ≡ page_at sheets at)
    → length numbers < 8 * length sheets'
    → slots_of (numbers ++ number ∷ []) sheets'
    ≡ slots_of numbers sheets ++ record { number = number; page = replicate 256 (fill_of known) } ∷ []
slots_more numbers sheets sheets' known number filled same room =
    let slots = slots_of numbers sheets in
    let slot : Slot = record { number = number; page = replicate 256 (fill_of known) } in
    let long = length-slots_of numbers sheets in
    let more : length (numbers ++ number ∷ []) ≡ length numbers + 1 = length-append numbers (number ∷ []) in
    slots_by_places (numbers ++ number ∷ []) sheets' (slots ++ slot ∷ [])
    (length-append slots (slot ∷ []) ∙ omega (arith, long, more))
    (λ i small. ⊎_elim
    (λ (old : i < length numbers).
    get_or_append_left slots (slot ∷ []) blank_slot i (omega (arith, old, long))
    ∙ get_or-slots_of numbers sheets i old
    ∙ ap (λ page. record { number = get_or numbers i 0; page = page }) (sym (same i old))
    ∙ ap (λ n. record { number = n; page = page_at sheets' i })
    (sym (get_or_append_left numbers (number ∷ []) 0 i old)))
    (λ from.
    let last : i ≡ length numbers = omega (arith, from, small, more) in
    get_or_push slots slot blank_slot i (long ∙ sym last)
    ∙ ap (λ page. record { number = number; page = page })
    (sym (filled.fresh i from (omega (arith, last, room))))
    ∙ ap (λ n. record { number = n; page = page_at sheets' i })
    (sym (get_or_push numbers number 0 i (sym last))))
    (cases_lt i (length numbers)))

-- ---- a sheet more

pub filled_sheet : (used : ℕ) (sheets : List (List (Option ℕ))) (sheet : List (Option ℕ)) (known : Bool)
    → AreFilled used sheets known → sheet ≡ replicate 2048 (fill_of known) → length sheets ≤ used / 8
    → AreFilled used (sheets ++ sheet ∷ []) known
filled_sheet used sheets sheet known filled blank full = record {
  whole = All-push (λ (s : List (Option ℕ)). length s ≡ 2048) sheets sheet filled.whole
      (ap length blank ∙ length-replicate 2048 (fill_of known));
  room = omega (arith, filled.room, more);
  fresh = λ at past small.
      let last : at / 8 ≡ length sheets = omega (arith, past, small, more, full) in
      ap (λ s. take 256 (drop (256 * (at % 8)) s)) (get_or_push sheets sheet [] (at / 8) (sym last) ∙ blank)
      ∙ ap (take 256) (drop-replicate (256 * (at % 8)) 2048 (fill_of known))
      ∙ take-replicate 256 _ (fill_of known) (omega arith);
}
  where
    more : length (sheets ++ sheet ∷ []) ≡ length sheets + 1
    more = length-append sheets (sheet ∷ [])

-- ---- a page, by what stands in its sheet

pub in_numbers : (numbers : List ℕ) (sheets : List (List (Option ℕ))) (known : Bool) (now : Paged) (at : ℕ)
    → record { slots = slots_of numbers sheets; known = known } ≡ now → at < length now.slots → at < length numbers
in_numbers numbers sheets known now at is below =
    omega (arith, below, ap (λ (p : Paged). length p.slots) is, length-slots_of numbers sheets)

sheet_is : (numbers : List ℕ) (sheets : List (List (Option ℕ))) (known : Bool) (at : ℕ) (sheet : List (Option ℕ))
    → AreFilled (length numbers) sheets known → at < length numbers → sheet ≡ get_or sheets (at / 8) sheet
    → sheet ≡ get_or sheets (at / 8) []
sheet_is numbers sheets known at sheet filled below read =
    read ∙ get_or_default sheets (at / 8) sheet [] (in_sheets (length numbers) sheets known at filled below)

pub sheet_long : (numbers : List ℕ) (sheets : List (List (Option ℕ))) (known : Bool) (at : ℕ) (sheet : List (Option ℕ))
    → AreFilled (length numbers) sheets known → at < length numbers → sheet ≡ get_or sheets (at / 8) sheet
    → length sheet ≡ 2048
sheet_long numbers sheets known at sheet filled below read =
    ap length (sheet_is numbers sheets known at sheet filled below read)
    ∙ whole_sheet (length numbers) sheets known at filled below

pub slot_long : (numbers : List ℕ) (sheets : List (List (Option ℕ))) (known : Bool) (at : ℕ)
    → AreFilled (length numbers) sheets known → at < length numbers
    → length (get_or (slots_of numbers sheets) at blank_slot).page ≡ 256
slot_long numbers sheets known at filled below =
    let sheet = get_or sheets (at / 8) [] in
    let whole = whole_sheet (length numbers) sheets known at filled below in
    ap (λ (s : Slot). length s.page) (get_or-slots_of numbers sheets at below)
    ∙ length-take-le 256 (drop (256 * (at % 8)) sheet) (omega (arith, whole, length-drop (256 * (at % 8)) sheet))

pub slot_window : (numbers : List ℕ) (sheets : List (List (Option ℕ))) (known : Bool) (at start width place : ℕ)
    (sheet : List (Option ℕ)) → AreFilled (length numbers) sheets known → at < length numbers → start + width ≤ 256
    → sheet ≡ get_or sheets (at / 8) sheet → place ≡ 256 * (at % 8) + start
    → take width (drop place sheet)
    ≡ take width (drop start (get_or (slots_of numbers sheets) at blank_slot).page)
slot_window numbers sheets known at start width place sheet filled below inside read is =
    ap (λ p. take width (drop p sheet)) is
    ∙ ap (λ s. take width (drop (256 * (at % 8) + start) s)) (sheet_is numbers sheets known at sheet filled below read)
    ∙ sym (page_window (length numbers) sheets known at start width filled below inside)
    ∙ ap (λ (s : Slot). take width (drop start s.page)) (sym (get_or-slots_of numbers sheets at below))

-- what is written in a sheet, by where it stands there
pub made_in : (numbers : List ℕ) (sheets : List (List (Option ℕ))) (known : Bool) (at start place : ℕ)
    (sheet new cells : List (Option ℕ)) → AreFilled (length numbers) sheets known → at < length numbers
    → sheet ≡ get_or sheets (at / 8) sheet → place ≡ 256 * (at % 8) + start → new ≡ replaced sheet place cells
    → new ≡ replaced (get_or sheets (at / 8) []) (256 * (at % 8) + start) cells
made_in numbers sheets known at start place sheet new cells filled below read is made =
    made ∙ ap (λ p. replaced sheet p cells) is
    ∙ ap (λ s. replaced s (256 * (at % 8) + start) cells) (sheet_is numbers sheets known at sheet filled below read)
