use Rattle.std.proofs.Common.{◌≡◌, ◌∙◌, ℕ, ◌+◌, ◌*◌, ◌/◌, ◌%◌, ◌<◌, ◌≤◌, Bool, true, false, ⊎_elim, inl, inr, List, length, take, drop, Option, Some, sym, ap, arith, rules, tests}
use Rattle.std.proofs.lemmas.List.{length-take-le, length-drop, length-map}
use Rattle.std.specs.Prelude.{IsTrue}
use Rattle.tl_types.specs.Bytes.{bit_in, given_in, bytes_of_words}
use Rattle.tl_types.proofs.Given.{length-given_in}
use Rattle.tl_types.proofs.Words.{length-bytes_of_words}
use Rattle.tl_types.specs.declared.operation.AskOp.{AskOp}
use Rattle.tl_ops.specs.Store.{with_window}
use Rattle.tl_ops.specs.Window.{merged, new_window}
use Rattle.tl_ops.specs.declared.kind.Kind.TheVariants.{Ram}
use Rattle.tl_ops.proofs.Kept.{length-new_window}
use Rattle.tl_ops.proofs.LaneLists.{length-with_window}
use Rattle.check_memory.specs.Known.{known, replaced}
use Rattle.check_memory.specs.Cells.{new_cells, is_swap}
use Rattle.check_memory.proofs.PageCells.{atomic_shown, bit_in-part, either, neither}
use Rattle.check_memory.proofs.MaskWords.{put-known}
use Rattle.check_memory.proofs.sheet.Sheet.combine_words.Goals as goal

-- the window, as words and as bytes
words_long : (lanes words : List ℕ) (start n : ℕ) → n % 8 ≡ 0 → start + n ≤ length lanes
    → bytes_of_words words ≡ take (8 * (n / 8)) (drop start lanes) → 8 * length words ≡ n
words_long lanes words start n whole inside is =
    let wide : length (take (8 * (n / 8)) (drop start lanes)) ≡ 8 * (n / 8) =
    length-take-le (8 * (n / 8)) (drop start lanes) (omega (arith, inside, length-drop start lanes)) in
    omega (arith, whole, wide, ap length is, length-bytes_of_words words)

abbrev left_by : AskOp → List ℕ → ℕ → List (Option ℕ) → List ℕ
left_by op lanes start given = new_window Ram op (take (length given) (drop start lanes)) given

left_long : (op : AskOp) (lanes : List ℕ) (start : ℕ) (given : List (Option ℕ)) → start + length given ≤ length lanes
    → length (left_by op lanes start given) ≡ length given
left_long op lanes start given inside =
    let old = take (length given) (drop start lanes) in
    let wide : length old ≡ length given =
    length-take-le (length given) (drop start lanes) (omega (arith, inside, length-drop start lanes)) in
    length-new_window Ram op old given (sym wide) ∙ wide

window_is : (op : AskOp) (lanes words : List ℕ) (start : ℕ) (given window : List (Option ℕ)) → length given % 8 ≡ 0
    → bytes_of_words words ≡ take (8 * (length given / 8)) (drop start lanes)
    → window ≡ known (new_window Ram op (bytes_of_words words) given) → window ≡ known (left_by op lanes start given)
window_is op lanes words start given window whole is made =
    let all : 8 * (length given / 8) ≡ length given = omega (arith, whole) in
    made ∙ ap (λ bytes. known (new_window Ram op bytes given)) (is ∙ ap (λ n. take n (drop start lanes)) all)

window_long : (op : AskOp) (lanes : List ℕ) (start : ℕ) (given window : List (Option ℕ))
    → start + length given ≤ length lanes → window ≡ known (left_by op lanes start given)
    → length window ≡ length given
window_long op lanes start given window inside is =
    ap length is ∙ length-map (left_by op lanes start given) (λ byte. Some byte)
    ∙ left_long op lanes start given inside

put_is : (op : AskOp) (lanes new : List ℕ) (start : ℕ) (given window : List (Option ℕ))
    → start + length given ≤ length lanes → window ≡ known (left_by op lanes start given)
    → new ≡ with_window lanes start (merged (take (length window) (drop start lanes)) window)
    → new ≡ with_window lanes start (left_by op lanes start given)
put_is op lanes new start given window inside is put =
    put ∙ ap (λ w. with_window lanes start (merged (take (length w) (drop start lanes)) w)) is
    ∙ put-known lanes start (left_by op lanes start given)
    (omega (arith, inside, left_long op lanes start given inside))

-- the window is known where the masks of its words are full, and nowhere else
part_long : (masks part : List ℕ) (first count : ℕ) → first + count ≤ length masks
    → part ≡ take count (drop first masks) → length part ≡ count
part_long masks part first count inside is =
    ap length is ∙ length-take-le count (drop first masks) (omega (arith, inside, length-drop first masks))

abbrev AllSet : List ℕ → Type 0
AllSet masks = (place : ℕ) → place < 8 * length masks → bit_in masks place ≡ 1

whole_is : (full : Bool) (masks part : List ℕ) (first count start n : ℕ) → start ≡ 8 * first → 8 * count ≡ n
    → first + count ≤ length masks → part ≡ take count (drop first masks) → (IsTrue full → AllSet part)
    → full ≡ true → (k : ℕ) → k < n → bit_in masks (start + k) ≡ 1
whole_is full masks part first count start n at all inside is told set k below =
    let long = part_long masks part first count inside is in
    let set' : IsTrue full = search (rules, tests) in
    sym (bit_in-part masks first count start k at (omega (arith, below, all)))
    ∙ ap (λ ms. bit_in ms k) (sym is) ∙ told set' k (omega (arith, below, long, all))

gap_is : (full : Bool) (masks part : List ℕ) (first count start n : ℕ) → start ≡ 8 * first → 8 * count ≡ n
    → first + count ≤ length masks → part ≡ take count (drop first masks) → (AllSet part → IsTrue full)
    → full ≡ false → ((k : ℕ) → k < n → bit_in masks (start + k) ≡ 1) → ⊥
gap_is true masks part first count start n at all inside is told clear set_all = cc
gap_is false masks part first count start n at all inside is told clear set_all = none (told each)
  where
    none : IsTrue false → ⊥
    none set = search (rules, tests)

    each : AllSet part
    each place below =
        let within : place < 8 * count = omega (arith, below, part_long masks part first count inside is) in
        ap (λ ms. bit_in ms place) is ∙ bit_in-part masks first count start place at within
        ∙ set_all place (omega (arith, within, all))

-- what the lanes have room for
inside_of : (start n : ℕ) (masks lanes : List ℕ) (cells : List (Option ℕ)) → given_in (bit_in masks) lanes ≡ cells
    → start + n ≤ length cells → start + n ≤ length lanes
inside_of start n masks lanes cells is inside =
    omega (arith, inside, ap length is, length-given_in (bit_in masks) lanes)

pub part-requires : goal.part-requires
part-requires c = omega (
  arith,
  c.requires.words,
  c.requires.whole,
  c.len-width.ensures.value,
  inside_of c.args.start (length c.args.given.now) c.self.inside.masks c.self.inside.lanes c.args.self.now
      c.self.view_is c.requires.inside,
  c.self.invariant.lanes_counted,
  c.self.invariant.masks_counted,
)

pub words-requires-clause-inside : goal.words-requires-clause-inside
words-requires-clause-inside c = omega (
  arith,
  c.requires.words,
  c.len-width.ensures.value,
  inside_of c.args.start (length c.args.given.now) c.self.inside.masks c.self.inside.lanes c.args.self.now
      c.self.view_is c.requires.inside,
)

pub combined_words-window-requires-clause-some : goal.combined_words-window-requires-clause-some
combined_words-window-requires-clause-some c =
    let given = c.args.given.now in
    let start = c.args.start in
    let lanes = c.self.inside.lanes in
    let inside = inside_of start (length given) c.self.inside.masks lanes c.args.self.now c.self.view_is
    c.requires.inside in
    let is = rw c.len-width.ensures.value at c.words.ensures in
    let long = words_long lanes c.words.result.now start (length given) c.requires.words inside is in
    omega (arith, long, c.requires.some)

pub combined_words-window-requires-clause-paired : goal.combined_words-window-requires-clause-paired
combined_words-window-requires-clause-paired c =
    let given = c.args.given.now in
    let start = c.args.start in
    let lanes = c.self.inside.lanes in
    let inside = inside_of start (length given) c.self.inside.masks lanes c.args.self.now c.self.view_is
    c.requires.inside in
    let is = rw c.len-width.ensures.value at c.words.ensures in
    sym (words_long lanes c.words.result.now start (length given) c.requires.words inside is)

pub put-requires-clause-fits : goal.put-requires-clause-fits
put-requires-clause-fits c =
    let given = c.args.given.now in
    let start = c.args.start in
    let lanes = c.self.inside.lanes in
    let inside = inside_of start (length given) c.self.inside.masks lanes c.args.self.now c.self.view_is
    c.requires.inside in
    let is = rw c.len-width.ensures.value at c.words.ensures in
    let window = window_is c.args.op lanes c.words.result.now start given c.combined_words-window.result c.requires.words
    is c.combined_words-window.ensures in
    let long = window_long c.args.op lanes start given c.combined_words-window.result inside window in
    record {
      some = omega (arith, long, c.requires.some);
      cell = λ small. omega (arith, long, small, c.requires.some, c.requires.words);
      whole_start = λ _. c.requires.whole;
      whole_width = λ _. omega (arith, long, c.requires.words);
    }

pub put-requires-clause-inside : goal.put-requires-clause-inside
put-requires-clause-inside c =
    let given = c.args.given.now in
    let start = c.args.start in
    let lanes = c.self.inside.lanes in
    let inside = inside_of start (length given) c.self.inside.masks lanes c.args.self.now c.self.view_is
    c.requires.inside in
    let is = rw c.len-width.ensures.value at c.words.ensures in
    let window = window_is c.args.op lanes c.words.result.now start given c.combined_words-window.result c.requires.words
    is c.combined_words-window.ensures in
    let long = window_long c.args.op lanes start given c.combined_words-window.result inside window in
    omega (arith, long, inside)

pub mark_words-requires : goal.mark_words-requires
mark_words-requires c = omega (
  arith,
  c.requires.words,
  c.requires.whole,
  c.len-width.ensures.value,
  inside_of c.args.start (length c.args.given.now) c.self.inside.masks c.self.inside.lanes c.args.self.now
      c.self.view_is c.requires.inside,
  c.self.invariant.lanes_counted,
  c.self.invariant.masks_counted,
)

pub invariant_of-self : goal.invariant_of-self
invariant_of-self c =
    let given = c.args.given.now in
    let start = c.args.start in
    let lanes = c.self.inside.lanes in
    let inside = inside_of start (length given) c.self.inside.masks lanes c.args.self.now c.self.view_is
    c.requires.inside in
    let is = rw c.len-width.ensures.value at c.words.ensures in
    let window = window_is c.args.op lanes c.words.result.now start given c.combined_words-window.result c.requires.words
    is c.combined_words-window.ensures in
    let new = put_is c.args.op lanes c.put.new.self start given c.combined_words-window.result inside window
    c.put.ensures.after in
    let left = left_by c.args.op lanes start given in
    record {
      lanes_counted = ap length new
          ∙ length-with_window lanes start left (omega (arith, inside, left_long c.args.op lanes start given inside))
          ∙ c.self.invariant.lanes_counted;
      masks_counted = c.mark_words.auto.masks ∙ c.self.invariant.masks_counted;
    }

pub returns-clause-after : goal.returns-clause-after
returns-clause-after c =
    let given = c.args.given.now in
    let op = c.args.op in
    let n = length given in
    let start = c.args.start in
    let masks = c.self.inside.masks in
    let lanes = c.self.inside.lanes in
    let first = start / 8 in
    let count = n / 8 in
    let full = c.are_full-full.result in
    let at : start ≡ 8 * first = omega (arith, c.requires.whole) in
    let all : 8 * count ≡ n = omega (arith, c.requires.words) in
    let inside = inside_of start n masks lanes c.args.self.now c.self.view_is c.requires.inside in
    let room : first + count ≤ length masks =
    omega (arith, at, all, inside, c.self.invariant.lanes_counted, c.self.invariant.masks_counted) in
    let is = rw c.len-width.ensures.value at c.words.ensures in
    let part_is = rw c.len-width.ensures.value at c.part.ensures in
    let marked = rw c.len-width.ensures.value at c.mark_words.ensures.inside in
    let others = rw c.len-width.ensures.value at c.mark_words.ensures.outside in
    let window = window_is op lanes c.words.result.now start given c.combined_words-window.result c.requires.words is
    c.combined_words-window.ensures in
    let new = put_is op lanes c.put.new.self start given c.combined_words-window.result inside window
    c.put.ensures.after in
    let left : List (Option ℕ) → List (Option ℕ) =
    λ cells. replaced cells start (new_cells Ram op (take n (drop start cells)) given) in
    ap (given_in (bit_in c.mark_words.new.masks)) new
    ∙ atomic_shown op masks c.mark_words.new.masks lanes start given c.is_known_after.result full inside c.requires.atomic
    (λ k below. marked (start + k) (omega (arith, at)) (omega (arith, at, all, below)))
    (λ place beside. others place
    (⊎_elim (λ before. inl (omega (arith, before, at))) (λ past. inr (omega (arith, past, at, all))) beside))
    (whole_is full masks c.part.result.now first count start n at all room part_is c.are_full-full.ensures.0)
    (gap_is full masks c.part.result.now first count start n at all room part_is c.are_full-full.ensures.1)
    (λ set. either full (is_swap op) (sym c.is_known_after.ensures ∙ set))
    (λ clear. neither full (is_swap op) (sym c.is_known_after.ensures ∙ clear))
    ∙ ap left c.self.view_is

pub returns-clause-len : goal.returns-clause-len
returns-clause-len c =
    let given = c.args.given.now in
    let start = c.args.start in
    let lanes = c.self.inside.lanes in
    let inside = inside_of start (length given) c.self.inside.masks lanes c.args.self.now c.self.view_is
    c.requires.inside in
    let is = rw c.len-width.ensures.value at c.words.ensures in
    let window = window_is c.args.op lanes c.words.result.now start given c.combined_words-window.result c.requires.words
    is c.combined_words-window.ensures in
    let new = put_is c.args.op lanes c.put.new.self start given c.combined_words-window.result inside window
    c.put.ensures.after in
    let left = left_by c.args.op lanes start given in
    length-given_in (bit_in c.mark_words.new.masks) c.put.new.self ∙ ap length new
    ∙ length-with_window lanes start left (omega (arith, inside, left_long c.args.op lanes start given inside))
    ∙ sym (length-given_in (bit_in c.self.inside.masks) lanes) ∙ ap length c.self.view_is
