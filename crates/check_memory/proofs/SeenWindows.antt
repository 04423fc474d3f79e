-- The window of a request, as it is seen.
use Rattle.std.proofs.Common.{◌≡◌, ◌∙◌, inl, inr, ⊎_elim, ℕ, ◌+◌, ◌^◌, ◌<◌, ◌≤◌, Bool, true, false, if◌then◌else◌, List, [], ◌∷◌, length, take, drop, get_or, Option, None, Some, refl, sym, ap, arith}
use Rattle.std.proofs.lemmas.List.{ext_get_or, length-take-le, length-drop, get_or-take, get_or-drop}
use Rattle.tl_types.specs.Operation.{reply_op_of, reply_carries_bytes}
use Rattle.tl_types.specs.Request.{Request}
use Rattle.tl_types.specs.declared.operation.AskOp.{AskOp}
use Rattle.tl_types.specs.declared.operation.ReplyOp.{ReplyOp}
use Rattle.tl_types.specs.declared.operation.ReplyOp.TheVariants.{AccessAck, AccessAckData, HintAck}
use Rattle.tl_ops.specs.declared.kind.Kind.{Kind}
use Rattle.tl_map.specs.declared.range.Range.{Range}
use Rattle.check_memory.specs.Known.{replaced}
use Rattle.check_memory.specs.Cells.{new_cells, unknown_where, forgotten_cell, forgotten}
use Rattle.check_memory.specs.Partial.{Partial, first_of, start_in, start_of, holds, permits, takes_bytes, visible, window_of, after_partial, after_forgetting, AreWithin}
use Rattle.check_memory.specs.Pattern.{Pattern, pattern, shown_cells}
use Rattle.check_memory.proofs.Forgotten.{marked, length-marked, get_or-marked}
use Rattle.check_memory.proofs.Legal.{replaced-same}
use Rattle.check_memory.proofs.PagePlaces.{length-new_cells}
use Rattle.check_memory.proofs.Replaced.{length-replaced, get_or-replaced_in, get_or-replaced_out, replaced_by_places}
use Rattle.check_memory.proofs.Soundness.{within_if_held, held_if_permitted, taken}
use Rattle.check_memory.proofs.Unknown.{get_or-unknown, length-unknown_where, unknown_none, window-unknown}

-- ---- where no range is volatile

pub empty_if : (ranges : List Range) → length ranges ≡ 0 → ranges ≡ []
empty_if [] none = refl
empty_if (range ∷ ranges) none = absurd (omega (arith, none))

pub none_hidden : (volatile : List Range) (address : ℕ) (cells : List (Option ℕ)) → length volatile ≡ 0
    → cells ≡ unknown_where (λ place. holds volatile (address + place) 1) cells
none_hidden volatile address cells none =
    sym (unknown_none (λ place. holds volatile (address + place) 1) cells
    (λ k below. ap (λ ranges. holds ranges (address + k) 1) (empty_if volatile none)))

pub none_forgotten : (volatile : List Range) (start n : ℕ) (cells : List (Option ℕ)) → length volatile ≡ 0
    → cells ≡ replaced cells start (take n (drop start (unknown_where (λ place. holds volatile place 1) cells)))
none_forgotten volatile start n cells none =
    sym (ap (λ seen. replaced cells start (take n (drop start seen)))
    (unknown_none (λ place. holds volatile place 1) cells
    (λ k below. ap (λ ranges. holds ranges k 1) (empty_if volatile none)))
    ∙ replaced-same cells start n)

-- ---- bytes that are forgotten

flag_hides : (flag : Bool) (cell : Option ℕ) → forgotten_cell flag cell ≡ (if flag then None else cell)
flag_hides true cell = refl
flag_hides false cell = refl

pub forgotten_seen : (test : ℕ → Bool) (flags : List Bool) (start : ℕ) (cells : List (Option ℕ))
    → start + length flags ≤ length cells → ((k : ℕ) → k < length flags → get_or flags k false ≡ test (start + k))
    → forgotten flags start cells ≡ replaced cells start (take (length flags) (drop start (unknown_where test cells)))
forgotten_seen test flags start cells inside are =
    ap (replaced cells start) (ext_get_or None (marked flags (drop start cells)) (take (length flags) (drop start less))
    (long ∙ sym long')
    (λ k below.
    let within : k < length flags = omega (arith, below, long) in
    get_or-marked flags (drop start cells) k room within
    ∙ flag_hides (get_or flags k false) (get_or (drop start cells) k None)
    ∙ ap (λ (b : Bool). if b then None else get_or (drop start cells) k None) (are k within)
    ∙ ap (λ (c : Option ℕ). if test (start + k) then None else c) (get_or-drop start cells k None)
    ∙ sym (get_or-take (length flags) (drop start less) k None within ∙ get_or-drop start less k None
    ∙ get_or-unknown test cells (start + k))))
  where
    less : List (Option ℕ)
    less = unknown_where test cells

    room : length flags ≤ length (drop start cells)
    room = omega (arith, inside, length-drop start cells)

    long : length (marked flags (drop start cells)) ≡ length flags
    long = length-marked flags (drop start cells) room

    long' : length (take (length flags) (drop start less)) ≡ length flags
    long' = length-take-le (length flags) (drop start less)
        (omega (arith, inside, length-drop start less, length-unknown_where test cells))

-- ---- a window that is replaced twice

pub window-replaced : (cells new : List (Option ℕ)) (start : ℕ) → start + length new ≤ length cells
    → take (length new) (drop start (replaced cells start new)) ≡ new
window-replaced cells new start inside =
    let all = replaced cells start new in
    let long : length (take (length new) (drop start all)) ≡ length new =
    length-take-le (length new) (drop start all)
    (omega (arith, inside, length-drop start all, length-replaced cells new start inside)) in
    ext_get_or None (take (length new) (drop start all)) new long (λ k below.
    let within : k < length new = omega (arith, below, long) in
    get_or-take (length new) (drop start all) k None within ∙ get_or-drop start all k None
    ∙ get_or-replaced_in cells new start k inside within)

pub replaced-twice : (cells new more : List (Option ℕ)) (start : ℕ) → start + length new ≤ length cells
    → length more ≡ length new → replaced (replaced cells start new) start more ≡ replaced cells start more
replaced-twice cells new more start inside same =
    let once = replaced cells start new in
    let counted : length once ≡ length cells = length-replaced cells new start inside in
    let room : start + length more ≤ length once = omega (arith, inside, same, counted) in
    replaced_by_places cells (replaced once start more) more start (omega (arith, inside, same))
    (length-replaced once more start room ∙ counted)
    (λ j below. get_or-replaced_in once more start j room below)
    (λ place beside. get_or-replaced_out once more start place room beside
    ∙ get_or-replaced_out cells new start place inside
    (⊎_elim (λ before. inl before) (λ past. inr (omega (arith, past, same))) beside))

-- what a request leaves in its window, if that was replaced by what is seen of it
pub left_after : (kind : Kind) (op : AskOp) (cells now seen' given : List (Option ℕ)) (start n : ℕ)
    → start + n ≤ length cells → length seen' ≡ n → length given ≡ n → now ≡ replaced cells start seen'
    → replaced now start (new_cells kind op (take n (drop start now)) given)
    ≡ replaced cells start (new_cells kind op seen' given)
left_after kind op cells now seen' given start n inside wide counted is =
    let fits : start + length seen' ≤ length cells = omega (arith, inside, wide) in
    let window : take n (drop start now) ≡ seen' =
    ap (λ cs. take n (drop start cs)) is
    ∙ ap (λ k. take k (drop start (replaced cells start seen'))) (sym wide)
    ∙ window-replaced cells seen' start fits in
    ap (λ old. replaced now start (new_cells kind op old given)) window
    ∙ ap (λ cs. replaced cs start (new_cells kind op seen' given)) is
    ∙ replaced-twice cells seen' (new_cells kind op seen' given) start fits
    (length-new_cells kind op seen' given (counted ∙ sym wide))

pub window_then : (cells now seen' : List (Option ℕ)) (start n : ℕ) → start + n ≤ length cells → length seen' ≡ n
    → now ≡ replaced cells start seen' → take n (drop start now) ≡ seen'
window_then cells now seen' start n inside wide is =
    ap (λ cs. take n (drop start cs)) is
    ∙ ap (λ k. take k (drop start (replaced cells start seen'))) (sym wide)
    ∙ window-replaced cells seen' start (omega (arith, inside, wide))

-- ---- in a memory

pub in_space : (memory : Partial) (ask : Request) → AreWithin memory.ranges (2 ^ 64) → permits memory ask ≡ true
    → (start_of memory ask) + 2 ^ ask.size ≤ 2 ^ 64
in_space memory ask within is =
    within_if_held memory.ranges (2 ^ 64) (start_of memory ask) (2 ^ ask.size) within (held_if_permitted memory ask is)

-- bytes that were read, and those of them hidden that are volatile
pub looked : (memory : Partial) (volatile : List Range) (cells read left : List (Option ℕ)) (start width : ℕ)
    → volatile ≡ memory.volatile → cells ≡ memory.cells → read ≡ take width (drop start cells)
    → left ≡ unknown_where (λ place. holds volatile (start + place) 1) read
    → left ≡ take width (drop start (visible memory))
looked memory volatile cells read left start width same same' is hidden =
    hidden
    ∙ ap (unknown_where (λ place. holds volatile (start + place) 1)) is
    ∙ sym (window-unknown (λ place. holds volatile place 1) cells start width)
    ∙ ap (λ (ranges : List Range). take width (drop start (unknown_where (λ place. holds ranges place 1) cells))) same
    ∙ ap (λ cs. take width (drop start (unknown_where (λ place. holds memory.volatile place 1) cs))) same'

-- so many bytes from where its window stands are all of it
pub all_looked : (memory : Partial) (ask : Request) (left : List (Option ℕ)) (start width : ℕ)
    → start ≡ start_of memory ask → width ≡ 2 ^ ask.size → left ≡ take width (drop start (visible memory))
    → left ≡ window_of memory ask
all_looked memory ask left start width at wide is =
    is ∙ ap (λ n. take width (drop n (visible memory))) at
    ∙ ap (λ n. take n (drop (start_of memory ask) (visible memory))) wide

-- a memory that is seen in one place has a window where its address says
pub unmoved : (memory : Partial) (ask : Request) → memory.mirrors ≡ [] → ask.address ≡ start_of memory ask
unmoved memory ask alone =
    sym (ap (λ bases. start_in (first_of memory.ranges) bases ask.address (2 ^ ask.size)) alone)

shown_carried : (op : ReplyOp) (cells : List (Option ℕ)) → reply_carries_bytes op ≡ true → cells ≡ shown_cells op cells
shown_carried AccessAck cells carries = cc
shown_carried AccessAckData cells carries = refl
shown_carried HintAck cells carries = cc

-- the answer to a legal request
pub answered_legal : (memory : Partial) (ask : Request) (cells : List (Option ℕ)) → permits memory ask ≡ true
    → cells ≡ shown_cells (reply_op_of ask.op) (window_of memory ask)
    → record {
      op = reply_op_of ask.op;
      size = ask.size;
      source = ask.source;
      denied = Some false;
      bytes = cells;
      spoiled = [];
    } ≡ pattern memory ask
answered_legal memory ask cells is same =
    let shows : List (Option ℕ) → Pattern =
    λ bytes. record {
      op = reply_op_of ask.op;
      size = ask.size;
      source = ask.source;
      denied = Some false;
      bytes = bytes;
      spoiled = [];
    } in
    ap shows same ∙ sym (legal_pattern is)
  where
    legal_pattern : permits memory ask ≡ true → pattern memory ask ≡ record {
      op = reply_op_of ask.op;
      size = ask.size;
      source = ask.source;
      denied = Some false;
      bytes = shown_cells (reply_op_of ask.op) (window_of memory ask);
      spoiled = [];
    }
    legal_pattern is' = rw (is', pattern) refl

-- of which the reply carries bytes
pub answered : (memory : Partial) (ask : Request) (cells : List (Option ℕ)) → permits memory ask ≡ true
    → reply_carries_bytes (reply_op_of ask.op) ≡ true → cells ≡ window_of memory ask
    → record {
      op = reply_op_of ask.op;
      size = ask.size;
      source = ask.source;
      denied = Some false;
      bytes = cells;
      spoiled = [];
    } ≡ pattern memory ask
answered memory ask cells is carries same =
    answered_legal memory ask cells is (same ∙ shown_carried (reply_op_of ask.op) (window_of memory ask) carries)

-- what is seen of pages that hold the cells of a memory
pub window_is : (memory : Partial) (ask : Request) (volatile : List Range) (pages : List (Option ℕ))
    → memory.mirrors ≡ [] → volatile ≡ memory.volatile → pages ≡ memory.cells
    → take (2 ^ ask.size) (drop ask.address (unknown_where (λ place. holds volatile place 1) pages))
    ≡ window_of memory ask
window_is memory ask volatile pages alone same same' =
    ap (λ a. take (2 ^ ask.size) (drop a (unknown_where (λ place. holds volatile place 1) pages)))
    (unmoved memory ask alone)
    ∙ ap (λ (ranges : List Range).
    take (2 ^ ask.size) (drop (start_of memory ask) (unknown_where (λ place. holds ranges place 1) pages))) same
    ∙ ap (λ cells. take (2 ^ ask.size) (drop (start_of memory ask) (unknown_where (λ place. holds memory.volatile place 1) cells)))
    same'

-- the memory after a request of which this was left
pub left_is : (memory : Partial) (ask : Request) (start : ℕ) (pages old new now : List (Option ℕ)) (kind : Kind)
    → takes_bytes memory ask ≡ true → start ≡ start_of memory ask → kind ≡ memory.kind → pages ≡ memory.cells
    → old ≡ window_of memory ask → new ≡ new_cells kind ask.op old ask.bytes → now ≡ replaced pages start new
    → record memory { cells = now } ≡ after_partial memory ask
left_is memory ask start pages old new now kind takes at kinds same window left is =
    ap (λ (cells : List (Option ℕ)). record memory { cells = cells })
    (is ∙ ap (replaced pages start) (left
    ∙ ap (λ cells. new_cells kind ask.op cells ask.bytes) window
    ∙ ap (λ k. new_cells k ask.op (window_of memory ask) ask.bytes) kinds)
    ∙ ap (λ n. replaced pages n (new_cells memory.kind ask.op (window_of memory ask) ask.bytes)) at
    ∙ ap (λ cells. replaced cells (start_of memory ask) (new_cells memory.kind ask.op (window_of memory ask) ask.bytes)) same)
    ∙ sym (taken memory ask takes)

-- the memory after a request that was served in pages
pub served_is : (memory : Partial) (ask : Request) (kind : Kind) (volatile : List Range) (pages now : List (Option ℕ))
    → takes_bytes memory ask ≡ true → memory.mirrors ≡ [] → kind ≡ memory.kind → volatile ≡ memory.volatile
    → pages ≡ memory.cells
    → now ≡ replaced pages ask.address (new_cells kind ask.op
    (take (2 ^ ask.size) (drop ask.address (unknown_where (λ place. holds volatile place 1) pages))) ask.bytes)
    → record memory { cells = now } ≡ after_partial memory ask
served_is memory ask kind volatile pages now takes alone kinds same same' is =
    let old = take (2 ^ ask.size) (drop ask.address (unknown_where (λ place. holds volatile place 1) pages)) in
    left_is memory ask ask.address pages old (new_cells kind ask.op old ask.bytes) now kind takes
    (unmoved memory ask alone) kinds same' (window_is memory ask volatile pages alone same same') refl is

-- and of which bytes were forgotten then
pub forgot_is : (memory : Partial) (ask : Request) (flags : List Bool) (first : ℕ) (now left : List (Option ℕ))
    → takes_bytes memory ask ≡ true → record memory { cells = now } ≡ after_partial memory ask
    → left ≡ forgotten flags first now → record memory { cells = left } ≡ after_forgetting memory ask first flags
forgot_is memory ask flags first now left takes served is =
    ap (λ (cells : List (Option ℕ)). record memory { cells = cells }) is
    ∙ ap (λ (m : Partial). record m { cells = forgotten flags first m.cells }) served
    ∙ sym (taking takes)
  where
    taking : takes_bytes memory ask ≡ true → after_forgetting memory ask first flags
        ≡ record (after_partial memory ask) { cells = forgotten flags first (after_partial memory ask).cells }
    taking is' = rw (is', after_forgetting) refl
