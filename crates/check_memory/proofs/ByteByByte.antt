-- Windows that are read and written byte by byte.
use Rattle.std.proofs.Common.{◌≡◌, ◌∙◌, inr, ℕ, zero, suc, ◌+◌, ◌^◌, ◌<◌, ◌≤◌, Bool, true, false, List, [], ◌∷◌, ◌++◌, length, take, drop, get_or, slice_get, Option, None, Some, refl, sym, ap, arith}
use Rattle.std.proofs.lemmas.List.{length-take-le, length-drop, get_or-take, get_or-drop}
use Rattle.tl_types.specs.Request.{Request}
use Rattle.tl_types.specs.declared.operation.AskOp.{AskOp}
use Rattle.tl_ops.specs.declared.kind.Kind.{Kind}
use Rattle.check_memory.specs.Known.{replaced}
use Rattle.check_memory.specs.Cells.{new_cells, forgotten_cell, forgotten}
use Rattle.check_memory.specs.Partial.{Partial, start_of, takes_bytes, is_volatile, visible, window_of, after_partial, after_forgetting}
use Rattle.check_memory.specs.Paged.{Paged, Slot, HasPage, KeepsPages, content, paged_cells}
use Rattle.check_memory.proofs.Forgotten.{marked, length-marked}
use Rattle.check_memory.proofs.Legal.{replaced-same}
use Rattle.check_memory.proofs.PagePlaces.{length-new_cells}
use Rattle.check_memory.proofs.Replaced.{length-replaced, get_or-replaced_out}
use Rattle.check_memory.proofs.SeenWindows.{window_then}
use Rattle.check_memory.proofs.Space.{length-tabulate, replaced-more}
use Rattle.check_memory.proofs.Unknown.{got, length-unknown_where}

-- a page that there was is there
pub still_there : (old new : List Slot) (number : ℕ) → KeepsPages old new → HasPage old number → HasPage new number
still_there old new number kept has = (has.0, kept number has.0 has.1)

-- ---- one item more

pub take-more : {A : Type 0} (k : ℕ) (items : List A) (other : A) → k < length items
    → take k items ++ get_or items k other ∷ [] ≡ take (suc k) items
take-more k [] other below = absurd (omega (arith, below))
take-more zero (item ∷ items) other below = refl
take-more (suc k) (item ∷ items) other below =
    ap (λ rest. item ∷ rest) (take-more k items other (omega (arith, below)))

take-one : (cells : List (Option ℕ)) → 0 < length cells → take 1 cells ≡ get_or cells 0 None ∷ []
take-one [] some = absurd (omega (arith, some))
take-one (cell ∷ cells) some = refl

-- ---- one byte read

pub some_read : (cells read : List (Option ℕ)) (address : ℕ) → address < length cells
    → read ≡ take 1 (drop address cells) → 0 < length read
some_read cells read address below is =
    omega (
      arith,
      ap length is,
      length-take-le 1 (drop address cells) (omega (arith, below, length-drop address cells)),
    )

-- each address has a byte that is seen, known or not
pub is_seen : (memory : Partial) (pages : Paged) (place : ℕ) → memory.cells ≡ paged_cells pages → place < 2 ^ 64
    → place < length (visible memory)
is_seen memory pages place are below =
    omega (
      arith,
      below,
      length-unknown_where (is_volatile memory) memory.cells,
      ap length are,
      length-tabulate (content pages.slots pages.known) (2 ^ 64),
    )

pub byte_read : (cells read : List (Option ℕ)) (address : ℕ) (byte : Option ℕ) → address < length cells
    → read ≡ take 1 (drop address cells) → slice_get read 0 ≡ Some byte → byte ≡ get_or cells address None
byte_read cells read address byte below is shown =
    let at : address + 0 ≡ address = omega arith in
    sym (got read 0 byte shown) ∙ ap (λ (items : List (Option ℕ)). get_or items 0 None) is
    ∙ get_or-take 1 (drop address cells) 0 None (omega arith) ∙ get_or-drop address cells 0 None
    ∙ ap (λ a. get_or cells a None) at

pub read-more : (cells : List (Option ℕ)) (address k : ℕ) (byte : Option ℕ) → address + k < length cells
    → byte ≡ get_or cells (address + k) None
    → take k (drop address cells) ++ byte ∷ [] ≡ take (k + 1) (drop address cells)
read-more cells address k byte below is =
    let next : suc k ≡ k + 1 = omega arith in
    ap (λ b. take k (drop address cells) ++ b ∷ []) (is ∙ sym (get_or-drop address cells k None))
    ∙ take-more k (drop address cells) None (omega (arith, below, length-drop address cells))
    ∙ ap (λ n. take n (drop address cells)) next

-- ---- bytes written

pub written-more : (cells new : List (Option ℕ)) (start k : ℕ) (byte : Option ℕ) → start ≤ length cells
    → k < length new → byte ≡ get_or new k None
    → replaced (replaced cells start (take k new)) (start + k) (byte ∷ []) ≡ replaced cells start (take (k + 1) new)
written-more cells new start k byte inside below is =
    let next : suc k ≡ k + 1 = omega arith in
    replaced-more cells (take k new) (byte ∷ []) start (start + k) inside
    (omega (arith, length-take-le k new (omega (arith, below))))
    ∙ ap (λ b. replaced cells start (take k new ++ b ∷ [])) is
    ∙ ap (replaced cells start) (take-more k new None below)
    ∙ ap (λ n. replaced cells start (take n new)) next

-- ---- bytes forgotten

pub one-forgotten : (cells : List (Option ℕ)) (start : ℕ) → start < length cells
    → forgotten (true ∷ []) start cells ≡ replaced cells start (None ∷ [])
one-forgotten cells start below =
    ap (replaced cells start) (one (drop start cells) (omega (arith, below, length-drop start cells)))
  where
    one : (rest : List (Option ℕ)) → 0 < length rest → marked (true ∷ []) rest ≡ None ∷ []
    one [] some = absurd (omega (arith, some))
    one (cell ∷ rest) some = refl

marked-more : (flags : List Bool) (cells : List (Option ℕ)) (k : ℕ) → k < length flags → k < length cells
    → marked (take k flags) cells ++ forgotten_cell (get_or flags k false) (get_or cells k None) ∷ []
    ≡ marked (take (suc k) flags) cells
marked-more [] cells k below room = absurd (omega (arith, below))
marked-more (flag ∷ flags) [] k below room = absurd (omega (arith, room))
marked-more (flag ∷ flags) (cell ∷ cells) zero below room = refl
marked-more (flag ∷ flags) (cell ∷ cells) (suc k) below room =
    ap (λ rest. forgotten_cell flag cell ∷ rest)
    (marked-more flags cells k (omega (arith, below)) (omega (arith, room)))

long-marked : (flags : List Bool) (start : ℕ) (cells : List (Option ℕ)) (k : ℕ)
    → start + length flags ≤ length cells → k < length flags → length (marked (take k flags) (drop start cells)) ≡ k
long-marked flags start cells k inside below =
    let some : length (take k flags) ≡ k = length-take-le k flags (omega (arith, below)) in
    length-marked (take k flags) (drop start cells) (omega (arith, some, inside, below, length-drop start cells)) ∙ some

-- a byte put in place of the next one, or its flag says that it stays
next-forgotten : (flags : List Bool) (start : ℕ) (cells : List (Option ℕ)) (k : ℕ)
    → start + length flags ≤ length cells → k < length flags
    → replaced (forgotten (take k flags) start cells) (start + k)
    (forgotten_cell (get_or flags k false) (get_or (drop start cells) k None) ∷ [])
    ≡ forgotten (take (k + 1) flags) start cells
next-forgotten flags start cells k inside below =
    let next : suc k ≡ k + 1 = omega arith in
    let new = marked (take k flags) (drop start cells) in
    let long = long-marked flags start cells k inside below in
    replaced-more cells new (forgotten_cell (get_or flags k false) (get_or (drop start cells) k None) ∷ []) start
    (start + k) (omega (arith, inside)) (omega (arith, long))
    ∙ ap (replaced cells start)
    (marked-more flags (drop start cells) k below (omega (arith, inside, below, length-drop start cells)))
    ∙ ap (λ n. forgotten (take n flags) start cells) next

pub flag-put : (flags : List Bool) (start : ℕ) (cells : List (Option ℕ)) (k : ℕ)
    → start + length flags ≤ length cells → k < length flags → get_or flags k false ≡ true
    → replaced (forgotten (take k flags) start cells) (start + k) (None ∷ []) ≡ forgotten (take (k + 1) flags) start cells
flag-put flags start cells k inside below is =
    ap (λ (flag : Bool). replaced (forgotten (take k flags) start cells) (start + k)
    (forgotten_cell flag (get_or (drop start cells) k None) ∷ [])) (sym is)
    ∙ next-forgotten flags start cells k inside below

pub flag-kept : (flags : List Bool) (start : ℕ) (cells : List (Option ℕ)) (k : ℕ)
    → start + length flags ≤ length cells → k < length flags → get_or flags k false ≡ false
    → forgotten (take k flags) start cells ≡ forgotten (take (k + 1) flags) start cells
flag-kept flags start cells k inside below is =
    let new = marked (take k flags) (drop start cells) in
    let long = long-marked flags start cells k inside below in
    let now = forgotten (take k flags) start cells in
    let counted : length now ≡ length cells = length-replaced cells new start (omega (arith, long, inside, below)) in
    let there : get_or now (start + k) None ≡ get_or (drop start cells) k None =
    get_or-replaced_out cells new start (start + k) (omega (arith, long, inside, below)) (inr (omega (arith, long)))
    ∙ sym (get_or-drop start cells k None) in
    let at : start + k + 0 ≡ start + k = omega arith in
    let one : take 1 (drop (start + k) now) ≡ get_or (drop start cells) k None ∷ [] =
    take-one (drop (start + k) now) (omega (arith, counted, inside, below, length-drop (start + k) now))
    ∙ ap (λ (b : Option ℕ). b ∷ []) (get_or-drop (start + k) now 0 None ∙ ap (λ a. get_or now a None) at ∙ there) in
    sym (replaced-same now (start + k) 1)
    ∙ ap (replaced now (start + k)) one
    ∙ ap (λ (flag : Bool). replaced now (start + k) (forgotten_cell flag (get_or (drop start cells) k None) ∷ []))
    (sym is)
    ∙ next-forgotten flags start cells k inside below

-- no flags
pub none-flagged : (start : ℕ) (cells : List (Option ℕ)) → forgotten [] start cells ≡ cells
none-flagged start cells = replaced-same cells start 0

-- ---- a window apart from all others

-- what a request leaves of bytes that were written before it
pub left_apart : (kind : Kind) (op : AskOp) (before wrote served read cells given : List (Option ℕ)) (address width : ℕ)
    → address + width ≤ length before → length cells ≡ width → length given ≡ width
    → wrote ≡ replaced before address cells
    → served ≡ replaced wrote address (new_cells kind op (take width (drop address wrote)) given)
    → read ≡ take width (drop address served) → read ≡ new_cells kind op cells given
left_apart kind op before wrote served read cells given address width inside wide counted is is' shown =
    let old = take width (drop address wrote) in
    let window : old ≡ cells = window_then before wrote cells address width inside wide is in
    let old_wide : length old ≡ width = ap length window ∙ wide in
    let new = new_cells kind op old given in
    let new_wide : length new ≡ width = length-new_cells kind op old given (counted ∙ sym old_wide) ∙ old_wide in
    let long : length wrote ≡ length before =
    ap length is ∙ length-replaced before cells address (omega (arith, inside, wide)) in
    shown ∙ window_then wrote served new address width (omega (arith, inside, long)) new_wide is'
    ∙ ap (λ seen. new_cells kind op seen given) window

-- ---- in a memory

pub window_wide : (memory : Partial) (ask : Request) → start_of memory ask + 2 ^ ask.size ≤ length memory.cells
    → length (window_of memory ask) ≡ 2 ^ ask.size
window_wide memory ask room =
    length-take-le (2 ^ ask.size) (drop (start_of memory ask) (visible memory))
    (omega (
      arith,
      room,
      length-drop (start_of memory ask) (visible memory),
      length-unknown_where (is_volatile memory) memory.cells,
    ))

-- a request after which no byte is flagged forgets none
pub forgets_none : (memory : Partial) (ask : Request) (first : ℕ)
    → after_forgetting memory ask first [] ≡ after_partial memory ask
forgets_none memory ask first = by_cases (takes_bytes memory ask) refl
  where
    taking : takes_bytes memory ask ≡ true → after_forgetting memory ask first []
        ≡ record (after_partial memory ask) { cells = forgotten [] first (after_partial memory ask).cells }
    taking is = rw (is, after_forgetting) refl

    by_cases : (takes : Bool) → takes_bytes memory ask ≡ takes
        → after_forgetting memory ask first [] ≡ after_partial memory ask
    by_cases true is = taking is ∙ ap (λ (cells : List (Option ℕ)). record (after_partial memory ask) { cells = cells })
        (none-flagged first (after_partial memory ask).cells)
    by_cases false is = rw (is, after_forgetting) refl
