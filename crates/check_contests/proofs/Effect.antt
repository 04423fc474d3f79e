-- What a request makes of each byte of a memory, by its address.
use Rattle.std.proofs.Common.{◌≡◌, ◌∙◌, ◌⊎◌, inl, inr, ⊎_elim, ℕ, zero, suc, [], ◌∷◌, ◌+◌, ◌-◌, ◌^◌, ◌<◌, ◌≤◌, Bool, true, false, ◌&&◌, nat_le, nat_lt, if◌then◌else◌, List, length, take, drop, get_or, Option, Some, None, refl, sym, ap, subst, arith}
use Rattle.std.specs.Prelude.{is_some}
use Rattle.std.proofs.lemmas.Bool.{and_parts, and_from, cases_lt, leb-true, ltb-true, le-leb, lt-ltb}
use Rattle.std.proofs.lemmas.List.{length-take-le, length-drop, get_or-take, get_or-drop}
use Rattle.tl_types.specs.Operation.{carries_bytes, byte_count}
use Rattle.tl_types.specs.Request.{Request}
use Rattle.tl_types.specs.declared.operation.AskOp.{AskOp}
use Rattle.tl_types.specs.declared.operation.AskOp.TheVariants.{PutFull, PutPartial, Arithmetic, Logical, Get, Intent}
use Rattle.tl_ops.specs.declared.kind.Kind.{Kind}
use Rattle.tl_ops.specs.declared.kind.Kind.TheVariants.{ClearRegs}
use Rattle.check_memory.specs.Known.{replaced}
use Rattle.check_memory.specs.Cells.{put_at, put_cells, new_cells, is_atomic, unknown_where}
use Rattle.check_memory.specs.Partial.{Partial, permits, takes_bytes, is_volatile, after_partial, AreWithin, start_of, placed}
use Rattle.check_memory.specs.Laws.{IsLawfulAsk}
use Rattle.check_memory.proofs.Legal.{takes_legal}
use Rattle.check_memory.proofs.PagePlaces.{length-new_cells}
use Rattle.check_memory.proofs.Soundness.{within_if_held, held_if_permitted}
use Rattle.check_memory.proofs.Replaced.{length-replaced, get_or-replaced_in, get_or-replaced_out}
use Rattle.check_memory.proofs.Unknown.{known_where, get_or-unknown, length-unknown_where, hidden_twice}
use Rattle.check_contests.specs.Writes.{in_window, gives, writes, may_write}
use Rattle.check_contests.proofs.Cells.{get_or-put_cells, put-none, put-more, atomic-more}

-- a memory with other bytes
abbrev pub with_cells : Partial → List (Option ℕ) → Partial
with_cells memory cells = record memory { cells = cells }

-- what is seen of other bytes
abbrev pub visible_in : Partial → List (Option ℕ) → List (Option ℕ)
visible_in memory cells = unknown_where (is_volatile memory) cells

-- a byte that does not change by itself is seen
pub visible_at : (memory : Partial) (cells : List (Option ℕ)) (a : ℕ) (cell : Option ℕ) → is_volatile memory a ≡ false
    → get_or cells a None ≡ cell → get_or (visible_in memory cells) a None ≡ cell
visible_at memory cells a cell still is =
    get_or-unknown (is_volatile memory) cells a
    ∙ ap (λ (b : Bool). if b then None else get_or cells a None) still ∙ is

-- the bytes of a memory after a request
abbrev pub cells_after : Partial → Request → List (Option ℕ) → List (Option ℕ)
cells_after memory ask cells = (after_partial (with_cells memory cells) ask).cells

-- ---- where a request stands
-- its window lies in the address space
pub inside : (memory : Partial) (ask : Request) (cells : List (Option ℕ)) → AreWithin memory.ranges (length cells)
    → permits memory ask ≡ true → (start_of memory ask) + 2 ^ ask.size ≤ length cells
inside memory ask cells within is =
    within_if_held memory.ranges (length cells) (start_of memory ask) (2 ^ ask.size) within (held_if_permitted memory ask is)

abbrev pub window : Request → List (Option ℕ) → List (Option ℕ)
window ask cells = take (2 ^ ask.size) (drop ask.address cells)

pub window_long : (ask : Request) (cells : List (Option ℕ)) → ask.address + 2 ^ ask.size ≤ length cells
    → length (window ask cells) ≡ 2 ^ ask.size
window_long ask cells room =
    length-take-le (2 ^ ask.size) (drop ask.address cells) (omega (arith, length-drop ask.address cells, room))

pub get_or-window : (ask : Request) (cells : List (Option ℕ)) (k : ℕ) → k < 2 ^ ask.size
    → get_or (window ask cells) k None ≡ get_or cells (ask.address + k) None
get_or-window ask cells k below = get_or-take (2 ^ ask.size) (drop ask.address cells) k None below
    ∙ get_or-drop ask.address cells k None

counted_if : (op : AskOp) (size n : ℕ) → n ≡ byte_count op size → carries_bytes op ≡ true → n ≡ 2 ^ size
counted_if op size n is carries = rw carries at is

pub new_long : (kind : Kind) (op : AskOp) (size : ℕ) (old given : List (Option ℕ)) → length given ≡ byte_count op size
    → length old ≡ 2 ^ size → length (new_cells kind op old given) ≡ 2 ^ size
new_long kind PutFull size old given counted wide =
    length-new_cells kind PutFull old given (counted ∙ sym wide) ∙ wide
new_long kind PutPartial size old given counted wide =
    length-new_cells kind PutPartial old given (counted ∙ sym wide) ∙ wide
new_long kind (Arithmetic op) size old given counted wide =
    length-new_cells kind (Arithmetic op) old given (counted ∙ sym wide) ∙ wide
new_long kind (Logical op) size old given counted wide =
    length-new_cells kind (Logical op) old given (counted ∙ sym wide) ∙ wide
new_long kind Get size old given counted wide = wide
new_long kind (Intent _) size old given counted wide = wide

-- ---- the bytes after it

abbrev pub new_of : Partial → Request → List (Option ℕ) → List (Option ℕ)
new_of memory ask cells = new_cells memory.kind ask.op (window (placed memory ask) (visible_in memory cells)) ask.bytes

after_taken : (memory : Partial) (ask : Request) (cells : List (Option ℕ)) → takes_bytes memory ask ≡ true
    → cells_after memory ask cells ≡ replaced cells (start_of memory ask) (new_of memory ask cells)
after_taken memory ask cells is = rw (is, cells_after) refl

pub after_untaken : (memory : Partial) (ask : Request) (cells : List (Option ℕ)) → takes_bytes memory ask ≡ false
    → cells_after memory ask cells ≡ cells
after_untaken memory ask cells is = rw (is, cells_after) refl

-- what a legal request needs to be looked at byte by byte
pub record Stands (memory : Partial) (ask : Request) (cells : List (Option ℕ)) : Type 0 where
  pub room : (start_of memory ask) + 2 ^ ask.size ≤ length cells
  pub wide : length (window (placed memory ask) (visible_in memory cells)) ≡ 2 ^ ask.size
  pub long : length (new_of memory ask cells) ≡ 2 ^ ask.size

pub stands : (memory : Partial) (ask : Request) (cells : List (Option ℕ)) → AreWithin memory.ranges (length cells)
    → IsLawfulAsk ask → permits memory ask ≡ true → Stands memory ask cells
stands memory ask cells within lawful is =
    let room : (start_of memory ask) + 2 ^ ask.size ≤ length cells = inside memory ask cells within is in
    let wide : length (window (placed memory ask) (visible_in memory cells)) ≡ 2 ^ ask.size =
    window_long (placed memory ask) (visible_in memory cells) (omega (arith, room, length-unknown_where (is_volatile memory) cells)) in
    record {
      room = room;
      wide = wide;
      long = new_long memory.kind ask.op ask.size (window (placed memory ask) (visible_in memory cells)) ask.bytes lawful.counted wide;
    }

pub length-cells_after : (memory : Partial) (ask : Request) (cells : List (Option ℕ))
    → AreWithin memory.ranges (length cells) → IsLawfulAsk ask → length (cells_after memory ask cells) ≡ length cells
length-cells_after memory ask cells within lawful = by_cases (takes_bytes memory ask) refl
  where
    by_cases : (takes : Bool) → takes_bytes memory ask ≡ takes → length (cells_after memory ask cells) ≡ length cells
    by_cases true is =
        let s = stands memory ask cells within lawful (takes_legal memory ask is) in
        ap length (after_taken memory ask cells is)
        ∙ length-replaced cells (new_of memory ask cells) (start_of memory ask) (omega (arith, s.room, s.long))
    by_cases false is = ap length (after_untaken memory ask cells is)

pub after_in : (memory : Partial) (ask : Request) (cells : List (Option ℕ)) (k : ℕ)
    → Stands memory ask cells → takes_bytes memory ask ≡ true → k < 2 ^ ask.size
    → get_or (cells_after memory ask cells) (start_of memory ask + k) None ≡ get_or (new_of memory ask cells) k None
after_in memory ask cells k s is below =
    ap (λ cs. get_or cs (start_of memory ask + k) None) (after_taken memory ask cells is)
    ∙ get_or-replaced_in cells (new_of memory ask cells) (start_of memory ask) k (omega (arith, s.room, s.long))
    (omega (arith, s.long, below))

pub after_out : (memory : Partial) (ask : Request) (cells : List (Option ℕ)) (a : ℕ)
    → Stands memory ask cells → takes_bytes memory ask ≡ true → (a < (start_of memory ask)) ⊎ (start_of memory ask + 2 ^ ask.size ≤ a)
    → get_or (cells_after memory ask cells) a None ≡ get_or cells a None
after_out memory ask cells a s is beside =
    let P : ℕ → Type 0 = λ n. (a < (start_of memory ask)) ⊎ (start_of memory ask + n ≤ a) in
    ap (λ cs. get_or cs a None) (after_taken memory ask cells is)
    ∙ get_or-replaced_out cells (new_of memory ask cells) (start_of memory ask) a (omega (arith, s.room, s.long))
    (subst P (sym s.long) beside)

-- ---- a byte that it may not write

pub in_here : (ask : Request) (k : ℕ) → k < 2 ^ ask.size → in_window ask (ask.address + k) ≡ true
in_here ask k below =
    and_from _ _ (le-leb ask.address (ask.address + k) (omega arith))
    (lt-ltb (ask.address + k) (ask.address + 2 ^ ask.size) (omega (arith, below)))

not_some : (cell : Option ℕ) (b : Bool) → b ≡ true → (b && is_some cell) ≡ false → cell ≡ None
not_some None b is none = refl
not_some (Some byte) b is none = let some : true ≡ false = rw is at none in cc

none_given : (ask : Request) (k : ℕ) → k < 2 ^ ask.size → gives ask (ask.address + k) ≡ false
    → get_or ask.bytes k None ≡ None
none_given ask k below none =
    let here : ask.address + k - ask.address ≡ k = omega arith in
    ap (λ n. get_or ask.bytes n None) (sym here)
    ∙ not_some (get_or ask.bytes (ask.address + k - ask.address) None) (in_window ask (ask.address + k))
    (in_here ask k below) none

-- where writing a one clears, a byte is below 256
abbrev pub IsByteAt : Kind → List (Option ℕ) → ℕ → Type 0
IsByteAt kind cells a = kind ≡ ClearRegs → (byte : ℕ) → get_or cells a None ≡ Some byte → byte < 256

put_stays : (kind : Kind) (ask : Request) (old : List (Option ℕ)) (k : ℕ) → k < 2 ^ ask.size
    → length ask.bytes ≡ 2 ^ ask.size → length old ≡ 2 ^ ask.size → IsByteAt kind old k
    → gives ask (ask.address + k) ≡ false
    → get_or (put_cells kind old ask.bytes) k None ≡ get_or old k None
put_stays kind ask old k below counted wide small none =
    get_or-put_cells kind old ask.bytes k (counted ∙ sym wide) (omega (arith, below, wide))
    ∙ ap (λ given. put_at kind (get_or old k None) given) (none_given ask k below none)
    ∙ put-none kind (get_or old k None) small

new_stays : (kind : Kind) (op : AskOp) (ask : Request) (old : List (Option ℕ)) (k : ℕ) → k < 2 ^ ask.size
    → length ask.bytes ≡ byte_count op ask.size → length old ≡ 2 ^ ask.size → IsByteAt kind old k
    → writes op ask (ask.address + k) ≡ false
    → get_or (new_cells kind op old ask.bytes) k None ≡ get_or old k None
new_stays kind PutFull ask old k below counted wide small none = put_stays kind ask old k below counted wide small none
new_stays kind PutPartial ask old k below counted wide small none =
    put_stays kind ask old k below counted wide small none
new_stays kind (Arithmetic op) ask old k below counted wide small none = let here = in_here ask k below in cc
new_stays kind (Logical op) ask old k below counted wide small none = let here = in_here ask k below in cc
new_stays kind Get ask old k below counted wide small none = refl
new_stays kind (Intent _) ask old k below counted wide small none = refl

-- an address beside a window, or a place in it
abbrev pub Where : Request → ℕ → Type 0
Where ask a = ((a < ask.address) ⊎ (ask.address + 2 ^ ask.size ≤ a)) ⊎ ((k : ℕ) × (k < 2 ^ ask.size) × (a ≡ ask.address + k))

pub where_is : (ask : Request) (a : ℕ) → Where ask a
where_is ask a = ⊎_elim
    (λ before. inl (inl before))
    (λ from. ⊎_elim
    (λ (to : a < ask.address + 2 ^ ask.size). inr (a - ask.address, omega (arith, from, to), omega (arith, from)))
    (λ past. inl (inr past))
    (cases_lt a (ask.address + 2 ^ ask.size)))
    (cases_lt a ask.address)

-- a byte that a request may not write is seen as it was
pub stays : (memory : Partial) (ask : Request) (cells : List (Option ℕ)) (a : ℕ)
    → AreWithin memory.ranges (length cells) → IsLawfulAsk ask → IsByteAt memory.kind (visible_in memory cells) a
    → may_write memory ask a ≡ false
    → get_or (visible_in memory (cells_after memory ask cells)) a None ≡ get_or (visible_in memory cells) a None
stays memory ask cells a within lawful small none = by_cases (takes_bytes memory ask) refl
  where
    volatile : Bool
    volatile = is_volatile memory a

    hidden : Option ℕ → Option ℕ
    hidden cell = if volatile then None else cell

    seen_then : get_or (visible_in memory (cells_after memory ask cells)) a None
        ≡ hidden (get_or (cells_after memory ask cells) a None)
    seen_then = get_or-unknown (is_volatile memory) (cells_after memory ask cells) a

    seen_now : get_or (visible_in memory cells) a None ≡ hidden (get_or cells a None)
    seen_now = get_or-unknown (is_volatile memory) cells a

    -- a cell that is as it was
    same : get_or (cells_after memory ask cells) a None ≡ get_or cells a None
        → get_or (visible_in memory (cells_after memory ask cells)) a None ≡ get_or (visible_in memory cells) a None
    same is = seen_then ∙ ap hidden is ∙ sym seen_now

    -- one that is what was seen of it
    as_seen : get_or (cells_after memory ask cells) a None ≡ get_or (visible_in memory cells) a None
        → get_or (visible_in memory (cells_after memory ask cells)) a None ≡ get_or (visible_in memory cells) a None
    as_seen is = seen_then ∙ ap hidden (is ∙ seen_now) ∙ sym (hidden_twice volatile (get_or cells a None)) ∙ sym seen_now

    here : Stands memory ask cells → takes_bytes memory ask ≡ true → writes ask.op (placed memory ask) a ≡ false
        → (k : ℕ) × (k < 2 ^ ask.size) × (a ≡ (start_of memory ask) + k)
        → get_or (cells_after memory ask cells) a None ≡ get_or (visible_in memory cells) a None
    here s is none' place =
        let old = visible_in memory cells in
        let window_at : get_or (window (placed memory ask) old) place.0 None ≡ get_or old a None =
        get_or-window (placed memory ask) old place.0 place.1 ∙ ap (λ n. get_or old n None) (sym place.2) in
        let P : ℕ → Type 0 = λ n. writes ask.op (placed memory ask) n ≡ false in
        ap (λ n. get_or (cells_after memory ask cells) n None) place.2
        ∙ after_in memory ask cells place.0 s is place.1
        ∙ new_stays memory.kind ask.op (placed memory ask) (window (placed memory ask) old) place.0 place.1 lawful.counted s.wide
        (λ clears byte known. small clears byte (sym window_at ∙ known)) (subst P place.2 none')
        ∙ window_at

    by_cases : (takes : Bool) → takes_bytes memory ask ≡ takes
        → get_or (visible_in memory (cells_after memory ask cells)) a None ≡ get_or (visible_in memory cells) a None
    by_cases true is =
        let legal = takes_legal memory ask is in
        let s = stands memory ask cells within lawful legal in
        let none' : writes ask.op (placed memory ask) a ≡ false = rw legal at none in
        ⊎_elim (λ beside. same (after_out memory ask cells a s is beside)) (λ place. as_seen (here s is none' place))
        (where_is (placed memory ask) a)
    by_cases false is = same (ap (λ cs. get_or cs a None) (after_untaken memory ask cells is))

-- ---- a byte that it may write

pub written_in : (op : AskOp) (ask : Request) (a : ℕ) → writes op ask a ≡ true → in_window ask a ≡ true
written_in PutFull ask a is = (and_parts (in_window ask a) _ is).0
written_in PutPartial ask a is = (and_parts (in_window ask a) _ is).0
written_in (Arithmetic op) ask a is = is
written_in (Logical op) ask a is = is
written_in Get ask a is = cc
written_in (Intent _) ask a is = cc

pub atomic_writes : (op : AskOp) (ask : Request) (a : ℕ) → is_atomic op ≡ true → in_window ask a ≡ true
    → writes op ask a ≡ true
atomic_writes PutFull ask a atomic is = cc
atomic_writes PutPartial ask a atomic is = cc
atomic_writes (Arithmetic op) ask a atomic is = is
atomic_writes (Logical op) ask a atomic is = is
atomic_writes Get ask a atomic is = cc
atomic_writes (Intent _) ask a atomic is = cc

pub place_in : (ask : Request) (a : ℕ) → in_window ask a ≡ true → (k : ℕ) × (k < 2 ^ ask.size) × (a ≡ ask.address + k)
place_in ask a is =
    let parts = and_parts (nat_le ask.address a) (nat_lt a (ask.address + 2 ^ ask.size)) is in
    let from : ask.address ≤ a = leb-true ask.address a parts.0 in
    let to : a < ask.address + 2 ^ ask.size = ltb-true a (ask.address + 2 ^ ask.size) parts.1 in
    (a - ask.address, omega (arith, from, to), omega (arith, from))

-- an element that is known is there
pub there_if_known : (cells : List (Option ℕ)) (k byte : ℕ) → get_or cells k None ≡ Some byte → k < length cells
there_if_known [] k byte is = cc
there_if_known (cell ∷ cells) zero byte is = omega arith
there_if_known (cell ∷ cells) (suc k) byte is =
    let below : k < length cells = there_if_known cells k byte is in omega (arith, below)

put_more : (kind : Kind) (ask : Request) (less more : List (Option ℕ)) (k byte : ℕ) → k < 2 ^ ask.size
    → length ask.bytes ≡ 2 ^ ask.size → length less ≡ 2 ^ ask.size → length more ≡ 2 ^ ask.size
    → ((b : ℕ) → get_or less k None ≡ Some b → get_or more k None ≡ Some b)
    → get_or (put_cells kind less ask.bytes) k None ≡ Some byte
    → get_or (put_cells kind more ask.bytes) k None ≡ Some byte
put_more kind ask less more k byte below counted wide wide' kept is =
    get_or-put_cells kind more ask.bytes k (counted ∙ sym wide') (omega (arith, below, wide'))
    ∙ put-more kind (get_or less k None) (get_or more k None) (get_or ask.bytes k None) byte kept
    (sym (get_or-put_cells kind less ask.bytes k (counted ∙ sym wide) (omega (arith, below, wide))) ∙ is)

new_more : (kind : Kind) (op : AskOp) (ask : Request) (less more : List (Option ℕ)) (k byte : ℕ) → k < 2 ^ ask.size
    → length ask.bytes ≡ byte_count op ask.size → length less ≡ 2 ^ ask.size → length more ≡ 2 ^ ask.size
    → is_atomic op ≡ false
    → ((b : ℕ) → get_or less k None ≡ Some b → get_or more k None ≡ Some b)
    → get_or (new_cells kind op less ask.bytes) k None ≡ Some byte
    → get_or (new_cells kind op more ask.bytes) k None ≡ Some byte
new_more kind PutFull ask less more k byte below counted wide wide' apart kept is =
    put_more kind ask less more k byte below counted wide wide' kept is
new_more kind PutPartial ask less more k byte below counted wide wide' apart kept is =
    put_more kind ask less more k byte below counted wide wide' kept is
new_more kind (Arithmetic op) ask less more k byte below counted wide wide' apart kept is = cc
new_more kind (Logical op) ask less more k byte below counted wide wide' apart kept is = cc
new_more kind Get ask less more k byte below counted wide wide' apart kept is = kept byte is
new_more kind (Intent _) ask less more k byte below counted wide wide' apart kept is = kept byte is

-- the bytes on which the one that a request leaves at an address depends: that byte, or of an atomic all of its window
abbrev pub Matters : Partial → Request → ℕ → ℕ → Type 0
Matters memory ask a place = (may_write memory ask place ≡ true) × (is_atomic ask.op ≡ false → place ≡ a)

-- a request that writes carries bytes
written_carries : (op : AskOp) (ask : Request) (a : ℕ) → writes op ask a ≡ true → carries_bytes op ≡ true
written_carries PutFull ask a is = refl
written_carries PutPartial ask a is = refl
written_carries (Arithmetic op) ask a is = refl
written_carries (Logical op) ask a is = refl
written_carries Get ask a is = cc
written_carries (Intent _) ask a is = cc

-- a byte that is seen as known after a request is so, and the same, where more is known of those on which it depends
pub leaves_more : (memory : Partial) (ask : Request) (less more : List (Option ℕ)) (a byte : ℕ)
    → AreWithin memory.ranges (length less) → length less ≡ length more → IsLawfulAsk ask
    → may_write memory ask a ≡ true
    → ((place b : ℕ) → Matters memory ask a place → get_or (visible_in memory less) place None ≡ Some b
    → get_or (visible_in memory more) place None ≡ Some b)
    → get_or (visible_in memory (cells_after memory ask less)) a None ≡ Some byte
    → get_or (visible_in memory (cells_after memory ask more)) a None ≡ Some byte
leaves_more memory ask less more a byte within same lawful may kept is = by_cases (is_atomic ask.op) refl
  where
    parts : (permits memory ask ≡ true) × (writes ask.op (placed memory ask) a ≡ true)
    parts = and_parts (permits memory ask) (writes ask.op (placed memory ask) a) may

    legal : permits memory ask ≡ true
    legal = parts.0

    takes : takes_bytes memory ask ≡ true
    takes = and_from (permits memory ask) (carries_bytes ask.op) legal (written_carries ask.op (placed memory ask) a parts.1)

    s : Stands memory ask less
    s = stands memory ask less within lawful legal

    s' : Stands memory ask more
    s' = let P : ℕ → Type 0 = λ n. AreWithin memory.ranges n in stands memory ask more (subst P same within) lawful legal

    place : (k : ℕ) × (k < 2 ^ ask.size) × (a ≡ (start_of memory ask) + k)
    place = place_in (placed memory ask) a (written_in ask.op (placed memory ask) a parts.1)

    old : List (Option ℕ)
    old = visible_in memory less

    old' : List (Option ℕ)
    old' = visible_in memory more

    known : (is_volatile memory a ≡ false) × (get_or (cells_after memory ask less) a None ≡ Some byte)
    known = known_where (is_volatile memory) (cells_after memory ask less) a byte is

    is' : get_or (new_of memory ask less) place.0 None ≡ Some byte
    is' = sym (after_in memory ask less place.0 s takes place.1)
        ∙ sym (ap (λ n. get_or (cells_after memory ask less) n None) place.2) ∙ known.1

    back : get_or (new_of memory ask more) place.0 None ≡ Some byte
        → get_or (visible_in memory (cells_after memory ask more)) a None ≡ Some byte
    back left = visible_at memory (cells_after memory ask more) a (Some byte) known.0
        (ap (λ n. get_or (cells_after memory ask more) n None) place.2
        ∙ after_in memory ask more place.0 s' takes place.1 ∙ left)

    through : (k b : ℕ) → k < 2 ^ ask.size → Matters memory ask a (start_of memory ask + k)
        → get_or (window (placed memory ask) old) k None ≡ Some b → get_or (window (placed memory ask) old') k None ≡ Some b
    through k b below matters there = get_or-window (placed memory ask) old' k below
        ∙ kept (start_of memory ask + k) b matters (sym (get_or-window (placed memory ask) old k below) ∙ there)

    not_both : is_atomic ask.op ≡ true → is_atomic ask.op ≡ false → {A : Type 0} → A
    not_both one other = let e : true ≡ false = sym one ∙ other in cc

    by_cases : (atomic : Bool) → is_atomic ask.op ≡ atomic
        → get_or (visible_in memory (cells_after memory ask more)) a None ≡ Some byte
    by_cases true atomic = back (atomic-more memory.kind ask.op (window (placed memory ask) old) (window (placed memory ask) old') ask.bytes place.0 byte
        atomic (s.wide ∙ sym s'.wide)
        (λ k b there.
        let below : k < 2 ^ ask.size = omega (arith, there_if_known (window (placed memory ask) old) k b there, s.wide) in
        through k b below (
          and_from _ _ legal (atomic_writes ask.op (placed memory ask) (start_of memory ask + k) atomic (in_here (placed memory ask) k below)),
          λ put. not_both atomic put,
        ) there) is')
    by_cases false atomic = back (new_more memory.kind ask.op (placed memory ask) (window (placed memory ask) old) (window (placed memory ask) old') place.0 byte place.1
        lawful.counted s.wide s'.wide atomic
        (λ b there. through place.0 b place.1
        (let P : ℕ → Type 0 = λ n. may_write memory ask n ≡ true in subst P place.2 may, λ _. sym place.2) there) is')
