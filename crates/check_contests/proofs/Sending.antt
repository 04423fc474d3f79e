-- What a request as it crossed leaves of each byte of a memory: one of which a beat was corrupt as one that was cut short.
use Rattle.std.proofs.Common.{◌≡◌, ◌∙◌, ℕ, Bool, true, false, if◌then◌else◌, List, length, get_or, Option, None, Some, refl, sym, ap}
use Rattle.tl_types.specs.Request.{Request}
use Rattle.tl_ops.specs.declared.kind.Kind.TheVariants.{ClearRegs}
use Rattle.check_cells.specs.Sent.{Sent, is_corrupt}
use Rattle.check_memory.specs.Laws.{IsLawfulAsk}
use Rattle.check_memory.specs.Partial.{Partial, is_volatile, visible, after_partial, AreWithin}
use Rattle.check_memory.proofs.Unknown.{known_where, get_or-unknown, length-unknown_where}
use Rattle.check_contests.specs.Writes.{may_write, unknown_where}
use Rattle.check_contests.specs.Cut.{memory_cut}
use Rattle.check_contests.specs.Sent.{memory_after_sent}
use Rattle.check_contests.specs.Moments.{AreBytes}
use Rattle.check_contests.proofs.Bytes.{small_after}
use Rattle.check_contests.proofs.Clash.{not_both}
use Rattle.check_contests.proofs.Effect.{with_cells, visible_in, visible_at, length-cells_after, IsByteAt, stays, Matters, leaves_more}

-- ---- one that was cut short

-- the bytes of a memory without those that a request may write
abbrev pub cells_cut : Partial → Request → List (Option ℕ) → List (Option ℕ)
cells_cut memory ask cells = unknown_where (may_write memory ask) cells

-- of these, a byte that is seen the request may not write, and it was seen before
pub cut_known : (memory : Partial) (ask : Request) (cells : List (Option ℕ)) (a byte : ℕ)
    → get_or (visible_in memory (cells_cut memory ask cells)) a None ≡ Some byte
    → (may_write memory ask a ≡ false) × (get_or (visible_in memory cells) a None ≡ Some byte)
cut_known memory ask cells a byte known =
    let seen = known_where (is_volatile memory) (cells_cut memory ask cells) a byte known in
    let left = known_where (may_write memory ask) cells a byte seen.1 in
    (left.0, visible_at memory cells a (Some byte) seen.0 left.1)

-- one that it may not write is seen as it was
pub cut_stays : (memory : Partial) (ask : Request) (cells : List (Option ℕ)) (a : ℕ) → may_write memory ask a ≡ false
    → get_or (visible_in memory (cells_cut memory ask cells)) a None ≡ get_or (visible_in memory cells) a None
cut_stays memory ask cells a none =
    let hidden : Option ℕ → Option ℕ = λ cell. if is_volatile memory a then None else cell in
    get_or-unknown (is_volatile memory) (cells_cut memory ask cells) a
    ∙ ap hidden (get_or-unknown (may_write memory ask) cells a
    ∙ ap (λ (b : Bool). if b then None else get_or cells a None) none)
    ∙ sym (get_or-unknown (is_volatile memory) cells a)

-- ---- one that may have been corrupt

-- the memory after a request that was corrupt, or was not
abbrev pub memory_left : Bool → Partial → Request → Partial
memory_left corrupt memory ask = if corrupt then memory_cut memory ask else after_partial memory ask

-- its bytes
abbrev pub cells_left : Bool → Partial → Request → List (Option ℕ) → List (Option ℕ)
cells_left corrupt memory ask cells = (memory_left corrupt (with_cells memory cells) ask).cells

-- nothing else of it changes
left_is : (corrupt : Bool) (memory : Partial) (ask : Request)
    → memory_left corrupt memory ask ≡ with_cells memory (cells_left corrupt memory ask memory.cells)
left_is true memory ask = refl
left_is false memory ask = refl

-- there are as many
length-cells_left : (corrupt : Bool) (memory : Partial) (ask : Request) (cells : List (Option ℕ))
    → AreWithin memory.ranges (length cells) → IsLawfulAsk ask → length (cells_left corrupt memory ask cells) ≡ length cells
length-cells_left true memory ask cells within lawful = length-unknown_where (may_write memory ask) cells
length-cells_left false memory ask cells within lawful = length-cells_after memory ask cells within lawful

-- a byte that it may not write is seen as it was
left_stays : (corrupt : Bool) (memory : Partial) (ask : Request) (cells : List (Option ℕ)) (a : ℕ)
    → AreWithin memory.ranges (length cells) → IsLawfulAsk ask → IsByteAt memory.kind (visible_in memory cells) a
    → may_write memory ask a ≡ false
    → get_or (visible_in memory (cells_left corrupt memory ask cells)) a None ≡ get_or (visible_in memory cells) a None
left_stays true memory ask cells a within lawful small none = cut_stays memory ask cells a none
left_stays false memory ask cells a within lawful small none = stays memory ask cells a within lawful small none

-- one that it may write, and that is seen as known then, is so, and the same, where more is known of those on which it depends
left_more : (corrupt : Bool) (memory : Partial) (ask : Request) (less more : List (Option ℕ)) (a byte : ℕ)
    → AreWithin memory.ranges (length less) → length less ≡ length more → IsLawfulAsk ask
    → may_write memory ask a ≡ true
    → ((place b : ℕ) → Matters memory ask a place → get_or (visible_in memory less) place None ≡ Some b
    → get_or (visible_in memory more) place None ≡ Some b)
    → get_or (visible_in memory (cells_left corrupt memory ask less)) a None ≡ Some byte
    → get_or (visible_in memory (cells_left corrupt memory ask more)) a None ≡ Some byte
left_more true memory ask less more a byte within same lawful may kept is =
    not_both may (cut_known memory ask less a byte is).0
left_more false memory ask less more a byte within same lawful may kept is =
    leaves_more memory ask less more a byte within same lawful may kept is

-- bytes that are below 256 stay so
left_small : (corrupt : Bool) (memory : Partial) (ask : Request) (cells : List (Option ℕ)) → memory.kind ≡ ClearRegs
    → AreWithin memory.ranges (length cells) → IsLawfulAsk ask → AreBytes (visible_in memory cells) → AreBytes ask.bytes
    → AreBytes (visible_in memory (cells_left corrupt memory ask cells))
left_small true memory ask cells clears within lawful small small' a byte known =
    small a byte (cut_known memory ask cells a byte known).1
left_small false memory ask cells clears within lawful small small' a byte known =
    small_after memory ask cells clears within lawful small small' a byte known

-- ---- a request as it crossed

-- the bytes of a memory after it
abbrev pub cells_after_sent : Partial → Sent → List (Option ℕ) → List (Option ℕ)
cells_after_sent memory sent cells = (memory_after_sent (with_cells memory cells) sent).cells

-- nothing else of the memory changes
pub after_sent_is : (memory : Partial) (sent : Sent)
    → memory_after_sent memory sent ≡ with_cells memory (cells_after_sent memory sent memory.cells)
after_sent_is memory sent = left_is (is_corrupt sent) memory sent.ask

-- so of it is seen what is seen of these bytes
pub after_sent_seen : (memory : Partial) (sent : Sent) (a : ℕ)
    → get_or (visible (memory_after_sent memory sent)) a None
    ≡ get_or (visible_in memory (cells_after_sent memory sent memory.cells)) a None
after_sent_seen memory sent a = ap (λ (m : Partial). get_or (visible m) a None) (after_sent_is memory sent)

-- there are as many
pub length-cells_after_sent : (memory : Partial) (sent : Sent) (cells : List (Option ℕ))
    → AreWithin memory.ranges (length cells) → IsLawfulAsk sent.ask
    → length (cells_after_sent memory sent cells) ≡ length cells
length-cells_after_sent memory sent cells within lawful =
    length-cells_left (is_corrupt sent) memory sent.ask cells within lawful

-- a byte that it may not write is seen as it was
pub sent_stays : (memory : Partial) (sent : Sent) (cells : List (Option ℕ)) (a : ℕ)
    → AreWithin memory.ranges (length cells) → IsLawfulAsk sent.ask → IsByteAt memory.kind (visible_in memory cells) a
    → may_write memory sent.ask a ≡ false
    → get_or (visible_in memory (cells_after_sent memory sent cells)) a None ≡ get_or (visible_in memory cells) a None
sent_stays memory sent cells a within lawful small none =
    left_stays (is_corrupt sent) memory sent.ask cells a within lawful small none

-- one that it may write, and that is seen as known after it, is so, and the same, where more is known of those on which it
-- depends
pub sent_more : (memory : Partial) (sent : Sent) (less more : List (Option ℕ)) (a byte : ℕ)
    → AreWithin memory.ranges (length less) → length less ≡ length more → IsLawfulAsk sent.ask
    → may_write memory sent.ask a ≡ true
    → ((place b : ℕ) → Matters memory sent.ask a place → get_or (visible_in memory less) place None ≡ Some b
    → get_or (visible_in memory more) place None ≡ Some b)
    → get_or (visible_in memory (cells_after_sent memory sent less)) a None ≡ Some byte
    → get_or (visible_in memory (cells_after_sent memory sent more)) a None ≡ Some byte
sent_more memory sent less more a byte within same lawful may kept is =
    left_more (is_corrupt sent) memory sent.ask less more a byte within same lawful may kept is

-- bytes that are below 256 stay so
pub sent_small : (memory : Partial) (sent : Sent) (cells : List (Option ℕ)) → memory.kind ≡ ClearRegs
    → AreWithin memory.ranges (length cells) → IsLawfulAsk sent.ask → AreBytes (visible_in memory cells)
    → AreBytes sent.ask.bytes → AreBytes (visible_in memory (cells_after_sent memory sent cells))
sent_small memory sent cells clears within lawful small small' =
    left_small (is_corrupt sent) memory sent.ask cells clears within lawful small small'
