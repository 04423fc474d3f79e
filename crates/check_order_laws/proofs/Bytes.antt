-- The bytes of a request are those of lanes, and so are below 256.
use Rattle.std.proofs.Common.{◌≡◌, ℕ, ◌+◌, ◌<◌, zero, suc, Bool, true, false, if◌then◌else◌, List, [], ◌∷◌, ◌++◌, map, replicate, take, Option, Some, None, unwrap_or, slice_index, arith}
use Rattle.std.specs.Prelude.{◌==◌, ◌%◌, All}
use Rattle.std.specs.Int.{bit_at}
use Rattle.std.specs.List.{AllByRecursion, range_with_len}
use Rattle.std.proofs.lemmas.List.Elements.{All-head, All-tail}
use Rattle.check_beats.specs.Bus.{low}
use Rattle.check_beats.specs.Laws.{asking}
use Rattle.check_beats.specs.Message.{byte_at, ask_part, ask_part_count, shown_lanes, spoiled_ask_part}
use Rattle.check_beats.specs.Spelling.{AskBeat}
use Rattle.check_beats.specs.State.{asked_beats, asked_bytes, asked_spoiled, ends_ask, first_ask}
use Rattle.check_beats.specs.declared.beat.AskHead.{AskHead}
use Rattle.check_contests.specs.Moments.{AreBytes}
use Rattle.check_watch.specs.declared.beat.Beat.{Beat}
use Rattle.check_watch.specs.declared.beat.Beat.TheVariants.{A, D}
use Rattle.check_watch.specs.declared.beat.Link.{Link}
use Rattle.check_watch.specs.Plan.{Layout, Sighting, side_of, link_number, is_link, bus_of}
use Rattle.check_watch_laws.specs.Crossed.{asks_over, more_asks, asking_at}
use Rattle.check_order_laws.specs.Looser.{HaveByteLanes}

-- ---- lanes

abbrev pub AreSmall : List ℕ → Type 0
AreSmall lanes = (lane : ℕ) → slice_index lanes lane < 256

small_lanes : (lanes : List ℕ) → All (λ (lane : ℕ). lane < 256) lanes → AreSmall lanes
small_lanes [] all k = omega arith
small_lanes (x ∷ lanes) all zero = All-head (λ (lane : ℕ). lane < 256) x lanes all
small_lanes (x ∷ lanes) all (suc k) = small_lanes lanes (All-tail (λ (lane : ℕ). lane < 256) x lanes all) k

small_take : (n : ℕ) (lanes : List ℕ) → AreSmall lanes → AreSmall (take n lanes)
small_take zero lanes small k = omega arith
small_take (suc n) [] small k = omega arith
small_take (suc n) (x ∷ lanes) small zero = small zero
small_take (suc n) (x ∷ lanes) small (suc k) = small_take n lanes (λ j. small (suc j)) k

small_zeros : (n : ℕ) → AreSmall (replicate n 0)
small_zeros zero k = omega arith
small_zeros (suc n) zero = omega arith
small_zeros (suc n) (suc k) = small_zeros n k

-- ---- cells

pub bytes_append : (xs ys : List (Option ℕ)) → AreBytes xs → AreBytes ys → AreBytes (xs ++ ys)
bytes_append [] ys first second place byte is = second place byte is
bytes_append (x ∷ xs) ys first second zero byte is = first zero byte is
bytes_append (x ∷ xs) ys first second (suc k) byte is =
    bytes_append xs ys (λ j other so. first (suc j) other so) second k byte is

none_there : AreBytes []
none_there place byte is = cc

bytes_map : (f : ℕ → Option ℕ) → ((n byte : ℕ) → f n ≡ Some byte → byte < 256) → (ns : List ℕ) → AreBytes (map f ns)
bytes_map f each [] place byte is = none_there place byte is
bytes_map f each (n ∷ ns) zero byte is = each n byte is
bytes_map f each (n ∷ ns) (suc k) byte is = bytes_map f each ns k byte is

small_byte : (value : ℕ) → value < 256 → (given : Bool) (byte : ℕ) → (if given then Some value else None) ≡ Some byte
    → byte < 256
small_byte value small true byte is = let same : value ≡ byte = cc in omega (arith, small, same)
small_byte value small false byte is = cc

-- what is shown of a beat: its lanes, or zeros
small_shown : (bus : ℕ) (beat : AskHead) (lanes : List ℕ) → AreSmall lanes → AreSmall (shown_lanes bus beat lanes)
small_shown bus beat lanes small = go beat.corrupt
  where
    go : (corrupt : Bool) → AreSmall (if corrupt then replicate bus 0 else lanes)
    go true = small_zeros bus
    go false = small

pub small_part : (bus : ℕ) (beat : AskHead) (lanes : List ℕ) → AreSmall lanes → AreBytes (ask_part bus beat lanes)
small_part bus beat lanes small =
    let first = low beat.address beat.size % bus in
    let shown = shown_lanes bus beat lanes in
    let below = small_shown bus beat lanes small in
    bytes_map (λ k. byte_at beat.mask shown (first + k))
    (λ k byte is. small_byte (slice_index shown (first + k)) (below (first + k)) (bit_at beat.mask (first + k) == 1)
    byte is)
    (range_with_len 0 (ask_part_count bus beat))

-- ---- a request that is under way

pub small_asking : (bus : ℕ) (beats : List AskBeat) → AllByRecursion (λ (beat : AskBeat). AreSmall beat.lanes) beats
    → AreBytes (asked_bytes (asking bus beats))
small_asking bus [] all = none_there
small_asking bus (beat ∷ beats) all = go (small_asking bus beats all.1) (ends_ask bus (asking bus beats) beat.head)
  where
    go : AreBytes (asked_bytes (asking bus beats)) → (ends : Bool) → AreBytes (asked_bytes (if ends then None else Some (record {
      first = unwrap_or (first_ask (asking bus beats)) beat.head;
      beats = asked_beats (asking bus beats) + 1;
      bytes = asked_bytes (asking bus beats) ++ ask_part bus beat.head beat.lanes;
      spoiled = asked_spoiled (asking bus beats) ++ spoiled_ask_part bus beat.head;
    })))
    go before true = none_there
    go before false = bytes_append (asked_bytes (asking bus beats)) (ask_part bus beat.head beat.lanes)
        before (small_part bus beat.head beat.lanes all.0)

pub small_over : (layout : Layout) (link : Link) (past : List Sighting) → HaveByteLanes past
    → AllByRecursion (λ (beat : AskBeat). AreSmall beat.lanes) (asks_over layout link past)
small_over layout link [] bytes = tt
small_over layout link (x ∷ past) bytes =
    go (small_over layout link past bytes.1) (is_link x.link (side_of link) (link_number link))
  where
    by_beat : AllByRecursion (λ (b : AskBeat). AreSmall b.lanes) (asks_over layout link past) → (beat : Beat)
        → AllByRecursion (λ (b : AskBeat). AreSmall b.lanes)
        (more_asks (bus_of layout link) x beat (asks_over layout link past))
    by_beat before (A beat) = (small_take (bus_of layout link) x.lanes (small_lanes x.lanes bytes.0), before)
    by_beat before (D beat) = before

    go : AllByRecursion (λ (b : AskBeat). AreSmall b.lanes) (asks_over layout link past) → (here : Bool)
        → AllByRecursion (λ (b : AskBeat). AreSmall b.lanes)
        (if here then more_asks (bus_of layout link) x x.beat (asks_over layout link past) else asks_over layout link past)
    go before true = by_beat before x.beat
    go before false = before

-- what a beat ends has bytes
pub small_ended : (layout : Layout) (past : List Sighting) (x : Sighting) (beat : AskHead) → HaveByteLanes (x ∷ past)
    → AreBytes (asked_bytes (asking_at layout x.link past)
    ++ ask_part (bus_of layout x.link) beat (take (bus_of layout x.link) x.lanes))
small_ended layout past x beat bytes =
    bytes_append (asked_bytes (asking_at layout x.link past))
    (ask_part (bus_of layout x.link) beat (take (bus_of layout x.link) x.lanes))
    (small_asking (bus_of layout x.link) (asks_over layout x.link past) (small_over layout x.link past bytes.1))
    (small_part (bus_of layout x.link) beat (take (bus_of layout x.link) x.lanes)
    (small_take (bus_of layout x.link) x.lanes (small_lanes x.lanes bytes.0)))
