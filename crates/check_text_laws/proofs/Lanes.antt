-- A row that columns spell has as many lanes as its link's bus has bytes.
use Rattle.std.proofs.Common.{◌≡◌, ◌∙◌, ℕ, suc, ◌-◌, ◌^◌, Bool, true, false, if◌then◌else◌, List, [], ◌∷◌, drop, length, map, Option, None, Some, Result, Ok, Err, IfSome, option_map, refl, ap, subst}
use Rattle.std.specs.Prelude.{◌==◌, ok_or}
use Rattle.std.specs.List.{range_with_len}
use Rattle.std.proofs.lemmas.List.{length-map, length-replicate}
use Rattle.std.proofs.lemmas.List.FromFn.{length-map-range_with_len}
use Rattle.check_beats.specs.declared.bus.Bus.{Bus}
use Rattle.check_rows.specs.Buses.{bus_of_link}
use Rattle.check_rows.specs.Lanes.{SeenLanes, all_of, byte_or_zero, lane_at, lanes_of, seen_of, shown_by, zeros}
use Rattle.check_rows.specs.Column.{column, is_cut}
use Rattle.check_rows.specs.Columns.{are_empty, channel_of, flag_of, flag_or, link_of, nothing_of, or_reset}
use Rattle.check_rows.specs.Number.{address_of, decimal_of, decimal_or_zero, mask_of}
use Rattle.tl_text.specs.Reading.{◌>>=◌}
use Rattle.check_rows.specs.Row.{SeenBeat, SeenRow, ask_of_words, asks_for_mark, beat_of, nothing_seen, reply_of_words, row_of, row_or_reset}
use Rattle.check_rows.specs.declared.columns.RowChannel.{RowChannel}
use Rattle.check_rows.specs.declared.columns.RowChannel.TheVariants as channel
use Rattle.check_rows.specs.declared.column.Column.TheVariants as named
use Rattle.check_rows.specs.declared.fault.RowFault.{RowFault}
use Rattle.check_rows.specs.declared.fault.RowFault.TheVariants.{Number}
use Rattle.check_rows.specs.PortNumbers.{numbered_row}
use Rattle.check_text.specs.Buses.{LinkBuses, as_judged, row_on}
use Rattle.check_watch.specs.declared.beat.Link.{Link}

-- an answer that is no fault
abbrev ok : {A : Type 0} → A → Result A RowFault
ok x = Ok x

-- what a step gave, and the rest
step : {A B : Type 0} (r : Result A RowFault) (f : A → Result B RowFault) (y : B) → (r >>= f) ≡ Ok y
    → (x : A) × (r ≡ Ok x) × (f x ≡ Ok y)
step (Ok x) f y is = (x, refl, is)
step (Err e) f y is = absurd (cc)

-- what was tested, if the other way there is a fault
tested : {B : Type 0} (b : Bool) (r : Result B RowFault) (e : RowFault) (y : B)
    → (if b then r else Err e) ≡ Ok y → r ≡ Ok y
tested true r e y is = is
tested false r e y is = absurd (cc)

-- the same if there is one of two faults
tested_beside : {B : Type 0} (b c : Bool) (r : Result B RowFault) (e f : RowFault) (y : B)
    → (if b then r else if c then Err e else Err f) ≡ Ok y → r ≡ Ok y
tested_beside true c r e f y is = is
tested_beside false true r e f y is = absurd (cc)
tested_beside false false r e f y is = absurd (cc)

-- ---- lanes

all_counted : (xs : List (Option (Option ℕ))) → IfSome (all_of xs) (λ l. length l ≡ length xs)
all_counted [] = refl
all_counted (None ∷ xs) = tt
all_counted (Some x ∷ xs) = go (all_of xs) (all_counted xs)
  where
    go : (rest : Option (List (Option ℕ))) → IfSome rest (λ l. length l ≡ length xs)
        → IfSome (option_map (λ l. x ∷ l) rest) (λ l. length l ≡ length (Some x ∷ xs))
    go None is = tt
    go (Some l) is = ap suc is

shown_counted : (bus : ℕ) (word : List ℕ) → IfSome (shown_by bus word) (λ lanes. length lanes.bytes ≡ bus)
unfolding shown_by
shown_counted bus word =
    go (all_of (map (lane_at bus word) (range_with_len 0 bus))) (all_counted (map (lane_at bus word) (range_with_len 0 bus)))
  where
    go : (all : Option (List (Option ℕ))) → IfSome all (λ l. length l ≡ length (map (lane_at bus word) (range_with_len 0 bus)))
        → IfSome (option_map seen_of all) (λ lanes. length lanes.bytes ≡ bus)
    go None is = tt
    go (Some l) is = length-map l byte_or_zero ∙ is ∙ length-map-range_with_len (lane_at bus word) 0 bus

ok_counted : (bus : ℕ) (shown : Option SeenLanes) (e : RowFault) (lanes : SeenLanes)
    → IfSome shown (λ l. length l.bytes ≡ bus) → ok_or shown e ≡ Ok lanes → length lanes.bytes ≡ bus
ok_counted bus None e lanes counted is = absurd (cc)
ok_counted bus (Some shown) e lanes counted is = let same : shown ≡ lanes = cc in
    subst (λ (l : SeenLanes). length l.bytes ≡ bus) same counted

zeros_or : (bus : ℕ) (b : Bool) (rest : Result SeenLanes RowFault) (lanes : SeenLanes)
    → (rest ≡ Ok lanes → length lanes.bytes ≡ bus) → (if b then Ok (zeros bus) else rest) ≡ Ok lanes
    → length lanes.bytes ≡ bus
zeros_or bus true rest lanes other is = let same : zeros bus ≡ lanes = cc in
    subst (λ (l : SeenLanes). length l.bytes ≡ bus) same (length-replicate bus 0)
zeros_or bus false rest lanes other is = other is

lanes_counted : (bus : ℕ) (word : List ℕ) (lanes : SeenLanes) → lanes_of bus word ≡ Ok lanes → length lanes.bytes ≡ bus
unfolding lanes_of
lanes_counted bus word lanes is =
    zeros_or bus (length word == 0) _ lanes
    (λ rest. ok_counted bus (shown_by bus word) _ lanes (shown_counted bus word) (tested _ _ _ _ rest)) is

-- ---- beats and rows

seen_counted : (bus : ℕ) (beat seen : SeenBeat) → length beat.lanes.bytes ≡ bus
    → ok beat ≡ Ok seen → length seen.lanes.bytes ≡ bus
seen_counted bus beat seen counted is = let same : beat ≡ seen = cc in
    subst (λ (b : SeenBeat). length b.lanes.bytes ≡ bus) same counted

ask_counted : (bus : ℕ) (columns : List (List ℕ)) (seen : SeenBeat) → ask_of_words bus columns ≡ Ok seen
    → length seen.lanes.bytes ≡ bus
unfolding ask_of_words
ask_counted bus columns seen is =
    let opcode = step (decimal_of 255 (column columns named.Opcode)) _ seen is in
    let param = step (decimal_of 255 (column columns named.Param)) _ seen opcode.2 in
    let size = step (decimal_of 255 (column columns named.Size)) _ seen param.2 in
    let source = step (decimal_of 65535 (column columns named.Source)) _ seen size.2 in
    let address = step (address_of (column columns named.Address)) _ seen source.2 in
    let mask = step (mask_of bus (column columns named.Mask)) _ seen address.2 in
    let lanes = step (lanes_of bus (column columns named.Data)) _ seen mask.2 in
    let denied = step (nothing_of (column columns named.Denied)) _ seen lanes.2 in
    let corrupt = step (decimal_or_zero 1 (column columns named.Corrupt)) _ seen denied.2 in
    seen_counted bus _ seen (lanes_counted bus (column columns named.Data) lanes.0 lanes.1) corrupt.2

reply_counted : (bus : ℕ) (columns : List (List ℕ)) (seen : SeenBeat) → reply_of_words bus columns ≡ Ok seen
    → length seen.lanes.bytes ≡ bus
unfolding reply_of_words
reply_counted bus columns seen is =
    let opcode = step (decimal_of 255 (column columns named.Opcode)) _ seen is in
    let param = step (decimal_or_zero 255 (column columns named.Param)) _ seen opcode.2 in
    let size = step (decimal_of 255 (column columns named.Size)) _ seen param.2 in
    let source = step (decimal_of 65535 (column columns named.Source)) _ seen size.2 in
    let address = step (nothing_of (column columns named.Address)) _ seen source.2 in
    let mask = step (nothing_of (column columns named.Mask)) _ seen address.2 in
    let lanes = step (lanes_of bus (column columns named.Data)) _ seen mask.2 in
    let denied = step (flag_of (column columns named.Denied)) _ seen lanes.2 in
    let corrupt = step (flag_or (asks_for_mark opcode.0 denied.0) (column columns named.Corrupt)) _ seen denied.2 in
    seen_counted bus _ seen (lanes_counted bus (column columns named.Data) lanes.0 lanes.1) corrupt.2

beat_counted : (bus : ℕ) (channel : RowChannel) (columns : List (List ℕ)) (seen : SeenBeat)
    → beat_of bus channel columns ≡ Ok seen → length seen.lanes.bytes ≡ bus
beat_counted bus channel.A columns seen is = ask_counted bus columns seen is
beat_counted bus channel.D columns seen is = reply_counted bus columns seen is

abbrev HasItsLanes : List Bus → List Bus → SeenRow → Type 0
HasItsLanes masters ports row = length row.sighting.lanes ≡ bus_of_link masters ports row.sighting.link

row_counted : (masters ports : List Bus) (made row : SeenRow) → HasItsLanes masters ports made
    → ok made ≡ Ok row → HasItsLanes masters ports row
row_counted masters ports made row counted is = let same : made ≡ row = cc in
    subst (HasItsLanes masters ports) same counted

-- a reset is no beat
no_reset : (empty : Bool) (line time : ℕ) (row : SeenRow)
    → (if empty then ok (record { line = line; time = time; is_reset = true; sighting = nothing_seen }) else Err Number)
    ≡ Ok row → row.is_reset ≡ false → ⊥
no_reset true line time row is beat = cc
no_reset false line time row is beat = cc

at_link : (masters ports : List Bus) (line time : ℕ) (columns : List (List ℕ)) (link : Option Link) (row : SeenRow)
    → row_or_reset masters ports line time columns link ≡ Ok row → row.is_reset ≡ false → HasItsLanes masters ports row
unfolding row_or_reset
at_link masters ports line time columns (Some link) row is beat =
    let channel = step (channel_of (column columns named.Channel)) _ row is in
    let seen = step (beat_of (bus_of_link masters ports link) channel.0 columns) _ row channel.2 in
    row_counted masters ports _ row (beat_counted (bus_of_link masters ports link) channel.0 columns seen.0 seen.1) seen.2
at_link masters ports line time columns None row is beat =
    absurd (no_reset (are_empty (drop 2 columns)) line time row is beat)

lanes_of_row_are : (resets : Bool) (masters ports : List Bus) (line : ℕ) (columns : List (List ℕ)) (row : SeenRow)
    → row_of resets masters ports line columns ≡ Ok row → row.is_reset ≡ false → HasItsLanes masters ports row
unfolding row_of
lanes_of_row_are resets masters ports line columns row is beat =
    let read = tested_beside (length columns == 12) (is_cut columns) _ _ _ row is in
    let time = step (decimal_of (2 ^ 64 - 1) (column columns named.Time)) _ row read in
    let link = step (or_reset resets (column columns named.Link) (link_of masters ports (column columns named.Link))) _ row
    time.2 in
    at_link masters ports line time.0 columns link.0 row link.2 beat

-- the same of a row as it is judged: only its source may be another one
pub lanes_of_judged_are : (buses : LinkBuses) (line : ℕ) (columns : List (List ℕ)) (row : SeenRow)
    → row_on buses line columns ≡ Ok row → row.is_reset ≡ false → HasItsLanes buses.masters buses.ports row
lanes_of_judged_are buses line columns row is beat =
    go (row_of buses.resets buses.masters buses.ports line columns) refl is
  where
    go : (read : Result SeenRow RowFault) → row_of buses.resets buses.masters buses.ports line columns ≡ read
        → as_judged buses.numbers read ≡ Ok row → HasItsLanes buses.masters buses.ports row
    go (Err fault) read_is is = absurd (cc)
    go (Ok said) read_is is =
        let same : numbered_row buses.numbers said ≡ row = cc in
        subst (HasItsLanes buses.masters buses.ports) same
        (lanes_of_row_are buses.resets buses.masters buses.ports line columns said read_is
        (ap (λ (r : SeenRow). r.is_reset) same ∙ beat))
