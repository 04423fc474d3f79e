-- What sampling means, said of the changes of a dump alone: which beats and which resets of the whole system there are, and what
-- their rows show. It is this project's own. A row has the values before the edge, since these are what a register takes at it.
use Rattle.std.specs.Prelude.{◌≡◌, ◌⊎◌, ◌↔◌, ℕ, ◌+◌, ◌<◌, ◌≤◌, ◌==◌, Bool, true, false, ◌&&◌, not, nat_le, nat_lt, ⊤, List, [], ◌∷◌, length, get_or, map, filter, slice_get, Option, None, Some, Contains, if◌then◌else◌}
use Rattle.std.specs.List.{last_or, range_with_len}
use Rattle.check_vcd.specs.Body.{Happens, At, Sets, Resumes, Wrong}
use Rattle.check_samples.specs.Digits.{bits_of, extended, with_joined}
use Rattle.check_samples.specs.Domain.{Domain, Watched}
use Rattle.check_samples.specs.EdgeFault.{edge_fault}
use Rattle.check_samples.specs.Left.{End, end_of_edges}
use Rattle.check_samples.specs.Rows.{Probes, Rows, and_then, crosses, hand_alone, is_active, is_early, is_late, is_one, is_unsure, no_rows, ready_of, row_alone, row_at, some_crosses, valid_of}
use Rattle.check_samples.specs.declared.channel.Channel.{Channel}
use Rattle.check_samples.specs.declared.clock.Clock.{Clock}
use Rattle.check_samples.specs.declared.edges.Edges.{Edges}
use Rattle.check_samples.specs.declared.reset.SystemReset.{SystemReset}
use Rattle.check_samples.specs.declared.signal.Signal.{Signal}
use Rattle.check_samples.specs.Resets.{reset_rows}

-- ---- the changes of a dump

-- a change: the time at which it stands, or none if it stands before the first time; which slot's value changes; and to
-- which digits
pub record ValueChange : Type 0 where
  pub time : Option ℕ
  pub slot : ℕ
  pub digits : List ℕ

-- all changes of what happens, in their order, if this time began last; nothing counts after a line that is wrong
abbrev pub changes_after : Option ℕ → List Happens → List ValueChange
changes_after time [] = []
changes_after time (At next ∷ happens) = changes_after (Some next) happens
changes_after time (Sets slot digits ∷ happens) =
    record { time = time; slot = slot; digits = digits } ∷ changes_after time happens
changes_after time (Resumes line ∷ happens) = changes_after time happens
changes_after time (Wrong line mistake ∷ happens) = []

-- the times at which changes are told again, after they were not
abbrev pub gaps_after : Option ℕ → List Happens → List (Option ℕ)
gaps_after time [] = []
gaps_after time (At next ∷ happens) = gaps_after (Some next) happens
gaps_after time (Sets slot digits ∷ happens) = gaps_after time happens
gaps_after time (Resumes line ∷ happens) = time ∷ gaps_after time happens
gaps_after time (Wrong line mistake ∷ happens) = []

-- if a line is wrong: the time at which it stands, or none if it stands before the first
abbrev pub cut_after : Option ℕ → List Happens → Option (Option ℕ)
cut_after time [] = None
cut_after time (At next ∷ happens) = cut_after (Some next) happens
cut_after time (Sets slot digits ∷ happens) = cut_after time happens
cut_after time (Resumes line ∷ happens) = cut_after time happens
cut_after time (Wrong line mistake ∷ happens) = Some time

-- another time is earlier than this one; what stands before the first time is earlier than each.
abbrev pub is_before : ℕ → Option ℕ → Bool
is_before time None = true
is_before time (Some other) = nat_lt other time

-- another time is this one or an earlier one; what stands before the first time is earlier than each.
abbrev pub is_until : ℕ → Option ℕ → Bool
is_until time None = true
is_until time (Some other) = nat_le other time

-- no time is less than the one before it
abbrev pub NeverFalls : Option ℕ → List Happens → Type 0
NeverFalls time [] = ⊤
NeverFalls time (At next ∷ happens) = (is_until next time ≡ true) × NeverFalls (Some next) happens
NeverFalls time (Sets slot digits ∷ happens) = NeverFalls time happens
NeverFalls time (Resumes line ∷ happens) = NeverFalls time happens
NeverFalls time (Wrong line mistake ∷ happens) = ⊤

-- ---- values

-- a dump: what is looked at; the digits of each slot before its first change, and how many bits it has; all
-- changes; the times at which changes are told again, after they were not; and the time at which a line is wrong, if one
-- is
pub record Wave : Type 0 where
  pub probes : Probes
  pub first : List (List ℕ)
  pub widths : List ℕ
  pub changes : List ValueChange
  pub gaps : List (Option ℕ)
  pub cut : Option (Option ℕ)

-- the dump in which this happens, if this is looked at, and with these first digits and numbers of bits of the slots.
abbrev pub wave_of : Probes → List (List ℕ) → List ℕ → List Happens → Wave
wave_of probes first widths happens = record {
  probes = probes;
  first = first;
  widths = widths;
  changes = changes_after None happens;
  gaps = gaps_after None happens;
  cut = cut_after None happens;
}

-- the last change of a slot
abbrev pub last_of : ℕ → List ValueChange → Option ValueChange
last_of slot changes = last_or None (filter (λ change. change.slot == slot) changes)

-- the value that a change leaves; if there is none, the first one stays
abbrev pub value_by : List ℕ → ℕ → Option ValueChange → List ℕ
value_by first width None = first
value_by first width (Some change) = extended width change.digits

-- the value of a slot if these changes alone count.
abbrev pub value_after : Wave → List ValueChange → ℕ → List ℕ
value_after wave changes slot = value_by (get_or wave.first slot []) (get_or wave.widths slot 0) (last_of slot changes)

-- the values of all slots if these changes alone count, without what is put together of their parts.
abbrev pub values_after : Wave → List ValueChange → List (List ℕ)
values_after wave changes = map (value_after wave changes) (range_with_len 0 (length wave.first))

-- the values before a time: each by its last change at an earlier time; and behind them what is put together of their parts
abbrev pub values_before : Wave → ℕ → List (List ℕ)
values_before wave time =
    with_joined wave.probes.joins
    (values_after wave (filter (λ change. is_before time change.time) wave.changes))

-- the values at the end of a time: each by its last change at this time or an earlier one
abbrev pub values_until : Wave → ℕ → List (List ℕ)
values_until wave time = values_after wave (filter (λ change. is_until time change.time) wave.changes)

-- ---- beats

-- a time that is over before the line that is wrong, if there is one
abbrev pub is_whole : Option (Option ℕ) → ℕ → Bool
is_whole None time = true
is_whole (Some cut) time = not (is_until time cut)

-- below this time, or any time if there is none
abbrev pub StandsBelow : Option ℕ → ℕ → Type 0
StandsBelow None time = ⊤
StandsBelow (Some below) time = time < below

-- an edge of a clock below a time: the clock was the one bit before and is the other at its end, and this was so of the values
-- before it
pub record HasEdge (wave : Wave) (clock : Clock) (so : List (List ℕ) → Bool) (below : Option ℕ) : Type 0 where
  pub time : ℕ
  pub before : StandsBelow below time
  pub early : is_early clock.edge (bits_of (values_before wave time) clock.tap) ≡ true
  pub late : is_late clock.edge (bits_of (values_until wave time) clock.tap) ≡ true
  pub was : so (values_before wave time) ≡ true

-- of the values before an edge, anything may be so.
abbrev pub always : List (List ℕ) → Bool
always values = true

-- of the values before an edge of a domain's clock, its reset is active.
abbrev pub active_in : Domain → List (List ℕ) → Bool
active_in domain values = is_active values domain.reset

-- of the values before an edge of a domain's clock, its reset is not active.
abbrev pub outside_in : Domain → List (List ℕ) → Bool
outside_in domain values = not (is_active values domain.reset)

-- of the values before an edge of a domain's clock, valid and ready of some channel of the domain, which has this place,
-- are 1 outside of reset.
abbrev pub crossed_in : Wave → ℕ → Domain → List (List ℕ) → Bool
crossed_in wave place domain values =
    not (is_active values domain.reset) && some_crosses place values wave.probes.channels

-- of the values before an edge of a domain's clock, valid and ready of some channel of the domain, which has this place,
-- are 1 in reset.
abbrev pub masked_in : Wave → ℕ → Domain → List (List ℕ) → Bool
masked_in wave place domain values = is_active values domain.reset && some_crosses place values wave.probes.channels

-- there were these edges of a domain, which has this place, below a time, or in all of a dump if there is none
pub record EdgesAre (wave : Wave) (place : ℕ) (domain : Domain) (below : Option ℕ) (edges : Edges) : Type 0 where
  pub any : (edges.any ≡ true) ↔ HasEdge wave domain.clock always below
  pub outside : (edges.outside ≡ true) ↔ HasEdge wave domain.clock (outside_in domain) below
  pub in_reset : (edges.in_reset ≡ true) ↔ HasEdge wave domain.clock (active_in domain) below
  pub crossed : (edges.crossed ≡ true) ↔ HasEdge wave domain.clock (crossed_in wave place domain) below
  pub masked : (edges.masked ≡ true) ↔ HasEdge wave domain.clock (masked_in wave place domain) below

-- so it is with each of these domains, of which the first has this place
abbrev pub AllWatched : Wave → Option ℕ → ℕ → List Domain → List Watched → Type 0
AllWatched wave below place [] [] = ⊤
AllWatched wave below place [] (one ∷ watched) = ⊥
AllWatched wave below place (domain ∷ domains) [] = ⊥
AllWatched wave below place (domain ∷ domains) (one ∷ watched) =
    (one.domain ≡ domain) × EdgesAre wave place domain below one.edges × AllWatched wave below (place + 1) domains watched

-- the reset of a domain was active at an earlier edge of its clock
abbrev pub WasReset : Wave → Domain → ℕ → Type 0
WasReset wave domain time = HasEdge wave domain.clock (active_in domain) (Some time)

-- a beat crossed in some domain at an earlier edge of its clock
pub record HasCrossed (wave : Wave) (time : ℕ) : Type 0 where
  pub place : ℕ
  pub domain : Domain
  pub is : slice_get wave.probes.domains place ≡ Some domain
  pub edge : HasEdge wave domain.clock (crossed_in wave place domain) (Some time)

-- where changes are told again there is a gap, if a beat crossed at an earlier time
abbrev pub MayLose : Wave → Option ℕ → Type 0
MayLose wave None = ⊥
MayLose wave (Some time) = HasCrossed wave time

-- there is no gap.
abbrev pub HasNoGap : Wave → Type 0
HasNoGap wave = (gap : Option ℕ) → Contains wave.gaps gap → MayLose wave gap → ⊥

-- up to the end of a time there is none
abbrev pub IsJoinedUntil : Wave → ℕ → Type 0
IsJoinedUntil wave time =
    (gap : Option ℕ) → Contains wave.gaps gap → is_until time gap ≡ true → MayLose wave gap → ⊥

-- a channel at a time, with its place among those that are looked at
pub record SampledBeat : Type 0 where
  pub time : ℕ
  pub place : ℕ
  pub channel : Channel

-- valid and ready were 1
pub record Meets (wave : Wave) (beat : SampledBeat) : Type 0 where
  pub valid : is_one (bits_of (values_before wave beat.time) beat.channel.valid) ≡ true
  pub ready : is_one (bits_of (values_before wave beat.time) beat.channel.ready) ≡ true

-- valid was unknown, although the reset of its domain was active at an earlier edge
pub record HidesValid (wave : Wave) (domain : Domain) (beat : SampledBeat) : Type 0 where
  pub reset : WasReset wave domain beat.time
  pub valid : is_unsure (bits_of (values_before wave beat.time) beat.channel.valid) ≡ true

-- valid was 1 and ready unknown, although the domain has no reset or it was active at an earlier edge
pub record HidesReady (wave : Wave) (domain : Domain) (beat : SampledBeat) : Type 0 where
  pub reset : (domain.reset ≡ None) ⊎ WasReset wave domain beat.time
  pub valid : is_one (bits_of (values_before wave beat.time) beat.channel.valid) ≡ true
  pub ready : is_unsure (bits_of (values_before wave beat.time) beat.channel.ready) ≡ true

-- it is a beat, or it is not known whether it is one: the clock of the channel's domain was 0 before the time and is 1 at its
-- end, or for its falling edges the other way round; the domain's reset was not active before it, valid and ready were 1
-- before it or one of them is hidden, and up to its end there is no gap and no line is wrong
pub record IsSampledBeat (wave : Wave) (beat : SampledBeat) : Type 0 where
  pub looked : slice_get wave.probes.channels beat.place ≡ Some beat.channel
  pub domain : Domain
  pub has : slice_get wave.probes.domains beat.channel.domain ≡ Some domain
  pub early : is_early domain.clock.edge (bits_of (values_before wave beat.time) domain.clock.tap) ≡ true
  pub late : is_late domain.clock.edge (bits_of (values_until wave beat.time) domain.clock.tap) ≡ true
  pub running : is_active (values_before wave beat.time) domain.reset ≡ false
  pub shows : Meets wave beat ⊎ (HidesValid wave domain beat ⊎ HidesReady wave domain beat)
  pub joined : IsJoinedUntil wave beat.time
  pub whole : is_whole wave.cut beat.time ≡ true

-- what is hidden of a channel at which no beat crosses: ready if valid is 1, and else valid
abbrev pub hidden_hand : List (List ℕ) → Channel → Signal
hidden_hand values channel =
    if is_one (bits_of values channel.valid) then ready_of channel.beat else valid_of channel.beat

-- the row of a beat that crosses, with the values before the time; there is none if one of them, data aside, has an
-- unknown bit, or if valid or ready is hidden
abbrev pub shown_row : ℕ → List (List ℕ) → Channel → Rows
shown_row time values channel =
    if crosses values channel then row_alone time channel (row_at time values channel)
    else hand_alone time channel (Some (hidden_hand values channel))

-- ---- resets of the whole system

-- the reset is active in these values
abbrev pub system_active_in : SystemReset → List (List ℕ) → Bool
system_active_in system values = is_active values (Some system.reset)

-- it was active at the last edge of the system's clock below a time: at this edge, which no other follows
pub record WasActive (wave : Wave) (system : SystemReset) (below : Option ℕ) : Type 0 where
  pub edge : HasEdge wave system.clock (system_active_in system) below
  pub last : (other : HasEdge wave system.clock always below) → other.time ≤ edge.time

-- the whole system is reset at a time: resets are told; the system's clock was 0 before the time and is 1 at its end, or for
-- its falling edges the other way round; its reset was active before the time, and not at the edge before, if there is one;
-- a beat crossed at an earlier time; and up to the end of the time there is no gap and no line is wrong
pub record IsSampledReset (wave : Wave) (time : ℕ) : Type 0 where
  pub system : SystemReset
  pub told : wave.probes.resets ≡ Some system
  pub early : is_early system.clock.edge (bits_of (values_before wave time) system.clock.tap) ≡ true
  pub late : is_late system.clock.edge (bits_of (values_until wave time) system.clock.tap) ≡ true
  pub active : system_active_in system (values_before wave time) ≡ true
  pub begins : WasActive wave system (Some time) → ⊥
  pub crossed : HasCrossed wave time
  pub joined : IsJoinedUntil wave time
  pub whole : is_whole wave.cut time ≡ true

-- ---- all rows

-- what has a row: a beat, or a reset of the whole system at this time
pub data SampledRow : Type 0 where
  OfBeat : SampledBeat → SampledRow
  OfReset : ℕ → SampledRow

-- the time of a row.
abbrev pub time_of_sampled : SampledRow → ℕ
time_of_sampled (OfBeat beat) = beat.time
time_of_sampled (OfReset time) = time

-- the dump has this beat, or this reset.
abbrev pub IsSampled : Wave → SampledRow → Type 0
IsSampled wave (OfBeat beat) = IsSampledBeat wave beat
IsSampled wave (OfReset time) = IsSampledReset wave time

-- the row of a beat or of a reset.
abbrev pub sampled_row : Wave → SampledRow → Rows
sampled_row wave (OfBeat beat) = shown_row beat.time (values_before wave beat.time) beat.channel
sampled_row wave (OfReset time) = reset_rows time true

-- the rows of these, one after the other, up to the first that has none
abbrev pub sampled_rows : Wave → List SampledRow → Rows
sampled_rows wave [] = no_rows
sampled_rows wave (one ∷ others) = and_then (sampled_row wave one) (sampled_rows wave others)

-- within a time a reset is first, and then come beats in the order in which they cross
abbrev pub PrecedesAtTime : SampledRow → SampledRow → Type 0
PrecedesAtTime (OfReset time) (OfReset later) = ⊥
PrecedesAtTime (OfReset time) (OfBeat later) = ⊤
PrecedesAtTime (OfBeat beat) (OfReset later) = ⊥
PrecedesAtTime (OfBeat beat) (OfBeat later) = beat.place < later.place

-- by time, and then so
abbrev pub Precedes : SampledRow → SampledRow → Type 0
Precedes one later =
    (time_of_sampled one < time_of_sampled later)
    ⊎ ((time_of_sampled one ≡ time_of_sampled later) × PrecedesAtTime one later)

-- each of these precedes all that stand after it.
abbrev pub AreInOrder : List SampledRow → Type 0
AreInOrder [] = ⊤
AreInOrder (one ∷ others) = ((later : SampledRow) → Contains others later → Precedes one later) × AreInOrder others

-- the rows are those of all beats and all resets of the dump and of nothing else, each once, in order
pub record AreSampled (wave : Wave) (rows : Rows) : Type 0 where
  pub sampled : List SampledRow
  pub each : (one : SampledRow) → Contains sampled one ↔ IsSampled wave one
  pub order : AreInOrder sampled
  pub are : rows ≡ sampled_rows wave sampled

-- a whole dump ends as the edges of its domains say
pub record EndsSampled (wave : Wave) (end : End) : Type 0 where
  pub watched : List Watched
  pub are : AllWatched wave None 0 wave.probes.domains watched
  pub is : end ≡ end_of_edges (edge_fault watched)
