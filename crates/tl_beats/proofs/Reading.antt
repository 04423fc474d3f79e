-- What is known of the beats of a request that are read one by one.
use Rattle.std.proofs.Common.{◌≡◌, ◌≢◌, ◌∙◌, ℕ, ◌+◌, ◌-◌, ◌*◌, ◌/◌, ◌%◌, ◌^◌, ◌<◌, ◌≤◌, min, Bool, true, false, List, [], length, Option, Some, None, if◌then◌else◌, slice_get, get_or, ap, sym, refl, subst, arith}
use Rattle.std.specs.Prelude.{All, IsSome, IsSomeAnd}
use Rattle.std.specs.Int.{bit_at}
use Rattle.std.proofs.lemmas.Option.{slice_get_within, slice_get-get_or}
use Rattle.tl_types.specs.List.{HoldsBelow, FailsFirstAt}
use Rattle.tl_types.specs.Request.{Request, IsLawfulRequest}
use Rattle.tl_types.specs.Operation.{carries_bytes, byte_count, may_leave_unset}
use Rattle.tl_types.specs.Wire.{IsCodeOf, IsFirstOpFault}
use Rattle.tl_types.specs.declared.operation.AskOp.{AskOp}
use Rattle.tl_types.specs.declared.limits.TheConstants.{MAX_SIZE}
use Rattle.tl_types.proofs.Operations.{no_fault_of_code}
use Rattle.tl_beats.specs.Beats.{low, lane_of, beat_count, active_mask, IsLawfulMask, StandsAt, SpellsAsk}
use Rattle.tl_beats.specs.Faults.{SameFields, HasBeatFault, beat_fault_rank, IsFirstBeatFault}
use Rattle.tl_beats.specs.Reading.{Gains, GainsLanes, HasLawfulMask, AreFaultless, AreBytesOf, IsBegun, IsReadFrom, IsFaultOfBeats}
use Rattle.tl_beats.specs.declared.beat.ABeat.{ABeat}
use Rattle.tl_beats.specs.declared.beat.BeatFault.{BeatFault}
use Rattle.tl_beats.specs.declared.beat.BeatFault.TheVariants.{NoBeat, Op, Size, Count, Changed, Mask, CorruptFlag}
use Rattle.tl_beats.proofs.Places.{bytes_in_beats}
use Rattle.tl_beats.proofs.Spelling.{active_lane}
use Rattle.tl_beats.proofs.Gaining.{gains_so, count_of_beat, count_of_gained, gains_in_message}
use Rattle.tl_beats.proofs.Failing.{at_element, none_fails}
use Rattle.tl_beats.proofs.Codes.{same_op}
use Rattle.tl_beats.proofs.Only.{beat_of_byte, code_of_spelled, same_ask}

-- ---- beat by beat

-- the bytes of the first b beats are read
pub record AreBytesSoFar (beats : List ABeat) (first : ABeat) (op : AskOp) (b : ℕ)
    (bytes : List (Option ℕ)) : Type 0 where
  pub counted : length bytes ≡ min (8 * b) (byte_count op first.size)
  pub each : (j : ℕ) (given : Option ℕ) → slice_get bytes j ≡ Some given → (beat : ABeat)
      → slice_get beats (j / 8) ≡ Some beat → StandsAt beat.mask beat.lanes (lane_of first.address first.size j) given

pub bytes_none : (beats : List ABeat) (first : ABeat) (op : AskOp) → AreBytesSoFar beats first op 0 []
bytes_none beats first op = record { counted = omega arith; each = λ j given at. absurd (cc) }

pub bytes_more : (beats : List ABeat) (first : ABeat) (op : AskOp) (b : ℕ) (d : ABeat) (lane count : ℕ)
    (old new : List (Option ℕ)) → b < length beats → length beats ≡ beat_count (carries_bytes op) first.size
    → AreBytesSoFar beats first op b old → lane ≡ low first.address first.size % 8
    → count ≡ min (byte_count op first.size) 8 → GainsLanes (get_or beats b d) lane count old new
    → AreBytesSoFar beats first op (b + 1) new
bytes_more beats first op b d lane count old new within counted so_far lane_is count_is gains =
    let here = get_or beats b d in
    let at : slice_get beats b ≡ Some here = slice_get-get_or beats b d within in
    let beat : b < beat_count (carries_bytes op) first.size = rw (← counted) within in
    let left : count ≡ min (byte_count op first.size - length old) 8 =
    count_of_beat (carries_bytes op) first.size b (length old) count beat so_far.counted count_is in
    let Q : ℕ → ℕ → Option ℕ → Type 0 =
    λ k l given. (x : ABeat) → slice_get beats k ≡ Some x → StandsAt x.mask x.lanes l given in
    let gained : Gains (λ k given. Q b (low first.address first.size % 8 + k) given) count old new =
    gains_so (λ k given. StandsAt here.mask here.lanes (lane + k) given)
    (λ k given. Q b (low first.address first.size % 8 + k) given) count old new (λ k given h stands x found.
    let is : here ≡ x = cc in
    subst (λ (y : ABeat). StandsAt y.mask y.lanes (low first.address first.size % 8 + k) given) is
    (subst (λ (l : ℕ). StandsAt here.mask here.lanes (l + k) given) lane_is stands)) gains in
    record {
      counted = gains.counted ∙ count_of_gained b (length old) count (byte_count op first.size) so_far.counted left;
      each = gains_in_message Q
          (carries_bytes op) first.address first.size b count old new beat so_far.counted left gained so_far.each;
    }

-- the beats have room for the bytes
pub bytes_fit : (carries : Bool) (size : ℕ) → (if carries then 2 ^ size else 0) ≤ 8 * beat_count carries size
bytes_fit true size = bytes_in_beats size
bytes_fit false size = omega arith

pub bytes_all : (beats : List ABeat) (first : ABeat) (op : AskOp) (b : ℕ) (bytes : List (Option ℕ))
    → length beats ≡ beat_count (carries_bytes op) first.size → length beats ≤ b → AreBytesSoFar beats first op b bytes
    → AreBytesOf beats first op bytes
bytes_all beats first op b bytes counted over so_far =
    let fits = bytes_fit (carries_bytes op) first.size in
    record {
      counted = omega (arith, so_far.counted, fits, counted, over);
      each = λ j given beat at found. so_far.each j given at beat found;
    }

-- a request that carries none has no bytes
pub bytes_of_none : (beats : List ABeat) (first : ABeat) (op : AskOp) → carries_bytes op ≡ false
    → AreBytesOf beats first op []
bytes_of_none beats first op none = record { counted = rw none refl; each = λ j given beat at found. absurd (cc) }

-- beats without fault and the bytes that stand in them
pub read_from : (beats : List ABeat) (first : ABeat) (op : AskOp) (bytes : List (Option ℕ))
    → AreFaultless beats first op → AreBytesOf beats first op bytes → IsReadFrom beats first op bytes
read_from beats first op bytes faultless read =
    record { same = faultless.same; masks = faultless.masks; counted = read.counted; each = read.each }

-- ---- a request that beats spell, against their first beat

-- no beat differs from the first
pub no_change : (ask : Request) (beats : List ABeat) (first : ABeat) (b : ℕ) → slice_get beats 0 ≡ Some first
    → SpellsAsk ask beats → FailsFirstAt (SameFields first) beats b → ⊥
no_change ask beats first b head spells fails =
    let found = at_element (λ beat. SameFields first beat → ⊥) (slice_get beats b) fails.here in
    let here = (spells.each b found.0 found.1).fields in
    let there = (spells.each 0 first head).fields in
    found.2 record { opcode = cc; param = cc; size = cc; source = cc; address = cc }

mask_same : (op other : AskOp) (size size' address address' mask : ℕ) → other ≡ op → size' ≡ size → address' ≡ address
    → IsLawfulMask other size' address' mask → IsLawfulMask op size address mask
mask_same op other size size' address address' mask p q r h = rw (← p, ← q, ← r) h

-- no mask is unlawful
pub no_bad_mask : (ask : Request) (beats : List ABeat) (first : ABeat) (op : AskOp) (b : ℕ)
    → slice_get beats 0 ≡ Some first → SpellsAsk ask beats → ask.op ≡ op → FailsFirstAt (HasLawfulMask op first) beats b
    → ⊥
no_bad_mask ask beats first op b head spells same fails =
    let found = at_element (λ beat. HasLawfulMask op first beat → ⊥) (slice_get beats b) fails.here in
    let lawful = (spells.each b found.0 found.1).mask in
    let there = (spells.each 0 first head).fields in
    found.2 (mask_same op ask.op first.size ask.size first.address ask.address found.0.mask same (sym there.size)
    (sym there.address) lawful)

-- ---- beats whose first beat has no fault

-- no request is spelled where a beat is at fault
pub no_request : (beats : List ABeat) (first : ABeat) (op : AskOp) (fault : BeatFault) → IsBegun beats first op
    → IsFaultOfBeats beats first op fault → (ask : Request) → SpellsAsk ask beats → ⊥
no_request beats first op NoBeat begun h ask spells = h
no_request beats first op (Op f) begun h ask spells = h
no_request beats first op Size begun h ask spells = h
no_request beats first op Count begun h ask spells = h
no_request beats first op (Changed b) begun h ask spells = no_change ask beats first b begun.head spells h
no_request beats first op (Mask b) begun h ask spells =
    let same : ask.op ≡ op =
    same_op ask.op op first.opcode first.param (code_of_spelled ask beats first begun.head spells) begun.code in
    no_bad_mask ask beats first op b begun.head spells same h.1
no_request beats first op (CorruptFlag b) begun h ask spells = h

module _ (beats : List ABeat) (first : ABeat) (op : AskOp) (begun : IsBegun beats first op) where
  -- what is said of the first beat and of the operation that it names
  of_first : (P : ABeat → Type 0) → IsSomeAnd (slice_get beats 0) P → P first
  of_first P h =
      let found = at_element P (slice_get beats 0) h in
      let is_first : found.0 ≡ first = cc in
      subst P is_first found.2

  no_earlier : (other : BeatFault) → beat_fault_rank other < 5 → HasBeatFault beats other → ⊥
  no_earlier NoBeat rank h = let none : slice_get beats 0 ≡ None = ap (λ xs. slice_get xs 0) h in absurd (cc)
  no_earlier (Op fault) rank h =
      no_fault_of_code op first.opcode first.param fault begun.code
      (of_first (λ x. IsFirstOpFault x.opcode x.param fault) h).applies
  no_earlier Size rank h = omega (arith, begun.in_limit, of_first (λ x. MAX_SIZE < x.size) h)
  no_earlier Count rank h =
      let named = of_first (λ x. (o : AskOp) × IsCodeOf o x.opcode x.param
      × (length beats ≢ beat_count (carries_bytes o) x.size)) h in
      let same : op ≡ named.0 = same_op op named.0 first.opcode first.param begun.code named.1 in
      named.2 (begun.count ∙ ap (λ o. beat_count (carries_bytes o) first.size) same)
  no_earlier (Changed k) rank h = absurd (omega (arith, rank))
  no_earlier (Mask k) rank h = absurd (omega (arith, rank))
  no_earlier (CorruptFlag k) rank h = absurd h

  no_earlier_than_mask : HoldsBelow (SameFields first) beats (length beats) → (other : BeatFault)
      → beat_fault_rank other < 6 → HasBeatFault beats other → ⊥
  no_earlier_than_mask same NoBeat rank h = no_earlier NoBeat (omega arith) h
  no_earlier_than_mask same (Op fault) rank h = no_earlier (Op fault) (omega arith) h
  no_earlier_than_mask same Size rank h = no_earlier Size (omega arith) h
  no_earlier_than_mask same Count rank h = no_earlier Count (omega arith) h
  no_earlier_than_mask same (Changed k) rank h =
      none_fails (SameFields first) beats k same (of_first (λ x. FailsFirstAt (SameFields x) beats k) h)
  no_earlier_than_mask same (Mask k) rank h = absurd (omega (arith, rank))
  no_earlier_than_mask same (CorruptFlag k) rank h = absurd h

  -- a fault that shows in a beat is then the first one
  pub first_of_beats : (fault : BeatFault) → IsFaultOfBeats beats first op fault → IsFirstBeatFault beats fault
  first_of_beats NoBeat h = absurd h
  first_of_beats (Op f) h = absurd h
  first_of_beats Size h = absurd h
  first_of_beats Count h = absurd h
  first_of_beats (Changed b) h = record { applies = rw begun.head h; first = no_earlier }
  first_of_beats (Mask b) h = record { applies = rw begun.head (op, begun.code, h.1); first = no_earlier_than_mask h.0 }
  first_of_beats (CorruptFlag b) h = absurd h

-- ---- the request that was read

abbrev pub read_request : ABeat → AskOp → List (Option ℕ) → Request
read_request first op bytes =
    record { op = op; size = first.size; source = first.source; address = first.address; bytes = bytes }

-- a lane that is set has a byte
some_from_bit : (mask : ℕ) (lanes : List ℕ) (lane : ℕ) (given : Option ℕ) → StandsAt mask lanes lane given
    → bit_at mask lane ≡ 1 → IsSome given
some_from_bit mask lanes lane None stands set = let no : 0 ≡ 1 = sym stands ∙ set in absurd (omega (arith, no))
some_from_bit mask lanes lane (Some x) stands set = refl

counted_within : (carries : Bool) (size j : ℕ) → j < (if carries then 2 ^ size else 0) → j < 2 ^ size
counted_within true size j h = h
counted_within false size j h = absurd (omega (arith, h))

module _ (beats : List ABeat) (first : ABeat) (op : AskOp) (begun : IsBegun beats first op) (bytes : List (Option ℕ))
    (read : IsReadFrom beats first op bytes) where
  read_whole : may_leave_unset op ≡ false → All (λ b. IsSome b) bytes
  read_whole whole j d h =
      let counted : j < byte_count op first.size = rw read.counted at h in
      let there : j / 8 < length beats = rw begun.count (beat_of_byte (carries_bytes op) first.size j counted) in
      let beat = get_or beats (j / 8) first in
      let at : slice_get beats (j / 8) ≡ Some beat = slice_get-get_or beats (j / 8) first there in
      let lane = lane_of first.address first.size j in
      let mask : beat.mask ≡ active_mask first.address first.size = (read.masks (j / 8) beat there at).whole whole in
      some_from_bit beat.mask beat.lanes lane (get_or bytes j d)
      (read.each j (get_or bytes j d) beat (slice_get-get_or bytes j d h) at)
      (ap (λ m. bit_at m lane) mask ∙ active_lane first.address first.size j
      (counted_within (carries_bytes op) first.size j counted))

  pub read_lawful : IsLawfulRequest op first.size bytes
  read_lawful = record { in_limit = begun.in_limit; counted = read.counted; whole = read_whole }

  pub read_spells : SpellsAsk (read_request first op bytes) beats
  read_spells = record {
    count = begun.count;
    each = λ b beat at.
        let within = slice_get_within beats b beat at in
        let same = read.same b beat within at in
        record {
          fields = record {
            opcode = same.opcode ∙ sym begun.code.opcode_is;
            param = same.param ∙ sym begun.code.param_is;
            size = same.size;
            source = same.source;
            address = same.address;
          };
          mask = read.masks b beat within at;
          bytes = λ j given found in_beat. read.each j given beat found (ap (λ k. slice_get beats k) in_beat ∙ at);
        };
  }

  -- no other request is spelled
  pub read_only : (ask : Request) → IsLawfulRequest ask.op ask.size ask.bytes → SpellsAsk ask beats
      → read_request first op bytes ≡ ask
  read_only ask lawful spells = same_ask (read_request first op bytes) ask beats read_lawful lawful read_spells spells
