-- Beats spell at most one request.
use Rattle.std.proofs.Common.{◌≡◌, ◌∙◌, ℕ, ◌/◌, ◌^◌, ◌<◌, Bool, true, false, if◌then◌else◌, List, [], ◌∷◌, length, Option, Some, None, slice_get, get_or, ap, sym, refl, subst, arith}
use Rattle.std.proofs.lemmas.List.{same_lists}
use Rattle.std.proofs.lemmas.Option.{slice_get-get_or}
use Rattle.tl_types.specs.Request.{Request, IsLawfulRequest}
use Rattle.tl_types.specs.Operation.{carries_bytes, byte_count}
use Rattle.tl_types.specs.Wire.{IsCodeOf}
use Rattle.tl_beats.specs.Beats.{lane_of, beat_count, StandsAt, SpellsAsk}
use Rattle.tl_beats.specs.declared.beat.ABeat.{ABeat}
use Rattle.tl_beats.proofs.Places.{beat_in_message}
use Rattle.tl_beats.proofs.Codes.{same_op}

-- a message has a beat
pub some_beat : (carries : Bool) (size : ℕ) → 0 < beat_count carries size
some_beat true size = omega arith
some_beat false size = omega arith

-- the beat of a byte is one of the message's
pub beat_of_byte : (carries : Bool) (size j : ℕ) → j < (if carries then 2 ^ size else 0)
    → j / 8 < beat_count carries size
beat_of_byte true size j h = beat_in_message size j h
beat_of_byte false size j h = absurd (omega (arith, h))

-- a lane has one byte or none
StandsAt-same : (mask : ℕ) (lanes : List ℕ) (lane : ℕ) (a b : Option ℕ) → StandsAt mask lanes lane a
    → StandsAt mask lanes lane b → a ≡ b
StandsAt-same mask lanes lane None None p q = refl
StandsAt-same mask lanes lane None (Some y) p q = let no : 0 ≡ 1 = sym p ∙ q.0 in absurd (omega (arith, no))
StandsAt-same mask lanes lane (Some x) None p q = let no : 0 ≡ 1 = sym q ∙ p.0 in absurd (omega (arith, no))
StandsAt-same mask lanes lane (Some x) (Some y) p q = ap Some (sym p.1 ∙ q.1)

pub code_of_spelled : (ask : Request) (beats : List ABeat) (first : ABeat) → slice_get beats 0 ≡ Some first
    → SpellsAsk ask beats → IsCodeOf ask.op first.opcode first.param
code_of_spelled ask beats first head spells =
    let fields = (spells.each 0 first head).fields in
    record { opcode_is = sym fields.opcode; param_is = sym fields.param }

pub same_ask : (ask other : Request) (beats : List ABeat) → IsLawfulRequest ask.op ask.size ask.bytes
    → IsLawfulRequest other.op other.size other.bytes → SpellsAsk ask beats → SpellsAsk other beats → ask ≡ other
same_ask ask other [] lawful lawful' spells spells' =
    absurd (omega (arith, spells.count, some_beat (carries_bytes ask.op) ask.size))
same_ask ask other (first ∷ rest) lawful lawful' spells spells' =
    let beats : List ABeat = first ∷ rest in
    let fields = (spells.each 0 first refl).fields in
    let fields' = (spells'.each 0 first refl).fields in
    let op : ask.op ≡ other.op =
    same_op ask.op other.op first.opcode first.param (code_of_spelled ask beats first refl spells)
    (code_of_spelled other beats first refl spells') in
    let size : ask.size ≡ other.size = sym fields.size ∙ fields'.size in
    let source : ask.source ≡ other.source = sym fields.source ∙ fields'.source in
    let address : ask.address ≡ other.address = sym fields.address ∙ fields'.address in
    let count : byte_count ask.op ask.size ≡ byte_count other.op other.size = rw (op, size) refl in
    let long : length ask.bytes ≡ length other.bytes = lawful.counted ∙ count ∙ sym lawful'.counted in
    let bytes : ask.bytes ≡ other.bytes =
    same_lists ask.bytes other.bytes long (λ j d h.
    let there : j / 8 < length beats =
    rw spells.count (beat_of_byte (carries_bytes ask.op) ask.size j (rw lawful.counted at h)) in
    let beat = get_or beats (j / 8) first in
    let at : slice_get beats (j / 8) ≡ Some beat = slice_get-get_or beats (j / 8) first there in
    let ours = (spells.each (j / 8) beat at).bytes j (get_or ask.bytes j d) (slice_get-get_or ask.bytes j d h) refl in
    let theirs = (spells'.each (j / 8) beat at).bytes j (get_or other.bytes j d)
    (slice_get-get_or other.bytes j d (rw (← long) h)) refl in
    let lane : lane_of other.address other.size j ≡ lane_of ask.address ask.size j = rw (address, size) refl in
    StandsAt-same beat.mask beat.lanes (lane_of ask.address ask.size j) (get_or ask.bytes j d)
    (get_or other.bytes j d) ours (subst (λ (l : ℕ). StandsAt beat.mask beat.lanes l
    (get_or other.bytes j d)) lane theirs)) in
    λ i. record { op = op i; size = size i; source = source i; address = address i; bytes = bytes i }
