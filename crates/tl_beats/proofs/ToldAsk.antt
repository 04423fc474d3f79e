-- The request that beats spell is the one that they tell.
use Rattle.std.proofs.Common.{◌≡◌, ◌∙◌, ℕ, ◌/◌, ◌<◌, Option, Some, None, List, [], ◌∷◌, length, slice_get, slice_index, get_or, ap, sym, refl, arith}
use Rattle.std.specs.Int.{bit_at}
use Rattle.std.proofs.lemmas.List.FromFn.{fill_by_all}
use Rattle.std.proofs.lemmas.Option.{slice_get-get_or}
use Rattle.tl_types.specs.Request.{Request, IsLawfulRequest}
use Rattle.tl_types.specs.Operation.{carries_bytes, byte_count}
use Rattle.tl_beats.specs.Beats.{lane_of, StandsAt, SpellsAsk}
use Rattle.tl_beats.specs.ToldAsk.{op_at, no_ask_beat, lane_given, told_given, told_ask}
use Rattle.tl_beats.specs.declared.beat.ABeat.{ABeat}
use Rattle.tl_beats.proofs.Codes.{op_at-code}
use Rattle.tl_beats.proofs.Only.{some_beat, beat_of_byte}

-- what stands at a lane is what the lane has
stands_given : (mask : ℕ) (lanes : List ℕ) (lane : ℕ) (given : Option ℕ) → StandsAt mask lanes lane given
    → given ≡ lane_given (bit_at mask lane) (slice_index lanes lane)
stands_given mask lanes lane None s = ap (λ (b : ℕ). lane_given b (slice_index lanes lane)) (sym s)
stands_given mask lanes lane (Some byte) s =
    ap (λ (x : ℕ). Some x) (sym s.1) ∙ ap (λ (b : ℕ). lane_given b (slice_index lanes lane)) (sym s.0)

module _ (ask : Request) (first : ABeat) (rest : List ABeat) (lawful : IsLawfulRequest ask.op ask.size ask.bytes)
    (spells : SpellsAsk ask (first ∷ rest)) where
  abbrev beats : List ABeat
  beats = first ∷ rest

  op_is : op_at first.opcode first.param ≡ ask.op
  op_is = let fields = (spells.each 0 first refl).fields in (λ i. op_at (fields.opcode i) (fields.param i))
      ∙ op_at-code ask.op

  given_at : (j : ℕ) → j < length ask.bytes → get_or ask.bytes j None ≡ told_given beats first j
  given_at j h =
      let fields = (spells.each 0 first refl).fields in
      let there : j / 8 < length beats =
      rw spells.count (beat_of_byte (carries_bytes ask.op) ask.size j (rw lawful.counted at h)) in
      let beat = get_or beats (j / 8) no_ask_beat in
      let at : slice_get beats (j / 8) ≡ Some beat = slice_get-get_or beats (j / 8) no_ask_beat there in
      let stands = (spells.each (j / 8) beat at).bytes j (get_or ask.bytes j None)
      (slice_get-get_or ask.bytes j None h) refl in
      stands_given beat.mask beat.lanes (lane_of ask.address ask.size j) (get_or ask.bytes j None) stands
      ∙ (λ i. lane_given (bit_at beat.mask (lane_of (sym fields.address i) (sym fields.size i) j))
      (slice_index beat.lanes (lane_of (sym fields.address i) (sym fields.size i) j)))

  told_here : told_ask (first ∷ rest) ≡ ask
  told_here =
      let fields = (spells.each 0 first refl).fields in
      let count : byte_count (op_at first.opcode first.param) first.size ≡ byte_count ask.op ask.size =
      (λ i. byte_count (op_is i) (fields.size i)) in
      let long : length ask.bytes ≡ byte_count (op_at first.opcode first.param) first.size =
      lawful.counted ∙ sym count in
      let bytes = fill_by_all (told_given beats first) ask.bytes
      (byte_count (op_at first.opcode first.param) first.size) None long (λ k h. given_at k (rw long h)) in
      λ i. record {
        op = op_is i;
        size = fields.size i;
        source = fields.source i;
        address = fields.address i;
        bytes = sym bytes i;
      }

pub told_ask_is : (ask : Request) (beats : List ABeat) → IsLawfulRequest ask.op ask.size ask.bytes → SpellsAsk ask beats
    → told_ask beats ≡ ask
told_ask_is ask [] lawful spells = absurd (omega (arith, spells.count, some_beat (carries_bytes ask.op) ask.size))
told_ask_is ask (first ∷ rest) lawful spells = told_here ask first rest lawful spells
