-- Beats on a bus of eight bytes spell the replies that they spell in `tl_beats`.
use Rattle.std.proofs.Common.{◌≡◌, ◌∙◌, ℕ, zero, suc, ◌<◌, Bool, true, false, List, Option, Some, None, ap, sym, subst, refl, arith, length}
use Rattle.std.specs.Prelude.{◌&&◌, not, map, slice_get, slice_index, IsTrue}
use Rattle.std.specs.Int.{bit_at}
use Rattle.std.proofs.lemmas.List.{length-map}
use Rattle.tl_types.specs.Operation.{reply_carries_bytes}
use Rattle.tl_types.specs.Response.{Response}
use Rattle.tl_types.specs.declared.operation.ReplyOp.{ReplyOp}
use Rattle.tl_types.specs.declared.operation.ReplyOp.TheVariants.{AccessAck, AccessAckData, HintAck}
use Rattle.tl_beats.specs.Replies as narrow_reply
use Rattle.tl_beats.specs.declared.beat.DBeat.{DBeat}
use Rattle.check_cells.specs.Pattern.{seen_as}
use Rattle.check_beats.specs.Bus.{lane_on_bus}
use Rattle.check_beats.specs.Form.{IsRightMark}
use Rattle.check_beats.specs.Rules.{IsMarkedBy}
use Rattle.check_beats.specs.Spelling.{IsReplyBeatOf, SpellsReplyOnBus, StandsAt}
use Rattle.check_scripts.specs.Beats.{all_lanes, reply_beat_of, AreMarkedByRules, ReplySpelledAlike}
use Rattle.check_scripts.specs.Instance.{strict_rules}
use Rattle.check_scripts.proofs.Mapped.{from_map, in_map, none_marked}

-- each of the eight lanes is known
lane_known : (lane : ℕ) → lane < 8 → bit_at all_lanes lane ≡ 1
lane_known zero within = refl
lane_known (suc zero) within = refl
lane_known (suc (suc zero)) within = refl
lane_known (suc (suc (suc zero))) within = refl
lane_known (suc (suc (suc (suc zero)))) within = refl
lane_known (suc (suc (suc (suc (suc zero))))) within = refl
lane_known (suc (suc (suc (suc (suc (suc zero)))))) within = refl
lane_known (suc (suc (suc (suc (suc (suc (suc zero))))))) within = refl
lane_known (suc (suc (suc (suc (suc (suc (suc (suc lane)))))))) within = absurd (omega (arith, within))

lane_below : (address size j : ℕ) → lane_on_bus 8 address size j < 8
lane_below address size j = omega (arith)

-- what stands at a lane, all of which are known
byte_of_pattern : (lanes : List ℕ) (lane : ℕ) (byte : Option ℕ) (b : ℕ) → byte ≡ Some b → StandsAt all_lanes lanes lane byte
    → slice_index lanes lane ≡ b
byte_of_pattern lanes lane None b is stands = absurd (cc)
byte_of_pattern lanes lane (Some c) b is stands = let same : c ≡ b = cc in stands.1 ∙ same

-- ---- marks

-- a beat is marked as the standard asks
abbrev IsAsAsked : ReplyOp → Bool → Bool → Type 0
IsAsAsked op denied corrupt = corrupt ≡ (denied && reply_carries_bytes op)

-- a flag that is as the standard asks is one that `tl_beats` takes
flag_taken : (op : ReplyOp) (denied corrupt : Bool) → IsAsAsked op denied corrupt → narrow_reply.IsLawfulFlag op denied corrupt
flag_taken op denied corrupt is = record {
  carries = λ set. (both denied (reply_carries_bytes op) (sym is ∙ set)).1;
  of_denied = λ set. (both denied (reply_carries_bytes op) (sym is ∙ set)).0;
}
  where
    both : (a b : Bool) → IsTrue (a && b) → IsTrue a × IsTrue b
    both true true is = (refl, refl)
    both true false is = absurd (cc)
    both false b is = absurd (cc)

-- what holds of each mark, with what the rules of a script's links ask, is what the standard asks
as_asked : (op : ReplyOp) (denied corrupt : Bool) → IsRightMark op denied corrupt → (denied ≡ false → corrupt ≡ false)
    → IsAsAsked op denied corrupt
as_asked op false corrupt right strict = strict refl
as_asked AccessAck true corrupt right strict = right.bare refl
as_asked AccessAckData true corrupt right strict = right.refused refl refl
as_asked HintAck true corrupt right strict = right.bare refl

right_mark : (op : ReplyOp) (denied corrupt : Bool) → IsAsAsked op denied corrupt → IsRightMark op denied corrupt
right_mark op denied corrupt is = record {
  bare = λ none. is ∙ ap (λ (c : Bool). denied && c) none ∙ nothing denied;
  refused = λ set carries. is ∙ ap (λ (c : Bool). denied && c) carries ∙ ap (λ (d : Bool). d && true) set;
}
  where
    nothing : (a : Bool) → (a && false) ≡ false
    nothing true = refl
    nothing false = refl

strict_mark : (op : ReplyOp) (denied corrupt : Bool) → IsAsAsked op denied corrupt → denied ≡ false → corrupt ≡ false
strict_mark op denied corrupt is granted = is ∙ ap (λ (d : Bool). d && reply_carries_bytes op) granted

-- such a beat is not spoiled
not_spoiled : (denied corrupt : Bool) → (denied ≡ false → corrupt ≡ false) → (corrupt && not denied) ≡ false
not_spoiled false corrupt strict = ap (λ (c : Bool). c && true) (strict refl)
not_spoiled true true strict = refl
not_spoiled true false strict = refl

-- ---- beats

beat_there : (reply : Response) (address b : ℕ) (beat : DBeat)
    → IsReplyBeatOf 8 (seen_as reply) address b (reply_beat_of beat) → IsMarkedBy strict_rules (reply_beat_of beat).head
    → narrow_reply.IsReplyBeatOf reply address b beat × IsAsAsked reply.op reply.denied beat.corrupt
beat_there reply address b beat s strict =
    let granted : reply.denied ≡ beat.denied = some_same s.fields.denied in
    let flag : IsAsAsked reply.op reply.denied beat.corrupt =
    subst (λ (d : Bool). IsAsAsked reply.op d beat.corrupt) (sym granted)
    (as_asked reply.op beat.denied beat.corrupt s.corrupt (strict refl)) in (
      record {
        fields = record { opcode = s.fields.opcode; size = s.fields.size; source = s.fields.source; denied = sym granted };
        corrupt = flag_taken reply.op reply.denied beat.corrupt flag;
        bytes = λ plain j byte at row.
            byte_of_pattern beat.lanes (lane_on_bus 8 address reply.size j) (Some byte) byte refl
            (s.bytes (sym granted ∙ plain) (strict refl (sym granted ∙ plain)) j (Some byte)
            (in_map (λ (x : ℕ). Some x) reply.bytes j byte at) row);
      },
      flag,
    )
  where
    some_same : {a b : Bool} → ◌≡◌ {A = Option Bool} (Some a) (Some b) → a ≡ b
    some_same e = cc

beat_back : (reply : Response) (address b : ℕ) (beat : DBeat) → narrow_reply.IsReplyBeatOf reply address b beat
    → IsAsAsked reply.op reply.denied beat.corrupt
    → IsReplyBeatOf 8 (seen_as reply) address b (reply_beat_of beat) × IsMarkedBy strict_rules (reply_beat_of beat).head
beat_back reply address b beat s flag =
    let mine : IsAsAsked reply.op beat.denied beat.corrupt =
    subst (λ (d : Bool). IsAsAsked reply.op d beat.corrupt) (sym s.fields.denied) flag in
    let strict = strict_mark reply.op beat.denied beat.corrupt mine in (
      record {
        fields = record {
          opcode = s.fields.opcode;
          param = refl;
          size = s.fields.size;
          source = s.fields.source;
          denied = ap (λ (d : Bool). Some d) (sym s.fields.denied);
        };
        corrupt = right_mark reply.op beat.denied beat.corrupt mine;
        marks = λ j mark at row.
            none_marked (length reply.bytes) j mark at ∙ sym (not_spoiled beat.denied beat.corrupt strict);
        bytes = λ plain clean j byte at row.
            from_map (λ (x : ℕ). Some x)
            (λ (x : Option ℕ). StandsAt all_lanes beat.lanes (lane_on_bus 8 address reply.size j) x) reply.bytes j
            (λ x there. (
              lane_known (lane_on_bus 8 address reply.size j) (lane_below address reply.size j),
              s.bytes (sym s.fields.denied ∙ plain) j x there row,
            )) byte at;
      },
      (λ rule. strict),
    )

pub reply_spelled_alike : ReplySpelledAlike
reply_spelled_alike reply address beats = (
  (λ s. (
    record {
      count = sym (length-map beats reply_beat_of) ∙ s.0.count;
      each = λ b beat at. (there s.0 s.1 b beat at).0;
    },
    (λ b beat at. (there s.0 s.1 b beat at).1),
  )),
  (λ s. (
    record {
      count = length-map beats reply_beat_of ∙ s.0.count;
      each = λ b beat at. from_map reply_beat_of (λ x. IsReplyBeatOf 8 (seen_as reply) address b x) beats b
          (λ x is. (beat_back reply address b x (s.0.each b x is) (s.1 b x is)).0) beat at;
    },
    (λ b beat at. (beat_back reply address b beat (s.0.each b beat at) (s.1 b beat at)).1),
  )),
)
  where
    there : SpellsReplyOnBus 8 (seen_as reply) address (map reply_beat_of beats) → AreMarkedByRules beats → (b : ℕ)
        (beat : DBeat) → slice_get beats b ≡ Some beat
        → narrow_reply.IsReplyBeatOf reply address b beat × IsAsAsked reply.op reply.denied beat.corrupt
    there s strict b beat at =
        beat_there reply address b beat (s.each b (reply_beat_of beat) (in_map reply_beat_of beats b beat at)) (strict b beat at)
