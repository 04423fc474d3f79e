-- The bytes of a struct's request, as it is read: some first bytes, each given, or given where its flag is not zero.
use Rattle.std.proofs.Common.{rules, ◌≡◌, ◌∙◌, ℕ, zero, suc, ◌+◌, ◌≤◌, ◌==◌, true, false, if◌then◌else◌, List, [], ◌∷◌, ◌++◌, length, map, take, get_or, slice_index, Some, None, IsSome, All, refl, ap, sym, arith}
use Rattle.std.proofs.Math.Seq.{take-suc}
use Rattle.std.proofs.lemmas.List.{length-map, length-take-le, map-append}
use Rattle.std.proofs.lemmas.List.Elements.{All-map}
use Rattle.std.proofs.lemmas.List.FromFn.{map-range_with_len_more}
use Rattle.std.specs.List.{range_with_len}
use Rattle.tl_types.proofs.Given.{given_in-append, length-given_in}
use Rattle.tl_types.specs.Bytes.{given_byte, given_in}
use Rattle.tl_types.specs.Operation.{byte_count, may_leave_unset}
use Rattle.tl_types.specs.Wire.{IsCodeOf}
use Rattle.tl_types.specs.declared.operation.AskOp.{AskOp}
use Rattle.tl_c.specs.Wire.{IsWireAsk, byte_at}
use Rattle.tl_c.specs.declared.wire.WireAsk.{WireAsk}

-- ---- where some may be left unset

byte_by_flag : (flag byte : ℕ) → given_byte flag byte ≡ (if flag == 0 then None else Some byte)
byte_by_flag zero byte = refl
byte_by_flag (suc flag) byte = search rules

pub flagged : (wire : WireAsk) (n : ℕ) → n ≤ length wire.bytes
    → given_in (slice_index wire.set) (take n wire.bytes) ≡ map (byte_at wire true) (range_with_len 0 n)
flagged wire zero within = refl
flagged wire (suc n) within =
    let some : n ≤ length wire.bytes = omega (arith, within) in
    let byte = get_or wire.bytes n 0 in
    let more : take (suc n) wire.bytes ≡ take n wire.bytes ++ byte ∷ [] =
    take-suc wire.bytes n 0 (omega (arith, within)) in
    let count : length (take n wire.bytes) + 0 ≡ n = let few = length-take-le n wire.bytes some in omega (arith, few) in
    let apart = given_in-append (slice_index wire.set) (take n wire.bytes) (byte ∷ []) in
    let last : given_byte (slice_index wire.set (length (take n wire.bytes) + 0)) byte ≡ byte_at wire true n =
    ap (λ k. given_byte (slice_index wire.set k) byte) count ∙ byte_by_flag (slice_index wire.set n) byte in
    let next : n + 1 ≡ suc n = omega arith in
    ap (given_in (slice_index wire.set)) more ∙ apart
    ∙ ap (λ bytes. bytes ++ given_byte (slice_index wire.set (length (take n wire.bytes) + 0)) byte ∷ [])
    (flagged wire n some)
    ∙ ap (λ b. map (byte_at wire true) (range_with_len 0 n) ++ b ∷ []) last
    ∙ sym (map-range_with_len_more (byte_at wire true) 0 n n (omega arith))
    ∙ ap (λ k. map (byte_at wire true) (range_with_len 0 k)) next

pub length-flagged : (wire : WireAsk) (n : ℕ) → n ≤ length wire.bytes
    → length (given_in (slice_index wire.set) (take n wire.bytes)) ≡ n
length-flagged wire n within =
    length-given_in (slice_index wire.set) (take n wire.bytes) ∙ length-take-le n wire.bytes within

-- ---- where all are given

pub plain : (wire : WireAsk) (n : ℕ) → n ≤ length wire.bytes
    → map (λ byte. Some byte) (take n wire.bytes) ≡ map (byte_at wire false) (range_with_len 0 n)
plain wire zero within = refl
plain wire (suc n) within =
    let some : n ≤ length wire.bytes = omega (arith, within) in
    let byte = get_or wire.bytes n 0 in
    let more : take (suc n) wire.bytes ≡ take n wire.bytes ++ byte ∷ [] =
    take-suc wire.bytes n 0 (omega (arith, within)) in
    let next : n + 1 ≡ suc n = omega arith in
    ap (map (λ byte. Some byte)) more ∙ map-append (λ byte. Some byte) (take n wire.bytes) (byte ∷ [])
    ∙ ap (λ bytes. bytes ++ Some byte ∷ []) (plain wire n some)
    ∙ sym (map-range_with_len_more (byte_at wire false) 0 n n (omega arith))
    ∙ ap (λ k. map (byte_at wire false) (range_with_len 0 k)) next

pub length-plain : (wire : WireAsk) (n : ℕ) → n ≤ length wire.bytes
    → length (map (λ byte. Some byte) (take n wire.bytes)) ≡ n
length-plain wire n within = length-map (take n wire.bytes) (λ byte. Some byte) ∙ length-take-le n wire.bytes within

pub all_given : (bytes : List ℕ) → All (λ b. IsSome b) (map (λ byte. Some byte) bytes)
all_given bytes = All-map (λ b. IsSome b) (λ byte. Some byte) bytes (λ k d within. refl)

-- ---- the request that is made of them

pub is_flagged : (wire : WireAsk) (op : AskOp) (n : ℕ) → IsCodeOf op wire.opcode wire.param
    → n ≡ byte_count op wire.size → n ≤ length wire.bytes → true ≡ may_leave_unset op
    → IsWireAsk wire (record {
      op = op;
      size = wire.size;
      source = wire.source;
      address = wire.address;
      bytes = given_in (slice_index wire.set) (take n wire.bytes);
    })
is_flagged wire op n code count within unset = record {
  code = code;
  size = refl;
  source = refl;
  address = refl;
  bytes = flagged wire n within ∙ ap (λ k. map (byte_at wire true) (range_with_len 0 k)) count
      ∙ ap (λ u. map (byte_at wire u) (range_with_len 0 (byte_count op wire.size))) unset;
}

pub is_plain : (wire : WireAsk) (op : AskOp) (n : ℕ) → IsCodeOf op wire.opcode wire.param → n ≡ byte_count op wire.size
    → n ≤ length wire.bytes → false ≡ may_leave_unset op
    → IsWireAsk wire (record {
      op = op;
      size = wire.size;
      source = wire.source;
      address = wire.address;
      bytes = map (λ byte. Some byte) (take n wire.bytes);
    })
is_plain wire op n code count within whole = record {
  code = code;
  size = refl;
  source = refl;
  address = refl;
  bytes = plain wire n within ∙ ap (λ k. map (byte_at wire false) (range_with_len 0 k)) count
      ∙ ap (λ u. map (byte_at wire u) (range_with_len 0 (byte_count op wire.size))) whole;
}
