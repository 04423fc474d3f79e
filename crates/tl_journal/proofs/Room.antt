-- The room for the bytes of the entries that are still to come.
use Rattle.std.proofs.Common.{◌≡◌, ◌∙◌, ℕ, suc, ◌+◌, ◌-◌, ◌^◌, ◌<◌, ◌≤◌, Bool, true, false, List, ◌++◌, ◌∷◌, [], length, Option, if◌then◌else◌, ap, arith, lit≤, length-append, unwrap_or}
use Rattle.std.proofs.Math.Nat.{pow-le-pow_right}
use Rattle.std.proofs.lemmas.List.{length-map}
use Rattle.tl_types.specs.Bytes.{plain_of}
use Rattle.tl_types.specs.Operation.{carries_bytes, reply_carries_bytes}
use Rattle.tl_types.specs.Request.{Request, IsLawfulRequest}
use Rattle.tl_types.specs.Response.{Response, IsLawfulResponse}
use Rattle.tl_types.specs.declared.limits.TheConstants.{MAX_SIZE, MAX_BYTES}
use Rattle.tl_journal.specs.Pools.{PoolsView, IsKeptInPool, IsPlainKept, KeepsRoom, pool_len, pool_room}
use Rattle.tl_journal.specs.Headers.{HasRoom}

few_bytes : (carries : Bool) (size : ℕ) → size ≤ MAX_SIZE → (if carries then 2 ^ size else 0) ≤ MAX_BYTES
few_bytes true size in_limit = pow-le-pow_right (lit≤ tt) in_limit
few_bytes false size in_limit = omega arith

pub few_asked : (ask : Request) → IsLawfulRequest ask.op ask.size ask.bytes → length ask.bytes ≤ MAX_BYTES
few_asked ask lawful = rw lawful.counted (few_bytes (carries_bytes ask.op) ask.size lawful.in_limit)

pub few_told : (reply : Response) → IsLawfulResponse reply.op reply.size reply.denied reply.bytes
    → length reply.bytes ≤ MAX_BYTES
few_told reply lawful = rw lawful.counted (few_bytes (reply_carries_bytes reply.op) reply.size lawful.in_limit)

-- where one more entry fits there is room for it and for the others
pub one_more : (n room : ℕ) → n < room → room - n ≡ suc (room - suc n)
one_more n room more = omega (arith, more)

-- room for an entry is room for its request
pub ask_fits : (partial : Bool) (pools : PoolsView) (left count : ℕ) → HasRoom pools (suc left) → count ≤ MAX_BYTES
    → pool_len pools partial + count ≤ pool_room pools partial
ask_fits true pools left count has few = omega (arith, has.partial, few)
ask_fits false pools left count has few = omega (arith, has.whole, few)

-- and then for its reply
pub reply_fits : (partial : Bool) (bytes : List (Option ℕ)) (old new : PoolsView) (start left count : ℕ)
    → HasRoom old (suc left) → length bytes ≤ MAX_BYTES → count ≤ MAX_BYTES
    → IsKeptInPool partial bytes old new start → KeepsRoom old new → length new.whole + count ≤ new.whole_room
reply_fits true bytes old new start left count has few told kept room =
    omega (arith, has.whole, few, told, ap length kept.0, room.0)
reply_fits false bytes old new start left count has few told kept room =
    omega (
      arith,
      has.whole,
      few,
      told,
      ap length kept.0,
      length-append old.whole (plain_of bytes),
      length-map bytes (λ byte. unwrap_or byte 0),
      room.0,
    )

-- what is left is room for the others
pub left_fits : (partial : Bool) (bytes : List (Option ℕ)) (told : List ℕ) (old middle new : PoolsView)
    (start answer_start left : ℕ) → HasRoom old (suc left)
    → length bytes ≤ MAX_BYTES → length told ≤ MAX_BYTES
    → IsKeptInPool partial bytes old middle start → KeepsRoom old middle → IsPlainKept told middle new answer_start
    → KeepsRoom middle new → HasRoom new left
left_fits true bytes told old middle new start answer_start left has few few' kept room kept' room' = record {
  whole = omega (
    arith,
    has.whole,
    few,
    few',
    ap length kept.0,
    ap length kept'.0,
    length-append middle.whole told,
    room.0,
    room'.0,
  );
  partial = omega (
    arith,
    has.partial,
    few,
    ap length kept.1,
    ap length kept'.1,
    length-append old.partial bytes,
    room.1,
    room'.1,
  );
}
left_fits false bytes told old middle new start answer_start left has few few' kept room kept' room' = record {
  whole = omega (
    arith,
    has.whole,
    few,
    few',
    ap length kept.0,
    length-append old.whole (plain_of bytes),
    length-map bytes (λ byte. unwrap_or byte 0),
    ap length kept'.0,
    length-append middle.whole told,
    room.0,
    room'.0,
  );
  partial = omega (arith, has.partial, ap length kept.1, ap length kept'.1, room.1, room'.1);
}

pub length_push : {A : Type 0} (xs : List A) (x : A) (now : List A) → now ≡ xs ++ x ∷ [] → length now ≡ suc (length xs)
length_push xs x now is = ap length is ∙ length-append xs (x ∷ []) ∙ omega arith
