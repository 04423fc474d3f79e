-- What is read of pools when more has been put in.
use Rattle.std.proofs.Common.{◌≡◌, ◌∙◌, ℕ, ◌+◌, ◌≤◌, Bool, true, false, List, [], ◌∷◌, ◌++◌, length, map, take, drop, Option, Some, None, unwrap_or, refl, ap, sym, arith, append_assoc, append-nil, length-append, length-drop}
use Rattle.std.specs.Prelude.{All, IsSome}
use Rattle.std.proofs.Math.Seq.{drop-append_seam}
use Rattle.std.proofs.lemmas.List.{drop-append-le, map-append, take-append-le, take_all, length-map}
use Rattle.std.proofs.lemmas.List.Elements.{All-head, All-push, All-tail}
use Rattle.tl_types.specs.Bytes.{plain_of}
use Rattle.tl_types.specs.Operation.{byte_count, may_leave_unset, reply_byte_count}
use Rattle.tl_types.specs.Request.{Request, IsLawfulRequest}
use Rattle.tl_types.specs.Response.{Response, IsLawfulResponse}
use Rattle.tl_types.specs.declared.operation.AskOp.{AskOp}
use Rattle.tl_journal.specs.Pools.{PoolsView, AreIn, HasSameBytes, IsKeptInPool, IsPlainKept, bytes_in_pool, plain_in, pool_len}
use Rattle.tl_journal.specs.Headers.{IsEntryIn, ask_in, entry_in, reply_in}
use Rattle.tl_journal.specs.declared.journal.Header.{Header}

-- a part of a list stays when more is appended
part-append : {A : Type 0} (start count : ℕ) (xs ys : List A) → start + count ≤ length xs
    → take count (drop start (xs ++ ys)) ≡ take count (drop start xs)
part-append start count xs ys within =
    let room : count ≤ length (drop start xs) = simp length-drop (omega (arith, within)) in
    ap (take count) (drop-append-le start xs ys (omega (arith, within))) ∙ take-append-le count (drop start xs) ys room

-- what is appended is the part after the list
part_behind : {A : Type 0} (xs ys : List A) → take (length ys) (drop (length xs) (xs ++ ys)) ≡ ys
part_behind xs ys = ap (take (length ys)) (drop-append_seam xs ys) ∙ take_all (length ys) ys (omega arith)

-- pools that have what they had, and more after it
pub record Grow (old new : PoolsView) : Type 0 where
  pub whole_more : List ℕ
  pub partial_more : List (Option ℕ)
  pub whole : new.whole ≡ old.whole ++ whole_more
  pub partial : new.partial ≡ old.partial ++ partial_more

pub grow_none : (old new : PoolsView) → HasSameBytes old new → Grow old new
grow_none old new same = record {
  whole_more = [];
  partial_more = [];
  whole = same.0 ∙ sym (append-nil old.whole);
  partial = same.1 ∙ sym (append-nil old.partial);
}

pub grow_plain : (bytes : List ℕ) (old new : PoolsView) (start : ℕ) → IsPlainKept bytes old new start → Grow old new
grow_plain bytes old new start kept = record {
  whole_more = bytes;
  partial_more = [];
  whole = kept.0;
  partial = kept.1 ∙ sym (append-nil old.partial);
}

pub grow_kept : (partial : Bool) (bytes : List (Option ℕ)) (old new : PoolsView) (start : ℕ)
    → IsKeptInPool partial bytes old new start → Grow old new
grow_kept true bytes old new start kept = record {
  whole_more = [];
  partial_more = bytes;
  whole = kept.0 ∙ sym (append-nil old.whole);
  partial = kept.1;
}
grow_kept false bytes old new start kept = grow_plain (plain_of bytes) old new start kept

pub grow_both : (old middle new : PoolsView) → Grow old middle → Grow middle new → Grow old new
grow_both old middle new first second = record {
  whole_more = first.whole_more ++ second.whole_more;
  partial_more = first.partial_more ++ second.partial_more;
  whole = second.whole ∙ ap (λ front. front ++ second.whole_more) first.whole
      ∙ append_assoc old.whole first.whole_more second.whole_more;
  partial = second.partial ∙ ap (λ front. front ++ second.partial_more) first.partial
      ∙ append_assoc old.partial first.partial_more second.partial_more;
}

-- ---- what was in the pools stays

pub plain_in-grow : (start count : ℕ) (old new : PoolsView) → start + count ≤ length old.whole → Grow old new
    → plain_in new start count ≡ plain_in old start count
plain_in-grow start count old new within grow = rw grow.whole (part-append start count old.whole grow.whole_more within)

pub bytes_in-grow : (partial : Bool) (start count : ℕ) (old new : PoolsView) → start + count ≤ pool_len old partial
    → Grow old new → bytes_in_pool new partial start count ≡ bytes_in_pool old partial start count
bytes_in-grow true start count old new within grow =
    rw grow.partial (part-append start count old.partial grow.partial_more within)
bytes_in-grow false start count old new within grow =
    ap (map (λ byte. Some byte)) (plain_in-grow start count old new within grow)

pool_len-grow : (partial : Bool) (old new : PoolsView) → Grow old new → pool_len old partial ≤ pool_len new partial
pool_len-grow true old new grow = omega (arith, ap length grow.partial, length-append old.partial grow.partial_more)
pool_len-grow false old new grow = omega (arith, ap length grow.whole, length-append old.whole grow.whole_more)

pub AreIn-grow : (op : AskOp) (size start : ℕ) (old new : PoolsView) → Grow old new → AreIn old op size start
    → AreIn new op size start
AreIn-grow op size start old new grow was = record {
  within = omega (arith, was.within, pool_len-grow (may_leave_unset op) old new grow);
  lawful = rw (bytes_in-grow (may_leave_unset op) start (byte_count op size) old new was.within grow) was.lawful;
}

-- ---- what is put in can be read

some_plain : (bytes : List (Option ℕ)) → All (λ byte. IsSome byte) bytes
    → map (λ byte. Some byte) (plain_of bytes) ≡ bytes
some_plain [] all = refl
some_plain (None ∷ bytes) all = let no : false ≡ true = All-head (λ (byte : Option ℕ). IsSome byte) None bytes all in
    absurd (cc)
some_plain (Some byte ∷ bytes) all =
    ap (λ (rest : List (Option ℕ)). Some byte ∷ rest)
    (some_plain bytes (All-tail (λ (byte : Option ℕ). IsSome byte) (Some byte) bytes all))

pub plain_kept : (bytes : List ℕ) (old new : PoolsView) (start count : ℕ) → length bytes ≡ count
    → IsPlainKept bytes old new start → plain_in new start count ≡ bytes
plain_kept bytes old new start count counted kept = rw (kept.0, kept.2, ← counted) (part_behind old.whole bytes)

pub plain_within : (bytes : List ℕ) (old new : PoolsView) (start count : ℕ) → length bytes ≡ count
    → IsPlainKept bytes old new start → start + count ≤ length new.whole
plain_within bytes old new start count counted kept =
    omega (arith, counted, kept.2, ap length kept.0, length-append old.whole bytes)

kept_bytes : (partial : Bool) (bytes : List (Option ℕ)) (old new : PoolsView) (start count : ℕ) → length bytes ≡ count
    → (partial ≡ false → All (λ byte. IsSome byte) bytes) → IsKeptInPool partial bytes old new start
    → bytes_in_pool new partial start count ≡ bytes
kept_bytes true bytes old new start count counted whole kept =
    rw (kept.1, kept.2, ← counted) (part_behind old.partial bytes)
kept_bytes false bytes old new start count counted whole kept =
    let plain : length (plain_of bytes) ≡ count = length-map bytes (λ byte. unwrap_or byte 0) ∙ counted in
    ap (map (λ byte. Some byte)) (plain_kept (plain_of bytes) old new start count plain kept)
    ∙ some_plain bytes (whole refl)

kept_within : (partial : Bool) (bytes : List (Option ℕ)) (old new : PoolsView) (start count : ℕ) → length bytes ≡ count
    → IsKeptInPool partial bytes old new start → start + count ≤ pool_len new partial
kept_within true bytes old new start count counted kept =
    omega (arith, counted, kept.2, ap length kept.1, length-append old.partial bytes)
kept_within false bytes old new start count counted kept =
    plain_within (plain_of bytes) old new start count (length-map bytes (λ byte. unwrap_or byte 0) ∙ counted) kept

-- a request's header, once its bytes are kept
pub sent_in : (ask : Request) (old new : PoolsView) (start : ℕ) → IsLawfulRequest ask.op ask.size ask.bytes
    → IsKeptInPool (may_leave_unset ask.op) ask.bytes old new start
    → AreIn new ask.op ask.size start × (bytes_in_pool new (may_leave_unset ask.op) start
    (byte_count ask.op ask.size) ≡ ask.bytes)
sent_in ask old new start lawful kept =
    let is = kept_bytes (may_leave_unset ask.op) ask.bytes old new start
    (byte_count ask.op ask.size) lawful.counted lawful.whole kept in (
      record {
        within = kept_within (may_leave_unset ask.op) ask.bytes old new start
            (byte_count ask.op ask.size) lawful.counted kept;
        lawful = rw is lawful;
      },
      is,
    )

-- ---- the entries of a journal

ask_in-grow : (header : Header) (old new : PoolsView) → Grow old new → IsEntryIn old header
    → ask_in new header ≡ ask_in old header
ask_in-grow header old new grow was =
    rw (bytes_in-grow (may_leave_unset header.op) header.start
    (byte_count header.op header.size) old new was.ask.within grow) refl

reply_in-grow : (header : Header) (old new : PoolsView) → Grow old new → IsEntryIn old header
    → reply_in new header ≡ reply_in old header
reply_in-grow header old new grow was =
    rw (plain_in-grow header.answer_start
    (reply_byte_count header.answer header.answer_size) old new was.within grow) refl

IsEntryIn-grow : (header : Header) (old new : PoolsView) → Grow old new → IsEntryIn old header → IsEntryIn new header
IsEntryIn-grow header old new grow was = record {
  ask = AreIn-grow header.op header.size header.start old new grow was.ask;
  within = omega (arith, was.within, pool_len-grow false old new grow);
  lawful = rw (plain_in-grow header.answer_start
      (reply_byte_count header.answer header.answer_size) old new was.within grow) was.lawful;
}

pub all_in-grow : (headers : List Header) (old new : PoolsView) → Grow old new → All (IsEntryIn old) headers
    → All (IsEntryIn new) headers
all_in-grow headers old new grow was = λ k other within. IsEntryIn-grow _ old new grow (was k other within)

pub entries-grow : (headers : List Header) (old new : PoolsView) → Grow old new → All (IsEntryIn old) headers
    → map (entry_in new) headers ≡ map (entry_in old) headers
entries-grow [] old new grow was = refl
entries-grow (header ∷ headers) old new grow was =
    let first = All-head (IsEntryIn old) header headers was in
    let others = entries-grow headers old new grow (All-tail (IsEntryIn old) header headers was) in
    rw (ask_in-grow header old new grow first, reply_in-grow header old new grow first, others) refl

-- the pools grew, and the header stands for the entry
pub record Takes (old new : PoolsView) (header : Header) (entry : Request × Response) : Type 0 where
  pub grow : Grow old new
  pub stands : IsEntryIn new header
  pub is : entry_in new header ≡ entry

-- the request's bytes and then the reply's were kept
pub takes_entry : (source : ℕ) (ask : Request) (reply : Response) (old middle new : PoolsView) (start answer_start : ℕ)
    → IsLawfulRequest ask.op ask.size ask.bytes → IsLawfulResponse reply.op reply.size reply.denied reply.bytes
    → IsKeptInPool (may_leave_unset ask.op) ask.bytes old middle start → IsPlainKept reply.bytes middle new answer_start
    → Takes old new (record {
      op = ask.op;
      size = ask.size;
      answer = reply.op;
      answer_size = reply.size;
      denied = reply.denied;
      source = source;
      address = ask.address;
      start = start;
      answer_start = answer_start;
    })
    (record ask { source = source }, record reply { source = source })
takes_entry source ask reply old middle new start answer_start lawful answered kept told_kept =
    let grow = grow_plain reply.bytes middle new answer_start told_kept in
    let sent = sent_in ask old middle start lawful kept in
    let told = plain_kept reply.bytes middle new answer_start
    (reply_byte_count reply.op reply.size) answered.counted told_kept in
    record {
      grow = grow_both old middle new (grow_kept (may_leave_unset ask.op) ask.bytes old middle start kept) grow;
      stands = record {
        ask = AreIn-grow ask.op ask.size start middle new grow sent.0;
        within = plain_within reply.bytes middle new answer_start
            (reply_byte_count reply.op reply.size) answered.counted told_kept;
        lawful = rw told answered;
      };
      is = rw (
        bytes_in-grow (may_leave_unset ask.op) start (byte_count ask.op ask.size) middle new sent.0.within grow,
        sent.1,
        told,
      ) refl;
    }

pub pushed_entries : (headers : List Header) (header : Header) (entry : Request × Response) (old new : PoolsView)
    → Takes old new header entry → All (IsEntryIn old) headers
    → map (entry_in new) (headers ++ header ∷ []) ≡ map (entry_in old) headers ++ entry ∷ []
pushed_entries headers header entry old new takes was =
    map-append (entry_in new) headers (header ∷ [])
    ∙ ap (λ (entries : List (Request × Response)). entries ++ entry_in new header ∷ [])
    (entries-grow headers old new takes.grow was)
    ∙ ap (λ (e : Request × Response). map (entry_in old) headers ++ e ∷ []) takes.is

pub pushed_in : (headers : List Header) (header : Header) (entry : Request × Response) (old new : PoolsView)
    → Takes old new header entry → All (IsEntryIn old) headers → All (IsEntryIn new) (headers ++ header ∷ [])
pushed_in headers header entry old new takes was =
    All-push (IsEntryIn new) headers header (all_in-grow headers old new takes.grow was) takes.stands
