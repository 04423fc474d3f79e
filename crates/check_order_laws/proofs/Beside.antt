-- A slave of which nobody knows when it does its requests, while none of them is contested: what is kept of it is what is
-- kept of one that does them as they are accepted.
use Rattle.std.proofs.Common.{◌≡◌, ◌∙◌, ⊎_elim, ℕ, ◌≤◌, ◌^◌, Bool, true, false, if◌then◌else◌, List, [], ◌∷◌, ◌++◌, length, drop, replicate, Option, Some, None, refl, ap, sym, subst, arith}
use Rattle.std.specs.Prelude.{◌≢◌, option_map}
use Rattle.std.specs.List.{AllByRecursion}
use Rattle.std.proofs.lemmas.Bool.{cases_eq, eq-eqb, ne_eqb}
use Rattle.std.proofs.lemmas.List.{length-take, length-map, length-replicate}
use Rattle.std.proofs.lemmas.List.Elements.{All-from_recursion}
use Rattle.tl_types.specs.Operation.{reply_op_of, reply_carries_bytes}
use Rattle.tl_types.specs.Request.{Request}
use Rattle.tl_types.specs.declared.operation.ReplyOp.{ReplyOp}
use Rattle.tl_types.specs.declared.operation.ReplyOp.TheVariants.{AccessAck, AccessAckData, HintAck}
use Rattle.check_cells.specs.Sent.{Sent, is_corrupt}
use Rattle.check_memory.specs.Known.{known}
use Rattle.check_memory.specs.Partial.{Partial, start_of, permits, visible, window_of, after_partial}
use Rattle.check_memory.specs.Pattern.{shown_cells}
use Rattle.check_memory.specs.Slave.{expected_of}
use Rattle.check_memory.specs.declared.slave.Slave.{Slave}
use Rattle.check_memory.specs.declared.slave.Slave.TheVariants.{Memory, Device}
use Rattle.check_contests.specs.Below.{AreApart as AreApartKept}
use Rattle.check_contests.specs.declared.accepted.Accepted.{Accepted}
use Rattle.check_contests.specs.Contests.{kept_of, kept_answering}
use Rattle.check_contests.specs.Cut.{memory_cut}
use Rattle.check_contests.specs.Laws.{AreUncontested, IsAsServed, IsBeside}
use Rattle.check_contests.specs.Sent.{slave_after_sent, expected_of_sent}
use Rattle.check_contests.proofs.Courses.{none_kept}
use Rattle.check_contests.proofs.Expected.{unsure_bytes}
use Rattle.check_contests.proofs.Kept.{kept-other, kept-new, apart-new, answering-other, answering-same, apart-answering}
use Rattle.check_contests.proofs.Uncontested.{uncontested_is_as_served, device_is_as_served}
use Rattle.check_watch_laws.specs.Moments.{RequestMoment}
use Rattle.check_watch_laws.specs.Moments.Act.{Accepts, Answers}
use Rattle.check_order_laws.proofs.InTurn.{open_then, open_here, open_there}

-- ---- the same slave, but for what it holds

abbrev pub IsSameButCells : Slave → Slave → Type 0
IsSameButCells (Memory memory) (Memory reset) = memory ≡ record reset { cells = memory.cells }
IsSameButCells (Memory memory) Device = ⊥
IsSameButCells Device (Memory reset) = ⊥
IsSameButCells Device Device = Unit {0}

pub same_itself : (slave : Slave) → IsSameButCells slave slave
same_itself (Memory memory) = refl
same_itself Device = tt

pub same_after : (slave reset : Slave) (sent : Sent) → IsSameButCells slave reset
    → IsSameButCells (slave_after_sent slave sent) reset
same_after (Memory memory) (Memory reset) sent same = go (is_corrupt sent)
  where
    go : (corrupt : Bool)
        → IsSameButCells (Memory (if corrupt then memory_cut memory sent.ask else after_partial memory sent.ask)) (Memory reset)
    go true = ap (λ (m : Partial). record m { cells = (memory_cut memory sent.ask).cells }) same
    go false = ap (λ (m : Partial). record m { cells = (after_partial memory sent.ask).cells }) same
same_after (Memory memory) Device sent same = same
same_after Device (Memory reset) sent same = same
same_after Device Device sent same = tt

-- two requests are uncontested at a slave
abbrev pub AreUncontestedAt : Slave → Sent → Sent → Type 0
AreUncontestedAt (Memory memory) sent other = AreUncontested memory sent.ask other.ask
AreUncontestedAt Device sent other = Unit {0}

-- ---- what is expected has no more bytes than the window

shown_short : (op : ReplyOp) (n : ℕ) (cells : List (Option ℕ)) → length cells ≤ n → length (shown_cells op cells) ≤ n
shown_short AccessAck n cells short = omega arith
shown_short AccessAckData n cells short = short
shown_short HintAck n cells short = omega arith

blank_short : (op : ReplyOp) (n : ℕ)
    → length {A = Option ℕ} (replicate (if reply_carries_bytes op then n else 0) None) ≤ n
blank_short AccessAck n = omega arith
blank_short AccessAckData n = omega (arith, length-replicate {A = Option ℕ} n None)
blank_short HintAck n = omega arith

expected_short : (slave : Slave) (ask : Request) → length (expected_of slave ask).bytes ≤ 2 ^ ask.size
expected_short Device ask = blank_short (reply_op_of ask.op) (2 ^ ask.size)
expected_short (Memory memory) ask =
    shown_short (reply_op_of ask.op) (2 ^ ask.size)
    (if permits memory ask then window_of memory ask else known (replicate (2 ^ ask.size) 0)) (go (permits memory ask))
  where
    go : (legal : Bool)
        → length (if legal then window_of memory ask else known (replicate (2 ^ ask.size) 0)) ≤ 2 ^ ask.size
    go true = omega (arith, length-take (2 ^ ask.size) (drop (start_of memory ask) (visible memory)))
    go false = omega (
      arith,
      length-map (replicate (2 ^ ask.size) 0) (λ (byte : ℕ). Some byte),
      length-replicate {A = ℕ} (2 ^ ask.size) 0,
    )

-- of a corrupt request as many bytes are expected
sent_short : (slave : Slave) (sent : Sent) → length (expected_of_sent slave sent).bytes ≤ 2 ^ sent.ask.size
sent_short slave sent =
    subst (λ (bytes : List (Option ℕ)). length bytes ≤ 2 ^ sent.ask.size)
    (sym (unsure_bytes (is_corrupt sent) (expected_of slave sent.ask))) (expected_short slave sent.ask)

-- ---- those kept

-- the request alone, if there is one
abbrev pub ask_held : Option Sent → Option Request
ask_held held = option_map (λ (sent : Sent). sent.ask) held

-- the request of one that is kept, if there is one
abbrev pub ask_kept : Option Accepted → Option Request
ask_kept kept = option_map (λ (entry : Accepted). entry.ask) kept

-- they are those that are open, each once, and no more is due to each than its window
pub record AreKept (held : ℕ → Option Sent) (kept : List Accepted) : Type 0 where
  pub apart : AreApartKept kept
  pub asks : (wide : ℕ) → ask_kept (kept_of kept wide) ≡ ask_held (held wide)
  pub short : (wide : ℕ) (entry : Accepted) → kept_of kept wide ≡ Some entry
      → length entry.due.bytes ≤ 2 ^ entry.ask.size

pub none_there : (held : ℕ → Option Sent) (kept : List Accepted) (wide : ℕ) → AreKept held kept → held wide ≡ None
    → kept_of kept wide ≡ None
none_there held kept wide are none = none_kept (kept_of kept wide) (are.asks wide ∙ ap ask_held none)

none_some : (entry : Accepted) → None ≡ Some entry → ⊥
none_some entry is = cc

some_same : (entry other : Accepted) → Some entry ≡ Some other → entry ≡ other
some_same entry other is = cc

-- a request that is kept is open, as it crossed
sent_there : (held : Option Sent) (ask : Request) → ask_held held ≡ Some ask
    → (sent : Sent) × (held ≡ Some sent) × (sent.ask ≡ ask)
sent_there None ask is = cc
sent_there (Some sent) ask is = (sent, refl, same sent is)
  where
    same : (one : Sent) → Some one.ask ≡ Some ask → one.ask ≡ ask
    same one so = cc

-- what is said of the one of each wide source is said of all
all_kept : (P : Accepted → Type 0) (kept : List Accepted) → AreApartKept kept
    → ((wide : ℕ) (entry : Accepted) → kept_of kept wide ≡ Some entry → P entry) → AllByRecursion P kept
all_kept P [] apart each = tt
all_kept P (entry ∷ kept) apart each = (
  each entry.wide entry (ap (λ (b : Bool). if b then Some entry else kept_of kept entry.wide)
      (eq-eqb entry.wide entry.wide refl)),
  all_kept P kept apart.1 (λ wide other there.
      each wide other (ap (λ (b : Bool). if b then Some entry else kept_of kept wide) (ne_eqb entry.wide wide
      (λ same. none_some other (sym apart.0 ∙ ap (λ w. kept_of kept w) same ∙ there))) ∙ there)),
)

-- a request is accepted
module _ (held : ℕ → Option Sent) (kept : List Accepted) (are : AreKept held kept) (slave : Slave) (wide index : ℕ)
    (ask : Sent) (none : held wide ≡ None) where
  abbrev new : Accepted
  new = record { wide = wide; ask = ask.ask; due = expected_of_sent slave ask; index = index }

  abbrev accepted : RequestMoment
  accepted = record { act = Accepts; wide = wide; sent = ask }

  pub kept_here : kept_of (kept ++ new ∷ []) wide ≡ Some new
  kept_here = kept-new kept new wide refl (none_there held kept wide are none)

  pub kept_there : (other : ℕ) → other ≢ wide → kept_of (kept ++ new ∷ []) other ≡ kept_of kept other
  kept_there other apart = kept-other kept new other (λ same. apart (sym same))

  pub kept_more : AreKept (open_then held accepted) (kept ++ new ∷ [])
  kept_more = record {
    apart = apart-new kept new (none_there held kept wide are none) are.apart;
    asks = λ other. ⊎_elim
        (λ (same : other ≡ wide). ap (λ w. ask_kept (kept_of (kept ++ new ∷ []) w)) same
        ∙ ap ask_kept kept_here
        ∙ ap ask_held (sym (open_here held accepted other same)))
        (λ (apart : other ≢ wide). ap ask_kept (kept_there other apart)
        ∙ are.asks other ∙ ap ask_held (sym (open_there held accepted other apart)))
        (cases_eq other wide);
    short = λ other entry there. ⊎_elim
        (λ (same : other ≡ wide). subst (λ (e : Accepted). length e.due.bytes ≤ 2 ^ e.ask.size)
        (some_same new entry (sym kept_here ∙ ap (λ w. kept_of (kept ++ new ∷ []) w) (sym same) ∙ there))
        (sent_short slave ask))
        (λ (apart : other ≢ wide). are.short other entry (sym (kept_there other apart) ∙ there))
        (cases_eq other wide);
  }

-- it is answered
pub kept_less : (held : ℕ → Option Sent) (kept : List Accepted) (wide : ℕ) (ask : Sent) → AreKept held kept
    → AreKept (open_then held (record { act = Answers; wide = wide; sent = ask })) (kept_answering kept wide)
kept_less held kept wide ask are =
    let answered : RequestMoment = record { act = Answers; wide = wide; sent = ask } in
    record {
      apart = apart-answering kept wide are.apart;
      asks = λ other. ⊎_elim
          (λ (same : other ≡ wide).
          ap (λ w. ask_kept (kept_of (kept_answering kept wide) w)) same
          ∙ ap ask_kept (answering-same kept wide are.apart)
          ∙ ap ask_held (sym (open_here held answered other same)))
          (λ (apart : other ≢ wide).
          ap ask_kept (answering-other kept wide other apart)
          ∙ are.asks other ∙ ap ask_held (sym (open_there held answered other apart)))
          (cases_eq other wide);
      short = λ other entry there. ⊎_elim
          (λ (same : other ≡ wide). absurd (none_some entry
          (sym (ap (λ w. kept_of (kept_answering kept wide) w) same ∙ answering-same kept wide are.apart) ∙ there)))
          (λ (apart : other ≢ wide). are.short other entry (sym (answering-other kept wide other apart) ∙ there))
          (cases_eq other wide);
    }

-- ---- a request that is contested by none is accepted as one that takes effect at once

pub as_served : (slave reset : Slave) (held : ℕ → Option Sent) (kept : List Accepted) (wide index : ℕ) (ask : Sent)
    → IsSameButCells slave reset → AreKept held kept
    → ((other : ℕ) (with : Sent) → held other ≡ Some with → AreUncontestedAt reset ask with)
    → IsAsServed slave kept wide index ask
as_served (Memory memory) (Memory reset) held kept wide index ask same are beside =
    uncontested_is_as_served memory kept wide index ask
    (All-from_recursion (λ (entry : Accepted). IsBeside memory ask.ask entry) kept
    (all_kept (λ (entry : Accepted). IsBeside memory ask.ask entry) kept are.apart (λ other entry there.
    let with = sent_there (held other) entry.ask (sym (are.asks other) ∙ ap ask_kept there) in
    record {
      uncontested = subst (λ (m : Partial). AreUncontested m ask.ask entry.ask) (sym same)
          (subst (λ (r : Request). AreUncontested reset ask.ask r) with.2 (beside other with.0 with.1));
      counted = are.short other entry there;
    })))
as_served (Memory memory) Device held kept wide index ask same are beside = absurd same
as_served Device (Memory reset) held kept wide index ask same are beside = absurd same
as_served Device Device held kept wide index ask same are beside = device_is_as_served kept wide index ask
