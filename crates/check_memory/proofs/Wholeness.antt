-- A memory that is wholly known is the sequential memory of tl_ops, and stays wholly known.
use Rattle.std.proofs.Common.{◌≡◌, ◌∙◌, ℕ, ◌+◌, ◌^◌, ◌≤◌, Bool, true, false, if◌then◌else◌, List, [], ◌∷◌, ◌++◌, length, take, drop, replicate, map, Option, Some, None, unwrap_or, refl, sym, ap, arith}
use Rattle.std.specs.List.{zip}
use Rattle.std.proofs.lemmas.List.{length-map, take-map, drop-map, map-append}
use Rattle.tl_types.specs.Bytes.{plain_of}
use Rattle.tl_types.specs.Operation.{carries_bytes, reply_op_of}
use Rattle.tl_types.specs.Request.{Request}
use Rattle.tl_types.specs.declared.operation.AskOp.{AskOp}
use Rattle.tl_types.specs.declared.operation.AskOp.TheVariants.{PutFull, PutPartial, Arithmetic, Logical, Get, Intent}
use Rattle.tl_types.specs.declared.operation.Logic.{Logic}
use Rattle.tl_types.specs.declared.operation.Logic.TheVariants.{Xor, Or, And, Swap}
use Rattle.tl_types.specs.declared.operation.ReplyOp.{ReplyOp}
use Rattle.tl_types.specs.declared.operation.ReplyOp.TheVariants.{AccessAck, AccessAckData, HintAck}
use Rattle.tl_ops.specs.declared.kind.Kind.{Kind}
use Rattle.tl_ops.specs.declared.kind.Kind.TheVariants.{Ram, Rom, Regs, ClearRegs, NoDevice}
use Rattle.tl_ops.specs.Store.{shown, with_window}
use Rattle.tl_ops.specs.Window.{new_window, put_window, merged, cleared, operand_of, combine_arith, combine_logic}
use Rattle.tl_ops.proofs.Kept.{length-new_window}
use Rattle.tl_ops.proofs.LaneLists.{length-with_window}
use Rattle.check_memory.specs.Known.{known, all_known, replaced}
use Rattle.check_memory.specs.Cells.{put_cell, clear_cell, put_cells, combined, combined_logic, new_cells}
use Rattle.check_memory.specs.Partial.{Partial, start_of, placed, permits, takes_bytes, holds, is_volatile, visible, window_of, after_partial, AreWithin}
use Rattle.check_memory.specs.Pattern.{Pattern, pattern, shown_cells, seen_as}
use Rattle.check_memory.specs.Whole.{whole, true_window, true_after, true_reply}
use Rattle.check_memory.specs.Laws.{IsLawfulAsk, unspoiled, IsWhole}
use Rattle.check_memory.proofs.Legal.{takes_legal}
use Rattle.check_memory.proofs.Soundness.{swapped, within_if_held, held_if_permitted, window_long, given_long, true_same, true_taken, taken, untaken}
use Rattle.check_memory.proofs.Unknown.{unknown_none}

-- ---- what a window becomes

known-merged : (old : List ℕ) (given : List (Option ℕ))
    → map (λ pair. put_cell pair.0 pair.1) (zip (known old) given) ≡ known (merged old given)
known-merged [] given = refl
known-merged (byte ∷ old) [] = refl
known-merged (byte ∷ old) (None ∷ given) = ap (λ cells. Some byte ∷ cells) (known-merged old given)
known-merged (byte ∷ old) (Some new ∷ given) = ap (λ cells. Some new ∷ cells) (known-merged old given)

known-cleared : (old : List ℕ) (given : List (Option ℕ))
    → map (λ pair. clear_cell pair.0 pair.1) (zip (known old) given) ≡ known (cleared old (operand_of given))
known-cleared [] given = refl
known-cleared (byte ∷ old) [] = refl
known-cleared (byte ∷ old) (g ∷ given) = ap (λ cells. clear_cell (Some byte) g ∷ cells) (known-cleared old given)

known-put : (kind : Kind) (old : List ℕ) (given : List (Option ℕ))
    → put_cells kind (known old) given ≡ known (put_window kind old given)
known-put Ram old given = known-merged old given
known-put Rom old given = known-merged old given
known-put Regs old given = known-merged old given
known-put ClearRegs old given = known-cleared old given
known-put NoDevice old given = known-merged old given

all_known-known : (bytes : List ℕ) → all_known (known bytes) ≡ true
all_known-known [] = refl
all_known-known (byte ∷ bytes) = all_known-known bytes

plain_of-known : (bytes : List ℕ) → plain_of (known bytes) ≡ bytes
plain_of-known [] = refl
plain_of-known (byte ∷ bytes) = ap (λ bs. byte ∷ bs) (plain_of-known bytes)

known-combined : (combine : List ℕ → List ℕ → List ℕ) (old : List ℕ) (given : List (Option ℕ))
    → combined combine (known old) given ≡ known (combine old (operand_of given))
known-combined combine old given = rw (all_known-known old, plain_of-known old) refl

known-logic : (op : Logic) (old : List ℕ) (given : List (Option ℕ)) → length given ≡ length old
    → combined_logic op (known old) given ≡ known (combine_logic op old (operand_of given))
known-logic Xor old given long = known-combined (combine_logic Xor) old given
known-logic Or old given long = known-combined (combine_logic Or) old given
known-logic And old given long = known-combined (combine_logic And) old given
known-logic Swap old given long =
    ap known (sym (swapped old (operand_of given) (length-map given (λ b. unwrap_or b 0) ∙ long)))

pub known-new : (kind : Kind) (op : AskOp) (old : List ℕ) (given : List (Option ℕ))
    → (carries_bytes op ≡ true → length given ≡ length old)
    → new_cells kind op (known old) given ≡ known (new_window kind op old given)
known-new kind PutFull old given long = known-put kind old given
known-new kind PutPartial old given long = known-put kind old given
known-new kind (Arithmetic op) old given long = known-combined (combine_arith op) old given
known-new kind (Logical op) old given long = known-logic op old given (long refl)
known-new kind Get old given long = refl
known-new kind (Intent _) old given long = refl

-- ---- where it stands

-- where no byte changes by itself, all is seen
pub visible-all : (memory : Partial) → memory.volatile ≡ [] → visible memory ≡ memory.cells
visible-all memory none =
    unknown_none (is_volatile memory) memory.cells (λ place below. ap (λ ranges. holds ranges place 1) none)

known-window : (memory : Partial) (bytes : List ℕ) (ask : Request) → memory.volatile ≡ []
    → window_of (whole memory bytes) ask ≡ known (true_window bytes (placed memory ask))
known-window memory bytes ask none =
    ap (λ cells. take (2 ^ ask.size) (drop (start_of memory ask) cells)) (visible-all (whole memory bytes) none)
    ∙ ap (take (2 ^ ask.size)) (drop-map (λ (b : ℕ). Some b) (start_of memory ask) bytes)
    ∙ take-map (λ (b : ℕ). Some b) (2 ^ ask.size) (drop (start_of memory ask) bytes)

known-replaced : (bytes : List ℕ) (start : ℕ) (new : List ℕ)
    → replaced (known bytes) start (known new) ≡ known (with_window bytes start new)
known-replaced bytes start new =
    let some : ℕ → Option ℕ = λ b. Some b in
    let front : take start (known bytes) ≡ known (take start bytes) = take-map some start bytes in
    let back : drop (start + length (known new)) (known bytes) ≡ known (drop (start + length new) bytes) =
    ap (λ n. drop (start + n) (known bytes)) (length-map new some) ∙ drop-map some (start + length new) bytes in
    rw (front, back) (sym (map-append some (take start bytes ++ new) (drop (start + length new) bytes)
    ∙ ap (λ cells. cells ++ known (drop (start + length new) bytes)) (map-append some (take start bytes) new)))

-- ---- the law

known-shown : (op : ReplyOp) (bytes : List ℕ) → shown_cells op (known bytes) ≡ known (shown op bytes)
known-shown AccessAck bytes = refl
known-shown AccessAckData bytes = refl
known-shown HintAck bytes = refl

known-chosen : (p : Bool) (cells : List (Option ℕ)) (bytes zeros : List ℕ) → cells ≡ known bytes
    → (if p then cells else known zeros) ≡ known (if p then bytes else zeros)
known-chosen true cells bytes zeros same = same
known-chosen false cells bytes zeros same = refl

whole_answers : (memory : Partial) (bytes : List ℕ) (ask : Request) → memory.volatile ≡ []
    → unspoiled (pattern (whole memory bytes) ask) ≡ seen_as (true_reply memory bytes ask)
whole_answers memory bytes ask none =
    let zeros = replicate {A = ℕ} (2 ^ ask.size) 0 in
    let op = reply_op_of ask.op in
    let chosen = known-chosen (permits memory ask) (window_of (whole memory bytes) ask)
    (true_window bytes (placed memory ask)) zeros (known-window memory bytes ask none) in
    let with_bytes : List (Option ℕ) → Pattern =
    λ cells. record {
      op = op;
      size = ask.size;
      source = ask.source;
      denied = Some (if permits memory ask then false else true);
      bytes = cells;
      spoiled = [];
    } in
    let told = shown op (if permits memory ask then true_window bytes (placed memory ask) else zeros) in
    let same : pattern (whole memory bytes) ask ≡ with_bytes (known told) =
    ap with_bytes (ap (shown_cells op) chosen
    ∙ known-shown op (if permits memory ask then true_window bytes (placed memory ask) else zeros)) in
    ap unspoiled same
    ∙ ap (λ n. record (with_bytes (known told)) { spoiled = replicate n false }) (length-map told (λ byte. Some byte))

whole_leaves : (memory : Partial) (bytes : List ℕ) (ask : Request) (takes : Bool) → takes_bytes memory ask ≡ takes
    → memory.volatile ≡ [] → AreWithin memory.ranges (length bytes) → IsLawfulAsk ask
    → after_partial (whole memory bytes) ask ≡ whole memory (true_after memory bytes ask)
whole_leaves memory bytes ask true is none within lawful =
    let legal = takes_legal memory ask is in
    let new = new_window memory.kind ask.op (true_window bytes (placed memory ask)) ask.bytes in
    let made : new_cells memory.kind ask.op (window_of (whole memory bytes) ask) ask.bytes ≡ known new =
    ap (λ cells. new_cells memory.kind ask.op cells ask.bytes) (known-window memory bytes ask none)
    ∙ known-new memory.kind ask.op (true_window bytes (placed memory ask)) ask.bytes
    (given_long memory bytes ask within lawful legal) in
    let left : List (Option ℕ) → Partial = λ cells. record memory { cells = cells } in
    taken (whole memory bytes) ask is
    ∙ ap left (ap (replaced (known bytes) (start_of memory ask)) made ∙ known-replaced bytes (start_of memory ask) new)
    ∙ ap (whole memory) (sym (true_taken memory bytes ask legal))
whole_leaves memory bytes ask false is none within lawful =
    untaken (whole memory bytes) ask is ∙ ap (whole memory) (sym (true_same memory bytes ask is))

-- a window after a request is as long as before
new_long : (memory : Partial) (bytes : List ℕ) (ask : Request) (op : AskOp)
    → (carries_bytes op ≡ true → length ask.bytes ≡ length (true_window bytes (placed memory ask)))
    → length (new_window memory.kind op (true_window bytes (placed memory ask)) ask.bytes) ≡ length (true_window bytes (placed memory ask))
new_long memory bytes ask PutFull long =
    length-new_window memory.kind PutFull (true_window bytes (placed memory ask)) ask.bytes (long refl)
new_long memory bytes ask PutPartial long =
    length-new_window memory.kind PutPartial (true_window bytes (placed memory ask)) ask.bytes (long refl)
new_long memory bytes ask (Arithmetic op) long =
    length-new_window memory.kind (Arithmetic op) (true_window bytes (placed memory ask)) ask.bytes (long refl)
new_long memory bytes ask (Logical op) long =
    length-new_window memory.kind (Logical op) (true_window bytes (placed memory ask)) ask.bytes (long refl)
new_long memory bytes ask Get long = refl
new_long memory bytes ask (Intent _) long = refl

whole_counted : (memory : Partial) (bytes : List ℕ) (ask : Request) (p : Bool) → permits memory ask ≡ p
    → AreWithin memory.ranges (length bytes) → IsLawfulAsk ask
    → length (true_after memory bytes ask) ≡ length bytes
whole_counted memory bytes ask true is within lawful =
    let inside : (start_of memory ask) + 2 ^ ask.size ≤ length bytes =
    within_if_held memory.ranges (length bytes) (start_of memory ask) (2 ^ ask.size) within
    (held_if_permitted memory ask is) in
    let wide : length (true_window bytes (placed memory ask)) ≡ 2 ^ ask.size = window_long memory bytes ask within is in
    let long = new_long memory bytes ask ask.op (given_long memory bytes ask within lawful is) in
    rw is (length-with_window bytes (start_of memory ask) (new_window memory.kind ask.op (true_window bytes (placed memory ask)) ask.bytes)
    (omega (arith, inside, wide, long)))
whole_counted memory bytes ask false is within lawful = rw is refl

pub whole_stays_whole : (memory : Partial) (bytes : List ℕ) (ask : Request) → memory.volatile ≡ []
    → AreWithin memory.ranges (length bytes) → IsLawfulAsk ask → IsWhole memory bytes ask
whole_stays_whole memory bytes ask none within lawful = record {
  answers = whole_answers memory bytes ask none;
  leaves = whole_leaves memory bytes ask (takes_bytes memory ask) refl none within lawful;
  counted = whole_counted memory bytes ask (permits memory ask) refl within lawful;
}
