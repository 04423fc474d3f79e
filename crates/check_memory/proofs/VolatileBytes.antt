-- Bytes that change by themselves: no reply tells them, and an atomic over one leaves its window unknown.
use Rattle.std.proofs.Common.{◌≡◌, ◌∙◌, ℕ, zero, suc, ◌+◌, ◌^◌, ◌<◌, ◌≤◌, Bool, true, false, if◌then◌else◌, List, [], ◌∷◌, length, drop, get_or, replicate, Option, Some, None, refl, ap, arith}
use Rattle.std.proofs.lemmas.List.{length-take-le, length-drop, length-replicate, get_or-take, get_or-drop}
use Rattle.tl_types.specs.Operation.{carries_bytes, reply_op_of}
use Rattle.tl_types.specs.Request.{Request}
use Rattle.tl_types.specs.declared.operation.AskOp.{AskOp}
use Rattle.tl_types.specs.declared.operation.AskOp.TheVariants.{PutFull, PutPartial, Arithmetic, Logical, Get, Intent}
use Rattle.tl_types.specs.declared.operation.Logic.TheVariants.{Xor, Or, And, Swap}
use Rattle.tl_types.specs.declared.operation.ReplyOp.{ReplyOp}
use Rattle.tl_types.specs.declared.operation.ReplyOp.TheVariants.{AccessAck, AccessAckData, HintAck}
use Rattle.tl_ops.specs.declared.kind.Kind.{Kind}
use Rattle.tl_ops.specs.Window.{combine_arith, combine_logic}
use Rattle.check_memory.specs.Known.{known, all_known, replaced}
use Rattle.check_memory.specs.Cells.{combined, new_cells, is_atomic, is_swap}
use Rattle.check_memory.specs.Partial.{Partial, start_of, permits, takes_bytes, is_volatile, visible, window_of, after_partial, AreWithin}
use Rattle.check_memory.specs.Pattern.{pattern, shown_cells}
use Rattle.check_memory.specs.Laws.{HasVolatile}
use Rattle.check_memory.proofs.Replaced.{get_or-replaced_in}
use Rattle.check_memory.proofs.Soundness.{within_if_held, held_if_permitted, taken}
use Rattle.check_memory.proofs.Unknown.{get_or-unknown, length-unknown_where}

-- what is seen at such a byte
seen_none : (memory : Partial) (ask : Request) (place : ℕ) → HasVolatile memory ask place
    → get_or (window_of memory ask) place None ≡ None
seen_none memory ask place has =
    get_or-take (2 ^ ask.size) (drop (start_of memory ask) (visible memory)) place None has.in_window
    ∙ get_or-drop (start_of memory ask) (visible memory) place None
    ∙ get_or-unknown (is_volatile memory) memory.cells ((start_of memory ask) + place)
    ∙ ap (λ (b : Bool). if b then None else get_or memory.cells ((start_of memory ask) + place) None) has.volatile

shown_none : (op : ReplyOp) (cells : List (Option ℕ)) (place : ℕ) → get_or cells place None ≡ None
    → get_or (shown_cells op cells) place None ≡ None
shown_none AccessAck cells place none = refl
shown_none AccessAckData cells place none = none
shown_none HintAck cells place none = refl

pub never_told : (memory : Partial) (ask : Request) (place : ℕ) → HasVolatile memory ask place
    → get_or (pattern memory ask).bytes place None ≡ None
never_told memory ask place has =
    ap (λ (b : Bool). get_or (shown_cells (reply_op_of ask.op)
    (if b then window_of memory ask else known (replicate (2 ^ ask.size) 0))) place None) has.legal
    ∙ shown_none (reply_op_of ask.op) (window_of memory ask) place (seen_none memory ask place has)

-- ---- atomics

not_all : (cells : List (Option ℕ)) (k : ℕ) → k < length cells → get_or cells k None ≡ None → all_known cells ≡ false
not_all [] k below none = absurd (omega (arith, below))
not_all (None ∷ cells) k below none = refl
not_all (Some byte ∷ cells) zero below none = cc
not_all (Some byte ∷ cells) (suc k) below none = not_all cells k (omega (arith, below)) none

combined_none : (combine : List ℕ → List ℕ → List ℕ) (old given : List (Option ℕ)) → all_known old ≡ false
    → combined combine old given ≡ replicate (length old) None
combined_none combine old given lost = rw (lost, combined) refl

left_none : (kind : Kind) (op : AskOp) (old given : List (Option ℕ)) → is_atomic op ≡ true → is_swap op ≡ false
    → all_known old ≡ false → new_cells kind op old given ≡ replicate (length old) None
left_none kind PutFull old given atomic swap lost = cc
left_none kind PutPartial old given atomic swap lost = cc
left_none kind (Arithmetic op) old given atomic swap lost = combined_none (combine_arith op) old given lost
left_none kind (Logical Xor) old given atomic swap lost = combined_none (combine_logic Xor) old given lost
left_none kind (Logical Or) old given atomic swap lost = combined_none (combine_logic Or) old given lost
left_none kind (Logical And) old given atomic swap lost = combined_none (combine_logic And) old given lost
left_none kind (Logical Swap) old given atomic swap lost = cc
left_none kind Get old given atomic swap lost = cc
left_none kind (Intent _) old given atomic swap lost = cc

carries : (op : AskOp) → is_atomic op ≡ true → carries_bytes op ≡ true
carries PutFull atomic = cc
carries PutPartial atomic = cc
carries (Arithmetic op) atomic = refl
carries (Logical op) atomic = refl
carries Get atomic = cc
carries (Intent _) atomic = cc

takes_it : (memory : Partial) (ask : Request) → permits memory ask ≡ true → is_atomic ask.op ≡ true
    → takes_bytes memory ask ≡ true
takes_it memory ask legal atomic = rw (legal, carries ask.op atomic) refl

none_known : (n k : ℕ) → get_or (replicate {A = Option ℕ} n None) k None ≡ None
none_known zero k = refl
none_known (suc n) zero = refl
none_known (suc n) (suc k) = none_known n k

none_either : (b : Bool) (cell : Option ℕ) → cell ≡ None → (if b then None else cell) ≡ None
none_either true cell none = refl
none_either false cell none = none

pub window_lost : (memory : Partial) (ask : Request) (place other : ℕ) → HasVolatile memory ask place
    → AreWithin memory.ranges (length memory.cells) → is_atomic ask.op ≡ true → is_swap ask.op ≡ false
    → other < 2 ^ ask.size → get_or (visible (after_partial memory ask)) ((start_of memory ask) + other) None ≡ None
window_lost memory ask place other has within atomic swap below =
    let old = window_of memory ask in
    let new = new_cells memory.kind ask.op old ask.bytes in
    let room : (start_of memory ask) + 2 ^ ask.size ≤ length memory.cells =
    within_if_held memory.ranges (length memory.cells) (start_of memory ask) (2 ^ ask.size) within
    (held_if_permitted memory ask has.legal) in
    let wide : length old ≡ 2 ^ ask.size =
    length-take-le (2 ^ ask.size) (drop (start_of memory ask) (visible memory))
    (omega (arith, room, length-drop (start_of memory ask) (visible memory), length-unknown_where (is_volatile memory) memory.cells)) in
    let lost : all_known old ≡ false =
    not_all old place (omega (arith, wide, has.in_window)) (seen_none memory ask place has) in
    let left : new ≡ replicate (length old) None = left_none memory.kind ask.op old ask.bytes atomic swap lost in
    let long : length new ≡ 2 ^ ask.size = ap length left ∙ length-replicate {A = Option ℕ} (length old) None ∙ wide in
    let there : get_or (replaced memory.cells (start_of memory ask) new) ((start_of memory ask) + other) None ≡ None =
    get_or-replaced_in memory.cells new (start_of memory ask) other (omega (arith, room, long)) (omega (arith, below, long))
    ∙ ap (λ (cells : List (Option ℕ)). get_or cells other None) left ∙ none_known (length old) other in
    ap (λ (m : Partial). get_or (visible m) ((start_of memory ask) + other) None) (taken memory ask (takes_it memory ask has.legal atomic))
    ∙ get_or-unknown (is_volatile memory) (replaced memory.cells (start_of memory ask) new) ((start_of memory ask) + other)
    ∙ none_either (is_volatile memory ((start_of memory ask) + other)) _ there
