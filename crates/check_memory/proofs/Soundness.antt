-- Whatever the unknown bytes are, the true reply fits the pattern and the true bytes afterwards are those that are
-- known.
use Rattle.std.proofs.Common.{◌≡◌, ◌∙◌, ◌⊎◌, ℕ, ◌+◌, ◌^◌, ◌≤◌, Bool, true, false, ◌&&◌, ◌||◌, if◌then◌else◌, ◌==◌, nat_le, List, [], ◌∷◌, length, drop, replicate, map, Option, Some, None, unwrap_or, bit_and, refl, sym, ap, subst, inl, inr, ⊎_elim, rules, arith}
use Rattle.std.specs.List.{zip}
use Rattle.std.proofs.lemmas.List.{length-map, length-take-le, length-drop}
use Rattle.std.proofs.lemmas.List.Elements.{All-head, All-tail}
use Rattle.tl_types.specs.Bytes.{plain_of}
use Rattle.tl_types.specs.Operation.{carries_bytes, byte_count, reply_op_of}
use Rattle.tl_types.specs.Request.{Request}
use Rattle.tl_types.specs.declared.operation.AskOp.{AskOp}
use Rattle.tl_types.specs.declared.operation.AskOp.TheVariants.{PutFull, PutPartial, Arithmetic, Logical, Get, Intent}
use Rattle.tl_types.specs.declared.operation.Logic.{Logic}
use Rattle.tl_types.specs.declared.operation.Logic.TheVariants.{Xor, Or, And, Swap}
use Rattle.tl_types.specs.declared.operation.ReplyOp.{ReplyOp}
use Rattle.tl_types.specs.declared.operation.ReplyOp.TheVariants.{AccessAck, AccessAckData, HintAck}
use Rattle.tl_ops.specs.declared.kind.Kind.{Kind}
use Rattle.tl_ops.specs.declared.kind.Kind.TheVariants.{Ram, Rom, Regs, ClearRegs, NoDevice}
use Rattle.tl_ops.specs.Store.{shown, with_window}
use Rattle.tl_ops.specs.Window.{new_window, put_window, merged, cleared, operand_of, combine_arith, combine_logic, not_byte}
use Rattle.tl_ops.proofs.Kept.{length-new_window}
use Rattle.tl_map.specs.declared.range.Range.{Range}
use Rattle.check_memory.specs.Known.{IsBelow, known, all_known, replaced}
use Rattle.check_memory.specs.Cells.{put_cell, clear_cell, put_cells, combined, combined_logic, new_cells, unknown_where}
use Rattle.check_memory.specs.Partial.{Partial, start_of, placed, holds, permits, takes_bytes, is_volatile, visible, window_of, after_partial, AreWithin}
use Rattle.check_memory.specs.Pattern.{pattern, shown_cells}
use Rattle.check_memory.specs.Whole.{true_window, true_after, true_reply}
use Rattle.check_memory.specs.Laws.{IsLawfulAsk, IsSound, AreSameButVolatile}
use Rattle.check_memory.proofs.Legal.{takes_legal, takes_carries, not_taken, replaced-same}
use Rattle.check_memory.proofs.Unknown.{known_where, length-unknown_where, unknown-replaced, told-unknown}
use Rattle.check_memory.proofs.Told.{IsTold, Told, told-length, told-take, told-drop, told-known, told-none, told-replaced, below_from_told, told_from_below}

-- ---- puts

told-merged : (old : List (Option ℕ)) (bytes : List ℕ) (given : List (Option ℕ)) → Told old bytes
    → Told (map (λ pair. put_cell pair.0 pair.1) (zip old given)) (merged bytes given)
told-merged [] [] given told = tt
told-merged [] (byte ∷ bytes) given told = absurd told
told-merged (cell ∷ old) [] given told = absurd told
told-merged (cell ∷ old) (byte ∷ bytes) [] told = tt
told-merged (cell ∷ old) (byte ∷ bytes) (None ∷ given) told = (told.0, told-merged old bytes given told.1)
told-merged (cell ∷ old) (byte ∷ bytes) (Some new ∷ given) told = (refl, told-merged old bytes given told.1)

-- all bits of a byte are cleared, or it stays unknown
clears : (byte ones : ℕ) (all : Bool) → (ones == 255) ≡ all
    → IsTold (if all then Some 0 else None) (bit_and byte (not_byte ones))
clears byte ones true is =
    let every : ones ≡ 255 = search rules in
    rw every (search rules)
clears byte ones false is = tt

told-clear_cell : (cell : Option ℕ) (byte : ℕ) (given : Option ℕ) → IsTold cell byte
    → IsTold (clear_cell cell given) (bit_and byte (not_byte (unwrap_or given 0)))
told-clear_cell None byte given told = clears byte (unwrap_or given 0) (unwrap_or given 0 == 255) refl
told-clear_cell (Some cell) byte given told = ap (λ b. bit_and b (not_byte (unwrap_or given 0))) told

told-cleared : (old : List (Option ℕ)) (bytes : List ℕ) (given : List (Option ℕ)) → Told old bytes
    → Told (map (λ pair. clear_cell pair.0 pair.1) (zip old given)) (cleared bytes (operand_of given))
told-cleared [] [] given told = tt
told-cleared [] (byte ∷ bytes) given told = absurd told
told-cleared (cell ∷ old) [] given told = absurd told
told-cleared (cell ∷ old) (byte ∷ bytes) [] told = tt
told-cleared (cell ∷ old) (byte ∷ bytes) (g ∷ given) told =
    (told-clear_cell cell byte g told.0, told-cleared old bytes given told.1)

told-put : (kind : Kind) (old : List (Option ℕ)) (bytes : List ℕ) (given : List (Option ℕ)) → Told old bytes
    → Told (put_cells kind old given) (put_window kind bytes given)
told-put Ram old bytes given told = told-merged old bytes given told
told-put Rom old bytes given told = told-merged old bytes given told
told-put Regs old bytes given told = told-merged old bytes given told
told-put ClearRegs old bytes given told = told-cleared old bytes given told
told-put NoDevice old bytes given told = told-merged old bytes given told

-- ---- atomics

pub plain_if_known : (old : List (Option ℕ)) (bytes : List ℕ) → Told old bytes → all_known old ≡ true
    → plain_of old ≡ bytes
plain_if_known [] [] told all = refl
plain_if_known [] (byte ∷ bytes) told all = absurd told
plain_if_known (cell ∷ old) [] told all = absurd told
plain_if_known (None ∷ old) (byte ∷ bytes) told all = cc
plain_if_known (Some cell ∷ old) (byte ∷ bytes) told all =
    ap (λ b. b ∷ plain_of old) told.0 ∙ ap (λ bs. byte ∷ bs) (plain_if_known old bytes told.1 all)

told-combined_if : (combine : List ℕ → List ℕ → List ℕ) (old : List (Option ℕ)) (bytes x : List ℕ) (all : Bool)
    → all_known old ≡ all → Told old bytes → length (combine bytes x) ≡ length bytes
    → Told (if all then known (combine (plain_of old) x) else replicate (length old) None) (combine bytes x)
told-combined_if combine old bytes x true is told long =
    rw (plain_if_known old bytes told is) (told-known (combine bytes x))
told-combined_if combine old bytes x false is told long =
    told-none (length old) (combine bytes x) (long ∙ told-length old bytes told)

told-combined : (combine : List ℕ → List ℕ → List ℕ) (old : List (Option ℕ)) (bytes : List ℕ) (given : List (Option ℕ))
    → Told old bytes → length (combine bytes (operand_of given)) ≡ length bytes
    → Told (combined combine old given) (combine bytes (operand_of given))
told-combined combine old bytes given told long =
    told-combined_if combine old bytes (operand_of given) (all_known old) refl told long

-- a swap writes its operand
pub swapped : (bytes x : List ℕ) → length x ≡ length bytes → combine_logic Swap bytes x ≡ x
swapped [] [] long = refl
swapped [] (b ∷ x) long = absurd (omega (arith, long))
swapped (byte ∷ bytes) [] long = absurd (omega (arith, long))
swapped (byte ∷ bytes) (b ∷ x) long = ap (λ bs. b ∷ bs) (swapped bytes x (omega (arith, long)))

told-logic : (kind : Kind) (op : Logic) (old : List (Option ℕ)) (bytes : List ℕ) (given : List (Option ℕ))
    → Told old bytes → length given ≡ length bytes
    → Told (combined_logic op old given) (combine_logic op bytes (operand_of given))
told-logic kind Xor old bytes given told long =
    told-combined (combine_logic Xor) old bytes given told (length-new_window kind (Logical Xor) bytes given long)
told-logic kind Or old bytes given told long =
    told-combined (combine_logic Or) old bytes given told (length-new_window kind (Logical Or) bytes given long)
told-logic kind And old bytes given told long =
    told-combined (combine_logic And) old bytes given told (length-new_window kind (Logical And) bytes given long)
told-logic kind Swap old bytes given told long =
    rw (swapped bytes (operand_of given) (length-map given (λ b. unwrap_or b 0) ∙ long)) (told-known (operand_of given))

pub told-new : (kind : Kind) (op : AskOp) (old : List (Option ℕ)) (bytes : List ℕ) (given : List (Option ℕ))
    → Told old bytes → (carries_bytes op ≡ true → length given ≡ length bytes)
    → Told (new_cells kind op old given) (new_window kind op bytes given)
told-new kind PutFull old bytes given told long = told-put kind old bytes given told
told-new kind PutPartial old bytes given told long = told-put kind old bytes given told
told-new kind (Arithmetic op) old bytes given told long =
    told-combined (combine_arith op) old bytes given told
    (length-new_window kind (Arithmetic op) bytes given (long refl))
told-new kind (Logical op) old bytes given told long = told-logic kind op old bytes given told (long refl)
told-new kind Get old bytes given told long = told
told-new kind (Intent _) old bytes given told long = told

-- ---- where a legal request lies

either : (b c : Bool) → (b || c) ≡ true → (b ≡ true) ⊎ (c ≡ true)
either true c is = inl refl
either false c is = inr is

pub within_if_held : (ranges : List Range) (count address width : ℕ) → AreWithin ranges count
    → holds ranges address width ≡ true → address + width ≤ count
within_if_held [] count address width within is = cc
within_if_held (range ∷ ranges) count address width within is =
    let P : Range → Type 0 = λ r. r.base + r.length ≤ count in
    let here : range.base + range.length ≤ count = All-head P range ranges within in
    ⊎_elim
    (λ first. let in' : address + width ≤ range.base + range.length = search rules in omega (arith, in', here))
    (λ rest. within_if_held ranges count address width (All-tail P range ranges within) rest)
    (either (nat_le range.base address && nat_le (address + width) (range.base + range.length))
    (holds ranges address width) is)

pub held_if_permitted : (memory : Partial) (ask : Request) → permits memory ask ≡ true
    → holds memory.ranges (start_of memory ask) (2 ^ ask.size) ≡ true
held_if_permitted memory ask is = search rules

counted_if : (op : AskOp) (size n : ℕ) → n ≡ byte_count op size → carries_bytes op ≡ true → n ≡ 2 ^ size
counted_if op size n is carries = rw carries at is

-- a legal request that carries bytes has as many as its window
pub window_long : (memory : Partial) (bytes : List ℕ) (ask : Request) → AreWithin memory.ranges (length bytes)
    → permits memory ask ≡ true → length (true_window bytes (placed memory ask)) ≡ 2 ^ ask.size
window_long memory bytes ask within is =
    let inside : (start_of memory ask) + 2 ^ ask.size ≤ length bytes =
    within_if_held memory.ranges (length bytes) (start_of memory ask) (2 ^ ask.size) within
    (held_if_permitted memory ask is) in
    length-take-le (2 ^ ask.size) (drop (start_of memory ask) bytes) (omega (arith, length-drop (start_of memory ask) bytes, inside))

pub given_long : (memory : Partial) (bytes : List ℕ) (ask : Request) → AreWithin memory.ranges (length bytes)
    → IsLawfulAsk ask → permits memory ask ≡ true → carries_bytes ask.op ≡ true
    → length ask.bytes ≡ length (true_window bytes (placed memory ask))
given_long memory bytes ask within lawful is carries =
    counted_if ask.op ask.size (length ask.bytes) lawful.counted carries ∙ sym (window_long memory bytes ask within is)

-- ---- the law

below-shown : (op : ReplyOp) (cells : List (Option ℕ)) (bytes : List ℕ) → Told cells bytes
    → IsBelow (shown_cells op cells) (known (shown op bytes))
below-shown AccessAck cells bytes told = below_from_told [] [] tt
below-shown AccessAckData cells bytes told = below_from_told cells bytes told
below-shown HintAck cells bytes told = below_from_told [] [] tt

told-chosen : (p : Bool) (cells : List (Option ℕ)) (bytes zeros : List ℕ) → Told cells bytes
    → Told (if p then cells else known zeros) (if p then bytes else zeros)
told-chosen true cells bytes zeros told = told
told-chosen false cells bytes zeros told = told-known zeros

-- a request whose bytes are not taken leaves the true bytes as they are
kept_window : (kind : Kind) (op : AskOp) (old : List ℕ) (given : List (Option ℕ)) → carries_bytes op ≡ false
    → new_window kind op old given ≡ old
kept_window kind PutFull old given none = cc
kept_window kind PutPartial old given none = cc
kept_window kind (Arithmetic op) old given none = cc
kept_window kind (Logical op) old given none = cc
kept_window kind Get old given none = refl
kept_window kind (Intent _) old given none = refl

pub true_same : (memory : Partial) (bytes : List ℕ) (ask : Request) → takes_bytes memory ask ≡ false
    → true_after memory bytes ask ≡ bytes
true_same memory bytes ask none = by_cases (permits memory ask) refl
  where
    by_cases : (p : Bool) → permits memory ask ≡ p → true_after memory bytes ask ≡ bytes
    by_cases true is = rw is (ap (with_window bytes (start_of memory ask))
        (kept_window memory.kind ask.op (true_window bytes (placed memory ask)) ask.bytes (not_taken memory ask is none))
        ∙ replaced-same bytes (start_of memory ask) (2 ^ ask.size))
    by_cases false is = rw is refl

pub true_taken : (memory : Partial) (bytes : List ℕ) (ask : Request) → permits memory ask ≡ true
    → true_after memory bytes ask
    ≡ with_window bytes (start_of memory ask) (new_window memory.kind ask.op (true_window bytes (placed memory ask)) ask.bytes)
true_taken memory bytes ask is = rw is refl

pub taken : (memory : Partial) (ask : Request) → takes_bytes memory ask ≡ true
    → after_partial memory ask ≡ record memory {
      cells = replaced memory.cells (start_of memory ask) (new_cells memory.kind ask.op (window_of memory ask) ask.bytes);
    }
taken memory ask is = rw (is, after_partial) refl

pub untaken : (memory : Partial) (ask : Request) → takes_bytes memory ask ≡ false → after_partial memory ask ≡ memory
untaken memory ask is = rw (is, after_partial) refl

told_window : (memory : Partial) (bytes : List ℕ) (ask : Request) → Told (visible memory) bytes
    → Told (window_of memory ask) (true_window bytes (placed memory ask))
told_window memory bytes ask told =
    told-take (2 ^ ask.size) (drop (start_of memory ask) (visible memory)) (drop (start_of memory ask) bytes)
    (told-drop (start_of memory ask) (visible memory) bytes told)

told-after : (memory : Partial) (bytes : List ℕ) (ask : Request) (takes : Bool) → takes_bytes memory ask ≡ takes
    → AreWithin memory.ranges (length bytes) → IsLawfulAsk ask → Told (visible memory) bytes
    → Told (visible (after_partial memory ask)) (true_after memory bytes ask)
told-after memory bytes ask true is within lawful told =
    let legal = takes_legal memory ask is in
    let new = new_cells memory.kind ask.op (window_of memory ask) ask.bytes in
    let new' = new_window memory.kind ask.op (true_window bytes (placed memory ask)) ask.bytes in
    let given = given_long memory bytes ask within lawful legal in
    let told' : Told new new' =
    told-new memory.kind ask.op (window_of memory ask) (true_window bytes (placed memory ask)) ask.bytes (told_window memory bytes ask told)
    given in
    let wide : length (true_window bytes (placed memory ask)) ≡ 2 ^ ask.size = window_long memory bytes ask within legal in
    let long : length new ≡ 2 ^ ask.size =
    sym (told-length new new' told')
    ∙ length-new_window memory.kind ask.op (true_window bytes (placed memory ask)) ask.bytes (given (takes_carries memory ask is)) ∙ wide in
    let inside : (start_of memory ask) + 2 ^ ask.size ≤ length bytes =
    within_if_held memory.ranges (length bytes) (start_of memory ask) (2 ^ ask.size) within (held_if_permitted memory ask legal) in
    let fits : (start_of memory ask) + length new ≤ length memory.cells =
    omega (
      arith,
      inside,
      long,
      told-length (visible memory) bytes told,
      length-unknown_where (is_volatile memory) memory.cells,
    ) in
    let all : Told (unknown_where (is_volatile memory) (replaced memory.cells (start_of memory ask) new))
    (with_window bytes (start_of memory ask) new') =
    subst (λ (cells : List (Option ℕ)). Told cells (with_window bytes (start_of memory ask) new'))
    (sym (unknown-replaced (is_volatile memory) memory.cells new (start_of memory ask) fits))
    (told-unknown (is_volatile memory) (replaced (visible memory) (start_of memory ask) new) (with_window bytes (start_of memory ask) new')
    (told-replaced (visible memory) bytes (start_of memory ask) new new' told told')) in
    subst (λ (m : Partial). Told (visible m) (true_after memory bytes ask)) (sym (taken memory ask is))
    (subst (λ (bs : List ℕ). Told (unknown_where (is_volatile memory) (replaced memory.cells (start_of memory ask) new)) bs)
    (sym (true_taken memory bytes ask legal)) all)
told-after memory bytes ask false is within lawful told =
    subst (λ (m : Partial). Told (visible m) (true_after memory bytes ask)) (sym (untaken memory ask is))
    (subst (λ (bs : List ℕ). Told (visible memory) bs) (sym (true_same memory bytes ask is)) told)

pub partial_is_sound : (memory : Partial) (bytes : List ℕ) (ask : Request) → AreWithin memory.ranges (length bytes)
    → IsLawfulAsk ask → IsBelow (visible memory) (known bytes) → IsSound memory bytes ask
partial_is_sound memory bytes ask within lawful below =
    let told : Told (visible memory) bytes = told_from_below (visible memory) bytes below in
    let fit : IsBelow (pattern memory ask).bytes (known (true_reply memory bytes ask).bytes) =
    below-shown (reply_op_of ask.op) _ _
    (told-chosen (permits memory ask) (window_of memory ask) (true_window bytes (placed memory ask))
    (replicate (2 ^ ask.size) 0) (told_window memory bytes ask told)) in
    record {
      reply_fits = record {
        op_is = refl;
        size_is = refl;
        source_is = refl;
        denied_is = λ flag is. is;
        counted = fit.counted;
        bytes_fit = λ looked. fit;
      };
      stays_below = below_from_told (visible (after_partial memory ask)) (true_after memory bytes ask)
          (told-after memory bytes ask (takes_bytes memory ask) refl within lawful told);
    }

-- ---- bytes that change by themselves

pub volatile_bytes_are_free : (memory : Partial) (bytes later : List ℕ) → AreSameButVolatile memory bytes later
    → IsBelow (visible memory) (known bytes) → IsBelow (visible memory) (known later)
volatile_bytes_are_free memory bytes later same below = record {
  counted = length-map later (λ byte. Some byte) ∙ same.counted ∙ sym (length-map bytes (λ byte. Some byte)) ∙ below.counted;
  kept = λ place byte is. same.same place (known_where (is_volatile memory) memory.cells place byte is).0
      ∙ below.kept place byte is;
}
