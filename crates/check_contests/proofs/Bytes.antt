-- Bytes that are below 256 stay so.
use Rattle.std.proofs.Common.{◌≡◌, ◌∙◌, ⊎_elim, ◌+◌, ◌^◌, ℕ, zero, suc, ◌<◌, ◌≤◌, Bool, true, false, if◌then◌else◌, ◌==◌, List, [], ◌∷◌, length, get_or, replicate, Option, Some, None, unwrap_or, bit_and, refl, sym, ap, arith}
use Rattle.std.specs.Prelude.{nat_lt, int_lt}
use Rattle.std.proofs.lemmas.Nat.{or_of_8, xor_of_8, and_le_l}
use Rattle.tl_types.specs.Bytes.{plain_of}
use Rattle.tl_types.specs.Request.{Request}
use Rattle.tl_types.specs.declared.operation.AskOp.{AskOp}
use Rattle.tl_types.specs.declared.operation.AskOp.TheVariants.{PutFull, PutPartial, Arithmetic, Logical, Get, Intent}
use Rattle.tl_types.specs.declared.operation.Arith.{Arith}
use Rattle.tl_types.specs.declared.operation.Arith.TheVariants.{Min, Max, MinU, MaxU, Add}
use Rattle.tl_types.specs.declared.operation.Logic.{Logic}
use Rattle.tl_types.specs.declared.operation.Logic.TheVariants.{Xor, Or, And, Swap}
use Rattle.tl_ops.specs.declared.kind.Kind.TheVariants.{ClearRegs}
use Rattle.tl_ops.specs.Number.{number, signed, low_bytes}
use Rattle.tl_ops.specs.Window.{operand_of, combine_arith, combine_byte, combine_logic, not_byte}
use Rattle.check_memory.specs.Known.{known, all_known}
use Rattle.check_memory.specs.Cells.{clear_cell, put_cells, combined, combined_logic, new_cells}
use Rattle.check_memory.specs.Laws.{IsLawfulAsk}
use Rattle.check_memory.specs.Partial.{Partial, takes_bytes, is_volatile, AreWithin, start_of, placed}
use Rattle.check_memory.proofs.Legal.{takes_legal}
use Rattle.check_memory.proofs.Unknown.{known_where, length-unknown_where}
use Rattle.check_contests.specs.Moments.{AreBytes}
use Rattle.check_contests.proofs.Cells.{none_known}
use Rattle.check_contests.proofs.Effect.{visible_in, visible_at, cells_after, new_of, window, window_long, get_or-window, there_if_known, Stands, stands, after_in, after_out, after_untaken, where_is}

-- each is below 256
abbrev pub AreSmall : List ℕ → Type 0
AreSmall bytes = (k : ℕ) → get_or bytes k 0 < 256

-- ---- plain bytes

small_or_zero : (cell : Option ℕ) → ((byte : ℕ) → cell ≡ Some byte → byte < 256) → unwrap_or cell 0 < 256
small_or_zero None small = omega arith
small_or_zero (Some byte) small = small byte refl

small_plain : (cells : List (Option ℕ)) → AreBytes cells → AreSmall (plain_of cells)
small_plain [] small k = omega arith
small_plain (cell ∷ cells) small zero = small_or_zero cell (λ byte is. small zero byte is)
small_plain (cell ∷ cells) small (suc k) = small_plain cells (λ j byte is. small (suc j) byte is) k

small_low : (n x : ℕ) → AreSmall (low_bytes n x)
small_low zero x k = omega arith
small_low (suc n) x zero = omega arith
small_low (suc n) x (suc k) = small_low n _ k

small_choice : (test : Bool) (one other : List ℕ) → AreSmall one → AreSmall other
    → AreSmall (if test then one else other)
small_choice true one other small small' = small
small_choice false one other small small' = small'

small_arith : (op : Arith) (old x : List ℕ) → AreSmall old → AreSmall x → AreSmall (combine_arith op old x)
small_arith Min old x small small' = small_choice (int_lt (signed x) (signed old)) x old small' small
small_arith Max old x small small' = small_choice (int_lt (signed old) (signed x)) x old small' small
small_arith MinU old x small small' = small_choice (nat_lt (number x) (number old)) x old small' small
small_arith MaxU old x small small' = small_choice (nat_lt (number old) (number x)) x old small' small
small_arith Add old x small small' = small_low (length old) _

small_byte : (op : Logic) (old x : ℕ) → old < 256 → x < 256 → combine_byte op old x < 256
small_byte Xor old x small small' = xor_of_8 old x small small'
small_byte Or old x small small' = or_of_8 old x small small'
small_byte And old x small small' = let below = and_le_l old x in omega (arith, below, small)
small_byte Swap old x small small' = small'

small_logic : (op : Logic) (old x : List ℕ) → AreSmall old → AreSmall x → AreSmall (combine_logic op old x)
small_logic op [] x small small' k = omega arith
small_logic op (byte ∷ old) [] small small' k = omega arith
small_logic op (byte ∷ old) (b ∷ x) small small' zero = small_byte op byte b (small zero) (small' zero)
small_logic op (byte ∷ old) (b ∷ x) small small' (suc k) =
    small_logic op old x (λ j. small (suc j)) (λ j. small' (suc j)) k

-- ---- bytes known and unknown

small_known : (bytes : List ℕ) → AreSmall bytes → AreBytes (known bytes)
small_known [] small k byte is = cc
small_known (b ∷ bytes) small zero byte is = let same : b ≡ byte = cc in rw (← same) (small zero)
small_known (b ∷ bytes) small (suc k) byte is = small_known bytes (λ j. small (suc j)) k byte is

small_combined_if : (combine : List ℕ → List ℕ → List ℕ) (old given : List (Option ℕ)) (all : Bool)
    → AreSmall (combine (plain_of old) (operand_of given))
    → AreBytes (if all then known (combine (plain_of old) (operand_of given)) else replicate (length old) None)
small_combined_if combine old given true small k byte is = small_known _ small k byte is
small_combined_if combine old given false small k byte is =
    let none : None ≡ Some byte = sym (none_known (length old) k) ∙ is in cc

small_combined : (combine : List ℕ → List ℕ → List ℕ) (old given : List (Option ℕ))
    → AreSmall (combine (plain_of old) (operand_of given)) → AreBytes (combined combine old given)
small_combined combine old given small = small_combined_if combine old given (all_known old) small

small_combined_logic : (op : Logic) (old given : List (Option ℕ)) → AreBytes old → AreBytes given
    → AreBytes (combined_logic op old given)
small_combined_logic Xor old given small small' =
    small_combined (combine_logic Xor) old given (small_logic Xor _ _ (small_plain old small) (small_plain given small'))
small_combined_logic Or old given small small' =
    small_combined (combine_logic Or) old given (small_logic Or _ _ (small_plain old small) (small_plain given small'))
small_combined_logic And old given small small' =
    small_combined (combine_logic And) old given (small_logic And _ _ (small_plain old small) (small_plain given small'))
small_combined_logic Swap old given small small' = small_known (operand_of given) (small_plain given small')

small_cleared_if : (all : Bool) (byte : ℕ) → (if all then Some 0 else None) ≡ Some byte → byte < 256
small_cleared_if true byte is = let same : 0 ≡ byte = cc in omega (arith, same)
small_cleared_if false byte is = cc

small_cleared : (cell given : Option ℕ) (byte : ℕ) → ((b : ℕ) → cell ≡ Some b → b < 256)
    → clear_cell cell given ≡ Some byte → byte < 256
small_cleared None given byte small is = small_cleared_if (unwrap_or given 0 == 255) byte is
small_cleared (Some old) given byte small is =
    let same : bit_and old (not_byte (unwrap_or given 0)) ≡ byte = cc in
    let below = and_le_l old (not_byte (unwrap_or given 0)) in
    let first : old < 256 = small old refl in
    omega (arith, same, below, first)

small_put : (old given : List (Option ℕ)) → AreBytes old → AreBytes (put_cells ClearRegs old given)
small_put [] given small k byte is = cc
small_put (cell ∷ old) [] small k byte is = cc
small_put (cell ∷ old) (g ∷ given) small zero byte is = small_cleared cell g byte (λ b known. small zero b known) is
small_put (cell ∷ old) (g ∷ given) small (suc k) byte is =
    small_put old given (λ j b known. small (suc j) b known) k byte is

small_new : (op : AskOp) (old given : List (Option ℕ)) → AreBytes old → AreBytes given
    → AreBytes (new_cells ClearRegs op old given)
small_new PutFull old given small small' = small_put old given small
small_new PutPartial old given small small' = small_put old given small
small_new (Arithmetic op) old given small small' =
    small_combined (combine_arith op) old given (small_arith op _ _ (small_plain old small) (small_plain given small'))
small_new (Logical op) old given small small' = small_combined_logic op old given small small'
small_new Get old given small small' = small
small_new (Intent _) old given small small' = small

-- ---- the bytes of a memory after a request

small_window : (ask : Request) (cells : List (Option ℕ)) → ask.address + 2 ^ ask.size ≤ length cells → AreBytes cells
    → AreBytes (window ask cells)
small_window ask cells room small k byte is =
    let below : k < 2 ^ ask.size = omega (arith, there_if_known (window ask cells) k byte is, window_long ask cells room) in
    small (ask.address + k) byte (sym (get_or-window ask cells k below) ∙ is)

pub small_after : (memory : Partial) (ask : Request) (cells : List (Option ℕ)) → memory.kind ≡ ClearRegs
    → AreWithin memory.ranges (length cells) → IsLawfulAsk ask → AreBytes (visible_in memory cells) → AreBytes ask.bytes
    → AreBytes (visible_in memory (cells_after memory ask cells))
small_after memory ask cells clears within lawful small small' a byte is = by_cases (takes_bytes memory ask) refl
  where
    known : (is_volatile memory a ≡ false) × (get_or (cells_after memory ask cells) a None ≡ Some byte)
    known = known_where (is_volatile memory) (cells_after memory ask cells) a byte is

    before : get_or cells a None ≡ Some byte → byte < 256
    before there = small a byte (visible_at memory cells a (Some byte) known.0 there)

    new : Stands memory ask cells → AreBytes (new_of memory ask cells)
    new s =
        let room : (start_of memory ask) + 2 ^ ask.size ≤ length (visible_in memory cells) =
        omega (arith, s.room, length-unknown_where (is_volatile memory) cells) in
        rw clears (small_new ask.op (window (placed memory ask) (visible_in memory cells)) ask.bytes
        (small_window (placed memory ask) (visible_in memory cells) room small) small')

    by_cases : (takes : Bool) → takes_bytes memory ask ≡ takes → byte < 256
    by_cases true taken =
        let s = stands memory ask cells within lawful (takes_legal memory ask taken) in
        ⊎_elim
        (λ beside. before (sym (after_out memory ask cells a s taken beside) ∙ known.1))
        (λ place. new s place.0 byte (sym (after_in memory ask cells place.0 s taken place.1)
        ∙ sym (ap (λ n. get_or (cells_after memory ask cells) n None) place.2) ∙ known.1))
        (where_is (placed memory ask) a)
    by_cases false untaken =
        before (sym (ap (λ cs. get_or cs a None) (after_untaken memory ask cells untaken)) ∙ known.1)
