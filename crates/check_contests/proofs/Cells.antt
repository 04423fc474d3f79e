-- What a request makes of each byte of its window: a put of each byte by itself, an atomic of the whole window.
use Rattle.std.proofs.Common.{◌≡◌, ◌∙◌, ℕ, zero, suc, ◌<◌, Bool, true, false, if◌then◌else◌, ◌==◌, List, [], ◌∷◌, length, get_or, replicate, Option, Some, None, unwrap_or, bit_and, refl, sym, ap, arith}
use Rattle.std.specs.Int.Bits.{and_zero_r}
use Rattle.std.proofs.lemmas.Bool.{eqb-true}
use Rattle.std.proofs.lemmas.Nat.{and_mask}
use Rattle.tl_types.specs.Bytes.{plain_of}
use Rattle.tl_types.specs.declared.operation.AskOp.{AskOp}
use Rattle.tl_types.specs.declared.operation.AskOp.TheVariants.{PutFull, PutPartial, Arithmetic, Logical, Get, Intent}
use Rattle.tl_types.specs.declared.operation.Logic.{Logic}
use Rattle.tl_types.specs.declared.operation.Logic.TheVariants.{Xor, Or, And, Swap}
use Rattle.tl_ops.specs.declared.kind.Kind.{Kind}
use Rattle.tl_ops.specs.declared.kind.Kind.TheVariants.{Ram, Rom, Regs, ClearRegs, NoDevice}
use Rattle.tl_ops.specs.Window.{operand_of, combine_arith, combine_logic}
use Rattle.check_memory.specs.Known.{known, all_known}
use Rattle.check_memory.specs.Cells.{clear_cell, put_at, put_cells, combined, combined_logic, new_cells, is_atomic}

-- ---- puts

pub get_or-put_cells : (kind : Kind) (old given : List (Option ℕ)) (k : ℕ) → length given ≡ length old → k < length old
    → get_or (put_cells kind old given) k None ≡ put_at kind (get_or old k None) (get_or given k None)
get_or-put_cells kind [] given k paired below = absurd (omega (arith, below))
get_or-put_cells kind (cell ∷ old) [] k paired below = absurd (omega (arith, paired))
get_or-put_cells kind (cell ∷ old) (g ∷ given) zero paired below = refl
get_or-put_cells kind (cell ∷ old) (g ∷ given) (suc k) paired below =
    get_or-put_cells kind old given k (omega (arith, paired)) (omega (arith, below))

masked : (byte : ℕ) → byte < 256 → bit_and byte 255 ≡ byte
masked byte small = and_mask byte 8 ∙ omega (arith, small)

-- a byte that a put does not give stays
pub put-none : (kind : Kind) (cell : Option ℕ)
    → (kind ≡ ClearRegs → (byte : ℕ) → cell ≡ Some byte → byte < 256)
    → put_at kind cell None ≡ cell
put-none Ram cell small = refl
put-none Rom cell small = refl
put-none Regs cell small = refl
put-none ClearRegs None small = refl
put-none ClearRegs (Some byte) small = ap (λ (b : ℕ). Some b) (masked byte (small refl byte refl))
put-none NoDevice cell small = refl

cleared_unknown : (more : Option ℕ) (given byte : ℕ) (all : Bool) → (given == 255) ≡ all
    → (if all then Some 0 else None) ≡ Some byte
    → (if all then Some 0 else None) ≡ Some byte × (given ≡ 255)
cleared_unknown more given byte true is same = (same, eqb-true given 255 is)
cleared_unknown more given byte false is same = cc

clear-more : (less more given : Option ℕ) (byte : ℕ) → ((b : ℕ) → less ≡ Some b → more ≡ Some b)
    → clear_cell less given ≡ Some byte → clear_cell more given ≡ Some byte
clear-more (Some old) more given byte kept is = rw (kept old refl) is
clear-more None None given byte kept is = is
clear-more None (Some old) given byte kept is =
    let parts = cleared_unknown (Some old) (unwrap_or given 0) byte (unwrap_or given 0 == 255) refl is in
    let all : (unwrap_or given 0 == 255) ≡ true = rw parts.1 refl in
    let zeros : Some 0 ≡ Some byte = rw all at is in
    rw parts.1 (ap (λ (b : ℕ). Some b) (and_zero_r old) ∙ zeros)

-- a put leaves a byte that is known, where it does of one of which less is known
pub put-more : (kind : Kind) (less more given : Option ℕ) (byte : ℕ) → ((b : ℕ) → less ≡ Some b → more ≡ Some b)
    → put_at kind less given ≡ Some byte → put_at kind more given ≡ Some byte
put-more Ram less more None byte kept is = kept byte is
put-more Ram less more (Some new) byte kept is = is
put-more Rom less more None byte kept is = kept byte is
put-more Rom less more (Some new) byte kept is = is
put-more Regs less more None byte kept is = kept byte is
put-more Regs less more (Some new) byte kept is = is
put-more ClearRegs less more given byte kept is = clear-more less more given byte kept is
put-more NoDevice less more None byte kept is = kept byte is
put-more NoDevice less more (Some new) byte kept is = is

-- ---- atomics

same_if_known : (less more : List (Option ℕ)) → length less ≡ length more → all_known less ≡ true
    → ((k b : ℕ) → get_or less k None ≡ Some b → get_or more k None ≡ Some b) → more ≡ less
same_if_known [] [] long all kept = refl
same_if_known [] (m ∷ more) long all kept = absurd (omega (arith, long))
same_if_known (l ∷ less) [] long all kept = absurd (omega (arith, long))
same_if_known (None ∷ less) (m ∷ more) long all kept = cc
same_if_known (Some byte ∷ less) (m ∷ more) long all kept =
    let first : m ≡ Some byte = kept zero byte refl in
    let rest : more ≡ less = same_if_known less more (omega (arith, long)) all (λ k b is. kept (suc k) b is) in
    rw (first, rest) refl

pub none_known : (n k : ℕ) → get_or (replicate {A = Option ℕ} n None) k None ≡ None
none_known zero k = refl
none_known (suc n) zero = refl
none_known (suc n) (suc k) = none_known n k

combined_if : (combine : List ℕ → List ℕ → List ℕ) (less more given : List (Option ℕ)) (k byte : ℕ) (all : Bool)
    → all_known less ≡ all → length less ≡ length more
    → ((k b : ℕ) → get_or less k None ≡ Some b → get_or more k None ≡ Some b)
    → get_or (if all then known (combine (plain_of less) (operand_of given)) else replicate (length less) None) k None
    ≡ Some byte → get_or (combined combine more given) k None ≡ Some byte
combined_if combine less more given k byte true whole long kept is =
    let same : more ≡ less = same_if_known less more long whole kept in
    rw (same, whole) is
combined_if combine less more given k byte false whole long kept is =
    let none : None ≡ Some byte = sym (none_known (length less) k) ∙ is in cc

combined-more : (combine : List ℕ → List ℕ → List ℕ) (less more given : List (Option ℕ)) (k byte : ℕ)
    → length less ≡ length more → ((k b : ℕ) → get_or less k None ≡ Some b → get_or more k None ≡ Some b)
    → get_or (combined combine less given) k None ≡ Some byte → get_or (combined combine more given) k None ≡ Some byte
combined-more combine less more given k byte long kept is =
    combined_if combine less more given k byte (all_known less) refl long kept is

logic-more : (op : Logic) (less more given : List (Option ℕ)) (k byte : ℕ)
    → length less ≡ length more → ((k b : ℕ) → get_or less k None ≡ Some b → get_or more k None ≡ Some b)
    → get_or (combined_logic op less given) k None ≡ Some byte → get_or (combined_logic op more given) k None ≡ Some byte
logic-more Xor less more given k byte long kept is = combined-more (combine_logic Xor) less more given k byte long kept is
logic-more Or less more given k byte long kept is = combined-more (combine_logic Or) less more given k byte long kept is
logic-more And less more given k byte long kept is = combined-more (combine_logic And) less more given k byte long kept is
logic-more Swap less more given k byte long kept is = is

-- an atomic leaves a byte that is known, where it does of a window of which less is known
pub atomic-more : (kind : Kind) (op : AskOp) (less more given : List (Option ℕ)) (k byte : ℕ) → is_atomic op ≡ true
    → length less ≡ length more → ((k b : ℕ) → get_or less k None ≡ Some b → get_or more k None ≡ Some b)
    → get_or (new_cells kind op less given) k None ≡ Some byte → get_or (new_cells kind op more given) k None ≡ Some byte
atomic-more kind PutFull less more given k byte atomic long kept is = cc
atomic-more kind PutPartial less more given k byte atomic long kept is = cc
atomic-more kind (Arithmetic op) less more given k byte atomic long kept is =
    combined-more (combine_arith op) less more given k byte long kept is
atomic-more kind (Logical op) less more given k byte atomic long kept is =
    logic-more op less more given k byte long kept is
atomic-more kind Get less more given k byte atomic long kept is = cc
atomic-more kind (Intent _) less more given k byte atomic long kept is = cc
