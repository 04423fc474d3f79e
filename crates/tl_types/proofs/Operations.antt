-- Facts about operations.
use Rattle.std.proofs.Common.{◌≡◌, ℕ, ◌^◌, ◌≤◌, Bool, true, false, if◌then◌else◌, refl, inl, inr, arith, lit≤}
use Rattle.std.proofs.Math.Nat.{pow-le-pow_right}
use Rattle.tl_types.specs.Operation.{byte_count, carries_bytes, may_leave_unset}
use Rattle.tl_types.specs.declared.limits.TheConstants.{MAX_SIZE, MAX_BYTES}
use Rattle.tl_types.specs.Wire.{opcode_of, IsCodeOf, HasOpFault}
use Rattle.tl_types.specs.declared.wire.OpFault.{OpFault}
use Rattle.tl_types.specs.declared.wire.OpFault.TheVariants.{Cached, UnknownOpcode, UnknownParam}
use Rattle.tl_types.specs.declared.operation.AskOp.{AskOp}
use Rattle.tl_types.specs.declared.operation.AskOp.TheVariants.{PutFull, PutPartial, Arithmetic, Logical, Get, Intent}

-- only a request that carries bytes may leave some unset
pub carries_from_holes : (op : AskOp) → may_leave_unset op ≡ true → carries_bytes op ≡ true
carries_from_holes PutFull h = refl
carries_from_holes PutPartial h = refl
carries_from_holes (Arithmetic _) h = refl
carries_from_holes (Logical _) h = refl
carries_from_holes Get h = cc
carries_from_holes (Intent _) h = cc

pub opcode_of-le : (op : AskOp) → opcode_of op ≤ 5
opcode_of-le PutFull = omega arith
opcode_of-le PutPartial = omega arith
opcode_of-le (Arithmetic _) = omega arith
opcode_of-le (Logical _) = omega arith
opcode_of-le Get = omega arith
opcode_of-le (Intent _) = omega arith

-- no request carries more bytes than a message has room for
pub byte_count-le : (op : AskOp) (size : ℕ) → size ≤ MAX_SIZE → byte_count op size ≤ MAX_BYTES
byte_count-le op size in_limit = go (carries_bytes op)
  where
    go : (carries : Bool) → (if carries then 2 ^ size else 0) ≤ MAX_BYTES
    go true = pow-le-pow_right (lit≤ tt) in_limit
    go false = omega arith

-- numbers that stand for an operation have no fault
pub no_fault_of_code : (op : AskOp) (opcode param : ℕ) (fault : OpFault) → IsCodeOf op opcode param
    → HasOpFault opcode param fault → ⊥
no_fault_of_code op opcode param Cached code (inl h) = omega (arith, opcode_of-le op)
no_fault_of_code op opcode param Cached code (inr h) = omega (arith, opcode_of-le op)
no_fault_of_code op opcode param UnknownOpcode code h = omega (arith, opcode_of-le op)
no_fault_of_code op opcode param UnknownParam code h = h op code
