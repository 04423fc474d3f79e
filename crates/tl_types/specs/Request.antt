-- A request on channel A as every contract sees it, and the rule that it keeps: the chapter "TL-UL and TL-UH
-- operations" of the TileLink specification, but for the largest size, which is this project's choice. The faults of
-- parts that break the rule, and their order, are this project's own.
use Rattle.std.specs.Prelude.{◌≡◌, ℕ, ◌≢◌, ◌≤◌, ◌<◌, false, List, length, Option, IsSome, IsNone, All, Any}
use Rattle.tl_types.specs.Fault.{IsFirstOf}
use Rattle.tl_types.specs.Operation.{byte_count, may_leave_unset}
use Rattle.tl_types.specs.declared.operation.AskOp.{AskOp}
use Rattle.tl_types.specs.declared.limits.TheConstants.{MAX_SIZE}
use Rattle.tl_types.specs.declared.request.AskFault.{AskFault}
use Rattle.tl_types.specs.declared.request.AskFault.TheVariants.{TooLarge, WrongCount, HoleInFull}

-- a request: its operation, its size as the base-2 logarithm of a number of bytes, its source, its address and its
-- bytes, where a byte that a partial put's mask leaves out is None
pub record Request : Type 0 where
  pub op : AskOp
  pub size : ℕ
  pub source : ℕ
  pub address : ℕ
  pub bytes : List (Option ℕ)

-- the rule of requests: as many bytes as the operation carries, and all of them given but in a partial put
pub record IsLawfulRequest (op : AskOp) (size : ℕ) (bytes : List (Option ℕ)) : Type 0 where
  pub in_limit : size ≤ MAX_SIZE
  pub counted : length bytes ≡ byte_count op size
  pub whole : may_leave_unset op ≡ false → All (λ b. IsSome b) bytes

-- the fault is one of a request with these parts
abbrev pub HasAskFault : AskOp → ℕ → List (Option ℕ) → AskFault → Type 0
HasAskFault op size bytes TooLarge = MAX_SIZE < size
HasAskFault op size bytes WrongCount = length bytes ≢ byte_count op size
HasAskFault op size bytes HoleInFull = (may_leave_unset op ≡ false) × Any (λ b. IsNone b) bytes

-- the place of a fault in the order in which faults are tried
abbrev pub ask_fault_rank : AskFault → ℕ
ask_fault_rank TooLarge = 1
ask_fault_rank WrongCount = 2
ask_fault_rank HoleInFull = 3

-- the fault is the first one, in that order, of a request with these parts
abbrev pub IsFirstAskFault : AskOp → ℕ → List (Option ℕ) → AskFault → Type 0
IsFirstAskFault op size bytes = IsFirstOf (HasAskFault op size bytes) ask_fault_rank
