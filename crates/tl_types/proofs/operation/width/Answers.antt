-- a power of two below the limit is at most the largest power
use Rattle.std.proofs.Common.{◌≤◌, ◌^◌, arith, lit≤}
use Rattle.std.proofs.lemmas.Nat.{one_shl}
use Rattle.std.proofs.Math.Nat.{pow-le-pow_right}
use Rattle.tl_types.specs.declared.limits.TheConstants.{MAX_SIZE}
use Rattle.tl_types.proofs.operation.width.Goals as goal

pub returns-clause-in_limit : goal.returns-clause-in_limit
returns-clause-in_limit c =
    let most : 2 ^ c.args.size ≤ 2 ^ MAX_SIZE = pow-le-pow_right (lit≤ tt) c.requires in
    omega (arith, most, one_shl c.args.size 64 (omega arith))
