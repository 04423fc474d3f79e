use Rattle.std.proofs.Common.{rules, ◌≡◌, ◌∙◌, ◌<◌, ◌≤◌, ◌^◌, ◌*◌, ◌%◌, sym, lit≤, pos, arith}
use Rattle.std.proofs.lemmas.Int.{ints}
use Rattle.std.proofs.lemmas.Bool.Decides.{nat_tests}
use Rattle.std.proofs.lemmas.Nat.{one_shl}
use Rattle.std.proofs.Math.Nat.{pow-le-pow_right}
use Rattle.tl_ops.proofs.Numbers.{wide_difference, signed_high}
use Rattle.tl_ops.proofs.Bytes.{number-low_bytes, length-low_bytes}
use Rattle.tl_ops.proofs.cell.signed.Goals as goal

pub returns-then-unsigned-span : goal.returns-then-unsigned-span
returns-then-unsigned-span c =
    rw (number-low_bytes c.args.width c.args.cell c.requires.fits, length-low_bytes c.args.width c.args.cell)
    (grind (arith, ints, nat_tests))

pub returns-else-unsigned-span : goal.returns-else-unsigned-span
returns-else-unsigned-span c =
    let small : c.args.cell < 2 ^ 64 = search rules in
    let unsigned : c.from-unsigned.result ≡ pos c.args.cell = search rules in
    let span : (1 * 2 ^ (8 * c.args.width)) % 2 ^ 128 ≡ 2 ^ (8 * c.args.width) = one_shl _ 128 (omega arith) in
    let high : 2 ^ (8 * c.args.width) ≤ 2 * c.args.cell = search rules in
    let eight : 8 * c.args.width ≤ 64 = omega arith in
    let fits : 2 ^ (8 * c.args.width) ≤ 2 ^ 64 = pow-le-pow_right (lit≤ tt) eight in
    rw (
      span,
      unsigned,
      number-low_bytes c.args.width c.args.cell c.requires.fits,
      length-low_bytes c.args.width c.args.cell,
    ) (wide_difference _ _ small fits ∙ sym (signed_high _ _ high))
