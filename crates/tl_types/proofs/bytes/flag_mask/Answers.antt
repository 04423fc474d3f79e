use Rattle.std.proofs.Common.{◌≡◌, ◌==◌, ◌∙◌, map, take, not, w8, rules, ap, arith}
use Rattle.std.proofs.lemmas.List.{length-take, take_all}
use Rattle.std.proofs.lemmas.Simd.{bitmask_splat}
use Rattle.std.specs.Int.{bit_at}
use lib.Lanes.{mask_l}
use Rattle.tl_types.proofs.Masks.{bit_of_flags, flag_below}
use Rattle.tl_types.proofs.bytes.flag_mask.Goals as goal

pub returns-then-flags-eq-WORD_BYTES : goal.returns-then-flags-eq-WORD_BYTES
returns-then-flags-eq-WORD_BYTES c k =
    let flags = c.args.flags.now in
    let all : take 8 flags ≡ flags = take_all 8 flags (omega arith) in
    let lanes = bitmask_splat w8 (λ x y. not (x == y)) (take 8 flags) 8 0 (omega (arith, length-take 8 flags))
    (omega arith) in
    ap (λ m. bit_at m k) lanes ∙ ap (λ fs. bit_at (mask_l (map (λ flag. not (flag == 0)) fs)) k) all
    ∙ bit_of_flags flags k

pub loop-k-preserved : goal.loop-k-preserved
loop-k-preserved c =
    flag_below c.args.flags.now c.loop-k.k c.loop-k.mask c.from.result (omega arith) (omega arith) (omega arith)
    (search rules) c.loop-k.invariant.0 c.loop-k.invariant.1
