use Rattle.std.proofs.Common.{◌≡◌, ◌∙◌, ◌+◌, ◌++◌, ◌∷◌, [], length, ap, sym, arith, length-append, append_assoc}
use Rattle.std.proofs.lemmas.List.FromFn.{map-range_with_len_more}
use Rattle.check_beats.specs.Message.{byte_at, given_at}
use Rattle.check_beats.proofs.Given.{length-given_at}
use Rattle.check_beats.proofs.lanes.push_lanes.Goals as goal

pub push-requires : goal.push-requires
push-requires c =
    let so_far = given_at c.args.mask c.args.lanes.now c.args.first c.loop-k.k in
    let counted : length c.loop-k.bytes ≡ length c.args.bytes.now + length so_far = ap length c.loop-k.invariant ∙ length-append c.args.bytes.now so_far in
    omega (arith, counted, length-given_at c.args.mask c.args.lanes.now c.args.first c.loop-k.k)

pub loop-k-preserved : goal.loop-k-preserved
loop-k-preserved c =
    let mask = c.args.mask in
    let lanes = c.args.lanes.now in
    let first = c.args.first in
    let k = c.loop-k.k in
    c.push.ensures ∙ ap (λ b. c.loop-k.bytes ++ b ∷ []) c.byte_at.ensures ∙ ap (λ b. b ++ byte_at mask lanes (first + k) ∷ []) c.loop-k.invariant
    ∙ append_assoc c.args.bytes.now (given_at mask lanes first k) (byte_at mask lanes (first + k) ∷ [])
    ∙ ap (λ b. c.args.bytes.now ++ b) (sym (map-range_with_len_more (λ i. byte_at mask lanes (first + i)) 0 k k (omega arith)))
