use Rattle.std.proofs.Common.{◌≡◌, ◌∙◌, ℕ, ◌/◌, ◌^◌, ◌≤◌, ◌∷◌, [], List, ◌++◌, length, take, get_or, Option, bit_and, ap, arith, append_assoc}
use Rattle.std.specs.Int.{bit_at}
use Rattle.tl_types.specs.Bytes.{given_byte, given_in}
use Rattle.check_cells.proofs.Seen.{byte_more, all_seen}
use Rattle.check_cells.proofs.cells.Cells.append_each.Goals as goal

pub loop-place-preserved : goal.loop-place-preserved
loop-place-preserved c =
    let bytes = c.args.bytes.now in
    let known = c.args.known in
    let k = c.loop-place.place in
    let shown = given_in (bit_at known) bytes in
    let byte = given_byte (bit_and (known / 2 ^ k) 1) (get_or bytes k 0) in
    let read : c.seen.result ≡ byte = c.seen.ensures in
    c.push.ensures ∙ ap (λ b. c.loop-place.self ++ b ∷ []) read
    ∙ ap (λ (s : List (Option ℕ)). s ++ byte ∷ []) c.loop-place.invariant
    ∙ append_assoc c.args.self.now (take k shown) (byte ∷ [])
    ∙ ap (λ (s : List (Option ℕ)). c.args.self.now ++ s) (byte_more known k bytes (omega arith))

pub returns : goal.returns
returns c =
    let bytes = c.args.bytes.now in
    let enough : length bytes ≤ c.loop-place.place = omega (arith, c.loop-place-test.false) in
    c.loop-place.invariant
    ∙ ap (λ (s : List (Option ℕ)). c.args.self.now ++ s) (all_seen c.args.known c.loop-place.place bytes enough)
