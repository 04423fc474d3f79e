use Rattle.std.proofs.Common.{◌≡◌, ℕ, ◌∙◌, ◌+◌, ◌-◌, ◌++◌, ◌∷◌, [], suc, length, take, replicate, get_or, sym, ap, arith}
use Rattle.std.proofs.lemmas.List.{take_more, length-append, length-replicate, length-take-le}
use Rattle.tl_ops.specs.Cell.{spare_after}
use Rattle.tl_ops.specs.Store.{with_window}
use Rattle.tl_ops.proofs.Merges.{byte_put}
use Rattle.tl_ops.proofs.lanes.Lanes.new.Goals as goal

pub loop-k-preserved : goal.loop-k-preserved
loop-k-preserved c =
    let bytes = c.args.bytes.now in
    let k = c.loop-k.k in
    let place = c.args.lead + k in
    let byte = get_or bytes k 0 in
    let spare = spare_after (c.args.lead + length bytes) in
    let rest = length bytes - (k + 1) + spare in
    let one : length bytes - k + spare ≡ suc rest = omega arith in
    let zeros = replicate {A = ℕ} c.args.lead 0 in
    let lanes : c.loop-k.lanes ≡ zeros ++ (take k bytes ++ (0 ∷ replicate rest 0)) =
    c.loop-k.invariant ∙ ap (λ n. zeros ++ (take k bytes ++ replicate n 0)) one in
    let long : length (zeros ++ take k bytes) ≡ place =
    length-append zeros (take k bytes) ∙ omega
    (arith, length-replicate {A = ℕ} c.args.lead 0, length-take-le k bytes (omega arith)) in
    let more : take (k + 1) bytes ≡ take k bytes ++ byte ∷ [] = take_more bytes k 0 (omega arith) in
    c.put_byte.ensures
    ∙ ap (λ l. with_window l place (byte ∷ [])) lanes
    ∙ byte_put zeros (take k bytes) (replicate rest 0) 0 byte place long
    ∙ ap (λ done. zeros ++ (done ++ replicate rest 0)) (sym more)
