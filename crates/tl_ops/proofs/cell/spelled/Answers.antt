use Rattle.std.proofs.Common.{rules, ◌≡◌, ◌+◌, ◌-◌, ◌<◌, suc, length, get_or, arith}
use Rattle.std.proofs.lemmas.List.{drop_more}
use Rattle.tl_ops.proofs.Givens.{byte_below}
use Rattle.tl_ops.proofs.cell.spelled.Goals as goal

pub loop-k-preserved : goal.loop-k-preserved
loop-k-preserved c =
    let bytes = c.args.bytes.now in
    let k = c.loop-k.k in
    let left : length bytes - (k - 1) ≡ suc (length bytes - k) = omega arith in
    let at : k - 1 < length bytes = omega arith in
    let back : k - 1 + 1 ≡ k = omega arith in
    let byte : c.from.result ≡ get_or bytes (k - 1) 0 = search rules in
    let more = byte_below c.loop-k.cell c.from.result (length bytes - k) (omega arith) c.loop-k.invariant.1
    (omega arith) in
    (rw (left, drop_more bytes (k - 1) 0 at, back, ← byte, ← c.loop-k.invariant.0) more.0, rw left more.1)
