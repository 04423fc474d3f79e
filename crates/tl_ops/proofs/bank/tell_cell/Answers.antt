use Rattle.std.proofs.Common.{rules, ◌≡◌, ◌∙◌, ◌%◌, ◌^◌, ℕ, false, List, take, ap, arith}
use Rattle.std.specs.Int.{to_le_bytes, w64}
use Rattle.tl_types.specs.Operation.{reply_op_of}
use Rattle.tl_types.specs.Response.{Response}
use Rattle.tl_ops.specs.Number.{low_bytes}
use Rattle.tl_ops.proofs.Numbers.{take-to_le_bytes}
use Rattle.tl_ops.proofs.bank.tell_cell.Goals as goal

pub returns : goal.returns
returns c =
    let ask = c.args.ask.now in
    let width = 2 ^ ask.size in
    let shows : List ℕ → Response =
    λ bytes. record {
      op = reply_op_of ask.op;
      size = ask.size;
      source = ask.source;
      denied = false;
      bytes = bytes;
    } in
    let told : c.done.new.answer ≡ shows (take c.width.result (to_le_bytes w64 c.args.cell)) = search rules in
    let small : c.args.cell ≡ c.args.cell % 2 ^ 64 = omega (arith, c.ranges.cell.fits) in
    let low : take width (to_le_bytes w64 c.args.cell) ≡ low_bytes width c.args.cell =
    ap (λ n. take width (to_le_bytes w64 n)) small ∙ take-to_le_bytes width c.args.cell c.requires.in_word in
    told ∙ ap (λ n. shows (take n (to_le_bytes w64 c.args.cell))) c.width.ensures.value ∙ ap shows low
