use Rattle.std.proofs.Common.{◌≡◌, ◌∙◌, ◌++◌, drop, slice_index, unwrap_or, sym, ap, arith}
use Rattle.std.proofs.lemmas.List.{take_all, drop_all, append-nil}
use Rattle.tl_types.specs.Bytes.{given_in, given_byte, plain_of}
use Rattle.tl_types.proofs.Given.{given_flag}
use Rattle.tl_types.proofs.Masks.{length-cleared, cleared_to}
use Rattle.tl_types.proofs.bytes.clear_unset.Goals as goal
use Rattle.tl_types.proofs.bytes.clear_unset.Goals.{then-flags-place-eq0, else-flags-place-eq0}

pub loop-place-preserved : goal.loop-place-preserved
loop-place-preserved c =
    let flags = slice_index c.args.flags.now in
    let bytes = c.loop-place.bytes in
    let k = c.loop-place.place in
    let byte = slice_index bytes k in
    let made : c.if-flags-place-eq0.bytes ≡ unwrap_or (given_byte (flags k) byte) 0 =
    elim c.if-flags-place-eq0.branch [
      | then-flags-place-eq0 w ↦ w.bytes-is ∙ sym
          (ap (λ flag. unwrap_or (given_byte flag byte) 0) w.if-flags-place-eq0.true)
      | else-flags-place-eq0 w ↦ w.bytes-is ∙ sym
          (ap (λ given. unwrap_or given 0) (given_flag (flags k) byte w.if-flags-place-eq0.false))
    ] in
    cleared_to flags c.args.bytes.now bytes k c.if-flags-place-eq0.bytes c.loop-place.invariant c.loop-place-test.true made

pub returns : goal.returns
returns c =
    let flags = slice_index c.args.flags.now in
    let old = c.args.bytes.now in
    let new = plain_of (given_in flags old) in
    let k = c.loop-place.place in
    let past = c.loop-place-test.false in
    c.loop-place.invariant ∙ ap (λ xs. xs ++ drop k old)
    (take_all k new (omega (arith, past, length-cleared flags old))) ∙ ap (λ xs. new ++ xs) (drop_all k old past)
    ∙ append-nil new
