-- One flag more is that of the next port.
use Rattle.std.proofs.Common.{◌∙◌, ◌++◌, ◌∷◌, [], ap, arith, sym}
use Rattle.std.specs.Prelude.{◌==◌}
use Rattle.std.specs.List.{list_any}
use Rattle.std.proofs.lemmas.List.FromFn.{map-range_with_len_more}
use Rattle.check_description.specs.Reach.{flags_of}
use Rattle.check_description.proofs.reach.flags_of.Goals as goal

pub loop-port-preserved : goal.loop-port-preserved
loop-port-preserved c =
    c.in_ok-push.ensures.items
    ∙ ap (λ flags. flags ++ c.is_among.result ∷ []) c.loop-port.invariant
    ∙ ap (λ flag. flags_of c.loop-port.port c.args.numbers.now ++ flag ∷ []) c.is_among.ensures
    ∙ sym (map-range_with_len_more (λ port. list_any (λ n. n == port) c.args.numbers.now) 0 c.loop-port.port c.loop-port.port (omega arith))
