use Rattle.std.proofs.Common.{◌^◌, List, subst, ap, arith}
use Rattle.tl_map.specs.declared.range.Range.{Range}
use Rattle.check_memory.specs.Partial.{Partial, AreWithin}
use Rattle.check_memory.proofs.SeenWindows.{in_space}
use Rattle.check_memory.proofs.memory.PartialMemory.start.Goals as goal

pub returns-clause-in_space : goal.returns-clause-in_space
returns-clause-in_space c =
    λ legal.
    omega (
      arith,
      in_space c.args.self.now c.args.ask.now
          (subst (λ (ranges : List Range). AreWithin ranges (2 ^ 64)) (ap (λ (m : Partial). m.ranges) c.self.view_is)
          c.self.invariant.0)
          legal,
      c.find_start.ensures,
    )
