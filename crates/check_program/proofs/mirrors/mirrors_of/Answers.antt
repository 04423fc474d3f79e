-- Those of the ports as the file has them are those of each plan of the system.
use Rattle.std.proofs.Common.{◌∙◌, Result, Ok, Err, IfOk, ap, map}
use Rattle.check_coverage.specs.Mirrors.{mirrors_in}
use Rattle.check_program.specs.Mirrors.{port_mirrors}
use Rattle.check_program.proofs.Mirrored.{plan_mirrors}
use Rattle.check_program.proofs.mirrors.mirrors_of.Goals as goal

weaker : {X E : Type 0} (P Q : X → Type 0) (r : Result X E) → ((x : X) → P x → Q x) → IfOk r P → IfOk r Q
weaker P Q (Ok x) to is = to x is
weaker P Q (Err e) to is = tt

pub returns : goal.returns
returns c =
    weaker _ _ c.all_mirrors.result
    (λ all is terms images plan of port.
    ap (λ m. mirrors_in m port) (is ∙ ap (map port_mirrors) c.ports.ensures)
    ∙ plan_mirrors terms c.args.system.now images plan of port) c.all_mirrors.ensures
