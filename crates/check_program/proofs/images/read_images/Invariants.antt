-- The images so far are those of the ports so far.
use Rattle.std.proofs.Common.{◌≡◌, map, length}
use Rattle.check_description.specs.Port.{port_view}
use Rattle.check_program.specs.Images.{FitPorts, IsImageOf}
use Rattle.check_program.proofs.images.read_images.Given as goal

abbrev pub invariant-loop-number : goal.invariant-loop-number
invariant-loop-number g l =
    (length l.images.items ≡ l.number)
    × FitPorts (IsImageOf (g.F.ImageFiles.opens l.files) g.F.File.Read.remaining l.system) (map port_view l.port-items)
    (map (λ image. image.items) l.images.items)
