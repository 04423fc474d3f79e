-- The files so far, and those of the rest of the ports, are those of all.
use Rattle.std.proofs.Common.{◌≡◌, ◌++◌, drop, map}
use Rattle.check_description.specs.Port.{port_view}
use Rattle.check_description.specs.File.{image_view, images_from, images_of, parts_view}
use Rattle.check_description.proofs.parts.Parts.images.Given as goal

abbrev pub invariant-loop-port : goal.invariant-loop-port
invariant-loop-port l =
    map image_view l.images.items ++ images_from l.port (map port_view (drop l.port l.fn.self.ports.items))
    ≡ images_of (parts_view l.fn.self)
