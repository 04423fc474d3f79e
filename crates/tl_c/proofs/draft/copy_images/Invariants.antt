-- The bytes of the images so far.
use Rattle.std.proofs.Common.{◌≡◌, map, take}
use Rattle.tl_c.specs.Draft.{image_bytes, slots_of}
use Rattle.tl_c.proofs.draft.copy_images.Given as goal

abbrev pub invariant-loop-image : goal.invariant-loop-image
invariant-loop-image l = map (λ image. image.items) l.made.items ≡ image_bytes (slots_of (take l.image-index l.images))
