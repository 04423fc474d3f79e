-- The model of a draft, and why no image is too long.
use Rattle.std.proofs.Common.{◌≡◌, ◌∙◌, ◌≤◌, ℕ, List, length, map, slice_get, Some, ap, subst, sym}
use Rattle.check_description.specs.Description.{Makes}
use Rattle.check_description.specs.File.{Parts}
use Rattle.check_description.specs.Port.{Port}
use Rattle.check_description.specs.Ranges.{first_length}
use Rattle.check_start.specs.Slaves.{image_at}
use Rattle.check_model.specs.Model.{at_reset}
use Rattle.tl_c.specs.Draft.{image_bytes}
use Rattle.tl_c.proofs.model.make_model.Goals as goal

pub new-requires : goal.new-requires
new-requires c number said there =
    let draft = c.args.draft.now in
    let images : map (λ image. image.items) c.deref.result.now ≡ image_bytes draft.images =
    ap (map (λ image. image.items)) c.deref.ensures.value ∙ c.in_ok-parts.ensures.images in
    let ports : c.in_ok-system.system.ports ≡ draft.parts.ports =
    c.in_ok-system.ensures.made.ports ∙ ap (λ (p : Parts). p.ports) c.in_ok-parts.ensures.parts in
    subst (λ (l : List (List ℕ)). length (image_at l number) ≤ first_length said.ranges) (sym images)
    (c.copy_parts.ensures.lawful.fits number said (subst (λ (l : List Port). slice_get l number ≡ Some said) ports there))

pub returns-clause-ok : goal.returns-clause-ok
returns-clause-ok c =
    let system = c.in_ok-system.system in
    let images : map (λ image. image.items) c.deref.result.now ≡ image_bytes c.args.draft.now.images =
    ap (map (λ image. image.items)) c.deref.ensures.value ∙ c.in_ok-parts.ensures.images in
    record {
      whole = c.requires;
      system = system;
      made = subst (λ (p : Parts). Makes p system) c.in_ok-parts.ensures.parts c.in_ok-system.ensures.made;
      is = c.in_ok-crossbar.ensures ∙ ap (at_reset system) images;
    }
