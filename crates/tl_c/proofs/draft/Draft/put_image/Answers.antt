-- The draft with one image more.
use Rattle.std.proofs.Common.{◌≡◌, ◌∙◌, ℕ, List, None, Option, ap, subst, sym}
use Rattle.check_description.specs.File.{parts_view}
use Rattle.tl_c.specs.Draft.{DraftView, IsDraft, image_fault, slots_of, with_image}
use Rattle.tl_c.proofs.Drafts.{put_is_draft, slots_set}
use Rattle.tl_c.proofs.draft.Draft.put_image.Goals as goal

pub invariant_of-self : goal.invariant_of-self
invariant_of-self c =
    let draft : DraftView =
    record {
      file = c.self.inside.file.items;
      parts = parts_view c.self.inside.parts;
      images = slots_of c.self.inside.images.items;
    } in
    let same : draft ≡ c.args.self.now = c.self.view_is in
    let none : image_fault draft c.args.port c.in-Ok.bytes.items ≡ None =
    ap (λ (d : DraftView). image_fault d c.args.port c.in-Ok.bytes.items) same
    ∙ ap (λ (b : List ℕ). image_fault c.args.self.now c.args.port b) c.in-Ok.ensures.items
    ∙ sym c.image_fault.ensures ∙ c.in_default.is in
    let P : List (Option (List ℕ)) → Type 0 = λ l. IsDraft (record draft { images = l }) in
    subst P (sym (slots_set c.self.inside.images.items c.args.port c.in-Ok.bytes))
    (put_is_draft draft c.args.port c.in-Ok.bytes.items c.self.invariant none)

pub returns-clause-ok : goal.returns-clause-ok
returns-clause-ok c =
    let draft : DraftView =
    record {
      file = c.self.inside.file.items;
      parts = parts_view c.self.inside.parts;
      images = slots_of c.self.inside.images.items;
    } in
    ap (λ (l : List (Option (List ℕ))). record draft { images = l })
    (slots_set c.self.inside.images.items c.args.port c.in-Ok.bytes)
    ∙ ap (λ (b : List ℕ). with_image draft c.args.port b) c.in-Ok.ensures.items
    ∙ ap (λ (d : DraftView). with_image d c.args.port c.args.bytes.now) c.self.view_is
