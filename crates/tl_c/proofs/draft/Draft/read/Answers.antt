-- What a file names is a draft, before any image is handed in.
use Rattle.std.proofs.Common.{◌≡◌, ◌∙◌, List, None, Option, ℕ, ap, arith, length, replicate, subst, sym}
use Rattle.std.proofs.lemmas.List.{length-map}
use Rattle.check_description.specs.Port.{port_view}
use Rattle.check_description.specs.File.{parts_view}
use Rattle.check_description.specs.Name.{NamesParts}
use Rattle.tl_c.specs.Draft.{IsDraft, slots_of}
use Rattle.tl_c.proofs.Drafts.{fresh_is_draft}
use Rattle.tl_c.proofs.draft.Draft.read.Goals as goal

pub invariant_of-result : goal.invariant_of-result
invariant_of-result c =
    let parts = parts_view c.in_ok-parts.parts in
    let long = length-map c.in_ok-parts.parts.ports.items port_view in
    let count : c.len.result ≡ length parts.ports = omega (arith, long, c.len.ensures) in
    let bare : slots_of c.in_ok-images.images.items ≡ replicate (length parts.ports) None =
    c.in_ok-images.ensures ∙ ap (λ n. replicate n None) count in
    let P : List (Option (List ℕ)) → Type 0 = λ l. IsDraft (record {
      file = c.in_ok-file.file.items;
      parts = parts;
      images = l;
    }) in
    let named : NamesParts c.in_ok-file.file.items parts =
    subst (λ (f : List ℕ). NamesParts f parts) (sym c.in_ok-file.ensures.items) c.in_ok-parts.ensures.named in
    subst P (sym bare) (fresh_is_draft c.in_ok-file.file.items parts named)
