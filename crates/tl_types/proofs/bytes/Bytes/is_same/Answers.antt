use Rattle.std.proofs.Common.{◌≡◌, ◌∙◌, sym, ap}
use Rattle.std.specs.Cmp.Lexicographic.{same_text, other_text}
use Rattle.std.proofs.lemmas.Bool.Decides.{Decides-eqb}
use Rattle.std.proofs.lemmas.Slice.Eq.{slice_eq-Decides}
use Rattle.tl_types.specs.Bytes.{bit_in, given_in}
use Rattle.tl_types.proofs.Given.{same_plain, same_masks}
use Rattle.tl_types.proofs.bytes.Bytes.is_same.Goals as goal

-- where the masks are the same, the plain bytes decide
pub returns-then-eq : goal.returns-then-eq
returns-then-eq c =
    let one = c.self.inside in
    let other = c.other.inside in
    let masks : one.masks ≡ other.masks = same_text one.masks other.masks (sym c.if-eq.true ∙ c.eq.ensures) in
    let told = slice_eq-Decides Decides-eqb c.as_slice.result.now c.as_slice-then-eq.result.now c.eq-then-eq.result c.eq-then-eq.ensures in (
      λ yes. let plain : one.plain.items ≡ other.plain.items =
          sym c.as_slice.ensures.value ∙ told.0 yes ∙ c.as_slice-then-eq.ensures.value in
          sym c.self.view_is ∙ ap (λ bytes. given_in (bit_in one.masks) bytes) plain
          ∙ ap (λ ms. given_in (bit_in ms) other.plain.items) masks ∙ c.other.view_is,
      λ same. told.1 (c.as_slice.ensures.value
          ∙ same_plain one.plain.items one.masks other.plain.items other.masks c.self.invariant c.other.invariant
          (c.self.view_is ∙ same ∙ sym c.other.view_is) ∙ sym c.as_slice-then-eq.ensures.value),
    )

-- where they differ, so do the bytes
pub returns-else-eq : goal.returns-else-eq
returns-else-eq c =
    let one = c.self.inside in
    let other = c.other.inside in
    let differ = other_text one.masks other.masks (sym c.if-eq.false ∙ c.eq.ensures) in (
      λ yes. absurd (cc (c.if-eq.false, yes)),
      λ same. absurd (differ
          (same_masks one.plain.items one.masks other.plain.items other.masks c.self.invariant c.other.invariant
          (c.self.view_is ∙ same ∙ sym c.other.view_is))),
    )
