use Rattle.std.proofs.Common.{◌≡◌, ◌∙◌, ◌↔◌, ℕ, false, length, ap, sym, subst, arith}
use Rattle.std.specs.Prelude.{IsTrue, slice_index_or}
use Rattle.check_flight.specs.Crossing.{MessageBytes, AreSameParts}
use Rattle.check_flight.proofs.Cuts.{parts_from_bytes, bytes_from_parts}
use Rattle.check_flight.proofs.crossing.are_same_parts.Goals as goal

pub returns-then-not-is_any-2 : goal.returns-then-not-is_any-2
returns-then-not-is_any-2 c =
    let given : MessageBytes = record { bytes = c.given.inside.cells.now; spoiled = c.given.inside.marks.now } in
    let captured : MessageBytes = record { bytes = c.captured.inside.cells.now; spoiled = c.captured.inside.marks.now } in
    let clean : (place : ℕ) → slice_index_or given.spoiled place false ≡ false = c.is_any.ensures c.if-not-is_any.true in
    let unmarked : (place : ℕ) → slice_index_or captured.spoiled place false ≡ false =
    c.is_any-then-not-is_any.ensures c.if-not-is_any-2.true in
    let r = c.are_same_bytes.result in
    subst (λ (g : MessageBytes). IsTrue r ↔ AreSameParts c.args.width g c.args.captured.now) c.given.view_is
    (subst (λ (k : MessageBytes). IsTrue r ↔ AreSameParts c.args.width given k) c.captured.view_is (
      λ yes. parts_from_bytes c.args.width given captured clean unmarked (c.are_same_bytes.ensures.0 yes),
      λ same. c.are_same_bytes.ensures.1 (bytes_from_parts c.args.width given captured clean unmarked same),
    ))

pub returns-then-len : goal.returns-then-len
returns-then-len c =
    let paired : length c.captured.inside.cells.now ≡ length c.given.inside.cells.now =
    omega (arith, c.if-len.true, c.len.ensures.value, c.len-2.ensures.value) in (
      λ yes. record {
        counted = ap (λ (p : MessageBytes). length p.bytes) (sym c.captured.view_is) ∙ paired
            ∙ ap (λ (p : MessageBytes). length p.bytes) c.given.view_is;
        each = c.are_same_cuts.ensures.0 yes;
      },
      λ same. c.are_same_cuts.ensures.1 same.each,
    )
