use Rattle.std.proofs.Common.{◌≡◌, ◌∙◌, ℕ, false, ap, sym}
use Rattle.std.specs.Prelude.{slice_index_or}
use Rattle.tl_types.specs.Request.{Request}
use Rattle.check_flight.specs.Crossing.{request_bytes}
use Rattle.check_flight.proofs.Cuts.{parts_from_bytes, bytes_from_parts}
use Rattle.check_flight.proofs.Given.{given_in}
use Rattle.check_flight.proofs.crossing.are_same_bytes_sent.Goals as goal

pub returns-then-not-is_any-2 : goal.returns-then-not-is_any-2
returns-then-not-is_any-2 c =
    let sent = c.args.sent.now in
    let seen = c.args.seen.now in
    let clean : (place : ℕ) → slice_index_or sent.spoiled place false ≡ false =
    rw (← c.marks.ensures) (c.is_any.ensures c.if-not-is_any.true) in
    let unmarked : (place : ℕ) → slice_index_or seen.spoiled place false ≡ false =
    rw (← c.marks-then-not-is_any.ensures) (c.is_any-then-not-is_any.ensures c.if-not-is_any-2.true) in
    let here : c.bytes.result.now ≡ sent.ask.bytes =
    c.bytes.ensures.value ∙ ap (λ (r : Request). r.bytes) c.ask.ensures in
    let there : c.bytes-then-not-is_any-2.result.now ≡ seen.ask.bytes =
    c.bytes-then-not-is_any-2.ensures.value ∙ ap (λ (r : Request). r.bytes) c.ask-then-not-is_any-2.ensures in (
      λ yes.
          let same : sent.ask.bytes ≡ seen.ask.bytes = sym here ∙ c.is_same.ensures.0 yes ∙ there in (
            ap given_in (sym same),
            parts_from_bytes c.args.width (request_bytes sent) (request_bytes seen) clean unmarked same,
          ),
      λ both. c.is_same.ensures.1
          (here ∙ bytes_from_parts c.args.width (request_bytes sent) (request_bytes seen) clean unmarked both.1 ∙ sym there),
    )
