use Rattle.std.proofs.Common.{◌≡◌, ◌∙◌, ℕ, ◌++◌, List, length, take, replicate, ap, sym}
use Rattle.std.proofs.lemmas.List.{take-replicate, length-replicate}
use Rattle.check_beats.specs.Message.{given_at}
use Rattle.check_beats.proofs.Given.{shown_corrupt}
use Rattle.check_beats.proofs.lanes.push_shown.Goals as goal

pub returns-then-beat : goal.returns-then-beat
returns-then-beat c =
    let lanes = c.args.lanes.now in
    let beat = c.args.beat.now in
    let n = length lanes in
    let zeros : take n (replicate 64 0) ≡ replicate n 0 = take-replicate n 64 0 c.requires.in_limit in
    c.push_beat.ensures ∙ ap (λ (l : List ℕ). c.args.bytes.now ++ given_at beat.mask l 0 (length l)) zeros
    ∙ ap (λ m. c.args.bytes.now ++ given_at beat.mask (replicate n 0) 0 m) (length-replicate n 0)
    ∙ ap (λ (l : List ℕ). c.args.bytes.now ++ given_at beat.mask l 0 n) (sym (shown_corrupt n beat lanes c.if-beat.true))
