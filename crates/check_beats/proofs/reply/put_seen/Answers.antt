use Rattle.std.proofs.Common.{◌≡◌, ◌∙◌, false, length, replicate, Some, None, ap, sym}
use Rattle.check_cells.proofs.Lanes.{known_zeros}
use Rattle.check_beats.specs.Message.{given_at, seen_by}
use Rattle.check_beats.proofs.Given.{length-given_at}
use Rattle.check_beats.proofs.Seen.{given_window}
use Rattle.check_beats.proofs.reply.put_seen.Goals as goal

pub returns-then-beat : goal.returns-then-beat
returns-then-beat c =
    let lanes = c.args.lanes.now in
    let beat = c.args.beat.now in
    let given = given_at c.args.known lanes c.args.first c.args.count in
    let long : c.args.count ≡ length given = sym (length-given_at c.args.known lanes c.args.first c.args.count) in
    c.fill.ensures ∙ ap (λ n. replicate n (Some 0)) long ∙ known_zeros (length given)
    ∙ ap (λ denied. seen_by denied beat.corrupt given) (sym c.if-beat.true)

pub returns-then-beat-2 : goal.returns-then-beat-2
returns-then-beat-2 c =
    let lanes = c.args.lanes.now in
    let beat = c.args.beat.now in
    let given = given_at c.args.known lanes c.args.first c.args.count in
    let long : c.args.count ≡ length given = sym (length-given_at c.args.known lanes c.args.first c.args.count) in
    c.fill-then-beat-2.ensures ∙ ap (λ n. replicate n None) long
    ∙ ap (λ corrupt. seen_by false corrupt given) (sym c.if-beat-2.true)
    ∙ ap (λ denied. seen_by denied beat.corrupt given) (sym c.if-beat.false)

pub returns-else-beat-2 : goal.returns-else-beat-2
returns-else-beat-2 c =
    let lanes = c.args.lanes.now in
    let beat = c.args.beat.now in
    let given = given_at c.args.known lanes c.args.first c.args.count in
    c.refill_part.ensures ∙ given_window c.args.known lanes c.args.first c.args.count c.requires.inside
    ∙ ap (λ corrupt. seen_by false corrupt given) (sym c.if-beat-2.false)
    ∙ ap (λ denied. seen_by denied beat.corrupt given) (sym c.if-beat.false)
