use Rattle.std.proofs.Common.{◌≡◌, ◌∙◌, ℕ, ◌-◌, ◌^◌, ◌++◌, false, List, length, take, replicate, Option, None, ap, sym, arith}
use Rattle.std.specs.Int.{bit_at}
use Rattle.std.proofs.lemmas.List.{take-replicate, length-replicate}
use Rattle.tl_types.specs.Bytes.{given_in}
use Rattle.check_cells.specs.Known.{known}
use Rattle.check_beats.specs.Message.{given_at, seen_by}
use Rattle.check_beats.proofs.Given.{length-given_at}
use Rattle.check_beats.proofs.Seen.{given_all, zeros_seen, nothing_given}
use Rattle.check_beats.proofs.reply.push_seen.Goals as goal

pub returns-then-beat : goal.returns-then-beat
returns-then-beat c =
    let lanes = c.args.lanes.now in
    let beat = c.args.beat.now in
    let n = length lanes in
    let given = given_at c.args.known lanes 0 n in
    let zeros : given_in (bit_at (2 ^ 64 - 1)) (take n (replicate 64 0)) ≡ known (replicate n 0) =
    ap (given_in (bit_at (2 ^ 64 - 1))) (take-replicate n 64 0 c.requires.in_limit) ∙ zeros_seen n c.requires.in_limit in
    c.append.ensures
    ∙ ap (λ (s : List (Option ℕ)). c.args.cells.now ++ s)
    (zeros ∙ ap (λ m. known (replicate m 0)) (sym (length-given_at c.args.known lanes 0 n))
    ∙ ap (λ denied. seen_by denied beat.corrupt given) (sym c.if-beat.true))

none_set : (k : ℕ) → bit_at 0 k ≡ 0
none_set k = search arith

pub returns-then-beat-2 : goal.returns-then-beat-2
returns-then-beat-2 c =
    let lanes = c.args.lanes.now in
    let beat = c.args.beat.now in
    let n = length lanes in
    let given = given_at c.args.known lanes 0 n in
    let nothing : given_in (bit_at 0) (take n (replicate 64 0)) ≡ replicate n None =
    ap (given_in (bit_at 0)) (take-replicate n 64 0 c.requires.in_limit) ∙ nothing_given (bit_at 0) (replicate n 0) none_set
    ∙ ap (λ m. replicate m None) (length-replicate n 0) in
    c.append-then-beat-2.ensures
    ∙ ap (λ (s : List (Option ℕ)). c.args.cells.now ++ s)
    (nothing ∙ ap (λ m. replicate m None) (sym (length-given_at c.args.known lanes 0 n))
    ∙ ap (λ corrupt. seen_by false corrupt given) (sym c.if-beat-2.true)
    ∙ ap (λ denied. seen_by denied beat.corrupt given) (sym c.if-beat.false))

pub returns-else-beat-2 : goal.returns-else-beat-2
returns-else-beat-2 c =
    let lanes = c.args.lanes.now in
    let beat = c.args.beat.now in
    let given = given_at c.args.known lanes 0 (length lanes) in
    c.append-else-beat-2.ensures
    ∙ ap (λ (s : List (Option ℕ)). c.args.cells.now ++ s)
    (given_all c.args.known lanes ∙ ap (λ corrupt. seen_by false corrupt given) (sym c.if-beat-2.false)
    ∙ ap (λ denied. seen_by denied beat.corrupt given) (sym c.if-beat.false))
