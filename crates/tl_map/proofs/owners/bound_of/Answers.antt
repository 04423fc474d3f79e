-- One owner more is below the bound.
use Rattle.std.proofs.Common.{◌≡◌, ◌<◌, ◌≤◌, inl, inr, ⊎_elim, Some, slice_get, get_or, arith}
use Rattle.std.proofs.lemmas.Bool.{cases_lt}
use Rattle.std.proofs.lemmas.Option.{slice_get-get_or}
use Rattle.tl_map.specs.declared.owners.Owner.{Owner}
use Rattle.tl_map.proofs.Kept.{lawful_at, bound_more, room_from}
use Rattle.tl_map.proofs.owners.bound_of.Goals as goal

abbrev nobody : Owner
nobody = record { first = 0; count = 0; stride = 0 }

pub loop-owner-preserved : goal.loop-owner-preserved
loop-owner-preserved c =
    let owners = c.args.owners.now in
    let master = c.loop-owner.owner-index in
    let owner = get_or owners master nobody in
    let at : slice_get owners master ≡ Some owner = slice_get-get_or owners master nobody c.loop-owner-test.true in
    let next = c.max-bound.result in
    let is = c.max-bound.ensures in
    let end = c.end.ensures in
    bound_more owners master c.loop-owner.bound next owner at (lawful_at owners master owner c.requires at) c.loop-owner.invariant
    (omega (arith, is)) (omega (arith, is, end))
    (⊎_elim
    (λ (less : c.loop-owner.bound < c.end.result). inr (omega (arith, is, end, less)))
    (λ (more : c.end.result ≤ c.loop-owner.bound). inl (omega (arith, is, more)))
    (cases_lt c.loop-owner.bound c.end.result))

pub returns-clause-room : goal.returns-clause-room
returns-clause-room c =
    let test = c.loop-owner-test.false in
    let end = c.loop-owner.auto.owner-index-end in
    room_from c.args.owners.now c.loop-owner.owner-index c.loop-owner.bound (omega (arith, test, end)) c.loop-owner.invariant
