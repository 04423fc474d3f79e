-- One source more is marked, or the first that is an earlier master's is found.
use Rattle.std.proofs.Common.{◌≡◌, ◌∙◌, ◌<◌, ◌+◌, ◌*◌, ℕ, List, length, Some, None, slice_get, get_or, refl, ap, arith}
use Rattle.std.proofs.lemmas.List.{length-set}
use Rattle.std.proofs.lemmas.Option.{slice_get-get_or}
use Rattle.tl_map.specs.Owner.{Widens}
use Rattle.tl_map.specs.Owners.{IsLawfulOwner}
use Rattle.tl_map.specs.Marks.{HasRoomFor}
use Rattle.tl_map.specs.declared.owners.Owner.{Owner}
use Rattle.tl_map.proofs.Marking.{of_owner, no_mark, is_shared, one_marked, one_apart, all_marked, apart_next}
use Rattle.tl_map.proofs.Kept.{lawful_at, owned_at}
use Rattle.tl_map.proofs.owners.mark_master.Goals as goal

-- what stands for an owner that is not there
abbrev nobody : Owner
nobody = record { first = 0; count = 0; stride = 0 }

mark_within : (owners : List Owner) (master source marks : ℕ) → master < length owners → HasRoomFor owners marks
    → source < (get_or owners master nobody).count
    → (get_or owners master nobody).first + (get_or owners master nobody).stride * source < marks
mark_within owners master source marks within room has =
    let owner = get_or owners master nobody in
    let at : slice_get owners master ≡ Some owner = slice_get-get_or owners master nobody within in
    room.above (owner.first + owner.stride * source)
    (owned_at owners master source (owner.first + owner.stride * source)
    (of_owner owners master source (owner.first + owner.stride * source) owner at (record { has = has; at = refl })))

pub bounds : goal.bounds
bounds c =
    rw c.loop-source.invariant.counted
    (mark_within c.args.owners.now c.args.master c.loop-source.source (length c.args.marks.now) c.requires.within c.requires.room c.loop-source-test.true)

pub bounds-marks-wide-in-loop-source : goal.bounds-marks-wide-in-loop-source
bounds-marks-wide-in-loop-source c =
    rw c.loop-source.invariant.counted
    (mark_within c.args.owners.now c.args.master c.loop-source.source (length c.args.marks.now) c.requires.within c.requires.room c.loop-source-test.true)

pub returns-in-Some-clause-shared : goal.returns-in-Some-clause-shared
returns-in-Some-clause-shared c =
    let owners = c.args.owners.now in
    let master = c.args.master in
    let owner = get_or owners master nobody in
    let source = c.loop-source.source in
    let wide = owner.first + owner.stride * source in
    let marks = c.loop-source.marks in
    let at : slice_get owners master ≡ Some owner = slice_get-get_or owners master nobody c.requires.within in
    let within : wide < length marks = rw c.loop-source.invariant.counted
    (mark_within owners master source (length c.args.marks.now) c.requires.within c.requires.room c.loop-source-test.true) in
    let found : slice_get marks wide ≡ Some (Some c.in-Some.other) =
    slice_get-get_or marks wide None within ∙ ap (λ m. Some m) c.in-Some.is in
    is_shared owners master owner at (lawful_at owners master owner c.requires.lawful at) source wide
    (record { has = c.loop-source-test.true; at = refl }) marks c.loop-source.invariant.marked c.in-Some.other found c.loop-source.invariant.none

pub loop-source-preserved : goal.loop-source-preserved
loop-source-preserved c =
    let owners = c.args.owners.now in
    let master = c.args.master in
    let owner = get_or owners master nobody in
    let source = c.loop-source.source in
    let wide = owner.first + owner.stride * source in
    let marks = c.loop-source.marks in
    let at : slice_get owners master ≡ Some owner = slice_get-get_or owners master nobody c.requires.within in
    let lawful : IsLawfulOwner owner = lawful_at owners master owner c.requires.lawful at in
    let within : wide < length marks = rw c.loop-source.invariant.counted
    (mark_within owners master source (length c.args.marks.now) c.requires.within c.requires.room c.loop-source-test.true) in
    let widens : Widens owner source wide = record { has = c.loop-source-test.true; at = refl } in
    let free : slice_get marks wide ≡ Some None = no_mark marks wide within c.in_default.not-Some in
    record {
      counted = length-set marks wide (Some master) ∙ c.loop-source.invariant.counted;
      marked = one_marked owners master owner at lawful source wide widens marks c.loop-source.invariant.marked within free;
      none = one_apart owners master owner at lawful source wide widens marks c.loop-source.invariant.marked free c.loop-source.invariant.none;
    }

pub returns-clause-marked : goal.returns-clause-marked
returns-clause-marked c =
    let owners = c.args.owners.now in
    let master = c.args.master in
    let owner = get_or owners master nobody in
    let at : slice_get owners master ≡ Some owner = slice_get-get_or owners master nobody c.requires.within in
    let last : c.loop-source.source ≡ owner.count = let test = c.loop-source-test.false in let end = c.loop-source.auto.source-end in omega (arith, test, end) in
    all_marked owners master owner at (lawful_at owners master owner c.requires.lawful at) c.loop-source.marks
    (rw (← last) c.loop-source.invariant.marked)

pub returns-clause-apart : goal.returns-clause-apart
returns-clause-apart c =
    let owners = c.args.owners.now in
    let master = c.args.master in
    let owner = get_or owners master nobody in
    let at : slice_get owners master ≡ Some owner = slice_get-get_or owners master nobody c.requires.within in
    let last : c.loop-source.source ≡ owner.count = let test = c.loop-source-test.false in let end = c.loop-source.auto.source-end in omega (arith, test, end) in
    apart_next owners master owner at (lawful_at owners master owner c.requires.lawful at)
    (rw (← last) c.loop-source.invariant.none)
