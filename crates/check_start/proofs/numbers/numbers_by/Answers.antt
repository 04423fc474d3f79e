-- All ports.
use Rattle.std.proofs.Common.{◌∙◌, Bool, List, Option, Vec, ap, map, option_map}
use Rattle.std.specs.Global.{Global}
use Rattle.std.proofs.lemmas.Iterator.{YieldsList-from_slice, YieldsList-from_zip}
use Rattle.std.proofs.lemmas.Iterator.Consumers.{YieldsList-end}
use Rattle.check_description.specs.declared.placed.PlacedMaster.{PlacedMaster}
use Rattle.check_start.specs.Numbers.{numbers_there}
use Rattle.check_start.proofs.Numbering.{zip_mapped}
use Rattle.check_start.proofs.numbers.numbers_by.Goals as goal

pub returns : goal.returns
returns c =
    let lists = c.args.parts.now.lists.items in
    let items : Option (Vec PlacedMaster Global) → Option (List PlacedMaster) = option_map (λ placed. placed.items) in
    let all = YieldsList-end (YieldsList-from_zip (YieldsList-from_slice c.args.apart.now cc) (YieldsList-from_slice lists cc))
    c.loop-apart.yielded c.loop-apart.apart-iterator c.loop-apart.yielded_by c.next.result c.next.new.self c.in-None.is
    c.next.ensures.steps in
    let there = numbers_there c.args.links c.args.parts.now.sources c.args.parts.now.nobody in
    c.loop-apart.invariant
    ∙ ap (λ (l : List (Bool × Option (Vec PlacedMaster Global))). map there (map (λ (q : Bool × Option (Vec PlacedMaster Global)). (q.0, items q.1)) l)) all.0
    ∙ ap (map there) (zip_mapped items c.args.apart.now lists)
