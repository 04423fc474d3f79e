-- There are as many owners as masters.
use Rattle.std.proofs.Common.{◌≡◌, ◌∙◌, suc, List, [], ◌∷◌, length, map, MatchOption, Option, None, Some, option_map, refl, ap}
use Rattle.std.specs.Prelude.{option_and_then}
use Rattle.std.proofs.lemmas.List.{length-map}
use Rattle.tl_map.specs.declared.owners.Owner.{Owner}
use Rattle.check_description.specs.Master.{HasOwners, IsInBlocks, Master, counts_of, master_view, owner_of, said_owners}
use Rattle.check_description.specs.declared.masters.Master as code

-- a first one and others are one more than the others
one_more : (owner : Option Owner) (more : Option (List Owner)) (said : List Owner)
    → option_and_then (λ owner. option_map (λ (owners : List Owner). owner ∷ owners) more) owner ≡ Some said
    → (rest : List Owner) × (more ≡ Some rest) × (length said ≡ suc (length rest))
one_more None more said is = absurd cc
one_more (Some owner) None said is = absurd cc
one_more (Some owner) (Some rest) said is =
    let whole : said ≡ owner ∷ rest = cc in (rest, refl, ap length whole)

said_counted : (masters : List Master) (said : List Owner) → said_owners masters ≡ Some said
    → length said ≡ length masters
said_counted [] [] is = refl
said_counted [] (owner ∷ said) is = absurd cc
said_counted (master ∷ masters) said is =
    let step = one_more (owner_of master) (said_owners masters) said is in
    step.2 ∙ ap suc (said_counted masters step.0 step.1)

owners_by : (masters : List Master) (owners : List Owner) (said : Option (List Owner)) → said_owners masters ≡ said
    → MatchOption said (IsInBlocks (counts_of masters) owners) (λ said. owners ≡ said)
    → length owners ≡ length masters
owners_by masters owners None is has =
    has.blocks.counted ∙ length-map masters (λ (master : Master). master.sources)
owners_by masters owners (Some said) is has = ap length has ∙ said_counted masters said is

-- the owners of masters are as many
pub owners_counted : (masters : List code.Master) (owners : List Owner) → HasOwners (map master_view masters) owners
    → length owners ≡ length masters
owners_counted masters owners has =
    owners_by (map master_view masters) owners (said_owners (map master_view masters)) refl has ∙ length-map masters master_view
