-- The list of a port among those of all ports, and what is free for it.
use Rattle.std.proofs.Common.{◌≡◌, ◌≢◌, ◌∙◌, arith, ℕ, ◌<◌, ◌≤◌, Bool, true, List, length, map, Option, None, Some, option_map, is_some, unwrap_or, IfNone, IfSome, slice_get, slice_index_or, Vec, ap, subst, sym}
use Rattle.std.specs.Global.{Global}
use Rattle.std.proofs.lemmas.List.{length-map}
use Rattle.std.proofs.lemmas.Option.{slice_get-get_or, slice_get-map, slice_get_within}
use Rattle.tl_map.specs.declared.owners.Owner.{Owner}
use Rattle.tl_map.specs.declared.owners.SourceOwnerFault.{SourceOwnerFault}
use Rattle.tl_map.specs.declared.owners.SourceOwnerFault.TheVariants.{TooMany, Shared, Memory}
use Rattle.check_keys.specs.declared.fault.SystemFault.{SystemFault}
use Rattle.check_keys.specs.declared.fault.SystemFault.TheVariants.{Memory as WithoutMemory}
use Rattle.check_description.specs.Apart.{AreApart, AreApartAt, IsFreeFor, IsNobodys, IsOfLists, fault_at}
use Rattle.check_description.specs.declared.placed.PlacedMaster.{PlacedMaster}

-- what contracts see of a list
abbrev pub shown : Option (Vec PlacedMaster Global) → Option (List PlacedMaster)
shown list = option_map (λ (placed : Vec PlacedMaster Global). placed.items) list

pub list_at : (lists : List (Option (Vec PlacedMaster Global))) (port : ℕ) (list : Option (Vec PlacedMaster Global))
    → port < length lists → list ≡ slice_index_or lists port list → slice_get (map shown lists) port ≡ Some (shown list)
list_at lists port list within is =
    slice_get-map shown lists port ∙ ap (option_map shown) (slice_get-get_or lists port list within ∙ ap Some (sym is))

-- a port that lists none has no list
pub none_at : (counts : List ℕ) (owners : List Owner) (lists : List (Option (List PlacedMaster))) (port : ℕ)
    → slice_get lists port ≡ Some None → AreApartAt counts owners lists port
none_at counts owners lists port none placed is = absurd cc

-- the list of a port is the one that is at hand
pub some_at : (counts : List ℕ) (owners : List Owner) (lists : List (Option (List PlacedMaster))) (port : ℕ)
    (here : List PlacedMaster) → slice_get lists port ≡ Some (Some here) → AreApart counts owners here
    → AreApartAt counts owners lists port
some_at counts owners lists port here at apart placed is =
    let same : here ≡ placed = cc in subst (λ list. AreApart counts owners list) same apart

-- all lists that there are were looked at
pub all_at : (counts : List ℕ) (owners : List Owner) (lists : List (Option (Vec PlacedMaster Global))) (end : ℕ)
    → length lists ≤ end → ((other : ℕ) → other < end → AreApartAt counts owners (map shown lists) other)
    → (port : ℕ) → AreApartAt counts owners (map shown lists) port
all_at counts owners lists end long all port placed at =
    let within = slice_get_within (map shown lists) port (Some placed) at in
    all port (omega (arith, within, length-map lists shown, long)) placed at

-- one is free, if one was found
pub some_free : (owners : List Owner) (free : Option ℕ) → is_some free ≡ true → IfSome free (IsNobodys owners)
    → (wide : ℕ) × IsNobodys owners wide
some_free owners None found is = absurd cc
some_free owners (Some wide) found is = (wide, is)

-- none is free, if none was found
pub none_free : (owners : List Owner) (free : Option ℕ) (none : Bool) → is_some free ≡ none → (none ≡ true → ⊥)
    → IfNone free ((wide : ℕ) → IsNobodys owners wide → ⊥) → (wide : ℕ) → IsNobodys owners wide → ⊥
none_free owners None none is lost never = never
none_free owners (Some wide) none is lost never = absurd (lost (sym is))

-- the one that was found is free for all lists
pub free_for : (counts : List ℕ) (owners : List Owner) (lists : List (Option (List PlacedMaster))) (free : Option ℕ)
    → IfSome free (IsNobodys owners) → IfNone free ((wide : ℕ) → IsNobodys owners wide → ⊥)
    → ((port : ℕ) → AreApartAt counts owners lists port) → IsFreeFor owners lists (unwrap_or free 0)
free_for counts owners lists (Some wide) is none all port placed at = is
free_for counts owners lists None is none all port placed at =
    let some = (all port placed at).free in absurd (none some.0 some.1)

-- a fault of a list is one of the list of its port
pub of_list : (P : ℕ → SourceOwnerFault → Type 0) (port : ℕ) (fault : SourceOwnerFault) (told : SystemFault)
    → told ≡ fault_at port fault → (fault ≢ Memory → P port fault) → told ≢ WithoutMemory → IsOfLists P told
of_list P port TooMany told is here known = subst (IsOfLists P) (sym is) (here (λ same. absurd cc))
of_list P port (Shared one other wide) told is here known = subst (IsOfLists P) (sym is) (here (λ same. absurd cc))
of_list P port Memory told is here known = absurd (known is)
