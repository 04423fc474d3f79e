-- What came before lawful beats is lawful.
use Rattle.std.proofs.Common.{List, [], ◌∷◌, ◌++◌}
use Rattle.check_watch.specs.Lawful.{IsLawfulGroup}
use Rattle.check_watch.specs.Plan.{Plan, Sighting}

pub earlier_is_lawful : (plan : Plan) (later earlier : List Sighting) → IsLawfulGroup plan (later ++ earlier)
    → IsLawfulGroup plan earlier
earlier_is_lawful plan [] earlier is = is
earlier_is_lawful plan (x ∷ later) earlier is = earlier_is_lawful plan later earlier is.0
