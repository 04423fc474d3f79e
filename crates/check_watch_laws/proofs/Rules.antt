-- Lawful beats keep the rules at each moment.
use Rattle.std.proofs.Common.{List, [], ◌∷◌, ◌++◌, sym, subst}
use Rattle.check_watch.specs.Lawful.{IsLawfulGroup}
use Rattle.check_watch.specs.Plan.{Plan, IsPlan, Layout, Sighting}
use Rattle.check_watch.proofs.Earlier.{earlier_is_lawful}
use Rattle.check_watch_laws.specs.Crossed.{AreWatched}
use Rattle.check_watch_laws.specs.Rules.{KeepsRules, AlwaysKeepsRules}
use Rattle.check_watch_laws.proofs.Crossing.{crossing}
use Rattle.check_watch_laws.proofs.Sequential.{done_at, due_at}
use Rattle.check_watch_laws.proofs.Turned.{messages}

earlier_watched : (layout : Layout) (later earlier : List Sighting) → AreWatched layout (later ++ earlier)
    → AreWatched layout earlier
earlier_watched layout [] earlier are = are
earlier_watched layout (x ∷ later) earlier are = earlier_watched layout later earlier are.1

keeps : (plan : Plan) (past : List Sighting) → IsPlan plan → AreWatched plan.layout past → IsLawfulGroup plan past
    → KeepsRules plan past
keeps plan past is watched lawful = record {
  messages = messages plan past watched lawful;
  memories = done_at plan past watched lawful;
  any_orders = λ port any. due_at plan past watched lawful port;
  crossings = λ both wide. crossing plan past is both watched lawful wide;
}

pub always_keeps : (plan : Plan) (past : List Sighting) → IsPlan plan → AreWatched plan.layout past → IsLawfulGroup plan past
    → AlwaysKeepsRules plan past
always_keeps plan past is watched lawful later earlier so =
    keeps plan earlier is (earlier_watched plan.layout later earlier
    (subst (λ l. AreWatched plan.layout l) (sym so) watched))
    (earlier_is_lawful plan later earlier (subst (λ l. IsLawfulGroup plan l) (sym so) lawful))
