-- Lawful beats keep the rules in each group, and the way back.
use Rattle.std.proofs.Common.{true, false, List, refl}
use Rattle.check_watch.specs.declared.beat.Link.TheVariants.{Master, Port}
use Rattle.check_watch.specs.Plan.{Sighting}
use Rattle.check_watch_laws.specs.Rules as group
use Rattle.check_watch_laws.proofs.Back as group_back
use Rattle.check_watch_laws.proofs.Rules as group_rules
use Rattle.check_watch_laws.proofs.Whole as group_whole
use Rattle.check_sides.specs.Groups.{shared_past, port_plan, port_past}
use Rattle.check_sides.specs.Lawful.{IsLawful}
use Rattle.check_sides.specs.Plan.{Plan, IsPlan}
use Rattle.check_sides.proofs.Grouping.{in_group}
use Rattle.check_text_laws.specs.Groups.{EachGroupKeepsRules, AreAllCompliant, AreAllWatched}
use Rattle.check_text_laws.proofs.Parts.{by_group, port_part, shared_part, together}
use Rattle.check_text_laws.proofs.Watched.{port_is_plan, port_watched, shared_watched}

pub always_keeps : (plan : Plan) (past : List Sighting) → IsPlan plan → AreAllWatched plan.layout past → IsLawful plan past
    → EachGroupKeepsRules plan past
always_keeps plan past is watched lawful =
    by_group plan past (λ p l. group.AlwaysKeepsRules p l)
    (group_rules.always_keeps plan (shared_past plan.layout past) is (shared_watched plan past watched)
    (shared_part plan past lawful))
    (λ port alone. group_rules.always_keeps (port_plan plan) (port_past port past) (port_is_plan plan is)
    (port_watched plan port past watched) (port_part plan port alone past lawful))

pub all_compliant : (plan : Plan) (past : List Sighting) → IsLawful plan past → AreAllCompliant plan past
all_compliant plan past lawful =
    by_group plan past (λ p l. group.AreCompliant p l)
    (group_whole.all_compliant plan (shared_past plan.layout past) (shared_part plan past lawful))
    (λ port alone. group_whole.all_compliant (port_plan plan) (port_past port past) (port_part plan port alone past lawful))

pub rules_make_lawful : (plan : Plan) (past : List Sighting) → IsPlan plan → AreAllWatched plan.layout past
    → AreAllCompliant plan past → EachGroupKeepsRules plan past → IsLawful plan past
rules_make_lawful plan past is watched seen always =
    together plan past (record {
      shared = group_back.rules_make_lawful plan (shared_past plan.layout past)
          is (shared_watched plan past watched)
          (in_group plan past (Master 0) (λ p l. group.AreCompliant p l) false
          refl (seen (Master 0)))
          (in_group plan past (Master 0) (λ p l. group.AlwaysKeepsRules p l) false
          refl (always (Master 0)));
      ports = λ port alone. group_back.rules_make_lawful (port_plan plan) (port_past port past) (port_is_plan plan is)
          (port_watched plan port past watched)
          (in_group plan past (Port port) (λ p l. group.AreCompliant p l) true
          alone (seen (Port port)))
          (in_group plan past (Port port) (λ p l. group.AlwaysKeepsRules p l) true
          alone (always (Port port)));
    })
