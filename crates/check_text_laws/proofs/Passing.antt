-- The order `any` let nothing pass where no line tells of a contested request.
use Rattle.std.proofs.Common.{◌≡◌, ◌∙◌, ◌++◌, ⊎_elim, ℕ, List, ap, sym, subst}
use Rattle.tl_map.specs.Map.{IsLawfulAddressMap}
use Rattle.check_memory.specs.declared.slave.Slave.{Slave}
use Rattle.check_flight.specs.PortSlave.{PortSlave}
use Rattle.check_flight.specs.declared.order.Order.TheVariants.{Any}
use Rattle.check_watch.specs.Lawful.{IsLawfulGroup as IsGroupLawful}
use Rattle.check_watch.specs.Plan.{IsPlan, Layout, Plan, Sighting}
use Rattle.check_watch_laws.specs.Crossed.{AreWatched as AreGroupWatched}
use Rattle.check_watch_laws.specs.Memories.{reset_of}
use Rattle.check_watch_laws.specs.Moments.{moments}
use Rattle.check_watch_laws.specs.Whenever.{AreFresh}
use Rattle.check_order_laws.specs.Looser.{IsLooser}
use Rattle.check_order_laws.specs.Open.{AreApart, NothingIsContested}
use Rattle.check_order_laws.proofs.Tightening.{uncontested_is_tight}
use Rattle.check_sides.specs.Groups.{shared_past}
use Rattle.check_sides.specs.Lawful.{IsLawful}
use Rattle.check_rows.specs.Row.{SeenRow, beats_of}
use Rattle.check_coverage.specs.Bins.{bins}
use Rattle.check_bins.specs.Text.{TellsCoverage}
use Rattle.check_bins.specs.declared.bin.Bin.{Bin}
use Rattle.check_text_laws.specs.Sums.{DifferUntold}
use Rattle.check_text_laws.proofs.Rows.{shared_part}
use Rattle.check_text_laws.proofs.Uncontested.{nothing_is_contested}

-- ---- two systems of which one is looser

module _ (loose strict : Plan) (looser : IsLooser loose strict) where
  same_kept : (port : ℕ) → (reset_of loose port).kept ≡ (reset_of strict port).kept
  same_kept port = ⊎_elim
      (λ (is : reset_of loose port ≡ reset_of strict port). ap (λ (s : PortSlave). s.kept) is)
      (λ (is : reset_of loose port ≡ record (reset_of strict port) { order = Any }). ap (λ (s : PortSlave). s.kept) is)
      (looser.slaves port)

  same_moments : (port : ℕ) (past : List Sighting) → moments loose port past ≡ moments strict port past
  same_moments port past = ap (λ (p : Plan). moments p port past) looser.same

  strict_uncontested : (port : ℕ) (past : List Sighting) → NothingIsContested loose port past
      → NothingIsContested strict port past
  strict_uncontested port past none before later is =
      subst (λ (slave : Slave). AreApart slave before) (same_kept port)
      (none before later (is ∙ sym (same_moments port past)))

  strict_plan : IsPlan loose → IsPlan strict
  strict_plan is =
      let there : IsPlan (record strict { resets = loose.resets }) = subst IsPlan looser.same is in
      record { owners = there.owners; wide = there.wide; decode = there.decode }

  strict_watched : (past : List Sighting) → AreGroupWatched loose.layout past → AreGroupWatched strict.layout past
  strict_watched past watched =
      subst (λ (layout : Layout). AreGroupWatched layout past) (ap (λ (p : Plan). p.layout) looser.same) watched

pub nothing_passed : (loose : Plan) (strict : Plan) (rows : List SeenRow) (later earlier : List Bin) (ports : ℕ)
    (old new : List ℕ) → IsPlan loose
    → IsLawfulAddressMap loose.layout.ports
    → AreGroupWatched loose.layout (shared_past loose.layout (beats_of rows))
    → IsLawful loose (beats_of rows)
    → (tells : TellsCoverage ports (later ++ (bins loose rows ++ earlier)) old new) → IsLooser loose strict → AreFresh strict
    → DifferUntold loose strict tells.entries
    → IsGroupLawful strict (shared_past loose.layout (beats_of rows))
nothing_passed loose strict rows later earlier ports old new is_plan map watched lawful tells looser fresh differ =
    let past = shared_past loose.layout (beats_of rows) in
    uncontested_is_tight loose strict past looser
    (strict_plan loose strict looser is_plan) fresh
    (strict_watched loose strict looser past watched)
    (λ port other. let differs = differ port other in (
      differs.0,
      strict_uncontested loose strict looser port past
          (nothing_is_contested loose rows later earlier ports old new port is_plan map watched lawful tells differs.1),
    ))
    (shared_part loose (beats_of rows) lawful)
