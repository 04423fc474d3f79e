use Rattle.std.proofs.Common.{◌≡◌, length}
use Rattle.check_watch.specs.declared.beat.Link.{Link}
use Rattle.check_watch.specs.Plan.{Plan}
use Rattle.check_watch.specs.Reset.{AreLeft, IsCutOpen}
use Rattle.check_watch.specs.View.{SuitsGroup, state_in}
use Rattle.check_watch.proofs.Resetting.{UpTo}
use Rattle.check_watch.proofs.watch.GroupWatch.cut_in_flight.Given as goal

abbrev pub invariant-loop-wide : goal.invariant-loop-wide
invariant-loop-wide l = record {
  rest : l.self ≡ record l.initial.self { slaves = l.self.slaves };
  counted : length l.self.slaves ≡ length l.initial.self.slaves;
  cut : (plan : Plan) → SuitsGroup plan l.initial.self
      → AreLeft (UpTo (λ wide port ask. (link : Link) × IsCutOpen plan (state_in l.initial.self) link wide port ask) l.wide)
      l.initial.self.slaves l.self.slaves;
}
