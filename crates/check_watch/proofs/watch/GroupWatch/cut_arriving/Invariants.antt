use Rattle.std.proofs.Common.{◌≡◌, length}
use Rattle.check_watch.specs.declared.beat.Link.TheVariants.{Port}
use Rattle.check_watch.specs.Plan.{Plan}
use Rattle.check_watch.specs.Reset.{AreLeft, IsCutUnderWay}
use Rattle.check_watch.specs.View.{SuitsGroup, state_in}
use Rattle.check_watch.proofs.Resetting.{UpTo}
use Rattle.check_watch.proofs.watch.GroupWatch.cut_arriving.Given as goal

abbrev pub invariant-loop-port : goal.invariant-loop-port
invariant-loop-port l = record {
  rest : l.self ≡ record l.initial.self { slaves = l.self.slaves };
  counted : length l.self.slaves ≡ length l.initial.self.slaves;
  cut : (plan : Plan) → SuitsGroup plan l.initial.self
      → AreLeft (UpTo (λ number. IsCutUnderWay plan (state_in l.initial.self) (Port number)) l.port)
      l.initial.self.slaves l.self.slaves;
}
