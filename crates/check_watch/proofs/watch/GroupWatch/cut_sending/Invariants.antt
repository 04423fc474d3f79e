use Rattle.std.proofs.Common.{◌≡◌, length}
use Rattle.check_watch.specs.declared.beat.Link.TheVariants.{Master}
use Rattle.check_watch.specs.Plan.{Plan}
use Rattle.check_watch.specs.Reset.{AreLeft, IsCutUnderWay}
use Rattle.check_watch.specs.View.{SuitsGroup, state_in}
use Rattle.check_watch.proofs.Resetting.{UpTo}
use Rattle.check_watch.proofs.watch.GroupWatch.cut_sending.Given as goal

abbrev pub invariant-loop-master : goal.invariant-loop-master
invariant-loop-master l = record {
  rest : l.self ≡ record l.initial.self { slaves = l.self.slaves };
  counted : length l.self.slaves ≡ length l.initial.self.slaves;
  cut : (plan : Plan) → SuitsGroup plan l.initial.self
      → AreLeft (UpTo (λ master. IsCutUnderWay plan (state_in l.initial.self) (Master master)) l.master)
      l.initial.self.slaves l.self.slaves;
}
