use Rattle.tl_beats.proofs.Reading.{AreBytesSoFar}
use Rattle.tl_beats.proofs.ask_assemble.gather_bytes.Given as goal

-- the beats so far are read
abbrev pub invariant-loop-beat : goal.invariant-loop-beat
invariant-loop-beat l = AreBytesSoFar l.beats l.first l.fn.op l.beat-index l.bytes
