-- The rows so far stand before those of the other channels.
use Rattle.std.proofs.Common.{◌≡◌, ◌++◌, drop, map}
use Rattle.check_samples.specs.Due.{due_text}
use Rattle.check_samples.specs.Rows.{rows_of}
use Rattle.check_samples.specs.Values.{all_before}
use Rattle.check_samples.proofs.sampler.push_rows.Given as goal

abbrev pub invariant-loop-channel : goal.invariant-loop-channel
invariant-loop-channel l =
    let dues = map (λ one. one.due) l.watched in
    let rest = rows_of dues l.time (all_before l.values) (drop l.channel-index l.channels) in
    let all = rows_of dues l.time (all_before l.values) l.channels in
    record {
      text : due_text l.due ++ rest.text ≡ due_text l.fn.due ++ all.text;
      fault : rest.fault ≡ all.fault;
    }
