-- No clock has an edge outside of reset.
use Rattle.std.proofs.Common.{◌≡◌, append-nil, false, is_some, refl, rules, sym}
use Rattle.std.specs.List.{list_any}
use Rattle.check_samples.specs.Due.{due_text}
use Rattle.check_samples.specs.Rows.{no_rows}
use Rattle.check_samples.specs.Sampling.{beat_rows, dues_of}
use Rattle.check_samples.proofs.WatchedLemmas.{rows-idle}
use Rattle.check_samples.proofs.sampler.Sampler.push_beats.Goals as goal

pub returns-then-not-note_dues-clause-writes : goal.returns-then-not-note_dues-clause-writes
returns-then-not-note_dues-clause-writes c =
    let s = c.args.self.now in
    let none : list_any (λ due. is_some due) (dues_of s.before s.now s.watched) ≡ false = search rules in
    let idle : beat_rows c.args.time s ≡ no_rows = rows-idle s c.args.time none in
    rw idle (sym (append-nil (due_text c.args.due.now)), refl)
