use Rattle.std.proofs.Common.{rules, ◌≡◌, length, refl}
use Rattle.tl_journal.specs.Trace.{entries_in}
use Rattle.tl_audit.specs.Agrees.{HasEntry, journals_in, times_named}
use Rattle.tl_audit.specs.Marks.{cell}
use Rattle.tl_audit.specs.declared.marks.Mark.TheVariants.{Unnamed}
use Rattle.tl_audit.proofs.Cells.{all_written, blank_cell}
use Rattle.tl_audit.proofs.Counting.{counted}
use Rattle.tl_audit.proofs.lists.marks_of.Goals as goal

pub mark_traces-requires : goal.mark_traces-requires
mark_traces-requires c m trace there k e at =
    let has : HasEntry (entries_in c.args.traces.now) m k e = rw there at in
    let recorded = c.requires.1 m k e has in
    rw (
      c.deref_mut.ensures.value,
      c.in_ok-rows.ensures,
      blank_cell Unnamed (journals_in c.args.histories.now) e.port e.index,
      recorded.at,
    ) refl

pub returns : goal.returns
returns c p i =
    let long : length c.mark_traces.new.rows ≡ length c.in_ok-rows.rows.items = search rules in
    let many : c.in_ok-rows.rows.len ≡ length c.in_ok-rows.rows.items = search rules in
    rw (
      all_written c.mark_traces.new.rows c.in_ok-rows.rows.items c.in_ok-rows.rows.len many long,
      c.mark_traces.ensures p i,
      c.deref_mut.ensures.value,
      c.in_ok-rows.ensures,
      blank_cell Unnamed (journals_in c.args.histories.now) p i,
    )
    (counted (times_named (entries_in c.args.traces.now) p i) Unnamed (cell (journals_in c.args.histories.now) p i))
