-- Rows are taken and written, up to the end or a fault.
use Rattle.std.proofs.Common.{◌∙◌, refl}
use Rattle.check_waves.proofs.OutLemmas.{pushed-all, pushed-fault, pushed-long, pushed-part, pushing-on, pushing-start}
use Rattle.check_waves.proofs.engine.push_rows.Goals as goal

pub loop-init : goal.loop-init
loop-init g c = record {
  same = refl;
  pushing = pushing-start c.args.rows.now c.args.text.now.items (g.W.Write.contents c.args.writer.now.writer.now);
}

pub loop-preserved : goal.loop-preserved
loop-preserved g c =
    let contents = g.W.Write.contents in
    record {
      same = c.in_default.ensures.same ∙ c.loop.invariant.same;
      pushing = pushing-on c.args.rows.now c.loop.rows c.append_rows.new.rows c.args.text.now.items c.loop.text.items
          c.append_rows.new.text.items c.write_long.new.text.items (contents c.args.writer.now.writer.now)
          (contents c.loop.writer.writer.now) (contents c.write_long.new.writer.writer.now) c.loop.invariant.pushing
          (rw c.in-Ok-More.field-0-is at c.in-Ok-More.ensures.ok) c.in_default.ensures.moves;
    }

pub returns-in-Ok-Over-clause-pushed : goal.returns-in-Ok-Over-clause-pushed
returns-in-Ok-Over-clause-pushed g c =
    let contents = g.W.Write.contents in
    pushed-all c.args.rows.now c.loop.rows c.append_rows.new.rows c.args.text.now.items c.loop.text.items c.append_rows.new.text.items
    (contents c.args.writer.now.writer.now) (contents c.loop.writer.writer.now) tt c.loop.invariant.pushing
    (rw c.in-Ok-Over.field-0-is at c.in-Ok-Over.ensures.ok)

pub returns-in-Err-clause-pushed : goal.returns-in-Err-clause-pushed
returns-in-Err-clause-pushed g c =
    let contents = g.W.Write.contents in
    rw c.from.ensures
    (pushed-fault c.args.rows.now c.loop.rows c.args.text.now.items c.loop.text.items c.append_rows.new.text.items
    (contents c.args.writer.now.writer.now) (contents c.loop.writer.writer.now) c.in-Err.fault c.loop.invariant.pushing
    c.in-Err.ensures.fault)

pub returns-in-Err-write_long-clause-pushed : goal.returns-in-Err-write_long-clause-pushed
returns-in-Err-write_long-clause-pushed g c =
    let contents = g.W.Write.contents in
    rw c.in-Err-write_long.ensures.fault
    (pushed-part c.args.rows.now c.loop.rows c.append_rows.new.rows c.args.text.now.items c.loop.text.items c.append_rows.new.text.items
    (contents c.args.writer.now.writer.now) (contents c.loop.writer.writer.now)
    (contents c.write_long.new.writer.writer.now) c.loop.invariant.pushing
    (rw c.in-Ok-More.field-0-is at c.in-Ok-More.ensures.ok) c.in-Err-write_long.ensures.front c.write_long.new.text.items)

pub returns-clause-pushed : goal.returns-clause-pushed
returns-clause-pushed g c =
    let contents = g.W.Write.contents in
    pushed-long c.args.rows.now c.loop.rows c.args.text.now.items c.loop.text.items (contents c.args.writer.now.writer.now)
    (contents c.loop.writer.writer.now) c.loop.invariant.pushing
