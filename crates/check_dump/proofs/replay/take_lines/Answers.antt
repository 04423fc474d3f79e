-- One line after the other, and what stops them.
use Rattle.std.proofs.Common.{◌∙◌, IfSome, List, ℕ, None, Option, Some, ◌+◌, ap, refl, subst, sym}
use Rattle.check_vcd.specs.Words.{Both}
use Rattle.check_text.specs.Buses.{link_buses}
use Rattle.check_samples.specs.Due.{due_line}
use Rattle.check_dump.specs.Lines.{SpellsRow, coming, line_at_hand}
use Rattle.check_dump.specs.Replay.{LineStops, TookLines, later_of}
use Rattle.check_dump.specs.declared.replay.Halt.{Halt}
use Rattle.check_dump.specs.declared.replay.Place.{Place}
use Rattle.check_dump.proofs.ReplayLemmas.{line_fails, number_fails, read_fails, row_halts, took_all, took_more, took_none, write_fails}
use Rattle.check_dump.proofs.replay.take_lines.Goals as goal

pub loop-init : goal.loop-init
loop-init g c =
    let old = g.W.Write.contents c.args.writer.now.writer.now in
    let buses = link_buses c.args.buses.now in
    let first = c.args.judge.now in
    let left = coming c.args.lines.now in
    let place : Place = record { latest = None; number = 2 } in
    let P : List ℕ → Type 0 = λ text. Both left left (TookLines buses first first place old old text) in
    record {
      inside = c.requires.inside;
      covered = refl;
      layout = refl;
      same = refl;
      taken = subst P (sym c.requires.empty) (took_none buses first old left place refl);
    }

pub returns-in-Ok-false-clause-ok : goal.returns-in-Ok-false-clause-ok
returns-in-Ok-false-clause-ok g c =
    let contents = g.W.Write.contents in
    took_all (link_buses c.args.buses.now) c.args.judge.now (contents c.args.writer.now.writer.now) c.loop.judge.tally
    c.loop.judge c.loop.place (contents c.loop.writer.writer.now) c.loop.told.items (coming c.args.lines.now)
    (coming c.loop.lines) c.loop.invariant.taken c.read.new.self.ended
    (c.in-Ok-false.ensures.none c.in-Ok-false.field-0-test)

pub returns-in-Err-clause-halt : goal.returns-in-Err-clause-halt
returns-in-Err-clause-halt g c =
    let contents = g.W.Write.contents in
    rw c.fault_of.ensures
    (line_fails (link_buses c.args.buses.now) c.args.judge.now (contents c.args.writer.now.writer.now) c.loop.judge.tally
    c.loop.judge c.loop.place (contents c.loop.writer.writer.now) c.loop.told.items (coming c.args.lines.now)
    (coming c.loop.lines) c.loop.invariant.taken c.in-Err.fault)

pub returns-in_default-clause-halt : goal.returns-in_default-clause-halt
returns-in_default-clause-halt g c =
    let contents = g.W.Write.contents in
    let buses = link_buses c.args.buses.now in
    let tally = c.take_line-taken.new.judge.tally in
    let text = c.loop.told.items in
    let grown = c.take_line-taken.new.told.items in
    let S : List ℕ → Type 0 = λ line. LineStops buses c.loop.place.number line c.loop.judge tally text grown c.stopped.result in
    let I : Option Halt → Type 0 =
    λ halt. IfSome halt (LineStops buses c.loop.place.number (due_line c.row-due.result) c.loop.judge tally text grown) in
    let stops : I (Some c.stopped.result) = subst I c.stopped.ensures (c.in_default.ensures.halt refl) in
    row_halts buses c.args.judge.now (contents c.args.writer.now.writer.now) tally c.loop.judge c.loop.place
    (contents c.loop.writer.writer.now) text (coming c.args.lines.now) (coming c.loop.lines) c.loop.invariant.taken
    (coming c.read.new.self) (line_at_hand c.read.new.self) grown c.stopped.result
    (c.in-Ok-true.ensures.line c.in-Ok-true.field-0-test) (subst S c.row-due.ensures stops)

pub returns-in-None-clause-halt : goal.returns-in-None-clause-halt
returns-in-None-clause-halt g c =
    let contents = g.W.Write.contents in
    let buses = link_buses c.args.buses.now in
    let ok = c.in-Some.ensures.ok in
    number_fails buses c.args.judge.now (contents c.args.writer.now.writer.now) c.take_line-taken.new.judge.tally c.loop.judge
    c.take_line-taken.new.judge c.loop.place (contents c.loop.writer.writer.now) c.loop.told.items c.take_line-taken.new.told.items
    (line_at_hand c.read.new.self) ok.0 (coming c.args.lines.now) (coming c.loop.lines) (coming c.read.new.self)
    c.loop.invariant.taken (c.in-Ok-true.ensures.line c.in-Ok-true.field-0-test)
    (subst (λ (line : List ℕ). SpellsRow buses c.loop.place.number line ok.0) c.row-due.ensures ok.1) ok.3

pub returns-clause-halt : goal.returns-clause-halt
returns-clause-halt g c =
    let contents = g.W.Write.contents in
    read_fails (link_buses c.args.buses.now) c.args.judge.now (contents c.args.writer.now.writer.now) c.loop.judge.tally
    c.loop.judge c.loop.place (contents c.loop.writer.writer.now) c.loop.told.items (coming c.args.lines.now)
    (coming c.loop.lines) c.loop.invariant.taken

pub returns-in-Err-write_long-clause-halt : goal.returns-in-Err-write_long-clause-halt
returns-in-Err-write_long-clause-halt g c =
    let contents = g.W.Write.contents in
    let buses = link_buses c.args.buses.now in
    let ok = c.in-Some.ensures.ok in
    let place_at : ℕ → Place =
    λ time. record { latest = Some (later_of c.loop.place.latest time); number = c.loop.place.number + 1 } in
    write_fails buses c.args.judge.now (contents c.args.writer.now.writer.now) c.take_line-taken.new.judge.tally c.loop.judge
    c.take_line-taken.new.judge c.loop.place c.in-Some-behind.next (contents c.loop.writer.writer.now)
    (contents c.write_long.new.writer.writer.now) c.loop.told.items c.take_line-taken.new.told.items c.write_long.new.text.items
    (line_at_hand c.read.new.self) ok.0 (coming c.args.lines.now) (coming c.loop.lines) (coming c.read.new.self)
    c.loop.invariant.taken (c.in-Ok-true.ensures.line c.in-Ok-true.field-0-test)
    (subst (λ (line : List ℕ). SpellsRow buses c.loop.place.number line ok.0) c.row-due.ensures ok.1) ok.3
    (c.in-Some-behind.ensures ∙ ap place_at (sym ok.2)) c.in-Err-write_long.ensures.front

pub loop-preserved : goal.loop-preserved
loop-preserved g c =
    let contents = g.W.Write.contents in
    let buses = link_buses c.args.buses.now in
    let ok = c.in-Some.ensures.ok in
    let place_at : ℕ → Place =
    λ time. record { latest = Some (later_of c.loop.place.latest time); number = c.loop.place.number + 1 } in
    record {
      inside = c.in-Ok-true.ensures.inside;
      covered = c.take_line-taken.ensures.covered ∙ c.loop.invariant.covered;
      layout = c.take_line-taken.ensures.layout ∙ c.loop.invariant.layout;
      same = c.write_long.ensures.same ∙ c.loop.invariant.same;
      taken = took_more buses c.args.judge.now (contents c.args.writer.now.writer.now) c.loop.judge c.take_line-taken.new.judge
          c.loop.place c.in-Some-behind.next (contents c.loop.writer.writer.now) (contents c.write_long.new.writer.writer.now)
          c.loop.told.items c.take_line-taken.new.told.items c.write_long.new.text.items (line_at_hand c.read.new.self) ok.0
          (coming c.args.lines.now) (coming c.loop.lines) (coming c.read.new.self) c.loop.invariant.taken
          (c.in-Ok-true.ensures.line c.in-Ok-true.field-0-test)
          (subst (λ (line : List ℕ). SpellsRow buses c.loop.place.number line ok.0) c.row-due.ensures ok.1) ok.3
          (c.in-Some-behind.ensures ∙ ap place_at (sym ok.2)) c.in-Ok.ensures.moves;
    }
