-- The next byte is a blank or not.
use Rattle.std.proofs.Common.{rules}
use Rattle.check_vcd.specs.Scanner.{HasMoved}
use Rattle.check_vcd.proofs.ScannerLemmas.{HasNext, took-blank, took-letter}
use Rattle.check_vcd.proofs.scanner.Scanner.take_byte.Goals as goal

pub returns-then-is_blank-clause-ok : goal.returns-then-is_blank-clause-ok
returns-then-is_blank-clause-ok g c =
    let old = c.args.self.now in
    let new = c.take_blank.new.self in
    let byte = c.index-byte.result.now in
    let same = c.take_blank.ensures.same in
    let next : HasNext old byte = record { some = c.requires.some; inside = search rules; is = search rules } in
    let moved : HasMoved old new = record {
      reader = same.reader;
      chunk = same.chunk;
      next = same.next;
      filled = same.filled;
    } in
    took-blank old new byte c.take_blank.result next moved (search rules) c.requires.front c.take_blank.ensures.front
    c.take_blank.ensures.ended
    c.take_blank.ensures.line

pub returns-in_ok-push_byte-clause-ok : goal.returns-in_ok-push_byte-clause-ok
returns-in_ok-push_byte-clause-ok g c =
    let old = c.args.self.now in
    let new = c.push_byte.new.self in
    let byte = c.index-byte.result.now in
    let same = c.push_byte.ensures.same in
    let next : HasNext old byte = record { some = c.requires.some; inside = search rules; is = search rules } in
    let moved : HasMoved old new = record {
      reader = same.reader;
      chunk = same.chunk;
      next = same.next;
      filled = same.filled;
    } in
    took-letter old new byte next moved (search rules) c.in_ok-push_byte.ensures.front c.push_byte.ensures.line
