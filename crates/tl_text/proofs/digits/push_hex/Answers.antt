-- A digit more stands before the ones after it.
use Rattle.std.proofs.Common.{rules, ◌≡◌, ◌∙◌, suc, ◌+◌, ◌-◌, ◌≤◌, ◌∷◌, drop, false, length, length-drop, length-set, set, take_all, sym, arith}
use Rattle.std.specs.Fmt.{digits}
use Rattle.std.proofs.lemmas.List.{drop-set}
use Rattle.tl_text.proofs.NumberLemmas.{hex_last, hex_more, hex_none, one_more, sixteenth}
use Rattle.tl_text.proofs.digits.push_hex.Goals as goal

pub loop-left-init : goal.loop-left-init
loop-left-init c = record {
  first = omega arith;
  fits = c.ranges.number.fits;
  long = search rules;
  digits = hex_none c.args.number;
}

pub loop-left-preserved : goal.loop-left-preserved
loop-left-preserved c =
    let l = c.loop-left in
    let large : 16 ≤ l.left = omega (arith, c.loop-left-test.true) in
    let some : 1 ≤ l.first = one_more l.left l.first large l.invariant.fits in
    record {
      first = omega (arith, l.invariant.first);
      fits = sixteenth l.left l.first large l.invariant.fits;
      long = search rules;
      digits =
          let behind = drop (l.first + 1) l.digits in
          let digit = c.hex_digit.result in
          let place : l.first - 1 + 1 ≡ l.first = omega (arith, some) in
          let room : l.first - 1 + 49 ≡ l.first + 48 = omega (arith, some) in
          let last : l.first + 49 ≡ suc (l.first + 48) = omega arith in
          let set_there : drop l.first (set l.digits l.first digit) ≡ digit ∷ behind =
          drop-set l.digits l.first digit (omega (arith, l.invariant.first, l.invariant.long)) in
          rw (place, room, set_there, c.hex_digit.ensures)
          (sym (hex_more (l.first + 48) l.left behind large) ∙ rw last at l.invariant.digits);
    }

pub returns : goal.returns
returns c =
    let l = c.loop-left in
    let behind = drop (l.first + 1) l.digits in
    let digit = c.hex_digit-2.result in
    let last : l.first + 49 ≡ suc (l.first + 48) = omega arith in
    let set_there : drop l.first (set l.digits l.first digit) ≡ digit ∷ behind =
    drop-set l.digits l.first digit (omega (arith, l.invariant.first, l.invariant.long)) in
    let all : drop l.first (set l.digits l.first digit) ≡ digits 16 false c.args.number =
    set_there ∙ rw c.hex_digit-2.ensures (sym (hex_last (l.first + 48) l.left behind c.loop-left-test.false)
    ∙ rw last at l.invariant.digits) in
    let written = set l.digits l.first digit in
    let long : length (drop l.first written) ≤ 16 - l.first =
    omega (arith, length-drop l.first written, length-set l.digits l.first digit, l.invariant.long) in
    rw (← all, ← take_all (16 - l.first) (drop l.first written) long) (search rules)
