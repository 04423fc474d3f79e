-- The first bytes of the struct are those of the request.
use Rattle.std.proofs.Common.{rules, ◌≤◌, length}
use Rattle.tl_c.proofs.Requests.{all_given, is_flagged, is_plain, length-flagged, length-plain}
use Rattle.tl_c.proofs.wire.fill_ask.Goals as goal

pub refill_flagged-requires-clause-lawful : goal.refill_flagged-requires-clause-lawful
refill_flagged-requires-clause-lawful c =
    let within : c.byte_count.result ≤ length c.args.wire.now.bytes = search rules in
    record {
      in_limit = c.requires.in_limit;
      counted = rw (← c.byte_count.ensures.value) (length-flagged c.args.wire.now c.byte_count.result within);
      whole = λ no. absurd (cc);
    }

pub refill_given-requires : goal.refill_given-requires
refill_given-requires c =
    let within : c.byte_count.result ≤ length c.args.wire.now.bytes = search rules in
    record {
      in_limit = c.requires.in_limit;
      counted = rw (← c.byte_count.ensures.value) (length-plain c.args.wire.now c.byte_count.result within);
      whole = λ _. all_given _;
    }

pub returns-then-may_leave_unset : goal.returns-then-may_leave_unset
returns-then-may_leave_unset c =
    let within : c.byte_count.result ≤ length c.args.wire.now.bytes = search rules in
    rw (c.refill_flagged.ensures)
    (is_flagged c.args.wire.now c.args.op c.byte_count.result c.requires.code c.byte_count.ensures.value within
    (cc))

pub returns-else-may_leave_unset : goal.returns-else-may_leave_unset
returns-else-may_leave_unset c =
    let within : c.byte_count.result ≤ length c.args.wire.now.bytes = search rules in
    rw (c.refill_given.ensures)
    (is_plain c.args.wire.now c.args.op c.byte_count.result c.requires.code c.byte_count.ensures.value within (cc))
