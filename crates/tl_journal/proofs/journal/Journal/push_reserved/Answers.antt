-- The entries before are read from the larger pools as they were, the new one stands after them, and what is left of
-- the room is for the others.
use Rattle.std.proofs.Common.{◌≡◌, ◌∙◌, ◌++◌, ◌∷◌, [], ◌-◌, ◌<◌, suc, length, ap, map, arith}
use Rattle.std.proofs.lemmas.List.{length-map}
use Rattle.tl_types.specs.Operation.{may_leave_unset}
use Rattle.tl_journal.specs.Headers.{entry_in}
use Rattle.tl_journal.proofs.Pooled.{takes_entry, pushed_entries, pushed_in}
use Rattle.tl_journal.proofs.Room.{ask_fits, few_asked, few_told, left_fits, length_push, one_more, reply_fits}
use Rattle.tl_journal.proofs.journal.Journal.push_reserved.Goals as goal

pub keep_reserved-start-requires : goal.keep_reserved-start-requires
keep_reserved-start-requires c =
    let n = length c.self.inside.headers.items in
    let more : n < c.self.inside.room =
    omega (
      arith,
      rw (← c.self.view_is) at c.requires,
      length-map c.self.inside.headers.items (entry_in c.self.inside.pools),
    ) in
    let has = rw (one_more n c.self.inside.room more) at c.self.invariant.bytes_fit in
    let few = few_asked c.args.ask.now c.bytes.ensures.lawful in
    rw (c.bytes.ensures.value) (ask_fits (may_leave_unset c.op.result) c.self.inside.pools (c.self.inside.room - suc n)
    (length c.args.ask.now.bytes) has few)

pub keep_plain_reserved-answer_start-requires : goal.keep_plain_reserved-answer_start-requires
keep_plain_reserved-answer_start-requires c =
    let n = length c.self.inside.headers.items in
    let more : n < c.self.inside.room =
    omega (
      arith,
      rw (← c.self.view_is) at c.requires,
      length-map c.self.inside.headers.items (entry_in c.self.inside.pools),
    ) in
    let has = rw (one_more n c.self.inside.room more) at c.self.invariant.bytes_fit in
    let asked = few_asked c.args.ask.now c.bytes.ensures.lawful in
    let told = few_told c.args.reply.now c.bytes-2.ensures.lawful in
    let kept = rw (c.op.ensures, c.bytes.ensures.value) at c.keep_reserved-start.ensures.kept in
    rw (c.bytes-2.ensures.value) (reply_fits
    (may_leave_unset c.args.ask.now.op) c.args.ask.now.bytes c.self.inside.pools c.keep_reserved-start.new.self c.keep_reserved-start.result
    (c.self.inside.room - suc n)
    (length c.args.reply.now.bytes) has asked told kept c.keep_reserved-start.ensures.room)

pub invariant_of-self : goal.invariant_of-self
invariant_of-self c =
    let n = length c.self.inside.headers.items in
    let more : n < c.self.inside.room =
    omega (
      arith,
      rw (← c.self.view_is) at c.requires,
      length-map c.self.inside.headers.items (entry_in c.self.inside.pools),
    ) in
    let has = rw (one_more n c.self.inside.room more) at c.self.invariant.bytes_fit in
    let asked = few_asked c.args.ask.now c.bytes.ensures.lawful in
    let told = few_told c.args.reply.now c.bytes-2.ensures.lawful in
    let kept = rw (c.op.ensures, c.bytes.ensures.value) at c.keep_reserved-start.ensures.kept in
    let told_kept = rw c.bytes-2.ensures.value at c.keep_plain_reserved-answer_start.ensures.kept in
    let old = c.self.inside.pools in
    let middle = c.keep_reserved-start.new.self in
    let new = c.keep_plain_reserved-answer_start.new.self in
    let ask = c.args.ask.now in
    let reply = c.args.reply.now in
    let takes = takes_entry c.args.source ask reply old middle new c.keep_reserved-start.result c.keep_plain_reserved-answer_start.result c.bytes.ensures.lawful c.bytes-2.ensures.lawful kept told_kept in
    let left = left_fits (may_leave_unset ask.op) ask.bytes reply.bytes old middle new c.keep_reserved-start.result c.keep_plain_reserved-answer_start.result
    (c.self.inside.room - suc n) has asked told kept c.keep_reserved-start.ensures.room told_kept c.keep_plain_reserved-answer_start.ensures.room in
    let items = rw (
      c.op-2.ensures,
      c.size.ensures.value,
      c.op-3.ensures,
      c.size-2.ensures.value,
      c.denied.ensures,
      c.address.ensures,
    ) at c.push_reserved.ensures.items in
    let count : length c.push_reserved.new.self.items ≡ suc n =
    length_push c.self.inside.headers.items _ c.push_reserved.new.self.items items in
    record {
      entries = rw items (pushed_in c.self.inside.headers.items _ _ old new takes c.self.invariant.entries);
      few = omega (arith, count, more);
      headers_fit = omega (arith, c.self.invariant.headers_fit, c.push_reserved.ensures.capacity);
      bytes_fit = rw count left;
    }

pub returns-clause-items : goal.returns-clause-items
returns-clause-items c =
    let kept = rw (c.op.ensures, c.bytes.ensures.value) at c.keep_reserved-start.ensures.kept in
    let told_kept = rw c.bytes-2.ensures.value at c.keep_plain_reserved-answer_start.ensures.kept in
    let old = c.self.inside.pools in
    let middle = c.keep_reserved-start.new.self in
    let new = c.keep_plain_reserved-answer_start.new.self in
    let ask = c.args.ask.now in
    let reply = c.args.reply.now in
    let takes = takes_entry c.args.source ask reply old middle new c.keep_reserved-start.result c.keep_plain_reserved-answer_start.result c.bytes.ensures.lawful c.bytes-2.ensures.lawful kept told_kept in
    let items = rw (
      c.op-2.ensures,
      c.size.ensures.value,
      c.op-3.ensures,
      c.size-2.ensures.value,
      c.denied.ensures,
      c.address.ensures,
    ) at c.push_reserved.ensures.items in
    ap (map (entry_in new)) items
    ∙ pushed_entries c.self.inside.headers.items _ _ old new takes c.self.invariant.entries
    ∙ ap (λ v. v.items ++ (record ask { source = c.args.source }, record reply { source = c.args.source })
    ∷ []) c.self.view_is
