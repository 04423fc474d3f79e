use Rattle.std.proofs.Common.{rules, length}
use Rattle.std.proofs.lemmas.List.Elements.{All-push}
use Rattle.tl_beats.specs.Replies.{IsReplyBeatOf, IsCleanReply}
use Rattle.tl_beats.proofs.Spelling.{each_push}
use Rattle.tl_beats.proofs.reply_pack.push_whole_beats.Goals as goal

pub loop-b-preserved : goal.loop-b-preserved
loop-b-preserved c =
    let reply = c.args.reply.now in
    let beats = c.loop-b.beats.items in
    let so_far = c.loop-b.invariant in
    rw c.push.ensures.items record {
      count = search rules;
      each = λ address.
          let last : IsReplyBeatOf reply address (length beats) c.whole_beat.result =
          rw so_far.count (c.whole_beat.ensures.spells address) in
          each_push (IsReplyBeatOf reply address) beats c.whole_beat.result (so_far.each address) last;
      clean = λ address. All-push (λ beat. IsCleanReply reply address beat) beats c.whole_beat.result
          (so_far.clean address) (c.whole_beat.ensures.clean address);
    }

pub returns-clause-spells : goal.returns-clause-spells
returns-clause-spells c address = record { count = search rules; each = c.loop-b.invariant.each address }
