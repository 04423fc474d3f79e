use Rattle.std.proofs.Common.{refl, rules}
use Rattle.tl_arena.specs.Views.{entry_of}
use Rattle.tl_master.specs.Master.{entry_from}
use Rattle.tl_master.proofs.master.collect_entry.Goals as goal

pub returns-clause-ok : goal.returns-clause-ok
returns-clause-ok c =
    let served = c.in_ok-served.served in record {
      entry = entry_from c.args.source (entry_of served);
      reply = record {
        served = served;
        taken = c.collect.new.master;
        collected = c.in_ok-served.ensures.ok;
        entry = refl;
        seat = c.release.ensures.seat;
      };
      place_is = c.len-place.ensures.value;
      -- by a search, so that a wrong body leaves a goal open
      is = search rules;
    }
