-- What a master's trace is to what its seat has collected.
use Rattle.std.proofs.Common.{◌≡◌, ℕ, ◌+◌, length, Some, List, ap, sym, ◌∙◌}
use Rattle.std.proofs.lemmas.List.{length-map}
use Rattle.tl_types.specs.declared.trace.Entry.{Entry}
use Rattle.tl_master.specs.Master.{MasterState, AreWidened}
use Rattle.tl_master.specs.Kept.{IsKeptMaster, widened}
use Rattle.tl_master.proofs.Keeping.{got_at}

-- an entry is one thing
same_entry : (d e : Entry) → Some d ≡ Some e → d ≡ e
same_entry d e p = cc

-- the seat has the trace's entries, one by one, with their sources widened
pub kept_widened : (m : MasterState) (start count : ℕ) → IsKeptMaster m start count
    → AreWidened m.seat.arena.about.owners m.seat.number m.trace m.seat.got
kept_widened m start count kept = record {
  many = ap (λ (es : List Entry). length es) kept.got ∙ length-map m.trace (widened start);
  each = λ k e f at there. record {
    source = start + e.ask.source;
    is = kept.wide e.ask.source (kept.own k e at);
    same = same_entry f (widened start e) (sym there ∙ got_at m start count kept k e at);
  };
}
