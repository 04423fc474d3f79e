-- One identifier more is kept.
use Rattle.std.proofs.Common.{◌≡◌, ◌∙◌, ℕ, ◌+◌, List, ◌∷◌, Option, Vec, ap, drop, map, option_map, rules}
use Rattle.std.specs.Global.{Global}
use Rattle.check_vcd.specs.Codes.{find_in}
use Rattle.check_waves.proofs.OpenLemmas.{keeps-on, rest-of}
use Rattle.check_waves.proofs.engine.keep_all.Goals as goal

-- an identifier, if there is one
abbrev text : Option (Vec ℕ Global) → Option (List ℕ)
text code = option_map (λ code. code.items) code

pub loop-slot-preserved : goal.loop-slot-preserved
loop-slot-preserved g c =
    let codes = c.args.codes.now in
    let slot = c.loop-slot.slot in
    let code = c.index-codes-slot.result in
    let rest = map text (drop (slot + 1) codes) in
    let is : map text (drop slot codes) ≡ text code ∷ rest =
    ap (map text) (rest-of codes slot code (search rules) c.index-codes-slot.is) in
    record {
      kept = keeps-on (find_in c.args.dump.now.codes) (find_in c.loop-slot.dump.codes) (find_in c.keep_if_any.new.dump.codes)
          (map text codes) (map text (drop slot codes)) rest slot (text code) is
          c.loop-slot.invariant.kept c.in_ok-keep_if_any.ensures.kept;
      words = c.in_ok-keep_if_any.ensures.words ∙ c.loop-slot.invariant.words;
      body = c.in_ok-keep_if_any.ensures.body ∙ c.loop-slot.invariant.body;
    }
