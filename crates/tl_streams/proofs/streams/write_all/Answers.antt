-- A write takes the front of the rest.
use Rattle.std.proofs.Common.{◌≡◌, ◌++◌, take, drop, sym, ap, ◌∙◌, rules, append_assoc, take-append-drop}
use Rattle.std.proofs.KnownBytes.{Appends-trans}
use Rattle.std.proofs.lemmas.List.{take_rest}
use Rattle.tl_streams.proofs.streams.write_all.Goals as goal

pub loop-rest-preserved-in-Ok : goal.loop-rest-preserved-in-Ok
loop-rest-preserved-in-Ok g c =
    let (done, split, appended) = c.loop-rest.invariant.appended in
    let rest = c.loop-rest.rest.now in
    let n = c.in-Ok.n in
    let moved : c.args.bytes.now ≡ (done ++ take n rest) ++ drop n rest =
    split ∙ ap (λ l. done ++ l) (sym (take-append-drop n rest)) ∙ sym (append_assoc done (take n rest) (drop n rest)) in
    record {
      appended = (
        done ++ take n rest,
        rw take_rest moved,
        Appends-trans _ _ _ _ _ appended c.in-Ok.ensures.bytes,
      );
      same = search rules;
    }
