-- What was read last was taken too, and a byte of it that is no blank is one of all.
use Rattle.std.proofs.Common.{◌≡◌, ◌∙◌, ◌++◌, ℕ, List, ap, arith, subst, sym, take, true}
use Rattle.std.proofs.lemmas.Grind.{common_steps}
use Rattle.std.proofs.lemmas.List.{take-append-le}
use Rattle.std.proofs.KnownBytes.{Consumes-trans}
use Rattle.std.specs.Io.KnownBytes.{Consumes}
use Rattle.check_program.specs.Front.{has_sign}
use Rattle.check_program.proofs.FrontLemmas.{has_sign-append}
use Rattle.check_program.proofs.front.read_within.Goals as goal

pub loop-known-preserved-in-Ok : goal.loop-known-preserved-in-Ok
loop-known-preserved-in-Ok g c =
    let before = c.loop-known.front.items in
    let last = take c.in-Ok.n c.read.new.buf in
    let at = take-append-le c.in-Ok.n c.read.new.buf _ c.in-Ok.ensures.bound.0 in
    let all : c.extend_from_slice.new.self.items ≡ before ++ last =
    c.in_ok-extend_from_slice-in-Ok.ensures.items ∙ ap (λ (l : List ℕ). before ++ l) at in
    record {
      same = c.read.ensures.same ∙ c.loop-known.invariant.same;
      taken = subst (λ (l : List ℕ). Consumes (g.R.Read.remaining c.args.reader.now.reader.now)
          (g.R.Read.remaining c.read.new.self.reader.now) l) (sym all)
          (Consumes-trans _ _ _ before last c.loop-known.invariant.taken c.in-Ok.ensures.bytes.0);
      bounded = grind (arith, common_steps);
      known = λ yes. subst (λ (l : List ℕ). has_sign l ≡ true) (sym all)
          (has_sign-append before last (sym (c.has_sign-known.ensures ∙ ap has_sign at) ∙ yes));
    }
