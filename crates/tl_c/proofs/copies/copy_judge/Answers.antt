-- Each part of the judge is copied.
use Rattle.std.proofs.Common.{rules, ◌≡◌, ◌∙◌, option_map, refl}
use Rattle.check_rows.specs.PortNumbers.{numbers_in, numbers_view}
use Rattle.tl_c.proofs.Mapped.{mapped}
use Rattle.tl_c.proofs.copies.copy_judge.Goals as goal

pub returns : goal.returns
returns c =
    let numbers : numbers_in c.in_ok-clone-4.field-0.items ≡ numbers_in c.args.judge.now.numbers.items =
    mapped (option_map numbers_view) (λ old new is. search rules) c.args.judge.now.numbers.items c.in_ok-clone-4.field-0.items
    c.in_ok-clone-4.ensures.cases.0 in
    record {
      watch = c.in_ok-clone.ensures.cases;
      names = c.in_ok-clone-2.ensures.cases;
      resets = refl;
      loads = c.in_ok-clone-3.ensures.cases;
      numbers = numbers;
      pending = c.in_ok-clone-5.ensures.cases;
      requests = refl;
      answered = refl;
      text = c.in_ok-copy_text.ensures.items ∙ c.deref.ensures.value;
      room = c.in_ok-copy_text.ensures.room;
    }
