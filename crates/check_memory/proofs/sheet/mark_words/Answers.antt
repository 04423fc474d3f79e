use Rattle.std.proofs.Common.{◌∙◌, inl, inr, ⊎_elim, ◌/◌, ◌<◌, length, arith}
use Rattle.std.proofs.lemmas.Bool.{cases_eq}
use Rattle.std.proofs.lemmas.List.{length-set}
use Rattle.tl_types.proofs.Given.{bit_in-set_there}
use Rattle.check_memory.proofs.MaskWords.{marked_here}
use Rattle.check_memory.proofs.sheet.mark_words.Goals as goal

pub loop-word-preserved : goal.loop-word-preserved
loop-word-preserved c =
    let masks = c.loop-word.masks in
    let word = c.loop-word.word in
    let mask = c.mask_of.result in
    let within : word < length masks = omega (arith, c.requires, c.loop-word.invariant.counted) in
    record {
      inside = λ place from below. ⊎_elim
          (λ here. marked_here masks word mask c.args.known place within c.mask_of.ensures here)
          (λ there. bit_in-set_there masks word mask place there
          ∙ c.loop-word.invariant.inside place from (omega (arith, below, there)))
          (cases_eq (place / 8) word);
      outside = λ place beside.
          bit_in-set_there masks word mask place
          (⊎_elim (λ before here. omega (arith, before, here, c.loop-word.auto.word))
          (λ past here. omega (arith, past, here)) beside)
          ∙ c.loop-word.invariant.outside place
          (⊎_elim (λ before. inl before) (λ past. inr (omega (arith, past))) beside);
      counted = length-set masks word mask ∙ c.loop-word.invariant.counted;
    }
