-- What a push of an operation, and of a master's operations, leads to.
use Rattle.std.proofs.Common.{◌≡◌, ◌∙◌, ℕ, ◌+◌, ◌<◌, List, [], ◌∷◌, ◌++◌, length, Some, slice_get, sym, ap, ⊎_elim, arith, length-append}
use Rattle.std.specs.Prelude.{All}
use Rattle.std.proofs.lemmas.Grind.{common_steps}
use Rattle.std.proofs.lemmas.List.Elements.{All-append, filter_map-append}
use Rattle.tl_types.proofs.Lists.{slice_get-push}
use Rattle.tl_types.specs.Request.{Request}
use Rattle.tl_script.specs.Master.{LawfulSoFar}
use Rattle.tl_script.specs.System.{AreLawfulJobs, IsFrom, sends, sent_by}
use Rattle.tl_script.specs.declared.operation.Job.{Job}
use Rattle.tl_script.specs.declared.operation.Job.TheVariants.{Wait, Send}

one_sent : (count : ℕ) (job : Job) → IsFrom count job → All (λ (ask : Request). ask.source < count) (sends (job ∷ []))
one_sent count Wait from = grind (arith, common_steps)
one_sent count (Send ask) from = grind (arith, common_steps)

pub sends-push : (count : ℕ) (jobs : List Job) (job : Job) → All (λ (ask : Request). ask.source < count) (sends jobs)
    → IsFrom count job
    → All (λ (ask : Request). ask.source < count) (sends (jobs ++ job ∷ []))
sends-push count jobs job before from =
    rw (filter_map-append sent_by jobs (job ∷ []))
    (All-append (λ (ask : Request). ask.source < count) (sends jobs) (sends (job ∷ [])) before
    (one_sent count job from))

pub lawful_more : (counts : List ℕ) (lists : List (List Job)) (jobs : List Job) (m count : ℕ)
    → LawfulSoFar counts lists m → slice_get counts m ≡ Some count
    → AreLawfulJobs count jobs → LawfulSoFar counts (lists ++ jobs ∷ []) (m + 1)
lawful_more counts lists jobs m count before here lawful = record {
  counted = length-append lists (jobs ∷ []) ∙ ap (λ (n : ℕ). n + 1) before.counted;
  each = λ k other found counted is.
      ⊎_elim (λ (old : slice_get lists k ≡ Some found). before.each k other found counted old)
      (λ (new : (k ≡ length lists) × (jobs ≡ found)).
      let at : k ≡ m = new.0 ∙ before.counted in
      let same : count ≡ other = some_is count other (sym here ∙ ap (slice_get counts) (sym at) ∙ counted) in
      rw (← same, ← new.1) lawful)
      (slice_get-push lists jobs found k is);
} where
  some_is : (x y : ℕ) → Some x ≡ Some y → x ≡ y
  some_is x y e = cc
