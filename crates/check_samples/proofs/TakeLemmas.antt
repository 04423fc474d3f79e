-- What happens, and the rows that are left to come.
use Rattle.std.proofs.Common.{◌≡◌, ℕ, true, false, List, ◌∷◌, ◌++◌, Some, Ok, Err, refl, ap, ◌∙◌, append_assoc}
use Rattle.check_vcd.specs.Body.{Happens, At, Sets, Resumes}
use Rattle.check_samples.specs.EdgeFault.{some_crossed}
use Rattle.check_samples.specs.Rows.{Writes, and_then}
use Rattle.check_samples.specs.Sampling.{LeadsToRows, Sampling, at_time, is_at, rows_from, rows_now, with_value}
use Rattle.check_samples.specs.declared.sampler.SampleFault.{SampleFault}
use Rattle.check_samples.specs.declared.sampler.SampleFault.TheVariants.{Unknown, Gap, Memory}

-- a value changes
pub takes-value : (text : List ℕ) (old new : Sampling) (slot : ℕ) (digits : List ℕ) (rest : List Happens)
    → new ≡ with_value old slot digits
    → LeadsToRows (Ok tt) text text (rows_from (Sets slot digits ∷ rest) old) (rows_from rest new)
unfolding rows_from
takes-value text old new slot digits rest is = (
  ap (λ (s : Sampling). text ++ (rows_from rest s).text) is,
  ap (λ (s : Sampling). (rows_from rest s).fault) is,
)

-- the present time begins again
pub takes-same : (text : List ℕ) (old : Sampling) (time : ℕ) (rest : List Happens) → is_at old time ≡ true
    → LeadsToRows (Ok tt) text text (rows_from (At time ∷ rest) old) (rows_from rest old)
unfolding rows_from
takes-same text old time rest same = rw same (refl, refl)

-- another time begins
another : (old : Sampling) (time : ℕ) (rest : List Happens) → is_at old time ≡ false
    → rows_from (At time ∷ rest) old ≡ and_then (rows_now old) (rows_from rest (at_time old time))
unfolding rows_from
another old time rest not = rw not refl

pub takes-time : (start text : List ℕ) (old new : Sampling) (time : ℕ) (rest : List Happens)
    → is_at old time ≡ false → Writes (Ok tt) start text (rows_now old) → new ≡ at_time old time
    → LeadsToRows (Ok tt) start text (rows_from (At time ∷ rest) old) (rows_from rest new)
takes-time start text old new time rest not writes is =
    let all = rows_now old in
    let whole = another old time rest not in
    let both : rows_from (At time ∷ rest) old ≡ record {
      text = all.text ++ (rows_from rest (at_time old time)).text;
      fault = (rows_from rest (at_time old time)).fault;
    } = rw writes.1 at whole in
    rw (both, is) (
      ap (λ (t : List ℕ). t ++ (rows_from rest (at_time old time)).text) writes.0
          ∙ append_assoc start all.text (rows_from rest (at_time old time)).text,
      refl,
    )

-- a beat of the time that is over is none
pub takes-none : (start text : List ℕ) (old new : Sampling) (time : ℕ) (rest : List Happens) (fault : SampleFault)
    → is_at old time ≡ false → Writes (Err fault) start text (rows_now old)
    → LeadsToRows (Err fault) start text (rows_from (At time ∷ rest) old) (rows_from rest new)
takes-none start text old new time rest (Unknown fault) not writes =
    let all = rows_now old in
    let whole = another old time rest not in
    let both : rows_from (At time ∷ rest) old ≡ record { text = all.text; fault = Some fault } =
    rw writes.1 at whole in
    rw both (writes.0, refl)
takes-none start text old new time rest (Gap line) not writes = absurd writes
takes-none start text old new time rest Memory not writes = tt

-- changes are told again, and no beat had crossed
pub takes-resume : (text : List ℕ) (old : Sampling) (line : ℕ) (rest : List Happens) → some_crossed old.watched ≡ false
    → LeadsToRows (Ok tt) text text (rows_from (Resumes line ∷ rest) old) (rows_from rest old)
unfolding rows_from
takes-resume text old line rest none = rw none (refl, refl)
