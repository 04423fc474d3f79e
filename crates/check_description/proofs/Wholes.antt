-- Ports that are wholly known at reset.
use Rattle.std.proofs.Common.{◌≡◌, ◌∙◌, ℕ, ◌+◌, ◌^◌, ◌≤◌, true, List, [], ◌++◌, length, take, drop, replicate, Some, refl, arith}
use Rattle.std.proofs.lemmas.List.{length-append, length-drop, length-take, length-replicate}
use Rattle.tl_ops.specs.declared.kind.Kind.TheVariants.{NoDevice}
use Rattle.check_memory.specs.Known.{known, replaced}
use Rattle.check_memory.specs.Place.{tabulate}
use Rattle.tl_ops.specs.Support.{row_of_kind}
use Rattle.check_description.specs.Laws.{ErrorPortIsWhole, KnownPortIsWhole}
use Rattle.check_description.specs.Ranges.{first_base}
use Rattle.check_description.specs.Slave.{ungiven_memory, memory_at_reset}
use Rattle.check_description.proofs.Ends.{first_within, kept_within}
use Rattle.check_description.proofs.Stores.{blank_known, known-replaced}

-- so many zeros; never computed, since there are 2 ^ 64
zeros : ℕ → List ℕ
zeros count = replicate count 0

blank_zeros : (n : ℕ) → tabulate (λ _. Some 0) n ≡ known (zeros n)
unfolding zeros
blank_zeros n = blank_known n

length-zeros : (n : ℕ) → length (zeros n) ≡ n
unfolding zeros
length-zeros n = length-replicate n 0

length-replaced : (bytes new : List ℕ) (start : ℕ) → start + length new ≤ length bytes
    → length (replaced bytes start new) ≡ length bytes
length-replaced bytes new start fits =
    omega (
      arith,
      length-append (take start bytes ++ new) (drop (start + length new) bytes),
      length-append (take start bytes) new,
      length-take start bytes,
      length-drop (start + length new) bytes,
    )

cells_known : (n base : ℕ) (image reset : List ℕ)
    → replaced (replaced (tabulate (λ _. Some 0) n) base (known image)) base (known reset)
    ≡ known (replaced (replaced (zeros n) base image) base reset)
cells_known n base image reset =
    rw (blank_zeros n, known-replaced (zeros n) image base, known-replaced (replaced (zeros n) base image) reset base) refl

pub known_port_is_whole : KnownPortIsWhole
known_port_is_whole kind port image of =
    let base = first_base port.ranges in
    let reset = port.contents.reset in
    let under : List ℕ = replaced (zeros (2 ^ 64)) base image in
    let end = first_within port.ranges of.lawful in
    let all : length (zeros (2 ^ 64)) ≡ 2 ^ 64 = length-zeros (2 ^ 64) in
    let under_counted : length under ≡ 2 ^ 64 =
    length-replaced (zeros (2 ^ 64)) image base (omega (arith, end, all, of.image_fits)) ∙ all in
    let counted : length (replaced under base reset) ≡ 2 ^ 64 =
    length-replaced under reset base (omega (arith, end, under_counted, of.reset_fits)) ∙ under_counted in
    record {
      memory = memory_at_reset kind port image;
      bytes = replaced under base reset;
      is = rw (of.kind_is, of.known, cells_known (2 ^ 64) base image reset) refl;
      within = rw counted (kept_within port.mirror port.ranges of.lawful);
      still = of.still;
    }

pub error_port_is_whole : ErrorPortIsWhole
error_port_is_whole corrupt order = record {
  memory = ungiven_memory NoDevice (row_of_kind NoDevice) [] [] [] true;
  bytes = zeros (2 ^ 64);
  is = rw (blank_zeros (2 ^ 64)) refl;
  within = λ place d inside. absurd (omega (arith, inside));
  still = refl;
}
