use Rattle.std.proofs.Common.{◌≡◌, ◌∙◌, ℤ, pos, rules, ap, subst, Some}
use Rattle.std.specs.declared.ops.Bound.TheVariants.{Included}
use Rattle.clap.specs.Words.{NarrowsTo, end_of, start_of}
use Rattle.clap.specs.declared.builder.value_parser.ValueParser.{ValueParser}
use Rattle.clap.specs.declared.builder.value_parser.ValueParser.TheVariants as values
use Rattle.tl_types.specs.declared.limits.TheConstants.{MAX_WORKERS}
use Rattle.tl_options.proofs.options.workers_option.Goals as goal

-- the numbers of all of `usize`, narrowed to those that there may be of workers
narrowed : (all some : ValueParser) (low high : ℤ) → all ≡ values.Unsigned 0 18446744073709551615
    → low ≡ pos 1 → high ≡ pos MAX_WORKERS → NarrowsTo all (start_of (Included low)) (end_of (Included high)) some
    → some ≡ values.Unsigned 1 MAX_WORKERS
narrowed all some low high is from to narrows =
    let of_usize = subst (λ (p : ValueParser). NarrowsTo p (start_of (Included low))
    (end_of (Included high)) some) is narrows in
    let from_one = subst (λ (n : ℤ). NarrowsTo (values.Unsigned 0 18446744073709551615) (start_of (Included n))
    (end_of (Included high)) some) from of_usize in
    subst (λ (n : ℤ). NarrowsTo (values.Unsigned 0 18446744073709551615) (start_of (Included (pos 1)))
    (end_of (Included n)) some) to from_one

pub returns : goal.returns
returns c =
    let count = c.value_parser-2.ensures.given in
    let ranged : c.range.result ≡ values.Unsigned 1 MAX_WORKERS =
    narrowed c.value_parser.result c.range.result c.new-2.result.start c.new-2.result.end c.value_parser.ensures
    c.new-2.ensures.start c.new-2.ensures.end c.range.ensures in
    let number : c.value_parser-2.result.value_parser ≡ Some (values.Unsigned 1 MAX_WORKERS) =
    count.1 ∙ ap Some (count.2 ∙ ranged) in
    record { rule = search (rules, number); local = search rules }
