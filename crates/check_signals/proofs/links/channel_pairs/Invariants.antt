-- The channels so far, and those of the rest, are those of all; and so is what is put together.
use Rattle.std.proofs.Common.{◌≡◌, ◌+◌, ◌++◌, drop, map}
use Rattle.check_signals.specs.Found.{channel_pairs, clocks_view, link_bits, link_joins, link_sources_view}
use Rattle.check_signals.specs.Source.{kept_view}
use Rattle.check_signals.proofs.links.channel_pairs.Given as goal

abbrev pub invariant-loop-link : goal.invariant-loop-link
invariant-loop-link l =
    let kept = map kept_view l.kept in
    let clocks = map clocks_view l.clocks in
    let rest = map link_sources_view (drop l.link-index l.links) in
    let all = map link_sources_view l.links in
    record {
      pairs : l.pairs.items ++ channel_pairs kept clocks l.joins.bits rest ≡ channel_pairs kept clocks l.fn.joins.bits all;
      taps : l.joins.taps.items ++ link_joins kept rest ≡ l.fn.joins.taps.items ++ link_joins kept all;
      bits : l.joins.bits + link_bits rest ≡ l.fn.joins.bits + link_bits all;
    }
