-- The parts' ranges, counts and operations are what was tried.
use Rattle.std.proofs.Common.{◌≡◌, ◌≢◌, ◌∙◌, List, [], ◌∷◌, length, map, refl, ap, sym, arith}
use Rattle.std.proofs.lemmas.List.{length-map}
use Rattle.tl_map.specs.declared.range.Range.{Range}
use Rattle.tl_map.specs.Map.{one_each}
use Rattle.tl_script.specs.Map.{AreLawfulRanges}
use Rattle.tl_script.specs.Sources.{AreLawfulCounts, IsFirstSourceFault}
use Rattle.tl_map.specs.Blocks.{AreBlocks, counts_in}
use Rattle.tl_map.proofs.Counted.{counts_are}
use Rattle.tl_script.proofs.Counts.{lawful_blocks}
use Rattle.tl_script.specs.Master.{ScriptMaster, LawfulSoFar, script_master_view}
use Rattle.tl_script.specs.Script.{IsFirstFaultOfScriptParts, counts_of, script_parts_view, script_ranges}
use Rattle.tl_script.specs.System.{range_of, store_of}
use Rattle.tl_script.specs.Reading.{source_fault}
use Rattle.tl_script.specs.declared.fault.ScriptFault.{ScriptFault}
use Rattle.tl_script.specs.declared.fault.ScriptFault.TheVariants.{Memory}
use Rattle.tl_script.specs.declared.parts.ScriptMaster as code_master
use Rattle.tl_script.specs.declared.system.Device.{Device}
use Rattle.tl_script.proofs.Systems.{error_is, jobs_refused, sources_refused, system_of-made}
use Rattle.tl_script.proofs.script.make_system.Goals as goal

pub returns-in_err-sources-clause-fault : goal.returns-in_err-sources-clause-fault
returns-in_err-sources-clause-fault c =
    let parts = script_parts_view c.args.parts in
    let ranges : c.deref-3.result.now ≡ script_ranges parts =
    c.deref-3.ensures.value ∙ c.in_ok-ranges.ensures
    ∙ ap (λ (ds : List Device). map range_of (map store_of ds)) c.deref.ensures.value in
    let counts : c.deref-4.result.now ≡ counts_of parts =
    c.deref-4.ensures.value ∙ c.in_ok-counts.ensures
    ∙ ap (λ (ms : List code_master.ScriptMaster). map (λ (m : ScriptMaster). m.sources)
    (map script_master_view ms)) c.deref-2.ensures.value in
    let lawful : AreLawfulRanges (script_ranges parts) = rw (← ranges) c.in_ok-map.ensures.lawful in
    let first : IsFirstSourceFault (counts_of parts) c.in_err-sources.field-0.0 =
    rw (← counts) c.in_err-sources.ensures.fault in
    let refused = sources_refused parts c.in_err-sources.field-0.0 lawful first in
    error_is (λ (fault : ScriptFault). fault ≢ Memory → IsFirstFaultOfScriptParts parts fault)
    (source_fault c.in_err-sources.field-0.0) c.from_residual-in_err-sources.result
    c.from_residual-in_err-sources.ensures.1 refused

pub returns-in_err-jobs-clause-fault : goal.returns-in_err-jobs-clause-fault
returns-in_err-jobs-clause-fault c =
    let parts = script_parts_view c.args.parts in
    let ranges : c.deref-3.result.now ≡ script_ranges parts =
    c.deref-3.ensures.value ∙ c.in_ok-ranges.ensures
    ∙ ap (λ (ds : List Device). map range_of (map store_of ds)) c.deref.ensures.value in
    let counts : c.deref-4.result.now ≡ counts_of parts =
    c.deref-4.ensures.value ∙ c.in_ok-counts.ensures
    ∙ ap (λ (ms : List code_master.ScriptMaster). map (λ (m : ScriptMaster). m.sources)
    (map script_master_view ms)) c.deref-2.ensures.value in
    let lawful_ranges : AreLawfulRanges (script_ranges parts) = rw (← ranges) c.in_ok-map.ensures.lawful in
    let lawful_counts : AreLawfulCounts (counts_of parts) = rw (← counts) c.in_ok-sources.ensures.lawful in
    let read = rw c.deref-5.ensures.value at c.in_err-jobs.ensures.value in
    let refused = jobs_refused parts c.in_err-jobs.field-0.0 lawful_ranges lawful_counts c.in_err-jobs.ensures.bad read in
    error_is (λ (fault : ScriptFault). fault ≢ Memory
    → IsFirstFaultOfScriptParts parts fault) c.in_err-jobs.field-0.0 c.from_residual-in_err-jobs.result
    c.from_residual-in_err-jobs.ensures.1 refused

pub new-requires : goal.new-requires
new-requires c =
    let parts = script_parts_view c.args.parts in
    let owners = c.in_ok-sources.sources in
    let ranges : c.in_ok-map.map ≡ one_each (script_ranges parts) =
    c.in_ok-map.ensures.made ∙ ap one_each (c.deref-3.ensures.value ∙ c.in_ok-ranges.ensures
    ∙ ap (λ (ds : List Device). map range_of (map store_of ds)) c.deref.ensures.value) in
    let counts : c.deref-4.result.now ≡ counts_of parts =
    c.deref-4.ensures.value ∙ c.in_ok-counts.ensures
    ∙ ap (λ (ms : List code_master.ScriptMaster). map (λ (m : ScriptMaster). m.sources)
    (map script_master_view ms)) c.deref-2.ensures.value in
    let blocks : AreBlocks (counts_of parts) owners = rw (← counts) c.in_ok-sources.ensures.made in
    let lawful_counts : AreLawfulCounts (counts_of parts) = rw (← counts) c.in_ok-sources.ensures.lawful in
    let same : counts_in owners ≡ counts_of parts = counts_are (counts_of parts) owners blocks in
    let tried : c.deref-3.result.now ≡ script_ranges parts =
    c.deref-3.ensures.value ∙ c.in_ok-ranges.ensures
    ∙ ap (λ (ds : List Device). map range_of (map store_of ds)) c.deref.ensures.value in
    let lawful_ranges : AreLawfulRanges (script_ranges parts) = rw (← tried) c.in_ok-map.ensures.lawful in
    let ports = length-map (script_ranges parts) (λ (range : Range). range ∷ []) in
    let few_ranges = lawful_ranges.in_limit in
    let few_counts = lawful_counts.masters in
    let as_many = blocks.counted in
    let counted : length (counts_of parts) ≡ length c.args.parts.masters.items =
    length-map parts.masters (λ (m : ScriptMaster). m.sources) ∙ length-map c.args.parts.masters.items script_master_view in
    let many : length owners ≡ length c.args.parts.masters.items = blocks.counted ∙ counted in
    let lawful : LawfulSoFar (counts_of parts) c.in_ok-jobs.jobs.items (length c.args.parts.masters.items) =
    rw c.deref-5.ensures.value at c.in_ok-jobs.ensures.lawful in
    rw ranges record {
      some_slots = c.args.parts.some_slots;
      slots = c.args.parts.slots_in_limit;
      masters = rw many c.args.parts.some_masters;
      few_masters = omega (arith, few_counts, as_many);
      blocks = lawful_blocks (counts_of parts) owners lawful_counts blocks;
      ranges = refl;
      few_ports = omega (arith, ports, few_ranges);
      lengths = c.args.parts.lengths;
      lists = lawful.counted ∙ sym many;
      jobs = rw same lawful.each;
    }

pub returns-clause-made : goal.returns-clause-made
returns-clause-made c =
    let parts = script_parts_view c.args.parts in
    let ranges : c.in_ok-map.map ≡ one_each (script_ranges parts) =
    c.in_ok-map.ensures.made ∙ ap one_each (c.deref-3.ensures.value ∙ c.in_ok-ranges.ensures
    ∙ ap (λ (ds : List Device). map range_of (map store_of ds)) c.deref.ensures.value) in
    let counts : c.deref-4.result.now ≡ counts_of parts =
    c.deref-4.ensures.value ∙ c.in_ok-counts.ensures
    ∙ ap (λ (ms : List code_master.ScriptMaster). map (λ (m : ScriptMaster). m.sources)
    (map script_master_view ms)) c.deref-2.ensures.value in
    let tried : c.deref-3.result.now ≡ script_ranges parts =
    c.deref-3.ensures.value ∙ c.in_ok-ranges.ensures
    ∙ ap (λ (ds : List Device). map range_of (map store_of ds)) c.deref.ensures.value in
    let lawful_ranges : AreLawfulRanges (script_ranges parts) = rw (← tried) c.in_ok-map.ensures.lawful in
    let lawful_counts : AreLawfulCounts (counts_of parts) = rw (← counts) c.in_ok-sources.ensures.lawful in
    let blocks : AreBlocks (counts_of parts) c.in_ok-sources.sources = rw (← counts) c.in_ok-sources.ensures.made in
    let read = rw c.deref-5.ensures.value at c.in_ok-jobs.ensures.value in
    system_of-made parts c.in_ok-sources.sources c.in_ok-map.map c.in_ok-jobs.jobs.items c.new.result lawful_ranges
    lawful_counts blocks ranges read c.new.ensures
