-- What is written of a dump by the names of a system is rows of a capture of it.
use Rattle.std.proofs.Common.{◌≡◌, ◌∙◌, ℕ, Bool, true, false, List, is_some, option_map, Result, Ok, Err, arith, refl, subst, sym}
use Rattle.std.proofs.lemmas.List.{length-map}
use Rattle.check_vcd.specs.Body.{happenings, start}
use Rattle.check_vcd.specs.Header.{Opened, Var, blank, opening}
use Rattle.check_vcd.specs.Words.{Word, dump_words}
use Rattle.check_description.specs.Port.{Port}
use Rattle.check_description.specs.Description.{Description, Makes}
use Rattle.check_description.specs.File.{Parts, parts_of}
use Rattle.check_description.specs.Master.{Master}
use Rattle.check_description.specs.Buses.{master_buses, port_buses}
use Rattle.check_samples.specs.Sampling.{rows_from}
use Rattle.check_beats.specs.declared.bus.Bus.{Bus}
use Rattle.check_samples.specs.Resets.{unwatched_reset}
use Rattle.check_signals.specs.Found.{ClockSources, Found, FoundSources, all_of, find_of, found_in, found_of, sampling_of, sources_in, system_reset, values_kept}
use Rattle.check_signals.specs.Source.{Kept, SearchFault}
use Rattle.tl_text.specs.Reading.{◌>>=◌}
use Rattle.check_signals.specs.Names.{SignalNames, names_of_file}
use Rattle.check_wave_laws.specs.Text.{HasRows}
use Rattle.check_wave_laws.proofs.Counts.{same-counts}
use Rattle.check_wave_laws.proofs.Dumps.{dump-rows}
use Rattle.check_wave_laws.proofs.Kept.{all-found, sources-told}

-- what is looked at tells resets if the names do
told-by : (told : Bool) (kept : List Kept) (system : ClockSources)
    → is_some (option_map unwatched_reset (system_reset told kept system)) ≡ true → told ≡ true
told-by true kept system tells = refl
told-by false kept system tells = absurd (cc)

found-told : (vars : List Var) (masters ports : List Bus) (names : SignalNames) (found : Found)
    → found_in vars masters ports names ≡ Ok found → is_some (sampling_of found).resets ≡ true → names.resets ≡ true
unfolding found_in
found-told vars masters ports names found is tells =
    go (sources_in vars masters ports names) (λ sources made. sources-told vars masters ports names sources made) is
  where
    go : (r : Result FoundSources SearchFault)
        → ((sources : FoundSources) → r ≡ Ok sources → sources.resets ≡ names.resets)
        → (r >>= (λ sources. Ok (found_of sources))) ≡ Ok found → names.resets ≡ true
    go (Err fault) same e = absurd (cc)
    go (Ok sources) same e =
        let made : found_of sources ≡ found = cc in
        sym (same sources refl)
        ∙ told-by sources.resets (values_kept (all_of sources)) sources.system
        (subst (λ (f : Found). is_some (sampling_of f).resets ≡ true) (sym made) tells)

pub system-rows : (line : ℕ) (file text : List ℕ) (parts : Parts) (system : Description) (names : SignalNames)
    (vars : List Var) (words : List Word) (found : Found) → parts_of file ≡ Ok parts → Makes parts system
    → names_of_file file ≡ Ok names → opening (dump_words text) blank ≡ Opened vars words
    → found_in vars (master_buses system.masters) (port_buses system.ports) names ≡ Ok found
    → HasRows (master_buses system.masters) (port_buses system.ports) found.probes.channels system.resets line
    (rows_from (happenings (find_of vars found) words start) (sampling_of found)).text
system-rows line file text parts system names vars words found has makes named opened is =
    let counts = same-counts file names parts system has makes named in
    let masters = master_buses system.masters in
    let ports = port_buses system.ports in
    let fits = all-found vars masters ports names found is in
    dump-rows masters ports system.resets line text vars words (find_of vars found) (sampling_of found)
    (omega (arith, counts.few_masters, length-map system.masters (λ (master : Master). master.bus)))
    (omega (arith, counts.few_ports, length-map system.ports (λ (port : Port). port.bus))) opened fits.1 fits.0
    (λ tells. sym counts.resets ∙ found-told vars masters ports names found is tells)
