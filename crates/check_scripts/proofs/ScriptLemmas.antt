-- The tables of a script, and its masters, read as those of a system file.
use Rattle.std.proofs.Common.{◌≡◌, ◌∙◌, ℕ, suc, ◌<◌, ◌≤◌, nat_lt, Bool, true, false, List, [], ◌∷◌, length, map, Option, Some, None, Result, Ok, Err, ok_or, refl, sym, ap, arith}
use Rattle.std.specs.Prelude.{if◌then◌else◌, ◌+◌, is_some}
use Rattle.std.specs.List.{AllByRecursion, filter_map, list_any}
use Rattle.std.specs.Str.{is_utf8}
use Rattle.std.proofs.lemmas.Bool.{le-ltb, ltb-false}
use Rattle.std.proofs.lemmas.List.{length-map}
use Rattle.std.proofs.lemmas.List.Elements.{recursion_from_All}
use Rattle.toml.specs.Data.{Data, Items, Members, get_member, as_table, as_array}
use Rattle.toml.specs.Parse.{parse_document}
use Rattle.tl_map.specs.Range.{IsEmpty}
use Rattle.tl_map.specs.Blocks.{counts_in}
use Rattle.tl_map.proofs.BlockFacts.{one_list}
use Rattle.tl_map.proofs.Counted.{counts_are}
use Rattle.tl_script.specs.Sources.{AreLawfulCounts}
use Rattle.tl_ops.specs.Store.{Store}
use Rattle.tl_script.specs.Master.{ScriptMaster as OldMaster, lines_at as old_lines_at, master_of as old_master_of, script_masters as old_masters_of}
use Rattle.tl_script.specs.Port.{port_of as old_port_of, script_port_tables as old_port_tables, script_ports as old_ports_of}
use Rattle.tl_script.specs.Map.{AreLawfulRanges}
use Rattle.tl_script.specs.Key.{script_key_name as old_key_name}
use Rattle.tl_script.specs.Script.{ScriptParts as OldParts, counts_of as old_counts_of, script_document as old_document_of, parts_in as old_parts_in, script_parts as old_parts_of, script_ranges as old_ranges_of}
use Rattle.tl_script.specs.System.{System as OldSystem, range_of}
use Rattle.tl_types.specs.declared.limits.TheConstants.{MAX_SLOTS}
use Rattle.tl_script.specs.Value.{list_of, list_at as old_list_at, script_number_at as old_number_at, some_of as old_some_of, script_table_of as old_table_of, script_tables_of as old_tables_of, script_value_at as old_value_at}
use Rattle.tl_script.specs.declared.fault.ScriptKey as old_key
use Rattle.tl_script.specs.declared.fault.ScriptKey.TheVariants.{Slots as OldSlots, Port as OldPort, Master as OldMasterKey, Sources as OldSources}
use Rattle.tl_script.specs.declared.fault.ScriptFault.{ScriptFault}
use Rattle.tl_script.specs.declared.fault.ScriptFault.TheVariants.{Missing as OldMissing, WrongType as OldWrongType, NotToml as OldNotToml, TooLong as OldTooLong}
use Rattle.check_description.specs.File.{Parts, document_of, parts_in, parts_of}
use Rattle.check_description.specs.Placed.{names_of_masters, paths_at, paths_from, placed_of}
use Rattle.check_description.specs.Reach.{reach_at}
use Rattle.check_description.specs.declared.placed.PlacedMaster.{PlacedMaster}
use Rattle.check_description.specs.Rules.{by_address_in, rules_in}
use Rattle.check_description.specs.declared.rules.SystemRules.{SystemRules}
use Rattle.check_scripts.specs.Instance.{ArePortsOf, DescribesTheSame, IsAbsent, IsPlainMaster, IsPlainPort, NamesTheSame, SaysNothingNew, nothing_said, plain_master, strict_rules}
use Rattle.check_keys.specs.Key.{key_name}
use Rattle.tl_map.specs.declared.owners.Owner.{Owner}
use Rattle.check_description.specs.Master.{HasOwners, IsInBlocks, Master, counts_of, said_owners, first_at, has_first, master_of, master_tables, masters_of, stride_at}
use Rattle.check_keys.specs.Name.{name_at}
use Rattle.check_description.specs.Port.{Port, names_of_ports, port_tables, ports_of, tables_by}
use Rattle.tl_text.specs.Reading as steps
use Rattle.check_beats.specs.declared.bus.Bus.TheVariants.{Eight}
use Rattle.check_keys.specs.Bus.{bus_in_table}
use Rattle.check_keys.specs.Value.{array_of, flag_at, number_at, number_if_any, table_of, tables_of, text_if_any, up_to, value_at}
use Rattle.check_keys.specs.declared.fault.Key.{Key}
use Rattle.check_keys.specs.declared.fault.Key.TheVariants.{Bus, Unaligned, Corrupt, Decode, Resets, Period, Port as PortKey, Master as MasterKey, Sources}
use Rattle.check_keys.specs.declared.fault.SystemFault.{SystemFault}
use Rattle.check_keys.specs.declared.fault.SystemFault.TheVariants.{Missing, NotToml, TooLong, WrongType}
use Rattle.tl_map.specs.declared.limits.TheConstants.{MAX_JUDGED_MASTERS, MAX_JUDGED_PORTS, MAX_JUDGED_SOURCES}
use Rattle.check_description.specs.declared.read.TheConstants.{MAX_SYSTEM}
use Rattle.check_scripts.proofs.Ports.{ReadsPorts, each_first, each_none, number_at_same, number_at_within, ok_or_same, ports_same}

-- what a step gave, and what the next made of it
pub taken : {A B F : Type 0} (read : Result A F) (f : A → Result B F) (y : B) → steps.◌>>=◌ read f ≡ Ok y
    → (x : A) × (read ≡ Ok x) × (f x ≡ Ok y)
taken (Ok x) f y is = (x, refl, is)
taken (Err e) f y is = absurd cc

-- ---- tables

each_table_same : (old_k : old_key.ScriptKey) (key : Key) (values : List Data) (tables : List Members)
    → steps.each (old_table_of old_k) values ≡ Ok tables → steps.each (table_of key) values ≡ Ok tables
each_table_same old_k key [] [] is = refl
each_table_same old_k key [] (table ∷ tables) is = absurd cc
each_table_same old_k key (value ∷ values) [] is =
    absurd (each_none (old_table_of old_k value) (steps.each (old_table_of old_k) values) is)
each_table_same old_k key (value ∷ values) (table ∷ tables) is =
    let both = each_first (old_table_of old_k value) (steps.each (old_table_of old_k) values) table tables is in
    let first = ok_or_same (as_table value) (OldWrongType old_k) (WrongType key) table both.0 in
    let rest = each_table_same old_k key values tables both.1 in
    rw (first, rest) refl

items_same : (old_k : old_key.ScriptKey) (key : Key) (items : Option Items) (tables : List Members)
    → (steps.◌>>=◌ (steps.◌>>=◌ (ok_or items (OldWrongType old_k)) (λ items. Ok (list_of items)))
    (steps.each (old_table_of old_k))) ≡ Ok tables
    → (steps.◌>>=◌ (steps.◌>>=◌ (ok_or items (WrongType key)) (λ items. Ok (list_of items))) (steps.each (table_of key)))
    ≡ Ok tables
items_same old_k key None tables is = absurd cc
items_same old_k key (Some items) tables is = each_table_same old_k key (list_of items) tables is

tables_of_same : (old_k : old_key.ScriptKey) (key : Key) (value : Data) (tables : List Members)
    → old_tables_of old_k value ≡ Ok tables → tables_of key value ≡ Ok tables
unfolding old_list_at array_of
tables_of_same old_k key value tables is = items_same old_k key (as_array value) tables is

-- ---- ports

few_ports : (tables : List Members) (read : Result (List Members) SystemFault) → read ≡ Ok tables
    → length tables ≤ MAX_JUDGED_PORTS → steps.◌>>=◌ read (up_to PortKey MAX_JUDGED_PORTS) ≡ Ok tables
few_ports tables read is few =
    let not_more : nat_lt MAX_JUDGED_PORTS (length tables) ≡ false = le-ltb MAX_JUDGED_PORTS (length tables) few in
    rw (is, not_more) refl

-- the ports that the value at the key is
pub record ReadsValue (value : Option Data) (stores : List Store) : Type 0 where
  pub tables : List Members
  pub tables_are : tables_by value ≡ Ok tables
  pub same : ReadsPorts tables stores

each_counted : (tables : List Members) (stores : List Store) → steps.each old_port_of tables ≡ Ok stores
    → length tables ≡ length stores
each_counted [] [] is = refl
each_counted [] (store ∷ stores) is = absurd cc
each_counted (table ∷ tables) [] is = absurd (each_none (old_port_of table) (steps.each old_port_of tables) is)
each_counted (table ∷ tables) (store ∷ stores) is =
    let both = each_first (old_port_of table) (steps.each old_port_of tables) store stores is in
    ap suc (each_counted tables stores both.1)

ports_of_same : (value : Option Data) (stores : List Store) → length stores ≤ MAX_JUDGED_PORTS
    → ((tables : List Members) → tables_by value ≡ Ok tables → AllByRecursion IsPlainPort tables)
    → AllByRecursion (λ store. IsEmpty (range_of store) → ⊥) stores
    → (steps.◌>>=◌ (old_port_tables value) (steps.each old_port_of)) ≡ Ok stores → ReadsValue value stores
ports_of_same None stores few plain some is =
    record { tables = []; tables_are = refl; same = ports_same [] stores (plain [] refl) some is }
ports_of_same (Some value) stores few plain some is =
    let read = taken (old_tables_of OldPort value) (steps.each old_port_of) stores is in
    let counted : length read.0 ≡ length stores = each_counted read.0 stores read.2 in
    let tables_are = few_ports read.0 (tables_of PortKey value) (tables_of_same OldPort PortKey value read.0 read.1)
    (omega (arith, counted, few)) in
    record {
      tables = read.0;
      tables_are = tables_are;
      same = ports_same read.0 stores (plain read.0 tables_are) some read.2;
    }

-- ---- masters

value_at_same : (old_k : old_key.ScriptKey) (key : Key) (members : Members) (value : Data)
    → old_key_name old_k ≡ key_name key → old_value_at old_k members ≡ Ok value → value_at key members ≡ Ok value
unfolding old_value_at value_at
value_at_same old_k key members value named is =
    rw (← named) (ok_or_same (get_member (old_key_name old_k) members) (OldMissing old_k) (Missing key) value is)

sources_read : (sources : Result ℕ ScriptFault) (lines : Result (List (List ℕ)) ScriptFault) (master : OldMaster)
    → (steps.◌>>=◌ sources (λ count. steps.◌>>=◌ lines (λ ls. Ok (record { sources = count; lines = ls })))) ≡ Ok master
    → sources ≡ Ok master.sources
sources_read (Err e) lines master is = absurd cc
sources_read (Ok count) (Err e) master is = absurd cc
sources_read (Ok count) (Ok ls) master is =
    let same : record { sources = count; lines = ls } ≡ master = cc in
    ap (λ (m : OldMaster). Ok m.sources) same

master_same : (ports : List (Option (List ℕ))) (members : Members) (master : OldMaster) → IsPlainMaster members
    → 0 < master.sources → old_master_of members ≡ Ok master
    → master_of Eight ports false members ≡ Ok (plain_master master.sources)
unfolding old_master_of master_of name_at first_at stride_at bus_in_table reach_at flag_at text_if_any number_if_any
master_same ports members master plain some is =
    let read = sources_read (old_number_at OldSources 0 65535 members) (old_lines_at members) master is in
    let few = (number_at_within OldSources 0 65535 master.sources members read).1 in
    let sources : number_at Sources 1 MAX_JUDGED_SOURCES members ≡ Ok master.sources =
    number_at_same OldSources Sources 0 65535 1 MAX_JUDGED_SOURCES master.sources members refl read (omega (arith, some))
    (omega (arith, few)) in
    rw (plain.name, sources, plain.stride, plain.bus, plain.reach, plain.fifo) refl

-- how many sources the masters of a script have
abbrev pub said_counts : List OldMaster → List ℕ
said_counts masters = map (λ (master : OldMaster). master.sources) masters

masters_same : (ports : List (Option (List ℕ))) (tables : List Members) (masters : List OldMaster)
    → AllByRecursion IsPlainMaster tables
    → AllByRecursion (λ count. 0 < count) (said_counts masters) → steps.each old_master_of tables ≡ Ok masters
    → steps.each (master_of Eight ports false) tables ≡ Ok (map plain_master (said_counts masters))
masters_same ports [] [] plain some is = refl
masters_same ports [] (master ∷ masters) plain some is = absurd cc
masters_same ports (table ∷ tables) [] plain some is =
    absurd (each_none (old_master_of table) (steps.each old_master_of tables) is)
masters_same ports (table ∷ tables) (master ∷ masters) plain some is =
    let both = each_first (old_master_of table) (steps.each old_master_of tables) master masters is in
    let first = master_same ports table master plain.0 some.0 both.0 in
    let rest = masters_same ports tables masters plain.1 some.1 both.1 in
    rw (first, rest) refl

masters_counted : (tables : List Members) (masters : List OldMaster) → steps.each old_master_of tables ≡ Ok masters
    → length tables ≡ length masters
masters_counted [] [] is = refl
masters_counted [] (master ∷ masters) is = absurd cc
masters_counted (table ∷ tables) [] is =
    absurd (each_none (old_master_of table) (steps.each old_master_of tables) is)
masters_counted (table ∷ tables) (master ∷ masters) is =
    let both = each_first (old_master_of table) (steps.each old_master_of tables) master masters is in
    ap suc (masters_counted tables masters both.1)

none_has_first : (tables : List Members) → AllByRecursion IsPlainMaster tables → list_any has_first tables ≡ false
none_has_first [] plain = refl
none_has_first (table ∷ tables) plain = rw (plain.0.first, none_has_first tables plain.1) refl

some_is : (tables some : List Members) → old_some_of OldMasterKey tables ≡ Ok some
    → (tables ≡ some) × (nat_lt (length tables) 1 ≡ false)
some_is [] some is = absurd cc
some_is (table ∷ tables) some is = (cc, le-ltb (length (table ∷ tables)) 1 (omega arith))

tables_read : (members : Members) (value : Data) (tables : List Members) → value_at MasterKey members ≡ Ok value
    → tables_of MasterKey value ≡ Ok tables → nat_lt (length tables) 1 ≡ false
    → nat_lt MAX_JUDGED_MASTERS (length tables) ≡ false → master_tables members ≡ Ok tables
unfolding master_tables
tables_read fields value tables value_is tables_are some few = rw (value_is, tables_are, some, few) refl

masters_read : (ports : List (Option (List ℕ))) (members : Members) (tables : List Members) (masters : List Master)
    → master_tables members ≡ Ok tables
    → list_any has_first tables ≡ false → steps.each (master_of Eight ports false) tables ≡ Ok masters
    → masters_of Eight ports members ≡ Ok masters
unfolding masters_of
masters_read ports fields tables masters tables_are none read = rw (tables_are, none) read

pub masters_of_same : (ports : List (Option (List ℕ))) (members : Members) (masters : List OldMaster)
    → length masters ≤ MAX_JUDGED_MASTERS
    → ((tables : List Members) → master_tables members ≡ Ok tables → AllByRecursion IsPlainMaster tables)
    → AllByRecursion (λ count. 0 < count) (said_counts masters) → old_masters_of members ≡ Ok masters
    → masters_of Eight ports members ≡ Ok (map plain_master (said_counts masters))
unfolding old_masters_of
masters_of_same ports members masters few plain some is =
    let value = taken (old_value_at OldMasterKey members)
    (λ value. steps.◌>>=◌ (old_tables_of OldMasterKey value)
    (λ tables. steps.◌>>=◌ (old_some_of OldMasterKey tables) (steps.each old_master_of))) masters is in
    let tables = taken (old_tables_of OldMasterKey value.0)
    (λ tables. steps.◌>>=◌ (old_some_of OldMasterKey tables) (steps.each old_master_of)) masters value.2 in
    let kept = taken (old_some_of OldMasterKey tables.0) (steps.each old_master_of) masters tables.2 in
    let same = some_is tables.0 kept.0 kept.1 in
    let read : steps.each old_master_of tables.0 ≡ Ok masters = rw same.0 kept.2 in
    let counted = masters_counted tables.0 masters read in
    let not_more : nat_lt MAX_JUDGED_MASTERS (length tables.0) ≡ false =
    le-ltb MAX_JUDGED_MASTERS (length tables.0) (omega (arith, counted, few)) in
    let tables_are = tables_read members value.0 tables.0
    (value_at_same OldMasterKey MasterKey members value.0 refl value.1)
    (tables_of_same OldMasterKey MasterKey value.0 tables.0 tables.1) same.1 not_more in
    masters_read ports members tables.0 (map plain_master (said_counts masters)) tables_are
    (none_has_first tables.0 (plain tables.0 tables_are))
    (masters_same ports tables.0 masters (plain tables.0 tables_are) some read)

-- a script has a master
masters_some : (members : Members) (masters : List OldMaster) → old_masters_of members ≡ Ok masters → 0 < length masters
unfolding old_masters_of
masters_some members masters is =
    let value = taken (old_value_at OldMasterKey members)
    (λ value. steps.◌>>=◌ (old_tables_of OldMasterKey value)
    (λ tables. steps.◌>>=◌ (old_some_of OldMasterKey tables) (steps.each old_master_of))) masters is in
    let tables = taken (old_tables_of OldMasterKey value.0)
    (λ tables. steps.◌>>=◌ (old_some_of OldMasterKey tables) (steps.each old_master_of)) masters value.2 in
    let kept = taken (old_some_of OldMasterKey tables.0) (steps.each old_master_of) masters tables.2 in
    let same = some_is tables.0 kept.0 kept.1 in
    let read : steps.each old_master_of tables.0 ≡ Ok masters = rw same.0 kept.2 in
    let counted = masters_counted tables.0 masters read in
    omega (arith, counted, ltb-false (length tables.0) 1 same.1)

-- ---- the document

document_by : (long text : Bool) (parsed : Option Members) (members : Members)
    → (if long then Err OldTooLong else if text then ok_or parsed OldNotToml else Err OldNotToml) ≡ Ok members
    → (if long then Err TooLong else if text then ok_or parsed NotToml else Err NotToml) ≡ Ok members
document_by true text parsed fields is = absurd cc
document_by false true parsed fields is = ok_or_same parsed OldNotToml NotToml fields is
document_by false false parsed fields is = absurd cc

document_of_same : (bytes : List ℕ) (members : Members) → old_document_of bytes ≡ Ok members
    → document_of bytes ≡ Ok members
unfolding old_document_of document_of
document_of_same bytes members is =
    document_by (nat_lt MAX_SYSTEM (length bytes)) (is_utf8 bytes) (parse_document bytes) members is

-- ---- the parts

by_map : {A B : Type 0} (P : B → Type 0) (f : A → B) (xs : List A) → AllByRecursion P (map f xs)
    → AllByRecursion (λ x. P (f x)) xs
by_map P f [] all = all
by_map P f (x ∷ xs) all = (all.0, by_map P f xs all.1)

bus_read : (members : Members) → IsAbsent Bus members → bus_in_table Eight members ≡ Ok Eight
unfolding bus_in_table number_if_any
bus_read members absent = rw absent refl

decode_read : (members : Members) → IsAbsent Decode members → by_address_in members ≡ Ok false
unfolding by_address_in text_if_any
decode_read members absent = rw absent refl

-- the rules of a script: it has no resets
abbrev script_rules : SystemRules
script_rules = record { links = strict_rules; resets = false }

rules_read : (members : Members) → IsAbsent Unaligned members → IsAbsent Corrupt members → IsAbsent Decode members
    → IsAbsent Resets members → IsAbsent Period members → rules_in members ≡ Ok script_rules
unfolding rules_in flag_at number_if_any
rules_read members aligned corrupt decode resets period =
    rw (aligned, corrupt, decode_read members decode, resets, period) refl

-- no port of a script lists masters
lists_read : (names : List (Option (List ℕ))) (stores : List Store) (ports : List Port) → ArePortsOf stores ports
    → placed_of names ports ≡ Ok (nothing_said ports)
lists_read names [] [] are = refl
lists_read names [] (port ∷ ports) are = absurd are
lists_read names (store ∷ stores) [] are = absurd are
lists_read names (store ∷ stores) (port ∷ ports) are = rw (are.0.listed, lists_read names stores ports are.1) refl

none_listed : (ports : List Port)
    → list_any is_some (nothing_said {A = Port} {B = List PlacedMaster} ports) ≡ false
none_listed [] = refl
none_listed (port ∷ ports) = none_listed ports

-- so its masters have paths to all ports
paths_read : (lists : List (Option (List PlacedMaster))) → list_any is_some lists ≡ false → (number : ℕ) (counts : List ℕ)
    → paths_from lists number (map plain_master counts) ≡ Ok (nothing_said (map plain_master counts))
unfolding paths_at
paths_read lists none number [] = refl
paths_read lists none number (count ∷ counts) = rw (none, paths_read lists none (number + 1) counts) refl

parts_read : (members : Members) (ports : List Port) (masters : List Master) (lists : List (Option (List PlacedMaster)))
    (paths : List (Option (List Bool))) → bus_in_table Eight members ≡ Ok Eight
    → rules_in members ≡ Ok script_rules
    → ports_of Eight false members ≡ Ok ports → masters_of Eight (names_of_ports ports) members ≡ Ok masters
    → placed_of (names_of_masters masters) ports ≡ Ok lists → paths_from lists 0 masters ≡ Ok paths
    → parts_in members ≡ Ok (record {
      rules = strict_rules;
      resets = false;
      ports = ports;
      masters = masters;
      lists = lists;
      paths = paths;
    })
unfolding parts_in
parts_read fields ports masters lists paths bus_is rules_are ports_are masters_are lists_are paths_are =
    rw (bus_is, rules_are, ports_are, masters_are, lists_are, paths_are) refl

ports_read : (members : Members) (stores : List Store)
    (read : ReadsValue (get_member (key_name PortKey) members) stores)
    → ports_of Eight false members ≡ Ok read.same.ports
unfolding ports_of port_tables
ports_read fields stores read = rw (read.tables_are) read.same.read

-- what the parts of a script were read from
record IsReadOf (members : Members) (parts : OldParts) : Type 0 where
  pub ports : old_ports_of members ≡ Ok parts.stores
  pub masters : old_masters_of members ≡ Ok parts.masters

parts_split : (slots : Result ℕ ScriptFault) (ports : Result (List Store) ScriptFault)
    (masters : Result (List OldMaster) ScriptFault) (parts : OldParts)
    → (steps.◌>>=◌ slots (λ n. steps.◌>>=◌ ports (λ ss. steps.◌>>=◌ masters
    (λ ms. Ok (record { slots = n; stores = ss; masters = ms }))))) ≡ Ok parts
    → (ports ≡ Ok parts.stores) × (masters ≡ Ok parts.masters)
parts_split (Err e) ports masters parts is = absurd cc
parts_split (Ok n) (Err e) masters parts is = absurd cc
parts_split (Ok n) (Ok ss) (Err e) parts is = absurd cc
parts_split (Ok n) (Ok ss) (Ok ms) parts is =
    let same : record { slots = n; stores = ss; masters = ms } ≡ parts = cc in
    (ap (λ (p : OldParts). Ok p.stores) same, ap (λ (p : OldParts). Ok p.masters) same)

parts_in_split : (members : Members) (parts : OldParts) → old_parts_in members ≡ Ok parts → IsReadOf members parts
unfolding old_parts_in
parts_in_split members parts is =
    let both = parts_split (old_number_at OldSlots 1 MAX_SLOTS members) (old_ports_of members)
    (old_masters_of members) parts is in
    record { ports = both.0; masters = both.1 }

ports_of_read : (members : Members) (stores : List Store) → length stores ≤ MAX_JUDGED_PORTS
    → ((tables : List Members) → port_tables members ≡ Ok tables → AllByRecursion IsPlainPort tables)
    → AllByRecursion (λ store. IsEmpty (range_of store) → ⊥) stores → old_ports_of members ≡ Ok stores
    → ReadsValue (get_member (key_name PortKey) members) stores
unfolding old_ports_of port_tables
ports_of_read members stores few plain some is =
    ports_of_same (get_member (key_name PortKey) members) stores few plain some is

no_names : (counts : List ℕ) → filter_map (λ (master : Master). master.name) (map plain_master counts) ≡ []
no_names [] = refl
no_names (count ∷ counts) = no_names counts

-- the parts of a script with these ports and with masters of so many sources
abbrev script_parts : List Port → List ℕ → Parts
script_parts ports counts = record {
  rules = strict_rules;
  resets = false;
  ports = ports;
  masters = map plain_master counts;
  lists = nothing_said ports;
  paths = nothing_said (map plain_master counts);
}

-- the parts of a script as those of a system file
record ReadsScript (bytes : List ℕ) (parts : OldParts) : Type 0 where
  pub ports : List Port
  pub read : parts_of bytes ≡ Ok (script_parts ports (old_counts_of parts))
  pub slaves : ArePortsOf parts.stores ports
  pub names : filter_map (λ (port : Port). port.name) ports ≡ []
  pub some : 0 < length (old_counts_of parts)

parts_of_same : (bytes : List ℕ) (parts : OldParts) → SaysNothingNew bytes → AreLawfulRanges (old_ranges_of parts)
    → AreLawfulCounts (old_counts_of parts) → old_parts_of bytes ≡ Ok parts → ReadsScript bytes parts
parts_of_same bytes parts plain ranges counts is =
    let document = taken (old_document_of bytes) old_parts_in parts is in
    let members = document.0 in
    let document_is = document_of_same bytes members document.1 in
    let read = parts_in_split members parts document.2 in
    let few_ports : length parts.stores ≤ MAX_JUDGED_PORTS =
    omega (arith, ranges.in_limit, length-map parts.stores range_of) in
    let some_bytes : AllByRecursion (λ store. IsEmpty (range_of store) → ⊥) parts.stores =
    by_map (λ range. IsEmpty range → ⊥) range_of parts.stores
    (recursion_from_All (λ range. IsEmpty range → ⊥) (old_ranges_of parts) ranges.some) in
    let ports = ports_of_read members parts.stores few_ports (λ tables. plain.ports members tables document_is)
    some_bytes read.ports in
    let few_masters : length parts.masters ≤ MAX_JUDGED_MASTERS =
    omega (arith, counts.masters, length-map parts.masters (λ (master : OldMaster). master.sources)) in
    let masters = masters_of_same (names_of_ports ports.same.ports) members parts.masters few_masters (λ tables. plain.masters members tables document_is)
    (recursion_from_All (λ count. 0 < count) (old_counts_of parts) counts.some) read.masters in
    record {
      ports = ports.same.ports;
      read = rw document_is (parts_read members ports.same.ports (map plain_master (old_counts_of parts))
          (nothing_said ports.same.ports) (nothing_said (map plain_master (old_counts_of parts)))
          (bus_read members (plain.bus members document_is)) (rules_read members (plain.unaligned members document_is)
          (plain.corrupt members document_is) (plain.decode members document_is) (plain.resets members document_is)
          (plain.period members document_is))
          (ports_read members parts.stores ports) masters
          (lists_read (names_of_masters (map plain_master (old_counts_of parts))) parts.stores ports.same.ports ports.same.are)
          (paths_read (nothing_said ports.same.ports) (none_listed ports.same.ports) 0 (old_counts_of parts)));
      slaves = ports.same.are;
      names = ports.same.names;
      some = omega (
        arith,
        masters_some members parts.masters read.masters,
        length-map parts.masters (λ (master : OldMaster). master.sources),
      );
    }

-- a script that says nothing new names the same parts
pub names_same : NamesTheSame
names_same bytes script spelled plain =
    let parts = spelled.parts in
    let counts : counts_in script.owners ≡ old_counts_of parts =
    counts_are (old_counts_of parts) script.owners spelled.makes.blocks in
    let stores : script.stores ≡ parts.stores = ap (λ (s : OldSystem). s.stores) spelled.makes.made in
    let read = parts_of_same bytes parts plain spelled.makes.ranges spelled.makes.counts spelled.named in
    let some = read.some in
    let counted = spelled.makes.blocks.counted in
    record {
      parts = script_parts read.ports (old_counts_of parts);
      named = read.read;
      rules = refl;
      resets = refl;
      slaves = rw stores read.slaves;
      masters = ap (λ counts. map plain_master counts) (sym counts);
      lists = refl;
      paths = refl;
      names = rw (read.names, no_names (old_counts_of parts)) refl;
      some = omega (arith, some, counted);
    }

-- what some parts name is what they are
same_parts : (read : Result Parts SystemFault) (one other : Parts) → read ≡ Ok one → read ≡ Ok other → one ≡ other
same_parts read one other is also = cc

-- masters that say only how many sources they have say no owners, if there are any masters
none_said : (counts : List ℕ) → 0 < length counts → said_owners (map plain_master counts) ≡ None
none_said [] some = absurd (omega arith)
none_said (count ∷ counts) some = refl

counted_back : (counts : List ℕ) → counts_of (map plain_master counts) ≡ counts
counted_back [] = refl
counted_back (count ∷ counts) = ap (λ rest. count ∷ rest) (counted_back counts)

blocks_of : (masters : List Master) (counts : List ℕ) (owners : List Owner) → 0 < length counts
    → masters ≡ map plain_master counts → HasOwners masters owners → IsInBlocks counts owners
blocks_of masters counts owners some are has =
    rw (are, none_said counts some, counted_back counts) at has

-- the system of such a script is the same
pub system_same : DescribesTheSame
system_same bytes script parts system spelled plain read makes =
    let named = names_same bytes script spelled plain in
    let same : parts ≡ named.parts = same_parts (parts_of bytes) parts named.parts read named.named in
    let ports : system.ports ≡ named.parts.ports = makes.ports ∙ ap (λ (p : Parts). p.ports) same in
    let masters : parts.masters ≡ map plain_master (counts_in script.owners) =
    ap (λ (p : Parts). p.masters) same ∙ named.masters in
    let counted = length-map script.owners (λ (owner : Owner). owner.count) in
    let some = named.some in
    let blocks = blocks_of parts.masters (counts_in script.owners) system.owners (omega (arith, some, counted)) masters
    makes.owners in
    let counts : counts_in script.owners ≡ old_counts_of spelled.parts =
    counts_are (old_counts_of spelled.parts) script.owners spelled.makes.blocks in
    record {
      rules = makes.rules ∙ ap (λ (p : Parts). p.rules) same ∙ named.rules;
      resets = makes.resets ∙ ap (λ (p : Parts). p.resets) same ∙ named.resets;
      slaves = rw ports named.slaves;
      masters = makes.masters ∙ masters;
      owners = one_list (counts_in script.owners) system.owners script.owners blocks.blocks
          (rw counts spelled.makes.blocks);
      lists = makes.lists ∙ ap (λ (p : Parts). p.lists) same ∙ named.lists ∙ ap (λ ports. nothing_said ports) (sym ports);
      paths = makes.paths ∙ ap (λ (p : Parts). p.paths) same ∙ named.paths
          ∙ ap (λ masters. nothing_said masters) (sym (makes.masters ∙ ap (λ (p : Parts). p.masters) same));
    }
