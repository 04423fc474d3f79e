-- A system has as many links as its file gives names for, none or all of a link.
use Rattle.std.proofs.Common.{◌≡◌, ◌∙◌, ℕ, ◌<◌, ◌≤◌, ◌^◌, nat_lt, Bool, true, false, ◌||◌, cond, List, [], ◌∷◌, length, Option, Some, None, Result, Ok, Err, ok_or, unwrap_or, arith, refl, subst, sym, ap}
use Rattle.std.proofs.lemmas.Bool.{ltb-false}
use Rattle.std.specs.List.{list_any}
use Rattle.std.specs.Str.{is_utf8}
use Rattle.toml.specs.Data.{Data, Items, Members, as_array, as_bool, get_member}
use Rattle.toml.specs.Parse.{parse_document}
use Rattle.tl_script.specs.Value.{list_of}
use Rattle.tl_map.specs.declared.limits.TheConstants.{MAX_JUDGED_MASTERS, MAX_JUDGED_PORTS}
use Rattle.check_signals.specs.Names.{Common, LinkNames, SignalNames, all_names, clock_checked, common_in, have_signals, link_of, links_by, links_in, names_of_file, need_clock, resets_in}
use Rattle.check_signals.specs.declared.fault.SignalKey.{SignalKey}
use Rattle.check_signals.specs.declared.fault.SignalKey.TheVariants as key
use Rattle.check_signals.specs.declared.fault.KeyFault.{KeyFault}
use Rattle.check_signals.specs.declared.fault.KeyFault.TheVariants as key_fault
use Rattle.check_beats.specs.declared.bus.Bus.{Bus}
use Rattle.check_beats.specs.declared.bus.Bus.TheVariants.{Eight}
use Rattle.check_description.specs.declared.rules.SystemRules.{SystemRules}
use Rattle.check_keys.specs.Bus.{bus_in_table}
use Rattle.check_keys.specs.Key as system_key
use Rattle.tl_text.specs.Reading.{◌>>=◌, each, if_any}
use Rattle.check_keys.specs.Value.{array_of, flag_at, flag_of, last_integer, number_if_any, one_up_to, table_of, tables_of, up_to, value_at}
use Rattle.check_keys.specs.declared.fault.Key as part_key
use Rattle.check_keys.specs.declared.fault.Key.TheVariants as part
use Rattle.check_keys.specs.declared.fault.SystemFault.{SystemFault}
use Rattle.check_keys.specs.declared.fault.SystemFault.TheVariants as fault
use Rattle.check_description.specs.Port.{Port, names_of_ports, port_of, port_tables, ports_of, tables_by}
use Rattle.check_description.specs.Description.{Description, Makes}
use Rattle.check_description.specs.File.{Parts, document_of, parts_in, parts_of}
use Rattle.check_description.specs.Rules.{by_address_in, rules_in}
use Rattle.check_description.specs.Master.{Master, has_first, master_of, master_tables, masters_of}
use Rattle.check_description.specs.Placed.{names_of_masters, paths_from, placed_of}
use Rattle.check_description.specs.declared.placed.PlacedMaster.{PlacedMaster}
use Rattle.check_description.specs.declared.read.TheConstants.{MAX_SYSTEM}

-- ---- each of a list

each-counts : {A B F : Type 0} → (f : A → Result B F) (xs : List A) (ys : List B) → each f xs ≡ Ok ys
    → length xs ≡ length ys
each-counts {A} {B} {F} f [] ys is = let none : [] ≡ ys = cc in ap length none
each-counts {A} {B} {F} f (x ∷ xs) ys is = go (f x) (each f xs) (λ zs same. each-counts f xs zs same) is
  where
    go : (r : Result B F) (rest : Result (List B) F) → ((zs : List B) → rest ≡ Ok zs → length xs ≡ length zs)
        → (r >>= (λ y. rest >>= (λ zs. Ok (y ∷ zs)))) ≡ Ok ys → length (x ∷ xs) ≡ length ys
    go (Err e) rest more same = absurd (cc)
    go (Ok y) (Err e) more same = absurd (cc)
    go (Ok y) (Ok zs) more same =
        let all : y ∷ zs ≡ ys = cc in
        omega (arith, more zs refl, ap length all)

-- ---- one document

-- both read the table of one document
record Table (file : List ℕ) (names : SignalNames) (parts : Parts) : Type 0 where
  members : Members
  named : all_names members ≡ Ok names
  divided : parts_in members ≡ Ok parts

one-table : (file : List ℕ) (names : SignalNames) (parts : Parts) → names_of_file file ≡ Ok names
    → parts_of file ≡ Ok parts → Table file names parts
unfolding names_of_file document_of
one-table file names parts named divided =
    go (nat_lt MAX_SYSTEM (length file)) (is_utf8 file) (parse_document file) named divided
  where
    go : (long text : Bool) (read : Option Members)
        → cond text (◌>>=◌ (ok_or read key_fault.NotToml) all_names) (Err key_fault.NotToml) ≡ Ok names
        → (cond long (Err fault.TooLong) (cond text (ok_or read fault.NotToml) (Err fault.NotToml)) >>= parts_in)
        ≡ Ok parts
        → Table file names parts
    go true text read x y = absurd (cc)
    go false true None x y = absurd (cc)
    go false true (Some members) x y = record { members = members; named = x; divided = y }
    go false false read x y = absurd (cc)

-- the links of each kind, by what the file says of all links
record Links (members : Members) (names : SignalNames) : Type 0 where
  top : Common
  resets : resets_in members ≡ Ok names.resets
  ports : links_in top key.Port members ≡ Ok names.ports
  masters : links_in top key.Master members ≡ Ok names.masters

links-are : (members : Members) (names : SignalNames) → all_names members ≡ Ok names → Links members names
unfolding all_names
links-are members names is = go (common_in members) (resets_in members) refl is
  where
    by : (top : Common) (told : Bool) (p m : Result (List (Option LinkNames)) KeyFault) → resets_in members ≡ Ok told
        → links_in top key.Port members ≡ p → links_in top key.Master members ≡ m
        → ◌>>=◌ p (λ of_ports. ◌>>=◌ m (λ of_masters.
        ◌>>=◌ (clock_checked (have_signals of_ports || have_signals of_masters)
        (need_clock of_ports || need_clock of_masters) top.system.clock)
        (λ checked. Ok (record { system = top.system; resets = told; ports = of_ports; masters = of_masters })))) ≡ Ok names
        → Links members names
    by top told (Err e) m r x y w = absurd (cc)
    by top told (Ok p) (Err e) r x y w = absurd (cc)
    by top told (Ok p) (Ok m) r x y w =
        last (clock_checked (have_signals p || have_signals m) (need_clock p || need_clock m) top.system.clock) w
      where
        last : (n : Result Unit KeyFault)
            → ◌>>=◌ n (λ checked. Ok (record { system = top.system; resets = told; ports = p; masters = m })) ≡ Ok names
            → Links members names
        last (Err e) z = absurd (cc)
        last (Ok checked) z =
            let made : SignalNames = record { system = top.system; resets = told; ports = p; masters = m } in
            let same : made ≡ names = cc in
            record {
              top = top;
              resets = r ∙ ap (λ (n : SignalNames). Ok n.resets) same;
              ports = x ∙ ap (λ (n : SignalNames). Ok n.ports) same;
              masters = y ∙ ap (λ (n : SignalNames). Ok n.masters) same;
            }

    go : (c : Result Common KeyFault) (r : Result Bool KeyFault) → resets_in members ≡ r
        → ◌>>=◌ c (λ top. ◌>>=◌ r (λ told. ◌>>=◌ (links_in top key.Port members) (λ of_ports.
        ◌>>=◌ (links_in top key.Master members) (λ of_masters.
        ◌>>=◌ (clock_checked (have_signals of_ports || have_signals of_masters)
        (need_clock of_ports || need_clock of_masters) top.system.clock)
        (λ checked. Ok (record { system = top.system; resets = told; ports = of_ports; masters = of_masters })))))) ≡ Ok names
        → Links members names
    go (Err e) r x w = absurd (cc)
    go (Ok top) (Err e) x w = absurd (cc)
    go (Ok top) (Ok told) x w =
        by top told (links_in top key.Port members) (links_in top key.Master members) x refl refl w

abbrev made_of : SystemRules → List Port → List Master → List (Option (List PlacedMaster)) → List (Option (List Bool)) → Parts
made_of rules ports masters lists paths = record {
  rules = rules.links;
  resets = rules.resets;
  ports = ports;
  masters = masters;
  lists = lists;
  paths = paths;
}

-- the parts of each kind
record Divided (members : Members) (parts : Parts) : Type 0 where
  bus : Bus
  rules : SystemRules
  ruled : rules_in members ≡ Ok rules
  resets : rules.resets ≡ parts.resets
  ports : ports_of bus rules.resets members ≡ Ok parts.ports
  masters : masters_of bus (names_of_ports parts.ports) members ≡ Ok parts.masters

parts-are : (members : Members) (parts : Parts) → parts_in members ≡ Ok parts → Divided members parts
unfolding parts_in
parts-are members parts is = go (bus_in_table Eight members) (rules_in members) refl is
  where
    by : (bus : Bus) (rules : SystemRules) (p : Result (List Port) SystemFault) → rules_in members ≡ Ok rules
        → ports_of bus rules.resets members ≡ p
        → (p >>= (λ of_ports. masters_of bus (names_of_ports of_ports) members
        >>= (λ of_masters. placed_of (names_of_masters of_masters) of_ports
        >>= (λ of_lists. paths_from of_lists 0 of_masters >>= (λ of_paths.
        Ok (made_of rules of_ports of_masters of_lists of_paths)))))) ≡ Ok parts
        → Divided members parts
    by bus rules (Err e) r x w = absurd (cc)
    by bus rules (Ok p) r x w = then (masters_of bus (names_of_ports p) members) refl w
      where
        then : (m : Result (List Master) SystemFault) → masters_of bus (names_of_ports p) members ≡ m
            → (m >>= (λ of_masters. placed_of (names_of_masters of_masters) p
            >>= (λ of_lists. paths_from of_lists 0 of_masters >>= (λ of_paths.
            Ok (made_of rules p of_masters of_lists of_paths))))) ≡ Ok parts → Divided members parts
        then (Err e) y z = absurd (cc)
        then (Ok m) y z = placed (placed_of (names_of_masters m) p) z
          where
            pathed : (lists : List (Option (List PlacedMaster))) (q : Result (List (Option (List Bool))) SystemFault)
                → (q >>= (λ of_paths. Ok (made_of rules p m lists of_paths))) ≡ Ok parts → Divided members parts
            pathed lists (Err e) v = absurd (cc)
            pathed lists (Ok paths) v =
                let same : made_of rules p m lists paths ≡ parts = cc in
                record {
                  bus = bus;
                  rules = rules;
                  ruled = r;
                  resets = ap (λ (n : Parts). n.resets) same;
                  ports = x ∙ ap (λ (n : Parts). Ok n.ports) same;
                  masters = subst (λ (n : Parts). masters_of bus (names_of_ports n.ports) members ≡ Ok n.masters) same y;
                }

            placed : (l : Result (List (Option (List PlacedMaster))) SystemFault)
                → (l >>= (λ of_lists. paths_from of_lists 0 m >>= (λ of_paths. Ok (made_of rules p m of_lists of_paths)))) ≡ Ok parts
                → Divided members parts
            placed (Err e) v = absurd (cc)
            placed (Ok lists) v = pathed lists (paths_from lists 0 m) v

    go : (b : Result Bus SystemFault) (r : Result SystemRules SystemFault) → rules_in members ≡ r
        → (b >>= (λ bus. r >>= (λ rules. ports_of bus rules.resets members >>= (λ of_ports.
        masters_of bus (names_of_ports of_ports) members
        >>= (λ of_masters. placed_of (names_of_masters of_masters) of_ports
        >>= (λ of_lists. paths_from of_lists 0 of_masters >>= (λ of_paths.
        Ok (made_of rules of_ports of_masters of_lists of_paths))))))))
        ≡ Ok parts
        → Divided members parts
    go (Err e) r x w = absurd (cc)
    go (Ok bus) (Err e) x w = absurd (cc)
    go (Ok bus) (Ok rules) x w = by bus rules (ports_of bus rules.resets members) x refl w

-- ---- the values at a key

-- as many links as the array at a key has values
link-values : (top : Common) (which : SignalKey) (value : Data) (links : List (Option LinkNames))
    → links_by top which (Some value) ≡ Ok links
    → (items : Items) × (as_array value ≡ Some items) × (length (list_of items) ≡ length links)
link-values top which value links is = go (as_array value) refl is
  where
    go : (o : Option Items) → as_array value ≡ o
        → ◌>>=◌ (ok_or o (key_fault.WrongType which)) (λ items. each (link_of top which) (list_of items))
        ≡ Ok links
        → (items : Items) × (as_array value ≡ Some items) × (length (list_of items) ≡ length links)
    go None x y = absurd (cc)
    go (Some items) x y = (items, x, each-counts (link_of top which) (list_of items) links y)

-- as many tables, if they are tables
table-values : (value : Data) (which : part_key.Key) (tables : List Members) (items : Items)
    → as_array value ≡ Some items → tables_of which value ≡ Ok tables → length (list_of items) ≡ length tables
unfolding array_of
table-values value which tables items is named =
    each-counts (table_of which) (list_of items) tables (go (as_array value) is named)
  where
    go : (o : Option Items) → o ≡ Some items
        → ((ok_or o (fault.WrongType which) >>= (λ xs. Ok (list_of xs))) >>= each (table_of which)) ≡ Ok tables
        → each (table_of which) (list_of items) ≡ Ok tables
    go None x y = absurd (cc)
    go (Some others) x y =
        let same : others ≡ items = cc in
        ap (λ (xs : Items). each (table_of which) (list_of xs)) (sym same) ∙ y

few : {A : Type 0} → (which : part_key.Key) (most : ℕ) (xs ys : List A) → up_to which most xs ≡ Ok ys
    → (xs ≡ ys) × (length ys ≤ most)
few which most xs ys is = go (nat_lt most (length xs)) refl is
  where
    go : (t : Bool) → nat_lt most (length xs) ≡ t → cond t (Err (fault.OutOfRange which)) (Ok xs) ≡ Ok ys
        → (xs ≡ ys) × (length ys ≤ most)
    go true x y = absurd (cc)
    go false x y =
        let same : xs ≡ ys = cc in
        (same, omega (arith, ltb-false most (length xs) x, ap length same))

-- ---- the counts

ports-same : (bus : Bus) (resets : Bool) (top : Common) (members : Members) (links : List (Option LinkNames))
    (of_ports : List Port)
    → links_in top key.Port members ≡ Ok links → ports_of bus resets members ≡ Ok of_ports
    → (length links ≡ length of_ports) × (length of_ports ≤ MAX_JUDGED_PORTS)
unfolding links_in ports_of port_tables
ports-same bus resets top members links of_ports named divided =
    go (get_member (system_key.key_name part.Port) members) named divided
  where
    by : (value : Data) → links_by top key.Port (Some value) ≡ Ok links → (r : Result (List Members) SystemFault)
        → tables_of part.Port value ≡ r → ((r >>= up_to part.Port MAX_JUDGED_PORTS) >>= each (port_of bus resets)) ≡ Ok of_ports
        → (length links ≡ length of_ports) × (length of_ports ≤ MAX_JUDGED_PORTS)
    by value x (Err e) at y = absurd (cc)
    by value x (Ok tables) at y = then (up_to part.Port MAX_JUDGED_PORTS tables) refl y
      where
        then : (r : Result (List Members) SystemFault) → up_to part.Port MAX_JUDGED_PORTS tables ≡ r
            → (r >>= each (port_of bus resets)) ≡ Ok of_ports
            → (length links ≡ length of_ports) × (length of_ports ≤ MAX_JUDGED_PORTS)
        then (Err e) z w = absurd (cc)
        then (Ok some) z w =
            let found = link-values top key.Port value links x in
            let are = few part.Port MAX_JUDGED_PORTS tables some z in
            let count = table-values value part.Port tables found.0 found.1 at in
            let parts = each-counts (port_of bus resets) some of_ports w in
            (omega (arith, found.2, count, ap length are.0, parts), omega (arith, are.1, parts))

    go : (o : Option Data) → links_by top key.Port o ≡ Ok links → (tables_by o >>= each (port_of bus resets)) ≡ Ok of_ports
        → (length links ≡ length of_ports) × (length of_ports ≤ MAX_JUDGED_PORTS)
    go None x y =
        let one : [] ≡ links = cc in
        let two : [] ≡ of_ports = cc in
        (ap length (sym one) ∙ ap length two, omega (arith, ap length two))
    go (Some value) x y = by value x (tables_of part.Port value) refl y

-- the tables of an array of masters
abbrev counted : Data → Result (List Members) SystemFault
counted value = tables_of part.Master value >>= one_up_to part.Master MAX_JUDGED_MASTERS

masters-same : (bus : Bus) (top : Common) (ports : List (Option (List ℕ))) (members : Members) (links : List (Option LinkNames)) (of_masters : List Master)
    → links_in top key.Master members ≡ Ok links → masters_of bus ports members ≡ Ok of_masters
    → (length links ≡ length of_masters) × (length of_masters ≤ MAX_JUDGED_MASTERS)
unfolding links_in masters_of master_tables value_at
masters-same bus top ports members links of_masters named divided =
    go (get_member (system_key.key_name part.Master) members) named divided
  where
    by : (value : Data) → links_by top key.Master (Some value) ≡ Ok links → (r : Result (List Members) SystemFault)
        → tables_of part.Master value ≡ r
        → ((r >>= one_up_to part.Master MAX_JUDGED_MASTERS)
        >>= (λ tables. each (master_of bus ports (list_any has_first tables)) tables)) ≡ Ok of_masters
        → (length links ≡ length of_masters) × (length of_masters ≤ MAX_JUDGED_MASTERS)
    by value x (Err e) at y = absurd (cc)
    by value x (Ok tables) at y = then (nat_lt (length tables) 1) (up_to part.Master MAX_JUDGED_MASTERS tables) refl y
      where
        then : (t : Bool) (r : Result (List Members) SystemFault) → up_to part.Master MAX_JUDGED_MASTERS tables ≡ r
            → ((cond t (Err (fault.OutOfRange part.Master)) (Ok tables) >>= up_to part.Master MAX_JUDGED_MASTERS)
            >>= (λ some. each (master_of bus ports (list_any has_first some)) some)) ≡ Ok of_masters
            → (length links ≡ length of_masters) × (length of_masters ≤ MAX_JUDGED_MASTERS)
        then true r z w = absurd (cc)
        then false r z w =
            last r z
            (ap (λ (q : Result (List Members) SystemFault). q >>= (λ some. each (master_of bus ports (list_any has_first some)) some))
            (sym z) ∙ w)
          where
            last : (r : Result (List Members) SystemFault) → up_to part.Master MAX_JUDGED_MASTERS tables ≡ r
                → (r >>= (λ some. each (master_of bus ports (list_any has_first some)) some)) ≡ Ok of_masters
                → (length links ≡ length of_masters) × (length of_masters ≤ MAX_JUDGED_MASTERS)
            last (Err e) z w = absurd (cc)
            last (Ok some) z w =
                let found = link-values top key.Master value links x in
                let are = few part.Master MAX_JUDGED_MASTERS tables some z in
                let count = table-values value part.Master tables found.0 found.1 at in
                let parts = each-counts (master_of bus ports (list_any has_first some)) some of_masters w in
                (omega (arith, found.2, count, ap length are.0, parts), omega (arith, are.1, parts))

    go : (o : Option Data) → links_by top key.Master o ≡ Ok links
        → ((ok_or o (fault.Missing part.Master) >>= counted)
        >>= (λ tables. each (master_of bus ports (list_any has_first tables)) tables)) ≡ Ok of_masters
        → (length links ≡ length of_masters) × (length of_masters ≤ MAX_JUDGED_MASTERS)
    go None x y = absurd (cc)
    go (Some value) x y = by value x (tables_of part.Master value) refl y

-- ---- resets

-- what a table says of resets is told, and the same is described
resets-same : (members : Members) (told : Bool) (rules : SystemRules) → resets_in members ≡ Ok told
    → rules_in members ≡ Ok rules → told ≡ rules.resets
unfolding rules_in flag_at
resets-same members told rules is ruled =
    go (flag_at part.Unaligned members) (flag_at part.Corrupt members) (by_address_in members)
    (get_member (system_key.key_name part.Resets) members) (number_if_any part.Period 1 last_integer members) is ruled
  where
    by : (flag : Option Bool) (n : Result (Option ℕ) SystemFault) (unaligned corrupt by_address : Bool)
        → ◌>>=◌ (if_any (λ (b : Option Bool). ok_or b (key_fault.WrongType key.Resets)) (Some flag))
        (λ resets. Ok (unwrap_or resets false)) ≡ Ok told
        → (if_any (λ (b : Option Bool). ok_or b (fault.WrongType part.Resets)) (Some flag)
        >>= (λ f. Ok (unwrap_or f false))
        >>= (λ resets. n >>= (λ period. Ok (record {
          links = record { unaligned = unaligned; corrupt = corrupt; by_address = by_address; period = unwrap_or period 1 };
          resets = resets;
        })))) ≡ Ok rules
        → told ≡ rules.resets
    by None n unaligned corrupt by_address x y = absurd (cc)
    by (Some flag) (Err e) unaligned corrupt by_address x y = absurd (cc)
    by (Some flag) (Ok period) unaligned corrupt by_address x y =
        let one : flag ≡ told = cc in
        let made : SystemRules = record {
          links = record { unaligned = unaligned; corrupt = corrupt; by_address = by_address; period = unwrap_or period 1 };
          resets = flag;
        } in
        let same : made ≡ rules = cc in
        sym one ∙ ap (λ (r : SystemRules). r.resets) same

    go : (u c a : Result Bool SystemFault) (o : Option Data) (n : Result (Option ℕ) SystemFault)
        → ◌>>=◌ (if_any (λ value. ok_or (as_bool value) (key_fault.WrongType key.Resets)) o)
        (λ resets. Ok (unwrap_or resets false)) ≡ Ok told
        → (u >>= (λ unaligned. c >>= (λ corrupt. a >>= (λ by_address.
        if_any (flag_of part.Resets) o >>= (λ flag. Ok (unwrap_or flag false))
        >>= (λ resets. n >>= (λ period. Ok (record {
          links = record { unaligned = unaligned; corrupt = corrupt; by_address = by_address; period = unwrap_or period 1 };
          resets = resets;
        }))))))) ≡ Ok rules
        → told ≡ rules.resets
    go (Err e) c a o n x y = absurd (cc)
    go (Ok unaligned) (Err e) a o n x y = absurd (cc)
    go (Ok unaligned) (Ok corrupt) (Err e) o n x y = absurd (cc)
    go (Ok unaligned) (Ok corrupt) (Ok by_address) None (Err e) x y = absurd (cc)
    go (Ok unaligned) (Ok corrupt) (Ok by_address) None (Ok period) x y =
        let one : false ≡ told = cc in
        let made : SystemRules = record {
          links = record { unaligned = unaligned; corrupt = corrupt; by_address = by_address; period = unwrap_or period 1 };
          resets = false;
        } in
        let same : made ≡ rules = cc in
        sym one ∙ ap (λ (r : SystemRules). r.resets) same
    go (Ok unaligned) (Ok corrupt) (Ok by_address) (Some value) n x y =
        by (as_bool value) n unaligned corrupt by_address x y

-- as many names as links, of which there are few; and resets are told if the system has some
pub record SameCounts (names : SignalNames) (system : Description) : Type 0 where
  pub ports : length names.ports ≡ length system.ports
  pub masters : length names.masters ≡ length system.masters
  pub few_ports : length system.ports < 2 ^ 64
  pub few_masters : length system.masters < 2 ^ 64
  pub resets : names.resets ≡ system.resets

pub same-counts : (file : List ℕ) (names : SignalNames) (parts : Parts) (system : Description) → parts_of file ≡ Ok parts
    → Makes parts system → names_of_file file ≡ Ok names → SameCounts names system
same-counts file names parts system is makes named =
    let table = one-table file names parts named is in
    let links = links-are table.members names table.named in
    let divided = parts-are table.members parts table.divided in
    let of_ports =
    ports-same divided.bus divided.rules.resets links.top table.members names.ports parts.ports links.ports divided.ports in
    let of_masters = masters-same divided.bus links.top (names_of_ports parts.ports) table.members names.masters parts.masters links.masters divided.masters in
    let ports_are = ap (λ (xs : List Port). length xs) makes.ports in
    let masters_are = ap (λ (xs : List Master). length xs) makes.masters in
    record {
      ports = of_ports.0 ∙ sym ports_are;
      masters = of_masters.0 ∙ sym masters_are;
      few_ports = omega (arith, of_ports.1, ports_are);
      few_masters = omega (arith, of_masters.1, masters_are);
      resets = resets-same table.members names.resets divided.rules links.resets divided.ruled ∙ divided.resets
          ∙ sym makes.resets;
    }
