-- The parts of a script, read as those of a system file.
use Rattle.std.proofs.Common.{◌≡◌, ◌∙◌, ℕ, ◌*◌, ◌-◌, ◌≤◌, nat_le, nat_lt, Bool, true, false, ◌&&◌, ℤ, pos, negsuc, List, [], ◌∷◌, ◌++◌, drop, length, replicate, Option, Some, None, Result, Ok, Err, ok_or, zero, suc, length-append, refl, sym, ap, arith}
use Rattle.std.specs.Prelude.{codes, if◌then◌else◌, unwrap_or}
use Rattle.std.specs.Str.{bytes_eq}
use Rattle.std.specs.Cmp.Derive.{both_true}
use Rattle.std.specs.List.{AllByRecursion, filter_map}
use Rattle.std.proofs.lemmas.Bool.{le-leb, leb-true, ltb-false, le-ltb}
use Rattle.std.proofs.lemmas.List.{drop-replicate, length-replicate}
use Rattle.toml.specs.Data.{Data, Members, get_member, as_integer, as_str}
use Rattle.tl_map.specs.Range.{IsEmpty}
use Rattle.tl_ops.specs.Store.{Store}
use Rattle.tl_ops.specs.declared.bank.TheConstants.{MAX_LENGTH}
use Rattle.tl_ops.specs.declared.kind.Kind as kind_of_slave
use Rattle.tl_ops.specs.declared.kind.Kind.TheVariants.{Ram, Rom, Regs, ClearRegs}
use Rattle.tl_script.specs.Port.{script_kind_of, pairs_of, filled, kind_at as old_kind_at, reset_at as old_reset_at, reset_text as old_reset_text, last_base, port_of as old_port_of}
use Rattle.tl_script.specs.System.{range_of}
use Rattle.tl_script.specs.Value.{script_in_range as old_in_range, script_number_at as old_number_at, script_value_at as old_value_at}
use Rattle.tl_script.specs.Key.{script_key_name as old_key_name}
use Rattle.tl_script.specs.declared.fault.ScriptKey as old_key
use Rattle.tl_script.specs.declared.fault.ScriptKey.TheVariants.{Kind as OldKind, Base as OldBase, Length as OldLength, Reset as OldReset}
use Rattle.tl_script.specs.declared.fault.ScriptFault.{ScriptFault}
use Rattle.tl_script.specs.declared.fault.ScriptFault.TheVariants.{Missing as OldMissing, WrongType as OldWrongType, OutOfRange as OldOutOfRange}
use Rattle.tl_script.proofs.Resets.{pairs_of-length}
use Rattle.check_keys.specs.Key.{key_name}
use Rattle.check_scripts.specs.Instance.{ArePortsOf, IsPlainPort, IsPortOf}
use Rattle.check_keys.specs.Name.{name_at}
use Rattle.check_description.specs.Contents.{contents_at, image_name_at, reset_at, reset_of}
use Rattle.check_description.specs.Kind.{kind_at, port_kind_of as new_kind_of}
use Rattle.check_description.specs.Crossing.{port_crossing_at, said_crossing}
use Rattle.check_description.specs.Listed.{listed_at}
use Rattle.check_description.specs.declared.crossing.PortCrossing.TheVariants.{Same}
use Rattle.check_description.specs.OnReset.{on_reset_at, said_on_reset}
use Rattle.check_description.specs.Order.{no_orders, orders_at}
use Rattle.check_description.specs.Port.{Port, port_of}
use Rattle.check_description.specs.Ranges.{plain_ranges, ranges_at}
use Rattle.check_description.specs.Sizes.{sizes_at}
use Rattle.check_description.specs.Mirror.{mirror_at}
use Rattle.check_description.specs.Volatile.{volatile_at}
use Rattle.check_description.specs.declared.on_reset.OnReset.TheVariants.{Never}
use Rattle.check_description.specs.declared.kind.PortKind.TheVariants.{Memory, Device}
use Rattle.check_beats.specs.declared.bus.Bus.TheVariants.{Eight}
use Rattle.check_keys.specs.Bus.{bus_in_table}
use Rattle.tl_text.specs.Reading as steps
use Rattle.check_keys.specs.Value.{flag_at, in_range, last_integer, number_at, number_if_any, number_in_value, text_if_any, text_of, value_at}
use Rattle.check_keys.specs.declared.fault.Key.{Key}
use Rattle.check_keys.specs.declared.fault.Key.TheVariants.{Kind, Base, Length, Reset}
use Rattle.check_keys.specs.declared.fault.SystemFault.{SystemFault}
use Rattle.check_keys.specs.declared.fault.SystemFault.TheVariants.{Missing, WrongType, OutOfRange}

-- ---- one step, with one fault or another

pub ok_or_same : {A F G : Type 0} (o : Option A) (e : F) (e' : G) (x : A) → ok_or o e ≡ Ok x → ok_or o e' ≡ Ok x
ok_or_same None e e' x is = absurd cc
ok_or_same (Some y) e e' x is = let same : y ≡ x = cc in ap Ok same

pub step_to : {A B C F G : Type 0} (o : Option A) (e : F) (e' : G) (f : A → Result B F) (g : A → Result C G) (y : B)
    (z : C) → ((x : A) → f x ≡ Ok y → g x ≡ Ok z) → (steps.◌>>=◌ (ok_or o e) f) ≡ Ok y
    → (steps.◌>>=◌ (ok_or o e') g) ≡ Ok z
step_to None e e' f g y z same is = absurd cc
step_to (Some x) e e' f g y z same is = same x is

pub step_same : {A B F G : Type 0} (o : Option A) (e : F) (e' : G) (f : A → Result B F) (g : A → Result B G) (y : B)
    → ((x : A) → f x ≡ Ok y → g x ≡ Ok y) → (steps.◌>>=◌ (ok_or o e) f) ≡ Ok y → (steps.◌>>=◌ (ok_or o e') g) ≡ Ok y
step_same o e e' f g y same is = step_to o e e' f g y y same is

-- ---- numbers

pub kept : {F : Type 0} (b : Bool) (m n : ℕ) (e : F) → (if b then Ok m else Err e) ≡ Ok n → m ≡ n
kept true m n e is = cc
kept false m n e is = absurd cc

in_range_same : (old_k : old_key.ScriptKey) (key : Key) (low high low' high' n : ℕ) (z : ℤ)
    → old_in_range old_k low high z ≡ Ok n → low' ≤ n → n ≤ high' → in_range key low' high' z ≡ Ok n
in_range_same old_k key low high low' high' n (pos m) is from to =
    let same : m ≡ n = kept (nat_le low m && nat_le m high) m n (OldOutOfRange old_k) is in
    rw (same, both_true (le-leb low' n from) (le-leb n high' to)) refl
in_range_same old_k key low high low' high' n (negsuc m) is from to = absurd cc

pub number_at_same : (old_k : old_key.ScriptKey) (key : Key) (low high low' high' n : ℕ) (members : Members)
    → old_key_name old_k ≡ key_name key → old_number_at old_k low high members ≡ Ok n → low' ≤ n → n ≤ high'
    → number_at key low' high' members ≡ Ok n
unfolding old_number_at old_value_at number_at number_in_value value_at
number_at_same old_k key low high low' high' n members named is from to =
    rw (← named) (step_same (get_member (old_key_name old_k) members) (OldMissing old_k) (Missing key)
    (λ value. steps.◌>>=◌ (ok_or (as_integer value) (OldWrongType old_k)) (old_in_range old_k low high))
    (λ value. steps.◌>>=◌ (ok_or (as_integer value) (WrongType key)) (in_range key low' high')) n
    (λ value. step_same (as_integer value) (OldWrongType old_k) (WrongType key) (old_in_range old_k low high)
    (in_range key low' high') n (λ z within. in_range_same old_k key low high low' high' n z within from to)) is)

pub both_parts : (a b : Bool) → a && b ≡ true → (a ≡ true) × (b ≡ true)
both_parts true b is = (refl, is)
both_parts false b is = absurd cc

pub passes : {F : Type 0} (b : Bool) (m n : ℕ) (e : F) → (if b then Ok m else Err e) ≡ Ok n → b ≡ true
passes true m n e is = refl
passes false m n e is = absurd cc

in_range_within : (old_k : old_key.ScriptKey) (low high n : ℕ) (z : ℤ) → old_in_range old_k low high z ≡ Ok n
    → (low ≤ n) × (n ≤ high)
in_range_within old_k low high n (pos m) is =
    let same : m ≡ n = kept (nat_le low m && nat_le m high) m n (OldOutOfRange old_k) is in
    let both = both_parts (nat_le low m) (nat_le m high)
    (passes (nat_le low m && nat_le m high) m n (OldOutOfRange old_k) is) in
    rw (← same) (leb-true low m both.0, leb-true m high both.1)
in_range_within old_k low high n (negsuc m) is = absurd cc

pub step_shows : {A B F : Type 0} (o : Option A) (e : F) (f : A → Result B F) (y : B) (P : Type 0)
    → ((x : A) → f x ≡ Ok y → P) → (steps.◌>>=◌ (ok_or o e) f) ≡ Ok y → P
step_shows None e f y P shows is = absurd cc
step_shows (Some x) e f y P shows is = shows x is

pub number_at_within : (old_k : old_key.ScriptKey) (low high n : ℕ) (members : Members)
    → old_number_at old_k low high members ≡ Ok n → (low ≤ n) × (n ≤ high)
unfolding old_number_at old_value_at
number_at_within old_k low high n members is =
    step_shows (get_member (old_key_name old_k) members) (OldMissing old_k)
    (λ value. steps.◌>>=◌ (ok_or (as_integer value) (OldWrongType old_k)) (old_in_range old_k low high)) n
    ((low ≤ n) × (n ≤ high))
    (λ value. step_shows (as_integer value) (OldWrongType old_k) (old_in_range old_k low high) n
    ((low ≤ n) × (n ≤ high)) (in_range_within old_k low high n)) is

one_at_least : (n : ℕ) → (n ≡ 0 → ⊥) → 1 ≤ n
one_at_least zero some = absurd (some refl)
one_at_least (suc n) some = omega arith

-- ---- the keys of a port

kind_by : (ram rom regs clear device : Bool) (kind : kind_of_slave.Kind)
    → (if ram then Some Ram else if rom then Some Rom else if regs then Some Regs else if clear then Some ClearRegs else None)
    ≡ Some kind
    → (if ram then Some (Memory Ram)
    else if rom then Some (Memory Rom)
    else if regs then Some (Memory Regs)
    else if clear then Some (Memory ClearRegs)
    else if device then Some Device
    else None)
    ≡ Some (Memory kind)
kind_by true rom regs clear device kind is = let same : Ram ≡ kind = cc in ap (λ k. Some (Memory k)) same
kind_by false true regs clear device kind is = let same : Rom ≡ kind = cc in ap (λ k. Some (Memory k)) same
kind_by false false true clear device kind is = let same : Regs ≡ kind = cc in ap (λ k. Some (Memory k)) same
kind_by false false false true device kind is = let same : ClearRegs ≡ kind = cc in ap (λ k. Some (Memory k)) same
kind_by false false false false device kind is = absurd cc

ok_or_is : {A F : Type 0} (o : Option A) (e : F) (x : A) → ok_or o e ≡ Ok x → o ≡ Some x
ok_or_is None e x is = absurd cc
ok_or_is (Some y) e x is = let same : y ≡ x = cc in ap (λ z. Some z) same

kind_word_same : (word : List ℕ) (kind : kind_of_slave.Kind) → ok_or (script_kind_of word) (OldOutOfRange OldKind) ≡ Ok kind
    → ok_or (new_kind_of word) (OutOfRange Kind) ≡ Ok (Memory kind)
kind_word_same word kind is =
    let old = ok_or_is (script_kind_of word) (OldOutOfRange OldKind) kind is in
    let named : new_kind_of word ≡ Some (Memory kind) =
    kind_by (bytes_eq word (codes "ram")) (bytes_eq word (codes "rom")) (bytes_eq word (codes "regs"))
    (bytes_eq word (codes "w1c")) (bytes_eq word (codes "device")) kind old in
    ap (λ o. ok_or o (OutOfRange Kind)) named

pub kind_at_same : (members : Members) (kind : kind_of_slave.Kind) → old_kind_at members ≡ Ok kind
    → kind_at members ≡ Ok (Memory kind)
unfolding old_kind_at old_value_at kind_at value_at
kind_at_same members kind is =
    step_to (get_member (key_name Kind) members) (OldMissing OldKind) (Missing Kind)
    (λ value. steps.◌>>=◌ (ok_or (as_str value) (OldWrongType OldKind))
    (λ word. ok_or (script_kind_of word) (OldOutOfRange OldKind)))
    (λ value. steps.◌>>=◌ (ok_or (as_str value) (WrongType Kind)) (λ word. ok_or (new_kind_of word) (OutOfRange Kind))) kind
    (Memory kind)
    (λ value. step_to (as_str value) (OldWrongType OldKind) (WrongType Kind)
    (λ word. ok_or (script_kind_of word) (OldOutOfRange OldKind))
    (λ word. ok_or (new_kind_of word) (OutOfRange Kind)) kind (Memory kind)
    (λ word. kind_word_same word kind)) is

-- what reading a script's reset gave: these bytes, with zeros after them
record IsFilled (read : Result (List ℕ) SystemFault) (count : ℕ) (bytes : List ℕ) : Type 0 where
  pub given : List ℕ
  pub read_is : read ≡ Ok given
  pub short : length given ≤ count
  pub filled_is : bytes ≡ given ++ replicate (count - length given) 0

found : {F : Type 0} (o : Option (List ℕ)) (e : F) (count : ℕ) (bytes : List ℕ)
    → (steps.◌>>=◌ (ok_or o e) (λ given. Ok (given ++ replicate (count - length given) 0))) ≡ Ok bytes
    → (given : List ℕ) × (o ≡ Some given) × (given ++ replicate (count - length given) 0 ≡ bytes)
found None e count bytes is = absurd cc
found (Some given) e count bytes is = (given, refl, cc)

reset_of-given : (count : ℕ) (text given : List ℕ) → pairs_of text ≡ Some given
    → nat_lt count (length given) ≡ false → reset_of count text ≡ Ok given
reset_of-given count text given read few = rw (read, few) refl

filled_by : (b : Bool) (count : ℕ) (text bytes : List ℕ) → nat_lt (2 * count) (length text) ≡ b
    → (if b then Err (OldOutOfRange OldReset)
    else (steps.◌>>=◌ (ok_or (pairs_of text) (OldOutOfRange OldReset))
    (λ given. Ok (given ++ replicate (count - length given) 0))))
    ≡ Ok bytes
    → IsFilled (reset_of count text) count bytes
filled_by true count text bytes long is = absurd cc
filled_by false count text bytes long is =
    let given = found (pairs_of text) (OldOutOfRange OldReset) count bytes is in
    let half : length text ≡ 2 * length given.0 = pairs_of-length text given.0 given.1 in
    let few : length text ≤ 2 * count = ltb-false (2 * count) (length text) long in
    let short : length given.0 ≤ count = omega (arith, half, few) in
    let not_more : nat_lt count (length given.0) ≡ false = le-ltb count (length given.0) short in
    record {
      given = given.0;
      read_is = reset_of-given count text given.0 given.1 not_more;
      short = short;
      filled_is = sym given.2;
    }

reset_of_same : (count : ℕ) (text bytes : List ℕ) → filled count text ≡ Ok bytes
    → IsFilled (reset_of count text) count bytes
unfolding filled
reset_of_same count text bytes is = filled_by (nat_lt (2 * count) (length text)) count text bytes refl is

unless_gives : {A F : Type 0} (fails : Bool) (fault : F) (x y : A) → steps.unless fails fault x ≡ Ok y → x ≡ y
unless_gives true fault x y is = absurd cc
unless_gives false fault x y is = cc

reset_text_same : (count : ℕ) (text : Option (List ℕ)) (bytes : List ℕ)
    → (steps.◌>>=◌ (ok_or text (OldWrongType OldReset)) (filled count)) ≡ Ok bytes
    → IsFilled (steps.◌>>=◌ (steps.◌>>=◌ (steps.◌>>=◌ (ok_or text (WrongType Reset)) (λ y. Ok (Some y)))
    (steps.if_any (reset_of count))) (λ given. Ok (unwrap_or given []))) count bytes
reset_text_same count None bytes is = absurd cc
reset_text_same count (Some text) bytes is =
    let read = reset_of_same count text bytes is in
    record { given = read.given; read_is = rw read.read_is refl; short = read.short; filled_is = read.filled_is }

reset_value_same : (count : ℕ) (value : Option Data) (bytes : List ℕ)
    → (steps.◌>>=◌ (old_reset_text value) (filled count)) ≡ Ok bytes
    → IsFilled (steps.◌>>=◌ (steps.◌>>=◌ (steps.if_any (text_of Reset) value) (steps.if_any (reset_of count)))
    (λ given. Ok (unwrap_or given []))) count bytes
reset_value_same count None bytes is =
    let read = reset_of_same count [] bytes is in
    let none : [] ≡ read.given = unless_gives (nat_lt count 0) (OutOfRange Reset) [] read.given read.read_is in
    record { given = read.given; read_is = ap Ok none; short = read.short; filled_is = read.filled_is }
reset_value_same count (Some value) bytes is = reset_text_same count (as_str value) bytes is

reset_at_same : (count : ℕ) (members : Members) (bytes : List ℕ) → old_reset_at count members ≡ Ok bytes
    → IsFilled (reset_at count members) count bytes
unfolding old_reset_at reset_at text_if_any
reset_at_same count members bytes is = reset_value_same count (get_member (key_name Reset) members) bytes is

-- ---- ports

-- what reading the keys of a script's port gave
record IsRead (kind : Result kind_of_slave.Kind ScriptFault) (base count : Result ℕ ScriptFault)
    (reset : ℕ → Result (List ℕ) ScriptFault) (store : Store) : Type 0 where
  pub kind_is : kind ≡ Ok store.kind
  pub base_is : base ≡ Ok store.base
  pub many : ℕ
  pub many_is : count ≡ Ok many
  pub bytes_are : reset many ≡ Ok store.bytes

read_last : (reset : Result (List ℕ) ScriptFault) (kind : kind_of_slave.Kind) (base : ℕ) (store : Store)
    → (steps.◌>>=◌ reset (λ bytes. Ok (record { kind = kind; base = base; bytes = bytes }))) ≡ Ok store
    → (kind ≡ store.kind) × (base ≡ store.base) × (reset ≡ Ok store.bytes)
read_last (Err e) kind base store is = absurd cc
read_last (Ok bytes) kind base store is =
    let same : record { kind = kind; base = base; bytes = bytes } ≡ store = cc in
    (ap (λ (s : Store). s.kind) same, ap (λ (s : Store). s.base) same, ap (λ (s : Store). Ok s.bytes) same)

read_keys : (kind : Result kind_of_slave.Kind ScriptFault) (base count : Result ℕ ScriptFault)
    (reset : ℕ → Result (List ℕ) ScriptFault) (store : Store)
    → (steps.◌>>=◌ kind (λ k. steps.◌>>=◌ base (λ b. steps.◌>>=◌ count (λ c.
    steps.◌>>=◌ (reset c) (λ bytes. Ok (record { kind = k; base = b; bytes = bytes }))))))
    ≡ Ok store → IsRead kind base count reset store
read_keys (Err e) base count reset store is = absurd cc
read_keys (Ok k) (Err e) count reset store is = absurd cc
read_keys (Ok k) (Ok b) (Err e) reset store is = absurd cc
read_keys (Ok k) (Ok b) (Ok c) reset store is =
    let last = read_last (reset c) k b store is in
    record { kind_is = ap Ok last.0; base_is = ap Ok last.1; many = c; many_is = refl; bytes_are = last.2 }

-- the port that a script's table is
pub record ReadsPort (members : Members) (store : Store) : Type 0 where
  pub port : Port
  pub reads : port_of Eight false members ≡ Ok port
  pub is : IsPortOf store port

pub port_same : (members : Members) (store : Store) → IsPlainPort members → (IsEmpty (range_of store) → ⊥)
    → old_port_of members ≡ Ok store → ReadsPort members store
unfolding old_port_of port_of name_at ranges_at plain_ranges contents_at image_name_at flag_at sizes_at orders_at bus_in_table mirror_at volatile_at on_reset_at said_on_reset listed_at port_crossing_at said_crossing text_if_any number_if_any
port_same members store plain some is =
    let read = read_keys (old_kind_at members) (old_number_at OldBase 0 last_base members)
    (old_number_at OldLength 0 MAX_LENGTH members) (λ count. old_reset_at count members) store is in
    let many = read.many in
    let filled = reset_at_same many members store.bytes read.bytes_are in
    let counted : length store.bytes ≡ many =
    ap length filled.filled_is ∙ length-append filled.given (replicate (many - length filled.given) 0)
    ∙ omega (arith, filled.short, length-replicate {A = ℕ} (many - length filled.given) 0) in
    let base : number_at Base 0 last_integer members ≡ Ok store.base =
    number_at_same OldBase Base 0 last_base 0 last_integer store.base members refl read.base_is (omega arith)
    (number_at_within OldBase 0 last_base store.base members read.base_is).1 in
    let few : many ≤ MAX_LENGTH = (number_at_within OldLength 0 MAX_LENGTH many members read.many_is).1 in
    let not_none : 1 ≤ many = one_at_least many (λ none. some (counted ∙ none)) in
    let length_is : number_at Length 1 last_integer members ≡ Ok many =
    number_at_same OldLength Length 0 MAX_LENGTH 1 last_integer many members refl read.many_is not_none
    (omega (arith, few)) in
    let given = filled.given in
    let holds : given ++ drop (length given) (replicate (length store.bytes) 0) ≡ store.bytes =
    ap (λ rest. given ++ rest)
    (drop-replicate (length given) (length store.bytes) 0 ∙ ap (λ n. replicate (n - length given) 0) counted)
    ∙ sym filled.filled_is in
    record {
      port = record {
        name = None;
        kind = Memory store.kind;
        ranges = record { base = store.base; length = many } ∷ [];
        contents = record { reset = given; image = None; unknown = false };
        sizes = None;
        orders = no_orders;
        bus = Eight;
        mirror = false;
        volatile = [];
        on_reset = Never;
        listed = None;
        crossing = Same;
        fifo = false;
      };
      reads = rw (
        plain.name,
        kind_at_same members store.kind read.kind_is,
        plain.ranges,
        base,
        length_is,
        filled.read_is,
        plain.image,
        plain.unknown,
        plain.sizes,
        plain.order,
        plain.bus,
        plain.mirror,
        plain.volatile,
        plain.on_reset,
        plain.hosts,
        plain.sources,
        plain.crossing,
        plain.fifo,
      ) refl;
      is = record {
        plain = record {
          kind_is = refl;
          ranges_are = ap (λ n. record { base = store.base; length = n } ∷ []) (sym counted);
          sizes_are = refl;
          known = refl;
          still = refl;
        };
        holds = ap (λ bytes. record { kind = store.kind; base = store.base; bytes = bytes }) holds;
        name = refl;
        image = refl;
        orders = refl;
        bus = refl;
        on_reset = refl;
        listed = refl;
        crossing = refl;
        fifo = refl;
      };
    }

-- ---- each port

pub each_first : {B F : Type 0} (a : Result B F) (rest : Result (List B) F) (b : B) (more : List B)
    → (steps.◌>>=◌ a (λ y. steps.◌>>=◌ rest (λ ys. Ok (y ∷ ys)))) ≡ Ok (b ∷ more) → (a ≡ Ok b) × (rest ≡ Ok more)
each_first (Err e) rest b more is = absurd cc
each_first (Ok y) (Err e) b more is = absurd cc
each_first (Ok y) (Ok ys) b more is =
    let first : y ≡ b = cc in
    let others : ys ≡ more = cc in
    (ap Ok first, ap Ok others)

pub each_none : {B F : Type 0} (a : Result B F) (rest : Result (List B) F)
    → (steps.◌>>=◌ a (λ y. steps.◌>>=◌ rest (λ ys. Ok (y ∷ ys)))) ≡ Ok [] → ⊥
each_none (Err e) rest is = cc
each_none (Ok y) (Err e) is = cc
each_none (Ok y) (Ok ys) is = cc

-- the ports that the tables of a script are
pub record ReadsPorts (tables : List Members) (stores : List Store) : Type 0 where
  pub ports : List Port
  pub read : steps.each (port_of Eight false) tables ≡ Ok ports
  pub are : ArePortsOf stores ports
  pub names : filter_map (λ (port : Port). port.name) ports ≡ []

pub ports_same : (tables : List Members) (stores : List Store) → AllByRecursion IsPlainPort tables
    → AllByRecursion (λ store. IsEmpty (range_of store) → ⊥) stores → steps.each old_port_of tables ≡ Ok stores
    → ReadsPorts tables stores
ports_same [] [] plain some is = record { ports = []; read = refl; are = tt; names = refl }
ports_same [] (store ∷ stores) plain some is = absurd cc
ports_same (table ∷ tables) [] plain some is =
    absurd (each_none (old_port_of table) (steps.each old_port_of tables) is)
ports_same (table ∷ tables) (store ∷ stores) plain some is =
    let both = each_first (old_port_of table) (steps.each old_port_of tables) store stores is in
    let first = port_same table store plain.0 some.0 both.0 in
    let rest = ports_same tables stores plain.1 some.1 both.1 in
    record {
      ports = first.port ∷ rest.ports;
      read = rw (first.reads, rest.read) refl;
      are = (first.is, rest.are);
      names = rw (first.is.name, rest.names) refl;
    }
