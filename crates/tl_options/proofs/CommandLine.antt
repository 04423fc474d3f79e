-- What a caller reads after a parse by the program's command line.
use Rattle.std.proofs.Common.{◌&&◌, ◌||◌, ◌∙◌, ◌<◌, ◌≤◌, ◌≡◌, ℕ, Bool, true, false, not, zero, suc, List, [], ◌∷◌, length, is_some, Option, Some, None, refl, sym, subst, ap, inl, inr, arith, map}
use Rattle.std.specs.Str.Parse.{ParsesUnsigned, digits_value, without_leading_plus}
use Rattle.std.specs.Prelude.{Err, Ok, Result, unwrap_or, find, option_map, slice_get, codes}
use Rattle.std.specs.List.{All, slice_index_or}
use Rattle.std.specs.Str.{bytes_eq}
use Rattle.std.specs.Borrow.{Bor}
use Rattle.std.proofs.lemmas.Bool.{ne_eqb}
use Rattle.std.proofs.lemmas.List.Elements.{All-get_or}
use Rattle.std.proofs.lemmas.Slice.Eq.{bytes_eq-Decides}
use Rattle.clap.proofs.WalkLemmas.{one_text-rows}
use Rattle.clap.specs.Words.{Accepts, HasMatchesOf, first_of, first_value, is_simple, matches_of, one_of, IsParsedFrom, IsUnsignedIn, ReadsOne, SameRules, App, Rule, app_of, args_of, found_of, groups_of, matched_of, one_text, read_as, reading_of, rule_of}
use Rattle.clap.specs.Facts.{Entry, EntryPasses, HasId, HasIn, HasReading, PassesArg, WantsDefault, least_values, parser_of_value, unwrap_or_range}
use Rattle.clap.specs.Built.{IsAuto, NamesNoGroup}
use Rattle.clap.specs.Texts.{items_of}
use Rattle.clap.specs.Walk.{is_empty, texts}
use Rattle.clap.specs.declared.builder.value_parser.ValueParser.TheVariants as values
use Rattle.clap.specs.declared.builder.action.ArgAction.TheVariants.{Count, Set}
use Rattle.clap.specs.declared.builder.arg.Arg.{Arg}
use Rattle.clap.specs.declared.builder.command.Command.{Command}
use Rattle.clap.specs.declared.builder.command.Command.TheViews.{out-Command}
use Rattle.clap.specs.declared.builder.range.ValueRange.{ValueRange}
use Rattle.clap.specs.declared.builder.value_parser.Reading.{Reading}
use Rattle.clap.specs.declared.builder.value_parser.ValueParser.{ValueParser}
use Rattle.clap.specs.declared.parser.matches.ArgMatches.{ArgMatches}
use Rattle.clap.specs.declared.parser.matches.Found.{Found}
use Rattle.clap.specs.declared.parser.matches.MatchedArg.{MatchedArg}
use Rattle.clap.proofs.CallerLemmas.{default_present, entry_by_id, same_rules_by_id}
use Rattle.tl_types.specs.declared.limits.TheConstants.{MAX_WORKERS}
use Rattle.tl_cli.specs.Rules.{flag_of, flag_rule, value_of}
use Rattle.tl_cli.proofs.Rules.{first_read}
use Rattle.tl_options.specs.Options.{command_line, options_in, workers_rule}

-- ---- an argument of a command that names no group

-- the place of the one argument with its id, which is none of those that building adds
record IsOwn (old : Command) (k : ℕ) (a : Arg) : Type 0 where
  within : k < length (args_of old)
  at : (d : Arg) → slice_index_or (args_of old) k d ≡ a
  unique : (j : ℕ) (e : Arg) → j < length (args_of old)
      → bytes_eq (slice_index_or (args_of old) j e).id.now a.id.now ≡ true → j ≡ k
  own : IsAuto a → ⊥
  named : a.id.now ≡ [] → ⊥

-- an argument of the built command with its id has its rules
same_rules : (old : Command) (m : ArgMatches) (p : IsParsedFrom old m) (k : ℕ) (a : Arg) → IsOwn old k a
    → (j : ℕ) (x : Arg) → j < length (args_of p.built) → slice_index_or (args_of p.built) j x ≡ x
    → bytes_eq x.id.now a.id.now ≡ true → SameRules a x
same_rules old m p k a h j x high at same =
    let is = h.at a in
    subst (λ (w : Arg). SameRules w x) is
    (same_rules_by_id old m p k a h.within
    (λ i e lt s. h.unique i e lt (subst (λ (w : Arg). bytes_eq
    (slice_index_or (args_of old) i e).id.now w.id.now ≡ true) is s))
    (λ auto. h.own (subst IsAuto is auto))
    j x high at (subst (λ (w : Arg). bytes_eq x.id.now w.id.now ≡ true) (sym is) same))

-- its values are read as its parser says
own_reading : (old : Command) (m : ArgMatches) (p : IsParsedFrom old m) (k : ℕ) (a : Arg) → IsOwn old k a
    → (q : ValueParser) → a.value_parser ≡ Some q → (r : Reading) → HasReading p.built a.id.now r → r ≡ reading_of q
own_reading old m p k a h q parser r any =
    let s = same_rules old m p k a h any.0 any.1 any.2 any.3 any.4.0 in
    sym any.4.1 ∙ ap reading_of (ap parser_of_value (s.parser q parser))

-- and have passed it
own_passes : (old : Command) (m : ArgMatches) (p : IsParsedFrom old m) (k : ℕ) (a : Arg) → IsOwn old k a
    → (q : ValueParser) → a.value_parser ≡ Some q → (t : List ℕ) → PassesArg p.built a.id.now t
    → Accepts a.ignore_case q t
own_passes old m p k a h q parser t any =
    let s = same_rules old m p k a h any.0 any.1 any.2 any.3 any.4.0 in
    let by_q = subst (λ (w : ValueParser). Accepts any.1.ignore_case w t)
    (ap parser_of_value (s.parser q parser)) any.4.1 in
    subst (λ (b : Bool). Accepts b q t) s.ignore_case by_q

first_passed : (P : Bor (List ℕ) → Type 0) (how : Reading) (vs : List (Bor (List ℕ))) (t : List ℕ) → All P vs
    → option_map (λ s. read_as how s.now) (slice_get vs 0) ≡ Some t
    → (v : Bor (List ℕ)) × (read_as how v.now ≡ t) × P v
first_passed P how [] t h e = cc
first_passed P how (v ∷ vs) t h e = (v, cc, All-get_or P (v ∷ vs) 0 v (omega arith) h)

-- the text that is read of it stands for a value that passed its parser
own_text : (old : Command) (m : ArgMatches) (p : IsParsedFrom old m) (k : ℕ) (a : Arg) → IsOwn old k a
    → NamesNoGroup old → groups_of old ≡ [] → (out-Command old).has_globals ≡ false
    → (q : ValueParser) → a.value_parser ≡ Some q → (t : List ℕ) → one_text (found_of m) a.id.now ≡ Some t
    → (u : List ℕ) × (read_as (reading_of q) u ≡ t) × Accepts a.ignore_case q u
own_text old m p k a h none groups globals q parser t is = go (matched_of (found_of m) a.id.now) refl
  where
    at_entry : (x : MatchedArg) → matched_of (found_of m) a.id.now ≡ Some x
        → ((e : Entry) × (e.1 ≡ x) × (bytes_eq e.0.now a.id.now ≡ true) × EntryPasses p.built e)
        → (u : List ℕ) × (read_as (reading_of q) u ≡ t) × Accepts a.ignore_case q u
    at_entry x found got =
        let key : got.0.0.now ≡ a.id.now = (bytes_eq-Decides got.0.0.now a.id.now).0 got.2 in
        let no_groups : groups_of p.built ≡ [] = (p.from.same_groups none).1 ∙ groups in
        let no_group : got.0.1.is_group ≡ true → ⊥ = λ g. elim (got.3.3 g) [
          | inl empty ↦ h.named (sym key ∙ empty)
          | inr lots ↦
              let bad : 0 < 0 = rw no_groups at lots in
              absurd (omega arith)
        ] in
        let all : All (λ v. PassesArg p.built a.id.now v.now) got.0.1.vals.items = elim got.3.0 [
          | inl g ↦ absurd (no_group g)
          | inr vals ↦ subst (λ (w : List ℕ). All (λ v. PassesArg p.built w v.now) got.0.1.vals.items) key vals
        ] in
        let reading : got.0.1.reading ≡ reading_of q = elim got.3.4 [
          | inl g ↦ absurd (no_group g)
          | inr has ↦ own_reading old m p k a h q parser got.0.1.reading
              (subst (λ (w : List ℕ). HasReading p.built w got.0.1.reading) key has)
        ] in
        let read_x : option_map (λ s. read_as x.reading s.now) (slice_get x.vals.items 0) ≡ Some t = rw found at is in
        let read_e : option_map (λ s. read_as got.0.1.reading s.now) (slice_get got.0.1.vals.items 0) ≡ Some t =
        subst (λ (y : MatchedArg). option_map (λ s. read_as y.reading s.now) (slice_get y.vals.items 0) ≡ Some t)
        (sym got.1) read_x in
        let read : option_map (λ s. read_as (reading_of q) s.now) (slice_get got.0.1.vals.items 0) ≡ Some t =
        subst (λ (r : Reading). option_map (λ s. read_as r s.now)
        (slice_get got.0.1.vals.items 0) ≡ Some t) reading read_e in
        let first = first_passed (λ v. PassesArg p.built a.id.now v.now) (reading_of q) got.0.1.vals.items t all read in
        (first.0.now, first.1, own_passes old m p k a h q parser first.0.now first.2)

    go : (o : Option MatchedArg) → matched_of (found_of m) a.id.now ≡ o
        → (u : List ℕ) × (read_as (reading_of q) u ≡ t) × Accepts a.ignore_case q u
    go None e =
        let bad : None ≡ Some t = rw e at is in
        cc
    go (Some x) e =
        at_entry x e (entry_by_id (EntryPasses p.built) (found_of m).entries.items a.id.now x
        (p.parsed (p.from.globals ∙ globals)).values e)

-- ---- an argument that has a default

entry_at : (xs : List Entry) (id : List ℕ) → HasIn xs id → (e : Entry) × (find (λ e. bytes_eq e.0.now id) xs ≡ Some e)
entry_at [] id h = absurd (omega (arith, h.1))
entry_at (x ∷ xs) id h = go (bytes_eq x.0.now id) refl h.0 h.1 h.2 (entry_at xs id)
  where
    go : (b : Bool) → bytes_eq x.0.now id ≡ b → (i : ℕ) → i < length (x ∷ xs)
        → ((d : Entry) → bytes_eq (slice_index_or (x ∷ xs) i d).0.now id ≡ true)
        → (HasIn xs id → (e : Entry) × (find (λ e. bytes_eq e.0.now id) xs ≡ Some e))
        → (e : Entry) × (find (λ e. bytes_eq e.0.now id) (x ∷ xs) ≡ Some e)
    go true is i lt at later = (x, rw is refl)
    go false is zero lt at later =
        let bad : false ≡ true = sym is ∙ at x in
        cc
    go false is (suc i) lt at later =
        let found = later (i, omega (arith, lt), at) in
        (found.0, rw is found.1)

first_is : (how : Reading) (vs : List (Bor (List ℕ))) → 0 < length vs
    → (t : List ℕ) × (option_map (λ s. read_as how s.now) (slice_get vs 0) ≡ Some t)
first_is how [] lt = absurd (omega (arith, lt))
first_is how (v ∷ vs) lt = (read_as how v.now, refl)

-- the entry of an argument each of whose uses has a value has one
own_filled : (old : Command) (m : ArgMatches) (p : IsParsedFrom old m) (k : ℕ) (a : Arg) → IsOwn old k a
    → NamesNoGroup old → groups_of old ≡ []
    → a.action ≡ Some Set → a.val_delim ≡ None → 1 ≤ least_values a
    → (e : Entry) → e.0.now ≡ a.id.now → EntryPasses p.built e → 0 < length e.1.vals.items
own_filled old m p k a h none groups set delim least e key pass =
    let no_groups : groups_of p.built ≡ [] = (p.from.same_groups none).1 ∙ groups in
    elim pass.1 [
      | inl g ↦ elim g.1 [
        | inl empty ↦ absurd (h.named (sym key ∙ empty))
        | inr lots ↦
            let bad : 0 < 0 = rw no_groups at lots in
            absurd (omega arith)
      ]
      | inr (inl some) ↦ some
      | inr (inr (inl count)) ↦
          let any = count.1 in
          let s = same_rules old m p k a h any.0 any.1 any.2 any.3
          (subst (λ (w : List ℕ). bytes_eq any.1.id.now w ≡ true) key any.4.0) in
          let is_set : any.1.action ≡ Some Set = s.action Set set in
          let bad : Set ≡ Count = rw is_set at any.4.1 in
          cc
      | inr (inr (inr any)) ↦
          let s = same_rules old m p k a h any.0 any.1 any.2 any.3
          (subst (λ (w : List ℕ). bytes_eq any.1.id.now w ≡ true) key any.4.0) in
          elim any.4.1 [
            | inl empty ↦
                let one = s.least set least in
                absurd (omega (arith, one, empty))
            | inr cut ↦
                let bad : false ≡ true = rw (s.val_delim, delim) at cut in
                cc
          ]
    ]

-- an argument that has a default has a value
own_value : (old : Command) (m : ArgMatches) (p : IsParsedFrom old m) (k : ℕ) (a : Arg) → IsOwn old k a
    → NamesNoGroup old → groups_of old ≡ [] → (out-Command old).has_globals ≡ false
    → a.action ≡ Some Set → a.val_delim ≡ None → 1 ≤ least_values a → WantsDefault a
    → (t : List ℕ) × (one_text (found_of m) a.id.now ≡ Some t)
own_value old m p k a h none groups globals set delim least wants =
    let has : HasId (found_of m) a.id.now = subst (λ (w : Arg). HasId (found_of m) w.id.now) (h.at a)
    (default_present old m p globals k a h.within (subst WantsDefault (sym (h.at a)) wants)) in
    let found = entry_at (found_of m).entries.items a.id.now has in
    let at : matched_of (found_of m) a.id.now ≡ Some found.0.1 = ap (option_map (λ (e : Entry). e.1)) found.1 in
    let got = entry_by_id (EntryPasses p.built) (found_of m).entries.items a.id.now found.0.1
    (p.parsed (p.from.globals ∙ globals)).values at in
    let filled : 0 < length got.0.1.vals.items =
    own_filled old m p k a h none groups set delim least got.0
    ((bytes_eq-Decides got.0.0.now a.id.now).0 got.2) got.3 in
    let first = first_is found.0.1.reading found.0.1.vals.items
    (subst (λ (y : MatchedArg). 0 < length y.vals.items) got.1 filled) in
    (first.0, rw at first.1)

-- ---- the program's command

both : (x y : Bool) → (x && y) ≡ true → (x ≡ true) × (y ≡ true)
both true true e = (refl, refl)
both true false e = cc
both false y e = cc

no_items : {X : Type 0} → (xs : List X) → is_empty xs ≡ true → xs ≡ []
no_items [] e = refl
no_items (x ∷ xs) e =
    let bad : false ≡ true = sym (ne_eqb (length (x ∷ xs)) 0 (λ z. omega (arith, z))) ∙ e in
    cc

is_not : (b : Bool) → not b ≡ true → b ≡ false
is_not true e = cc
is_not false e = refl

is_none : {X : Type 0} → (o : Option X) → not (is_some o) ≡ true → o ≡ None
is_none None e = refl
is_none (Some x) e = cc

-- what is read off a command's arguments where their rules are the program's
record HasThree (old : Command) : Type 0 where
  serial : Arg
  history : Arg
  workers : Arg
  are : args_of old ≡ serial ∷ history ∷ workers ∷ []
  serial_is : rule_of serial ≡ flag_rule (codes "serial")
  history_is : rule_of history ≡ flag_rule (codes "history")
  workers_is : rule_of workers ≡ workers_rule

three_of : {X Y : Type 0} (f : X → Y) (xs : List X) (p q r : Y) → map f xs ≡ p ∷ q ∷ r ∷ []
    → (a : X) × (b : X) × (c : X) × (xs ≡ a ∷ b ∷ c ∷ []) × (f a ≡ p) × (f b ≡ q) × (f c ≡ r)
three_of f [] p q r e = cc
three_of f (a ∷ []) p q r e = cc
three_of f (a ∷ b ∷ []) p q r e = cc
three_of f (a ∷ b ∷ c ∷ []) p q r e = (a, b, c, refl, cc, cc, cc)
three_of f (a ∷ b ∷ c ∷ x ∷ xs) p q r e = cc

has_three : (old : Command) → app_of old ≡ command_line → HasThree old
has_three old is =
    let three = three_of rule_of (args_of old) (flag_rule (codes "serial")) (flag_rule (codes "history")) workers_rule
    (ap (λ (app : App). app.top.rules) is) in
    record {
      serial = three.0;
      history = three.1;
      workers = three.2;
      are = three.3;
      serial_is = three.4;
      history_is = three.5;
      workers_is = three.6;
    }

no_groups_of : (old : Command) → app_of old ≡ command_line → groups_of old ≡ []
no_groups_of old is = no_items (groups_of old) (both _ _ (ap (λ (app : App). app.top.is_plain) is)).0

no_globals_of : (old : Command) → app_of old ≡ command_line → (out-Command old).has_globals ≡ false
no_globals_of old is = is_not _ (both _ _ (both _ _ (both _ _ (ap (λ (app : App). app.top.is_plain) is)).1).1).0

simple_groups : (a : Arg) → (rule_of a).is_simple ≡ true → a.groups.items ≡ []
simple_groups a is = no_items a.groups.items (both _ _ (both _ _ (both _ _ is).1).1).0

names_none : (old : Command) → HasThree old → NamesNoGroup old
names_none old three k d lt = go k lt
  where
    go : (k : ℕ) → k < length (args_of old) → (slice_index_or (args_of old) k d).groups.items ≡ []
    go zero lt = rw three.are (simple_groups three.serial (ap (λ (r : Rule). r.is_simple) three.serial_is))
    go (suc zero) lt = rw three.are (simple_groups three.history (ap (λ (r : Rule). r.is_simple) three.history_is))
    go (suc (suc zero)) lt =
        rw three.are (simple_groups three.workers (ap (λ (r : Rule). r.is_simple) three.workers_is))
    go (suc (suc (suc k))) lt =
        let bad : suc (suc (suc k)) < 3 = subst (λ (xs : List Arg). suc (suc (suc k)) < length xs) three.are lt in
        absurd (omega (arith, bad))

-- of three arguments with ids apart, that with an id stands at its own place
place_of : (xs : List Arg) (a b c x : Arg) (k : ℕ) → xs ≡ a ∷ b ∷ c ∷ []
    → (bytes_eq a.id.now x.id.now ≡ true → 0 ≡ k) → (bytes_eq b.id.now x.id.now ≡ true → 1 ≡ k)
    → (bytes_eq c.id.now x.id.now ≡ true → 2 ≡ k)
    → (j : ℕ) (e : Arg) → j < length xs → bytes_eq (slice_index_or xs j e).id.now x.id.now ≡ true → j ≡ k
place_of xs a b c x k are first second third zero e lt same = first (rw are at same)
place_of xs a b c x k are first second third (suc zero) e lt same = second (rw are at same)
place_of xs a b c x k are first second third (suc (suc zero)) e lt same = third (rw are at same)
place_of xs a b c x k are first second third (suc (suc (suc j))) e lt same =
    let bad : suc (suc (suc j)) < 3 = subst (λ (ys : List Arg). suc (suc (suc j)) < length ys) are lt in
    absurd (omega (arith, bad))

-- an id that is neither `help` nor `version` is the caller's own
not_auto : (a : Arg) (t : List ℕ) → a.id.now ≡ t → bytes_eq t (codes "help") ≡ false
    → bytes_eq t (codes "version") ≡ false → IsAuto a → ⊥
not_auto a t id help version (inl h) =
    let bad : bytes_eq t (codes "help") ≡ true =
    subst (λ (u : List ℕ). bytes_eq u (codes "help") ≡ true) (sym h ∙ id) refl in
    cc
not_auto a t id help version (inr h) =
    let bad : bytes_eq t (codes "version") ≡ true =
    subst (λ (u : List ℕ). bytes_eq u (codes "version") ≡ true) (sym h ∙ id) refl in
    cc

not_empty : (a : Arg) (n : ℕ) (t : List ℕ) → a.id.now ≡ n ∷ t → a.id.now ≡ [] → ⊥
not_empty a n t id h = let bad : n ∷ t ≡ [] = sym id ∙ h in cc

-- the ids of the three
serial_id : (old : Command) (three : HasThree old) → three.serial.id.now ≡ codes "serial"
serial_id old three = ap (λ (r : Rule). r.id) three.serial_is

history_id : (old : Command) (three : HasThree old) → three.history.id.now ≡ codes "history"
history_id old three = ap (λ (r : Rule). r.id) three.history_is

workers_id : (old : Command) (three : HasThree old) → three.workers.id.now ≡ codes "workers"
workers_id old three = ap (λ (r : Rule). r.id) three.workers_is

-- two ids that are told apart are not the same
apart : (a b : Arg) (s t : List ℕ) (j k : ℕ) → a.id.now ≡ s → b.id.now ≡ t → bytes_eq s t ≡ false
    → bytes_eq a.id.now b.id.now ≡ true → j ≡ k
apart a b s t j k first second other same =
    let bad : bytes_eq s t ≡ true = rw (first, second) at same in
    cc

serial_own : (old : Command) (three : HasThree old) → IsOwn old 0 three.serial
serial_own old three =
    let id = serial_id old three in
    record {
      within = rw three.are (omega arith);
      at = λ d. rw three.are refl;
      unique = place_of (args_of old) three.serial three.history three.workers three.serial 0 three.are (λ same. refl)
          (apart three.history three.serial _ _ 1 0 (history_id old three) id refl)
          (apart three.workers three.serial _ _ 2 0 (workers_id old three) id refl);
      own = not_auto three.serial (codes "serial") id refl refl;
      named = not_empty three.serial _ _ id;
    }

history_own : (old : Command) (three : HasThree old) → IsOwn old 1 three.history
history_own old three =
    let id = history_id old three in
    record {
      within = rw three.are (omega arith);
      at = λ d. rw three.are refl;
      unique = place_of (args_of old) three.serial three.history three.workers three.history 1 three.are
          (apart three.serial three.history _ _ 0 1 (serial_id old three) id refl) (λ same. refl)
          (apart three.workers three.history _ _ 2 1 (workers_id old three) id refl);
      own = not_auto three.history (codes "history") id refl refl;
      named = not_empty three.history _ _ id;
    }

workers_own : (old : Command) (three : HasThree old) → IsOwn old 2 three.workers
workers_own old three =
    let id = workers_id old three in
    record {
      within = rw three.are (omega arith);
      at = λ d. rw three.are refl;
      unique = place_of (args_of old) three.serial three.history three.workers three.workers 2 three.are
          (apart three.serial three.workers _ _ 0 2 (serial_id old three) id refl)
          (apart three.history three.workers _ _ 1 2 (history_id old three) id refl) (λ same. refl);
      own = not_auto three.workers (codes "workers") id refl refl;
      named = not_empty three.workers _ _ id;
    }

-- ---- what is read of the three

has_items : (xs : List (Bor (List ℕ))) (t : List ℕ) → texts xs ≡ t ∷ [] → 0 < length xs
has_items [] t e = cc
has_items (x ∷ xs) t e = omega arith

-- the third option has a text, and it is a number of workers that there may be
workers_text : (old : Command) (m : ArgMatches) → app_of old ≡ command_line → IsParsedFrom old m
    → (t : List ℕ) × (one_text (found_of m) (codes "workers") ≡ Some t) × IsUnsignedIn 1 MAX_WORKERS t
workers_text old m is p =
    let three = has_three old is in
    let a = three.workers in
    let id : a.id.now ≡ codes "workers" = ap (λ (r : Rule). r.id) three.workers_is in
    let simple = ap (λ (r : Rule). r.is_simple) three.workers_is in
    let after = both _ _ (both _ _ simple).1 in
    let delim : a.val_delim ≡ None = is_none a.val_delim (both _ _ (both _ _ after.1).1).0 in
    let range : a.num_vals ≡ None = ap (λ (r : Rule). r.range) three.workers_is in
    let one : 1 ≤ 1 = omega arith in
    let least : 1 ≤ least_values a =
    subst (λ (r : Option ValueRange). 1 ≤ (unwrap_or_range r).start_inclusive) (sym range) one in
    let defaults : texts (items_of a.default_vals) ≡ codes "1" ∷ [] = ap (λ (r : Rule). r.defaults) three.workers_is in
    let wants : WantsDefault a =
    (no_items a.default_vals_ifs.items after.0, has_items (items_of a.default_vals) (codes "1") defaults) in
    let own = workers_own old three in
    let none = names_none old three in
    let value = own_value old m p 2 a own none (no_groups_of old is) (no_globals_of old is)
    (ap (λ (r : Rule). r.action) three.workers_is) delim least wants in
    let text = own_text old m p 2 a own none (no_groups_of old is) (no_globals_of old is)
    (values.Unsigned 1 MAX_WORKERS) (ap (λ (r : Rule). r.parser) three.workers_is) value.0 value.1 in (
      value.0,
      subst (λ (w : List ℕ). one_text (found_of m) w ≡ Some value.0) id value.1,
      subst (IsUnsignedIn 1 MAX_WORKERS) text.1 text.2,
    )

number_is : (E : Type 0) (G : List ℕ → Result ℕ E → Type 0) (t : List ℕ) (r : Option ℕ) → ReadsOne G t r
    → ((x : Result ℕ E) → G t x → ParsesUnsigned 64 10 t x) → IsUnsignedIn 1 MAX_WORKERS t
    → r ≡ Some (digits_value 10 (without_leading_plus t))
number_is E G t None h only passed = absurd (only (Err h.0) h.1 (passed.0, passed.1))
number_is E G t (Some v) h only passed = ap Some (only (Ok v) h).1

-- the number that was read stands in the option's text, and is one that there may be
pub record ReadsNumber (found : Found) (r : Option ℕ) : Type 0 where
  pub text : List ℕ
  pub has : one_text found (codes "workers") ≡ Some text
  pub is : r ≡ Some (digits_value 10 (without_leading_plus text))
  pub some : 1 ≤ digits_value 10 (without_leading_plus text)
  pub few : digits_value 10 (without_leading_plus text) ≤ MAX_WORKERS

pub reads_number : (E : Type 0) (G : List ℕ → Result ℕ E → Type 0) (old : Command) (m : ArgMatches) (r : Option ℕ)
    → app_of old ≡ command_line → IsParsedFrom old m
    → ((t : List ℕ) → one_text (found_of m) (codes "workers") ≡ Some t → ReadsOne G t r)
    → ((t : List ℕ) (x : Result ℕ E) → G t x → ParsesUnsigned 64 10 t x)
    → ReadsNumber (found_of m) r
reads_number E G old m r is p reads only =
    let text = workers_text old m is p in
    record {
      text = text.0;
      has = text.1;
      is = number_is E G text.0 r (reads text.0 text.1) (only text.0) text.2;
      some = text.2.2;
      few = text.2.3;
    }

-- the number of workers that was read is what the words give
workers_read : (old : Command) (m : ArgMatches) (words : List (List ℕ)) → app_of old ≡ command_line
    → HasMatchesOf (app_of old) words m
    → one_text (found_of m) (codes "workers") ≡ one_of (codes "workers") (matches_of command_line words)
workers_read old m words is has = one_text-rows (found_of m) (codes "workers")
    ∙ ap (one_of (codes "workers")) (has (ap is_simple is)).0
    ∙ ap (λ (app : App). one_of (codes "workers") (matches_of app words)) is

-- the value of a flag that was read is what the words give
pub flag_read : (old : Command) (m : ArgMatches) (words : List (List ℕ)) → app_of old ≡ command_line
    → HasMatchesOf (app_of old) words m
    → (id : List ℕ) → first_value (found_of m) id ≡ first_of id (matches_of command_line words)
flag_read old m words is has id =
    first_read (app_of old) m words (ap is_simple is) has id ∙ ap (λ (app : App). first_of id (matches_of app words)) is

-- the options that were read are those that the words ask for
pub asked_for : (old : Command) (m : ArgMatches) (words : List (List ℕ)) (serial history : Bool) (r : Option ℕ)
    (workers : ℕ)
    → app_of old ≡ command_line → HasMatchesOf (app_of old) words m
    → serial ≡ flag_of (unwrap_or (first_value (found_of m) (codes "serial")) [])
    → history ≡ flag_of (unwrap_or (first_value (found_of m) (codes "history")) [])
    → ReadsNumber (found_of m) r → r ≡ Some workers
    → record { serial = serial; history = history; workers = workers } ≡ options_in words
asked_for old m words serial history r workers is has serial_is history_is read is_number =
    let or_none : Option (List ℕ) → List ℕ = λ o. unwrap_or o [] in
    let one : serial ≡ flag_of (value_of (matches_of command_line words) (codes "serial")) =
    serial_is ∙ ap flag_of (ap or_none (flag_read old m words is has (codes "serial"))) in
    let other : history ≡ flag_of (value_of (matches_of command_line words) (codes "history")) =
    history_is ∙ ap flag_of (ap or_none (flag_read old m words is has (codes "history"))) in
    let text : read.text ≡ unwrap_or (one_of (codes "workers") (matches_of command_line words)) [] =
    ap or_none (sym read.has ∙ workers_read old m words is has) in
    let number : workers ≡ digits_value 10 (without_leading_plus read.text) =
    ap (λ (o : Option ℕ). unwrap_or o 0) (sym is_number ∙ read.is) in
    let asked = number ∙ ap (λ (t : List ℕ). digits_value 10 (without_leading_plus t)) text in
    rw (one, other, asked) refl
