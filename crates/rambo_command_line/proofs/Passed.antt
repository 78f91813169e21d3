-- That what a command holds of its options has passed their parsers, where clap finds no fault in the words
use Rattle.std.proofs.Common.{◌≡◌, ◌∙◌, ◌⊎◌, ℕ, zero, suc, Bool, true, false, cond, refl, sym, ap, subst, inl, inr, List, [], ◌∷◌, ◌++◌, ◌&&◌, length, drop, is_some, true≢false}
use Rattle.std.specs.Prelude.{Option, Some, None, IfSome, encode_utf8, slice_get, option_map}
use Rattle.std.specs.List.{AllByRecursion, find, fold}
use Rattle.std.specs.Option.{option_and_then, option_map_or, unwrap_or}
use Rattle.std.specs.Str.{bytes_eq, chars}
use Rattle.std.proofs.lemmas.Slice.Eq.{bytes_eq-Decides}
use Rattle.clap.specs.Lexer.{long_of, short_of}
use Rattle.clap.specs.Kinds.{Kinds, or_else, value_kinds, values_kinds}
use Rattle.clap.specs.Walk.{Held, Outcome, Row, Rule, Step, Text, Waiting, Walk, action_of, after_flag, after_step, arg_by_id, arg_by_index, arg_by_long, arg_by_short, at_row, attached_value, bundle_met, bundle_step, default_rows, done, finished, has_row, idle, is_pending, long_met, long_or_other, more_values, next, nothing_held, option, option_met, plain, plain_word, positional, reacted, reading_by, refused, rows_after, settled, short_met, short_or_plain, subcommand, subcommand_met, takes_several, takes_values, to_positional, trailing, used, used_as, value, values_or_missing, waits, walk, walk_from, walked, with_default, with_values, without, word_met, answers_to, first_of, one_of, row_text, walked_from}
use Rattle.clap.specs.Simple.{App, Shape, entered, label_of, rows_at}
use Rattle.clap.specs.Facts.{parser_of_value}
use Rattle.clap.specs.Values.{read_as}
use Rattle.clap.specs.Faults.{action_fault, bundle_fault, bundle_step_fault, check_fault, defaults_fault, entered_fault, flag_word_fault, flags_fault, level_fault, long_fault, option_fault, positional_fault, react_fault, settle_fault, short_fault, step_fault, turn_fault, use_fault, values_fault, walk_fault, word_fault}
use Rattle.clap.specs.declared.builder.action.ArgAction.TheVariants.{Set, SetTrue, Help}
use Rattle.clap.specs.declared.builder.action.ArgAction.{ArgAction}
use Rattle.clap.specs.declared.parser.matches.ValueSource.{ValueSource}
use Rattle.clap.specs.declared.parser.matches.ValueSource.TheVariants.{CommandLine, DefaultValue}
use Rattle.rambo_command_line.proofs.NoKinds.{first_none, second_none, some_kind}

-- ---- rows

-- the values of a row have passed the parser of its rule, and are read as that says
abbrev pub Passes : Rule → Row → Type 0
Passes a r = (values_fault a r.values ≡ []) × (r.reading ≡ reading_by a)

-- they have where the rule is that of an option with a value
abbrev pub Fits : List Rule → Row → Type 0
Fits c r = IfSome (arg_by_id c r.id) (λ a. action_of a ≡ Set → Passes a r)

abbrev RowsFit : List Rule → List Row → Type 0
RowsFit c = AllByRecursion (Fits c)

-- a flag that its id names
abbrev pub IsNamedFlag : List Rule → Rule → Type 0
IsNamedFlag c a = (arg_by_id c a.id ≡ Some a) × (action_of a ≡ SetTrue)

-- an option with a value that its id names, such a flag, or a request for help
abbrev pub IsOption : List Rule → Rule → Type 0
IsOption c a = (arg_by_id c a.id ≡ Some a) × (action_of a ≡ Set) ⊎ IsNamedFlag c a ⊎ (action_of a ≡ Help)

-- a list of these, of which the flags alone have values of their own
pub record AreOptions (c : List Rule) : Type 0 where
  pub options : AllByRecursion (IsOption c) c
  pub defaults : AllByRecursion (λ a. (a.defaults ≡ []) ⊎ IsNamedFlag c a) c

found_one : {X : Type 0} (P : X → Type 0) (p : X → Bool) (xs : List X) → AllByRecursion P xs → IfSome (find p xs) P
found_one P p [] all = tt
found_one P p (x ∷ xs) all = at (p x) (found_one P p xs all.1)
  where
    at : (b : Bool) → IfSome (find p xs) P → IfSome (cond b (Some x) (find p xs)) P
    at true rest = all.0
    at false rest = rest

joined : (i : Bool) (p : _) (xs ys : List Text) → values_kinds i p xs ≡ [] → values_kinds i p ys ≡ [] → values_kinds i p (xs ++ ys) ≡ []
joined i p [] ys front back = back
joined i p (x ∷ xs) ys front back =
    let one : value_kinds i p x ≡ [] = first_none _ _ front in
    rw one (joined i p xs ys (second_none _ _ front) back)

at_row_fits : (c : List Rule) (id : Text) (change : Row → List Row) (missing rows : List Row)
    → ((r : Row) → bytes_eq r.id id ≡ true → Fits c r → RowsFit c (change r)) → RowsFit c missing → RowsFit c rows → RowsFit c (at_row id change missing rows)
at_row_fits c id change missing [] changes new all = new
at_row_fits c id change missing (r ∷ rs) changes new all = at (bytes_eq r.id id) refl (at_row_fits c id change missing rs changes new all.1)
  where
    both : (xs ys : List Row) → RowsFit c xs → RowsFit c ys → RowsFit c (xs ++ ys)
    both [] ys front back = back
    both (x ∷ xs) ys front back = (front.0, both xs ys front.1 back)

    at : (b : Bool) → bytes_eq r.id id ≡ b → RowsFit c (at_row id change missing rs) → RowsFit c (cond b (change r ++ rs) (r ∷ at_row id change missing rs))
    at true is rest = both (change r) rs (changes r is all.0) all.1
    at false is rest = (all.0, rest)

abbrev is_set : ArgAction → Bool
is_set Set = true
is_set _ = false

module _ (c : List Rule) where
  -- a row of a flag has no parser to pass
  flag_row : (a : Rule) (r : Row) → IsNamedFlag c a → r.id ≡ a.id → Fits c r
  flag_row a r is same =
      subst (λ o. IfSome o (λ b. action_of b ≡ Set → Passes b r)) (sym (ap (arg_by_id c) same ∙ is.0))
      (λ set. absurd (true≢false (sym (ap is_set set) ∙ ap is_set is.1)))

  flag_values : (a : Rule) (source : ValueSource) (values : List Text) (rows : List Row) → IsNamedFlag c a → RowsFit c rows
      → RowsFit c (with_values a.id (reading_by a) source values rows)
  flag_values a source values rows is all =
      at_row_fits c a.id (more_values source values) _ _
      (λ r same fit. (flag_row a (record r { values = r.values ++ values }) is ((bytes_eq-Decides r.id a.id).0 same), tt))
      (flag_row a (record { id = a.id; values = values; count = None; source = None; reading = reading_by a }) is refl, tt) all

  -- an option is used, with values that pass
  set_fits : (a : Rule) (values : List Text) (rows : List Row) → arg_by_id c a.id ≡ Some a → action_of a ≡ Set → values_fault a values ≡ [] → RowsFit c rows
      → RowsFit c (used_as Set a.id (reading_by a) values rows)
  set_fits a values rows own set pass all =
      at_row_fits c a.id (more_values CommandLine values) _ _ more (rw own (λ _. (pass, refl)), tt)
      (at_row_fits c a.id (λ r. []) [] rows (λ r is fit. tt) tt all)
    where
      more : (r : Row) → bytes_eq r.id a.id ≡ true → Fits c r → RowsFit c (more_values CommandLine values r)
      more r is fit =
          let here : arg_by_id c r.id ≡ Some a = ap (arg_by_id c) ((bytes_eq-Decides r.id a.id).0 is) ∙ own in
          let old : Passes a r = subst (λ o. IfSome o (λ b. action_of b ≡ Set → Passes b r)) here fit set in
          (rw here (λ _. (joined a.ignore_case _ r.values values old.0 pass, old.1)), tt)

  use_fits : (again : Bool) (a : Rule) (values : List Text) (rows : List Row) → IsOption c a → use_fault again a values rows ≡ [] → RowsFit c rows
      → RowsFit c (used a values rows)
  use_fits again a values rows (inl is) fine all =
      let set : action_fault Set again a (values_or_missing a values) rows ≡ [] =
      subst (λ x. action_fault x again a (values_or_missing a values) rows ≡ []) is.1 (second_none _ _ fine) in
      subst (λ x. RowsFit c (used_as x a.id (reading_by a) (values_or_missing a values) rows)) (sym is.1)
      (set_fits a (values_or_missing a values) rows is.0 is.1 (second_none _ _ set) all)
  use_fits again a values rows (inr (inl is)) fine all =
      subst (λ x. RowsFit c (used_as x a.id (reading_by a) (values_or_missing a values) rows)) (sym is.1)
      (flag_values a CommandLine (values_or_missing a values) (without a.id rows) is (at_row_fits c a.id (λ r. []) [] rows (λ r same fit. tt) tt all))
  use_fits again a values rows (inr (inr is)) fine all =
      absurd (some_kind _ _ (subst (λ x. action_fault x again a (values_or_missing a values) rows ≡ []) is (second_none _ _ fine)))

  module _ (again : Bool) (are : AreOptions c) where
    settled_fits : (h : Held) → settle_fault c again h ≡ [] → RowsFit c h.rows → RowsFit c (settled c h).rows
    settled_fits h fine all = at h.pending fine
      where
        by : (o : Option Rule) (vs : List Text) → IfSome o (IsOption c) → option_map_or (λ a. use_fault again a vs h.rows) o [] ≡ []
            → RowsFit c (Rattle.clap.specs.Walk.used_by_id o vs h.rows)
        by None vs is fine = all
        by (Some a) vs is fine = use_fits again a vs h.rows is fine all

        at : (p : Option (Text × List Text)) → option_map_or (λ q. option_map_or (λ a. use_fault again a q.1 h.rows) (arg_by_id c q.0) []) p [] ≡ []
            → RowsFit c (Rattle.clap.specs.Walk.settled_rows c p h.rows)
        at None fine = all
        at (Some p) fine = by (arg_by_id c p.0) p.1 (found_one _ _ c are.options) fine

    reacted_fits : (a : Rule) (values : List Text) (h : Held) → IsOption c a → react_fault c again a values h ≡ [] → RowsFit c h.rows
        → RowsFit c (reacted c a values h).rows
    reacted_fits a values h is fine all =
        use_fits again a values (settled c h).rows is (second_none _ _ fine) (settled_fits h (first_none _ _ fine) all)

    -- ---- one word

    option_fits : (a : Rule) (v : Option Text) (h : Held) → IsOption c a → option_fault c again a v h ≡ [] → RowsFit c h.rows
        → RowsFit c (option_met c a v h).0.rows
    option_fits a (Some v) h is fine all = reacted_fits a (v ∷ []) h is fine all
    option_fits a None h is fine all = settled_fits h fine all

    long_fits : (o : Option Rule) (v : Option Text) (h : Held) → IfSome o (IsOption c) → long_fault c again o v h ≡ [] → RowsFit c h.rows
        → RowsFit c (long_met c o v h).0.rows
    long_fits None v h is fine all = absurd (some_kind _ _ fine)
    long_fits (Some a) v h is fine all = at (takes_values a) refl v fine
      where
        at : (b : Bool) → takes_values a ≡ b → (v : Option Text) → long_fault c again (Some a) v h ≡ [] → RowsFit c (long_met c (Some a) v h).0.rows
        at true takes v fine = rw takes (option_fits a v h is (rw takes at fine) all)
        at false takes (Some v) fine = absurd (some_kind _ _ (rw takes at fine))
        at false takes None fine = rw takes (reacted_fits a [] h is (rw takes at fine) all)

    short_fits : (o : Option Rule) (rest : Text) (h : Held) (behind : Held → Kinds) (met : Held → Held × Outcome) → IfSome o (IsOption c)
        → ((k : Held) → behind k ≡ [] → RowsFit c k.rows → RowsFit c (met k).0.rows)
        → short_fault c again o rest h behind ≡ [] → RowsFit c h.rows → RowsFit c (short_met c o rest h met).0.rows
    short_fits None rest h behind met is goes fine all = absurd (some_kind _ _ fine)
    short_fits (Some a) rest h behind met is goes fine all = at (takes_values a) refl
      where
        at : (b : Bool) → takes_values a ≡ b → RowsFit c (short_met c (Some a) rest h met).0.rows
        at true takes = rw takes (option_fits a (attached_value rest) h is (rw takes at fine) all)
        at false takes =
            let now = rw takes at fine in
            rw takes (goes (reacted c a [] h) (second_none _ _ now) (reacted_fits a [] h is (first_none _ _ now) all))

    bundle_fits : (k : ℕ) (flags : Text) (skip : ℕ) (so_far : Outcome) (h : Held) → flags_fault c again k flags skip h ≡ [] → RowsFit c h.rows
        → RowsFit c (bundle_met c k flags skip so_far h).0.rows
    unfolding flags_fault bundle_met
    bundle_fits zero flags skip so_far h fine all = all
    bundle_fits (suc k) flags skip so_far h fine all = at (slice_get (chars flags) 0) skip fine (bundle_fits k)
      where
        at : (x : Option ℕ) (skip : ℕ) → bundle_step_fault c again x flags skip h (flags_fault c again k) ≡ []
            → ((rest : Text) (less : ℕ) (came : Outcome) (held : Held) → flags_fault c again k rest less held ≡ [] → RowsFit c held.rows → RowsFit c (bundle_met c k rest less came held).0.rows)
            → RowsFit c (bundle_step c x flags skip so_far h (bundle_met c k)).0.rows
        at None skip fine goes = all
        at (Some x) zero fine goes =
            let rest = drop (length (encode_utf8 x)) flags in
            short_fits (arg_by_short c x) rest h (flags_fault c again k rest 0) (bundle_met c k rest 0 done) (found_one _ _ c are.options) (goes rest 0 done) fine all
        at (Some x) (suc skip) fine goes = goes (drop (length (encode_utf8 x)) flags) skip so_far h fine all

    plain_fits : (waiting : Waiting) (word : Text) (h : Held) → RowsFit c h.rows → RowsFit c (plain_word c waiting word h).0.rows
    plain_fits idle word h all = all
    plain_fits positional word h all = all
    plain_fits (option id) word h all = at (arg_by_id c id)
      where
        at : (o : Option Rule) → RowsFit c (Rattle.clap.specs.Walk.option_word o id word h).0.rows
        at None = all
        at (Some a) = all

    flag_fits : (waiting : Waiting) (word : Text) (h : Held) (o : Outcome) → RowsFit c h.rows → RowsFit c (after_flag c waiting word h o).0.rows
    flag_fits waiting word h done all = all
    flag_fits waiting word h (waits id) all = all
    flag_fits waiting word h plain all = plain_fits waiting word h all
    flag_fits waiting word h refused all = plain_fits waiting word h all

    other_fits : (waiting : Waiting) (word : Text) (l : Option (Text × Option Text)) (h : Held) → flag_word_fault c again l word h ≡ [] → RowsFit c h.rows
        → RowsFit c (long_or_other c waiting word l h).0.rows
    other_fits waiting word (Some p) h fine all =
        flag_fits waiting word _ _ (long_fits (arg_by_long c p.0) p.1 h (found_one _ _ c are.options) fine all)
    other_fits waiting word None h fine all = at (short_of word) fine
      where
        at : (s : Option Text) → option_map_or (λ flags. bundle_fault c again flags h) s [] ≡ [] → RowsFit c (short_or_plain c waiting word s h).0.rows
        at None fine = plain_fits waiting word h all
        at (Some flags) fine = flag_fits waiting word _ _ (bundle_fits (length flags) flags h.skip plain (record h { skip = 0 }) fine all)

-- ---- the walk, of a command that has no commands of its own

unmet : (waiting : Waiting) (word : Text) → subcommand_met [] waiting word ≡ None
unmet idle word = refl
unmet (option id) word = refl
unmet positional word = refl

module _ (s : Shape) (are : AreOptions s.rules) where
  word_fits : (trails : Bool) (waiting : Waiting) (position : ℕ) (word : Text) (h : Held) → word_fault s [] trails waiting word h ≡ []
      → RowsFit s.rules h.rows → RowsFit s.rules (word_met s.rules [] trails waiting position word h).0.rows
  word_fits true waiting position word h fine all = all
  word_fits false waiting position word h fine all =
      rw (unmet waiting word) (at (bytes_eq word (45 ∷ 45 ∷ [])) (rw (unmet waiting word) at fine))
    where
      at : (b : Bool) → cond b [] (flag_word_fault s.rules s.args_override_self (long_of word) word h) ≡ []
          → RowsFit s.rules (cond b (h, trailing position) (long_or_other s.rules waiting word (long_of word) h)).0.rows
      at true fine = all
      at false fine = other_fits s.rules s.args_override_self are waiting word (long_of word) h fine all

  step_fits : (word : Text) (w : Walk) (h : Held) (st : Step) → step_fault s w.position h st ≡ [] → RowsFit s.rules h.rows
      → RowsFit s.rules (after_step s.rules word w h st).held.rows
  step_fits word w h (next waiting) fine all = all
  step_fits word w h (trailing position) fine all = all
  step_fits word w h (subcommand name) fine all = all
  step_fits word w h value fine all = at (arg_by_index s.rules w.position) fine
    where
      at : (o : Option Rule) → option_map_or (λ a. positional_fault s.rules s.args_override_self a h) o (Rattle.clap.specs.Faults.stray_fault s) ≡ []
          → RowsFit s.rules (to_positional s.rules o word w h).held.rows
      at None fine = all
      at (Some a) fine = held (is_pending a h.pending && takes_several a) fine
        where
          held : (b : Bool) → cond b [] (settle_fault s.rules s.args_override_self h) ≡ [] → RowsFit s.rules (cond b h (settled s.rules h)).rows
          held true fine = all
          held false fine = settled_fits s.rules s.args_override_self are h fine all

  turn_fits : (w : Walk) (word : Text) → turn_fault s [] w word ≡ [] → RowsFit s.rules w.held.rows → RowsFit s.rules (walked s.rules [] w word).held.rows
  unfolding walked
  turn_fits w word fine all = at w.stopped fine
    where
      at : (o : Option (Text × List Text))
          → cond (is_some o) [] (or_else (word_fault s [] w.is_trailing w.waiting word w.held)
          (step_fault s w.position (word_met s.rules [] w.is_trailing w.waiting w.position word w.held).0
          (word_met s.rules [] w.is_trailing w.waiting w.position word w.held).1)) ≡ []
          → RowsFit s.rules (walked_from s.rules [] o w word).held.rows
      at (Some p) fine = all
      at None fine = step_fits word w _ _ (second_none _ _ fine) (word_fits w.is_trailing w.waiting w.position word w.held (first_none _ _ fine) all)

  walk_fits : (words : List Text) (w : Walk) → walk_fault s [] w words ≡ [] → RowsFit s.rules w.held.rows
      → RowsFit s.rules (fold (walked s.rules []) w words).held.rows
  unfolding walk_fault
  walk_fits [] w fine all = all
  walk_fits (word ∷ words) w fine all = walk_fits words (walked s.rules [] w word) (second_none _ _ fine) (turn_fits w word (first_none _ _ fine) all)

  -- behind the walk only the values of flags join
  defaults_fit : (rules : List Rule) (rows : List Row) → AllByRecursion (λ a. (a.defaults ≡ []) ⊎ IsNamedFlag s.rules a) rules → RowsFit s.rules rows
      → RowsFit s.rules (fold with_default rows rules)
  defaults_fit [] rows each all = all
  defaults_fit (a ∷ rules) rows each all = defaults_fit rules (with_default rows a) each.1 (one (has_row a.id rows))
    where
      values : (vs : List Text) → IsNamedFlag s.rules a → RowsFit s.rules (default_rows a.id (reading_by a) vs rows)
      values [] is = all
      values (v ∷ vs) is = flag_values s.rules a DefaultValue (v ∷ vs) rows is all

      joining : (a.defaults ≡ []) ⊎ IsNamedFlag s.rules a → RowsFit s.rules (default_rows a.id (reading_by a) a.defaults rows)
      joining (inl none) = subst (λ vs. RowsFit s.rules (default_rows a.id (reading_by a) vs rows)) (sym none) all
      joining (inr is) = values a.defaults is

      one : (b : Bool) → RowsFit s.rules (cond b rows (default_rows a.id (reading_by a) a.defaults rows))
      one true = all
      one false = joining each.0

  level_fits : (words : List Text) → level_fault s [] nothing_held words false [] ≡ [] → RowsFit s.rules (rows_after s.rules [] words)
  level_fits words fine =
      let end : Held = (walk s.rules [] nothing_held words).held in
      let walked_fine : walk_fault s [] (walk_from nothing_held) words ≡ [] = first_none (walk_fault s [] (walk_from nothing_held) words) _ fine in
      let after : or_else (settle_fault s.rules s.args_override_self end) (or_else (defaults_fault (settled s.rules end).rows s.rules) (check_fault s (finished s.rules end) false)) ≡ [] =
      second_none (walk_fault s [] (walk_from nothing_held) words) _ fine in
      let settle_fine : settle_fault s.rules s.args_override_self end ≡ [] = first_none _ _ after in
      defaults_fit s.rules (settled s.rules end).rows are.defaults
      (settled_fits s.rules s.args_override_self are end settle_fine (walk_fits words (walk_from nothing_held) walked_fine tt))

-- ---- what is read of an option

-- where each row passes the parser of its rule, so does what is read of an option
pub read_passes : (c : List Rule) (rows : List Row) (a : Rule) (word : Text) → AllByRecursion (Fits c) rows → arg_by_id c a.id ≡ Some a → action_of a ≡ Set → first_of a.id rows ≡ Some word
    → (value_kinds a.ignore_case (parser_of_value a.parser) word ≡ []) × (one_of a.id rows ≡ Some (read_as (reading_by a) word))
read_passes c rows a word all own set first = at (find (λ r. bytes_eq r.id a.id) rows) (named_row rows) (found_one (Fits c) (λ r. bytes_eq r.id a.id) rows all) first
  where
    named_row : (rs : List Row) → IfSome (find (λ r. bytes_eq r.id a.id) rs) (λ r. bytes_eq r.id a.id ≡ true)
    named_row [] = tt
    named_row (r ∷ rs) = here (bytes_eq r.id a.id) refl (named_row rs)
      where
        here : (b : Bool) → bytes_eq r.id a.id ≡ b → IfSome (find (λ q. bytes_eq q.id a.id) rs) (λ q. bytes_eq q.id a.id ≡ true)
            → IfSome (cond b (Some r) (find (λ q. bytes_eq q.id a.id) rs)) (λ q. bytes_eq q.id a.id ≡ true)
        here true is rest = is
        here false is rest = rest

    head : (vs : List Text) → slice_get vs 0 ≡ Some word → values_fault a vs ≡ [] → value_kinds a.ignore_case (parser_of_value a.parser) word ≡ []
    head [] is pass = absurd (true≢false (ap (λ (o : Option Text). option_map_or (λ t. false) o true) is))
    head (v ∷ vs) is pass = subst (λ t. value_kinds a.ignore_case (parser_of_value a.parser) t ≡ []) (ap (λ (o : Option Text). option_map_or (λ t. t) o v) is) (first_none _ _ pass)

    at : (o : Option Row) → IfSome o (λ r. bytes_eq r.id a.id ≡ true) → IfSome o (Fits c) → option_and_then (λ r. slice_get r.values 0) o ≡ Some word
        → (value_kinds a.ignore_case (parser_of_value a.parser) word ≡ []) × (option_and_then row_text o ≡ Some (read_as (reading_by a) word))
    at None is fit first = absurd (true≢false (ap (λ (o : Option Text). option_map_or (λ t. false) o true) first))
    at (Some r) is fit first =
        let here : arg_by_id c r.id ≡ Some a = ap (arg_by_id c) ((bytes_eq-Decides r.id a.id).0 is) ∙ own in
        let pass : Passes a r = subst (λ o. IfSome o (λ b. action_of b ≡ Set → Passes b r)) here fit set in
        (head r.values first pass.0, ap (option_map (read_as r.reading)) first ∙ ap (λ how. Some (read_as how word)) pass.1)

-- what a command holds that the words enter
pub entered_fits : (a : App) (stop : Option (Text × List Text)) (name : Text) (rows : List Row) (c : List Rule)
    → AllByRecursion (λ s. s.name ≡ name → (s.rules ≡ c) × AreOptions s.rules) a.subs → entered_fault a stop ≡ [] → entered a stop ≡ Some (name, rows)
    → AllByRecursion (Fits c) rows
entered_fits a None name rows c each fine is = absurd (true≢false (ap (λ (o : Option (Text × List Row)). option_map_or (λ p. false) o true) is))
entered_fits a (Some p) name rows c each fine is = at (find (λ s. answers_to p.0 (label_of s)) a.subs) (found_one _ _ a.subs each) fine is
  where
    at : (o : Option Shape) → IfSome o (λ s. s.name ≡ name → (s.rules ≡ c) × AreOptions s.rules)
        → option_map_or (λ s. level_fault s [] nothing_held p.1 false []) o [] ≡ [] → option_map (λ s. rows_at s p.1) o ≡ Some (name, rows)
        → AllByRecursion (Fits c) rows
    at None fits fine is = absurd (true≢false (ap (λ (o : Option (Text × List Row)). option_map_or (λ p. false) o true) is))
    at (Some s) fits fine is =
        let pair : rows_at s p.1 ≡ (name, rows) = ap (λ (o : Option (Text × List Row)). unwrap_or o (name, rows)) is in
        let has = fits (ap (λ (q : Text × List Row). q.0) pair) in
        subst (λ d. AllByRecursion (Fits d) rows) has.0 (subst (RowsFit s.rules) (ap (λ (q : Text × List Row). q.1) pair) (level_fits s has.1 p.1 fine))
