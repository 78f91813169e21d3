-- That words in which clap finds no fault ask for a task
use Rattle.std.proofs.Common.{◌≡◌, ◌∙◌, ◌⊎◌, ℕ, zero, suc, Bool, true, false, cond, refl, sym, ap, ap₂, subst, inl, inr, List, [], ◌∷◌, length, codes, true≢false}
use Rattle.std.specs.Prelude.{Option, Some, None, IfSome, option_map, slice_get}
use Rattle.std.specs.List.{find}
use Rattle.std.specs.Option.{option_and_then, option_map_or, unwrap_or}
use Rattle.std.specs.Str.{bytes_eq, chars}
use Rattle.std.proofs.lemmas.Slice.Eq.{bytes_eq-Decides}
use Rattle.clap.specs.Lexer.{long_of, short_of}
use Rattle.clap.specs.Kinds.{HasKind, Kinds}
use Rattle.clap.specs.Walk.{Held, Names, Outcome, Row, Rule, Step, Text, Walk, after_flag, arg_by_index, arg_by_long, arg_by_short, bundle_met, bundle_step, first_of, one_of, idle, rows_of, long_or_other, nothing_held, plain, short_or_plain, subcommand_met, takes_values, value, walk_from, walked}
use Rattle.clap.specs.Simple.{App, Shape, built, entered, built_leaf, inherited, marked_built, HasMatchesOf, is_simple, names_of, subcommand_of, subcommand_rows_of, with_leaf_noted}
use Rattle.clap.specs.Faults.{bundle_fault, bundle_step_fault, entered_fault, fault_of, is_simple_and_free, flag_word_fault, flags_fault, long_fault, short_fault, step_fault, stray_fault, turn_fault, use_fault, walk_fault}
use Rattle.clap.specs.Matches.{first_value, found_of, one_text, subcommand_name_of}
use Rattle.clap.specs.Values.{kind_of}
use Rattle.clap.specs.declared.error.Error.{Error}
use Rattle.clap.specs.declared.parser.matches.ArgMatches.{ArgMatches}
use Rattle.clap.specs.declared.parser.matches.ArgMatches.TheViews.{out-ArgMatches}
use Rattle.clap.specs.declared.error.kind.ErrorKind.TheVariants.{UnknownArgument, InvalidSubcommand, OutOfMemory}
use Rattle.clap.proofs.OnLiterals.{clap_on_literals}
use Rattle.clap.proofs.WalkLemmas.{first_value-rows, one_text-rows, walk_stopped}
use Rattle.rambo_command_line.proofs.NoKinds.{first_none, second_none, some_kind}
use Rattle.rambo_command_line.specs.declared.line.Task.{Task as AnyTask}
use Rattle.rambo_command_line.specs.declared.line.Task.TheVariants as line
use Rattle.rambo_command_line.specs.Lines as lines
use Rattle.rambo_command_line.specs.Lines.{AsksByName, AsksFor, flag_told, named, plain as plain_shape, rambo, word_behind}

-- the task that has no arguments
pub data Task : Type 0 where
  Replay : Task

abbrev name_of : Task → Text
name_of Replay = codes "replay"

abbrev Asks : List Text → Task → Type 0
Asks words t = AsksByName words (name_of t)

abbrev subcommand : Task → Shape
subcommand t = plain_shape (name_of t)

stray_at : (is_leaf : Bool) → cond is_leaf (UnknownArgument ∷ []) (UnknownArgument ∷ InvalidSubcommand ∷ []) ≡ [] → ⊥
stray_at true e = some_kind _ _ e
stray_at false e = some_kind _ _ e

stray_fails : (s : Shape) → stray_fault s ≡ [] → ⊥
stray_fails s e = stray_at s.is_leaf e

-- ---- flags, of a command whose arguments are all requests for help or the version

-- a use of the argument ends the parse
abbrev IsRequest : Rule → Type 0
IsRequest a = (takes_values a ≡ false) × ((rows : List Row) → use_fault false a [] rows ≡ [] → ⊥)

abbrev AreRequests : List Rule → Type 0
AreRequests [] = Unit {0}
AreRequests (a ∷ c) = IsRequest a × AreRequests c

found_at : (b : Bool) (a : Rule) (o : Option Rule) → IsRequest a → IfSome o IsRequest → IfSome (cond b (Some a) o) IsRequest
found_at true a o r rest = r
found_at false a o r rest = rest

found : (p : Rule → Bool) (c : List Rule) → AreRequests c → IfSome (find p c) IsRequest
found p [] r = tt
found p (a ∷ c) r = found_at (p a) a (find p c) r.0 (found p c r.1)

long_fails : (c : List Rule) (o : Option Rule) (v : Option Text) (h : Held) → IfSome o IsRequest → long_fault c false o v h ≡ [] → ⊥
long_fails c None v h r e = some_kind _ _ e
long_fails c (Some a) (Some v) h r e = some_kind _ _ (rw r.0 at e)
long_fails c (Some a) None h r e = r.1 _ (second_none _ _ (rw r.0 at e))

short_fails : (c : List Rule) (o : Option Rule) (rest : Text) (h : Held) (next : Held → Kinds) → IfSome o IsRequest → short_fault c false o rest h next ≡ [] → ⊥
short_fails c None rest h next r e = some_kind _ _ e
short_fails c (Some a) rest h next r e = r.1 _ (second_none _ _ (first_none _ _ (rw r.0 at e)))

char_plain : (c : List Rule) → AreRequests c → (x : Option ℕ) (flags : Text) (h : Held) (next : Text → ℕ → Held → Kinds) (met : Text → ℕ → Outcome → Held → Held × Outcome)
    → bundle_step_fault c false x flags 0 h next ≡ [] → bundle_step c x flags 0 plain h met ≡ (h, plain)
char_plain c r None flags h next met e = refl
char_plain c r (Some x) flags h next met e = absurd (short_fails c (arg_by_short c x) _ h _ (found _ c r) e)

bundle_plain : (c : List Rule) → AreRequests c → (k : ℕ) (flags : Text) (h : Held) → flags_fault c false k flags 0 h ≡ [] → bundle_met c k flags 0 plain h ≡ (h, plain)
unfolding flags_fault bundle_met
bundle_plain c r zero flags h e = refl
bundle_plain c r (suc k) flags h e = char_plain c r (slice_get (chars flags) 0) flags h (flags_fault c false k) (bundle_met c k) e

short_value : (c : List Rule) → AreRequests c → (word : Text) (s : Option Text) → option_map_or (λ flags. bundle_fault c false flags nothing_held) s [] ≡ []
    → short_or_plain c idle word s nothing_held ≡ (nothing_held, value)
short_value c r word None e = refl
short_value c r word (Some flags) e = ap (λ (p : Held × Outcome). after_flag c idle word p.0 p.1) (bundle_plain c r (length flags) flags nothing_held e)

-- a word that is no subcommand goes to a positional
word_value : (c : List Rule) → AreRequests c → (word : Text) (l : Option (Text × Option Text)) → flag_word_fault c false l word nothing_held ≡ []
    → long_or_other c idle word l nothing_held ≡ (nothing_held, value)
word_value c r word (Some p) e = absurd (long_fails c (arg_by_long c p.0) p.1 nothing_held (found _ c r) e)
word_value c r word None e = short_value c r word (short_of word) e

-- ---- words that no argument takes

-- where a command has no positional, and the word is no flag that it has
module _ (s : Shape) (names : Names) (requests : AreRequests s.rules) (no_positional : arg_by_index s.rules 1 ≡ None) (once : s.args_override_self ≡ false) where
  -- the walk behind `--`
  abbrev trailing : Walk
  trailing = record (walk_from nothing_held) { is_trailing = true }

  stray_trails : (word : Text) → turn_fault s names trailing word ≡ [] → ⊥
  stray_trails word e = stray_fails s (rw no_positional at e)

  trailing_ends : (words : List Text) → walk_fault s names trailing words ≡ [] → words ≡ []
  unfolding walk_fault
  trailing_ends [] e = refl
  trailing_ends (word ∷ words) e = absurd (stray_trails word (first_none _ _ e))

  other_fails : (word : Text) → subcommand_met names idle word ≡ None → bytes_eq word (codes "--") ≡ false → turn_fault s names (walk_from nothing_held) word ≡ [] → ⊥
  other_fails word unmet no_mark e =
      let none = rw (unmet, no_mark) at e in
      let found : flag_word_fault s.rules s.args_override_self (long_of word) word nothing_held ≡ [] = first_none _ _ none in
      let flag : flag_word_fault s.rules false (long_of word) word nothing_held ≡ [] = rw once at found in
      let step = subst (λ (p : Held × Step). step_fault s 1 p.0 p.1 ≡ []) (word_value s.rules requests word (long_of word) flag) (second_none _ _ none) in
      stray_fails s (rw no_positional at step)

  -- behind the mark of the last option
  marked_ends : (word : Text) (words : List Text) → subcommand_met names idle (codes "--") ≡ None → word ≡ codes "--" → walk_fault s names (walk_from nothing_held) (word ∷ words) ≡ [] → words ≡ []
  unfolding walk_fault walked
  marked_ends word words unmet mark e =
      let at : walk_fault s names (walk_from nothing_held) (codes "--" ∷ words) ≡ [] = subst (λ (w : Text). walk_fault s names (walk_from nothing_held) (w ∷ words) ≡ []) mark e in
      let behind : walk_fault s names (walked s.rules names (walk_from nothing_held) (codes "--")) words ≡ [] = second_none _ _ at in
      trailing_ends words (rw unmet at behind)

-- ---- the words behind a task

leaf_at : (s : Shape) → AreRequests s.rules → arg_by_index s.rules 1 ≡ None → s.args_override_self ≡ false → (b : Bool) (word : Text) (words : List Text) → bytes_eq word (codes "--") ≡ b
    → walk_fault s [] (walk_from nothing_held) (word ∷ words) ≡ [] → word ∷ words ≡ codes "--" ∷ []
unfolding walk_fault
leaf_at s r n o true word words is e =
    let mark : word ≡ codes "--" = (bytes_eq-Decides word (codes "--")).0 is in
    ap₂ (λ (w : Text) (ws : List Text). w ∷ ws) mark (marked_ends s [] r n o word words refl mark e)
leaf_at s r n o false word words is e = absurd (other_fails s [] r n o word refl is (first_none _ _ e))

leaf_words : (s : Shape) → AreRequests s.rules → arg_by_index s.rules 1 ≡ None → s.args_override_self ≡ false → (words : List Text)
    → walk_fault s [] (walk_from nothing_held) words ≡ [] → (words ≡ []) ⊎ (words ≡ codes "--" ∷ [])
leaf_words s r n o [] e = inl refl
leaf_words s r n o (word ∷ words) e = inr (leaf_at s r n o (bytes_eq word (codes "--")) word words refl e)

-- ---- the program

abbrev names : Names
names = names_of (built rambo)

abbrev top : Shape
top = (built rambo).top

abbrev leaf : Task → Shape
leaf Replay = built_leaf (inherited (with_leaf_noted (marked_built rambo.top)) (subcommand Replay))

leaf_requests : (t : Task) → AreRequests (leaf t).rules
leaf_requests Replay = ((refl, λ rows e. some_kind _ _ e), tt)

top_requests : AreRequests top.rules
top_requests = ((refl, λ rows e. some_kind _ _ e), ((refl, λ rows e. some_kind _ _ e), tt))

leaf_none : (t : Task) → arg_by_index (leaf t).rules 1 ≡ None
leaf_none Replay = refl

leaf_once : (t : Task) → (leaf t).args_override_self ≡ false
leaf_once Replay = refl

-- the fault of the words behind a task is a fault of all words
below : (t : Task) (words : List Text) → fault_of rambo (name_of t ∷ words) ≡ [] → entered_fault (built rambo) (Some (name_of t, words)) ≡ []
unfolding walked
below Replay words e = subst (λ (w : Walk). entered_fault (built rambo) w.stopped ≡ []) (sym (walk_stopped top.rules names (walk_from nothing_held) (codes "replay") [] words)) (first_none _ _ (second_none _ _ e))

leaf_fault : (t : Task) (words : List Text) → entered_fault (built rambo) (Some (name_of t, words)) ≡ [] → walk_fault (leaf t) [] (walk_from nothing_held) words ≡ []
leaf_fault Replay words e = first_none _ _ e

behind : (t : Task) (words : List Text) → (words ≡ []) ⊎ (words ≡ codes "--" ∷ []) → Asks (name_of t ∷ words) t
behind t words (inl is) = inl (ap (λ (ws : List Text). name_of t ∷ ws) is)
behind t words (inr is) = inr (ap (λ (ws : List Text). name_of t ∷ ws) is)

named_words : (t : Task) (words : List Text) → fault_of rambo (name_of t ∷ words) ≡ [] → Asks (name_of t ∷ words) t
named_words t words e = behind t words (leaf_words (leaf t) (leaf_requests t) (leaf_none t) (leaf_once t) words (leaf_fault t words (below t words e)))

named_at : (t : Task) (word : Text) (words : List Text) → name_of t ≡ word → fault_of rambo (word ∷ words) ≡ [] → Asks (word ∷ words) t
named_at t word words is e = subst (λ (w : Text). Asks (w ∷ words) t) is (named_words t words (subst (λ (w : Text). fault_of rambo (w ∷ words) ≡ []) (sym is) e))

help_fails : (words : List Text) → fault_of rambo (codes "help" ∷ words) ≡ [] → ⊥
unfolding walk_fault
help_fails words e = some_kind _ _ e

mark_fails : fault_of rambo (codes "--" ∷ []) ≡ [] → ⊥
unfolding clap_on_literals
mark_fails e = some_kind _ _ e

no_words_fail : fault_of rambo [] ≡ [] → ⊥
unfolding clap_on_literals
no_words_fail e = some_kind _ _ e

-- a word that is none of the names
other_at : (b : Bool) (word : Text) (words : List Text) → bytes_eq word (codes "--") ≡ b → subcommand_met names idle word ≡ None → fault_of rambo (word ∷ words) ≡ [] → ⊥
unfolding walk_fault
other_at true word words is unmet e =
    let mark : word ≡ codes "--" = (bytes_eq-Decides word (codes "--")).0 is in
    let none : words ≡ [] = marked_ends top names top_requests refl refl word words refl mark (first_none _ _ e) in
    mark_fails (subst (λ (ws : List Text). fault_of rambo ws ≡ []) (ap₂ (λ (w : Text) (ws : List Text). w ∷ ws) mark none) e)
other_at false word words is unmet e = other_fails top names top_requests refl refl word unmet is (first_none _ _ (first_none _ _ e))

-- the words behind `check` are left to it
pub check_named : (words : List Text) → option_map (λ p. p.0) (subcommand_of rambo (codes "check" ∷ words)) ≡ Some (codes "check")
unfolding walked
check_named words =
    subst (λ (w : Walk). option_map (λ p. p.0) (entered (built rambo) w.stopped) ≡ Some (codes "check"))
    (walk_stopped top.rules names (walk_from nothing_held) (codes "check") [] words) refl

-- those behind `local`
pub local_named : (words : List Text) → option_map (λ p. p.0) (subcommand_of rambo (codes "local" ∷ words)) ≡ Some (codes "local")
unfolding walked
local_named words =
    subst (λ (w : Walk). option_map (λ p. p.0) (entered (built rambo) w.stopped) ≡ Some (codes "local"))
    (walk_stopped top.rules names (walk_from nothing_held) (codes "local") [] words) refl

-- and those behind `serve`
pub serve_named : (words : List Text) → option_map (λ p. p.0) (subcommand_of rambo (codes "serve" ∷ words)) ≡ Some (codes "serve")
unfolding walked
serve_named words =
    subst (λ (w : Walk). option_map (λ p. p.0) (entered (built rambo) w.stopped) ≡ Some (codes "serve"))
    (walk_stopped top.rules names (walk_from nothing_held) (codes "serve") [] words) refl

-- the first word is one of the five names, or none
abbrev Found : List Text → Type 0
Found words =
    ((t : Task) × Asks words t) ⊎ (named words ≡ Some (codes "check")) ⊎ (named words ≡ Some (codes "local")) ⊎ (named words ≡ Some (codes "serve"))

first_at : (r c l s h : Bool) (word : Text) (words : List Text) → bytes_eq (codes "replay") word ≡ r → bytes_eq (codes "check") word ≡ c → bytes_eq (codes "local") word ≡ l
    → bytes_eq (codes "serve") word ≡ s → bytes_eq (codes "help") word ≡ h → fault_of rambo (word ∷ words) ≡ [] → Found (word ∷ words)
first_at true c l s h word words is_r is_c is_l is_s is_h e = inl (Replay, named_at Replay word words ((bytes_eq-Decides (codes "replay") word).0 is_r) e)
first_at false true l s h word words is_r is_c is_l is_s is_h e =
    inr (inl (subst (λ (w : Text). named (w ∷ words) ≡ Some (codes "check")) ((bytes_eq-Decides (codes "check") word).0 is_c) (check_named words)))
first_at false false true s h word words is_r is_c is_l is_s is_h e =
    inr (inr (inl (subst (λ (w : Text). named (w ∷ words) ≡ Some (codes "local")) ((bytes_eq-Decides (codes "local") word).0 is_l) (local_named words))))
first_at false false false true h word words is_r is_c is_l is_s is_h e =
    inr (inr (inr (subst (λ (w : Text). named (w ∷ words) ≡ Some (codes "serve")) ((bytes_eq-Decides (codes "serve") word).0 is_s) (serve_named words))))
first_at false false false false true word words is_r is_c is_l is_s is_h e =
    absurd (help_fails words (subst (λ (w : Text). fault_of rambo (w ∷ words) ≡ []) (sym ((bytes_eq-Decides (codes "help") word).0 is_h)) e))
first_at false false false false false word words is_r is_c is_l is_s is_h e =
    let unmet : subcommand_met names idle word ≡ None = rw (is_r, is_c, is_l, is_s, is_h) refl in
    absurd (other_at (bytes_eq word (codes "--")) word words refl unmet e)

pub faultless_asks : (words : List Text) → fault_of rambo words ≡ [] → Found words
faultless_asks [] e = absurd (no_words_fail e)
faultless_asks (word ∷ words) e =
    first_at (bytes_eq (codes "replay") word) (bytes_eq (codes "check") word) (bytes_eq (codes "local") word) (bytes_eq (codes "serve") word) (bytes_eq (codes "help") word)
    word words refl refl refl refl refl e

-- ---- words that ask for a task

at_literal : (t : Task) → (fault_of rambo (name_of t ∷ []) ≡ []) × (option_map (λ p. p.0) (subcommand_of rambo (name_of t ∷ [])) ≡ Some (name_of t))
unfolding clap_on_literals
at_literal Replay = (refl, refl)

at_marked : (t : Task) → (fault_of rambo (name_of t ∷ codes "--" ∷ []) ≡ []) × (option_map (λ p. p.0) (subcommand_of rambo (name_of t ∷ codes "--" ∷ [])) ≡ Some (name_of t))
unfolding clap_on_literals
at_marked Replay = (refl, refl)

pub asks_faultless : (words : List Text) (t : Task) → Asks words t → fault_of rambo words ≡ []
asks_faultless words t (inl is) = subst (λ (ws : List Text). fault_of rambo ws ≡ []) (sym is) (at_literal t).0
asks_faultless words t (inr is) = subst (λ (ws : List Text). fault_of rambo ws ≡ []) (sym is) (at_marked t).0

memory_alone : (e : Error) → HasKind [] e → kind_of e ≡ OutOfMemory
memory_alone e (inl is) = is
memory_alone e (inr among) = absurd among

pub asks_named : (words : List Text) (t : Task) → Asks words t → named words ≡ Some (name_of t)
asks_named words t (inl is) = subst (λ (ws : List Text). option_map (λ p. p.0) (subcommand_of rambo ws) ≡ Some (name_of t)) (sym is) (at_literal t).1
asks_named words t (inr is) = subst (λ (ws : List Text). option_map (λ p. p.0) (subcommand_of rambo ws) ≡ Some (name_of t)) (sym is) (at_marked t).1

-- no words are taken for commands of two names
pub not_both : (words : List Text) (a b : Text) → bytes_eq a b ≡ false → named words ≡ Some a → named words ≡ Some b → ⊥
not_both words a b apart is also =
    let same : a ≡ b = ap (λ (o : Option Text). unwrap_or o a) (sym is ∙ also) in
    true≢false (sym ((bytes_eq-Decides a b).1 same) ∙ apart)

pub task_faultless : (words : List Text) (t : AnyTask) → lines.Asks words t → fault_of rambo words ≡ []
task_faultless words line.Replay asks = asks_faultless words Replay asks
task_faultless words (line.Check checking) asks = asks.0.0
task_faultless words (line.Local founders) asks = asks.0.0
task_faultless words (line.Serve serving) asks = asks.0.0

pub task_named : (words : List Text) (t : AnyTask) → lines.Asks words t → named words ≡ Some (lines.name_of t)
task_named words line.Replay asks = asks_named words Replay asks
task_named words (line.Check checking) asks = asks.0.1
task_named words (line.Local founders) asks = asks.0.1
task_named words (line.Serve serving) asks = asks.0.1

-- words that ask for a task ask for none of another name
pub one_task : (words : List Text) (t : AnyTask) (name : Text) → bytes_eq (lines.name_of t) name ≡ false → lines.Asks words t → named words ≡ Some name → ⊥
one_task words t name apart asks = not_both words (lines.name_of t) name apart (task_named words t asks)

pub rambo_is_free : is_simple_and_free rambo ≡ true
unfolding clap_on_literals
rambo_is_free = refl

-- ---- the task that a parse met

name_read : {A B C : Type 0} (f : B → C) (g : A → B) (o : Option A) → option_map f (option_map g o) ≡ option_map (λ x. f (g x)) o
name_read f g None = refl
name_read f g (Some x) = refl

rows_read : (f : List Row → Option Text) (o : Option (Text × List Row)) → option_and_then (λ p. f p.1) o ≡ option_and_then f (option_map (λ p. p.1) o)
rows_read f None = refl
rows_read f (Some p) = refl

rambo_is_simple : is_simple rambo ≡ true
unfolding clap_on_literals
rambo_is_simple = refl

-- where clap reads words by the command of `rambo`, and finds no fault
pub faultless_as : (a : App) (words : List Text) → a ≡ rambo → (is_simple_and_free a ≡ true → fault_of a words ≡ []) → fault_of rambo words ≡ []
faultless_as a words is kinds = subst (λ (b : App). fault_of b words ≡ []) is (kinds (ap is_simple_and_free is ∙ rambo_is_free))

module _ (words : List Text) (m : ArgMatches) (faultless : fault_of rambo words ≡ []) (matches : HasMatchesOf rambo words m) where
  rows_are : subcommand_rows_of m ≡ subcommand_of rambo words
  rows_are = (matches rambo_is_simple).1

  -- what stands behind an option
  pub word_is : (option : Text) (sub : ArgMatches) → option_map (λ p. p.1) (subcommand_rows_of m) ≡ Some (rows_of (found_of sub))
      → word_behind option words ≡ first_value (found_of sub) option
  word_is option sub e =
      ap (option_and_then (λ p. first_of option p.1)) (sym rows_are)
      ∙ rows_read (first_of option) (subcommand_rows_of m) ∙ ap (option_and_then (first_of option)) e ∙ sym (first_value-rows (found_of sub) option)

  named_is : named words ≡ subcommand_name_of m
  named_is = ap (option_map (λ p. p.0)) (sym rows_are) ∙ name_read (λ p. p.0) _ (out-ArgMatches m).subcommand

  pub met_named : (name : Text) → subcommand_name_of m ≡ Some name → AsksFor name words
  met_named name met = (faultless, named_is ∙ met)

  -- the rows of the command that a parse met
  pub rows_met : (name : Text) (sub : ArgMatches) → subcommand_name_of m ≡ Some name → option_map (λ p. p.1) (subcommand_rows_of m) ≡ Some (rows_of (found_of sub))
      → subcommand_of rambo words ≡ Some (name, rows_of (found_of sub))
  rows_met name sub met rows = sym rows_are ∙ both _ (name_read (λ p. p.0) _ (out-ArgMatches m).subcommand ∙ met) rows
    where
      both : (o : Option (Text × List Row)) → option_map (λ p. p.0) o ≡ Some name → option_map (λ p. p.1) o ≡ Some (rows_of (found_of sub)) → o ≡ Some (name, rows_of (found_of sub))
      both None is also = absurd (true≢false (ap (λ (o : Option Text). option_map_or (λ t. false) o true) is))
      both (Some p) is also =
          ap₂ (λ (n : Text) (rs : List Row). Some (n, rs)) (ap (λ (o : Option Text). unwrap_or o name) is) (ap (λ (o : Option (List Row)). unwrap_or o p.1) also)

  pub met_replay : ¬ (subcommand_name_of m ≡ Some (codes "check")) → ¬ (subcommand_name_of m ≡ Some (codes "local")) → ¬ (subcommand_name_of m ≡ Some (codes "serve"))
      → AsksByName words (codes "replay")
  met_replay not_check not_local not_serve = at (faultless_asks words faultless)
    where
      at : Found words → AsksByName words (codes "replay")
      at (inl (Replay, asks)) = asks
      at (inr (inl check)) = absurd (not_check (sym named_is ∙ check))
      at (inr (inr (inl local))) = absurd (not_local (sym named_is ∙ local))
      at (inr (inr (inr serve))) = absurd (not_serve (sym named_is ∙ serve))

  -- what clap tells of a flag
  pub flag_is : (option : Text) (sub : ArgMatches) → option_map (λ p. p.1) (subcommand_rows_of m) ≡ Some (rows_of (found_of sub))
      → flag_told option words ≡ one_text (found_of sub) option
  flag_is option sub e =
      ap (option_and_then (λ p. one_of option p.1)) (sym rows_are)
      ∙ rows_read (one_of option) (subcommand_rows_of m) ∙ ap (option_and_then (one_of option)) e ∙ sym (one_text-rows (found_of sub) option)

-- the kind of an error that words give in which there is no fault
pub faultless_memory : (words : List Text) (e : Error) → fault_of rambo words ≡ [] → HasKind (fault_of rambo words) e → kind_of e ≡ OutOfMemory
faultless_memory words e fine kind = memory_alone e (subst (λ (kinds : Kinds). HasKind kinds e) fine kind)

-- an error of a parse has one of the kinds of its words
pub kinds_as : (a : App) (words : List Text) (e : Error) → a ≡ rambo → (is_simple_and_free a ≡ true → HasKind (fault_of a words) e) → HasKind (fault_of rambo words) e
kinds_as a words e is kinds = subst (λ (b : App). HasKind (fault_of b words) e) is (kinds (ap is_simple_and_free is ∙ rambo_is_free))
