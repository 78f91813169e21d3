-- Command lines
use Rattle.std.specs.Prelude.{◌≡◌, ◌≢◌, ◌⊎◌, ◌≤◌, ℕ, Bool, true, false, List, [], ◌∷◌, Option, None, Some, is_some, option_map, codes}
use Rattle.std.specs.Option.{option_and_then, option_map_or, unwrap_or}
use Rattle.std.specs.String.{string_bytes}
use Rattle.std.specs.Str.Parse.{digits_value, without_leading_plus}
use Rattle.clap.specs.declared.builder.action.ArgAction.TheVariants.{Set, SetTrue}
use Rattle.clap.specs.declared.builder.command.Command.{Command}
use Rattle.clap.specs.declared.builder.value_parser.ValueParser.TheVariants.{Unsigned}
use Rattle.clap.specs.declared.builder.command.Command.TheViews.{out-Command}
use Rattle.clap.specs.Words.{App, Rule, Shape, fault_of, first_of, one_of, new_app, new_rule, shape_of, subcommand_of, with_rule, with_subcommand}
use Rattle.rambo_names.specs.Names.{count_of}
use Rattle.rambo_names.specs.Weights.{Weights, members_of}
use Rattle.rambo_names.specs.Signs.{conf_text}
use Rattle.rambo_command_line.specs.declared.line.Checking.{Checking}
use Rattle.rambo_command_line.specs.declared.line.Task.{Task}
use Rattle.rambo_command_line.specs.declared.line.Task.TheVariants.{Replay, Check, Local, Serve}
use Rattle.rambo_command_line.specs.declared.serving.Serving.{Serving}

-- the word for a task
abbrev pub name_of : Task → List ℕ
name_of Replay = codes "replay"
name_of (Check checking) = codes "check"
name_of (Local founders) = codes "local"
name_of (Serve serving) = codes "serve"

abbrev pub check_name : List ℕ
check_name = codes "check"

abbrev pub serve_name : List ℕ
serve_name = codes "serve"

-- the program as clap reads it: four commands, one of which is required, and no program name before them. One has no
-- arguments, one has flags, and two have options with values
abbrev pub program : App
program = record {
  top = record (new_app (codes "rambo")).top { has_version = true; no_binary_name = true; subcommand_required = true };
  subs = [];
}

abbrev pub plain : List ℕ → Shape
plain name = (new_app name).top

-- a flag of a name
abbrev pub flag_rule : List ℕ → Rule
flag_rule name = record (new_rule name) { long = Some name; action = Some SetTrue }

-- the command that checks, with the flag that says whether each no is explained
abbrev pub with_why : App
with_why = with_rule (new_app check_name) (flag_rule (codes "why"))

-- and with those that say whether the gets are placed, and whether the outcome is written
abbrev pub with_placing : Shape
with_placing = (with_rule (with_rule with_why (flag_rule (codes "place"))) (flag_rule (codes "print"))).top

-- a command that has these, and no argument that others share
abbrev pub IsCheck : Command → Type 0
IsCheck c = (shape_of c ≡ with_placing) × ((out-Command c).has_globals ≡ false)

-- the option of any word
abbrev pub word_rule : List ℕ → Rule
word_rule option = record (new_rule option) { long = Some option; action = Some Set; value_names = 1 }

abbrev pub founders_rule : Rule
founders_rule = word_rule (codes "founders")

abbrev pub with_founders : Shape
with_founders = (with_rule (new_app (codes "local")) founders_rule).top

-- a command that has it, and no argument that others share
abbrev pub IsLocal : Command → Type 0
IsLocal c = (shape_of c ≡ with_founders) × ((out-Command c).has_globals ≡ false)

-- the option of a number from the least to the most
abbrev pub number_rule : List ℕ → ℕ → ℕ → Rule
number_rule option least most =
    record (new_rule option) { long = Some option; action = Some Set; value_names = 1; parser = Some (Unsigned least most) }

-- the command that serves many clients, with the options that say where, of which founders, and by how many threads
abbrev pub with_clients : App
with_clients = with_rule (with_rule (with_rule (new_app serve_name) (number_rule (codes "port") 0 65535)) founders_rule) (number_rule (codes "clients") 1 32)

-- and with those that say how many connections and steps there may be
abbrev pub with_network : App
with_network =
    with_rule (with_rule with_clients (number_rule (codes "connections") 1 1000000)) (number_rule (codes "steps") 1 1000000)

-- and with those about its letters
abbrev pub with_letters : App
with_letters =
    with_rule (with_rule with_network (number_rule (codes "lose") 0 18446744073709551615)) (number_rule (codes "twice") 0 18446744073709551615)

-- and with the flags that say whether its steps end, and whether it leaves no trace
abbrev pub with_endless : App
with_endless = with_rule (with_rule with_letters (flag_rule (codes "endless"))) (flag_rule (codes "no-trace"))

-- and with those about the file of its trace
abbrev pub with_options : Shape
with_options =
    (with_rule (with_rule (with_rule with_endless (word_rule (codes "trace"))) (flag_rule (codes "sync"))) (flag_rule (codes "resume"))).top

-- a command that has these, and no argument that others share
abbrev pub IsServe : Command → Type 0
IsServe c = (shape_of c ≡ with_options) × ((out-Command c).has_globals ≡ false)

abbrev pub rambo : App
rambo =
    with_subcommand (with_subcommand (with_subcommand (with_subcommand program (plain (codes "replay"))) with_placing) with_founders)
    with_options

-- the name of the command that the words are taken for
abbrev pub named : List (List ℕ) → Option (List ℕ)
named words = option_map (λ p. p.0) (subcommand_of rambo words)

-- what follows an option of that command, where it is there
abbrev pub word_behind : List ℕ → List (List ℕ) → Option (List ℕ)
word_behind option words = option_and_then (λ p. first_of option p.1) (subcommand_of rambo words)

-- what clap gives for a flag of that command: `true` where it is there, and else `false`
abbrev pub flag_told : List ℕ → List (List ℕ) → Option (List ℕ)
flag_told option words = option_and_then (λ p. one_of option p.1) (subcommand_of rambo words)

-- whether it is there, by what clap gives
pub record IsFlag (option : List ℕ) (words : List (List ℕ)) (is_there : Bool) : Type 0 where
  pub there : flag_told option words ≡ Some (codes "true") → is_there ≡ true
  pub absent : flag_told option words ≡ Some (codes "false") → is_there ≡ false
  pub untold : flag_told option words ≡ None → is_there ≡ false

-- what follows `--founders`, or these where that isn't there
abbrev pub founders_or : List ℕ → List (List ℕ) → List ℕ
founders_or others words = unwrap_or (word_behind (codes "founders") words) others

-- the word is the sign of a configuration of founders, or of none, or no sign of a configuration
abbrev pub IsFounders : List ℕ → Option Weights → Type 0
IsFounders word (Some founders) = (word ≡ conf_text founders) × (1 ≤ count_of (members_of founders))
IsFounders word None = (word ≡ codes "-") ⊎ ((c : Weights) → word ≢ conf_text c)

-- the number that a word spells, which may begin with a plus
abbrev pub number_of : List ℕ → ℕ
number_of word = digits_value 10 (without_leading_plus word)

-- n is the number after an option, or the other one where that isn't there, and lies in a range
pub record IsNumberBehind (option : List ℕ) (other least most : ℕ) (words : List (List ℕ)) (n : ℕ) : Type 0 where
  pub number : n ≡ option_map_or number_of (word_behind option words) other
  pub from : least ≤ n
  pub to : n ≤ most

-- what words ask of a server
pub record IsServing (words : List (List ℕ)) (s : Serving) : Type 0 where
  pub port : IsNumberBehind (codes "port") 0 0 65535 words s.port
  pub founders : IsFounders (founders_or (codes "1,2,3") words) s.founders
  pub clients : IsNumberBehind (codes "clients") 2 1 32 words s.clients
  pub connections : IsNumberBehind (codes "connections") 10000 1 1000000 words s.connections
  pub steps : IsNumberBehind (codes "steps") 100000 1 1000000 words s.steps
  pub lose : IsNumberBehind (codes "lose") 0 0 18446744073709551615 words s.lose
  pub twice : IsNumberBehind (codes "twice") 0 0 18446744073709551615 words s.twice
  pub endless : IsFlag (codes "endless") words s.endless
  pub untraced : IsFlag (codes "no-trace") words s.untraced
  pub counted : s.counted ≡ is_some (word_behind (codes "steps") words)
  pub trace : option_map string_bytes s.trace ≡ word_behind (codes "trace") words
  pub synced : IsFlag (codes "sync") words s.synced
  pub resumed : IsFlag (codes "resume") words s.resumed
  pub founded : s.founded ≡ is_some (word_behind (codes "founders") words)

-- what words ask of a check
pub record IsChecking (words : List (List ℕ)) (c : Checking) : Type 0 where
  pub why : IsFlag (codes "why") words c.why
  pub place : IsFlag (codes "place") words c.place
  pub print : IsFlag (codes "print") words c.print

-- words that ask for a task by its name alone, which the mark of the last option may follow
abbrev pub AsksByName : List (List ℕ) → List ℕ → Type 0
AsksByName words name = (words ≡ name ∷ []) ⊎ (words ≡ name ∷ codes "--" ∷ [])

-- words that clap takes for a command
abbrev pub AsksFor : List ℕ → List (List ℕ) → Type 0
AsksFor name words = (fault_of rambo words ≡ []) × (named words ≡ Some name)

-- words that ask for a check
abbrev pub AsksCheck : List (List ℕ) → Type 0
AsksCheck = AsksFor check_name

-- words that ask for a client to be served
abbrev pub AsksLocal : List (List ℕ) → Type 0
AsksLocal = AsksFor (codes "local")

-- words that ask for many clients to be served
abbrev pub AsksServe : List (List ℕ) → Type 0
AsksServe = AsksFor serve_name

-- the words ask for a task
abbrev pub Asks : List (List ℕ) → Task → Type 0
Asks words Replay = AsksByName words (codes "replay")
Asks words (Check checking) = AsksCheck words × IsChecking words checking
Asks words (Local founders) = AsksLocal words × IsFounders (founders_or (codes "1") words) founders
Asks words (Serve serving) = AsksServe words × IsServing words serving
