-- What a command of a server's client asks for
use Rattle.std.specs.Prelude.{◌≡◌, ◌⊎◌, ℕ, ◌<◌, ◌^◌, if◌then◌else◌, MatchBool, List, [], ◌∷◌, Option, None, Some, Result, Ok, Err, codes, decimal}
use Rattle.std.specs.Str.{str_eq_ignore_ascii_case}
use Rattle.rambo_names.specs.declared.refusal.Refusal.TheVariants.{NoSuchName}
use Rattle.rambo_names.specs.Names.{IsName, NameSet, AreNames}
use Rattle.rambo_names.specs.Signs.{set_text, conf_text, IsConf}
use Rattle.rambo_names.specs.Weights.{Weights}
use Rattle.rambo_text.specs.Forms.{IsSpelt}
use Rattle.rambo_text.specs.Forms as form
use Rattle.rambo_commands.specs.declared.administration.Action.{Action}
use Rattle.rambo_commands.specs.declared.administration.Action.TheVariants as action
use Rattle.rambo_commands.specs.declared.mistake.Mistake.{Mistake}
use Rattle.rambo_commands.specs.declared.mistake.Mistake.TheVariants.{UnknownCommand, WrongCount, BadArgument, Refused}
use Rattle.rambo_commands.specs.declared.server_request.ServerRequest.{ServerRequest}
use Rattle.rambo_commands.specs.declared.server_request.ServerRequest.TheVariants.{Common, Use, Join, Recon, Collect, Stop, Config, Info, Shutdown}
use Rattle.rambo_commands.specs.Requests.{fails, request_of}

-- a command that is answered by an error alone
abbrev pub wrong : Mistake → ServerRequest
wrong mistake = Common (fails mistake)

-- what is asked for, or what is wrong
abbrev pub judged : Result ServerRequest Mistake → ServerRequest
judged (Ok asked) = asked
judged (Err mistake) = wrong mistake

-- the word spells this number, this set, or this configuration
pub record IsNumber (word : List ℕ) (n : ℕ) : Type 0 where
  pub small : n < 2 ^ 64
  pub spelt : word ≡ decimal n

pub record IsSet (word : List ℕ) (s : NameSet) : Type 0 where
  pub names : AreNames s
  pub spelt : word ≡ set_text s

pub record IsOfConf (word : List ℕ) (c : Weights) : Type 0 where
  pub names : IsConf c
  pub spelt : word ≡ conf_text c

-- what is made of the name of this number, which is refused where it is none
abbrev pub IsNamed : (ℕ → ServerRequest) → ℕ → ServerRequest → Type 0
IsNamed make n asked = (IsName n × (asked ≡ make n)) ⊎ (¬ (IsName n) × (asked ≡ wrong (Refused NoSuchName)))

-- the word after the action names a node
abbrev pub ActsOnNode : (ℕ → ServerRequest) → List (List ℕ) → ServerRequest → Type 0
ActsOnNode make [] asked = asked ≡ wrong WrongCount
ActsOnNode make (word ∷ []) asked =
    ((n : ℕ) × IsNumber word n × IsNamed make n asked)
    ⊎ (¬ (IsSpelt form.Num word) × (asked ≡ wrong BadArgument))
ActsOnNode make (word ∷ next ∷ words) asked = asked ≡ wrong WrongCount

-- the words after `JOIN` name a node, and those that it knows at first
abbrev pub Joins : List (List ℕ) → ServerRequest → Type 0
Joins [] asked = asked ≡ wrong WrongCount
Joins (word ∷ []) asked = asked ≡ wrong WrongCount
Joins (word ∷ known ∷ []) asked =
    ((n : ℕ) × (s : NameSet) × IsNumber word n × IsSet known s × IsNamed (λ m. Join m s) n asked)
    ⊎ (¬ (IsSpelt form.Num word × IsSpelt form.Set known) × (asked ≡ wrong BadArgument))
Joins (word ∷ known ∷ next ∷ words) asked = asked ≡ wrong WrongCount

-- the word after `RECON` spells a configuration
abbrev pub Changes : List (List ℕ) → ServerRequest → Type 0
Changes [] asked = asked ≡ wrong WrongCount
Changes (word ∷ []) asked =
    ((c : Weights) × IsOfConf word c × (asked ≡ Recon c))
    ⊎ (¬ (IsSpelt form.Conf word) × (asked ≡ wrong BadArgument))
Changes (word ∷ next ∷ words) asked = asked ≡ wrong WrongCount

-- no word follows the action
abbrev pub ActsAlone : ServerRequest → List (List ℕ) → ServerRequest → Type 0
ActsAlone own [] asked = asked ≡ own
ActsAlone own (word ∷ words) asked = asked ≡ wrong WrongCount

-- the action that a word names, in upper or lower case
abbrev pub action_of : List ℕ → Option Action
action_of word =
    if str_eq_ignore_ascii_case word (codes "USE") then Some action.Use
    else (if str_eq_ignore_ascii_case word (codes "JOIN") then Some action.Join
    else (if str_eq_ignore_ascii_case word (codes "RECON") then Some action.Recon
    else (if str_eq_ignore_ascii_case word (codes "COLLECT") then Some action.Collect
    else (if str_eq_ignore_ascii_case word (codes "STOP") then Some action.Stop
    else (if str_eq_ignore_ascii_case word (codes "CONFIG") then Some action.Config
    else (if str_eq_ignore_ascii_case word (codes "INFO") then Some action.Info
    else (if str_eq_ignore_ascii_case word (codes "SHUTDOWN") then Some action.Shutdown else None)))))))

abbrev pub Acts : Action → List (List ℕ) → ServerRequest → Type 0
Acts action.Use words asked = ActsOnNode Use words asked
Acts action.Join words asked = Joins words asked
Acts action.Recon words asked = Changes words asked
Acts action.Collect words asked = ActsAlone Collect words asked
Acts action.Stop words asked = ActsOnNode Stop words asked
Acts action.Config words asked = ActsAlone Config words asked
Acts action.Info words asked = ActsAlone Info words asked
Acts action.Shutdown words asked = ActsAlone Shutdown words asked

abbrev pub ActsIfKnown : Option Action → List (List ℕ) → ServerRequest → Type 0
ActsIfKnown None words asked = asked ≡ wrong UnknownCommand
ActsIfKnown (Some known) words asked = Acts known words asked

-- the words after `RAMBO`, the first of which names an action
abbrev pub Administers : List (List ℕ) → ServerRequest → Type 0
Administers [] asked = asked ≡ wrong WrongCount
Administers (word ∷ words) asked = ActsIfKnown (action_of word) words asked

-- the items of a command ask for this
abbrev pub Asks : List (List ℕ) → ServerRequest → Type 0
Asks [] asked = asked ≡ Common (request_of [])
Asks (name ∷ words) asked =
    MatchBool (str_eq_ignore_ascii_case name (codes "RAMBO")) (Administers words asked) (asked ≡ Common (request_of (name ∷ words)))
