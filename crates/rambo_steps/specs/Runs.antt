-- A run that goes on as the lines of a script are read
use Rattle.std.specs.Prelude.{◌≡◌, ◌⊎◌, ℕ, List, [], Option, ◌++◌, map, length}
use Rattle.rambo_names.specs.Weights.{Weights, weighted_majorities}
use Rattle.rambo_node.specs.Steps.{Step}
use Rattle.rambo_run.specs.Worlds.{WorldState, first_world}
use Rattle.rambo_run.specs.Steps.{refusal}
use Rattle.rambo_run.specs.Runs.{after, maps_of, given_sequences, given_order, result_of}
use Rattle.rambo_run.specs.Ongoing.{RunningOf}
use Rattle.rambo_text.specs.declared.fault.Fault.{Fault}
use Rattle.rambo_text.specs.declared.fault.ScriptFault.{ScriptFault}
use Rattle.rambo_text.specs.declared.fault.ReplayFault.{ReplayFault}
use Rattle.rambo_text.specs.declared.fault.ReplayFault.TheVariants.{Script, Memory}
use Rattle.rambo_text.specs.declared.version.Version.{Version}
use Rattle.rambo_text.specs.Versions.{in_whole, head_text}
use Rattle.rambo_text.specs.Words.{IsFirstLine}
use Rattle.rambo_atomic.specs.Unreads.{UnreadState}
use Rattle.rambo_check.specs.Readings.{IsMore}
use Rattle.rambo_check.specs.Lines.{Ordered, items_text}
use Rattle.rambo_outcome.specs.Outcomes.{order_items_in, map_item}
use Rattle.rambo_outcome.specs.Notes.{NoteState, ToldState, HasRoom, other_items, noted}
use Rattle.rambo_lines.specs.StepLines.{step_line}
use Rattle.rambo_lines.specs.Faults.{IsFirstFault, IsFaultyStep}
use Rattle.rambo_lines.specs.Scripts.{ScriptState, AreFounders, HasLine, IsScript, founders_line}
use Rattle.rambo_steps.specs.Replays.{replayed, IsFaultyBehind}

-- the first line of what is after a head has founders
pub record TellsFounders (bytes : List ℕ) (c : Weights) : Type 0 where
  pub line : List ℕ
  pub rest : List ℕ
  pub is_first : IsFirstLine bytes line rest
  pub founders : AreFounders c
  pub line_is : line ≡ founders_line c

-- and those of a run that took no step
abbrev pub IsFounded : List ℕ → RunningOf Weights → Type 0
IsFounded bytes r = TellsFounders bytes r.founders × (r.state ≡ first_world weighted_majorities r.founders)

-- a run took a step of this number, and what is reported of it that isn't in its history came to some notes
pub record Takes (step : Step Weights) (number : ℕ) (old new : RunningOf Weights) (notes longer : List NoteState) : Type 0 where
  pub taken : new ≡ record old { state = after weighted_majorities old.state step }
  pub told : longer ≡ noted notes (length new.state.history) (other_items number (result_of (refusal weighted_majorities old.state step) old.state step))

-- a line gives it
pub record TakesStep (line : List ℕ) (number : ℕ) (old new : RunningOf Weights) (notes longer : List NoteState) : Type 0 where
  pub step : Step Weights
  pub has_line : HasLine step
  pub line_is : line ≡ step_line step
  pub takes : Takes step number old new notes longer

-- a text, with the sequences, the order of all keys and the maps after it
abbrev pub ended : Version → WorldState Weights → List ℕ → List ℕ
ended version w text =
    ((text ++ items_text (map Ordered (given_sequences w))) ++ items_text (order_items_in version (given_order w))) ++ items_text (map map_item (maps_of w.nodes))

-- what is told of a run that ended, but for its history
pub record Tells (version : Version) (w : WorldState Weights) (notes : List NoteState) (told : ToldState) : Type 0 where
  pub head : told.head ≡ head_text version
  pub notes_are : told.notes ≡ notes
  pub tail : told.tail ≡ ended version w []
  pub room : HasRoom told.room w.history

-- what is after a head is a script, and the text is that of its run
abbrev pub IsReplayBehind : Version → List ℕ → List ℕ → Type 0
IsReplayBehind version bytes text = (script : ScriptState) × IsScript bytes script × (text ≡ replayed version script)

-- why it gave no text: a fault by its line in the whole text, or out of memory
abbrev pub GivesUpBehind : Version → List ℕ → ReplayFault → Type 0
GivesUpBehind version bytes f = (f ≡ Memory) ⊎ ((g : ScriptFault) × (f ≡ Script (in_whole version g)) × IsFaultyBehind bytes g)

-- a line has a fault, or memory ran out
abbrev pub IsFaultAt : ℕ → (Fault → Type 0) → ReplayFault → Type 0
IsFaultAt line IsFaulty f = (f ≡ Memory) ⊎ ((g : ScriptFault) × (f ≡ Script g) × (g.line ≡ line) × IsFaulty g.fault)

-- the first of some lines tells a step, which a run took, and the rest is that of the lines after it
pub record TakesFirst (lines : List ℕ) (number : ℕ) (old new : RunningOf Weights) (notes longer : List NoteState) (rest : List ℕ) : Type 0 where
  pub line : List ℕ
  pub is_first : IsFirstLine lines line rest
  pub takes : TakesStep line number old new notes longer

-- it has a fault, or memory ran out
pub record IsFirstFaultAt (number : ℕ) (lines : List ℕ) (f : ReplayFault) : Type 0 where
  pub line : List ℕ
  pub rest : List ℕ
  pub is_first : IsFirstLine lines line rest
  pub fault : IsFaultAt number (IsFaultyStep line) f

-- something is so of a text that begins with what is held, and goes on with what its source has left
abbrev pub IsOfWhole : (List ℕ → Type 0) → UnreadState → Option (List ℕ) → Type 0
IsOfWhole IsSo u left = (more : List ℕ) × IsMore u left more × IsSo (u.held ++ more)

-- why there is no run of founders: their line has a fault, or memory ran out
abbrev pub FoundsNone : Version → List ℕ → ReplayFault → Type 0
FoundsNone version bytes f = (f ≡ Memory) ⊎ ((g : ScriptFault) × (f ≡ Script (in_whole version g)) × IsFirstFault bytes g)
