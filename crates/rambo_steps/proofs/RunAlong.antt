-- A run that goes on as the lines of a script are read
use Rattle.std.proofs.Common.{◌≡◌, ◌≢◌, ℕ, ◌+◌, ◌-◌, ◌<◌, ◌≤◌, ◌^◌, List, [], ◌∷◌, ◌++◌, length, inl, inr, refl, sym, ap, subst, ◌∙◌, arith, append_assoc, map}
use Rattle.rambo_names.specs.Weights.{Weights, weighted_majorities}
use Rattle.rambo_history.specs.declared.event.Event.{Event}
use Rattle.rambo_history.specs.Forms.{IsWellFormed}
use Rattle.rambo_history.specs.Proper.{IsProper}
use Rattle.rambo_sequence.specs.declared.mark.Mark.{Mark}
use Rattle.rambo_sequence.specs.Sequences.{SequenceOf, sequence_in, sequences_of}
use Rattle.rambo_sequence.specs.StoreOrders.{AreApart, NoTwice, all_calls}
use Rattle.rambo_sequence.proofs.MergedOrder.{proper_once}
use Rattle.rambo_sequence.proofs.Outcomes.{sequences_apart}
use Rattle.rambo_node.specs.Steps.{Step}
use Rattle.rambo_run.specs.Worlds.{WorldState, first_world}
use Rattle.rambo_run.specs.Runs.{after, given_sequences, given_order, maps_of, run, run_from}
use Rattle.rambo_run.specs.Ongoing.{RunningOf}
use Rattle.rambo_run.proofs.Runs.{run_from-more, run_from-none}
use Rattle.rambo_run.proofs.WellFormed.{run_well_formed}
use Rattle.rambo_text.specs.declared.fault.ReplayFault.{ReplayFault}
use Rattle.rambo_text.specs.declared.fault.ReplayFault.TheVariants.{Script}
use Rattle.rambo_text.specs.declared.fault.ScriptFault.{ScriptFault}
use Rattle.rambo_text.specs.declared.version.Version.{Version}
use Rattle.rambo_text.specs.Versions.{head_text}
use Rattle.rambo_text.specs.Words.{IsFirstLine}
use Rattle.rambo_text.proofs.Heads.{same_lines}
use Rattle.rambo_check.specs.Lines.{Ordered, items_text}
use Rattle.rambo_outcome.specs.Outcomes.{order_items_in, map_item}
use Rattle.rambo_outcome.specs.Notes.{NoteState, ToldState, HasRoom, events_before, woven, told_text}
use Rattle.rambo_outcome.proofs.Telling.{told_along, woven_next, text_whole}
use Rattle.rambo_lines.specs.Scripts.{founders_line}
use Rattle.rambo_lines.specs.Faults.{IsLineFault, TellNoFounders, TellsBytes, IsFaultyStep}
use Rattle.rambo_steps.specs.Runs.{IsFounded, TakesStep, Tells, IsFaultAt, IsReplayBehind, GivesUpBehind, FoundsNone, ended}
use Rattle.rambo_lines.proofs.LineByLine.{Reads, script, nothing, reads-first, reads-next, reads-all, later_in_whole}
use Rattle.rambo_lines.proofs.Placing.{place_next, place_pushed, fault_there}
use Rattle.rambo_lines.specs.declared.place.Place.{Place}
use Rattle.rambo_lines.specs.Places.{place_of}

-- some steps: their lines were read, the run took them, and its history with the notes is what was told of them
pub record Runs (version : Version) (bytes : List ℕ) (r : RunningOf Weights) (place : Place) (notes : List NoteState) (rest : List ℕ) : Type 0 where
  pub steps : List (Step Weights)
  pub reads : Reads bytes r.founders steps rest
  pub ran : r.state ≡ run_from weighted_majorities (first_world weighted_majorities r.founders) steps
  pub told : woven r.state.history notes ≡ items_text (told_along weighted_majorities (first_world weighted_majorities r.founders) 1 steps)
  pub within : events_before notes ≤ length r.state.history
  pub at : place ≡ place_of version (length steps)

-- at first there is no event
pub first_history : (founders : Weights) → (first_world weighted_majorities founders).history ≡ []
unfolding first_world
first_history founders = λ i. []

-- the history of the world that some steps made is well formed
pub ran_well : (founders : Weights) (steps : List (Step Weights)) → IsWellFormed (run_from weighted_majorities (first_world weighted_majorities founders) steps).history
unfolding run
ran_well founders steps = run_well_formed weighted_majorities founders steps

-- the first line was read
abbrev pub runs_first : (version : Version) (bytes line rest : List ℕ) (r : RunningOf Weights) (place : Place) (notes : List NoteState) → IsFirstLine bytes line rest → IsFounded bytes r → notes ≡ []
    → place ≡ place_of version 0 → Runs version bytes r place notes rest
runs_first version bytes line rest r place notes first founded none at =
    let is : line ≡ founders_line r.founders = (same_lines bytes line rest founded.0.line founded.0.rest first founded.0.is_first).0 ∙ founded.0.line_is in
    let empty : r.state.history ≡ [] = ap (λ (w : WorldState Weights). w.history) founded.1 ∙ first_history r.founders in
    record {
      steps = [];
      reads = reads-first bytes line rest r.founders first founded.0.founders is;
      ran = founded.1 ∙ sym (run_from-none weighted_majorities (first_world weighted_majorities r.founders));
      told = (λ i. woven (empty i) (none i));
      within = (let no = ap events_before none in omega (arith, no));
      at = at;
    }

-- the step of one line more was taken
abbrev pub runs_next : (version : Version) (bytes rest line more : List ℕ) (r new : RunningOf Weights) (place next : Place) (notes longer : List NoteState) → Runs version bytes r place notes rest → rest ≢ []
    → IsFirstLine rest line more → next ≡ record { line = place.line + 1; step = place.step + 1 } → TakesStep line next.step r new notes longer → Runs version bytes new next longer more
runs_next version bytes rest line more r new place next notes longer now some first is takes =
    let s = weighted_majorities in
    let st = takes.step in
    let steps = now.steps ++ st ∷ [] in
    let founders : new.founders ≡ r.founders = ap (λ (v : RunningOf Weights). v.founders) takes.takes.taken in
    let state : new.state ≡ after s r.state st = ap (λ (v : RunningOf Weights). v.state) takes.takes.taken in
    let first_w = first_world s r.founders in
    let behind = place_next version (length now.steps) place next now.at is in
    let ran : new.state ≡ run_from s first_w steps = state ∙ ap (λ w. after s w st) now.ran ∙ sym (run_from-more s first_w now.steps st) in
    let well : IsWellFormed new.state.history = subst (λ (w : WorldState Weights). IsWellFormed w.history) (sym ran) (ran_well r.founders steps) in
    let told = woven_next s first_w now.steps st r.state new.state next.step notes longer now.ran state (ap (λ (p : Place). p.step) behind) well now.within now.told takes.takes.told in
    record {
      steps = steps;
      reads = subst (λ f. Reads bytes f steps more) (sym founders)
          (reads-next bytes rest line more r.founders now.steps steps now.reads some first (record { step = st; new_is = refl; has_line = takes.has_line; line_is = takes.line_is }));
      ran = ran ∙ ap (λ f. run_from s (first_world s f) steps) (sym founders);
      told = told.0 ∙ ap (λ f. items_text (told_along s (first_world s f) 1 steps)) (sym founders);
      within = told.1;
      at = place_pushed version now.steps steps line next behind (record { step = st; new_is = refl; has_line = takes.has_line; line_is = takes.line_is });
    }

-- there is a place behind, where the last line's number isn't the greatest
pub place_fits : (version : Version) (bytes rest : List ℕ) (r : RunningOf Weights) (place : Place) (notes : List NoteState) → Runs version bytes r place notes rest → place.line ≢ 2 ^ 64 - 1 → place.line < 2 ^ 64
    → (place.line + 1 < 2 ^ 64) × (place.step + 1 < 2 ^ 64)
place_fits version bytes rest r place notes now less fits =
    let line = ap (λ (p : Place). p.line) now.at in
    let step = ap (λ (p : Place). p.step) now.at in
    (omega (arith, less, fits), omega (arith, less, fits, line, step))

-- no call stands twice in the given sequences
pub given_once : (h : List Event) (marks : List Mark) (ss told : List SequenceOf) → ss ≡ sequences_of h marks → ((key : List ℕ) → IsProper h key (sequence_in ss key)) → told ≡ ss
    → NoTwice (all_calls told)
given_once h marks ss told given proper same =
    subst (λ t. NoTwice (all_calls t)) (sym same) (proper_once h ss (subst AreApart (sym given) (sequences_apart h marks)) proper)

-- the sequences, the order of all keys and the maps come behind any text
ended_behind : (version : Version) (w : WorldState Weights) (text : List ℕ) → ended version w text ≡ text ++ ended version w []
ended_behind version w text =
    let sequences = items_text (map Ordered (given_sequences w)) in
    let order = items_text (order_items_in version (given_order w)) in
    let maps = items_text (map map_item (maps_of w.nodes)) in
    append_assoc (text ++ sequences) order maps ∙ append_assoc text sequences (order ++ maps) ∙ ap (λ t. text ++ t) (sym (append_assoc sequences order maps))

-- what was made is told of the run
pub tells_made : (version : Version) (w : WorldState Weights) (notes : List NoteState) (told : ToldState) (h : List Event) (none tail : List ℕ) → told.head ≡ head_text version → told.notes ≡ notes
    → told.tail ≡ tail → tail ≡ ended version w none → none ≡ [] → HasRoom told.room h → h ≡ w.history → Tells version w notes told
tells_made version w notes told h none tail head noted behind is empty room same = record {
  head = head;
  notes_are = noted;
  tail = behind ∙ is ∙ ap (ended version w) empty;
  room = subst (HasRoom told.room) same room;
}

-- what is told of a run, with its history
told_whole : (version : Version) (w : WorldState Weights) (notes : List NoteState) (told : ToldState) → Tells version w notes told
    → told_text w.history told ≡ ended version w (head_text version ++ woven w.history notes)
told_whole version w notes told tells =
    (λ i. tells.head i ++ (woven w.history (tells.notes_are i) ++ tells.tail i))
    ∙ sym (append_assoc (head_text version) (woven w.history notes) (ended version w []))
    ∙ sym (ended_behind version w (head_text version ++ woven w.history notes))

-- all was read, and this is told of the run
pub runs_all : (version : Version) (bytes rest : List ℕ) (r : RunningOf Weights) (place : Place) (notes : List NoteState) (told : ToldState) → Runs version bytes r place notes rest → length rest ≡ 0
    → Tells version r.state notes told → IsReplayBehind version bytes (told_text r.state.history told)
runs_all version bytes rest r place notes told now none tells =
    let text = head_text version ++ woven r.state.history notes in
    let first = text ++ items_text (map Ordered (given_sequences r.state)) in (
      script r.founders now.steps,
      reads-all bytes rest r.founders now.steps now.reads (nothing rest none),
      text_whole weighted_majorities version r.founders now.steps r.state text first (first ++ items_text (order_items_in version (given_order r.state))) (told_text r.state.history told) now.ran
          (ap (λ t. head_text version ++ t) now.told) refl refl (told_whole version r.state notes told tells),
    )

-- the first line has a fault
pub first_fault : (version : Version) (bytes line rest : List ℕ) (place : Place) (g : ScriptFault) → IsFirstLine bytes line rest → place ≡ place_of version 0 → g.line ≡ place.line
    → IsLineFault TellNoFounders line g.fault → FoundsNone version bytes (Script g)
first_fault version bytes line rest place g first at number fault =
    let there : ScriptFault = record { fault = g.fault; line = 1 } in
    inr (there, ap Script (fault_there version 0 place g at number), record { line = line; rest = rest; is_first = first; fault = fault; number = refl })

-- a later line has one, or there was no room for its step
pub later_fault : (version : Version) (bytes rest line more : List ℕ) (r : RunningOf Weights) (place next : Place) (notes : List NoteState) (f : ReplayFault) → Runs version bytes r place notes rest → rest ≢ []
    → IsFirstLine rest line more → next ≡ record { line = place.line + 1; step = place.step + 1 }
    → IsFaultAt next.line (IsFaultyStep line) f → GivesUpBehind version bytes f
later_fault version bytes rest line more r place next notes f now some first is (inl spent) = inl spent
later_fault version bytes rest line more r place next notes f now some first is (inr found) =
    let there = later_in_whole TellsBytes version bytes rest line more r.founders now.steps next found.0 now.reads some first (place_next version (length now.steps) place next now.at is) found.2 found.3 in
    inr (there.0, found.1 ∙ ap Script there.2, there.1)
