-- The run of the founders that a script tells, and what it gives
use Rattle.std.proofs.Common.{◌≡◌, ◌⊎◌, ◌-◌, ◌≤◌, true, List, [], ◌∷◌, ◌++◌, ℕ, Option, length, drop, inl, inr, refl, ap, subst, sym, ◌∙◌, length-append, arith}
use Rattle.std.specs.Io.KnownBytes.{Consumes}
use Rattle.rambo_names.specs.Weights.{Weights, weighted_majorities}
use Rattle.rambo_atomic.specs.Unreads.{UnreadState, KnowsEnd, TakesIn, HasFeed}
use Rattle.rambo_run.specs.Worlds.{first_world}
use Rattle.rambo_run.specs.Ongoing.{RunningOf}
use Rattle.rambo_text.specs.declared.fault.ReplayFault.{ReplayFault}
use Rattle.rambo_text.specs.declared.fault.ReplayFault.TheVariants.{Script}
use Rattle.rambo_text.specs.declared.fault.ScriptFault.{ScriptFault}
use Rattle.rambo_text.specs.declared.version.Version.{Version}
use Rattle.rambo_text.specs.declared.version.Version.TheVariants.{One, Two}
use Rattle.rambo_text.specs.Versions.{head_line, IsBehindHead, in_whole}
use Rattle.rambo_check.specs.Checks.{IsLeft}
use Rattle.rambo_check.specs.Readings.{IsMore}
use Rattle.rambo_check.proofs.UsedLines.{rest_of}
use Rattle.rambo_lines.specs.Versions.{IsHeadFault}
use Rattle.rambo_steps.specs.Replays.{IsReplay, GivesUp}
use Rattle.rambo_steps.specs.Runs.{TellsFounders, IsFounded, IsReplayBehind, GivesUpBehind, IsOfWhole, FoundsNone}
use Rattle.rambo_steps.proofs.Pieces.{later, none_later, given_more, whole_before, whole_now, line_more, head_more, has_first, ready_with, none_founded}

-- it has these founders, and took no step
pub founded_by : (bytes : List ℕ) (founders : Weights) (r : RunningOf Weights) → TellsFounders bytes founders
    → r ≡ record { founders = founders; state = first_world weighted_majorities founders } → IsFounded bytes r
founded_by bytes founders r told is =
    let own : r.founders ≡ founders = ap (λ (v : RunningOf Weights). v.founders) is in
    (subst (TellsFounders bytes) (sym own) told, ap (λ (v : RunningOf Weights). v.state) is ∙ ap (first_world weighted_majorities) (sym own))

-- the replay of what is behind the head is that of the whole
replay_in : (version : Version) (bytes behind text : List ℕ) → IsBehindHead version bytes behind → IsReplayBehind version behind text → IsReplay bytes text
replay_in version bytes behind text is told = record { version = version; script = told.0; is_script = (behind, is, told.1); text_is = told.2 }

gives_up_in : (version : Version) (bytes behind : List ℕ) (f : ReplayFault) → IsBehindHead version bytes behind → GivesUpBehind version behind f → GivesUp bytes f
gives_up_in version bytes behind f is (inl spent) = inl spent
gives_up_in version bytes behind f is (inr bad) = inr (in_whole version bad.0, bad.1, inr (version, behind, bad.0, is, bad.2, refl))

-- a text, of which the line that tells the version was read
abbrev pub TellsHead : Version → Option (List ℕ) → UnreadState → Option (List ℕ) → Type 0
TellsHead version first u left = (more : List ℕ) → IsMore u left more → (bytes : List ℕ) × IsLeft first bytes × IsBehindHead version bytes (u.held ++ more)

pub replay_of : (version : Version) (first left : Option (List ℕ)) (u : UnreadState) (text : List ℕ) → TellsHead version first u left → IsOfWhole (λ bytes. IsReplayBehind version bytes text) u left
    → (bytes : List ℕ) × IsLeft first bytes × IsReplay bytes text
replay_of version first left u text head told =
    let there = head told.0 told.1 in
    (there.0, there.1, replay_in version there.0 (u.held ++ told.0) text there.2 told.2)

pub gives_up_of : (version : Version) (first left : Option (List ℕ)) (u : UnreadState) (f : ReplayFault) → TellsHead version first u left → IsOfWhole (λ bytes. GivesUpBehind version bytes f) u left
    → (bytes : List ℕ) × IsLeft first bytes × GivesUp bytes f
gives_up_of version first left u f head told =
    let there = head told.0 told.1 in
    (there.0, there.1, gives_up_in version there.0 (u.held ++ told.0) f there.2 told.2)

pub gives_up_where : (version : Version) (first left : Option (List ℕ)) (u : UnreadState) (f : ReplayFault) → TellsHead version first u left
    → ((g : ScriptFault) → f ≡ Script g → IsOfWhole (λ bytes. GivesUpBehind version bytes f) u left) → (g : ScriptFault) → f ≡ Script g → (bytes : List ℕ) × IsLeft first bytes × GivesUp bytes f
gives_up_where version first left u f head told g is = gives_up_of version first left u f head (told g is)

-- and so it is where more of what is behind the head was read before
pub gives_up_later : (version : Version) (first left new : Option (List ℕ)) (u v : UnreadState) (f : ReplayFault) → TellsHead version first u left → TakesIn left new u.held v.held
    → (u.ended ≡ true → v ≡ u) → ((g : ScriptFault) → f ≡ Script g → IsOfWhole (λ bytes. GivesUpBehind version bytes f) v new) → (g : ScriptFault) → f ≡ Script g
    → (bytes : List ℕ) × IsLeft first bytes × GivesUp bytes f
gives_up_later version first left new u v f head taken same told =
    gives_up_where version first left u f head (λ g is. whole_before (λ bytes. GivesUpBehind version bytes f) u v left new taken same (told g is))

-- what is behind the head is what is left once as many bytes were used
pub head_rest : (version : Version) (held behind : List ℕ) → IsBehindHead version held behind → drop (length held - length behind) held ≡ behind
head_rest One held behind is =
    let none : length held - length behind ≡ 0 = (let same = ap length is.1 in omega (arith, same)) in
    ap (λ n. drop n held) none ∙ is.1
head_rest Two held behind is = rest_of held head_line behind is

pub head_within : (version : Version) (held behind : List ℕ) → IsBehindHead version held behind → length behind ≤ length held
head_within One held behind is = let same = ap length is.1 in omega (arith, same)
head_within Two held behind is = elim is.whole [
  | inl feed ↦ omega (arith, length-append head_line (10 ∷ behind), ap length feed)
  | inr last ↦ (let none : length behind ≡ 0 = ap length last.1 in omega (arith, none))
]

-- all that a source gave is held
from_start : (first left : Option (List ℕ)) (held more : List ℕ) → TakesIn first left [] held → IsLeft left more → IsLeft first (held ++ more)
from_start first left held more taken is = given_more first left held more (subst (Consumes first left) (sym taken.2) taken.1) is

-- the line that tells the version was read
pub head_told : (version : Version) (u v : UnreadState) (first left : Option (List ℕ)) → TakesIn first left [] u.held → HasFeed u.held ⊎ (u.ended ≡ true) → v.ended ≡ u.ended
    → IsBehindHead version u.held v.held → TellsHead version first v left
head_told version u v first left taken ready same head = λ more is.
    let line = has_first u.held in
    let fits = ready_with u more ready (λ e. is.1 (same ∙ e)) in
    (u.held ++ more, from_start first left u.held more taken is.0, head_more version u.held v.held more fits line.0 line.1 line.2 head)

-- it tells none
pub bad_head : (u : UnreadState) (first left : Option (List ℕ)) (f : ReplayFault) (g : ScriptFault) → TakesIn first left [] u.held → HasFeed u.held ⊎ (u.ended ≡ true) → KnowsEnd u left
    → f ≡ Script g → IsHeadFault u.held g → (bytes : List ℕ) × IsLeft first bytes × GivesUp bytes f
bad_head u first left f g taken ready known is bad =
    let fits = ready_with u (later left) ready (λ e. none_later left (known e)) in
    let held : IsOfWhole (λ bytes. GivesUp bytes f) u left =
    whole_now (λ bytes. GivesUp bytes f) u left known (inr (
      g,
      is,
      inl (record {
        line = bad.line;
        rest = bad.rest ++ later left;
        is_first = line_more u.held bad.line bad.rest (later left) fits bad.is_first;
        fault = bad.fault;
        number = bad.number;
      }),
    )) in
    (u.held ++ held.0, from_start first left u.held held.0 taken held.1.0, held.2)

-- the line of the founders has a fault
pub none_founded_there : (version : Version) (u v : UnreadState) (first left : Option (List ℕ)) (f : ReplayFault) → TakesIn first left u.held v.held → (u.ended ≡ true → v ≡ u)
    → HasFeed v.held ⊎ (v.ended ≡ true) → KnowsEnd v left → FoundsNone version v.held f → IsOfWhole (λ bytes. GivesUpBehind version bytes f) u first
none_founded_there version u v first left f taken same ready known bad =
    whole_before (λ bytes. GivesUpBehind version bytes f) u v first left taken same
    (whole_now (λ bytes. GivesUpBehind version bytes f) v left known (none_founded version v.held (later left) f (ready_with v (later left) ready (λ e. none_later left (known e))) bad))
