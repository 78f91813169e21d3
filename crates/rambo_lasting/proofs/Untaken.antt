-- Why nobody is served
use Rattle.std.proofs.Common.{◌≡◌, ◌≢◌, ◌⊎◌, ℕ, ◌+◌, Bool, true, false, not, ◌&&◌, List, [], ◌++◌, length, Option, inl, inr, ap, sym, ◌∙◌, subst, refl, true≢false}
use Rattle.std.specs.Prelude.{Result, Ok, Err, IfErr, IfOk, OnErr}
use Rattle.std.specs.Io.KnownBytes.{IsAtEnd}
use Rattle.std.proofs.KnownBytes.{Consumes-trans}
use Rattle.rambo_names.specs.Names.{same_names}
use Rattle.rambo_names.specs.Same.{same_names-refl}
use Rattle.rambo_names.specs.WeightLaws.{same_weights}
use Rattle.rambo_names.specs.Weights.{Weights, weighted_majorities}
use Rattle.rambo_names.specs.declared.refusal.Refusal.{Refusal}
use Rattle.rambo_atomic.specs.Unreads.{HasFeed, TakesIn}
use Rattle.rambo_node.specs.Steps.{Step}
use Rattle.rambo_lines.specs.Scripts.{steps_text}
use Rattle.rambo_text.specs.declared.fault.ScriptFault.{ScriptFault}
use Rattle.rambo_text.specs.declared.version.Version.TheVariants.{Two}
use Rattle.rambo_text.specs.Versions.{head_text}
use Rattle.rambo_trace.specs.Traces.{trace_text}
use Rattle.rambo_retrace.specs.Retraces.{IsFaultAt, IsUnrefused, StopsAt, TellsNone, retraced}
use Rattle.rambo_retrace.specs.declared.fault.RetraceFault.{RetraceFault}
use Rattle.rambo_retrace.specs.declared.fault.RetraceFault.TheVariants.{Read, Memory, Script, Refused}
use Rattle.rambo_retrace.proofs.WholeTraces.{trace_read}
use Rattle.rambo_recovery.specs.Recoveries.{WhyUntaken}
use Rattle.rambo_retrace.specs.declared.retracing.Retraced.{Retraced}
use Rattle.rambo_scribe.specs.declared.fault.TraceFault.{TraceFault}
use Rattle.rambo_cluster.specs.declared.fault.ServeFault.{ServeFault}
use Rattle.rambo_lasting.specs.Resumings.{HoldsTrace, IsOfReading, IsUncut, Stays, WhyUnresumed, last}
use Rattle.rambo_lasting.specs.declared.fault.ResumeFault.{ResumeFault}
use Rattle.rambo_lasting.specs.declared.fault.ResumeFault.TheVariants.{Trace, Founders, Uncut, Unserved}

-- what was read after some bytes is read from the beginning
pub from_start : (held one two : Option (List ℕ)) (h1 text : List ℕ) → TakesIn held one [] h1 → TakesIn one two h1 text → TakesIn held two [] text
from_start held one two h1 text first more =
    (first.0 ++ more.0, Consumes-trans held one two first.0 more.0 first.1 more.1, more.2 ∙ ap (λ t. t ++ more.0) first.2)

tells_from_start : (held one two : Option (List ℕ)) (h1 h2 : List ℕ) (g : ScriptFault) → TakesIn held one [] h1 → TellsNone one two h1 h2 g → TellsNone held two [] h2 g
tells_from_start held one two h1 h2 g first (inl told) = inl (told.0, from_start held one two h1 h2 first told.1, told.2)
tells_from_start held one two h1 h2 g first (inr told) = inr (told.0, from_start held one two h1 (head_text Two ++ h2) first told.1, told.2)

-- the first two lines tell no founders
pub head_why : (lose : ℕ) (asked : Option Weights) (held one two : Option (List ℕ)) (h1 h2 : List ℕ) (f : RetraceFault) → TakesIn held one [] h1
    → ((g : ScriptFault) → f ≡ Script g → TellsNone one two h1 h2 g) → ((g : ScriptFault) → f ≡ Script g → HasFeed h2 ⊎ IsAtEnd two) → IsUnrefused f → WhyUnresumed lose asked held (Trace f)
head_why lose asked held one two h1 h2 Read first tells whole own = inl (inl refl)
head_why lose asked held one two h1 h2 Memory first tells whole own = inl (inr refl)
head_why lose asked held one two h1 h2 (Script g) first tells whole own = inr (inl (g, refl, (two, h2, tells_from_start held one two h1 h2 g first (tells g refl), whole g refl)))
head_why lose asked held one two h1 h2 (Refused line r) first tells whole own = absurd own

fault_weaker : (A B : Step Weights → Refusal → Type 0) (number : ℕ) (line : List ℕ) (f : RetraceFault) → ((st : Step Weights) (r : Refusal) → A st r → B st r) → IsFaultAt A number line f → IsFaultAt B number line f
fault_weaker A B number line Read weaker bad = absurd bad
fault_weaker A B number line Memory weaker bad = absurd bad
fault_weaker A B number line (Script g) weaker bad = bad
fault_weaker A B number line (Refused n r) weaker bad =
    let told = bad.1 in
    (bad.0, (told.0, told.1, told.2, weaker told.0 r told.3))

-- a line behind these steps tells none, or one that isn't taken
pub steps_why : (lose : ℕ) (asked : Option Weights) (held one two : Option (List ℕ)) (h1 h2 : List ℕ) (founders : Weights) (steps : List (Step Weights)) (A : Step Weights → Refusal → Type 0) (f : RetraceFault)
    → TakesIn held one [] (trace_text founders [] ++ h1) → TakesIn one two h1 (steps_text steps ++ h2)
    → ((st : Step Weights) (r : Refusal) → A st r → WhyUntaken weighted_majorities founders last lose steps st r)
    → StopsAt A (length steps + 3) h2 f → WhyUnresumed lose asked held (Trace f)
steps_why lose asked held one two h1 h2 founders steps A f head more weaker (inl read) = inl (inl read)
steps_why lose asked held one two h1 h2 founders steps A f head more weaker (inr (inl memory)) = inl (inr memory)
steps_why lose asked held one two h1 h2 founders steps A f head more weaker (inr (inr stops)) = inr (inr (record {
  founders = founders;
  steps = steps;
  rest = h2;
  left = two;
  read = trace_read held one two h1 h2 founders steps head more;
  stops = record {
    line = stops.line;
    rest = stops.rest;
    is_first = stops.is_first;
    fault = fault_weaker A (WhyUntaken weighted_majorities founders last lose steps) (length steps + 3) stops.line f weaker stops.fault;
  };
}))

-- what isn't taken of a run isn't taken of the same by other words
pub untaken_so : (f : Weights) (most most' lose lose' : ℕ) (steps steps' : List (Step Weights)) (st : Step Weights) (r : Refusal) → most ≡ most' → lose ≡ lose' → steps ≡ steps'
    → WhyUntaken weighted_majorities f most lose steps st r → WhyUntaken weighted_majorities f most' lose' steps' st r
untaken_so f most most' lose lose' steps steps' st r same-most same-lose same why =
    subst (λ n. WhyUntaken weighted_majorities f n lose' steps' st r) same-most
    (subst (λ n. WhyUntaken weighted_majorities f most n steps' st r) same-lose (subst (λ l. WhyUntaken weighted_majorities f most lose l st r) same why))

-- something stood behind a trace that couldn't be cut off
pub uncut_why : (lose : ℕ) (asked : Option Weights) (held : Option (List ℕ)) (f : Weights) (steps : List (Step Weights)) (torn : List ℕ) (read : Retraced) (fault : ResumeFault)
    → read ≡ retraced steps torn → HoldsTrace held f steps torn → IsUncut read.torn fault → WhyUnresumed lose asked held fault
uncut_why lose asked held f steps torn read (Trace fault) is holds cause = absurd cause
uncut_why lose asked held f steps torn read Founders is holds cause = absurd cause
uncut_why lose asked held f steps torn read Uncut is holds cause = (f, steps, torn, holds, λ none. cause (ap (λ (r : Retraced). r.torn) is ∙ none))
uncut_why lose asked held f steps torn read (Unserved fault) is holds cause = tt

-- the first piece was read from the beginning of a file
pub read_first : (held left one : Option (List ℕ)) (before text : List ℕ) → left ≡ held → before ≡ [] → TakesIn left one before text → TakesIn held one [] text
read_first held left one before text start none read = subst (λ b. TakesIn held one b text) none (subst (λ o. TakesIn o one before text) start read)

-- a server failed
pub failed_so : {Q : Type 0} (P : ResumeFault → Type 0) (served : Result (Option TraceFault) ServeFault) (ended : Result (Option TraceFault) ResumeFault)
    → IfOk served (λ fault. ended ≡ Ok fault) → IfErr served (λ f. ended ≡ Err (Unserved f)) → OnErr served Q → (Q → (f : ServeFault) → P (Unserved f)) → IfErr ended P
failed_so {Q} P (Ok fault) ended ok err q p = subst (λ e. IfErr e P) (sym ok) tt
failed_so {Q} P (Err f) ended ok err q p = subst (λ e. IfErr e P) (sym err) (p q f)

-- or clients were served
pub served_so : (P Q : Option TraceFault → Type 0) (served : Result (Option TraceFault) ServeFault) (ended : Result (Option TraceFault) ResumeFault)
    → IfOk served (λ fault. ended ≡ Ok fault) → IfErr served (λ f. ended ≡ Err (Unserved f)) → IfOk served Q → ((fault : Option TraceFault) → Q fault → P fault) → IfOk ended P
served_so P Q (Ok fault) ended ok err q p = subst (λ e. IfOk e P) (sym ok) (p fault q)
served_so P Q (Err f) ended ok err q p = subst (λ e. IfOk e P) (sym err) tt

-- a file that was only read holds the same
pub stays_read : (fault : ResumeFault) (before after : Option (List ℕ)) → IsOfReading fault → after ≡ before → Stays fault before after
stays_read (Trace fault) before after own same = same
stays_read Founders before after own same = absurd own
stays_read Uncut before after own same = absurd own
stays_read (Unserved fault) before after own same = inl same

-- founders that were compared aren't those
pub others : (a b : Weights) → not (same_weights a b) ≡ true → a ≢ b
others a b other same = true≢false (sym other ∙ ap not (ap (same_weights a) (sym same) ∙ same_weights-refl a))
  where
    all : (a b c d : Bool) → a ≡ true → b ≡ true → c ≡ true → d ≡ true → (a && (b && (c && d))) ≡ true
    all true true true true e f g h = refl
    all true true true false e f g h = h
    all true true false d e f g h = g
    all true false c d e f g h = f
    all false b c d e f g h = e

    same_weights-refl : (c : Weights) → same_weights c c ≡ true
    same_weights-refl c =
        all (same_names c.ones c.ones) (same_names c.twos c.twos) (same_names c.fours c.fours) (same_names c.eights c.eights)
        (same_names-refl c.ones) (same_names-refl c.twos) (same_names-refl c.fours) (same_names-refl c.eights)
