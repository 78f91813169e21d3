-- What a check gives that places the gets first
use Rattle.std.specs.Prelude.{◌≡◌, ℕ, Bool, true, false, List, [], ◌∷◌, ◌++◌, map, Option, None, Some}
use Rattle.rambo_history.specs.declared.event.CallId.{CallId}
use Rattle.rambo_placing.specs.Placings.{with_gets}
use Rattle.rambo_placing.specs.Values.{HasOwnValues, IsFirstRepeated}
use Rattle.rambo_text.specs.declared.fault.Fault.TheVariants.{BadHistory}
use Rattle.rambo_text.specs.declared.fault.ScriptFault.{ScriptFault}
use Rattle.rambo_text.specs.declared.version.Version.{Version}
use Rattle.rambo_text.specs.Versions.{head_text}
use Rattle.rambo_check.specs.declared.placing.Telling.{Telling}
use Rattle.rambo_check.specs.declared.placing.Telling.TheVariants as telling
use Rattle.rambo_check.specs.Checks.{IsJudged}
use Rattle.rambo_check.specs.EvidenceStates.{EvidenceState}
use Rattle.rambo_check.specs.Lines.{Item, Happened, Ordered, OrderedAll, items_text}
use Rattle.rambo_check.specs.Texts.{IsToldIn}
use Rattle.rambo_check.specs.Verdicts.{event_line_of}

-- the same, but each key's order has the key's gets in their places
abbrev pub with_gets_placed : EvidenceState → EvidenceState
with_gets_placed s = record s { orders = map (λ o. (o.0, with_gets s.events o.0 o.1)) s.orders }

-- the line of the order of all keys, where there is one
abbrev pub order_items : Option (List CallId) → List Item
order_items None = []
order_items (Some calls) = OrderedAll calls ∷ []

-- the lines that tell this: the calls and answers, then the order of each key, then that of all
abbrev pub evidence_items : EvidenceState → List Item
evidence_items s = map Happened s.events ++ (map (λ o. Ordered (record { key = o.0; calls = o.1 })) s.orders ++ order_items s.order)

-- the text of a version that has these lines alone
abbrev pub evidence_text : Version → EvidenceState → List ℕ
evidence_text version s = head_text version ++ items_text (evidence_items s)

-- what is written, and whether each verdict is yes, where there are verdicts
abbrev pub IsToldAs : Telling → Version → EvidenceState → List ℕ → Bool → Type 0
IsToldAs telling.Verdicts version s written all = IsJudged false version s written all
IsToldAs telling.Reasons version s written all = IsJudged true version s written all
IsToldAs telling.Outcome version s written all = (written ≡ evidence_text version s) × (all ≡ true)

-- the text gives an evidence in which each set gives its key a value of its own, and this is what is told of it once the gets
-- are in their places
abbrev pub IsPlaced : Telling → List ℕ → List ℕ → Bool → Type 0
IsPlaced telling text written all =
    (version : Version) × (s : EvidenceState) × IsToldIn version text s × HasOwnValues s.events × IsToldAs telling version (with_gets_placed s) written all

-- at a place of the history is the first set that gives its key a value that a set before it gave it, and its line is faulty
abbrev pub IsRepeated : EvidenceState → ScriptFault → Type 0
IsRepeated s f = (place : ℕ) × IsFirstRepeated s.events (Some place) × (f ≡ record { fault = BadHistory; line = event_line_of s (Some place) })

-- the text gives an evidence that has such a set
abbrev pub IsRepeatedIn : List ℕ → ScriptFault → Type 0
IsRepeatedIn text f = (version : Version) × (s : EvidenceState) × IsToldIn version text s × IsRepeated s f
