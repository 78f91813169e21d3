-- What is true of every outcome text
use Rattle.std.specs.Prelude.{◌≡◌, ◌≢◌, ℕ, List, IfSome}
use Rattle.std.specs.List.{AllByRecursion}
use Rattle.rambo_text.specs.declared.fault.Fault.TheVariants.{OutOfMemory}
use Rattle.rambo_text.specs.declared.fault.ScriptFault.{ScriptFault}
use Rattle.rambo_text.specs.declared.version.Version.{Version}
use Rattle.rambo_names.specs.Signs.{IsConf}
use Rattle.rambo_check.specs.Lines.{Item, Happened, Collected, Settled, Refused, Ordered, OrderedAll, Mapped}
use Rattle.rambo_check.specs.Items.{IsItem}
use Rattle.rambo_check.specs.EvidenceStates.{EvidenceState}
use Rattle.rambo_check.specs.Texts.{AreLinesOf, IsToldIn, IsFaultIn}

-- the configurations of a line have names alone
abbrev pub HasNames : Item → Type 0
HasNames (Happened e) = Unit {0}
HasNames (Collected name place) = Unit {0}
HasNames (Settled name place conf) = IfSome conf IsConf
HasNames (Refused step number) = Unit {0}
HasNames (Ordered s) = Unit {0}
HasNames (OrderedAll calls) = Unit {0}
HasNames (Mapped name floor confs) = AllByRecursion IsConf confs

-- lines that an outcome text may have
pub record AreLines (items : List Item) : Type 0 where
  pub in_range : AllByRecursion IsItem items
  pub names : AllByRecursion HasNames items

-- what is after the head of a text doesn't have the lines of two outcomes
abbrev pub OneReading : Type 0
OneReading = (text : List ℕ) (items others : List Item) → AreLines items → AreLines others → AreLinesOf text items → AreLinesOf text others → items ≡ others

-- a text doesn't give two evidences, nor one in two versions
abbrev pub OneEvidence : Type 0
OneEvidence = (text : List ℕ) (version other : Version) (s t : EvidenceState) → IsToldIn version text s → IsToldIn other text t → (version ≡ other) × (s ≡ t)

-- what gives an evidence has no fault: memory alone may run out while it is read
abbrev pub NoToldIsFaulty : Type 0
NoToldIsFaulty = (text : List ℕ) (version : Version) (s : EvidenceState) (f : ScriptFault) → IsToldIn version text s → IsFaultIn text f → f.fault ≡ OutOfMemory

-- a text has one fault at most, apart from memory that may run out
abbrev pub OneFault : Type 0
OneFault = (text : List ℕ) (f g : ScriptFault) → f.fault ≢ OutOfMemory → g.fault ≢ OutOfMemory → IsFaultIn text f → IsFaultIn text g → f ≡ g
