-- What is first of a list that isn't refused
use Rattle.std.proofs.Common.{◌≡◌, Bool, true, false, cond, List, [], ◌∷◌, ◌++◌, map, find, length, Option, None, Some, is_none, is_some, option_map, refl, sym, ap, ◌∙◌, arith}
use Rattle.rambo_names.specs.Quorums.{QuorumSystem}
use Rattle.rambo_history.specs.declared.event.CallId.{CallId}
use Rattle.rambo_calls.specs.Calls.{CallState}
use Rattle.rambo_calls.specs.Kept.{calls_of}
use Rattle.rambo_calls.specs.declared.open_call.OpenCall.{OpenCall}
use Rattle.rambo_node.specs.Changes.{refusal_of}
use Rattle.rambo_node.specs.Nodes.{NodeState}
use Rattle.rambo_node.specs.Acts as act
use Rattle.rambo_node.specs.Steps.{Step}
use Rattle.rambo_node.specs.declared.step.StepOf.TheVariants as step
use Rattle.rambo_run.proofs.Lists.{none-some}
use Rattle.rambo_mail.specs.declared.mail.Mail.{Mail}
use Rattle.rambo_pick.specs.Picking.{Candidate, delivery, advance, is_accepted, first_of}

none_of : {A : Type 0} (o : Option A) → is_some o ≡ false → o ≡ None
none_of None e = refl
none_of (Some a) e = absurd cc

-- what is found at the beginning of a list is found in all of it
found_in : {A B : Type 0} (test : Bool) (f : A → B) (a : A) (u v : Option A) (b : B) → (option_map f u ≡ Some b → option_map f v ≡ Some b) → option_map f (cond test (Some a) u) ≡ Some b → option_map f (cond test (Some a) v) ≡ Some b
found_in true f a u v b h e = e
found_in false f a u v b h e = h e

passed_by : {A B : Type 0} (test : Bool) (f : A → B) (a : A) (u v w : Option A) → (option_map f u ≡ None → option_map f v ≡ option_map f w) → option_map f (cond test (Some a) u) ≡ None → option_map f (cond test (Some a) v) ≡ option_map f w
passed_by true f a u v w h e = absurd (none-some (f a) (sym e))
passed_by false f a u v w h e = h e

pub first_there : {Q : Type 0} (s : QuorumSystem Q) (x : NodeState Q) (cs ds : List (Candidate Q)) (st : Step Q) → first_of s x cs ≡ Some st → first_of s x (cs ++ ds) ≡ Some st
first_there s x [] ds st e = absurd (none-some st e)
first_there s x (c ∷ cs) ds st e = found_in (is_accepted s x c) (λ (c : Candidate _). c.step) c (find (is_accepted s x) cs) (find (is_accepted s x) (cs ++ ds)) st (first_there s x cs ds st) e

pub first_behind : {Q : Type 0} (s : QuorumSystem Q) (x : NodeState Q) (cs ds : List (Candidate Q)) → first_of s x cs ≡ None → first_of s x (cs ++ ds) ≡ first_of s x ds
first_behind s x [] ds e = refl
first_behind s x (c ∷ cs) ds e = passed_by (is_accepted s x c) (λ (c : Candidate _). c.step) c (find (is_accepted s x) cs) (find (is_accepted s x) (cs ++ ds)) (find (is_accepted s x) ds) (first_behind s x cs ds) e

-- the first of a list is taken or not
not_none : {A : Type 0} (o : Option A) → is_some o ≡ true → is_none o ≡ false
not_none None e = absurd cc
not_none (Some a) e = refl

pub taken : {Q : Type 0} (s : QuorumSystem Q) (x : NodeState Q) (c : Candidate Q) (cs : List (Candidate Q)) → is_some (refusal_of s x c.act) ≡ false → first_of s x (c ∷ cs) ≡ Some c.step
taken s x c cs none = ap (λ o. option_map (λ (c : Candidate _). c.step) (cond (is_none o) (Some c) (find (is_accepted s x) cs))) (none_of (refusal_of s x c.act) none)

pub passed : {Q : Type 0} (s : QuorumSystem Q) (x : NodeState Q) (c : Candidate Q) (cs : List (Candidate Q)) → is_some (refusal_of s x c.act) ≡ true → first_of s x (c ∷ cs) ≡ first_of s x cs
passed s x c cs some = ap (λ t. option_map (λ (c : Candidate _). c.step) (cond t (Some c) (find (is_accepted s x) cs))) (not_none (refusal_of s x c.act) some)

-- so is the first letter of a tray
pub heard_here : {Q : Type 0} (s : QuorumSystem Q) (x : NodeState Q) (rest : List (Mail Q)) (m : Mail Q) (others : List (Mail Q)) → rest ≡ m ∷ others → is_some (refusal_of s x (act.Hear m.letter)) ≡ false
    → first_of s x (map delivery rest) ≡ Some (step.Deliver m.number)
heard_here s x rest m others e none = ap (λ ms. first_of s x (map delivery ms)) e ∙ taken s x (delivery m) (map delivery others) none

pub heard_later : {Q : Type 0} (s : QuorumSystem Q) (x : NodeState Q) (rest : List (Mail Q)) (m : Mail Q) (others : List (Mail Q)) → rest ≡ m ∷ others → is_some (refusal_of s x (act.Hear m.letter)) ≡ true
    → first_of s x (map delivery rest) ≡ first_of s x (map delivery others)
heard_later s x rest m others e some = ap (λ ms. first_of s x (map delivery ms)) e ∙ passed s x (delivery m) (map delivery others) some

pub heard_none : {Q : Type 0} (s : QuorumSystem Q) (x : NodeState Q) (rest : List (Mail Q)) → length rest ≡ 0 → first_of s x (map delivery rest) ≡ None
heard_none s x [] e = refl
heard_none s x (m ∷ ms) e = absurd (omega (arith, e))

-- and a call
pub moved_here : {Q : Type 0} (s : QuorumSystem Q) (x : NodeState Q) (rest : List (CallState Q)) (c : CallState Q) (others : List (CallState Q)) (id : CallId) → rest ≡ c ∷ others → id ≡ record { name = x.name; number = c.number }
    → is_some (refusal_of s x (act.Advance id)) ≡ false → first_of s x (map (advance x.name) rest) ≡ Some (step.Advance id)
moved_here s x rest c others id e own none =
    ap (λ cs. first_of s x (map (advance x.name) cs)) e
    ∙ taken s x (advance x.name c) (map (advance x.name) others) (ap (λ i. is_some (refusal_of s x (act.Advance i))) (sym own) ∙ none)
    ∙ ap (λ i. Some (step.Advance i)) (sym own)

pub moved_later : {Q : Type 0} (s : QuorumSystem Q) (x : NodeState Q) (rest : List (CallState Q)) (c : CallState Q) (others : List (CallState Q)) (id : CallId) → rest ≡ c ∷ others → id ≡ record { name = x.name; number = c.number }
    → is_some (refusal_of s x (act.Advance id)) ≡ true → first_of s x (map (advance x.name) rest) ≡ first_of s x (map (advance x.name) others)
moved_later s x rest c others id e own some =
    ap (λ cs. first_of s x (map (advance x.name) cs)) e
    ∙ passed s x (advance x.name c) (map (advance x.name) others) (ap (λ i. is_some (refusal_of s x (act.Advance i))) (sym own) ∙ some)

pub moved_none : {Q : Type 0} (s : QuorumSystem Q) (x : NodeState Q) (rest : List (OpenCall Q)) → length rest ≡ 0 → first_of s x (map (advance x.name) (calls_of rest)) ≡ None
moved_none s x [] e = refl
moved_none s x (c ∷ cs) e = absurd (omega (arith, e))
