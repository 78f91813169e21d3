-- What a keeper may do by itself
use Rattle.std.proofs.Common.{◌≡◌, ℕ, zero, suc, List, [], Some, IfSome, refl, sym, ap, ◌∙◌, subst}
use Rattle.std.proofs.lemmas.Option.{slice_get-get_or}
use Rattle.rambo_names.specs.Quorums.{QuorumSystem}
use Rattle.rambo_node.specs.Acts.{Act, Meant}
use Rattle.rambo_node.specs.Nodes.{NodeState}
use Rattle.rambo_node.specs.Acts as act
use Rattle.rambo_node.specs.declared.prepared.Quiet.TheVariants as quiet
use Rattle.rambo_node.specs.Steps.{Step}
use Rattle.rambo_node.specs.declared.step.StepOf.TheVariants as step
use Rattle.rambo_run.specs.Steps.{meant_in}
use Rattle.rambo_run.proofs.Lists.{some_inj}
use Rattle.rambo_mail.specs.declared.mail.Mail.{Mail}
use Rattle.rambo_book.specs.Readying.{IsIn}
use Rattle.rambo_pick.specs.Picking.{Candidate, candidates, advance}
use Rattle.rambo_pick.specs.Picking as pick
use Rattle.rambo_turn.specs.Turns.{cleared, IsQuiet}
use Rattle.rambo_turn.proofs.Picks.{each_candidate, picked_each}

-- a step that delivers no letter leaves a tray as it is
pub cleared_other : {Q : Type 0} (tray : List (Mail Q)) (st : Step Q) → ((number : ℕ) → st ≡ step.Deliver number → ⊥) → cleared tray st ≡ tray
cleared_other tray (step.Deliver number) not = absurd (not number refl)
cleared_other tray _ not = refl

-- where no letter was sent none comes
no_letter : {Q A : Type 0} (number : ℕ) (m : Meant Q) → meant_in [] (step.Deliver number) ≡ Some m → A
no_letter zero m e = absurd cc
no_letter (suc i) m e = absurd cc

abbrev number_of : {Q : Type 0} → Step Q → ℕ
number_of (step.Deliver number) = number
number_of _ = 0

-- what a node picks is quiet
pub picked_quiet : {Q : Type 0} (s : QuorumSystem Q) (x : NodeState Q) (tray : List (Mail Q)) → IfSome (pick.first_of s x (candidates x tray)) IsQuiet
picked_quiet {Q} s x tray =
    picked_each s x IsQuiet (candidates x tray)
    (each_candidate (λ (c : Candidate Q). IsQuiet c.step) (λ m. Unit {0}) x tray (λ k d lt. tt) (λ m own. record { no_call = λ name op e. absurd cc; unsent = refl }) (λ c. record { no_call = λ name op e. absurd cc; unsent = refl })
    (record { no_call = λ name op e. absurd cc; unsent = refl }) (record { no_call = λ name op e. absurd cc; unsent = refl }))

-- of that node
pub picked_own : {Q : Type 0} (s : QuorumSystem Q) (name : ℕ) (x : NodeState Q) (tray : List (Mail Q)) → x.name ≡ name
    → IfSome (pick.first_of s x (candidates x tray)) (λ st. (m : Meant Q) → meant_in [] st ≡ Some m → m.name ≡ name)
picked_own {Q} s name x tray own =
    let means = λ (st : Step Q). (m : Meant Q) → meant_in [] st ≡ Some m → m.name ≡ name in
    let named : (c : Act Q) (m : Meant Q) → Some (record { name = x.name; act = c }) ≡ Some m → m.name ≡ name = λ c m e. ap (λ (m : Meant Q). m.name) (sym (some_inj _ m e)) ∙ own in
    picked_each s x means (candidates x tray)
    (each_candidate (λ (c : Candidate Q). means c.step) (λ m. Unit {0}) x tray (λ k d lt. tt) (λ mail there m e. no_letter mail.number m e) (λ c. named (advance x.name c).act) (named (act.Quietly quiet.AdvanceCollect)) (named (act.Quietly quiet.AdvanceRecon)))

-- and lets a letter come that is there
pub picked_in : {Q : Type 0} (s : QuorumSystem Q) (x : NodeState Q) (tray : List (Mail Q)) → IfSome (pick.first_of s x (candidates x tray)) (λ st. (number : ℕ) → st ≡ step.Deliver number → IsIn tray number)
picked_in {Q} s x tray =
    let there = λ (st : Step Q). (number : ℕ) → st ≡ step.Deliver number → IsIn tray number in
    picked_each s x there (candidates x tray)
    (each_candidate (λ (c : Candidate Q). there c.step) (λ (m : Mail Q). IsIn tray m.number) x tray (λ at d lt. (at, _, slice_get-get_or tray at d lt, refl))
    (λ m is number e. subst (IsIn tray) (ap number_of e) is) (λ c number e. absurd cc) (λ number e. absurd cc) (λ number e. absurd cc))
