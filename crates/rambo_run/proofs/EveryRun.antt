-- What holds of every run
use Rattle.std.proofs.Common.{◌≡◌, ℕ, List, [], ◌∷◌, ◌++◌, append-nil, take, length, Some, refl, sym, ap, ◌∙◌, subst}
use Rattle.rambo_names.specs.Quorums.{QuorumSystem, IsSound}
use Rattle.rambo_history.specs.Proper.{IsProper}
use Rattle.rambo_config_map.specs.Maps.{active_at}
use Rattle.rambo_sequence.specs.Sequences.{sequence_of}
use Rattle.rambo_node.specs.Steps.{Step}
use Rattle.rambo_run.specs.Worlds.{node_at}
use Rattle.rambo_run.specs.Runs.{run}
use Rattle.rambo_run.specs.Claims.{IsAtomic, Holds, Agrees}
use Rattle.rambo_run.proofs.Places.{HeldAt}
use Rattle.rambo_run.proofs.Agreement.{agreement}
use Rattle.rambo_run.proofs.Sights.{at}
use Rattle.rambo_run.proofs.Worlds.{run_of}
use Rattle.rambo_run.proofs.Sequence.{proper}
use Rattle.rambo_run.proofs.Moments.{moment, worlds, last_moment}
use Rattle.rambo_run.proofs.NodeLists.{node_is}

-- the given sequence of each key is proper
pub is_atomic : {Q : Type 0} (s : QuorumSystem Q) → IsSound s → (founders : Q) (ss : List (Step Q)) → IsAtomic (run s founders ss)
is_atomic s law founders ss key =
    subst (λ w. IsProper w.history key (sequence_of w.history w.marks key)) (last_moment s founders ss) (proper s law founders (moment s founders ss) (worlds s founders ss) (length ss) key)

take_left : {A : Type 0} (xs ys : List A) → take (length xs) (xs ++ ys) ≡ xs
take_left [] ys = refl
take_left (x ∷ xs) ys = ap (λ r. x ∷ r) (take_left xs ys)

-- what a node holds after the first steps of a run was held in the run
held_early : {Q : Type 0} (s : QuorumSystem Q) (founders : Q) (early late : List (Step Q)) (n p : ℕ) (c : Q) → Holds s founders early n p c
    → HeldAt (at s founders (moment s founders (early ++ late)) (worlds s founders (early ++ late))) p c
held_early s founders early late n p c h =
    let ss = early ++ late in
    let all = worlds s founders ss in
    let m : ℕ = length early in
    let here : node_at (moment s founders ss m) n ≡ Some h.0 = ap (λ l. node_at (run s founders l) n) (take_left early late) ∙ h.1 in
    record { moment = m; node = n; active = ap (λ x. active_at x.map p) (sym (node_is s founders (moment s founders ss) all m n h.0 here)) ∙ h.2 }

-- two nodes hold one configuration at one place
pub agrees : {Q : Type 0} (s : QuorumSystem Q) → IsSound s → (founders : Q) (ss : List (Step Q)) → Agrees s founders ss
agrees s law founders ss early late rest n k p c d e x y =
    let all = worlds s founders (early ++ late) in
    let world = moment s founders (early ++ late) in
    let b : HeldAt (at s founders world all) p d =
    subst (λ l. HeldAt (at s founders (moment s founders l) (worlds s founders l)) p d) (append-nil (early ++ late)) (held_early s founders (early ++ late) [] k p d y) in
    agreement s law founders (at s founders world all) (run_of s founders world all) p c d (held_early s founders early late n p c x) b
