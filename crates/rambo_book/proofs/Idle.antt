-- The node of a keeper that lacks no step of its own is that of the whole run, with what it keeps beside
use Rattle.std.proofs.Common.{◌≡◌, ℕ, if◌then◌else◌, List, [], ◌∷◌, ◌++◌, Option, None, Some, map, refl, sym, ap, ◌∙◌, subst, eq-eqb}
use Rattle.std.proofs.lemmas.Bool.{ne_eqb}
use Rattle.rambo_names.specs.declared.refusal.Refusal.{Refusal}
use Rattle.rambo_names.specs.Quorums.{QuorumSystem}
use Rattle.rambo_node.specs.Acts.{Act, Meant}
use Rattle.rambo_node.specs.FullNodes.{full_after, fully_replayed, first_full}
use Rattle.rambo_node.specs.Steps.{Step}
use Rattle.rambo_run.specs.Worlds.{WorldState, node_at, first_world}
use Rattle.rambo_run.specs.Steps.{meant, refusal}
use Rattle.rambo_run.specs.Runs.{after, run_from, run}
use Rattle.rambo_run.specs.Journals.{entered_unless, journal_from, journal}
use Rattle.rambo_run.specs.Legal.{IsLegal}
use Rattle.rambo_run.specs.Actors.{sent, actor}
use Rattle.rambo_run.proofs.GoingOn.{after-taken, run_from-append, else_stays}
use Rattle.rambo_run.proofs.Legal.{legal_from, legal_in_turn, legal-split}
use Rattle.rambo_run.proofs.Actors.{to, acts, addressees_next, addressees_from, first_letters}
use Rattle.rambo_deltas.specs.Deltas.{full_at}
use Rattle.rambo_deltas.proofs.Stamped.{unless-more, replayed-more}
use Rattle.rambo_roll.specs.Rolls.{Idle, NoneBy}

-- no step of n changes no node of n
none_node : {Q : Type 0} (s : QuorumSystem Q) (n : ℕ) (rest log : List (Step Q)) (w : WorldState Q) → map to w.letters ≡ sent log → legal_from s w rest → NoneBy actor n log rest → node_at (run_from s w rest) n ≡ node_at w n
unfolding run_from legal_from
none_node s n [] log w same legal none = refl
none_node s n (st ∷ rest) log w same legal none =
    none_node s n rest (log ++ st ∷ []) (after s w st) (addressees_next s log w st legal.0 same) legal.1 none.1
    ∙ ap (λ w. node_at w n) (after-taken s w st legal.0)
    ∙ else_stays w st n (λ m is e. none.0 (acts log w st m same is ∙ e))

-- the node of a keeper that is idle since is as it was
pub idle_node : {Q : Type 0} (s : QuorumSystem Q) (founders : Q) (n : ℕ) (seen log : List (Step Q)) → IsLegal s founders log → Idle actor n seen log → node_at (run s founders log) n ≡ node_at (run s founders seen) n
unfolding run
idle_node s founders n seen log legal idle =
    let w = first_world s founders in
    let parts = legal-split s seen idle.0 w (subst (legal_from s w) (sym idle.1) (legal_in_turn s founders log legal)) in
    ap (λ l. node_at (run_from s w l) n) (sym idle.1) ∙ ap (λ w. node_at w n) (run_from-append s w seen idle.0)
    ∙ none_node s n idle.0 seen (run_from s w seen) (addressees_from s seen [] w parts.0 (first_letters s founders)) parts.1 idle.2

-- nor does one go into its journal
not_entered : {Q : Type 0} (r : Option Refusal) (n : ℕ) (o : Option (Meant Q)) → ((m : Meant Q) → o ≡ Some m → m.name ≡ n → ⊥) → entered_unless r n o [] ≡ []
not_entered (Some f) n o other = refl
not_entered None n None other = refl
not_entered None n (Some m) other = ap (λ b. if b then m.act ∷ [] else []) (ne_eqb m.name n (other m refl))

none_entered : {Q : Type 0} (s : QuorumSystem Q) (n : ℕ) (rest log : List (Step Q)) (w : WorldState Q) → map to w.letters ≡ sent log → legal_from s w rest → NoneBy actor n log rest → journal_from s w n rest ≡ []
unfolding journal_from legal_from
none_entered s n [] log w same legal none = refl
none_entered s n (st ∷ rest) log w same legal none =
    ap (entered_unless (refusal s w st) n (meant w st)) (none_entered s n rest (log ++ st ∷ []) (after s w st) (addressees_next s log w st legal.0 same) legal.1 none.1)
    ∙ not_entered (refusal s w st) n (meant w st) (λ m is e. none.0 (acts log w st m same is ∙ e))

-- a journal that goes on
journal-append : {Q : Type 0} (s : QuorumSystem Q) (n : ℕ) (xs ys : List (Step Q)) (w : WorldState Q) → journal_from s w n (xs ++ ys) ≡ journal_from s w n xs ++ journal_from s (run_from s w xs) n ys
unfolding journal_from run_from
journal-append s n [] ys w = refl
journal-append s n (x ∷ xs) ys w =
    ap (entered_unless (refusal s w x) n (meant w x)) (journal-append s n xs ys (after s w x))
    ∙ unless-more (refusal s w x) n (meant w x) (journal_from s (after s w x) n xs) (journal_from s (run_from s (after s w x) xs) n ys)

full-append : {Q : Type 0} (s : QuorumSystem Q) (founders : Q) (xs ys : List (Step Q)) (n : ℕ) → full_at s founders (xs ++ ys) n ≡ fully_replayed (full_at s founders xs n) (journal_from s (run s founders xs) n ys)
unfolding full_at journal run
full-append s founders xs ys n =
    let w = first_world s founders in
    let first = first_full s founders n in
    ap (fully_replayed first) (journal-append s n xs ys w) ∙ replayed-more first (journal_from s w n xs) (journal_from s (run_from s w xs) n ys)

-- so the node is as it was with its stamps and bases too
pub idle_full : {Q : Type 0} (s : QuorumSystem Q) (founders : Q) (n : ℕ) (seen log : List (Step Q)) → IsLegal s founders log → Idle actor n seen log → full_at s founders log n ≡ full_at s founders seen n
unfolding run
idle_full s founders n seen log legal idle =
    let w = first_world s founders in
    let parts = legal-split s seen idle.0 w (subst (legal_from s w) (sym idle.1) (legal_in_turn s founders log legal)) in
    ap (λ l. full_at s founders l n) (sym idle.1) ∙ full-append s founders seen idle.0 n
    ∙ ap (fully_replayed (full_at s founders seen n)) (none_entered s n idle.0 seen (run_from s w seen) (addressees_from s seen [] w parts.0 (first_letters s founders)) parts.1 idle.2)

-- and after a step of its own it is what that makes of it
pub full-more : {Q : Type 0} (s : QuorumSystem Q) (founders : Q) (steps : List (Step Q)) (st : Step Q) (n : ℕ) (c : Act Q) → meant (run s founders steps) st ≡ Some (record { name = n; act = c }) → refusal s (run s founders steps) st ≡ None
    → full_at s founders (steps ++ st ∷ []) n ≡ full_after (full_at s founders steps n) c
unfolding journal_from
full-more s founders steps st n c means accepted =
    let v = full_at s founders steps n in
    full-append s founders steps (st ∷ []) n
    ∙ (λ i. fully_replayed v (entered_unless (accepted i) n (means i) []))
    ∙ ap (λ b. fully_replayed v (if b then c ∷ [] else [])) (eq-eqb n n refl)
