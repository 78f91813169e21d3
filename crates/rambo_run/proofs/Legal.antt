-- Lists of steps of which none is refused
use Rattle.std.proofs.Common.{◌≡◌, ℕ, zero, suc, ◌+◌, ◌≤◌, List, [], ◌∷◌, ◌++◌, length, take, slice_get, None, Some, refl, sym, ap, ◌∙◌, subst, arith, inl, inr}
use Rattle.std.proofs.lemmas.Bool.{false≢true}
use Rattle.std.proofs.lemmas.List.{same_from_push, length-append, take_all, take-append-le}
use Rattle.std.proofs.lemmas.Option.{slice_get_within}
use Rattle.std.specs.Option.{is_some}
use mathlib.Core.List.{IsPrefix}
use Rattle.rambo_names.specs.Quorums.{QuorumSystem}
use Rattle.rambo_history.specs.Faults.{fault_of}
use Rattle.rambo_node.specs.Steps.{Step}
use Rattle.rambo_run.specs.Worlds.{WorldState, first_world}
use Rattle.rambo_run.specs.Steps.{refusal}
use Rattle.rambo_run.specs.Runs.{after, run_from, run}
use Rattle.rambo_run.specs.Legal.{IsLegal, EventsFit, MarksFit, RunsGoOn, OthersStay, BeginningsHold}
use Rattle.rambo_run.specs.Chronicles.{IsMarked}
use Rattle.rambo_run.proofs.Lists.{some_inj, none-some, Member, member_last}
use Rattle.rambo_run.proofs.Fitting.{events_fit, marks_told}
use Rattle.rambo_run.proofs.GoingOn.{run-more, run_from-append, else_stays, Grows, run_from-grows}

-- each item of a list, and of one more
push_places : {X : Type 0} (P : ℕ → X → Type 0) (xs : List X) (x : X) → ((place : ℕ) (y : X) → slice_get xs place ≡ Some y → P place y) → P (length xs) x
    → (place : ℕ) (y : X) → slice_get (xs ++ x ∷ []) place ≡ Some y → P place y
push_places P [] x all last zero y e = subst (P zero) (some_inj x y e) last
push_places P [] x all last (suc place) y e = absurd (false≢true (ap is_some e))
push_places P (z ∷ xs) x all last zero y e = all zero y e
push_places P (z ∷ xs) x all last (suc place) y e = push_places (λ p. P (suc p)) xs x (λ p w f. all (suc p) w f) last place y e

pub legal_none : {Q : Type 0} (s : QuorumSystem Q) (founders : Q) → IsLegal s founders []
legal_none s founders place st e = absurd (false≢true (ap is_some e))

-- a legal list, and one step more
pub legal-more : {Q : Type 0} (s : QuorumSystem Q) (founders : Q) (sts : List (Step Q)) (st : Step Q) → IsLegal s founders sts → refusal s (run s founders sts) st ≡ None → IsLegal s founders (sts ++ st ∷ [])
legal-more s founders sts st legal accepted =
    let still : (n : ℕ) → n ≤ length sts → take n (sts ++ st ∷ []) ≡ take n sts = λ n within. take-append-le n sts (st ∷ []) within in
    let whole : run s founders (take (length sts) (sts ++ st ∷ [])) ≡ run s founders sts = ap (run s founders) (still (length sts) (omega arith) ∙ take_all (length sts) sts (omega arith)) in
    push_places (λ place y. refusal s (run s founders (take place (sts ++ st ∷ []))) y ≡ None) sts st
    (λ place y found. let below = slice_get_within sts place y found in ap (λ l. refusal s (run s founders l) y) (still place (omega (arith, below))) ∙ legal place y found)
    (ap (λ w. refusal s w st) whole ∙ accepted)

-- the same of the list that there is
pub legal_longer : {Q : Type 0} (s : QuorumSystem Q) (founders : Q) (old : List (Step Q)) (st : Step Q) (w : WorldState Q) (steps : List (Step Q))
    → w ≡ run s founders old → IsLegal s founders old → refusal s w st ≡ None → steps ≡ old ++ st ∷ [] → IsLegal s founders steps
legal_longer s founders old st w steps is legal accepted more =
    subst (IsLegal s founders) (sym more) (legal-more s founders old st legal (ap (λ w. refusal s w st) (sym is) ∙ accepted))

pub get-left : {A : Type 0} (xs rest : List A) (k : ℕ) (x : A) → slice_get xs k ≡ Some x → slice_get (xs ++ rest) k ≡ Some x
get-left [] rest k x e = absurd (none-some x e)
get-left (y ∷ xs) rest zero x e = e
get-left (y ∷ xs) rest (suc k) x e = get-left xs rest k x e

pub legal-prefix : {Q : Type 0} (s : QuorumSystem Q) (founders : Q) (xs ys : List (Step Q)) → IsPrefix xs ys → IsLegal s founders ys → IsLegal s founders xs
legal-prefix s founders xs ys p legal place st found =
    let below = slice_get_within xs place st found in
    let same : take place ys ≡ take place xs = ap (take place) (sym p.1) ∙ take-append-le place xs p.0 (omega (arith, below)) in
    ap (λ l. refusal s (run s founders l) st) (sym same) ∙ legal place st (ap (λ l. slice_get l place) (sym p.1) ∙ get-left xs p.0 place st found)

-- the same step by step
unfoldable pub legal_from : {Q : Type 0} → QuorumSystem Q → WorldState Q → List (Step Q) → Type 0
legal_from s w [] = Unit {0}
legal_from s w (st ∷ sts) = (refusal s w st ≡ None) × legal_from s (after s w st) sts

in_turn : {Q : Type 0} (s : QuorumSystem Q) (sts : List (Step Q)) (w : WorldState Q)
    → ((place : ℕ) (st : Step Q) → slice_get sts place ≡ Some st → refusal s (run_from s w (take place sts)) st ≡ None) → legal_from s w sts
unfolding run_from legal_from
in_turn s [] w h = tt
in_turn s (x ∷ sts) w h = (h 0 x refl, in_turn s sts (after s w x) (λ place st e. h (suc place) st e))

pub legal_in_turn : {Q : Type 0} (s : QuorumSystem Q) (founders : Q) (sts : List (Step Q)) → IsLegal s founders sts → legal_from s (first_world s founders) sts
unfolding run
legal_in_turn s founders sts legal = in_turn s sts (first_world s founders) legal

-- the two parts of such a list
pub legal-split : {Q : Type 0} (s : QuorumSystem Q) (xs ys : List (Step Q)) (w : WorldState Q) → legal_from s w (xs ++ ys) → legal_from s w xs × legal_from s (run_from s w xs) ys
unfolding run_from legal_from
legal-split s [] ys w legal = (tt, legal)
legal-split s (x ∷ xs) ys w legal = let r = legal-split s xs ys (after s w x) legal.1 in ((legal.0, r.0), r.1)

-- letters and history of a beginning begin those of the whole
pub run-grows : {Q : Type 0} (s : QuorumSystem Q) (founders : Q) (xs ys : List (Step Q)) → IsPrefix xs ys → Grows (run s founders xs) (run s founders ys)
unfolding run
run-grows s founders xs ys p =
    let w = first_world s founders in
    subst (λ l. Grows (run_from s w xs) (run_from s w l)) p.1 (subst (Grows (run_from s w xs)) (sym (run_from-append s w xs p.0)) (run_from-grows s (run_from s w xs) p.0))

-- a list is no longer list
no_more : {X A : Type 0} (h : List A) (e : A) → h ≡ h ++ e ∷ [] → X
no_more h e is = absurd (let l : length h ≡ length h + 1 = ap length is ∙ length-append h (e ∷ []) in omega (arith, l))

-- what a run puts at the end of the history fits there
pub events_fit_run : {Q : Type 0} (s : QuorumSystem Q) (founders : Q) (ss : List (Step Q)) → EventsFit s (run s founders ss)
events_fit_run {Q} s founders ss st e accepted grown =
    let w = run s founders ss in
    elim (events_fit s founders ss st) [
      | inl same ↦ no_more w.history e (sym same ∙ grown)
      | inr f ↦ subst (λ e. fault_of w.history e ≡ None) (same_from_push w.history w.history f.event e (sym f.history ∙ grown)).1 f.fault
    ]

-- and of its marks the history then tells
pub marks_fit_run : {Q : Type 0} (s : QuorumSystem Q) (founders : Q) (ss : List (Step Q)) → MarksFit s (run s founders ss)
marks_fit_run s founders ss st m accepted grown =
    let after = run-more s founders ss st accepted in
    subst (λ (w : WorldState _). IsMarked w.history m) after
    (marks_told s founders (ss ++ st ∷ []) m (subst (Member m) (sym (ap (λ (w : WorldState _). w.marks) after ∙ grown)) (member_last m (run s founders ss).marks)))

pub runs_go_on : {Q : Type 0} (s : QuorumSystem Q) → RunsGoOn s
runs_go_on s founders steps st e = (run-more s founders steps st e, λ legal. legal-more s founders steps st legal e)

pub others_stay : (Q : Type 0) → OthersStay Q
others_stay Q w st n d = else_stays w st n d

pub beginnings_hold : {Q : Type 0} (s : QuorumSystem Q) → BeginningsHold s
beginnings_hold s founders xs ys p = let g = run-grows s founders xs ys p in (g.letters, g.history, λ legal. legal-prefix s founders xs ys p legal)
