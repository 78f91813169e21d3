-- Letters that somebody may wait for stay in the trays
use Rattle.std.proofs.Common.{zero, suc, ◌-◌, ◌<◌, if◌then◌else◌, Result, Ok, Err, OnOk, OnErr, ◌≡◌, ◌⊎◌, ℕ, ◌+◌, Bool, true, false, nat_eq, List, [], ◌∷◌, ◌++◌, length, None, Some, slice_get, slice_set, refl, sym, ap, ◌∙◌, subst, inl, inr, arith, eqb-true, eq-eqb}
use Rattle.std.proofs.lemmas.Bool.{true≢false, lt-leb}
use Rattle.rambo_names.specs.Quorums.{QuorumSystem}
use Rattle.rambo_gossip.specs.Letters.{LetterState}
use Rattle.rambo_node.specs.Steps.{Step}
use Rattle.rambo_node.specs.declared.step.StepOf.TheVariants as step
use Rattle.rambo_run.specs.Actors.{sent_by}
use Rattle.rambo_run.specs.Legal.{IsLegal}
use Rattle.rambo_run.specs.Runs.{run}
use Rattle.rambo_run.specs.Steps.{refusal}
use Rattle.rambo_run.specs.Worlds.{WorldState, letter_at}
use Rattle.rambo_run.proofs.GoingOn.{run-more}
use Rattle.rambo_run.proofs.Legal.{get-left}
use Rattle.rambo_run.proofs.Lists.{get_more, none-some, set_here, set_there, some_inj}
use Rattle.rambo_book.specs.Kept.{BookView, KeeperView, state}
use Rattle.rambo_mail.specs.Waiting.{divides, drop_gone_numbers, waiting_for}
use Rattle.rambo_book.specs.Mailing.{comes_to, goes_to, waiting_after, without}
use Rattle.rambo_book.specs.Windows.{gone_of}
use Rattle.rambo_book.specs.Readying.{IsIn}
use Rattle.rambo_pass.specs.Passes.{HasStopped}
use Rattle.rambo_recovery.specs.Recoveries.{AreHeld, AreNamed, IsInSome, IsSpent}
use Rattle.rambo_recovery.proofs.Sending.{later_letter, letter_stays}
use Rattle.rambo_recovery.proofs.Stopping.{stays}
use Rattle.rambo_recovery.proofs.Trays.{get_last, last_waits, without_keeps}

-- for a letter that nobody waits for nobody waits later
pub spent_on : {Q : Type 0} (s : QuorumSystem Q) (f : Q) (lose : ℕ) (steps : List (Step Q)) (st : Step Q) (n : ℕ) → refusal s (run s f steps) st ≡ None → IsSpent s f lose steps n → IsSpent s f lose (steps ++ st ∷ []) n
spent_on s f lose steps st n accepted h = elim h [
  | inl lost ↦ inl lost
  | inr r ↦ elim r [
    | inl d ↦ inr (inl (d.0, get-left steps (st ∷ []) d.0 (step.Deliver n) d.1))
    | inr g ↦ inr (inr (g.0, letter_stays s f steps st n g.0 g.1, subst (λ w. HasStopped w g.0.addressee) (sym (run-more s f steps st accepted)) (stays s (run s f steps) st g.0.addressee accepted g.2)))
  ]
]

-- what is in a tray stays where one keeper changes, and has it still
still_at : {Q : Type 0} (b : Bool) (ks : List (KeeperView Q)) (p : ℕ) (k after : KeeperView Q) (n : ℕ) → slice_get ks p ≡ Some k → (IsIn k.tray n → IsIn after.tray n) → (h : IsInSome ks n) → nat_eq h.0 p ≡ b → IsInSome (slice_set ks p after) n
still_at true ks p k after n here keeps h same =
    let at = eqb-true h.0 p same in
    let is : h.1 ≡ k = some_inj h.1 k (sym h.2 ∙ ap (slice_get ks) at ∙ here) in
    (p, after, set_here ks p k after here, keeps (subst (λ (k : KeeperView _). IsIn k.tray n) is h.3))
still_at false ks p k after n here keeps h same = (h.0, h.1, set_there ks p h.0 after (λ e. true≢false (sym (eq-eqb h.0 p e) ∙ same)) ∙ h.2, h.3)

pub still_in : {Q : Type 0} (ks : List (KeeperView Q)) (p : ℕ) (k after : KeeperView Q) (n : ℕ) → slice_get ks p ≡ Some k → (IsIn k.tray n → IsIn after.tray n) → IsInSome ks n → IsInSome (slice_set ks p after) n
still_in ks p k after n here keeps h = still_at (nat_eq h.0 p) ks p k after n here keeps h refl

-- after a step more: what was in a tray is, or nobody waits for it; and so it is with what the step sent
pub held_on : {Q : Type 0} (s : QuorumSystem Q) (b : BookView Q) (st : Step Q) (lists : List (List ℕ)) (ks ls : List (KeeperView Q)) → IsLegal s b.founders b.steps → refusal s (state s b) st ≡ None → AreHeld s b ks
    → ((n : ℕ) → IsInSome ks n → IsSpent s b.founders b.lose (b.steps ++ st ∷ []) n ⊎ IsInSome ls n)
    → ((n : ℕ) (l : LetterState Q) → sent_by st ≡ l.addressee ∷ [] → n ≡ length (run s b.founders (b.steps ++ st ∷ [])).letters → letter_at (run s b.founders (b.steps ++ st ∷ [])).letters n ≡ Some l
    → IsSpent s b.founders b.lose (b.steps ++ st ∷ []) n ⊎ IsInSome ls n)
    → AreHeld s (record b { steps = b.steps ++ st ∷ []; waiting = lists }) ls
held_on s b st lists ks ls legal accepted held kept last = λ n l e. elim (later_letter s b.founders b.steps st legal accepted n l e) [
  | inl old ↦ elim (held n l old) [
    | inl spent ↦ inl (spent_on s b.founders b.lose b.steps st n accepted spent)
    | inr there ↦ kept n there
  ]
  | inr new ↦ last n l new.0 new.1 e
]

-- the letter that was delivered leaves its tray
left_in : {Q : Type 0} (b : Bool) (s : QuorumSystem Q) (f : Q) (lose : ℕ) (steps : List (Step Q)) (ks : List (KeeperView Q)) (p : ℕ) (k after : KeeperView Q) (number n : ℕ) → nat_eq n number ≡ b
    → slice_get ks p ≡ Some k → after.tray ≡ without k.tray number → IsInSome ks n → IsSpent s f lose (steps ++ step.Deliver number ∷ []) n ⊎ IsInSome (slice_set ks p after) n
left_in true s f lose steps ks p k after number n same here is h = inl (inr (inl (length steps, get_last steps (step.Deliver number) [] ∙ ap (λ n. Some (step.Deliver n)) (sym (eqb-true n number same)))))
left_in false s f lose steps ks p k after number n same here is h =
    inr (still_in ks p k after n here (λ i. subst (λ t. IsIn t n) (sym is) (without_keeps k.tray number n (λ e. true≢false (sym (eq-eqb n number e) ∙ same)) i)) h)

pub delivered_on : {Q : Type 0} (s : QuorumSystem Q) (b : BookView Q) (lists : List (List ℕ)) (ks : List (KeeperView Q)) (p : ℕ) (k after : KeeperView Q) (number : ℕ) → IsLegal s b.founders b.steps → refusal s (state s b) (step.Deliver number) ≡ None
    → slice_get ks p ≡ Some k → after.tray ≡ without k.tray number → AreHeld s b ks → AreHeld s (record b { steps = b.steps ++ step.Deliver number ∷ []; waiting = lists }) (slice_set ks p after)
delivered_on s b lists ks p k after number legal accepted here is held =
    held_on s b (step.Deliver number) lists ks (slice_set ks p after) legal accepted held (λ n h. left_in (nat_eq n number) s b.founders b.lose b.steps ks p k after number n refl here is h)
    (λ n l sent at e. (let none = ap length sent in absurd (omega (arith, none))))

-- keepers keep their names
named_at : {Q : Type 0} (b : Bool) (ks : List (KeeperView Q)) (p : ℕ) (k after : KeeperView Q) → AreNamed ks → slice_get ks p ≡ Some k → after.name ≡ k.name → (place : ℕ) (x : KeeperView Q) → nat_eq place p ≡ b
    → slice_get (slice_set ks p after) place ≡ Some x → x.name ≡ place + 1
named_at true ks p k after named here same place x eq e =
    let at = eqb-true place p eq in
    let is : after ≡ x = some_inj after x (sym (set_here ks p k after here) ∙ ap (slice_get (slice_set ks p after)) (sym at) ∙ e) in
    ap (λ (k : KeeperView _). k.name) (sym is) ∙ same ∙ named p k here ∙ ap (λ n. n + 1) (sym at)
named_at false ks p k after named here same place x eq e = named place x (sym (set_there ks p place after (λ e. true≢false (sym (eq-eqb place p e) ∙ eq))) ∙ e)

pub named_on : {Q : Type 0} (ks : List (KeeperView Q)) (p : ℕ) (k after : KeeperView Q) → AreNamed ks → slice_get ks p ≡ Some k → after.name ≡ k.name → AreNamed (slice_set ks p after)
named_on ks p k after named here same place x e = named_at (nat_eq place p) ks p k after named here same place x refl e

-- trays stay where a keeper changes whose tray stays
pub held_same : {Q : Type 0} (s : QuorumSystem Q) (b : BookView Q) (ks : List (KeeperView Q)) (p : ℕ) (k after : KeeperView Q) → slice_get ks p ≡ Some k → after.tray ≡ k.tray → AreHeld s b ks → AreHeld s b (slice_set ks p after)
held_same s b ks p k after here same held n l e = elim (held n l e) [
  | inl spent ↦ inl spent
  | inr h ↦ inr (still_in ks p k after n here (λ i. subst (λ t. IsIn t n) (sym same) i) h)
]

-- and a step is done that sends nothing
pub held_quiet : {Q : Type 0} (s : QuorumSystem Q) (b c : BookView Q) (st : Step Q) (ks : List (KeeperView Q)) (p : ℕ) (k after : KeeperView Q) → IsLegal s b.founders b.steps → refusal s (state s b) st ≡ None
    → c ≡ record b { steps = b.steps ++ st ∷ []; waiting = c.waiting } → slice_get ks p ≡ Some k → after.tray ≡ k.tray → sent_by st ≡ [] → AreHeld s b ks → AreHeld s c (slice_set ks p after)
held_quiet s b c st ks p k after legal accepted is here same none held =
    subst (λ c. AreHeld s c (slice_set ks p after)) (sym is)
    (held_on s b st c.waiting ks (slice_set ks p after) legal accepted held (λ n h. inr (still_in ks p k after n here (λ i. subst (λ t. IsIn t n) (sym same) i) h))
    (λ n l sent at e. absurd (let none = ap length (sym none ∙ sent) in omega (arith, none))))

-- a delivery is done, or refused
pub held_delivered : {Q A E : Type 0} (s : QuorumSystem Q) (b c : BookView Q) (ks : List (KeeperView Q)) (p : ℕ) (k after : KeeperView Q) (number : ℕ) (r : Result A E) → IsLegal s b.founders b.steps → slice_get ks p ≡ Some k
    → OnOk r (refusal s (state s b) (step.Deliver number) ≡ None) → OnOk r (c ≡ record b { steps = b.steps ++ step.Deliver number ∷ [] }) → OnOk r (after.tray ≡ without k.tray number) → OnErr r ((c ≡ b) × (after.tray ≡ k.tray))
    → AreHeld s b ks → AreHeld s c (slice_set ks p after)
held_delivered s b c ks p k after number (Ok a) legal here accepted is tray same held =
    subst (λ c. AreHeld s c (slice_set ks p after)) (sym is) (delivered_on s b b.waiting ks p k after number legal accepted here tray held)
held_delivered s b c ks p k after number (Err e) legal here accepted is tray same held =
    subst (λ c. AreHeld s c (slice_set ks p after)) (sym same.0) (held_same s b ks p k after here same.1 held)

either : (b : Bool) → (b ≡ true) ⊎ (b ≡ false)
either true = inl refl
either false = inr refl

-- the letter that was sent last comes to its addressee
comes_last : {Q : Type 0} (w : WorldState Q) (to n : ℕ) (l : LetterState Q) → n ≡ length w.letters → letter_at w.letters n ≡ Some l → l.addressee ≡ to → comes_to w (gone_of true 0 w) to n ≡ true
comes_last w to zero l at e own = absurd (none-some l e)
comes_last w to (suc i) l at e own =
    ap (λ b. if b then false else goes_to to (letter_at w.letters (suc i))) (lt-leb (suc i) (length w.letters - 16384) (omega (arith, at)))
    ∙ ap (goes_to to) e ∙ eq-eqb l.addressee to own

-- and is in their tray, or somebody waits for nobody
pub held_sent : {Q : Type 0} (s : QuorumSystem Q) (most : ℕ) (b c d : BookView Q) (st : Step Q) (to : ℕ) (ks : List (KeeperView Q)) (p : ℕ) (k mid : KeeperView Q) (q : ℕ) (m after : KeeperView Q)
    → IsLegal s b.founders b.steps → refusal s (state s b) st ≡ None → c ≡ record b { steps = b.steps ++ st ∷ []; waiting = c.waiting } → d ≡ record c { waiting = d.waiting }
    → slice_get ks p ≡ Some k → mid.tray ≡ k.tray → slice_get (slice_set ks p mid) q ≡ Some m → m.name ≡ to → to - 1 < length b.waiting → sent_by st ≡ to ∷ []
    → c.waiting ≡ waiting_after b (sent_by st) (gone_of true most (state s c)) (length (state s c).letters)
    → ((n : ℕ) → IsIn m.tray n → IsIn after.tray n)
    → ((place n : ℕ) → slice_get (waiting_for c.waiting m.name) place ≡ Some n → comes_to (state s c) (gone_of true most (state s c)) m.name n ≡ true → HasStopped (state s c) m.name ⊎ IsIn after.tray n)
    → AreHeld s b ks → AreHeld s d (slice_set (slice_set ks p mid) q after)
held_sent {Q} s most b c d st to ks p k mid q m after legal accepted is later here same there named room sent waits kept come held =
    let ls = slice_set ks p mid in
    let w = run s b.founders (b.steps ++ st ∷ []) in
    let now : state s c ≡ w = ap (state s) is in
    let lasts : (n : ℕ) (l : LetterState Q) → sent_by st ≡ l.addressee ∷ [] → n ≡ length w.letters → letter_at w.letters n ≡ Some l → IsSpent s b.founders b.lose (b.steps ++ st ∷ []) n ⊎ IsInSome (slice_set ls q after) n =
    λ n l by at e.
    let own : l.addressee ≡ to = some_inj l.addressee to (ap (λ l. slice_get l 0) (sym by ∙ sent)) in
    elim (either (divides b.lose n)) [
      | inl lost ↦ inl (inl lost)
      | inr goes ↦ (
          let g = gone_of true most (state s c) in
          let line = last_waits b to g n room goes in
          let queue : waiting_for c.waiting m.name ≡ waiting_for (waiting_after b (to ∷ []) g n) to =
          (λ i. waiting_for ((waits ∙ (λ j. waiting_after b (sent j) g ((ap (λ (w : WorldState Q). length w.letters) now ∙ sym at) j))) i) (named i)) in
          let comes : comes_to (state s c) g m.name n ≡ true =
          (λ i. comes_to (now i) (gone_of true most (now i)) (named i) n) ∙ comes_last w to n l at e own in
          elim (come (length (drop_gone_numbers g (waiting_for b.waiting to))) n (ap (λ l. slice_get l (length (drop_gone_numbers g (waiting_for b.waiting to)))) queue ∙ line) comes) [
            | inl stopped ↦ inl (inr (inr (l, e, subst (λ w. HasStopped w l.addressee) now (subst (HasStopped (state s c)) (named ∙ sym own) stopped))))
            | inr i ↦ inr (q, after, set_here ls q m after there, i)
          ])
    ] in
    subst (λ d. AreHeld s d (slice_set ls q after)) (sym (later ∙ (λ i. record (is i) { waiting = d.waiting })))
    (held_on s b st d.waiting ks (slice_set ls q after) legal accepted held
    (λ n h. inr (still_in ls q m after n there (kept n) (still_in ks p k mid n here (λ i. subst (λ t. IsIn t n) (sym same) i) h)))
    lasts)

-- and one keeper more has the next name
pub named_more : {Q : Type 0} (ks : List (KeeperView Q)) (k : KeeperView Q) → AreNamed ks → k.name ≡ length ks + 1 → AreNamed (ks ++ k ∷ [])
named_more ks k named next place x e = elim (get_more ks k x place e) [
  | inl h ↦ named place x h
  | inr h ↦ ap (λ (k : KeeperView _). k.name) (sym h.1) ∙ next ∙ ap (λ n. n + 1) (sym h.0)
]
