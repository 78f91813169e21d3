-- Worlds with their nodes alone: steps go the same way there
use Rattle.std.proofs.Common.{◌≡◌, ℕ, zero, suc, ◌+◌, ◌-◌, false, List, [], ◌∷◌, ◌++◌, length, Option, None, Some, slice_get, slice_set, Ok, refl, sym, ap, ◌∙◌, append-nil, arith}
use Rattle.std.proofs.lemmas.Bool.{false≢true}
use Rattle.std.proofs.lemmas.List.{set-get_or, length_push}
use Rattle.std.proofs.lemmas.Option.{get_or_from_slice_get}
use Rattle.std.specs.Option.{is_some}
use Rattle.rambo_names.specs.declared.refusal.Refusal.{Refusal}
use Rattle.rambo_names.specs.declared.refusal.Refusal.TheVariants.{NoSuchLetter}
use Rattle.rambo_names.specs.Quorums.{QuorumSystem}
use Rattle.rambo_names.specs.Refusals.{least}
use Rattle.rambo_gossip.specs.Letters.{LetterState}
use Rattle.rambo_history.specs.declared.event.Event.{Event}
use Rattle.rambo_node.specs.Acts.{Act, Meant, delivery}
use Rattle.rambo_node.specs.Changes.{made_by}
use Rattle.rambo_node.specs.Letters.{letter_for}
use Rattle.rambo_node.specs.Nodes.{NodeState}
use Rattle.rambo_node.specs.Acts as act
use Rattle.rambo_node.specs.Steps.{Step}
use Rattle.rambo_node.specs.declared.step.StepOf.TheVariants as step
use Rattle.rambo_sequence.specs.declared.mark.Mark.{Mark}
use Rattle.rambo_run.specs.Worlds.{WorldState, first_world, node_at, letter_at}
use Rattle.rambo_run.proofs.NodeLists.{node_named}
use Rattle.rambo_run.specs.Steps.{meant, causes, causes_at, causes_of, effect_in, refusal, turn, turn_at, turn_of, with_letter, sends}
use Rattle.rambo_run.specs.Runs.{after, result_of, run, run_from, unless_refused}
use Rattle.rambo_world.specs.Direct.{bare, passed, pass_refusal, first_of, IsReachedBare}
use Rattle.rambo_run.proofs.Unsent.{unsent}
use Rattle.rambo_run.proofs.GoingOn.{after-refused, run_none, run-after}
use Rattle.rambo_world.proofs.Turns.{step_turn, step_refusal, deliver_refusal}

-- the first item behind a list
slice_get-behind : {X : Type 0} (xs ys : List X) → slice_get (xs ++ ys) (length xs) ≡ slice_get ys 0
slice_get-behind [] ys = refl
slice_get-behind (x ∷ xs) ys = slice_get-behind xs ys

module _ {Q : Type 0} (s : QuorumSystem Q) where
  -- the same nodes with other letters, another history and other marks
  abbrev beside : WorldState Q → List (LetterState Q) → List Event → List Mark → WorldState Q
  beside w ls h ms = record w { letters = ls; history = h; marks = ms }

  module _ (w : WorldState Q) (ls : List (LetterState Q)) (h : List Event) (ms : List Mark) where
    same_causes : (m : Option (Meant Q)) → causes_of s (beside w ls h ms) m ≡ causes_of s w m
    same_causes None = refl
    same_causes (Some m) = refl

    same_at : (n : ℕ) (c : Act Q) (o : Option (NodeState Q)) → bare (turn_at (beside w ls h ms) n o c).world ≡ bare (turn_at w n o c).world
    same_at n c None = refl
    same_at n c (Some x) = refl

    same_turn : (m : Option (Meant Q)) → bare (turn_of (beside w ls h ms) m).world ≡ bare (turn_of w m).world
    same_turn None = refl
    same_turn (Some m) = same_at m.name m.act (node_at w m.name)

  same_unless : (o : Option Refusal) (v w a b : WorldState Q) → bare v ≡ bare w → bare a ≡ bare b → bare (unless_refused o v a) ≡ bare (unless_refused o w b)
  same_unless None v w a b e f = f
  same_unless (Some r) v w a b e f = e

  -- two steps that mean the same, whatever is beside the nodes
  same_after : (w : WorldState Q) (ls : List (LetterState Q)) (h : List Event) (ms : List Mark) (st other : Step Q) → meant (beside w ls h ms) other ≡ meant w st
      → bare (after s (beside w ls h ms) other) ≡ bare (after s w st)
  unfolding after refusal causes turn
  same_after w ls h ms st other means =
      let v = beside w ls h ms in
      ap (λ m. bare (unless_refused (least (causes_of s v m)) v (turn_of v m).world)) means
      ∙ ap (λ cs. bare (unless_refused (least cs) v (turn_of v (meant w st)).world)) (same_causes w ls h ms (meant w st))
      ∙ same_unless (refusal s w st) v w (turn_of v (meant w st)).world (turn w st).world refl (same_turn w ls h ms (meant w st))

  same_effect : (w : WorldState Q) (n : ℕ) (c : Act Q) (o : Option (NodeState Q)) → sends c ≡ false → (turn_at (bare w) n o c).effect ≡ (turn_at w n o c).effect
  same_effect w n c None quiet = refl
  same_effect w n c (Some x) quiet =
      let e = (made_by x c).deed.effect in
      ap (effect_in [] e) (unsent x c quiet) ∙ sym (ap (effect_in w.letters e) (unsent x c quiet))

  same_result : (o : Option Refusal) (v w : WorldState Q) (st other : Step Q) → (turn v st).effect ≡ (turn w other).effect → result_of o v st ≡ result_of o w other
  same_result None v w st other e = ap Ok e
  same_result (Some r) v w st other e = refl

  quiet_at : (w : WorldState Q) (n : ℕ) (c : Act Q) (o : Option (NodeState Q)) → sends c ≡ false → (turn_at w n o c).world.letters ≡ w.letters
  quiet_at w n c None quiet = refl
  quiet_at w n c (Some x) quiet = ap (with_letter w.letters) (unsent x c quiet)

  quiet_unless : (o : Option Refusal) (w next : WorldState Q) → next.letters ≡ w.letters → (unless_refused o w next).letters ≡ w.letters
  quiet_unless None w next e = e
  quiet_unless (Some r) w next e = refl

  -- a step that sends no letter
  pub quiet_after : (w : WorldState Q) (st : Step Q) (n : ℕ) (c : Act Q) → meant w st ≡ Some (record { name = n; act = c }) → sends c ≡ false → (after s w st).letters ≡ w.letters
  unfolding after
  quiet_after w st n c means quiet =
      quiet_unless (refusal s w st) w (turn w st).world (ap (λ t. t.world.letters) (step_turn w st n c means) ∙ quiet_at w n c (node_at w n) quiet)

  -- a step that means a change of a node, where there are the nodes alone
  module _ (w : WorldState Q) (st : Step Q) (n : ℕ) (c : Act Q) (means : (v : WorldState Q) → meant v st ≡ Some (record { name = n; act = c })) where
    pub bare_after : bare (after s (bare w) st) ≡ bare (after s w st)
    bare_after = same_after w [] [] [] st st (means (bare w) ∙ sym (means w))

    pub bare_refusal : refusal s (bare w) st ≡ refusal s w st
    bare_refusal = step_refusal (bare w) st n c (means (bare w)) s ∙ sym (step_refusal w st n c (means w) s)

    -- what is told of one that sends no letter
    pub bare_result : sends c ≡ false → result_of (refusal s (bare w) st) (bare w) st ≡ result_of (refusal s w st) w st
    bare_result quiet =
        same_result (refusal s (bare w) st) (bare w) w st st
        (ap (λ t. t.effect) (step_turn (bare w) st n c (means (bare w))) ∙ same_effect w n c (node_at w n) quiet ∙ ap (λ t. t.effect) (sym (step_turn w st n c (means w))))
        ∙ ap (λ o. result_of o w st) bare_refusal

  module _ (founders : Q) where
    pub bare_first : (w : WorldState Q) → w ≡ first_world s founders → IsReachedBare s founders w
    unfolding first_world
    bare_first w first = ([], first ∙ ap bare (sym (run_none s founders)))

    -- a step that means a change of a node leads on
    pub bare_next : (st : Step Q) (n : ℕ) (c : Act Q) → ((v : WorldState Q) → meant v st ≡ Some (record { name = n; act = c }))
        → (w new : WorldState Q) → IsReachedBare s founders w → new ≡ bare (after s w st) → IsReachedBare s founders new
    bare_next st n c means w new reached e =
        let v = run s founders reached.0 in
        (reached.0 ++ st ∷ [], e ∙ ap (λ w. bare (after s w st)) reached.1 ∙ bare_after v st n c means ∙ ap bare (sym (run-after s founders reached.0 st)))

  -- a node there has the name that it is found by
  pub bare_named : (founders : Q) (w : WorldState Q) → IsReachedBare s founders w → (n : ℕ) (x : NodeState Q) → node_at w n ≡ Some x → x.name ≡ n
  bare_named founders w reached n x found = node_named s founders reached.0 n x (ap (λ w. node_at w n) (sym reached.1) ∙ found)

  -- the letters that are sent in a step
  abbrev sent_in : Option Refusal → Option (NodeState Q) → ℕ → List (LetterState Q)
  sent_in (Some r) o to = []
  sent_in None None to = []
  sent_in None (Some x) to = letter_for x to ∷ []

  sent_unless : (o : Option Refusal) (w : WorldState Q) (from to : ℕ) (x : Option (NodeState Q))
      → (unless_refused o w (turn_at w from x (act.Send to)).world).letters ≡ w.letters ++ sent_in o x to
  unfolding made_by
  sent_unless (Some r) w from to x = sym (append-nil w.letters)
  sent_unless None w from to None = sym (append-nil w.letters)
  sent_unless None w from to (Some x) = refl

  send_letters : (w : WorldState Q) (from to : ℕ) → (after s w (step.Send from to)).letters ≡ w.letters ++ sent_in (refusal s w (step.Send from to)) (node_at w from) to
  unfolding after turn
  send_letters w from to = sent_unless (refusal s w (step.Send from to)) w from to (node_at w from)

  pub run_two : (w : WorldState Q) (one two : Step Q) → run_from s w (one ∷ two ∷ []) ≡ after s (after s w one) two
  unfolding run_from
  run_two w one two = refl

  -- the letter that is sent comes, whatever is beside the nodes
  pub same_passing : (w : WorldState Q) (from to : ℕ) → passed s (bare w) from to ≡ bare (after s (after s w (step.Send from to)) (step.Deliver (suc (length w.letters))))
  same_passing w from to =
      let one = step.Send from to in
      let a = after s w one in
      let b = after s (bare w) one in
      let same : bare b ≡ bare a = same_after w [] [] [] one one refl in
      let is : b ≡ beside a b.letters b.history b.marks = ap (λ z. beside z b.letters b.history b.marks) same in
      let new = sent_in (refusal s w one) (node_at w from) to in
      let first : slice_get b.letters 0 ≡ slice_get new 0 =
      ap (λ ls. slice_get ls 0) (send_letters (bare w) from to ∙ ap (λ o. sent_in o (node_at w from) to) (bare_refusal w one from (act.Send to) (λ v. refl))) in
      let last : slice_get a.letters (length w.letters) ≡ slice_get new 0 =
      ap (λ ls. slice_get ls (length w.letters)) (send_letters w from to) ∙ slice_get-behind w.letters new in
      ap bare (run_two (bare w) one (step.Deliver 1))
      ∙ ap (λ z. bare (after s z (step.Deliver 1))) is
      ∙ same_after a b.letters b.history b.marks (step.Deliver (suc (length w.letters))) (step.Deliver 1) (ap delivery (first ∙ sym last))

  -- a letter that comes is no more
  came_silent : (w : WorldState Q) (o : Option (LetterState Q)) → (turn_of w (delivery o)).world.letters ≡ w.letters
  came_silent w None = refl
  came_silent w (Some l) = quiet_at w l.addressee (act.Hear l) (node_at w l.addressee) refl

  deliver_silent : (w : WorldState Q) (number : ℕ) → (after s w (step.Deliver number)).letters ≡ w.letters
  unfolding after turn
  deliver_silent w number = quiet_unless (refusal s w (step.Deliver number)) w (turn w (step.Deliver number)).world (came_silent w (letter_at w.letters number))

  one_sent : (w : WorldState Q) (o : Option (NodeState Q)) (to : ℕ) → least (causes_at s o (act.Send to)) ≡ None → length (w.letters ++ sent_in None o to) ≡ length w.letters + 1
  one_sent w None to e = absurd (false≢true (ap is_some (sym e)))
  one_sent w (Some x) to e = length_push w.letters (letter_for x to)

  -- and one is sent where it passes
  pub passed_letters : (w : WorldState Q) (from to number : ℕ) → refusal s w (step.Send from to) ≡ None
      → length (after s (after s w (step.Send from to)) (step.Deliver number)).letters ≡ length w.letters + 1
  unfolding refusal causes
  passed_letters w from to number e =
      ap length (deliver_silent (after s w (step.Send from to)) number ∙ send_letters w from to ∙ ap (λ o. w.letters ++ sent_in o (node_at w from) to) e)
      ∙ one_sent w (node_at w from) to e

  -- a letter that passes leads on
  pub bare_passed : (founders : Q) (w new : WorldState Q) (from to : ℕ) → IsReachedBare s founders w → new ≡ passed s w from to → IsReachedBare s founders new
  bare_passed founders w new from to reached e =
      let v = run s founders reached.0 in
      let one = step.Send from to in
      let two = step.Deliver (suc (length v.letters)) in (
        (reached.0 ++ one ∷ []) ++ two ∷ [],
        e ∙ ap (λ w. passed s w from to) reached.1 ∙ same_passing v from to
            ∙ ap bare (ap (λ w. after s w two) (sym (run-after s founders reached.0 one)) ∙ sym (run-after s founders (reached.0 ++ one ∷ []) two)),
      )

  -- no letter comes where there is none
  no_letter : (w : WorldState Q) → w.letters ≡ [] → refusal s w (step.Deliver 1) ≡ Some NoSuchLetter
  no_letter w none = deliver_refusal s w 1 ∙ ap (λ ls. least (causes_of s w (delivery (letter_at ls 1)))) none

  -- who sends a letter stays as it is
  stays_at : (w : WorldState Q) (n : ℕ) (x : NodeState Q) → node_at w n ≡ Some x → slice_set w.nodes (n - 1) x ≡ w.nodes
  stays_at w zero x e = absurd (false≢true (ap is_some e))
  stays_at w (suc i) x e =
      let place : suc i - 1 ≡ i = omega arith in
      ap (λ j. slice_set w.nodes j x) place
      ∙ ap (slice_set w.nodes i) (sym (get_or_from_slice_get w.nodes i x x e)) ∙ set-get_or w.nodes i x

  send_at : (w : WorldState Q) (from to : ℕ) (o : Option (NodeState Q)) → node_at w from ≡ o → bare (turn_at w from o (act.Send to)).world ≡ bare w
  unfolding made_by
  send_at w from to None e = refl
  send_at w from to (Some x) e = λ i. record { nodes = stays_at w from x e i; letters = []; history = []; marks = [] }

  kept_unless : (o : Option Refusal) (w next : WorldState Q) → bare next ≡ bare w → bare (unless_refused o w next) ≡ bare w
  kept_unless None w next e = e
  kept_unless (Some r) w next e = refl

  sent_bare : (w : WorldState Q) (from to : ℕ) → bare (after s w (step.Send from to)) ≡ bare w
  unfolding after turn
  sent_bare w from to =
      kept_unless (refusal s w (step.Send from to)) w (turn_at w from (node_at w from) (act.Send to)).world (send_at w from to (node_at w from) refl)

  -- a letter that doesn't pass leaves the nodes as they are
  pub unpassed : (w : WorldState Q) (from to : ℕ) (r : Refusal) → w.letters ≡ [] → pass_refusal s w from to ≡ Some r → passed s w from to ≡ bare w
  unpassed w from to r none e =
      let one = step.Send from to in
      ap bare (run_two w one (step.Deliver 1))
      ∙ elim (refusal s w one) as (λ o. refusal s w one ≡ o → first_of o (refusal s (after s w one) (step.Deliver 1)) ≡ Some r → bare (after s (after s w one) (step.Deliver 1)) ≡ bare w) [
        | None ↦ λ is refused. ap bare (after-refused s (after s w one) (step.Deliver 1) r refused) ∙ sent_bare w from to
        | Some q ↦ λ is refused. ap (λ z. bare (after s z (step.Deliver 1))) (after-refused s w one q is)
            ∙ ap bare (after-refused s w (step.Deliver 1) NoSuchLetter (no_letter w none))
      ] refl e
