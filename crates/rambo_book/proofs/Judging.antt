-- What a keeper's node says of a step is what the run of the book says
use Rattle.std.proofs.Common.{◌≡◌, ℕ, List, [], ◌∷◌, ◌++◌, length, ◌≤◌, Option, None, Some, is_some, slice_set, ◌-◌, refl, sym, ap, ◌∙◌, subst}
use Rattle.std.proofs.lemmas.Bool.{true≢false}
use mathlib.Core.List.{IsPrefix}
use Rattle.rambo_names.specs.Quorums.{QuorumSystem}
use Rattle.rambo_names.specs.Refusals.{least}
use Rattle.rambo_history.specs.declared.event.Event.{Event}
use Rattle.rambo_history.specs.Faults.{fault_of}
use Rattle.rambo_gossip.specs.Letters.{LetterState}
use Rattle.rambo_gossip.specs.Kinds.{Kind}
use Rattle.rambo_gossip.specs.Kinds as kind
use Rattle.rambo_gossip.specs.Short.{copies_in}
use Rattle.rambo_tag.specs.Copies.{joined}
use Rattle.rambo_tag.proofs.Joins.{joined-empty, joined-again}
use Rattle.rambo_node.specs.Acts.{Act, Meant, delivery}
use Rattle.rambo_node.specs.Changes.{made_by}
use Rattle.rambo_node.specs.Hearing.{heard_kind, heard_join, heard_gossip}
use Rattle.rambo_node.specs.FullNodes.{FullNode, full_after}
use Rattle.rambo_node.specs.Nodes.{NodeState}
use Rattle.rambo_node.specs.Acts as act
use Rattle.rambo_node.specs.Steps.{Step}
use Rattle.rambo_node.specs.declared.step.StepOf.TheVariants as step
use Rattle.rambo_run.specs.Worlds.{WorldState, node_at, copies_of, held_by, letter_at}
use Rattle.rambo_run.specs.Steps.{meant, meant_in, causes_at, causes_of, causes, refusal, with_letter, with_event, with_mark, Turn, turn_by, turn_at, turn_of, turn}
use Rattle.rambo_run.specs.Runs.{run}
use Rattle.rambo_run.specs.Legal.{IsLegal}
use Rattle.rambo_run.specs.Actors.{actor}
use Rattle.rambo_run.proofs.Lists.{some_inj, Member, member_last}
use Rattle.rambo_run.proofs.Replays.{own_put}
use Rattle.rambo_run.proofs.GoingOn.{run-more}
use Rattle.rambo_run.specs.Chronicles.{IsMarked}
use Rattle.rambo_run.proofs.Fitting.{marks_told}
use Rattle.rambo_run.proofs.Legal.{legal-more, events_fit_run}
use Rattle.rambo_run.proofs.Actors.{acts, addressees}
use Rattle.rambo_deltas.specs.Deltas.{full_at}
use Rattle.rambo_roll.specs.Rolls.{Idle}
use Rattle.rambo_sequence.specs.declared.mark.Mark.{Mark}
use Rattle.rambo_mail.specs.declared.mail.Mail.{Mail}
use Rattle.rambo_book.specs.Done.{Done, done}
use Rattle.rambo_node.specs.Halves.{judged}
use Rattle.rambo_book.specs.Kept.{AreSent, IsKeeper, IsServedBy}
use Rattle.rambo_book.proofs.Whole.{IsWhole}
use Rattle.rambo_book.proofs.Idle.{idle_node, idle_full, full-more}
use Rattle.rambo_book.proofs.Standing.{Alike, GoesFor, alike, sent_more, done_counts, mail_longer, letter-left, IsHeard}

pub judge_of : {Q : Type 0} (s : QuorumSystem Q) (w : WorldState Q) (x : NodeState Q) (name : ℕ) (o : Option (Meant Q)) → node_at w name ≡ Some x → ((m : Meant Q) → o ≡ Some m → m.name ≡ name)
    → least (causes_of s w o) ≡ judged s x o
judge_of s w x name None here served = refl
judge_of s w x name (Some m) here served = ap (λ o. least (causes_at s o m.act)) (ap (node_at w) (served m refl) ∙ here)

pub refusal_is : {Q : Type 0} (s : QuorumSystem Q) (w : WorldState Q) (st : Step Q) → refusal s w st ≡ least (causes_of s w (meant w st))
unfolding refusal causes
refusal_is s w st = refl

-- the keeper's node is the one of the book's run, and so it judges as that says, and makes of the kept letters what it
-- would make of those that were sent
pub record Judged {Q : Type 0} (s : QuorumSystem Q) (f : Q) (steps : List (Step Q)) (st : Step Q) (name : ℕ) (node : NodeState Q) (letters : List (LetterState Q)) : Type 0 where
  pub here : node_at (run s f steps) name ≡ Some node
  pub verdict : refusal s (run s f steps) st ≡ judged s node (meant_in letters st)
  pub same : Alike s node (meant_in letters st) (meant (run s f steps) st)

module _ {Q : Type 0} (s : QuorumSystem Q) (agreed : Option Q) (most : ℕ) (rolled : List (Step Q)) (f : Q) (steps : List (Step Q)) (letters : List (LetterState Q)) (history : List Event) (marks : List Mark) (capacity : ℕ)
    (holds name : ℕ) (node : FullNode Q) (tray : List (Mail Q)) (seen : List (Step Q))
    (b : IsWhole s agreed most rolled f steps letters history marks capacity) (k : IsKeeper s agreed most holds name node tray seen) (idle : Idle actor holds seen rolled) where
  legal_rolled : IsLegal s f rolled
  legal_rolled = subst (IsLegal s f) (sym b.all) b.legal

  pub still : node_at (run s f steps) name ≡ Some node.state
  still =
      ap (λ l. node_at (run s f l) name) (sym b.all)
      ∙ ap (node_at (run s f rolled)) (sym k.named)
      ∙ idle_node s f holds seen rolled legal_rolled idle
      ∙ ap (node_at (run s f seen)) k.named
      ∙ k.replays f b.founded

  pub still_full : full_at s f steps name ≡ node
  still_full =
      ap (λ l. full_at s f l name) (sym b.all)
      ∙ ap (full_at s f rolled) (sym k.named)
      ∙ idle_full s f holds seen rolled legal_rolled idle
      ∙ ap (full_at s f seen) k.named
      ∙ k.full f b.founded

  pub judged_by : (st : Step Q) → IsServedBy (run s f steps) st name → Judged s f steps st name node.state letters
  judged_by st served =
      let w = run s f steps in
      let same : Alike s node.state (meant_in letters st) (meant w st) = alike s w letters name node.state st b.sent still served in
      record {
        here = still;
        verdict = refusal_is s w st ∙ judge_of s w node.state name (meant w st) still served ∙ sym same.judges;
        same = same;
      }

  pub begun : IsPrefix seen steps
  begun = (idle.0, idle.1 ∙ b.all)

pub some_meant : {Q : Type 0} (s : QuorumSystem Q) (x : NodeState Q) (o : Option (Meant Q)) → judged s x o ≡ None → (m : Meant Q) × (o ≡ Some m)
some_meant s x None e = absurd (true≢false (ap is_some e))
some_meant s x (Some m) e = (m, refl)

-- what holds once the step is done
pub record Finished {Q : Type 0} (s : QuorumSystem Q) (f : Q) (steps : List (Step Q)) (st : Step Q) (name : ℕ) (letters : List (LetterState Q)) (history : List Event) (marks : List Mark) (new : FullNode Q) (d : Done Q) : Type 0 where
  pub accepted : refusal s (run s f steps) st ≡ None
  pub legal : IsLegal s f (steps ++ st ∷ [])
  pub sent : AreSent (run s f (steps ++ st ∷ [])) (with_letter letters d.letter)
  pub told : with_event history d.event ≡ (run s f (steps ++ st ∷ [])).history
  pub marked : with_mark marks d.mark ≡ (run s f (steps ++ st ∷ [])).marks
  pub fits : (e : Event) → d.event ≡ Some e → fault_of history e ≡ None
  pub shows : (m : Mark) → d.mark ≡ Some m → IsMarked (with_event history d.event) m
  pub effect : d.effect ≡ (turn (run s f steps) st).effect
  pub node : node_at (run s f (steps ++ st ∷ [])) name ≡ Some new.state
  pub full : full_at s f (steps ++ st ∷ []) name ≡ new
  pub acts : actor steps st ≡ name
  pub heard : (n : ℕ) (whole : LetterState Q) → st ≡ step.Deliver n → letter_at (run s f (steps ++ st ∷ [])).letters n ≡ Some whole → IsHeard (run s f (steps ++ st ∷ [])) whole

-- what is delivered is a letter that was sent
delivered_letter : {Q : Type 0} (o : Option (LetterState Q)) (m : Meant Q) → delivery o ≡ Some m → (l : LetterState Q) × (o ≡ Some l) × (record { name = l.addressee; act = act.Hear l } ≡ m)
delivered_letter None m e = absurd (true≢false (sym (ap is_some e)))
delivered_letter (Some l) m e = (l, refl, some_inj _ m e)

-- its addressee then holds its copies
heard_joined : {Q : Type 0} (x : NodeState Q) (j : ℕ) (k : Kind Q) → (heard_kind x j k).registers ≡ joined x.registers (copies_in k)
unfolding heard_join heard_gossip
heard_joined x j kind.Join = sym (joined-empty x.registers)
heard_joined x j (kind.Gossip g) = refl

pub made_joined : {Q : Type 0} (x : NodeState Q) (l : LetterState Q) → (made_by x (act.Hear l)).node.registers ≡ joined x.registers (copies_in l.kind)
unfolding made_by
made_joined x l = heard_joined x l.sender l.kind

holds_heard : {Q : Type 0} (x new : NodeState Q) (l : LetterState Q) → new ≡ (made_by x (act.Hear l)).node → joined new.registers (copies_in l.kind) ≡ new.registers
holds_heard x new l is =
    let e : new.registers ≡ joined x.registers (copies_in l.kind) = ap (λ x. x.registers) is ∙ made_joined x l in
    ap (λ r. joined r (copies_in l.kind)) e ∙ joined-again x.registers (copies_in l.kind) ∙ sym e

turn_is : {Q : Type 0} (w : WorldState Q) (st : Step Q) (m : Meant Q) (x : NodeState Q) → meant w st ≡ Some m → node_at w m.name ≡ Some x → turn w st ≡ turn_by w m.name (made_by x m.act)
unfolding turn
turn_is w st m x means there = ap (turn_of w) means ∙ ap (λ o. turn_at w m.name o m.act) there

state_after : {Q : Type 0} (v : FullNode Q) (c : Act Q) → (full_after v c).state ≡ (made_by v.state c).node
unfolding full_after
state_after v c = refl

module _ {Q : Type 0} (s : QuorumSystem Q) (f : Q) (steps : List (Step Q)) (st : Step Q) (name : ℕ) (node : FullNode Q) (letters : List (LetterState Q)) (history : List Event) (marks : List Mark) (new : FullNode Q) (d : Done Q) where
  pub finished : node_at (run s f steps) name ≡ Some node.state → full_at s f steps name ≡ node → (c : Act Q) → meant (run s f steps) st ≡ Some (record { name = name; act = c }) → refusal s (run s f steps) st ≡ None → IsLegal s f steps
      → AreSent (run s f steps) letters → history ≡ (run s f steps).history → marks ≡ (run s f steps).marks
      → new ≡ full_after node c → d ≡ record (done letters (made_by node.state c)) { letter = d.letter } → GoesFor (run s f (steps ++ st ∷ [])) d.letter (made_by node.state c).letter
      → Finished s f steps st name letters history marks new d
  finished here whole c means accepted legal sent told marked after did goes =
      let w = run s f steps in
      let m : Meant Q = record { name = name; act = c } in
      let x = node.state in
      let made = made_by x c in
      let state : new.state ≡ made.node = ap (λ (v : FullNode Q). v.state) after ∙ state_after node c in
      let t : turn w st ≡ turn_by w name made = turn_is w st m x means here in
      let e : d ≡ record (done w.letters made) { letter = d.letter } = did ∙ ap (λ (m : Done Q). record m { letter = d.letter }) (done_counts letters w.letters made sent.0) in
      let more : run s f (steps ++ st ∷ []) ≡ (turn w st).world = run-more s f steps st accepted in
      let nodes : (turn w st).world.nodes ≡ slice_set w.nodes (name - 1) made.node = ap (λ (t : Turn _). t.world.nodes) t in
      let list : (run s f (steps ++ st ∷ [])).letters ≡ with_letter w.letters made.letter = ap (λ (w : WorldState _). w.letters) more ∙ ap (λ (t : Turn _). t.world.letters) t in
      let there_after : node_at (run s f (steps ++ st ∷ [])) name ≡ Some new.state =
      ap (λ w. node_at w name) more ∙ own_put w (turn w st).world name x made.node here nodes ∙ ap Some (sym state) in
      let told_on : with_event history d.event ≡ (run s f (steps ++ st ∷ [])).history =
      ap (λ es. with_event es d.event) told ∙ ap (λ (d : Done _). with_event w.history d.event) e ∙ sym (ap (λ (t : Turn _). t.world.history) t) ∙ sym (ap (λ (w : WorldState _). w.history) more) in
      let marked_on : with_mark marks d.mark ≡ (run s f (steps ++ st ∷ [])).marks =
      ap (λ ms. with_mark ms d.mark) marked ∙ ap (λ (d : Done _). with_mark w.marks d.mark) e ∙ sym (ap (λ (t : Turn _). t.world.marks) t) ∙ sym (ap (λ (w : WorldState _). w.marks) more) in
      record {
        accepted = accepted;
        legal = legal-more s f steps st legal accepted;
        sent = sent_more s f steps (steps ++ st ∷ []) (st ∷ [], refl) letters d.letter made.letter sent list goes;
        told = told_on;
        marked = marked_on;
        fits = λ v is.
            let grown : (turn w st).world.history ≡ w.history ++ v ∷ [] = ap (λ (t : Turn _). t.world.history) t ∙ ap (with_event w.history) (sym (ap (λ (d : Done _). d.event) e) ∙ is) in
            ap (λ h. fault_of h v) told ∙ events_fit_run s f steps st v accepted grown;
        shows = λ m is.
            let there : Member m (run s f (steps ++ st ∷ [])).marks = subst (Member m) (sym (ap (with_mark marks) is) ∙ marked_on) (member_last m marks) in
            subst (λ h. IsMarked h m) (sym told_on) (marks_told s f (steps ++ st ∷ []) m there);
        effect = ap (λ (d : Done _). d.effect) e ∙ sym (ap (λ (t : Turn _). t.effect) t);
        node = there_after;
        full = full-more s f steps st name c means accepted ∙ ap (λ v. full_after v c) whole ∙ sym after;
        acts = acts steps w st m (addressees s f steps legal) means;
        heard = λ n whole is there.
            let it = delivered_letter (letter_at w.letters n) m (ap (meant w) (sym is) ∙ means) in
            let same : it.0 ≡ whole = some_inj it.0 whole (sym (letter-left s f steps (steps ++ st ∷ []) (st ∷ [], refl) n it.0 it.1) ∙ there) in
            let to : whole.addressee ≡ name = ap (λ (l : LetterState _). l.addressee) (sym same) ∙ ap (λ (m : Meant _). m.name) it.2 in
            let after_it : new.state ≡ (made_by x (act.Hear whole)).node =
            state ∙ ap (λ (m : Meant _). (made_by x m.act).node) (sym it.2) ∙ ap (λ l. (made_by x (act.Hear l)).node) same in
            let held : held_by (run s f (steps ++ st ∷ [])) whole.addressee ≡ new.state.registers = ap (held_by (run s f (steps ++ st ∷ []))) to ∙ ap copies_of there_after in
            subst (λ r. joined r (copies_in whole.kind) ≡ r) (sym held) (holds_heard x new.state whole after_it);
      }

-- a keeper that has seen more, whose node is that of what it has seen
pub kept_on : {Q : Type 0} (s : QuorumSystem Q) (agreed : Option Q) (most : ℕ) (f : Q) (holds held name : ℕ) (node new : FullNode Q) (tray : List (Mail Q)) (seen longer : List (Step Q))
    → agreed ≡ Some f → IsKeeper s agreed most holds name node tray seen → held ≡ holds → IsPrefix seen longer → IsLegal s f longer → length longer ≤ most → node_at (run s f longer) name ≡ Some new.state → full_at s f longer name ≡ new → IsKeeper s agreed most held name new tray longer
kept_on s agreed most f holds held name node new tray seen longer founded k same p legal fits there whole = record {
  named = same ∙ k.named;
  legal = λ g e. subst (λ g. IsLegal s g longer) (some_inj f g (sym founded ∙ e)) legal;
  fits = fits;
  replays = λ g e. subst (λ g. node_at (run s g longer) name ≡ Some new.state) (some_inj f g (sym founded ∙ e)) there;
  full = λ g e. subst (λ g. full_at s g longer name ≡ new) (some_inj f g (sym founded ∙ e)) whole;
  mail = λ g e. mail_longer s g seen longer p name tray (k.mail g e);
}
