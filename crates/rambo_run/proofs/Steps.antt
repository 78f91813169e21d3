-- What a step that isn't refused means for letters, and what its causes say
use Rattle.std.proofs.Common.{◌≡◌, ℕ, zero, suc, ◌+◌, ◌⊎◌, Bool, true, false, not, ◌&&◌, if◌then◌else◌, nat_lt, List, [], ◌∷◌, ◌++◌, length, Option, Some, None, is_none, refl, sym, ap, ◌∙◌, inl, inr, ⊎_elim, arith, true≢false}
use Rattle.rambo_names.specs.Quorums.{QuorumSystem}
use Rattle.rambo_names.specs.Refusals.{Cause, least}
use Rattle.rambo_config_map.specs.Maps.{MapState}
use Rattle.rambo_gc.specs.declared.gc_move.GcMove.{GcMove}
use Rattle.rambo_gc.specs.declared.gc_move.GcMove.TheVariants.{Done}
use Rattle.rambo_gc.specs.Collections.{CollectionState, is_met, next_move, move_of}
use Rattle.rambo_gossip.specs.Letters.{LetterState}
use Rattle.rambo_gossip.specs.Gossips.{GossipState}
use Rattle.rambo_gossip.specs.Kinds.{Kind}
use Rattle.rambo_gossip.specs.Kinds as kind
use Rattle.rambo_node.specs.Acts.{Act, delivery}
use Rattle.rambo_node.specs.Changes.{made_by}
use Rattle.rambo_node.specs.Nodes.{NodeState}
use Rattle.rambo_node.specs.Letters.{letter_for}
use Rattle.rambo_node.specs.Reconfigurations.{collection_move}
use Rattle.rambo_node.specs.Acts as act
use Rattle.rambo_node.specs.Steps.{Step}
use Rattle.rambo_node.specs.declared.step.StepOf.TheVariants as step
use Rattle.rambo_run.specs.Worlds.{WorldState, node_at, letter_at}
use Rattle.rambo_run.specs.Steps.{sends, with_letter, turn_by, turn_at, turn_of, turn}
use Rattle.rambo_run.proofs.Lists.{pick, some_inj, none-some, get_more}
use Rattle.rambo_run.proofs.Unsent.{unsent}

-- no cause holds
abbrev pub AllClear : List Cause → Type 0
AllClear [] = Unit {0}
AllClear (c ∷ cs) = (c.holds ≡ false) × AllClear cs

pub clear : (cs : List Cause) → least cs ≡ None → AllClear cs
clear [] e = tt
clear (c ∷ cs) e = elim (pick c.holds (Some c.refusal) (least cs)) [ inl p ↦ absurd (none-some c.refusal (sym e ∙ p.1)) | inr p ↦ (p.0, clear cs (sym p.1 ∙ e)) ]

-- a letter in a list that one was put to: an old one, or the last
pub letter_more : {Q : Type 0} (ls : List (LetterState Q)) (a b : LetterState Q) (i : ℕ) → letter_at (ls ++ a ∷ []) i ≡ Some b → (letter_at ls i ≡ Some b) ⊎ ((i ≡ length ls + 1) × (a ≡ b))
letter_more ls a b zero e = absurd (none-some b e)
letter_more ls a b (suc i) e = ⊎_elim inl (λ r. inr (omega (arith, r.0), r.1)) (get_more ls a b i e)

abbrev pub gossip_in : {Q : Type 0} → GossipState Q → Kind Q → GossipState Q
gossip_in g kind.Join = g
gossip_in g (kind.Gossip h) = h

abbrev pub is_gossip : {Q : Type 0} → Kind Q → Bool
is_gossip kind.Join = false
is_gossip (kind.Gossip g) = true

-- the letters after a step: one more if a node sends it
abbrev pub OneMore : {Q : Type 0} → WorldState Q → Step Q → WorldState Q → Type 0
OneMore {Q} w st z = (z.letters ≡ w.letters) ⊎ ((n : ℕ) × (to : ℕ) × (x : NodeState Q) × (node_at w n ≡ Some x) × (st ≡ step.Send n to) × (z.letters ≡ w.letters ++ letter_for x to ∷ []))

pub letters_by : {Q : Type 0} (w : WorldState Q) (n : ℕ) (x : NodeState Q) (c : Act Q) → sends c ≡ false → (turn_by w n (made_by x c)).world.letters ≡ w.letters
letters_by w n x c h = ap (with_letter w.letters) (unsent x c h)

pub letters_at : {Q : Type 0} (w : WorldState Q) (n : ℕ) (c : Act Q) → sends c ≡ false → (o : Option (NodeState Q)) → (turn_at w n o c).world.letters ≡ w.letters
letters_at w n c h None = refl
letters_at w n c h (Some x) = letters_by w n x c h

pub letters_delivered : {Q : Type 0} (w : WorldState Q) (o : Option (LetterState Q)) → (turn_of w (delivery o)).world.letters ≡ w.letters
letters_delivered w None = refl
letters_delivered w (Some l) = letters_at w l.addressee (act.Hear l) refl (node_at w l.addressee)

pub letters_sent : {Q : Type 0} (w : WorldState Q) (n to : ℕ) (o : Option (NodeState Q)) → node_at w n ≡ o → OneMore w (step.Send n to) (turn_at w n o (act.Send to)).world
unfolding made_by
letters_sent w n to None h = inl refl
letters_sent w n to (Some x) h = inr (n, to, x, h, refl, refl)

pub letters_after : {Q : Type 0} (w : WorldState Q) (st : Step Q) → OneMore w st (turn w st).world
unfolding turn
letters_after w (step.Send n to) = letters_sent w n to (node_at w n) refl
letters_after w (step.Deliver i) = inl (letters_delivered w (letter_at w.letters i))
letters_after w st = inl (letters_at w _ _ refl (node_at w _))

pub some_there : {A : Type 0} (o : Option A) → is_none o ≡ false → (a : A) × (o ≡ Some a)
some_there None e = absurd (true≢false e)
some_there (Some a) e = (a, refl)

pub neither_not : (a b : Bool) → a ≡ false → (not a && not b) ≡ false → b ≡ true
neither_not true b e h = absurd (true≢false e)
neither_not false true e h = refl
neither_not false false e h = absurd (true≢false h)

-- what an advance of a collection does that isn't refused
pub same_move : {Q : Type 0} (s : QuorumSystem Q) (m : MapState Q) (g : CollectionState) (move : GcMove) → move_of s m g ≡ Some move → collection_move m g ≡ move
same_move s m g move e = go (nat_lt g.place m.floor) (is_met s m g) e
  where
    go : (b c : Bool) → (if b then Some Done else (if c then Some (next_move g.stage) else None)) ≡ Some move → (if b then Done else next_move g.stage) ≡ move
    go true c h = some_inj Done move h
    go false true h = some_inj (next_move g.stage) move h
    go false false h = absurd (none-some move h)
