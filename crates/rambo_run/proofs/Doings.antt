-- A step that isn't refused is a turn of what is seen
use Rattle.std.proofs.Common.{◌≡◌, ℕ, suc, ◌+◌, ◌≤◌, Bool, true, false, not, ◌&&◌, if◌then◌else◌, nat_eq, nat_lt, [], ◌∷◌, ◌++◌, length, Option, Some, None, is_none, refl, sym, ap, ◌∙◌, subst, inl, inr, arith, eqb-true, ltb-true, ltb-false, leb-false, true≢false}
use Rattle.std.proofs.lemmas.Bool.{not-false}
use Rattle.rambo_names.specs.Quorums.{QuorumSystem}
use Rattle.rambo_history.specs.declared.event.CallId.{CallId}
use Rattle.rambo_history.specs.declared.event.Event.TheVariants as event
use Rattle.rambo_history.specs.declared.operation.Op.{Op}
use Rattle.rambo_config_map.specs.Maps.{active_at, end_of, top_of}
use Rattle.rambo_gc.specs.declared.gc_move.GcMove.{GcMove}
use Rattle.rambo_gc.specs.declared.gc_move.GcMove.TheVariants.{Propagating, Done}
use Rattle.rambo_gc.specs.Collections.{CollectionState, has_quorum, move_of}
use Rattle.rambo_paxos.specs.declared.stage.Stage as paxos
use Rattle.rambo_paxos.specs.declared.stage.Stage.TheVariants as attempt
use Rattle.rambo_paxos.specs.Attempts.{AttemptState, bid_in, bid_of}
use Rattle.rambo_phase.specs.Phases.{is_met as is_phase_met}
use Rattle.rambo_joiner.specs.Statuses.{is_active}
use Rattle.rambo_gossip.specs.Letters.{LetterState}
use Rattle.rambo_gossip.specs.Gossips.{GossipState}
use Rattle.rambo_gossip.specs.Kinds.{Kind}
use Rattle.rambo_gossip.specs.Kinds as kind
use Rattle.rambo_calls.specs.declared.stage.Stage.{Stage}
use Rattle.rambo_calls.specs.declared.stage.Stage.TheVariants.{Query, Propagation}
use Rattle.rambo_node.specs.Acts.{Act, Meant, delivery}
use Rattle.rambo_calls.specs.Calls.{CallState, propagates, kept_in, is_unmet}
use Rattle.rambo_node.specs.Changes as node
use Rattle.rambo_node.specs.Changes.{set_mark, get_mark, quieted, quiet_causes, alone, stage_met, advanced, begun_again, collection_turned, collection_advanced, rebid_made, decided, bid_made, attempt_advanced, made_by}
use Rattle.rambo_node.specs.Nodes.{NodeState, open_call}
use Rattle.rambo_node.specs.Letters.{gossip_for}
use Rattle.rambo_node.specs.Hearing.{heard_kind, heard_join, heard_gossip}
use Rattle.rambo_node.specs.Operations.{called, taken, query_answered, call_closed, answer_of, called_again, joined_by, stopped}
use Rattle.rambo_node.specs.Refusals.{collection_turn}
use Rattle.rambo_bids.specs.Wishes.{is_for, attempt_waits}
use Rattle.rambo_node.specs.Reconfigurations.{attempt_opened, attempt_rebid, attempt_moved, config_learnt, attempt_ended, collection_opened, collection_moved, collection_ended}
use Rattle.rambo_node.specs.Acts as act
use Rattle.rambo_node.specs.declared.prepared.Quiet.{Quiet}
use Rattle.rambo_node.specs.declared.prepared.Quiet.TheVariants as quiet
use Rattle.rambo_node.specs.Steps.{Step}
use Rattle.rambo_node.specs.declared.step.StepOf.TheVariants as step
use Rattle.rambo_run.specs.Worlds.{WorldState, node_at, letter_at}
use Rattle.rambo_run.specs.Steps.{meant, causes_at, causes_of, causes, refusal, with_mark, turn_by, turn_at, turn_of, turn}
use Rattle.rambo_run.proofs.Lists.{pick, Member}
use Rattle.rambo_run.proofs.Deeds.{id_of, with_set, open_member, put_self}
use Rattle.rambo_run.proofs.Turn.{Moments, Telling, IsBacked, Alters, collects, seconds, finishes, opens, rebids, proposes, chooses, gives_up, Turn, knows, hears, agains, alters}
use Rattle.rambo_run.proofs.Altering.{altered_rest}
use Rattle.rambo_run.proofs.Seen.{Seen, seen_at, seen, seen_called, seen_queried, seen_answered, Keeps, keeps_same, keeps_hear, keeps_again, CopiesFrom, copies_same, copies_heard, WorldTurn, t_still, t_node, t_calls, t_queries, t_answers, named_some, seen_put}
use Rattle.rambo_run.proofs.Steps.{AllClear, clear, gossip_in, is_gossip, some_there, neither_not, same_move}
use Rattle.rambo_run.proofs.Sights.{Worlds, at as at_of, view as view_of, Happens as HappensIn, Came as CameIn, LetterFrom as LetterIn, Sound as SoundIn, To as ToIn, is_at as is_there}

module _ {Q : Type 0} (s : QuorumSystem Q) (founders : Q) (world : ℕ → WorldState Q) (worlds : Worlds s founders world) where
  abbrev at : Moments Q
  at m n = at_of s founders world worlds m n

  abbrev view : ℕ → Seen Q
  view m = view_of s founders world worlds m

  abbrev Happens : ℕ → Step Q → Type 0
  Happens m st = HappensIn s founders world worlds m st

  abbrev Came : Telling
  Came m n u j = CameIn s founders world worlds m n u j

  abbrev LetterFrom : ℕ → ℕ → LetterState Q → Type 0
  LetterFrom m i l = LetterIn s founders world worlds m i l

  abbrev Sound : ℕ → Type 0
  Sound m = SoundIn s founders world worlds m

  abbrev To : ℕ → WorldState Q → Type 0
  To m z = ToIn s founders world worlds m z

  is_at : (m n : ℕ) (x : NodeState Q) → node_at (world m) n ≡ Some x → x ≡ at m n
  is_at m n x e = is_there s founders world worlds m n x e

  node_done : (m n : ℕ) (x : NodeState Q) (f : NodeState Q → NodeState Q) → node_at (world m) n ≡ Some x → Turn s Came at m n (at m n) (f (at m n)) → Keeps (at m n) (f (at m n)) → CopiesFrom at m (at m n) (f (at m n))
      → To m (turn_by (world m) n (alone (f x))).world
  node_done m n x f h t k c =
      let z = (turn_by (world m) n (alone (f x))).world in
      let e : (k : ℕ) → seen_at s founders z k ≡ (if nat_eq k n then f (at m n) else at m k) =
      λ k. seen_put s founders (world m) z n x (f x) h refl k ∙ ap (λ x. if nat_eq k n then f x else at m k) (is_at m n x h) in
      t_node n (f (at m n)) t k c (λ i. record { node = λ k. e k i; history = (world m).history; marks = (world m).marks })

  call_done : (m n : ℕ) (o : Op) (x : NodeState Q) → (at m n).name ≡ n → node_at (world m) n ≡ Some x → To m (turn_by (world m) n (made_by x (act.Call o))).world
  unfolding made_by
  call_done m n o x named h =
      let z = (turn_by (world m) n (made_by x (act.Call o))).world in
      let a = is_at m n x h in
      let e : (k : ℕ) → seen_at s founders z k ≡ (if nat_eq k n then called (at m n) o else at m k) =
      λ k. seen_put s founders (world m) z n x (called x o) h refl k ∙ ap (λ x. if nat_eq k n then called x o else at m k) a in
      let history : z.history ≡ (seen_called (view m) n o).history =
      ap (λ x. (world m).history ++ event.Call (id_of x.name (x.made + 1)) o ∷ []) a ∙ ap (λ k. (world m).history ++ event.Call (id_of k ((at m n).made + 1)) o ∷ []) named in
      t_calls n o (λ i. record { node = λ k. e k i; history = history i; marks = (world m).marks })

  -- a call of a node that is met
  stage_done : (m n : ℕ) (x : NodeState Q) (id : CallId) (c : CallState Q) → node_at (world m) n ≡ Some x → Member c (at m n).calls → id ≡ id_of n c.number → is_phase_met s c.phase ≡ true → (g : Stage) → c.stage ≡ g
      → To m (turn_by (world m) n (stage_met x id c g)).world
  stage_done m n x id c h i d p Query q =
      let z = (turn_by (world m) n (stage_met x id c Query)).world in
      let a = is_at m n x h in
      let e : (k : ℕ) → seen_at s founders z k ≡ (if nat_eq k n then query_answered (at m n) c else at m k) =
      λ k. seen_put s founders (world m) z n x (query_answered x c) h refl k ∙ ap (λ x. if nat_eq k n then query_answered x c else at m k) a in
      let marks : z.marks ≡ (seen_queried (view m) n c).marks =
      ap (λ id. with_mark (world m).marks (set_mark id c.op (taken x c.op))) d ∙ ap (λ x. with_set (world m).marks n c.number c.op (taken x c.op)) a in
      t_queries n c i (ap propagates q) p (λ i. record { node = λ k. e k i; history = (world m).history; marks = marks i })
  stage_done m n x id c h i d p (Propagation kept) q =
      let z = (turn_by (world m) n (stage_met x id c (Propagation kept))).world in
      let a = is_at m n x h in
      let e : (k : ℕ) → seen_at s founders z k ≡ (if nat_eq k n then call_closed (at m n) c else at m k) =
      λ k. seen_put s founders (world m) z n x (call_closed x c) h refl k ∙ ap (λ x. if nat_eq k n then call_closed x c else at m k) a in
      let same : kept ≡ kept_in c.stage = sym (ap kept_in q) in
      let history : z.history ≡ (seen_answered (view m) n c).history = λ i. (world m).history ++ event.Answer (d i) (answer_of c.op (same i)) ∷ [] in
      let marks : z.marks ≡ (seen_answered (view m) n c).marks = λ i. with_mark (world m).marks (get_mark (d i) c.op (same i)) in
      t_answers n c i (ap propagates q) p (λ i. record { node = λ k. e k i; history = history i; marks = marks i })

  -- a call that a node's id finds
  found : (m n : ℕ) (x : NodeState Q) (id : CallId) → (at m n).name ≡ n → node_at (world m) n ≡ Some x → (c : CallState Q) → open_call x id ≡ Some c → Member c (at m n).calls × (id ≡ id_of n c.number)
  found m n x id named h c e =
      let a = is_at m n x h in
      open_member n (at m n) id c named (ap (λ x. open_call x id) (sym a) ∙ e)

  still_done : (m n : ℕ) (x : NodeState Q) → node_at (world m) n ≡ Some x → To m (turn_by (world m) n (alone x)).world
  still_done m n x h = t_still (λ i. seen s founders (record { nodes = put_self (world m) n x h i; letters = (world m).letters; history = (world m).history; marks = (world m).marks }))

  advance_done : (m n : ℕ) (x : NodeState Q) (id : CallId) → (at m n).name ≡ n → node_at (world m) n ≡ Some x → (o : Option (CallState Q)) → open_call x id ≡ o → is_unmet s o ≡ false → To m (turn_by (world m) n (advanced x id o)).world
  advance_done m n x id named h None e p = still_done m n x h
  advance_done m n x id named h (Some c) e p =
      let f = found m n x id named h c e in
      stage_done m n x id c h f.0 f.1 (not-false (is_phase_met s c.phase) p) c.stage refl

  again_done : (m n : ℕ) (x : NodeState Q) (id : CallId) → Sound m → node_at (world m) n ≡ Some x → (o : Option (CallState Q)) → open_call x id ≡ o → To m (turn_by (world m) n (alone (begun_again x o).node)).world
  unfolding called_again
  again_done m n x id f h None e = still_done m n x h
  again_done m n x id f h (Some c) e =
      let i = (found m n x id (f.names n) h c e).0 in
      node_done m n x (λ x. called_again x c) h (agains c i refl) (keeps_again (at m n) c (f.numbered n).single i) (copies_same at m (at m n) (called_again (at m n) c) refl)

  -- one node altered its collection or its attempt
  alter_done : (m n : ℕ) (x : NodeState Q) (f : NodeState Q → NodeState Q) → node_at (world m) n ≡ Some x → Alters s x (f x) → To m (turn_by (world m) n (alone (f x))).world
  alter_done m n x f h a =
      let b : Alters s (at m n) (f (at m n)) = subst (λ x. Alters s x (f x)) (is_at m n x h) a in
      let k = altered_rest s (at m n) (f (at m n)) b in
      node_done m n x f h (alters b) (keeps_same (at m n) (f (at m n)) k.made k.calls) (copies_same at m (at m n) (f (at m n)) k.registers)

  move_done : (m n : ℕ) (x : NodeState Q) (g : CollectionState) → node_at (world m) n ≡ Some x → x.collection ≡ Some g → (move : GcMove) → move_of s x.map g ≡ Some move
      → To m (turn_by (world m) n (alone (collection_turned x g move).node)).world
  move_done m n x g h i Propagating e = alter_done m n x (λ x. collection_moved x g) h (seconds g i e refl)
  move_done m n x g h i Done e = alter_done m n x (λ x. collection_ended x g) h (finishes g i e refl)

  collection_done : (m n : ℕ) (x : NodeState Q) → node_at (world m) n ≡ Some x → (o : Option CollectionState) → x.collection ≡ o → (not (is_none o) && is_none (collection_turn s x o)) ≡ false
      → To m (turn_by (world m) n (alone (collection_advanced x o).node)).world
  collection_done m n x h None i e = still_done m n x h
  collection_done m n x h (Some g) i e =
      let r = some_there (move_of s x.map g) e in
      subst (λ move. To m (turn_by (world m) n (alone (collection_turned x g move).node)).world) (sym (same_move s x.map g r.0 r.1)) (move_done m n x g h i r.0 r.1)

  rebid_done : (m n : ℕ) (x : NodeState Q) → node_at (world m) n ≡ Some x → (o : Option (AttemptState Q)) → x.attempt ≡ o → not (is_for (end_of x.map) o) ≡ false → To m (turn_by (world m) n (alone (rebid_made x o).node)).world
  rebid_done m n x h None i e = still_done m n x h
  rebid_done m n x h (Some a) i e = alter_done m n x (λ x. attempt_rebid x a) h (rebids a i (eqb-true a.place (end_of x.map) (not-false (nat_eq a.place (end_of x.map)) e)) refl)

  bid_done : (m n : ℕ) (x : NodeState Q) (a : AttemptState Q) → node_at (world m) n ≡ Some x → IsBacked s x a → (g : paxos.Stage Q) → a.stage ≡ g → To m (turn_by (world m) n (alone (bid_made x a (bid_in g)).node)).world
  bid_done m n x a h b (attempt.Prepare told) e = alter_done m n x (λ x. attempt_moved x a) h (proposes a told b e refl)
  bid_done m n x a h b (attempt.Propose c) e = alter_done m n x (λ x. config_learnt x a c) h (chooses a c b e refl)

  attempt_done : (m n : ℕ) (x : NodeState Q) → node_at (world m) n ≡ Some x → (o : Option (AttemptState Q)) → x.attempt ≡ o → attempt_waits s x.map o ≡ false → To m (turn_by (world m) n (alone (attempt_advanced x o).node)).world
  attempt_done m n x h None i e = still_done m n x h
  attempt_done m n x h (Some a) i e =
      elim (pick (nat_lt a.place (end_of x.map)) (record { node = attempt_ended x; effect = decided x a (active_at x.map a.place) }) (bid_made x a (bid_of a))) [
        | inl p ↦ subst (λ made. To m (turn_by (world m) n (alone made.node)).world) (sym p.1) (alter_done m n x attempt_ended h (gives_up a i (ltb-true a.place (end_of x.map) p.0) refl))
        | inr p ↦ subst (λ made. To m (turn_by (world m) n (alone made.node)).world) (sym p.1) (bid_done m n x a h
            (record { is_open = i; place = ltb-false a.place (end_of x.map) p.0; quorum = neither_not (nat_lt a.place (end_of x.map)) (has_quorum s (active_at x.map (top_of x.map)) a.repliers) p.0 e }) a.stage refl)
      ]

  -- gossip that comes to n from j was told at some moment
  abbrev Told : ℕ → ℕ → ℕ → GossipState Q → Type 0
  Told m n j g = (u : ℕ) × (u ≤ m) × (1 ≤ j) × Came m n u j × (g ≡ gossip_for (at u j) n)

  hear_done : (m n j : ℕ) (k : Kind Q) → ((g : GossipState Q) → k ≡ kind.Gossip g → Told m n j g)
      → (x : NodeState Q) → node_at (world m) n ≡ Some x → To m (turn_by (world m) n (alone (heard_kind x j k))).world
  unfolding heard_join
  hear_done m n j kind.Join f x h = node_done m n x (λ x. heard_join x j) h (knows _ _ refl) (keeps_same (at m n) (heard_join (at m n) j) refl refl) (copies_same at m (at m n) (heard_join (at m n) j) refl)
  hear_done m n j (kind.Gossip g) f x h =
      let r = f g refl in
      node_done m n x (λ x. heard_gossip x j g) h
      (hears r.0 j r.1 r.2 (named_some (world m) n x h) r.3 (ap (heard_gossip (at m n) j) r.4))
      (keeps_hear (at m n) j g)
      (copies_heard at m r.0 j j (at m n) g r.1 (ap (λ g. g.copies) r.4))

  -- a letter that is delivered to n was told so
  abbrev Delivers : ℕ → ℕ → Act Q → Type 0
  Delivers m n (act.Hear l) = (g : GossipState Q) → l.kind ≡ kind.Gossip g → Told m n l.sender g
  Delivers m n _ = Unit {0}

  -- a quiet act of a node that isn't refused
  quiet_done : (m n : ℕ) (x : NodeState Q) (q : Quiet Q) → Sound m → node_at (world m) n ≡ Some x → AllClear (quiet_causes s x q) → To m (turn_by (world m) n (alone (quieted x q).node)).world
  unfolding joined_by stopped
  quiet_done m n x (quiet.Join contacts) f h e = node_done m n x (λ x. joined_by x contacts) h (knows _ _ refl) (keeps_same (at m n) (joined_by (at m n) contacts) refl refl) (copies_same at m (at m n) (joined_by (at m n) contacts) refl)
  quiet_done m n x (quiet.Again id) f h e = again_done m n x id f h (open_call x id) refl
  quiet_done m n x quiet.Collect f h e = alter_done m n x collection_opened h (collects (leb-false (length x.map.configs) 1 e.1.1.0) refl)
  quiet_done m n x quiet.AdvanceCollect f h e = collection_done m n x h x.collection refl e.1.1.0
  quiet_done m n x (quiet.Recon wish) f h e = alter_done m n x (λ x. attempt_opened x wish) h (opens wish refl)
  quiet_done m n x quiet.Rebid f h e = rebid_done m n x h x.attempt refl e.1.1.0
  quiet_done m n x quiet.AdvanceRecon f h e = attempt_done m n x h x.attempt refl e.1.1.0
  quiet_done m n x quiet.Stop f h e = node_done m n x stopped h (knows _ _ refl) (keeps_same (at m n) (stopped (at m n)) refl refl) (copies_same at m (at m n) (stopped (at m n)) refl)

  -- an act of a node that isn't refused
  act_done : (m n : ℕ) (x : NodeState Q) (a : Act Q) → Sound m → node_at (world m) n ≡ Some x → Delivers m n a → AllClear (node.causes s x a) → To m (turn_by (world m) n (made_by x a)).world
  unfolding made_by
  act_done m n x (act.Call o) f h d e = call_done m n o x (f.names n) h
  act_done m n x (act.Send to) f h d e = still_done m n x h
  act_done m n x (act.Hear l) f h d e = hear_done m n l.sender l.kind d x h
  act_done m n x (act.Advance id) f h d e = advance_done m n x id (f.names n) h (open_call x id) refl e.1.1.1.0
  act_done m n x (act.Quietly q) f h d e = quiet_done m n x q f h e

  at_done : (m n : ℕ) (c : Act Q) → Sound m → Delivers m n c → (o : Option (NodeState Q)) → node_at (world m) n ≡ o → AllClear (causes_at s o c) → To m (turn_at (world m) n o c).world
  at_done m n c f d None h e = t_still refl
  at_done m n c f d (Some x) h e = act_done m n x c f h d e

  abbrev Means : ℕ → Option (Meant Q) → Type 0
  Means m None = Unit {0}
  Means m (Some a) = Delivers m a.name a.act

  meant_done : (m : ℕ) → Sound m → (o : Option (Meant Q)) → Means m o → AllClear (causes_of s (world m) o) → To m (turn_of (world m) o).world
  meant_done m f None d e = t_still refl
  meant_done m f (Some a) d e = at_done m a.name a.act f d (node_at (world m) a.name) refl e

  pub kind_told : (g : GossipState Q) (x : NodeState Q) (to : ℕ) (b : Bool) → (if b then kind.Gossip (gossip_for x to) else kind.Join) ≡ kind.Gossip g → (b ≡ true) × (g ≡ gossip_for x to)
  kind_told g x to true e = (refl, sym (ap (gossip_in g) e))
  kind_told g x to false e = absurd (true≢false (sym (ap is_gossip e)))

  letter_told : (m i : ℕ) (l : LetterState Q) → letter_at (world m).letters i ≡ Some l → LetterFrom m i l → Happens m (step.Deliver i) → Delivers m l.addressee (act.Hear l)
  letter_told m i l e f h g q =
      let x = at f.moment f.sender in
      let k = kind_told g x f.addressee (is_active x.status) (ap (λ l. l.kind) f.content ∙ q) in
      let told : Told m f.addressee f.sender g =
      (f.moment, omega (arith, f.before), f.sent.there, record { letter = i; sent = f.sent; later = f.before; comes = h; content = e ∙ ap Some (sym f.content); active = k.0 }, k.1) in
      let sender : f.sender ≡ l.sender = sym f.sent.named ∙ ap (λ l. l.sender) f.content in
      let addressee : f.addressee ≡ l.addressee = ap (λ l. l.addressee) f.content in
      subst (λ j. Told m l.addressee j g) sender (subst (λ n. Told m n f.sender g) addressee told)

  delivery_means : (m i : ℕ) → Sound m → Happens m (step.Deliver i) → (o : Option (LetterState Q)) → letter_at (world m).letters i ≡ o → Means m (delivery o)
  delivery_means m i f h None e = tt
  delivery_means m i f h (Some l) e = letter_told m i l e (f.letters i l e) h

  step_means : (m : ℕ) → Sound m → (st : Step Q) → Happens m st → Means m (meant (world m) st)
  step_means m f (step.Deliver i) h = delivery_means m i f h (letter_at (world m).letters i) refl
  step_means m f _ h = tt

  -- each step that isn't refused is a turn
  turn_seen : (m : ℕ) → Sound m → (st : Step Q) → Happens m st → AllClear (causes s (world m) st) → To m (turn (world m) st).world
  unfolding turn causes
  turn_seen m f st h e = meant_done m f (meant (world m) st) (step_means m f st h) e

  none_clear : (m : ℕ) (st : Step Q) → refusal s (world m) st ≡ None → AllClear (causes s (world m) st)
  unfolding refusal
  none_clear m st e = clear (causes s (world m) st) e

  pub step_of : (m : ℕ) → Sound m → WorldTurn s Came at m (view m) (view (suc m))
  step_of m f = elim (worlds.next m) [
    | inl e ↦ t_still (ap (seen s founders) e)
    | inr r ↦ subst (λ w. To m w) (sym r.2) (turn_seen m f r.0 (r.3, r.1) (none_clear m r.0 r.1))
  ]
